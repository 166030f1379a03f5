use Rattle.std.proofs.Common.{◌≡◌, take}
use Rattle.proof_documents.proofs.apply.copies.Given as goal

abbrev pub invariant-copying : goal.invariant-copying
invariant-copying l = l.made ≡ take l.triple-index l.triples
