use Rattle.std.proofs.Common.{◌≡◌, take}
use Rattle.certificates.proofs.changes.copies.Given as goal

abbrev pub invariant-copying : goal.invariant-copying
invariant-copying l = l.made ≡ take l.triple-index l.triples
