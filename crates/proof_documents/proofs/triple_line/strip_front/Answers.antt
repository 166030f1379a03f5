use Rattle.std.proofs.lemmas.Bool.Decides.{Decides-eqb}
use Rattle.std.proofs.lemmas.Slice.Eq.{strip_prefix_is}
use Rattle.proof_documents.proofs.TripleLines.{found_behind, none_behind}
use Rattle.proof_documents.proofs.triple_line.strip_front.Goals as goal

pub returns-clause-found : goal.returns-clause-found
returns-clause-found c = rw (← c.as_bytes.ensures.value) (found_behind c.as_bytes.result.now c.args.text.now c.strip_prefix.result (strip_prefix_is Decides-eqb _ _ _ c.strip_prefix.ensures.cases))

pub returns-clause-none : goal.returns-clause-none
returns-clause-none c = rw (← c.as_bytes.ensures.value) (none_behind c.as_bytes.result.now c.args.text.now c.strip_prefix.result (strip_prefix_is Decides-eqb _ _ _ c.strip_prefix.ensures.cases))
