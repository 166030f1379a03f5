use Rattle.std.proofs.Common.{[], ◌∷◌}
use Rattle.std.proofs.lemmas.Bool.Decides.{Decides-eqb}
use Rattle.std.proofs.lemmas.Slice.Eq.{strip_suffix_is}
use Rattle.proof_documents.proofs.TripleLines.{same_at_end}
use Rattle.proof_documents.proofs.triple_line.is_line_of.Goals as goal

pub returns : goal.returns
returns c = same_at_end c.args.bytes.now c.strip_suffix.result c.args.text c.eq.result (strip_suffix_is Decides-eqb c.args.bytes.now (10 ∷ []) c.strip_suffix.result c.strip_suffix.ensures.cases) c.eq.ensures
