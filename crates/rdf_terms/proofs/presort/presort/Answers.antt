use Rattle.std.proofs.lemmas.List.Sorted.{IsPermutation-trans}
use Rattle.rdf_terms.proofs.presort.presort.Goals as goal

pub returns : goal.returns
returns c = IsPermutation-trans _ _ _ c.gather.ensures c.sort_shared_heads.ensures
