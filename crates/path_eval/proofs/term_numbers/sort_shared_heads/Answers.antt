use Rattle.std.proofs.lemmas.List.Sorted.{IsPermutation-trans, IsPermutation-put_mid}
use Rattle.path_eval.proofs.term_numbers.sort_shared_heads.Goals as goal

pub stretches-preserved : goal.stretches-preserved
stretches-preserved c = IsPermutation-trans _ _ _ c.stretches.invariant (IsPermutation-put_mid _ _ _ _ c.sort_stretch.ensures)
