use Rattle.shapes_profile.specs.Shapes.{shape_terms}
use Rattle.shapes_profile.specs.IllFormed.{IsIllFormed}
use Rattle.shapes_profile.proofs.Firsts.{NoneBelow}
use Rattle.shapes_profile.proofs.ill_formed.first_ill_formed.Given as goal

abbrev pub invariant-seeking : goal.invariant-seeking
invariant-seeking l = NoneBelow (IsIllFormed l.shapes) (shape_terms l.shapes) l.shape-index
