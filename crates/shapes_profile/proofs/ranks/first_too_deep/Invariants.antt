use Rattle.shapes_profile.specs.Shapes.{shape_terms}
use Rattle.shapes_profile.specs.Profile.{IsShapeTooDeep}
use Rattle.shapes_profile.proofs.Firsts.{NoneBelow}
use Rattle.shapes_profile.proofs.ranks.first_too_deep.Given as goal

abbrev pub invariant-seeking : goal.invariant-seeking
invariant-seeking l = NoneBelow (IsShapeTooDeep l.shapes) (shape_terms l.shapes) l.number
