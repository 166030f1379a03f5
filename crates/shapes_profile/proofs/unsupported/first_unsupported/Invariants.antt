use Rattle.shapes_profile.specs.Profile.{predicates, IsUnsupported}
use Rattle.shapes_profile.proofs.Firsts.{NoneBelow}
use Rattle.shapes_profile.proofs.unsupported.first_unsupported.Given as goal

abbrev pub invariant-seeking : goal.invariant-seeking
invariant-seeking l = NoneBelow IsUnsupported (predicates l.graph) l.triple-index
