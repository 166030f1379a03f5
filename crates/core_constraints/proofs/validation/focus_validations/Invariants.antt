use Rattle.core_constraints.proofs.ValidationLaws.{AreFocusedBefore}
use Rattle.core_constraints.proofs.validation.focus_validations.Given as goal

abbrev pub invariant-shapes : goal.invariant-shapes
invariant-shapes l = AreFocusedBefore l.input l.shape l.validations.keys
