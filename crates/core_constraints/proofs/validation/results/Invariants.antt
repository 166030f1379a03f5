use Rattle.std.proofs.Common.{◌*◌, ◌-◌}
use Rattle.core_constraints.specs.Findings.{IsTruthful}
use Rattle.core_constraints.proofs.ValidationLaws.{IsValidated, shape_count, node_count}
use Rattle.core_constraints.proofs.validation.results.Given as goal

abbrev pub invariant-validating : goal.invariant-validating
invariant-validating l = record {
  validated : IsValidated l.input l.validations.keys l.rows l.next;
  truthful : IsTruthful l.input l.memo;
}

abbrev pub decreases-validating : goal.decreases-validating
decreases-validating l = shape_count l.input * node_count l.input - l.next
