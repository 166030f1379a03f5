-- The test of two validations is that of equality.
use Rattle.std.specs.Cmp.{IsEquivalence}
use Rattle.std.proofs.Common.{rules}
use Rattle.core_constraints.specs.Findings.{same_validation}

pub validation_laws : IsEquivalence same_validation
validation_laws = search rules
