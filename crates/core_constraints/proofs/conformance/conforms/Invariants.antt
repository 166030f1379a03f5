use Rattle.std.proofs.Common.{ℕ, ◌<◌}
use Rattle.core_constraints.specs.Findings.{IsTruthful}
use Rattle.core_constraints.proofs.Conformed.{IsMet}
use Rattle.core_constraints.proofs.conformance.conforms.Given as goal

abbrev pub invariant-shapes : goal.invariant-shapes
invariant-shapes l = IsTruthful l.input l.memo × ((n : ℕ) → n < l.shape → IsMet l.input n)
