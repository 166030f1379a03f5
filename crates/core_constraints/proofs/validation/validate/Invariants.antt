use Rattle.std.proofs.Common.{take, Contains}
use Rattle.core_constraints.specs.Findings.{shapes_of, term_of, IsTruthful}
use Rattle.core_constraints.specs.RowLists.{Gains}
use Rattle.core_constraints.specs.Validations.{Adds, IsNested, IsRowAt}
use Rattle.core_constraints.proofs.ValidationLaws.{OfSome}
use Rattle.core_constraints.proofs.validation.validate.Given as goal

abbrev pub invariant-places : goal.invariant-places
invariant-places l = record {
  rows_gained : Gains l.initial.rows (λ r. OfSome (take l.place-index l.place-items) (λ q. IsRowAt l.input q (term_of l.input l.node) r)) l.rows;
  added : Adds l.initial.validations.keys l.validations.keys (λ v. OfSome (take l.place-index l.place-items) (λ q. IsNested (shapes_of l.input) q v.shape × Contains l.values.items v.node));
  truthful : IsTruthful l.input l.memo;
}
