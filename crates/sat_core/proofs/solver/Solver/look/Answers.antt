use Rattle.std.proofs.Common.{subst, ap, ◌∙◌, ◌≡◌, List, Some, length, slice_get}
use Rattle.clause_store.specs.declared.lit.Lit.{Lit}
use Rattle.clause_store.specs.Clauses.{has}
use Rattle.literal_signs.specs.Marked.{marked_set}
use Rattle.clause_store.proofs.Sets.{within_get}
use Rattle.sat_core.specs.Scanned.{IsScan}
use Rattle.sat_core.specs.Solving.{assigned}
use Rattle.sat_core.proofs.solver.Solver.look.Goals as goal

pub scan_clause-requires-clause-below : goal.scan_clause-requires-clause-below
scan_clause-requires-clause-below g c =
    rw c.as_slice.ensures.value (within_get (length c.self.inside.signs.items) (g.S.ClauseStore.clauses c.self.inside.store) c.args.i c.clause.result.now c.self.invariant.below c.clause.ensures.here)

pub returns : goal.returns
returns g c =
    subst (λ s. (x : List Lit) × (slice_get s.clauses c.args.i ≡ Some x) × IsScan (has (assigned s)) x c.scan_clause.result) c.self.view_is
    (c.clause.result.now, c.clause.ensures.here, subst (λ a. IsScan a c.clause.result.now c.scan_clause.result) (ap marked_set c.as_slice.ensures.value ∙ c.self.invariant.marks) c.scan_clause.ensures)
