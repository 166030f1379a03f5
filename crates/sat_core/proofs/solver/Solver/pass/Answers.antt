use Rattle.std.proofs.Common.{rules, arith, subst, refl, ◌≡◌, List, Some, slice_get, true, length-append, ◌∷◌, []}
use Rattle.clause_store.specs.declared.lit.Lit.{Lit}
use Rattle.clause_store.specs.Clauses.{has}
use Rattle.clause_store.proofs.Sets.{never}
use Rattle.sat_core.specs.Scanned.{IsScan}
use Rattle.sat_core.specs.Solving.{assigned}
use Rattle.sat_core.proofs.Entries.{quiet_more, quiet_all, false_list, grown_trans}
use Rattle.sat_core.proofs.solver.Solver.pass.Goals.{in-Other, in-Unit+in_ok-imply-in-Unit}
use Rattle.sat_core.proofs.solver.Solver.pass.Goals as goal

pub returns-in-False-clause-passed : goal.returns-in-False-clause-passed
returns-in-False-clause-passed g c =
    let h = subst (λ r. (x : List Lit) × (slice_get c.loop-i.self.clauses c.loop-i.i ≡ Some x) × IsScan (has (assigned c.loop-i.self)) x r) c.in-False.is c.look.ensures in
    (h.0, h.1, false_list (assigned c.loop-i.self) h.0 h.2)

pub loop-i-preserved : goal.loop-i-preserved
loop-i-preserved g c =
    elim c.match-look.branch [
      | in-Other w ↦
          let h = subst (λ r. (x : List Lit) × (slice_get c.loop-i.self.clauses c.loop-i.i ≡ Some x) × IsScan (has (assigned c.loop-i.self)) x r) w.in-Other.is c.look.ensures in
          rw (w.self-is, w.changed-is) (record {
            grown = c.loop-i.invariant.grown;
            more = c.loop-i.invariant.more;
            quiet = λ f. quiet_more (assigned c.loop-i.self) c.loop-i.self.clauses c.loop-i.i h.0 (c.loop-i.invariant.quiet f) h.1 h.2;
          })
      | in-Unit+in_ok-imply-in-Unit w ↦
          let e = w.in_ok-imply-in-Unit.ensures.trail in
          let p = c.loop-i.invariant.grown.longer in
          let len = length-append c.loop-i.self.trail (record { lit = w.in-Unit.lit; reason = Some c.loop-i.i } ∷ []) in
          rw (w.self-is, w.changed-is) (record {
            grown = grown_trans _ _ _ c.loop-i.invariant.grown w.imply.ensures.grown;
            more = λ _. (rw e (omega (arith, p, len)), w.imply.ensures.room);
            quiet = λ f. never {b = true} refl f;
          })
    ]

pub returns-else-changed-clause-passed : goal.returns-else-changed-clause-passed
returns-else-changed-clause-passed g c =
    quiet_all (assigned c.loop-i.self) c.loop-i.self.clauses c.loop-i.i (search rules) (c.loop-i.invariant.quiet c.if-changed.false)
