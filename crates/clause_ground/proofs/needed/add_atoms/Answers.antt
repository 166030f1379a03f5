use Rattle.std.proofs.Common.{◌≡◌, ◌<◌, ◌≤◌, length, sym, ap, ◌∙◌, subst, arith}
use Rattle.repair_problem.specs.Setting.{Setting}
use Rattle.clause_ground.specs.Growth.{Grows, IsMade, found}
use Rattle.clause_ground.specs.Premises.{rules_of}
use Rattle.clause_ground.proofs.Working.{grows_more, closed_next}
use Rattle.clause_ground.proofs.needed.add_atoms.Goals as goal

pub working-preserved : goal.working-preserved
working-preserved c =
    let s = c.args.rules.now in
    let first = found c.args.ground.now.premises c.args.ground.now.atoms.keys in
    let old = found c.working.ground.premises c.working.ground.atoms.keys in
    let new = found c.add_atom.new.ground.premises c.add_atom.new.ground.atoms.keys in
    let e : c.working.rules ≡ s = c.working.invariant.same in
    let g : Grows s old new = subst (λ (x : Setting). Grows x old new) e c.in_ok-add_atom.ensures.grows in
    let made : IsMade s c.working.ground.atoms.keys c.working.next (rules_of c.add_atom.new.ground.premises) = subst (λ (x : Setting). IsMade x c.working.ground.atoms.keys c.working.next (rules_of c.add_atom.new.ground.premises)) e c.in_ok-add_atom.ensures.made in
    let lt : c.working.next < length c.working.ground.atoms.keys = subst (λ n. c.working.next < n) c.atom_count.ensures c.working-test.true in
    record {
      grows = grows_more s first old new c.working.invariant.grows g;
      closed = closed_next s c.working.next old new g lt c.working.invariant.closed made;
      same = c.in_ok-add_atom.ensures.same ∙ e;
    }

pub returns-clause-closed : goal.returns-clause-closed
returns-clause-closed c = λ v lt a h q r.
    let le : length c.working.ground.atoms.keys ≤ c.working.next = subst (λ n. n ≤ c.working.next) c.atom_count.ensures c.working-test.false in
    c.working.invariant.closed v (omega (arith, lt, le)) a h q r
