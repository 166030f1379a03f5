use Rattle.std.proofs.Common.{◌≤◌, IsTrue, length, sym, ap, ◌∙◌, subst, arith}
use Rattle.clause_store.specs.Clauses.{is_clause, is_within}
use Rattle.atom_numbers.specs.Numbers.{clause_of, AreOnce}
use Rattle.atom_numbers.proofs.Clauses.{once_clause, lines_pushed}
use Rattle.certificates.proofs.Kept.{ready_pushed}
use Rattle.certificates.proofs.checker.Checker.push_premise.Goals as goal

pub number_clause-requires : goal.number_clause-requires
number_clause-requires g c = c.requires.ready.apart

pub push-requires : goal.push-requires
push-requires g c = subst (λ x. IsTrue (is_clause x)) (sym c.as_slice.ensures) (once_clause c.number_clause.new.atoms.keys c.in_ok-clause.clause (subst AreOnce (sym c.in_ok-clause.ensures.value) c.requires.once))

pub returns-clause-lines : goal.returns-clause-lines
returns-clause-lines g c =
    lines_pushed c.args.self.now.chain c.args.self.now.atoms.keys c.number_clause.new.atoms.keys (g.S.ClauseStore.clauses c.args.self.now.store) (g.S.ClauseStore.clauses c.push.new.self) c.as_slice.result.now c.args.literals.now c.in_ok-clause.ensures.grown c.requires.ready.within
    (ap (clause_of c.number_clause.new.atoms.keys) c.as_slice.ensures ∙ c.in_ok-clause.ensures.value) c.in_ok-push.ensures.added

pub returns-clause-ready : goal.returns-clause-ready
returns-clause-ready g c =
    let k = c.in_ok-reserve.ensures.ok in
    let n = c.len.ensures.len in
    let le : length c.number_clause.new.atoms.keys ≤ c.reserve.new.self = omega (arith, k, n) in
    ready_pushed c.args.self.now.rules c.args.self.now.chain c.args.self.now.atoms.keys c.number_clause.new.atoms.keys (g.S.ClauseStore.clauses c.args.self.now.store) (g.S.ClauseStore.clauses c.push.new.self) c.as_slice.result.now c.args.self.now.marks c.reserve.new.self c.requires.ready
    c.in_ok-clause.ensures.grown c.in_ok-clause.ensures.apart (subst (λ x. IsTrue (is_within (length c.number_clause.new.atoms.keys) x)) (sym c.as_slice.ensures) c.in_ok-clause.ensures.within) le c.in_ok-push.ensures.added
