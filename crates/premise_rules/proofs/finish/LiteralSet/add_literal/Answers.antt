use Rattle.std.proofs.Common.{not, sym, ap, ◌∙◌, subst}
use Rattle.std.specs.HashMap.{get}
use Rattle.repair_problem.specs.contracts.atom.AtomPartialEq.TheImpl.{eq-value}
use Rattle.count_encode.specs.PartTruth.{opposite}
use Rattle.premise_rules.specs.LiteralSets.{AreSigns}
use Rattle.premise_rules.proofs.DistinctLiterals.{signs_more, among_missing, found_value, found_there, missing_added, of_values, to_values}
use Rattle.premise_rules.proofs.finish.LiteralSet.add_literal.Goals as goal

pub returns-in-Some-clause-value : goal.returns-in-Some-clause-value
returns-in-Some-clause-value c =
    let s = c.args.self.now in
    found_value s.list (get eq-value.it s.signs) (of_values s.list (λ E. get E s.signs) c.requires) c.args.literal c.in-Some.sign.now (sym c.in-Some.ensures.value)

pub returns-in-Some-clause-list : goal.returns-in-Some-clause-list
returns-in-Some-clause-list c =
    let s = c.args.self.now in
    found_there s.list (get eq-value.it s.signs) (of_values s.list (λ E. get E s.signs) c.requires) c.args.literal c.in-Some.sign.now (sym c.in-Some.ensures.value)

pub returns-in_ok-insert-in-None-clause-value : goal.returns-in_ok-insert-in-None-clause-value
returns-in_ok-insert-in-None-clause-value c =
    let s = c.args.self.now in
    sym (ap not (among_missing s.list (get eq-value.it s.signs) (of_values s.list (λ E. get E s.signs) c.requires) (opposite c.args.literal) (sym c.in-None.ensures.value)))

pub returns-in_ok-insert-in-None-clause-list : goal.returns-in_ok-insert-in-None-clause-list
returns-in_ok-insert-in-None-clause-list c =
    let s = c.args.self.now in
    λ h. c.in_ok-push-in-None.ensures.ok ∙ missing_added s.list (get eq-value.it s.signs) (of_values s.list (λ E. get E s.signs) c.requires) c.args.literal (sym c.in-None.ensures.value)

pub returns-in_ok-insert-in-None-clause-signs : goal.returns-in_ok-insert-in-None-clause-signs
returns-in_ok-insert-in-None-clause-signs c =
    let s = c.args.self.now in
    let u = c.in_ok-insert-in-None.ensures.updates in
    to_values c.push.new.self (λ E. get E c.insert.new.self)
    (subst (λ ls. AreSigns ls (get eq-value.it c.insert.new.self)) (sym c.in_ok-push-in-None.ensures.ok)
    (signs_more s.list (get eq-value.it s.signs) (get eq-value.it c.insert.new.self) c.args.literal (of_values s.list (λ E. get E s.signs) c.requires) (sym c.in-None.ensures.value) u.1 (λ q apart. u.2 q apart)))
