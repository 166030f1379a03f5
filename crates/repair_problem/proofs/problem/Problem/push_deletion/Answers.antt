use Rattle.std.proofs.Common.{◌≡◌, [], ◌++◌, refl, subst}
use Rattle.std.specs.List.{cons_option}
use Rattle.repair_problem.specs.Setting.{Setting, setting}
use Rattle.repair_problem.specs.Candidates.{deletion_at}
use Rattle.repair_problem.proofs.ProblemLaws.{one_deleted, none_deleted}
use Rattle.repair_problem.proofs.problem.Problem.push_deletion.Goals as goal

pub returns-in_ok-push : goal.returns-in_ok-push
returns-in_ok-push c =
    let v = c.self.inside in
    subst (λ (u : Setting). c.push.new.self ≡ c.args.deleted.now ++ cons_option (deletion_at u c.args.t) []) c.self.view_is
    (one_deleted (setting v.shapes v.present v.offers) c.args.t c.args.deleted.now c.push.new.self c.in_ok-copy.field-0 c.nth.result.now c.nth.ensures c.in_ok-copy.ensures c.in_ok-push.ensures.ok)

pub returns-else-t-len : goal.returns-else-t-len
returns-else-t-len c =
    let v = c.self.inside in
    subst (λ (u : Setting). c.args.deleted.now ≡ c.args.deleted.now ++ cons_option (deletion_at u c.args.t) []) c.self.view_is
    (none_deleted (setting v.shapes v.present v.offers) c.args.t c.len.result c.len.ensures c.args.deleted.now c.args.deleted.now c.if-t-len.false refl)
