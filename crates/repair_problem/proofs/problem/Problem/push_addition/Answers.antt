use Rattle.std.proofs.Common.{◌≡◌, ◌<◌, [], ◌++◌, length, refl, sym, subst}
use Rattle.std.specs.List.{cons_option}
use Rattle.repair_problem.specs.Setting.{Setting, setting}
use Rattle.repair_problem.specs.Candidates.{candidates, addition_at}
use Rattle.repair_problem.proofs.ProblemLaws.{offer_within, offer_pushed, no_offer_pushed}
use Rattle.repair_problem.proofs.problem.Problem.push_addition.Goals as goal

pub nth-requires : goal.nth-requires
nth-requires c =
    let v = c.self.inside in
    let l = subst (λ (u : Setting). c.args.t < length (candidates u)) (sym c.self.view_is) c.requires in
    offer_within (setting v.shapes v.present v.offers) c.args.t c.len-count.result c.len-count.ensures l c.if-t-count.true

pub returns-in_ok-push : goal.returns-in_ok-push
returns-in_ok-push c =
    let v = c.self.inside in
    subst (λ (u : Setting). c.push.new.self ≡ c.args.added.now ++ cons_option (addition_at u c.args.t) []) c.self.view_is
    (offer_pushed (setting v.shapes v.present v.offers) c.args.t c.len-count.result c.len-count.ensures c.args.added.now c.push.new.self c.in_ok-copy.field-0 c.nth.result.now c.if-t-count.true c.nth.ensures c.in_ok-copy.ensures c.in_ok-push.ensures.ok)

pub returns-else-t-count : goal.returns-else-t-count
returns-else-t-count c =
    let v = c.self.inside in
    subst (λ (u : Setting). c.args.added.now ≡ c.args.added.now ++ cons_option (addition_at u c.args.t) []) c.self.view_is
    (no_offer_pushed (setting v.shapes v.present v.offers) c.args.t c.len-count.result c.len-count.ensures c.args.added.now c.args.added.now c.if-t-count.false refl)
