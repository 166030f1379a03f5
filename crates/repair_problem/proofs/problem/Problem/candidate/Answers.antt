use Rattle.std.proofs.Common.{◌≡◌, ◌<◌, length, Some, slice_get, sym, subst}
use Rattle.repair_problem.specs.Setting.{Setting, setting}
use Rattle.repair_problem.specs.Candidates.{candidates}
use Rattle.repair_problem.proofs.CandidateLaws.{candidate_low}
use Rattle.repair_problem.proofs.ProblemLaws.{offer_within, offer_listed}
use Rattle.repair_problem.proofs.problem.Problem.candidate.Goals as goal

pub nth-requires-else-t-count : goal.nth-requires-else-t-count
nth-requires-else-t-count c =
    let v = c.self.inside in
    let l = subst (λ (u : Setting). c.args.t < length (candidates u)) (sym c.self.view_is) c.requires in
    offer_within (setting v.shapes v.present v.offers) c.args.t c.len-count.result c.len-count.ensures l c.if-t-count.false

pub returns-then-t-count : goal.returns-then-t-count
returns-then-t-count c =
    let v = c.self.inside in
    let t = c.nth.result.now in
    subst (λ (u : Setting). slice_get (candidates u) c.args.t ≡ Some t) c.self.view_is
    (candidate_low (setting v.shapes v.present v.offers) c.args.t t c.nth.ensures)

pub returns-else-t-count : goal.returns-else-t-count
returns-else-t-count c =
    let v = c.self.inside in
    let t = c.nth-else-t-count.result.now in
    subst (λ (u : Setting). slice_get (candidates u) c.args.t ≡ Some t) c.self.view_is
    (offer_listed (setting v.shapes v.present v.offers) c.args.t c.len-count.result c.len-count.ensures t c.if-t-count.false c.nth-else-t-count.ensures)
