use Rattle.std.proofs.Common.{◌≡◌, sym, ◌∙◌}
use Rattle.std.proofs.lemmas.Result.{IfOk-weaker}
use Rattle.path_levels.specs.PossibleNodes.{possible, ArePossible}
use Rattle.path_levels.proofs.Possibility.{possible_are}
use Rattle.path_levels.proofs.lists.PossibleNodes.numbers.Goals as goal

pub returns-in-Some-clause-exact : goal.returns-in-Some-clause-exact
returns-in-Some-clause-exact c =
    let s = c.args.self.now in
    let start = c.in-Some.start in
    let found = c.in-Some.ensures.some in
    let same : possible c.self.inside.problem.now start.path start.node ≡ possible s c.args.p c.args.x = (λ j. possible (c.self.view_is j) (found.0 j) (found.1 j)) in
    IfOk-weaker c.find.result _ (λ ys. ArePossible s c.args.p c.args.x ys) (λ ys e. possible_are s c.args.p c.args.x ys (e ∙ same)) c.find.ensures.value

pub returns-in-None-clause-exact : goal.returns-in-None-clause-exact
returns-in-None-clause-exact c =
    let s = c.args.self.now in
    IfOk-weaker c.from_vec.result _ (λ ys. ArePossible s c.args.p c.args.x ys) (λ ys e. possible_are s c.args.p c.args.x ys (e ∙ (c.new.ensures.items ∙ sym c.in-None.ensures.none))) c.from_vec.ensures
