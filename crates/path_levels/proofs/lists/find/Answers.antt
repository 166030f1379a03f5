use Rattle.std.proofs.Common.{sym, ◌∙◌}
use Rattle.std.specs.HashMap.{get}
use Rattle.std.proofs.lemmas.Result.{IfOk-weaker}
use Rattle.path_levels.specs.Lists.{same_start}
use Rattle.path_levels.proofs.ListLaws.{lists_more}
use Rattle.path_levels.proofs.lists.find.Goals as goal

pub returns-in-Some-clause-value : goal.returns-in-Some-clause-value
returns-in-Some-clause-value c =
    IfOk-weaker c.copy.result _ _ (λ n e. e ∙ c.requires.lists c.args.start c.in-Some.numbers.now (sym c.in-Some.ensures.value)) c.copy.ensures

pub returns-clause-lists : goal.returns-clause-lists
returns-clause-lists c =
    let u = c.in_ok-insert.ensures.updates in
    lists_more c.args.problem.now (λ k. get same_start c.args.lists.now k) (λ k. get same_start c.insert.new.self k) c.args.start c.in_ok-kept.kept c.requires.lists (c.in_ok-kept.ensures ∙ c.in_ok-numbers.ensures) u.1 (λ q apart. u.2 q apart)
