use Rattle.std.proofs.Common.{ap, ◌∙◌, subst}
use Rattle.shapes_profile.specs.Profile.{IsInProfile}
use Rattle.repair_problem.specs.Repair.{Apart}
use Rattle.repair_problem.specs.Setting.{Setting}
use Rattle.premise_rules.proofs.PremiseLaws.{premises, answered_same}
use Rattle.premise_rules.proofs.rules.PremiseRules.clause_of.Goals as goal

pub returns-clause-holds : goal.returns-clause-holds
returns-clause-holds c =
    let s = c.args.self.now in
    let rule = c.args.rule.now in
    let profile : IsInProfile s.shapes = subst IsInProfile (c.shapes-shapes.ensures ∙ ap (λ (t : Setting). t.shapes) c.problem-problem.ensures) c.triples-triples.ensures.profile in
    let apart : Apart s.present s.offers = subst (λ (t : Setting). Apart t.present t.offers) c.problem-problem.ensures c.offers-offers.ensures.apart in
    premises s profile apart c.args.chain.now c.requires rule.name rule.numbers c.rule_answer.result (answered_same c.self.view_is c.as_slice.ensures rule.name rule.numbers c.rule_answer.result c.rule_answer.ensures.value)
