use Rattle.certificates.proofs.Kept.{rule_once}
use Rattle.certificates.proofs.Answered.{premise_refused}
use Rattle.certificates.proofs.checker.premise.Goals as goal

pub returns-in-Ok-clause-once : goal.returns-in-Ok-clause-once
returns-in-Ok-clause-once c = rule_once c.args.rules.now c.args.chain.now c.args.rule.now.name c.args.rule.now.numbers c.in-Ok.literals c.in-Ok.ensures.value

pub returns-in-Err-clause-err : goal.returns-in-Err-clause-err
returns-in-Err-clause-err c = premise_refused c.args.rules.now c.args.chain.now c.args.rule.now c.in-Err.refusal c.refused_rule.result c.in-Err.ensures.value c.refused_rule.ensures
