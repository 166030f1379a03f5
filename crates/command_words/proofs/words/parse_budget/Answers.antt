use Rattle.std.proofs.Common.{sym, arith}
use Rattle.command_words.proofs.Budgets.{spells_budget, spells_other}
use Rattle.command_words.proofs.words.parse_budget.Goals as goal

pub returns-in-Some-clause-value : goal.returns-in-Some-clause-value
returns-in-Some-clause-value c =
    sym (spells_budget c.args.text.now c.in-Some.n c.in-Some.ensures c.if-n-gt0.true (omega (arith, c.if-n-le-GREATEST_BUDGET.true)))

pub returns-in_default-clause-value : goal.returns-in_default-clause-value
returns-in_default-clause-value c =
    sym (spells_other c.args.text.now c.in-Some.n (omega arith) c.in-Some.ensures (λ some below. omega (arith, c.if-n-le-GREATEST_BUDGET.false)))

pub returns-in_default-2-clause-value : goal.returns-in_default-2-clause-value
returns-in_default-2-clause-value c =
    sym (spells_other c.args.text.now c.in-Some.n (omega arith) c.in-Some.ensures (λ some below. omega (arith, c.if-n-gt0.false)))
