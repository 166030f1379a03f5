use Rattle.std.proofs.Common.{inl, sym, subst}
use Rattle.repair_problem.specs.Setting.{Setting}
use Rattle.certificates.specs.Checks.{AreChangesThere, IsVerdict}
use Rattle.certificates.proofs.check.judge.Goals as goal

pub returns-in-Some : goal.returns-in-Some
returns-in-Some g c = inl c.in-Some.ensures

pub judge_lines-requires-clause-there : goal.judge_lines-requires-clause-there
judge_lines-requires-clause-there g c = subst (λ (u : Setting). AreChangesThere u c.args.text.now) (sym c.in-Ok.ensures.problem) c.in_default.ensures

pub returns-in-Ok : goal.returns-in-Ok
returns-in-Ok g c = subst (λ (u : Setting). IsVerdict u c.args.text.now c.judge_lines.result) c.in-Ok.ensures.problem c.judge_lines.ensures
