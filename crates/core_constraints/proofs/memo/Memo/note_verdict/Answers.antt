use Rattle.std.specs.HashMap.{get}
use Rattle.core_constraints.specs.Findings.{same_validation}
use Rattle.core_constraints.proofs.MemoLaws.{same_is, noted}
use Rattle.core_constraints.proofs.memo.Memo.note_verdict.Goals as goal

pub returns-clause-verdicts : goal.returns-clause-verdicts
returns-clause-verdicts c =
    let u = c.in_ok-insert.ensures.updates in
    noted same_validation same_is (get same_validation c.args.self.now.verdicts) (get same_validation c.insert.new.self) c.args.validation c.args.verdict u.1 (λ q apart. u.2 q apart)

pub returns-clause-noted : goal.returns-clause-noted
returns-clause-noted c = c.in_ok-insert.ensures.updates.1
