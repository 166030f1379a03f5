use Rattle.std.proofs.Common.{sym, subst}
use Rattle.atom_numbers.specs.Numbers.{lines_of}
use Rattle.certificates.specs.Checker.{IsReady}
use Rattle.certificates.proofs.Kept.{step_short, room_for, step_leads, step_ready}
use Rattle.certificates.proofs.Answered.{step_refused_line}
use Rattle.certificates.proofs.checker.Checker.check_ids.Goals as goal

pub returns-then-ids-lt-FEWEST_IDS-clause-checked : goal.returns-then-ids-lt-FEWEST_IDS-clause-checked
returns-then-ids-lt-FEWEST_IDS-clause-checked g c = step_short (lines_of c.args.self.now.chain c.args.self.now.atoms.keys (g.S.ClauseStore.clauses c.args.self.now.store)).clauses c.args.ids.now c.if-ids-lt-FEWEST_IDS.true

pub check_step-requires-clause-reserved : goal.check_step-requires-clause-reserved
check_step-requires-clause-reserved g c = room_for c.args.self.now.rules c.args.self.now.chain c.args.self.now.atoms.keys (g.S.ClauseStore.clauses c.args.self.now.store) c.args.self.now.marks c.requires

pub returns-in-Ok-clause-checked : goal.returns-in-Ok-clause-checked
returns-in-Ok-clause-checked g c =
    step_leads c.args.self.now.rules c.args.self.now.chain c.args.self.now.atoms.keys (g.S.ClauseStore.clauses c.args.self.now.store) (g.S.ClauseStore.clauses c.check_step.new.store) c.args.self.now.marks c.args.ids.now c.requires (g.met.S.ClauseStore.lawful c.args.self.now.store) c.in-Ok.ensures.step

pub returns-in-Ok-clause-ready : goal.returns-in-Ok-clause-ready
returns-in-Ok-clause-ready g c =
    subst (λ n. IsReady c.args.self.now.rules c.args.self.now.chain c.args.self.now.atoms.keys (g.S.ClauseStore.clauses c.check_step.new.store) n) (sym c.in-Ok.ensures.marks)
    (step_ready c.args.self.now.rules c.args.self.now.chain c.args.self.now.atoms.keys (g.S.ClauseStore.clauses c.args.self.now.store) (g.S.ClauseStore.clauses c.check_step.new.store) c.args.self.now.marks c.args.ids.now c.requires c.in-Ok.ensures.step)

pub returns-in-Err-clause-checked : goal.returns-in-Err-clause-checked
returns-in-Err-clause-checked g c = step_refused_line c.args.self.now.rules c.args.self.now.chain c.args.self.now.atoms.keys (g.S.ClauseStore.clauses c.args.self.now.store) c.args.self.now.marks c.args.ids.now c.in-Err.refusal c.refused_step.result c.requires c.in-Err.ensures.err c.refused_step.ensures
