use Rattle.certificates.proofs.Answered.{pair_checked, pair_kept, pair_moved}
use Rattle.certificates.proofs.checker.Checker.check_pair.Goals as goal

pub returns-in-Ok-clause-checked : goal.returns-in-Ok-clause-checked
returns-in-Ok-clause-checked g c =
    pair_checked c.args.self.now.rules c.problem-problem.result.now c.args.self.now.chain c.as_slice.result.now c.push_pair.new.chain c.args.self.now.atoms.keys (g.S.ClauseStore.clauses c.args.self.now.store) c.args.pair.now c.problem-problem.ensures c.as_slice.ensures c.push_pair.result
    c.line_result.result c.line_result.ensures c.push_pair.ensures c.in-Ok.ensures.ok

pub returns-in-Ok-clause-ready : goal.returns-in-Ok-clause-ready
returns-in-Ok-clause-ready g c =
    pair_kept c.args.self.now.rules c.problem-problem.result.now c.args.self.now.chain c.as_slice.result.now c.push_pair.new.chain c.args.self.now.atoms.keys (g.S.ClauseStore.clauses c.args.self.now.store) c.args.pair.now c.problem-problem.ensures c.as_slice.ensures c.push_pair.result
    c.line_result.result c.line_result.ensures c.push_pair.ensures c.args.self.now.marks c.requires c.in-Ok.ensures.ok.0

pub returns-in-Err-clause-checked : goal.returns-in-Err-clause-checked
returns-in-Err-clause-checked g c = pair_moved c.args.self.now.rules c.problem-problem.result.now c.args.self.now.chain c.as_slice.result.now c.args.self.now.atoms.keys (g.S.ClauseStore.clauses c.args.self.now.store) c.args.pair.now c.in-Err.refusal c.problem-problem.ensures c.as_slice.ensures c.in-Err.ensures.err
