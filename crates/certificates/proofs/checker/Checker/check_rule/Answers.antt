use Rattle.certificates.proofs.Answered.{rule_checked, rule_moved, kept_ok, ready_moved}
use Rattle.std.proofs.Common.{sym, ap, ◌∙◌, subst}
use Rattle.premise_rules.specs.declared.clause.Clause.TheVariants.{Literals}
use Rattle.atom_numbers.specs.Numbers.{lines_of, AreOnce}
use Rattle.certificates.specs.Checker.{IsReady}
use Rattle.certificates.proofs.checker.Checker.check_rule.Goals as goal

pub returns-in-Ok-clause-checked : goal.returns-in-Ok-clause-checked
returns-in-Ok-clause-checked g c =
    rule_checked c.args.self.now.rules c.args.self.now.chain c.args.self.now.atoms.keys (g.S.ClauseStore.clauses c.args.self.now.store) (lines_of c.push_premise.new.self.chain c.push_premise.new.self.atoms.keys (g.S.ClauseStore.clauses c.push_premise.new.self.store)) c.args.rule.now c.as_slice.result.now
    c.push_premise.result c.line_result.result (c.in-Ok.ensures.value ∙ ap Literals (sym c.as_slice.ensures)) c.push_premise.ensures.lines c.line_result.ensures

pub returns-in-Ok-clause-ready : goal.returns-in-Ok-clause-ready
returns-in-Ok-clause-ready g c =
    kept_ok (IsReady c.push_premise.new.self.rules c.push_premise.new.self.chain c.push_premise.new.self.atoms.keys (g.S.ClauseStore.clauses c.push_premise.new.self.store) c.push_premise.new.self.marks) c.push_premise.result c.line_result.result c.line_result.ensures c.push_premise.ensures.ready

pub push_premise-requires-clause-ready : goal.push_premise-requires-clause-ready
push_premise-requires-clause-ready g c = ready_moved c.args.self.now.rules c.premise.new.rules c.args.self.now.chain c.args.self.now.atoms.keys (g.S.ClauseStore.clauses c.args.self.now.store) c.args.self.now.marks c.premise.ensures.same c.requires

pub returns-in-Err-clause-checked : goal.returns-in-Err-clause-checked
returns-in-Err-clause-checked g c = rule_moved c.args.self.now.rules c.args.self.now.chain c.args.self.now.atoms.keys (g.S.ClauseStore.clauses c.args.self.now.store) c.args.rule.now c.in-Err.refused c.in-Err.ensures.err

pub push_premise-requires-clause-once : goal.push_premise-requires-clause-once
push_premise-requires-clause-once g c = subst AreOnce (sym c.as_slice.ensures) c.in-Ok.ensures.once

pub premise-requires : goal.premise-requires
premise-requires g c = c.requires.candidates
