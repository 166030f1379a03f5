use Rattle.std.proofs.Common.{refl, ◌∙◌, arith}
use Rattle.atom_numbers.specs.Numbers.{lines_of}
use Rattle.certificates.proofs.Advanced.{leads_none, leads_next, leads_whole, refused_line}
use Rattle.certificates.proofs.check.check_lines.Goals as goal

pub lines-init : goal.lines-init
lines-init g c = record {
  ready = c.requires.ready;
  leads = leads_none c.args.checker.now.rules c.args.lines.now (lines_of c.args.checker.now.chain c.args.checker.now.atoms.keys (g.S.ClauseStore.clauses c.args.checker.now.store)) c.requires.none;
  same = refl;
  count = omega arith;
}

pub check_line-requires : goal.check_line-requires
check_line-requires g c = c.lines.invariant.ready

pub overflow_add-number : goal.overflow_add-number
overflow_add-number g c = omega (arith, c.lines.invariant.count, c.requires.fits)

pub lines-preserved : goal.lines-preserved
lines-preserved g c = record {
  ready = c.in-Ok.ensures.ready;
  leads = leads_next c.args.checker.now.rules c.lines.checker.rules c.args.lines.now c.lines.line-index c.line-item.result (lines_of c.lines.checker.chain c.lines.checker.atoms.keys (g.S.ClauseStore.clauses c.lines.checker.store)) (lines_of c.check_line.new.self.chain c.check_line.new.self.atoms.keys (g.S.ClauseStore.clauses c.check_line.new.self.store)) c.lines.invariant.same c.lines-test.true c.line-item.is c.lines.invariant.leads c.in-Ok.ensures.checked;
  same = c.in-Ok.ensures.same ∙ c.lines.invariant.same;
  count = omega (arith, c.lines.invariant.count);
}

pub returns-in-Err-clause-err : goal.returns-in-Err-clause-err
returns-in-Err-clause-err g c =
    refused_line c.args.checker.now.rules c.lines.checker.rules c.args.lines.now c.lines.line-index c.line-item.result (lines_of c.lines.checker.chain c.lines.checker.atoms.keys (g.S.ClauseStore.clauses c.lines.checker.store)) c.in-Err.refusal c.refusal_at.result c.args.first c.lines.number c.lines.invariant.same c.lines-test.true c.line-item.is
    c.lines.invariant.leads c.in-Err.ensures.checked c.refusal_at.ensures c.lines.invariant.count

pub returns-clause-leads : goal.returns-clause-leads
returns-clause-leads g c = leads_whole c.args.checker.now.rules c.args.lines.now c.lines.line-index (lines_of c.lines.checker.chain c.lines.checker.atoms.keys (g.S.ClauseStore.clauses c.lines.checker.store)) c.lines-test.false c.lines.invariant.leads
