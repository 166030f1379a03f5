use Rattle.std.proofs.Common.{◌≡◌, ◌+◌, take}
use Rattle.premise_rules.specs.Documents.{no_lines, Leads, AnyStep}
use Rattle.atom_numbers.specs.Numbers.{lines_of}
use Rattle.certificates.specs.Checker.{IsReady}
use Rattle.certificates.proofs.check.check_lines.Given as goal

abbrev pub invariant-lines : goal.invariant-lines
invariant-lines g l = record {
  ready : IsReady l.checker.rules l.checker.chain l.checker.atoms.keys (g.S.ClauseStore.clauses l.checker.store) l.checker.marks;
  leads : Leads l.fn.checker.rules AnyStep no_lines (take l.line-index l.lines) (lines_of l.checker.chain l.checker.atoms.keys (g.S.ClauseStore.clauses l.checker.store));
  same : l.checker.rules ≡ l.fn.checker.rules;
  count : l.number ≡ l.fn.first + l.line-index;
}
