use Rattle.std.proofs.Common.{◌≤◌}
use Rattle.ntriples_tests.proofs.tests.ntriples.an_unfinished_line_is_refused_at_the_end.Given as goal

abbrev pub invariant-feeding : goal.invariant-feeding
invariant-feeding g l = l.reader.taken ≤ l.i-counter
