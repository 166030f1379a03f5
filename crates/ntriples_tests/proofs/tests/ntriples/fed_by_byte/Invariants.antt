use Rattle.std.proofs.Common.{◌≡◌}
use Rattle.ntriples_tests.proofs.tests.ntriples.fed_by_byte.Given as goal

abbrev pub invariant-feeding : goal.invariant-feeding
invariant-feeding l = l.reader.taken ≡ l.i
