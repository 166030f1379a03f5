use Rattle.std.proofs.Common.{◌<◌, length}
use Rattle.std.specs.List.Sorted.{IsPermutation}
use Rattle.rdf_terms.proofs.presort.gather.Given as goal

abbrev pub invariant-cycles : goal.invariant-cycles
invariant-cycles l = IsPermutation l.initial.triples l.triples

abbrev pub invariant-cycle : goal.invariant-cycle
invariant-cycle l = record { within : l.place < length l.triples; moved : IsPermutation l.initial.triples l.triples }
