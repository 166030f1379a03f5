use Rattle.std.proofs.Common.{length, ◌-◌}
use Rattle.std.specs.List.Sorted.{IsPermutation}
use Rattle.rdf_terms.proofs.presort.sort_shared_heads.Given as goal

abbrev pub invariant-stretches : goal.invariant-stretches
invariant-stretches l = IsPermutation l.initial.triples l.triples

abbrev pub decreases-stretches : goal.decreases-stretches
decreases-stretches l = length l.headed - l.start
