use Rattle.rdf_navigation.proofs.ReachLaws.{AreMarked}
use Rattle.rdf_navigation.proofs.numbers.marked_terms.Given as goal

abbrev pub invariant-places : goal.invariant-places
invariant-places l = AreMarked l.nodes l.marks l.place l.marked
