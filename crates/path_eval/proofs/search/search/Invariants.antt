use Rattle.std.proofs.Common.{◌<◌, ◌*◌, ◌-◌, length}
use Rattle.rdf_terms.specs.Nodes.{terms}
use Rattle.path_eval.specs.Automaton.{Moves}
use Rattle.path_eval.specs.Visits.{positions, IsStart, AreVisits}
use Rattle.path_eval.proofs.Searches.{IsSearch}
use Rattle.path_eval.proofs.search.search.Given as goal

abbrev pub invariant-following : goal.invariant-following
invariant-following l = record {
  searched : IsSearch (Moves l.forms l.graph.graph l.states) (λ x. (l.entry < length l.states) × IsStart l.graph.nodes l.entry l.starts x) (positions l.graph.nodes l.visits.keys) l.next;
  within : AreVisits (length l.states) l.graph.nodes l.visits.keys;
}

abbrev pub decreases-following : goal.decreases-following
decreases-following l = length l.states * length (terms l.graph.nodes) - l.next
