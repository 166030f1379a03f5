use Rattle.std.proofs.Common.{◌≡◌, ◌++◌, false, take, length}
use Rattle.std.specs.Prelude.{filter_map}
use Rattle.std.specs.List.{enumerate_from}
use Rattle.rdf_terms.specs.Graph.{triples}
use Rattle.atom_parts.specs.CandidateLists.{number_if, is_open}
use Rattle.atom_parts.specs.PartsTable.{triple_parts}
use Rattle.atom_parts.proofs.candidate_lists.push_open.Given as goal

abbrev pub invariant-places : goal.invariant-places
invariant-places l = l.list ≡ l.fn.list ++ triple_parts (filter_map (number_if (is_open l.allowed l.subject)) (take l.place (enumerate_from (length l.before) (triples l.graph)))) false
