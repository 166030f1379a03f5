use Rattle.std.proofs.Common.{◌≡◌, ◌++◌, true, take}
use Rattle.std.specs.Prelude.{filter_map}
use Rattle.repair_problem.specs.Candidates.{candidate_number}
use Rattle.atom_parts.specs.PartsTable.{triple_parts}
use Rattle.atom_parts.proofs.candidate_lists.push_all.Given as goal

abbrev pub invariant-triples : goal.invariant-triples
invariant-triples l = l.list ≡ l.fn.list ++ triple_parts (filter_map (candidate_number l.problem) (take l.triple-index l.triples)) true
