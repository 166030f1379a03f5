use Rattle.std.proofs.Common.{◌≡◌, ◌++◌, take}
use Rattle.std.specs.Prelude.{filter_map}
use Rattle.atom_parts.specs.ValueParts.{node_number}
use Rattle.atom_parts.proofs.candidate_lists.push_objects.Given as goal

abbrev pub invariant-triples : goal.invariant-triples
invariant-triples l = l.numbers.items ≡ l.fn.numbers.items ++ filter_map (λ t. node_number l.problem t.object) (take l.triple-index l.triples)
