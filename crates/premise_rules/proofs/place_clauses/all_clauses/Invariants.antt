use Rattle.std.proofs.Common.{◌≡◌, map}
use Rattle.std.specs.List.{range_with_len}
use Rattle.atom_parts.specs.Sources.{listed_fixing}
use Rattle.premise_rules.specs.Literals.{finished}
use Rattle.premise_rules.specs.PlaceClauses.{clause_at}
use Rattle.premise_rules.proofs.place_clauses.all_clauses.Given as goal

abbrev pub invariant-places : goal.invariant-places
invariant-places l = l.clauses ≡ map (λ k. finished (clause_at l.fn.atom (listed_fixing l.fixing) k)) (range_with_len 0 l.place)
