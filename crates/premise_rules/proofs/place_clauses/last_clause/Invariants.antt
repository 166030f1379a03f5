use Rattle.std.proofs.Common.{◌≡◌, ◌∷◌, true, map, take}
use Rattle.path_levels.specs.PathParts.{literal}
use Rattle.count_encode.specs.PartTruth.{negation}
use Rattle.atom_parts.specs.Sources.{listed_parts}
use Rattle.premise_rules.proofs.place_clauses.last_clause.Given as goal

abbrev pub invariant-places : goal.invariant-places
invariant-places l = l.list ≡ literal l.fn.atom true ∷ map negation (take l.place ((listed_parts l.parts).list))
