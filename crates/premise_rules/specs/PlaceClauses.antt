-- The clauses that fix an atom, by their places.
use Rattle.std.specs.Prelude.{ℕ, suc, Bool, true, false, List, [], ◌∷◌, map, length, Option, Some, None, slice_get}
use Rattle.std.specs.Prelude.{nat_eq, nat_le, if◌then◌else◌}
use Rattle.std.specs.List.{range_with_len}
use Rattle.repair_problem.specs.declared.atom.Atom.{Atom}
use Rattle.repair_problem.specs.declared.atom.Part.{Part}
use Rattle.repair_problem.specs.Setting.{Setting}
use Rattle.path_levels.specs.PathParts.{literal}
use Rattle.count_encode.specs.PartTruth.{negation}
use Rattle.count_encode.specs.Counts.{count_parts}
use Rattle.atom_parts.specs.Fixing.{Fixing, NoAtom, Free, ByParts, ByCount, fixing}
use Rattle.premise_rules.specs.declared.clause.Clause.{Clause}
use Rattle.premise_rules.specs.Literals.{finished}

-- The clauses of an atom have places. Of all parts: with each of the parts, that it is true without the atom or not at
-- all; at the last place, that the atom is true, or one of the parts isn't. Of any parts: the other way round.
abbrev pub part_clause : Atom → Bool → Option Part → Option (List Part)
part_clause a every None = None
part_clause a true (Some part) = Some (literal a false ∷ part ∷ [])
part_clause a false (Some part) = Some (literal a true ∷ negation part ∷ [])

abbrev pub last_clause : Atom → Bool → List Part → List Part
last_clause a true parts = literal a true ∷ map negation parts
last_clause a false parts = literal a false ∷ parts

abbrev pub place_clause : Atom → Bool → List Part → ℕ → Option (List Part)
place_clause a every parts k =
    if nat_eq k (length parts) then Some (last_clause a every parts) else part_clause a every (slice_get parts k)

-- the parts of the clause at a place, if there is such a place
abbrev pub clause_at : Atom → Fixing → ℕ → Option (List Part)
clause_at a NoAtom k = None
clause_at a Free k = None
clause_at a (ByParts parts) k = place_clause a parts.every parts.list k
clause_at a (ByCount i x j m item) k = if nat_le k 3 then Some (count_parts i x j m item k) else None

-- how many places there are, but for that of all parts. Private functions cite it.
abbrev pub first_places : Fixing → ℕ
first_places NoAtom = 0
first_places Free = 0
first_places (ByParts parts) = length parts.list
first_places (ByCount i x j m item) = 4

-- how many places there are
abbrev pub places : Fixing → ℕ
places NoAtom = 0
places Free = 0
places (ByParts parts) = suc (length parts.list)
places (ByCount i x j m item) = 4

-- the clauses at all places
abbrev pub clauses_of : Setting → Atom → List Clause
clauses_of s a = map (λ k. finished (clause_at a (fixing s a) k)) (range_with_len 0 (places (fixing s a)))
