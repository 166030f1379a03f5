-- Clauses that are made place by place.
use Rattle.std.proofs.Common.{◌≡◌, ℕ, zero, suc, ◌+◌, ◌<◌, ◌≤◌, Bool, true, false, List, [], ◌∷◌, ◌++◌, map, length, take, Some, None, slice_get, refl, sym, ap, ◌∙◌, subst, add-one, arith}
use Rattle.std.proofs.lemmas.List.{map-append}
use Rattle.std.specs.List.{range_with_len}
use Rattle.std.proofs.lemmas.List.FromFn.{map-range_with_len_more}
use Rattle.repair_problem.specs.declared.atom.Atom.{Atom}
use Rattle.repair_problem.specs.declared.atom.Part.{Part}
use Rattle.path_levels.specs.PathParts.{literal}
use Rattle.count_encode.specs.PartTruth.{negation}
use Rattle.core_constraints.proofs.Decided.{no_false, take_whole}
use Rattle.atom_parts.specs.declared.sources.AtomParts.{AtomParts}
use Rattle.atom_parts.specs.declared.fixing.Fixing as declared
use Rattle.atom_parts.specs.declared.fixing.Fixing.TheVariants as found
use Rattle.atom_parts.specs.Sources.{listed_parts, listed_fixing}
use Rattle.atom_parts.proofs.Facts.{none_some}
use Rattle.premise_rules.specs.declared.clause.Clause.{Clause}
use Rattle.premise_rules.specs.PlaceClauses.{last_clause, first_places, places}
use Rattle.premise_rules.proofs.DistinctLiterals.{take_next, take_none}

-- the last clause of an atom: its own literal, and then the parts, of which all or any are meant
pub last_begun : (a : Atom) (every said : Bool) (own : Part) (none made : List Part) → none ≡ [] → said ≡ every → own ≡ literal a said → made ≡ none ++ own ∷ [] → made ≡ literal a every ∷ []
last_begun a every said own none made e f g h = h ∙ (ap (λ qs. qs ++ own ∷ []) e ∙ ap (λ p. p ∷ []) (g ∙ ap (literal a) f))

pub last_of_any : (a : Atom) (every : Bool) (ps made more : List Part) → every ≡ false → made ≡ literal a every ∷ [] → more ≡ made ++ ps → more ≡ last_clause a every ps
last_of_any a every ps made more e m h = h ∙ (ap (λ qs. qs ++ ps) m ∙ at every e)
  where
    at : (b : Bool) → b ≡ false → literal a b ∷ ps ≡ last_clause a b ps
    at true f = absurd (no_false true refl f)
    at false f = refl

pub last_start : (a : Atom) (every : Bool) (ps made : List Part) → every ≡ true → made ≡ literal a every ∷ [] → made ≡ literal a true ∷ map negation (take 0 ps)
last_start a every ps made e m = m ∙ (ap (λ b. literal a b ∷ []) e ∙ sym (ap (λ qs. literal a true ∷ map negation qs) (take_none ps)))

pub last_more : (a : Atom) (ps : List Part) (k : ℕ) (p : Part) (made more : List Part) → made ≡ literal a true ∷ map negation (take k ps) → slice_get ps k ≡ Some p → more ≡ made ++ negation p ∷ [] → more ≡ literal a true ∷ map negation (take (k + 1) ps)
last_more a ps k p made more e h g = g ∙ (ap (λ qs. qs ++ negation p ∷ []) e ∙ (ap (λ qs. literal a true ∷ qs) (sym (map-append negation (take k ps) (p ∷ []))) ∙ sym (ap (λ qs. literal a true ∷ map negation qs) (take_next ps k p h))))

pub last_of_every : (a : Atom) (every : Bool) (ps : List Part) (k : ℕ) (made : List Part) → every ≡ true → length ps ≤ k → made ≡ literal a true ∷ map negation (take k ps) → made ≡ last_clause a every ps
last_of_every a every ps k made e le m = m ∙ (ap (λ qs. literal a true ∷ map negation qs) (take_whole ps k le) ∙ at every e)
  where
    at : (b : Bool) → b ≡ true → literal a true ∷ map negation ps ≡ last_clause a b ps
    at true f = refl
    at false f = absurd (no_false false f refl)

-- there is a part at each place below their count
pub part_there : {X : Type 0} (ps : List X) (k : ℕ) → k < length ps → None ≡ slice_get ps k → ⊥
part_there [] k lt e = omega (arith, lt)
part_there (p ∷ ps) zero lt e = none_some e
part_there (p ∷ ps) (suc k) lt e = part_there ps k (omega (arith, lt)) e

-- the clauses of an atom
pub clauses_more : (f : ℕ → Clause) (k : ℕ) (made more : List Clause) → made ≡ map f (range_with_len 0 k) → more ≡ made ++ f k ∷ [] → more ≡ map f (range_with_len 0 (k + 1))
clauses_more f k made more e g = g ∙ (ap (λ cs. cs ++ f k ∷ []) e ∙ sym (map-range_with_len_more f 0 k k (omega arith)))

-- those before that of all parts
pub clauses_first : (f : ℕ → Clause) (n k : ℕ) (made : List Clause) → k ≤ n → n ≤ k → made ≡ map f (range_with_len 0 k) → made ≡ map f (range_with_len 0 n)
clauses_first f n k made le ge e = e ∙ ap (λ i. map f (range_with_len 0 i)) (omega (arith, le, ge))

-- there is one place more where the atom has parts, and none elsewhere
place_more : (f : declared.Fixing) (parts : AtomParts) → f ≡ found.ByParts parts → suc (first_places (listed_fixing f)) ≡ places (listed_fixing f)
place_more f parts e = subst (λ (g : declared.Fixing). suc (first_places (listed_fixing g)) ≡ places (listed_fixing g)) (sym e) refl

same_places : (f : declared.Fixing) → ((parts : AtomParts) → f ≡ found.ByParts parts → ⊥) → first_places (listed_fixing f) ≡ places (listed_fixing f)
same_places found.NoAtom h = refl
same_places found.Free h = refl
same_places (found.ByParts parts) h = absurd (h parts refl)
same_places (found.ByCount i x j m item) h = refl

pub clauses_whole : (F : ℕ → Clause) (f : declared.Fixing) (parts : AtomParts) (k : ℕ) (made more : List Clause) → f ≡ found.ByParts parts → k ≡ length ((listed_parts parts).list) → made ≡ map F (range_with_len 0 (first_places (listed_fixing f))) → more ≡ made ++ F k ∷ [] → more ≡ map F (range_with_len 0 (places (listed_fixing f)))
clauses_whole F f parts k made more is l m g =
    let n : k ≡ first_places (listed_fixing f) = l ∙ sym (ap (λ (h : declared.Fixing). first_places (listed_fixing h)) is) in
    clauses_more F (first_places (listed_fixing f)) made more m (g ∙ ap (λ i. made ++ F i ∷ []) n) ∙ ap (λ i. map F (range_with_len 0 i)) (add-one (first_places (listed_fixing f)) ∙ place_more f parts is)

pub clauses_other : (F : ℕ → Clause) (f : declared.Fixing) (made : List Clause) → ((parts : AtomParts) → f ≡ found.ByParts parts → ⊥) → made ≡ map F (range_with_len 0 (first_places (listed_fixing f))) → made ≡ map F (range_with_len 0 (places (listed_fixing f)))
clauses_other F f made never m = m ∙ ap (λ i. map F (range_with_len 0 i)) (same_places f never)
