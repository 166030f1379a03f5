-- The atoms that stand in the clauses of an atom are the atom itself and those of the parts that fix it.
use Rattle.std.proofs.Common.{◌≡◌, ◌≢◌, ◌⊎◌, inl, inr, ℕ, zero, suc, ◌-◌, ◌<◌, ◌≤◌, Bool, true, false, not, nat_eq, nat_le, nat_lt, cond, List, [], ◌∷◌, map, length, Option, Some, None, slice_get, refl, sym, ap, ◌∙◌, subst, arith}
use Rattle.repair_problem.specs.declared.atom.Atom.{Atom}
use Rattle.repair_problem.specs.declared.atom.Atom.TheVariants.{Count}
use Rattle.repair_problem.specs.declared.atom.Literal.{Literal}
use Rattle.repair_problem.specs.declared.atom.Part.{Part}
use Rattle.repair_problem.specs.declared.atom.Part.TheVariants.{Fixed, Lit}
use Rattle.path_levels.specs.PathParts.{literal}
use Rattle.count_encode.specs.PartTruth.{opposite, negation}
use Rattle.count_encode.specs.Counts.{counted, count_parts}
use Rattle.atom_parts.specs.PartLiterals.{In, literals}
use Rattle.atom_parts.specs.Fixing.{Fixing, NoAtom, Free, ByParts, ByCount, lower, IsOfAtom}
use Rattle.atom_parts.proofs.Facts.{some_is, none_some}
use Rattle.premise_rules.specs.declared.clause.Clause.TheVariants.{Literals}
use Rattle.premise_rules.specs.Literals.{finished, distinct}
use Rattle.premise_rules.specs.PlaceClauses.{part_clause, place_clause, clause_at}
use Rattle.premise_rules.proofs.AnsweredLiterals.{finished_as, literals_only}
use Rattle.atom_numbers.specs.Numbers.{Stands}
use Rattle.clause_ground.proofs.Lower.{counted_own}

module _ (a : Atom) where
  -- the atom itself, or one of these parts
  abbrev pub Among : List Part → Literal → Type 0
  Among ps l = (l.atom ≡ a) ⊎ ((m : Literal) × In (literals ps) m × (m.atom ≡ l.atom))

  -- the part is the atom or its denial, or one of these parts or its denial
  abbrev One : List Part → Part → Type 0
  One ps p = (l : Literal) → In (literals (p ∷ [])) l → Among ps l

  abbrev All : List Part → List Part → Type 0
  All ps c = (l : Literal) → In (literals c) l → Among ps l

  none : (ps : List Part) → All ps []
  none ps l h = absurd h

  more : (ps : List Part) (p : Part) (c : List Part) → One ps p → All ps c → All ps (p ∷ c)
  more ps (Fixed b) c one all l h = all l h
  more ps (Lit m) c one all l (inl e) = one l (inl e)
  more ps (Lit m) c one all l (inr h) = all l h

  own : (ps : List Part) (b : Bool) → One ps (literal a b)
  own ps b l (inl e) = inl (sym (ap (λ (x : Literal). x.atom) e))
  own ps b l (inr h) = absurd h

  negated : (ps : List Part) (p : Part) → One ps p → One ps (negation p)
  negated ps (Fixed b) one l h = absurd h
  negated ps (Lit m) one l (inl e) = at (one m (inl refl))
    where
      same : m.atom ≡ l.atom
      same = ap (λ (x : Literal). x.atom) e

      at : Among ps m → Among ps l
      at (inl f) = inl (sym same ∙ f)
      at (inr f) = inr (f.0, f.1, f.2 ∙ same)
  negated ps (Lit m) one l (inr h) = absurd h

  -- a part at a place
  at_place : (ps : List Part) (k : ℕ) (p : Part) → slice_get ps k ≡ Some p → One ps p
  at_place ps k (Fixed b) e l h = absurd h
  at_place ps k (Lit m) e l (inr h) = absurd h
  at_place ps k (Lit m) e l (inl f) = inr (m, there ps k e, ap (λ (x : Literal). x.atom) f)
    where
      there : (qs : List Part) (k : ℕ) → slice_get qs k ≡ Some (Lit m) → In (literals qs) m
      there [] k e = absurd (none_some e)
      there (q ∷ qs) zero e = subst (λ r. In (literals (r ∷ qs)) m) (sym (some_is e)) (inl refl)
      there (Fixed b ∷ qs) (suc k) e = there qs k e
      there (Lit n ∷ qs) (suc k) e = inr (there qs k e)

  whole : (ps : List Part) → All ps ps
  whole ps l h = inr (l, h, refl)

  negations : (ps : List Part) → All ps (map negation ps)
  negations ps l h = let r = back ps h in inr (r.0, r.1, r.2)
    where
      back : (qs : List Part) → In (literals (map negation qs)) l → (m : Literal) × In (literals qs) m × (m.atom ≡ l.atom)
      back [] h = absurd h
      back (Fixed b ∷ qs) h = back qs h
      back (Lit n ∷ qs) (inl e) = (n, inl refl, ap (λ (x : Literal). x.atom) e)
      back (Lit n ∷ qs) (inr h) = let r = back qs h in (r.0, inr r.1, r.2)

  place_among : (every : Bool) (ps : List Part) (k : ℕ) (c : List Part) → place_clause a every ps k ≡ Some c → All ps c
  place_among true ps k c e = go (nat_eq k (length ps)) (slice_get ps k) refl e
    where
      go : (b : Bool) (o : Option Part) → slice_get ps k ≡ o → cond b (Some (literal a true ∷ map negation ps)) (part_clause a true o) ≡ Some c → All ps c
      go true o h e = subst (All ps) (some_is e) (more ps (literal a true) (map negation ps) (own ps true) (negations ps))
      go false None h e = absurd (none_some e)
      go false (Some p) h e = subst (All ps) (some_is e) (more ps (literal a false) (p ∷ []) (own ps false) (more ps p [] (at_place ps k p h) (none ps)))
  place_among false ps k c e = go (nat_eq k (length ps)) (slice_get ps k) refl e
    where
      go : (b : Bool) (o : Option Part) → slice_get ps k ≡ o → cond b (Some (literal a false ∷ ps)) (part_clause a false o) ≡ Some c → All ps c
      go true o h e = subst (All ps) (some_is e) (more ps (literal a false) ps (own ps false) (whole ps))
      go false None h e = absurd (none_some e)
      go false (Some p) h e = subst (All ps) (some_is e) (more ps (literal a true) (negation p ∷ []) (own ps true) (more ps (negation p) [] (negated ps p (at_place ps k p h)) (none ps)))

  module _ (i x j m : ℕ) (item : Part) (is : a ≡ Count i x j m) (least : 1 ≤ m) (most : m ≤ j) where
    abbrev below : List Part
    below = counted i x (j - 1) m ∷ counted i x (j - 1) (m - 1) ∷ item ∷ []

    top : One below (counted i x j m)
    top = subst (One below) (sym (counted_own i x j m least most)) (subst (λ b. One below (literal b true)) is (own below true))

    first : One below (counted i x (j - 1) m)
    first = at_place below 0 (counted i x (j - 1) m) refl

    second : One below (counted i x (j - 1) (m - 1))
    second = at_place below 1 (counted i x (j - 1) (m - 1)) refl

    third : One below item
    third = at_place below 2 item refl

    two : (p q : Part) → One below p → One below q → All below (p ∷ q ∷ [])
    two p q f g = more below p (q ∷ []) f (more below q [] g (none below))

    three : (p q r : Part) → One below p → One below q → One below r → All below (p ∷ q ∷ r ∷ [])
    three p q r f g h = more below p (q ∷ r ∷ []) f (two q r g h)

    count_among : (k : ℕ) → All below (count_parts i x j m item k)
    count_among zero = two (counted i x j m) (negation (counted i x (j - 1) m)) top (negated below (counted i x (j - 1) m) first)
    count_among (suc zero) = three (counted i x j m) (negation (counted i x (j - 1) (m - 1))) (negation item) top (negated below (counted i x (j - 1) (m - 1)) second) (negated below item third)
    count_among (suc (suc zero)) = three (negation (counted i x j m)) (counted i x (j - 1) m) (counted i x (j - 1) (m - 1)) (negated below (counted i x j m) top) first second
    count_among (suc (suc (suc k))) = three (negation (counted i x j m)) (counted i x (j - 1) m) item (negated below (counted i x j m) top) first third

  clause_among : (f : Fixing) → IsOfAtom a f → (k : ℕ) (c : List Part) → clause_at a f k ≡ Some c → All (lower f) c
  clause_among NoAtom o k c e = absurd (none_some e)
  clause_among Free o k c e = absurd (none_some e)
  clause_among (ByParts ps) o k c e = place_among ps.every ps.list k c e
  clause_among (ByCount i x j m item) o k c e = go (nat_le k 3) e
    where
      go : (b : Bool) → cond b (Some (count_parts i x j m item k)) None ≡ Some c → All (lower (ByCount i x j m item)) c
      go true e = subst (All (lower (ByCount i x j m item))) (some_is e) (count_among i x j m item o.0 o.1 o.2 k)
      go false e = absurd (none_some e)

  stands_literal : (ls : List Literal) (b : Atom) → Stands ls b → (l : Literal) × In ls l × (l.atom ≡ b)
  stands_literal [] b h = absurd h
  stands_literal (l ∷ ls) b (inl e) = (l, inl refl, e)
  stands_literal (l ∷ ls) b (inr h) = let r = stands_literal ls b h in (r.0, inr r.1, r.2)

  -- so of what stands in a clause
  pub stands_among : (f : Fixing) → IsOfAtom a f → (k : ℕ) (ls : List Literal) (b : Atom) → finished (clause_at a f k) ≡ Literals ls → Stands ls b → (b ≡ a) ⊎ ((m : Literal) × In (literals (lower f)) m × (m.atom ≡ b))
  stands_among f o k ls b e h = go (clause_at a f k) refl e
    where
      go : (c : Option (List Part)) → clause_at a f k ≡ c → finished c ≡ Literals ls → (b ≡ a) ⊎ ((m : Literal) × In (literals (lower f)) m × (m.atom ≡ b))
      go None g e = absurd (cc)
      go (Some c) g e =
          let d = finished_as c ls e in
          let r = stands_literal ls b h in
          pick r.0 r.2 (clause_among f o k c g r.0 (literals_only (literals c) r.0 (subst (λ xs. In xs r.0) (sym d.same) r.1)))
        where
          pick : (l : Literal) → l.atom ≡ b → Among (lower f) l → (b ≡ a) ⊎ ((m : Literal) × In (literals (lower f)) m × (m.atom ≡ b))
          pick l e (inl g) = inl (sym e ∙ g)
          pick l e (inr g) = inr (g.0, g.1, g.2 ∙ e)
