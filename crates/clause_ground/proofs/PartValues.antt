-- What truth values of atoms that make clauses true say of the parts.
use Rattle.std.proofs.Common.{◌≡◌, ◌↔◌, ◌⊎◌, inl, inr, ℕ, zero, suc, Bool, true, false, not, ◌&&◌, ◌||◌, nat_eq, cond, List, [], ◌∷◌, map, length, Option, Some, None, slice_get, refl, sym, ap, ◌∙◌, subst, eq-eqb, arith}
use Rattle.std.specs.List.{list_any, list_all}
use Rattle.std.proofs.lemmas.Option.{slice_get_within}
use Rattle.shapes_profile.specs.Logic.{EachOf, SomeOf}
use Rattle.repair_problem.specs.declared.atom.Atom.{Atom}
use Rattle.repair_problem.specs.declared.atom.Literal.{Literal}
use Rattle.repair_problem.specs.declared.atom.Part.{Part}
use Rattle.repair_problem.specs.declared.atom.Part.TheVariants.{Fixed, Lit}
use Rattle.repair_problem.specs.PartMeaning.{HoldsIf, PartMeans, ListMeans}
use Rattle.path_levels.specs.PathParts.{literal}
use Rattle.count_encode.specs.PartTruth.{signed, opposite, negation, literal_value, part_value, is_true, list_value}
use Rattle.count_encode.proofs.Counters.{negation_value}
use Rattle.core_constraints.proofs.Decided.{no_false}
use Rattle.atom_parts.specs.PartLiterals.{In, literals}
use Rattle.atom_parts.proofs.Facts.{any_true}
use Rattle.premise_rules.specs.declared.clause.Clause.TheVariants.{Literals, Tautology}
use Rattle.premise_rules.specs.Literals.{same_literal, among, is_fixed_true, is_tautology, distinct, finished}
use Rattle.premise_rules.specs.PlaceClauses.{part_clause, place_clause}
use Rattle.premise_rules.proofs.AnsweredLiterals.{finished_as, literals_only}
use Rattle.premise_rules.proofs.SameLiterals.{same_is}

pub any_some : {X : Type 0} (p : X → Bool) (xs : List X) → list_any p xs ≡ true → (x : X) × In xs x × (p x ≡ true)
any_some p [] h = absurd (no_false false h refl)
any_some p (x ∷ xs) h = at (p x) refl h (any_some p xs)
  where
    at : (b : Bool) → p x ≡ b → (b || list_any p xs) ≡ true → (list_any p xs ≡ true → (y : _) × In xs y × (p y ≡ true)) → (y : _) × In (x ∷ xs) y × (p y ≡ true)
    at true e h more = (x, inl refl, e)
    at false e h more = let r = more h in (r.0, inr r.1, r.2)

-- Truth values that make the clauses of all places true are those of the parts.
module _ (a : Atom → Bool) where
  any_negated : (ps : List Part) → list_any (part_value a) (map negation ps) ≡ not (list_all (part_value a) ps)
  any_negated [] = refl
  any_negated (p ∷ ps) = (λ i. negation_value a p i || any_negated ps i) ∙ not_both (part_value a p) (list_all (part_value a) ps)
    where
      not_both : (b c : Bool) → (not b || not c) ≡ not (b && c)
      not_both true c = refl
      not_both false c = refl

  all_each : (ps : List Part) → ((k : ℕ) (p : Part) → slice_get ps k ≡ Some p → part_value a p ≡ true) → list_all (part_value a) ps ≡ true
  all_each [] each = refl
  all_each (p ∷ ps) each = rw (each 0 p refl) (all_each ps (λ k q e. each (suc k) q e))

  any_each : (ps : List Part) → ((k : ℕ) (p : Part) → slice_get ps k ≡ Some p → part_value a p ≡ false) → list_any (part_value a) ps ≡ false
  any_each [] each = refl
  any_each (p ∷ ps) each = rw (each 0 p refl) (any_each ps (λ k q e. each (suc k) q e))

  at_part : (f : Atom) (every : Bool) (ps : List Part) (k : ℕ) (part : Part) (last : Option (List Part)) → slice_get ps k ≡ Some part → cond (nat_eq k (length ps)) last (part_clause f every (slice_get ps k)) ≡ part_clause f every (Some part)
  at_part f every ps k part last e = let lt = slice_get_within ps k part e in let ne : nat_eq k (length ps) ≡ false = grind arith in rw (ne, e) refl

  pub place_fixes : (f : Atom) (every : Bool) (ps : List Part) → ((k : ℕ) (c : List Part) → place_clause f every ps k ≡ Some c → is_true a c ≡ true) → a f ≡ list_value a every ps
  place_fixes f true ps holds = split (a f) refl
    where
      at_last : is_true a (literal f true ∷ map negation ps) ≡ true
      at_last = holds (length ps) (literal f true ∷ map negation ps) (rw (eq-eqb (length ps) (length ps) refl) refl)

      of_false : (x y z : Bool) → x ≡ false → (x || y) ≡ true → y ≡ not z → z ≡ false
      of_false true y z e h g = absurd (no_false true refl e)
      of_false false true true e h g = g
      of_false false true false e h g = refl
      of_false false false z e h g = absurd (no_false false h refl)

      of_true : (x y : Bool) → x ≡ true → (not x || (y || false)) ≡ true → y ≡ true
      of_true true true e h = refl
      of_true true false e h = h
      of_true false y e h = absurd (no_false false e refl)

      split : (b : Bool) → a f ≡ b → a f ≡ list_all (part_value a) ps
      split true e = e ∙ sym (all_each ps (λ k p g. of_true (a f) (part_value a p) e (holds k (literal f false ∷ p ∷ []) (at_part f true ps k p (Some (literal f true ∷ map negation ps)) g))))
      split false e = e ∙ sym (of_false (a f) (list_any (part_value a) (map negation ps)) (list_all (part_value a) ps) e at_last (any_negated ps))
  place_fixes f false ps holds = split (a f) refl
    where
      at_last : is_true a (literal f false ∷ ps) ≡ true
      at_last = holds (length ps) (literal f false ∷ ps) (rw (eq-eqb (length ps) (length ps) refl) refl)

      of_true : (x y : Bool) → x ≡ true → (not x || y) ≡ true → y ≡ true
      of_true true y e h = h
      of_true false y e h = absurd (no_false false e refl)

      of_false : (x : Bool) (p : Part) → x ≡ false → (x || (part_value a (negation p) || false)) ≡ true → part_value a p ≡ false
      of_false true p e h = absurd (no_false true refl e)
      of_false false p e h = not_true (part_value a p) (subst (λ b. (b || false) ≡ true) (negation_value a p) h)
        where
          not_true : (b : Bool) → (not b || false) ≡ true → b ≡ false
          not_true true h = absurd (no_false false h refl)
          not_true false h = refl

      split : (b : Bool) → a f ≡ b → a f ≡ list_any (part_value a) ps
      split true e = e ∙ sym (of_true (a f) (list_any (part_value a) ps) e at_last)
      split false e = e ∙ sym (any_each ps (λ k p g. of_false (a f) p e (holds k (literal f true ∷ negation p ∷ []) (at_part f false ps k p (Some (literal f false ∷ ps)) g))))

-- Truth values that make the answered literals true, or any for a tautology, make the parts true.
literal_in : (a : Atom → Bool) (ps : List Part) (l : Literal) → In (literals ps) l → literal_value a l ≡ true → is_true a ps ≡ true
literal_in a [] l h e = absurd h
literal_in a (Fixed true ∷ ps) l h e = refl
literal_in a (Fixed false ∷ ps) l h e = literal_in a ps l h e
literal_in a (Lit m ∷ ps) l (inl g) e = rw (ap (literal_value a) g ∙ e) refl
literal_in a (Lit m ∷ ps) l (inr h) e = rw (literal_in a ps l h e) (or_true (literal_value a m))
  where
    or_true : (b : Bool) → (b || true) ≡ true
    or_true true = refl
    or_true false = refl

pub finished_value : (a : Atom → Bool) (ps : List Part) (ls : List Literal) → finished (Some ps) ≡ Literals ls → list_any (literal_value a) ls ≡ true → is_true a ps ≡ true
finished_value a ps ls e h =
    let f = finished_as ps ls e in
    let r = any_some (literal_value a) ls h in
    literal_in a ps r.0 (literals_only (literals ps) r.0 (subst (λ xs. In xs r.0) (sym f.same) r.1)) r.2

pub tautology_value : (a : Atom → Bool) (ps : List Part) → finished (Some ps) ≡ Tautology → is_true a ps ≡ true
tautology_value a ps e = cases (list_any is_fixed_true ps) (list_any (λ l. among (literals ps) (opposite l)) (literals ps)) refl refl e
  where
    fixed : (qs : List Part) → list_any is_fixed_true qs ≡ true → is_true a qs ≡ true
    fixed qs h = let r = any_some is_fixed_true qs h in any_true (part_value a) qs r.0 r.1 (its r.0 r.2)
      where
        its : (p : Part) → is_fixed_true p ≡ true → part_value a p ≡ true
        its (Fixed b) h = h
        its (Lit l) h = absurd (no_false false h refl)

    one : (l : Literal) → (literal_value a l ≡ true) ⊎ (literal_value a (opposite l) ≡ true)
    one l = at l.positive (a l.atom)
      where
        at : (p b : Bool) → (signed p b ≡ true) ⊎ (signed (not p) b ≡ true)
        at true true = inl refl
        at true false = inr refl
        at false true = inr refl
        at false false = inl refl

    opposed : list_any (λ l. among (literals ps) (opposite l)) (literals ps) ≡ true → is_true a ps ≡ true
    opposed h =
        let r = any_some (λ l. among (literals ps) (opposite l)) (literals ps) h in
        let q = any_some (same_literal (opposite r.0)) (literals ps) r.2 in
        pick r.0 r.1 (subst (In (literals ps)) (sym (same_is (opposite r.0) q.0 q.2)) q.1) (one r.0)
      where
        pick : (l : Literal) → In (literals ps) l → In (literals ps) (opposite l) → (literal_value a l ≡ true) ⊎ (literal_value a (opposite l) ≡ true) → is_true a ps ≡ true
        pick l h g (inl e) = literal_in a ps l h e
        pick l h g (inr e) = literal_in a ps (opposite l) g e

    cases : (b c : Bool) → list_any is_fixed_true ps ≡ b → list_any (λ l. among (literals ps) (opposite l)) (literals ps) ≡ c → cond (b || c) Tautology (Literals (distinct (literals ps))) ≡ Tautology → is_true a ps ≡ true
    cases true c h g k = fixed ps h
    cases false true h g k = opposed g
    cases false false h g k = absurd (cc)

-- Values that agree with meanings.
pub iff_holds : (b : Bool) (P Q : Type 0) → P ↔ Q → HoldsIf b P → HoldsIf b Q
iff_holds true P Q e h = e.0 h
iff_holds false P Q e h = λ q. h (e.1 q)

module _ (M : Atom → Type 0) (a : Atom → Bool) where
  abbrev pub Agrees : Part → Type 0
  Agrees (Fixed b) = Unit {0}
  Agrees (Lit l) = HoldsIf (a l.atom) (M l.atom)

  pub part_agrees : (p : Part) → Agrees p → HoldsIf (part_value a p) (PartMeans M p)
  part_agrees (Fixed true) h = refl
  part_agrees (Fixed false) h = λ e. no_false false e refl
  part_agrees (Lit l) h = at l.positive (a l.atom) h
    where
      at : (p b : Bool) → HoldsIf b (M l.atom) → HoldsIf (signed p b) (HoldsIf p (M l.atom))
      at true b h = h
      at false true h = λ g. g h
      at false false h = h

  pub value_agrees : (every : Bool) (ps : List Part) → EachOf Agrees ps → HoldsIf (list_value a every ps) (ListMeans M every ps)
  value_agrees true [] h = tt
  value_agrees true (p ∷ ps) h = and_holds (part_value a p) (list_all (part_value a) ps) (part_agrees p h.0) (value_agrees true ps h.1)
    where
      and_holds : (b c : Bool) → HoldsIf b (PartMeans M p) → HoldsIf c (EachOf (PartMeans M) ps) → HoldsIf (b && c) (EachOf (PartMeans M) (p ∷ ps))
      and_holds true true f g = (f, g)
      and_holds true false f g = λ r. g r.1
      and_holds false c f g = λ r. f r.0
  value_agrees false [] h = λ g. g
  value_agrees false (p ∷ ps) h = or_holds (part_value a p) (list_any (part_value a) ps) (part_agrees p h.0) (value_agrees false ps h.1)
    where
      or_holds : (b c : Bool) → HoldsIf b (PartMeans M p) → HoldsIf c (SomeOf (PartMeans M) ps) → HoldsIf (b || c) (PartMeans M p ⊎ SomeOf (PartMeans M) ps)
      or_holds true c f g = inl f
      or_holds false true f g = inr g
      or_holds false false f g = neither
        where
          neither : PartMeans M p ⊎ SomeOf (PartMeans M) ps → ⊥
          neither (inl r) = f r
          neither (inr r) = g r

-- Four clauses that fix a value by two others and a third.
pub fixed_or : (h b c t : Bool) → (h || (not b || false)) ≡ true → (h || (not c || (not t || false))) ≡ true → (not h || (b || (c || false))) ≡ true → (not h || (b || (t || false))) ≡ true → h ≡ (b || (c && t))
fixed_or true true c t p q r s = refl
fixed_or true false true true p q r s = refl
fixed_or true false true false p q r s = absurd (no_false false s refl)
fixed_or true false false t p q r s = absurd (no_false false r refl)
fixed_or false true c t p q r s = absurd (no_false false p refl)
fixed_or false false true true p q r s = absurd (no_false false q refl)
fixed_or false false true false p q r s = refl
fixed_or false false false t p q r s = refl

pub or_holds : (b c t : Bool) (A B C D : Type 0) → HoldsIf b A → HoldsIf c B → HoldsIf t C → D ↔ (A ⊎ (B × C)) → HoldsIf (b || (c && t)) D
or_holds true c t A B C D a b f e = e.1 (inl a)
or_holds false true true A B C D a b f e = e.1 (inr (b, f))
or_holds false true false A B C D a b f e = λ d. split (e.0 d)
  where
    split : A ⊎ (B × C) → ⊥
    split (inl h) = a h
    split (inr h) = f h.1
or_holds false false t A B C D a b f e = λ d. split (e.0 d)
  where
    split : A ⊎ (B × C) → ⊥
    split (inl h) = a h
    split (inr h) = b h.0
