-- The values that a solver has found, and the change that they stand for.
use Rattle.std.proofs.Common.{◌≡◌, ◌≢◌, ◌⊎◌, inl, inr, ℕ, zero, suc, ◌+◌, ◌<◌, ◌≤◌, Bool, true, false, not, ◌&&◌, ◌||◌, nat_eq, IsTrue, List, [], ◌∷◌, map, length, Contains, Some, slice_get, refl, sym, ap, ◌∙◌, subst, eq-eqb, arith}
use Rattle.std.specs.List.{list_any}
use Rattle.rdf_terms.proofs.Members.{in_none, in_first, in_rest, in_cases}
use Rattle.clause_store.specs.declared.lit.Lit.{Lit}
use Rattle.clause_store.specs.Clauses.{has, opposite, lit_eq, sign_eq, mentions, is_clause}
use Rattle.clause_store.proofs.Sets.{never, true_or_false, same_signs, or_cases, or_first, or_second}
use Rattle.sat_core.specs.Solving.{Solving, assigned, is_known, HasEmpty, IsModel}
use Rattle.count_encode.specs.PartTruth.{signed}
use Rattle.atom_parts.specs.PartLiterals.{In}
use Rattle.atom_numbers.proofs.Clauses.{has_in, in_has, lit_same, one_literal, mention_in}
use Rattle.clause_ground.specs.Models.{lit_value, AreTrue}
use Rattle.shrink_pair.proofs.Listed.{place_of}

-- the value of a variable: whether it is among the literals that are true
abbrev pub value_in : List Lit → ℕ → Bool
value_in trail v = has trail (record { var = v; positive = true })

module _ (trail : List Lit) (once : is_clause trail ≡ true) where
  -- what is true isn't false
  pub not_both : (l : Lit) → has trail l ≡ true → has trail (opposite l) ≡ true → ⊥
  not_both l h g = let e = one_literal trail l (opposite l) once (has_in trail l h) (has_in trail (opposite l) g) refl in sign l.positive (ap (λ (x : Lit). x.positive) e)
    where
      sign : (b : Bool) → b ≡ not b → ⊥
      sign true f = never refl f
      sign false f = never f refl

  -- a literal that is true has the value true
  pub true_value : (l : Lit) → has trail l ≡ true → lit_value (value_in trail) l ≡ true
  true_value l h = at l.positive refl
    where
      at : (b : Bool) → l.positive ≡ b → signed b (value_in trail l.var) ≡ true
      at true e = subst (λ x. has trail x ≡ true) (lit_same l (record { var = l.var; positive = true }) refl e) h
      at false e = pick (true_or_false (value_in trail l.var))
        where
          pick : (value_in trail l.var ≡ true) ⊎ (value_in trail l.var ≡ false) → not (value_in trail l.var) ≡ true
          pick (inl g) = absurd (not_both l h (subst (λ x. has trail x ≡ true) (lit_same (record { var = l.var; positive = true }) (opposite l) refl (sym (ap not e))) g))
          pick (inr g) = ap not g

  -- a literal of an assigned variable that isn't true is false
  pub or_opposite : (l : Lit) → mentions trail l.var ≡ true → (has trail l ≡ true) ⊎ (has trail (opposite l) ≡ true)
  or_opposite l m = let r = mention_in trail l.var m in at r.0 r.1 r.2 (true_or_false (sign_eq r.0.positive l.positive))
    where
      at : (q : Lit) → Contains trail q → q.var ≡ l.var → (sign_eq q.positive l.positive ≡ true) ⊎ (sign_eq q.positive l.positive ≡ false) → (has trail l ≡ true) ⊎ (has trail (opposite l) ≡ true)
      at q k v (inl e) = inl (in_has trail l (subst (Contains trail) (lit_same q l v (same_signs q.positive l.positive e)) k))
      at q k v (inr e) = inr (in_has trail (opposite l) (subst (Contains trail) (lit_same q (opposite l) v (swap q.positive l.positive e)) k))
        where
          swap : (a b : Bool) → sign_eq a b ≡ false → a ≡ not b
          swap true true g = never refl g
          swap true false g = refl
          swap false true g = refl
          swap false false g = never refl g

-- a value of a list that is true of some item
some_value : (v : ℕ → Bool) (c : List Lit) (l : Lit) → Contains c l → lit_value v l ≡ true → list_any (lit_value v) c ≡ true
some_value v [] l k e = absurd (in_none l k)
some_value v (m ∷ c) l k e = split (in_cases m c l k) (some_value v c l)
  where
    split : (m ≡ l) ⊎ Contains c l → (Contains c l → lit_value v l ≡ true → list_any (lit_value v) c ≡ true) → (lit_value v m || list_any (lit_value v) c) ≡ true
    split (inl f) on = or_first (lit_value v m) (list_any (lit_value v) c) (ap (lit_value v) f ∙ e)
    split (inr r) on = or_second (lit_value v m) (list_any (lit_value v) c) (on r e)

module _ (s : Solving) (model : IsModel s) where
  pub clause_true : (c : List Lit) → Contains s.clauses c → (l : Lit) × (has c l ≡ true) × (has (assigned s) l ≡ true)
  clause_true c k = let i = place_of s.clauses c k in model.all_true i.0 c i.1

  -- some literal of each clause is true
  pub clauses_true : (c : List Lit) → Contains s.clauses c → list_any (lit_value (value_in (assigned s))) c ≡ true
  clauses_true c k = let r = clause_true c k in some_value (value_in (assigned s)) c r.0 (has_in c r.0 r.1) (true_value (assigned s) model.once r.0 r.2)

  pub model_full : ¬ (HasEmpty s.clauses)
  model_full h = let r = model.all_true h.0 [] h.1 in never r.1 refl

  -- each variable of a clause is assigned
  pub known_assigned : (c : List Lit) (l : Lit) → Contains s.clauses c → Contains c l → IsTrue (mentions (assigned s) l.var)
  known_assigned c l k h = model.all_known l.var (known s.clauses c k refl)
    where
      own : mentions c l.var ≡ true
      own = at c h
        where
          at : (d : List Lit) → Contains d l → mentions d l.var ≡ true
          at [] g = absurd (in_none l g)
          at (m ∷ d) g = split (in_cases m d l g) (at d)
            where
              split : (m ≡ l) ⊎ Contains d l → (Contains d l → mentions d l.var ≡ true) → (nat_eq m.var l.var || mentions d l.var) ≡ true
              split (inl e) on = or_first (nat_eq m.var l.var) (mentions d l.var) (eq-eqb m.var l.var (ap (λ (x : Lit). x.var) e))
              split (inr r) on = or_second (nat_eq m.var l.var) (mentions d l.var) (on r)

      known : (cs : List (List Lit)) (d : List Lit) → Contains cs d → d ≡ c → is_known cs l.var ≡ true
      known [] d g e = absurd (in_none d g)
      known (x ∷ cs) d g e = split (in_cases x cs d g) (known cs d)
        where
          split : (x ≡ d) ⊎ Contains cs d → (Contains cs d → d ≡ c → is_known cs l.var ≡ true) → (mentions x l.var || is_known cs l.var) ≡ true
          split (inl f) on = or_first (mentions x l.var) (is_known cs l.var) (ap (λ y. mentions y l.var) (f ∙ e) ∙ own)
          split (inr r) on = or_second (mentions x l.var) (is_known cs l.var) (on r e)
