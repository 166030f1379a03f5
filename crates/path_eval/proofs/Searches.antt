-- A search that follows each thing that it finds finds exactly what walks from the starts lead to.
use Rattle.std.proofs.Common.{◌≡◌, ◌↔◌, ◌⊎◌, inl, inr, ℕ, ◌+◌, ◌<◌, ◌≤◌, List, [], ◌∷◌, ◌++◌, length, get_or, Contains, Some, slice_get, refl, sym, ap, ◌∙◌, subst, arith}
use Rattle.std.proofs.lemmas.Bool.{cases_lt}
use Rattle.std.proofs.lemmas.Option.{slice_get-get_or, slice_get_within}
use Rattle.digraph.specs.Walk.{IsWalk}
use Rattle.digraph.proofs.WalkLaws.{walk_more, walk_keeps}

pub place_of : {X : Type 0} (xs : List X) (x : X) → Contains xs x → (i : ℕ) × (i < length xs) × (slice_get xs i ≡ Some x)
place_of xs x c = (c.0, c.1, slice_get-get_or xs c.0 x c.1 ∙ ap Some c.2)

pub same_item : {X : Type 0} (x y : X) → Some x ≡ Some y → x ≡ y
same_item x y e = cc

module _ {X : Type 0} (T : X → X → Type 0) (Starts : X → Type 0) where
  -- a walk leads there from a start
  abbrev pub IsFound : X → Type 0
  IsFound y = (x : X) × Starts x × ((w : List X) × IsWalk T w x y)

  -- how far a search has come: what follows the first `next` things is there
  pub record IsSearch (found : List X) (next : ℕ) : Type 0 where
    pub start : (x : X) → Starts x → Contains found x
    pub sound : (y : X) → Contains found y → IsFound y
    pub closed : (i : ℕ) (x y : X) → i < next → slice_get found i ≡ Some x → T x y → Contains found y

  pub search_start : (found : List X) → ((x : X) → Contains found x ↔ Starts x) → IsSearch found 0
  search_start found e = record { start = λ x s. (e x).1 s; sound = λ y c. (y, (e y).0 c, ([], refl)); closed = λ i x y l _ _. absurd (omega (arith, l)) }

  pub search_next : (old new : List X) (next : ℕ) (here : X) → IsSearch old next → slice_get old next ≡ Some here
      → ((i : ℕ) → i < length old → slice_get new i ≡ slice_get old i) → ((y : X) → Contains new y ↔ (Contains old y ⊎ T here y)) → IsSearch new (next + 1)
  search_next old new next here s is kept exact = record {
    start = λ x h. (exact x).1 (inl (s.start x h));
    sound = λ y c. sound y ((exact y).0 c);
    closed = λ i x y l e t. closed i x y (cases_lt i next) l e t;
  }
    where
      lt : next < length old
      lt = slice_get_within old next here is

      sound : (y : X) → Contains old y ⊎ T here y → IsFound y
      sound y (inl c) = s.sound y c
      sound y (inr t) =
          let f = s.sound here (next, lt, there) in
          (f.0, f.1, (f.2.0 ++ y ∷ [], walk_more T f.2.0 f.0 here y f.2.1 t))
        where
          there : get_or old next here ≡ here
          there = same_item (get_or old next here) here (sym (slice_get-get_or old next here lt) ∙ is)

      closed : (i : ℕ) (x y : X) → (i < next) ⊎ (next ≤ i) → i < next + 1 → slice_get new i ≡ Some x → T x y → Contains new y
      closed i x y (inl m) l e t = (exact y).1 (inl (s.closed i x y m (sym (kept i (omega (arith, m, lt))) ∙ e) t))
      closed i x y (inr m) l e t =
          let same : i ≡ next = omega (arith, m, l) in
          let z : here ≡ x = same_item here x (sym is ∙ (sym (kept next lt) ∙ (ap (slice_get new) (sym same) ∙ e))) in
          (exact y).1 (inr (subst (λ u. T u y) (sym z) t))

  pub search_end : (found : List X) (next : ℕ) → IsSearch found next → length found ≤ next → (y : X) → Contains found y ↔ IsFound y
  search_end found next s l y = (s.sound y, λ f. walk_keeps T (Contains found) keep f.2.0 f.0 y f.2.1 (s.start f.0 f.1))
    where
      keep : (u v : X) → Contains found u → T u v → Contains found v
      keep u v c t = let p = place_of found u c in let k = p.1 in s.closed p.0 u v (omega (arith, k, l)) p.2 t
