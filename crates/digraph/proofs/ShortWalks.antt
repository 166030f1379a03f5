-- A walk can be cut down to one that visits no place twice, so that it has fewer steps than any list of all its places has items.
use Rattle.std.proofs.Common.{◌≡◌, ℕ, zero, suc, ◌<◌, ◌≤◌, ◌⊎◌, inl, inr, Bool, true, false, cond, ◌||◌, List, [], ◌∷◌, Contains, length, refl, sym, ap, ◌∙◌, subst, arith}
use Rattle.std.proofs.lemmas.Bool.{false≢true}
use Rattle.std.specs.List.{list_any, AllByRecursion}
use Rattle.digraph.specs.Walk.{IsWalk}
use Rattle.digraph.proofs.Members.{Contains-none, Contains-head, Contains-tail, Contains-cases}

module _ {X : Type 0} (R : X → X → Type 0) where
  -- what the start has and each step keeps, each place of the walk has
  pub walk_visits : (P : X → Type 0) → ((u v : X) → P u → R u v → P v) → (zs : List X) (x y : X) → IsWalk R zs x y → P x → (u : X) → Contains (x ∷ zs) u → P u
  walk_visits P keep [] x y w p u c = at (Contains-cases [] x u c)
    where
      at : (x ≡ u) ⊎ Contains [] u → P u
      at (inl e) = subst P e p
      at (inr c) = absurd (Contains-none u c)
  walk_visits P keep (z ∷ zs) x y w p u c = at (Contains-cases (z ∷ zs) x u c) (λ d. walk_visits P keep zs z y w.1 (keep x z p w.0) u d)
    where
      at : (x ≡ u) ⊎ Contains (z ∷ zs) u → (Contains (z ∷ zs) u → P u) → P u
      at (inl e) more = subst P e p
      at (inr d) more = more d

module _ {X : Type 0} (eq : X → X → Bool) where
  -- whether z equals an item
  abbrev among : List X → X → Bool
  among xs z = list_any (λ x. eq z x) xs

  -- the list without z
  abbrev apart : List X → X → List X
  apart [] z = []
  apart (x ∷ xs) z = cond (eq z x) (apart xs z) (x ∷ apart xs z)

  abbrev AllAmong : List X → List X → Type 0
  AllAmong U zs = AllByRecursion (λ u. among U u ≡ true) zs

  apart_le : (us : List X) (x : X) → length (apart us x) ≤ length us
  apart_le [] x = omega arith
  apart_le (u ∷ us) x = at (eq x u) (apart_le us x)
    where
      at : (b : Bool) → length (apart us x) ≤ length us → length (cond b (apart us x) (u ∷ apart us x)) ≤ length (u ∷ us)
      at true l = omega arith
      at false l = omega arith

  apart_lt : (us : List X) (x : X) → among us x ≡ true → length (apart us x) < length us
  apart_lt [] x h = absurd (false≢true h)
  apart_lt (u ∷ us) x h = at (eq x u) h (λ e. apart_lt us x e)
    where
      at : (b : Bool) → (b || among us x) ≡ true → (among us x ≡ true → length (apart us x) < length us) → length (cond b (apart us x) (u ∷ apart us x)) < length (u ∷ us)
      at true e more = let l = apart_le us x in omega arith
      at false e more = let l = more e in omega arith

  module _ (is : (a b : X) → eq a b ≡ true → a ≡ b) where
    among-apart : (us : List X) (x z : X) → among us z ≡ true → eq x z ≡ false → among (apart us x) z ≡ true
    among-apart [] x z h n = absurd (false≢true h)
    among-apart (u ∷ us) x z h n = at (eq x u) refl (eq z u) refl h (λ e. among-apart us x z e n)
      where
        at : (b : Bool) → eq x u ≡ b → (c : Bool) → eq z u ≡ c → (c || among us z) ≡ true → (among us z ≡ true → among (apart us x) z ≡ true) → among (cond b (apart us x) (u ∷ apart us x)) z ≡ true
        at true e true f g more = absurd (false≢true (sym n ∙ (ap (eq x) (is z u f) ∙ e)))
        at true e false f g more = more g
        at false e true f g more = ap (λ c. c || among (apart us x) z) f
        at false e false f g more = ap (λ c. c || among (apart us x) z) f ∙ more g

    module _ (itself : (a : X) → eq a a ≡ true) (R : X → X → Type 0) where
      -- a walk from x that never comes back to it
      abbrev Leaves : List X → X → X → Type 0
      Leaves U x y = (z : X) × (zs : List X) × R x z × IsWalk R zs z y × (among (z ∷ zs) x ≡ false) × AllAmong U (z ∷ zs)

      -- from the last visit of x on
      last_visit : (U : List X) (zs : List X) (w x y : X) → IsWalk R zs w y → AllAmong U (w ∷ zs) → (among (w ∷ zs) x ≡ false) ⊎ ((x ≡ y) ⊎ Leaves U x y)
      last_visit U [] w x y h e = at (eq x w) refl
        where
          at : (b : Bool) → eq x w ≡ b → ((b || false) ≡ false) ⊎ ((x ≡ y) ⊎ Leaves U x y)
          at true f = inr (inl (is x w f ∙ h))
          at false f = inl refl
      last_visit U (z ∷ zs) w x y h e = at (last_visit U zs z x y h.1 e.1) (eq x w) refl
        where
          at : (among (z ∷ zs) x ≡ false) ⊎ ((x ≡ y) ⊎ Leaves U x y) → (b : Bool) → eq x w ≡ b → ((b || among (z ∷ zs) x) ≡ false) ⊎ ((x ≡ y) ⊎ Leaves U x y)
          at (inr r) b f = inr r
          at (inl never) true f = inr (inr (z, zs, subst (λ u. R u z) (sym (is x w f)) h.0, h.1, never, e.1))
          at (inl never) false f = inl never

      stays : (U zs : List X) (x : X) → among zs x ≡ false → AllAmong U zs → AllAmong (apart U x) zs
      stays U [] x n e = tt
      stays U (z ∷ zs) x n e = at (eq x z) refl n (λ m. stays U zs x m e.1)
        where
          at : (b : Bool) → eq x z ≡ b → (b || among zs x) ≡ false → (among zs x ≡ false → AllAmong (apart U x) zs) → AllAmong (apart U x) (z ∷ zs)
          at true f m more = absurd (false≢true (sym m))
          at false f m more = (among-apart U x z e.0 f, more m)

      shorten : (n : ℕ) (U : List X) → length U ≤ n → (zs : List X) (x y : X) → IsWalk R zs x y → AllAmong U (x ∷ zs) → (us : List X) × IsWalk R us x y × (length us < length U)
      shorten zero U le zs x y w e = let l = apart_lt U x e.0 in absurd (omega arith)
      shorten (suc n) U le zs x y w e = at (last_visit U zs x x y w e) (λ le2 us z h f. shorten n (apart U x) le2 us z y h f)
        where
          less : length (apart U x) < length U
          less = apart_lt U x e.0

          at : (among (x ∷ zs) x ≡ false) ⊎ ((x ≡ y) ⊎ Leaves U x y)
              → (length (apart U x) ≤ n → (us : List X) (z : X) → IsWalk R us z y → AllAmong (apart U x) (z ∷ us) → (vs : List X) × IsWalk R vs z y × (length vs < length (apart U x)))
              → (us : List X) × IsWalk R us x y × (length us < length U)
          at (inl never) more = absurd (false≢true (sym never ∙ ap (λ b. b || among zs x) (itself x)))
          at (inr (inl same)) more = ([], same, omega (arith, less))
          at (inr (inr a)) more =
              let l = less in
              let r = more (omega arith) a.1 a.0 a.3 (stays U (a.0 ∷ a.1) x a.4 a.5) in
              let m = r.2 in
              (a.0 ∷ r.0, (a.2, r.1), omega arith)

      among_of : (U : List X) (u : X) → Contains U u → among U u ≡ true
      among_of [] u c = absurd (Contains-none u c)
      among_of (v ∷ U) u c = at (Contains-cases U v u c) (λ d. among_of U u d)
        where
          or_true : (b : Bool) → (b || true) ≡ true
          or_true true = refl
          or_true false = refl

          at : (v ≡ u) ⊎ Contains U u → (Contains U u → among U u ≡ true) → (eq u v || among U u) ≡ true
          at (inl e) more = ap (λ b. b || among U u) (subst (λ t. eq t v ≡ true) e (itself v))
          at (inr d) more = ap (λ b. eq u v || b) (more d) ∙ or_true (eq u v)

      all_among : (U zs : List X) → ((u : X) → Contains zs u → Contains U u) → AllAmong U zs
      all_among U [] h = tt
      all_among U (z ∷ zs) h = (among_of U z (h z (Contains-head zs z)), all_among U zs (λ u c. h u (Contains-tail zs z u c)))

      -- within a list of places, from start to end, a walk leads in fewer steps than these are
      pub short_walk : (U zs : List X) (x y : X) → IsWalk R zs x y → ((u : X) → Contains (x ∷ zs) u → Contains U u) → (us : List X) × IsWalk R us x y × (length us < length U)
      short_walk U zs x y w h = shorten (length U) U (omega arith) zs x y w (all_among U (x ∷ zs) h)
