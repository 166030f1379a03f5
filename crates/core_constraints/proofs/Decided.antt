-- Answers to questions, and what is true of each or some of a list.
use Rattle.std.proofs.Common.{◌≡◌, ℕ, zero, suc, ◌<◌, ◌≤◌, ◌↔◌, Bool, true, false, not, List, [], ◌∷◌, length, take, Contains, Some, slice_get, Result, Ok, Err, IfOk, refl, sym, ap, subst, ◌⊎◌, inl, inr, arith}
use Rattle.rdf_terms.proofs.Members.{in_none, in_first, in_rest, in_cases}
use Rattle.shapes_profile.specs.Logic.{EachOf, SomeOf}
use Rattle.core_constraints.specs.Decisions.{Says}

pub same : {P : Type 0} → P ↔ P
same = (λ h. h, λ h. h)

pub not_iff : {P Q : Type 0} → P ↔ Q → (¬ P) ↔ (¬ Q)
not_iff e = (λ h q. h (e.1 q), λ h p. h (e.0 p))

pub no_false : (b : Bool) → b ≡ true → b ≡ false → ⊥
no_false true h e = cc
no_false false h e = cc

pub true_or_false : (b : Bool) → (b ≡ true) ⊎ (b ≡ false)
true_or_false true = inl refl
true_or_false false = inr refl

pub false_of : (b : Bool) → ¬ (b ≡ true) → b ≡ false
false_of true h = absurd (h refl)
false_of false h = refl

pub says_iff : (b : Bool) (P Q : Type 0) → P ↔ Q → Says b P → Says b Q
says_iff true P Q e h = e.0 h
says_iff false P Q e h = λ q. h (e.1 q)

pub says_true : (b : Bool) (P : Type 0) → Says b P → b ≡ true → P
says_true true P h e = h
says_true false P h e = cc

pub says_false : (b : Bool) (P : Type 0) → Says b P → b ≡ false → ¬ P
says_false true P h e = cc
says_false false P h e = h

pub says_of : (b : Bool) (P : Type 0) → (b ≡ true → P) → (b ≡ false → ¬ P) → Says b P
says_of true P f g = f refl
says_of false P f g = g refl

pub says_not : (b : Bool) (P : Type 0) → Says b P → Says (not b) (¬ P)
says_not true P h = λ n. n h
says_not false P h = h

pub says_is : (b : Bool) (P : Type 0) → (b ≡ true) ↔ P → Says b P
says_is b P e = says_of b P (λ h. e.0 h) (λ h p. no_false b (e.1 p) h)

pub is_says : (b : Bool) (P : Type 0) → Says b P → (b ≡ true) ↔ P
is_says true P h = (λ e. h, λ p. refl)
is_says false P h = (λ e. cc, λ p. absurd (h p))

pub each_in : {X : Type 0} (P Q : X → Type 0) (xs : List X) → ((x : X) → Contains xs x → P x ↔ Q x) → EachOf P xs ↔ EachOf Q xs
each_in P Q [] e = same
each_in P Q (x ∷ xs) e = let r = each_in P Q xs (λ y h. e y (in_rest x xs y h)) in let f = e x (in_first x xs) in (λ h. (f.0 h.0, r.0 h.1), λ h. (f.1 h.0, r.1 h.1))

pub some_in : {X : Type 0} (P Q : X → Type 0) (xs : List X) → ((x : X) → Contains xs x → P x → Q x) → SomeOf P xs → SomeOf Q xs
some_in P Q [] e h = h
some_in P Q (x ∷ xs) e (inl h) = inl (e x (in_first x xs) h)
some_in P Q (x ∷ xs) e (inr h) = inr (some_in P Q xs (λ y g. e y (in_rest x xs y g)) h)

pub each_at : {X : Type 0} (P : X → Type 0) (xs : List X) (y : X) → EachOf P xs → Contains xs y → P y
each_at P [] y all h = absurd (in_none y h)
each_at {X} P (x ∷ xs) y all h = split (λ k. each_at P xs y all.1 k) (in_cases x xs y h)
  where
    split : (Contains xs y → P y) → (x ≡ y) ⊎ Contains xs y → P y
    split on (inl e) = subst P e all.0
    split on (inr k) = on k

pub each_of : {X : Type 0} (P : X → Type 0) (xs : List X) → ((x : X) → Contains xs x → P x) → EachOf P xs
each_of P [] all = tt
each_of P (x ∷ xs) all = (all x (in_first x xs), each_of P xs (λ y h. all y (in_rest x xs y h)))

pub some_at : {X : Type 0} (P : X → Type 0) (xs : List X) (y : X) → Contains xs y → P y → SomeOf P xs
some_at P [] y h p = absurd (in_none y h)
some_at {X} P (x ∷ xs) y h p = split (λ k. some_at P xs y k p) (in_cases x xs y h)
  where
    split : (Contains xs y → SomeOf P xs) → (x ≡ y) ⊎ Contains xs y → P x ⊎ SomeOf P xs
    split on (inl e) = inl (subst P (sym e) p)
    split on (inr k) = inr (on k)

pub none_some : {X : Type 0} (P : X → Type 0) (xs : List X) → EachOf (λ x. ¬ (P x)) xs → ¬ (SomeOf P xs)
none_some P [] h g = g
none_some P (x ∷ xs) h (inl g) = h.0 g
none_some P (x ∷ xs) h (inr g) = none_some P xs h.1 g

pub none_each : {X : Type 0} (P : X → Type 0) (xs : List X) → ¬ (SomeOf P xs) → EachOf (λ x. ¬ (P x)) xs
none_each P [] h = tt
none_each P (x ∷ xs) h = (λ p. h (inl p), none_each P xs (λ g. h (inr g)))

pub take_whole : {X : Type 0} (xs : List X) (n : ℕ) → length xs ≤ n → take n xs ≡ xs
take_whole [] zero le = refl
take_whole [] (suc n) le = refl
take_whole (x ∷ xs) zero le = absurd (omega arith)
take_whole (x ∷ xs) (suc n) le = ap (λ ys. x ∷ ys) (take_whole xs n (omega arith))

pub in_at : {X : Type 0} (xs : List X) (k : ℕ) (y : X) → slice_get xs k ≡ Some y → Contains xs y
in_at [] k y e = cc
in_at (x ∷ xs) zero y e = let d : x ≡ y = cc in subst (λ z. Contains (x ∷ xs) z) d (in_first x xs)
in_at (x ∷ xs) (suc k) y e = in_rest x xs y (in_at xs k y e)

pub in_place : {X : Type 0} (xs : List X) (y : X) → Contains xs y → (k : ℕ) × (slice_get xs k ≡ Some y)
in_place [] y h = absurd (in_none y h)
in_place {X} (x ∷ xs) y h = split (λ k. in_place xs y k) (in_cases x xs y h)
  where
    split : (Contains xs y → (k : ℕ) × (slice_get xs k ≡ Some y)) → (x ≡ y) ⊎ Contains xs y → (k : ℕ) × (slice_get (x ∷ xs) k ≡ Some y)
    split on (inl e) = (0, ap Some e)
    split on (inr k) = let r = on k in (suc r.0, r.1)

-- the first j items
pub in_take_more : {X : Type 0} (items : List X) (j : ℕ) (y : X) → Contains (take j items) y → Contains (take (suc j) items) y
in_take_more [] zero y h = absurd (in_none y h)
in_take_more [] (suc j) y h = absurd (in_none y h)
in_take_more (x ∷ xs) zero y h = absurd (in_none y h)
in_take_more {X} (x ∷ xs) (suc j) y h = split (λ k. in_take_more xs j y k) (in_cases x (take j xs) y h)
  where
    split : (Contains (take j xs) y → Contains (take (suc j) xs) y) → (x ≡ y) ⊎ Contains (take j xs) y → Contains (x ∷ take (suc j) xs) y
    split on (inl e) = subst (λ z. Contains (x ∷ take (suc j) xs) z) e (in_first x (take (suc j) xs))
    split on (inr k) = in_rest x (take (suc j) xs) y (on k)

pub in_take_next : {X : Type 0} (items : List X) (j : ℕ) (z y : X) → slice_get items j ≡ Some z → Contains (take (suc j) items) y → (z ≡ y) ⊎ Contains (take j items) y
in_take_next [] zero z y e h = absurd (in_none y h)
in_take_next [] (suc j) z y e h = absurd (in_none y h)
in_take_next {X} (x ∷ xs) zero z y e h = split (in_cases x [] y h)
  where
    split : (x ≡ y) ⊎ Contains [] y → (z ≡ y) ⊎ Contains [] y
    split (inl f) = inl cc
    split (inr k) = inr k
in_take_next {X} (x ∷ xs) (suc j) z y e h = split (λ k. in_take_next xs j z y e k) (in_cases x (take (suc j) xs) y h)
  where
    later : (z ≡ y) ⊎ Contains (take j xs) y → (z ≡ y) ⊎ Contains (x ∷ take j xs) y
    later (inl g) = inl g
    later (inr g) = inr (in_rest x (take j xs) y g)

    split : (Contains (take (suc j) xs) y → (z ≡ y) ⊎ Contains (take j xs) y) → (x ≡ y) ⊎ Contains (take (suc j) xs) y → (z ≡ y) ⊎ Contains (x ∷ take j xs) y
    split on (inl f) = inr (subst (λ w. Contains (x ∷ take j xs) w) f (in_first x (take j xs)))
    split on (inr k) = later (on k)

pub in_take_this : {X : Type 0} (items : List X) (j : ℕ) (z : X) → slice_get items j ≡ Some z → Contains (take (suc j) items) z
in_take_this [] j z e = cc
in_take_this (x ∷ xs) zero z e = let d : x ≡ z = cc in subst (λ w. Contains (x ∷ []) w) d (in_first x [])
in_take_this (x ∷ xs) (suc j) z e = in_rest x (take (suc j) xs) z (in_take_this xs j z e)

pub in_take_none : {X : Type 0} (items : List X) (y : X) → ¬ (Contains (take 0 items) y)
in_take_none [] y h = in_none y h
in_take_none (x ∷ xs) y h = in_none y h

-- no item stands at two places
abbrev pub Distinct : {X : Type 0} → List X → Type 0
Distinct {X} items = (j k : ℕ) (y : X) → slice_get items j ≡ Some y → slice_get items k ≡ Some y → j ≡ k

pub in_take_place : {X : Type 0} (items : List X) (j : ℕ) (y : X) → Contains (take j items) y → (k : ℕ) × (k < j) × (slice_get items k ≡ Some y)
in_take_place [] zero y h = absurd (in_none y h)
in_take_place [] (suc j) y h = absurd (in_none y h)
in_take_place (x ∷ xs) zero y h = absurd (in_none y h)
in_take_place {X} (x ∷ xs) (suc j) y h = split (λ k. in_take_place xs j y k) (in_cases x (take j xs) y h)
  where
    split : (Contains (take j xs) y → (k : ℕ) × (k < j) × (slice_get xs k ≡ Some y)) → (x ≡ y) ⊎ Contains (take j xs) y → (k : ℕ) × (k < suc j) × (slice_get (x ∷ xs) k ≡ Some y)
    split on (inl e) = (0, omega arith, ap Some e)
    split on (inr k) = let r = on k in let lt = r.1 in (suc r.0, omega arith, r.2)

pub if_ok_more : {X E : Type 0} (P Q : X → Type 0) → ((x : X) → P x → Q x) → (r : Result X E) → IfOk r P → IfOk r Q
if_ok_more P Q f (Ok x) h = f x h
if_ok_more P Q f (Err e) h = h
