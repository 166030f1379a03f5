-- A trail with one entry more.
use Rattle.std.proofs.Common.{◌≡◌, ◌↔◌, ℕ, zero, suc, ◌<◌, Bool, true, false, ◌||◌, nat_eq, IsTrue, List, [], ◌∷◌, ◌++◌, length, take, slice_get, Some, None, refl, sym, ap, ◌∙◌, ◌⊎◌, inl, inr, arith, eq-eqb, ne_eqb, length-append}
use Rattle.std.proofs.lemmas.List.{take-append-le}
use Rattle.std.specs.List.{list_any}
use Rattle.clause_store.specs.declared.lit.Lit.{Lit}
use Rattle.clause_store.specs.Clauses.{mentions}
use Rattle.clause_store.proofs.Sets.{or_first, or_second}
use Rattle.sat_core.specs.declared.trail.Entry.{Entry}
use Rattle.sat_core.specs.Assignments.{IsAtRest}
use Rattle.sat_core.specs.Solving.{lits_of}
use Rattle.sat_core.specs.Trail.{IsTrail, IsImplied}

-- an item of a list with one more is the new one, or one of before
pub record Before {X : Type 0} (xs : List X) (k : ℕ) (x new : X) : Type 0 where
  pub within : k < length xs
  pub here : slice_get xs k ≡ Some x
  pub prefix : take k (xs ++ new ∷ []) ≡ take k xs

pub record Last {X : Type 0} (xs : List X) (k : ℕ) (x new : X) : Type 0 where
  pub place : k ≡ length xs
  pub is : x ≡ new
  pub prefix : take k (xs ++ new ∷ []) ≡ xs

pub some_same : {X : Type 0} {x y : X} → Some x ≡ Some y → x ≡ y
some_same e = cc

pub none_some : {X : Type 0} {x : X} → None ≡ Some x → ⊥
none_some e = cc

pub one_more : {X : Type 0} (xs : List X) (k : ℕ) (x new : X) → slice_get (xs ++ new ∷ []) k ≡ Some x → Before xs k x new ⊎ Last xs k x new
one_more [] zero x new e = inr (record { place = refl; is = sym (some_same e); prefix = refl })
one_more [] (suc k) x new e = absurd (none_some e)
one_more (y ∷ xs) zero x new e = inl (record { within = omega arith; here = e; prefix = refl })
one_more (y ∷ xs) (suc k) x new e = more (one_more xs k x new e)
  where
    more : Before xs k x new ⊎ Last xs k x new → Before (y ∷ xs) (suc k) x new ⊎ Last (y ∷ xs) (suc k) x new
    more (inl b) = let lt = b.within in inl (record { within = omega (arith, lt); here = b.here; prefix = ap (λ z. y ∷ z) b.prefix })
    more (inr l) = let at = l.place in inr (record { place = omega (arith, at); is = l.is; prefix = ap (λ z. y ∷ z) l.prefix })

pub take_all : {X : Type 0} (xs : List X) → take (length xs) xs ≡ xs
take_all [] = refl
take_all (x ∷ xs) = ap (λ z. x ∷ z) (take_all xs)

pub any-append : {X : Type 0} (f : X → Bool) (xs : List X) (x : X) → list_any f (xs ++ x ∷ []) ≡ (list_any f xs || (f x || false))
any-append f [] x = refl
any-append f (y ∷ xs) x = ap (λ b. f y || b) (any-append f xs x) ∙ turn (f y) (list_any f xs) (f x || false)
  where
    turn : (a b c : Bool) → (a || (b || c)) ≡ ((a || b) || c)
    turn true b c = refl
    turn false b c = refl

-- a decision at rest
pub decided_trail : (cs : List (List Lit)) (t : List Entry) (starts : List ℕ) (new : Entry) → IsTrail cs t starts → new.reason ≡ None → mentions (lits_of t) new.lit.var ≡ false → IsTrue (list_any (λ c. mentions c new.lit.var) cs)
    → IsAtRest (lits_of t) cs → IsTrail cs (t ++ new ∷ []) (starts ++ length t ∷ [])
decided_trail cs t starts new h open_one free known rest =
    record {
      free = λ k e get. free_at k e (one_more t k e new get);
      known = λ k e get. known_at k e (one_more t k e new get);
      implied = λ k e get. implied_at k e (one_more t k e new get);
      decided = λ k e get. decided_at k e (one_more t k e new get);
      within = λ j k get. within_at j k (one_more starts j k (length t) get);
      rising = λ i j m n lt f g. rising_at i j m n lt (one_more starts i m (length t) f) (one_more starts j n (length t) g);
      rest = λ j k get. rest_at j k (one_more starts j k (length t) get);
    }
  where
    free_at : (k : ℕ) (e : Entry) → Before t k e new ⊎ Last t k e new → mentions (lits_of (take k (t ++ new ∷ []))) e.lit.var ≡ false
    free_at k e (inl b) = rw b.prefix (h.free k e b.here)
    free_at k e (inr l) = rw (l.prefix, l.is) free

    known_at : (k : ℕ) (e : Entry) → Before t k e new ⊎ Last t k e new → IsTrue (list_any (λ c. mentions c e.lit.var) cs)
    known_at k e (inl b) = h.known k e b.here
    known_at k e (inr l) = rw l.is known

    implied_at : (k : ℕ) (e : Entry) → Before t k e new ⊎ Last t k e new → IsImplied cs (lits_of (take k (t ++ new ∷ []))) e.lit e.reason
    implied_at k e (inl b) = rw b.prefix (h.implied k e b.here)
    implied_at k e (inr l) = rw (l.is, open_one) tt

    within_at : (j k : ℕ) → Before starts j k (length t) ⊎ Last starts j k (length t) → k < length (t ++ new ∷ [])
    within_at j k (inl b) = let lt = h.within j k b.here in rw (length-append t (new ∷ [])) (omega (arith, lt))
    within_at j k (inr l) = let e = l.is in rw (length-append t (new ∷ [])) (omega (arith, e))

    rest_at : (j k : ℕ) → Before starts j k (length t) ⊎ Last starts j k (length t) → IsAtRest (lits_of (take k (t ++ new ∷ []))) cs
    rest_at j k (inl b) = rw (before_take k (h.within j k b.here)) (h.rest j k b.here)
      where
        before_take : (k : ℕ) → k < length t → take k (t ++ new ∷ []) ≡ take k t
        before_take k lt = take-append-le k t (new ∷ []) (omega arith)
    rest_at j k (inr l) = rw (l.is, take-append-le (length t) t (new ∷ []) (omega arith), take_all t) rest

    or_nothing : (b : Bool) → (b || false) ≡ b
    or_nothing true = refl
    or_nothing false = refl

    decided_at : (k : ℕ) (e : Entry) → Before t k e new ⊎ Last t k e new → (e.reason ≡ None) ↔ IsTrue (list_any (nat_eq k) (starts ++ length t ∷ []))
    decided_at k e (inl b) =
        let lt = b.within in
        let apart : nat_eq k (length t) ≡ false = ne_eqb k (length t) (λ h. absurd (omega (arith, h, lt))) in
        rw (any-append (nat_eq k) starts (length t), apart, or_nothing (list_any (nat_eq k) starts)) (h.decided k e b.here)
    decided_at k e (inr l) =
        let there : IsTrue (list_any (nat_eq k) (starts ++ length t ∷ [])) = any-append (nat_eq k) starts (length t) ∙ or_second _ _ (or_first _ _ (eq-eqb k (length t) l.place)) in
        ((λ _. there), (λ _. ap (λ x. x.reason) l.is ∙ open_one))

    rising_at : (i j m n : ℕ) → i < j → Before starts i m (length t) ⊎ Last starts i m (length t) → Before starts j n (length t) ⊎ Last starts j n (length t) → m < n
    rising_at i j m n lt (inl a) (inl b) = h.rising i j m n lt a.here b.here
    rising_at i j m n lt (inl a) (inr b) = let e = b.is in let low = h.within i m a.here in omega (arith, e, low)
    rising_at i j m n lt (inr a) (inl b) = let e = a.place in let w = b.within in absurd (omega (arith, lt, e, w))
    rising_at i j m n lt (inr a) (inr b) = let e = a.place in let w = b.place in absurd (omega (arith, lt, e, w))
