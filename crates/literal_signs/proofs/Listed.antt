-- The literals of the clauses of the ids: what a chain derives stands among them.
use Rattle.std.proofs.Common.{◌≡◌, ℕ, zero, suc, ◌+◌, ◌<◌, true, List, [], ◌∷◌, ◌++◌, length, take, get_or, slice_get, Some, refl, sym, ap, ◌∙◌, subst, arith, ◌⊎◌, inl, inr}
use Rattle.std.proofs.lemmas.List.{take_more, append-nil}
use Rattle.std.proofs.lemmas.List.Concat.{flat_map-append}
use Rattle.std.proofs.lemmas.Option.{get_or_from_slice_get}
use Rattle.clause_store.specs.declared.lit.Lit.{Lit}
use Rattle.clause_store.specs.Clauses.{has, is_within, are_within}
use Rattle.clause_store.specs.Chained.{LitSet, union, without, ResolvesTo, Derives}
use Rattle.clause_store.proofs.Sets.{has-append, within-append, and_left, and_right, or_cases, or_first, or_second}
use Rattle.literal_signs.specs.Marked.{AreListed, lits_at}

-- one id more
pub lits-more : (cs : List (List Lit)) (ids : List ℕ) (k : ℕ) → k < length ids → lits_at cs (take (k + 1) ids) ≡ lits_at cs (take k ids) ++ get_or cs (get_or ids k 0) []
lits-more cs ids k lt =
    ap (λ xs. lits_at cs xs) (take_more ids k 0 lt) ∙ flat_map-append (λ (i : ℕ). get_or cs i []) (take k ids) (get_or ids k 0 ∷ [])
    ∙ ap (λ x. lits_at cs (take k ids) ++ x) (append-nil (get_or cs (get_or ids k 0) []))

place_within : (n : ℕ) (cs : List (List Lit)) (i : ℕ) → are_within n cs ≡ true → is_within n (get_or cs i []) ≡ true
place_within n [] i h = refl
place_within n (c ∷ cs) zero h = and_left _ _ h
place_within n (c ∷ cs) (suc i) h = place_within n cs i (and_right _ _ h)

pub lits_within : (n : ℕ) (cs : List (List Lit)) (ids : List ℕ) → are_within n cs ≡ true → is_within n (lits_at cs ids) ≡ true
lits_within n cs [] h = refl
lits_within n cs (i ∷ ids) h = within-append n (get_or cs i []) (lits_at cs ids) (place_within n cs i h) (lits_within n cs ids h)

in_first : (cs : List (List Lit)) (i : ℕ) (ids : List ℕ) (m : Lit) → has (get_or cs i []) m ≡ true → has (lits_at cs (i ∷ ids)) m ≡ true
in_first cs i ids m h = has-append (get_or cs i []) (lits_at cs ids) m ∙ or_first (has (get_or cs i []) m) (has (lits_at cs ids) m) h

in_rest : (cs : List (List Lit)) (i : ℕ) (ids : List ℕ) (m : Lit) → has (lits_at cs ids) m ≡ true → has (lits_at cs (i ∷ ids)) m ≡ true
in_rest cs i ids m h = has-append (get_or cs i []) (lits_at cs ids) m ∙ or_second (has (get_or cs i []) m) (has (lits_at cs ids) m) h

in_clause : (cs : List (List Lit)) (i : ℕ) (c : List Lit) (ids : List ℕ) (m : Lit) → slice_get cs i ≡ Some c → has c m ≡ true → has (lits_at cs (i ∷ ids)) m ≡ true
in_clause cs i c ids m get h = in_first cs i ids m (subst (λ x. has x m ≡ true) (sym (get_or_from_slice_get cs i c [] get)) h)

listed_take : (cs : List (List Lit)) (ids : List ℕ) (k : ℕ) (m : Lit) → has (lits_at cs (take k ids)) m ≡ true → has (lits_at cs ids) m ≡ true
listed_take cs [] zero m h = h
listed_take cs [] (suc k) m h = h
listed_take cs (i ∷ ids) zero m h = cc
listed_take cs (i ∷ ids) (suc k) m h =
    split (or_cases (has (get_or cs i []) m) (has (lits_at cs (take k ids)) m) (sym (has-append (get_or cs i []) (lits_at cs (take k ids)) m) ∙ h)) (listed_take cs ids k m)
  where
    split : (has (get_or cs i []) m ≡ true) ⊎ (has (lits_at cs (take k ids)) m ≡ true) → (has (lits_at cs (take k ids)) m ≡ true → has (lits_at cs ids) m ≡ true) → has (lits_at cs (i ∷ ids)) m ≡ true
    split (inl x) next = in_first cs i ids m x
    split (inr x) next = in_rest cs i ids m (next x)

-- a literal of the last resolvent stands in the set at the beginning or in a clause
resolves_listed : (cs : List (List Lit)) (ids : List ℕ) (a c : LitSet) (m : Lit) → ResolvesTo cs a ids c → c m ≡ true → (a m ≡ true) ⊎ (has (lits_at cs ids) m ≡ true)
resolves_listed cs [] a c m h e = inl (ap (λ f. f m) h ∙ e)
resolves_listed cs (i ∷ ids) a c m h e = split (resolves_listed cs ids (without (union a (has h.0)) h.1) c m h.4 e)
  where
    pick : (a m ≡ true) ⊎ (has h.0 m ≡ true) → (a m ≡ true) ⊎ (has (lits_at cs (i ∷ ids)) m ≡ true)
    pick (inl x) = inl x
    pick (inr x) = inr (in_clause cs i h.0 ids m h.2 x)

    split : (without (union a (has h.0)) h.1 m ≡ true) ⊎ (has (lits_at cs ids) m ≡ true) → (a m ≡ true) ⊎ (has (lits_at cs (i ∷ ids)) m ≡ true)
    split (inl x) = pick (or_cases (a m) (has h.0 m) (and_left _ _ x))
    split (inr x) = inr (in_rest cs i ids m x)

-- what the first k ids derive is listed
pub begun_listed : (cs : List (List Lit)) (ids : List ℕ) (k : ℕ) (c : LitSet) → 0 < k → 0 < length ids → Derives cs (take k ids) c → AreListed c (lits_at cs ids)
begun_listed cs [] k c pos some h = absurd (omega arith)
begun_listed cs (i ∷ ids) zero c pos some h = absurd (omega arith)
begun_listed cs (i ∷ ids) (suc k) c pos some h = λ m e. split m (resolves_listed cs (take k ids) (has h.0) c m h.2 e)
  where
    split : (m : Lit) → (has h.0 m ≡ true) ⊎ (has (lits_at cs (take k ids)) m ≡ true) → has (lits_at cs (i ∷ ids)) m ≡ true
    split m (inl x) = in_clause cs i h.0 ids m h.1 x
    split m (inr x) = in_rest cs i ids m (listed_take cs ids k m x)
