-- The triples at the places of an object are those of the graph that have this object, in order.
use Rattle.std.proofs.Common.{◌≡◌, ℕ, suc, ◌+◌, ◌-◌, ◌<◌, ◌≤◌, ◌⊎◌, inl, inr, Bool, true, false, cond, ◌&&◌, List, [], ◌∷◌, map, length, slice_get, Contains, Option, Some, None, option_map, is_some, slice_index, ◌||◌, refl, sym, ap, ◌∙◌, subst, arith}
use Rattle.std.proofs.lemmas.Bool.{false≢true}
use Rattle.std.specs.List.{filter, filter_map, cons_option, list_any}
use Rattle.std.specs.List.Sorted.{IsStrictlyIncreasing}
use Rattle.rdf_terms.specs.declared.term.Term.{Term}
use Rattle.rdf_terms.specs.Statement.{Statement}
use Rattle.rdf_terms.specs.Graph.{Graph, triples, object_at, ArePlacesOfObject}
use Rattle.rdf_terms.proofs.Bools.{and_false}
use Rattle.rdf_terms.proofs.Members.{in_none, in_first, in_rest, in_cases}
use Rattle.rdf_terms.proofs.Orders.{lt_or_le, same_term as equal_terms, term_tied}
use Rattle.rdf_navigation.specs.Values.{same_term, subject_by, subjects, is_any}

-- each number is at least n, and above those before it
abbrev RisesFrom : ℕ → List ℕ → Type 0
RisesFrom n [] = Unit {0}
RisesFrom n (x ∷ xs) = (n ≤ x) × RisesFrom (suc x) xs

rises_from : (n : ℕ) (xs : List ℕ) → IsStrictlyIncreasing xs → ((y : ℕ) (ys : List ℕ) → xs ≡ y ∷ ys → n ≤ y) → RisesFrom n xs
rises_from n [] h first = tt
rises_from n (x ∷ []) h first = (first x [] refl, tt)
rises_from n (x ∷ z ∷ zs) h first =
    let lt : x < z = h 0 (omega arith) in
    (first x (z ∷ zs) refl, rises_from (suc x) (z ∷ zs) later (λ y ys e. let same : z ≡ y = cc in omega (arith, lt, same)))
  where
    later : IsStrictlyIncreasing (z ∷ zs)
    later k l =
        let e : suc k + 1 ≡ suc (k + 1) = omega arith in
        let m : suc k + 1 < length (x ∷ z ∷ zs) = omega (arith, l) in
        subst (λ j. slice_index (x ∷ z ∷ zs) (suc k) < slice_index (x ∷ z ∷ zs) j) e (h (suc k) m)

lowest : (n : ℕ) (xs : List ℕ) → RisesFrom n xs → (i : ℕ) → Contains xs i → n ≤ i
lowest n [] r i c = absurd (in_none i c)
lowest n (x ∷ xs) r i c = at (in_cases x xs i c) (λ d. lowest (suc x) xs r.1 i d)
  where
    at : (x ≡ i) ⊎ Contains xs i → (Contains xs i → suc x ≤ i) → n ≤ i
    at (inl e) more = let l = r.0 in omega (arith, l, e)
    at (inr d) more = let l = r.0 in let m = more d in omega (arith, l, m)

-- where n isn't in the list, each number is above it
raised : (n : ℕ) (xs : List ℕ) → RisesFrom n xs → ¬ (Contains xs n) → RisesFrom (suc n) xs
raised n [] r out = tt
raised n (x ∷ xs) r out = at (lt_or_le n x)
  where
    at : (n < x) ⊎ (x ≤ n) → RisesFrom (suc n) (x ∷ xs)
    at (inl l) = (omega (arith, l), r.1)
    at (inr l) = let m = r.0 in let same : x ≡ n = omega (arith, l, m) in absurd (out (subst (Contains (x ∷ xs)) same (in_first x xs)))

-- the subject of the triple at a place, where it has the predicate
abbrev pub subject_there : List Statement → Term → ℕ → Option Term
subject_there all p i = subject_by p (slice_get all i)

abbrev subject_of : Statement → Term
subject_of t = t.subject

module _ (all : List Statement) (p y : Term) where
  abbrev has_both : Statement → Bool
  has_both t = same_term t.predicate p && same_term t.object y

  -- the list has the places of the object from n on, and no others
  abbrev Exact : ℕ → List ℕ → Type 0
  Exact n ps = ((i : ℕ) → Contains ps i → object_at all i ≡ Some y) × ((i : ℕ) → n ≤ i → object_at all i ≡ Some y → Contains ps i)

  object_of : (i : ℕ) (o : Option Statement) → slice_get all i ≡ o → object_at all i ≡ option_map (λ (t : Statement). t.object) o
  object_of i o e = ap (option_map (λ (t : Statement). t.object)) e

  from_places : (ts : List Statement) (n : ℕ) (ps : List ℕ) → ((j : ℕ) → slice_get all (n + j) ≡ slice_get ts j) → RisesFrom n ps → Exact n ps
      → filter_map (subject_there all p) ps ≡ map subject_of (filter has_both ts)
  from_places [] n [] at r e = refl
  from_places [] n (x ∷ ps) at r e =
      let l = r.0 in
      let place : n + (x - n) ≡ x = omega (arith, l) in
      let none : slice_get all x ≡ None = ap (slice_get all) (sym place) ∙ at (x - n) in
      let z : None ≡ Some y = sym (object_of x None none) ∙ e.0 x (in_first x ps) in
      cc
  from_places (t ∷ ts) n ps at r e = by (same_term t.object y) refl (λ qs s d. from_places ts (suc n) qs later s d)
    where
      here : slice_get all n ≡ Some t
      here = let z : n ≡ n + 0 = omega arith in ap (slice_get all) z ∙ at 0

      later : (j : ℕ) → slice_get all (suc n + j) ≡ slice_get ts j
      later j = let z : suc n + j ≡ n + suc j = omega arith in ap (slice_get all) z ∙ at (suc j)

      filtered : (b c : Bool) → same_term t.predicate p ≡ b → same_term t.object y ≡ c → map subject_of (filter has_both (t ∷ ts)) ≡ map subject_of (cond (b && c) (t ∷ filter has_both ts) (filter has_both ts))
      filtered b c g f = λ i. map subject_of (cond (g i && f i) (t ∷ filter has_both ts) (filter has_both ts))

      there : (b : Bool) → same_term t.predicate p ≡ b → subject_there all p n ≡ cond b (Some t.subject) None
      there b g = ap (subject_by p) here ∙ ap (λ c. cond c (Some t.subject) None) g

      taken : same_term t.object y ≡ true → (b : Bool) → same_term t.predicate p ≡ b → (rest : List Term) → rest ≡ map subject_of (filter has_both ts)
          → cons_option (subject_there all p n) rest ≡ map subject_of (filter has_both (t ∷ ts))
      taken f true g rest q = ap (λ o. cons_option o rest) (there true g) ∙ ap (λ us. t.subject ∷ us) q ∙ sym (filtered true true g f)
      taken f false g rest q = ap (λ o. cons_option o rest) (there false g) ∙ q ∙ sym (filtered false true g f)

      first : (x : ℕ) (xs : List ℕ) → RisesFrom n (x ∷ xs) → (x ≡ n) ⊎ Contains xs n → x ≡ n
      first x xs s (inl same) = same
      first x xs s (inr d) = let l = s.0 in let m = lowest (suc x) xs s.1 n d in absurd (omega (arith, l, m))

      of : same_term t.object y ≡ true → (qs : List ℕ) → RisesFrom n qs → Exact n qs → Contains qs n → ((us : List ℕ) → RisesFrom (suc n) us → Exact (suc n) us → filter_map (subject_there all p) us ≡ map subject_of (filter has_both ts))
          → filter_map (subject_there all p) qs ≡ map subject_of (filter has_both (t ∷ ts))
      of f [] s d c more = absurd (in_none n c)
      of f (x ∷ xs) s d c more =
          let same : x ≡ n = first x xs s (in_cases x xs n c) in
          ap (λ z. cons_option (subject_there all p z) (filter_map (subject_there all p) xs)) same
          ∙ taken f (same_term t.predicate p) refl (filter_map (subject_there all p) xs) (more xs (subst (λ z. RisesFrom (suc z) xs) same s.1) (λ i h. d.0 i (in_rest x xs i h), λ i l o. after same i l (in_cases x xs i (d.1 i (omega (arith, l)) o))))
        where
          after : x ≡ n → (i : ℕ) → suc n ≤ i → (x ≡ i) ⊎ Contains xs i → Contains xs i
          after same i l (inl k) = absurd (omega (arith, same, l, k))
          after same i l (inr h) = h

      by : (b : Bool) → same_term t.object y ≡ b → ((us : List ℕ) → RisesFrom (suc n) us → Exact (suc n) us → filter_map (subject_there all p) us ≡ map subject_of (filter has_both ts))
          → filter_map (subject_there all p) ps ≡ map subject_of (filter has_both (t ∷ ts))
      by true f more = of f ps r e (e.1 n (omega arith) (object_of n (Some t) here ∙ ap (λ z. Some z) (equal_terms t.object y f))) more
      by false f more = more ps (raised n ps r never) (e.0, λ i l o. e.1 i (omega (arith, l)) o) ∙ sym (filtered (same_term t.predicate p) false refl f ∙ ap (λ c. map subject_of (cond c (t ∷ filter has_both ts) (filter has_both ts))) (and_false (same_term t.predicate p)))
        where
          never : ¬ (Contains ps n)
          never c =
              let same : Some t.object ≡ Some y = sym (object_of n (Some t) here) ∙ e.0 n c in
              let equal : t.object ≡ y = cc in
              false≢true (sym f ∙ ap (λ z. same_term t.object z) (sym equal) ∙ term_tied t.object)

-- the subjects at the places of the object
pub subjects_at : (g : Graph) (p y : Term) (places : List ℕ) → ArePlacesOfObject (triples g) y places → filter_map (subject_there (triples g) p) places ≡ subjects g p y
subjects_at g p y places a =
    from_places (triples g) p y (triples g) 0 places (λ j. let z : 0 + j ≡ j = omega arith in ap (slice_get (triples g)) z) (rises_from 0 places a.rises (λ x xs e. omega arith))
    (λ i c. (a.exact i).0 c, λ i l o. (a.exact i).1 o)

pub any_there : (f : ℕ → Option Term) (ps : List ℕ) → is_any (filter_map f ps) ≡ list_any (λ i. is_some (f i)) ps
any_there f [] = refl
any_there f (i ∷ ps) = at (f i) (any_there f ps)
  where
    at : (o : Option Term) → is_any (filter_map f ps) ≡ list_any (λ j. is_some (f j)) ps → is_any (cons_option o (filter_map f ps)) ≡ (is_some o || list_any (λ j. is_some (f j)) ps)
    at None e = e
    at (Some x) e = refl
