-- The numbers of candidates, and which graphs are edited ones.
use Rattle.std.proofs.Common.{◌≡◌, ◌↔◌, ◌⊎◌, inl, inr, ℕ, zero, suc, ◌+◌, ◌-◌, ◌<◌, ◌≤◌, Bool, true, false, cond, not, ◌&&◌, ◌||◌, List, [], ◌∷◌, ◌++◌, length, Option, Some, None, IfSome, IfNone, Result, Ok, Err, IfOk, OnErr, option_map, slice_get, nat_lt, refl, sym, ap, ◌∙◌, subst, arith}
use Rattle.std.specs.List.{list_any, cons_option}
use Rattle.std.specs.Ordering.{eq_by_cmp}
use Rattle.std.specs.List.Sorted.{IsSearchInRange, IsBinarySearchResult}
use Rattle.std.proofs.lemmas.Bool.{false≢true, ltb-true, lt-ltb}
use Rattle.std.proofs.lemmas.List.{length-append}
use Rattle.std.proofs.lemmas.Option.{slice_get_within}
use Rattle.rdf_terms.specs.Statement.{Statement, statement_cmp}
use Rattle.rdf_terms.specs.Graph.{Graph, triples, has, edited, is_rising}
use Rattle.rdf_terms.proofs.GraphLaws.{has-triples, has-edited, has_at, one_place, triples_rise}
use Rattle.rdf_terms.proofs.Sets.{found, missing, rising_searchable}
use Rattle.rdf_terms.specs.TermOrder.{statement_cmp_total, statement_cmp-IsAntisymmetric}
use Rattle.rdf_terms.proofs.Orders.{same_statement, statement_tied}
use Rattle.repair_problem.specs.Repair.{Within, Apart}
use Rattle.repair_problem.specs.Setting.{Setting, full, IsEdit}
use Rattle.repair_problem.specs.Candidates.{candidates, place_among, candidate_number, addition_at, deletion_at}
use Rattle.repair_problem.proofs.Pairs.{has-whole}

some_is : {X : Type 0} {x y : X} → Some x ≡ Some y → x ≡ y
some_is e = cc

-- the place that is found is one of the triple
pub place_found : (us : List Statement) (t : Statement) (i : ℕ) → place_among us t ≡ Some i → slice_get us i ≡ Some t
place_found [] t i e = cc
place_found (u ∷ us) t i e = at (eq_by_cmp statement_cmp t u) refl (place_among us t) refl e (λ j d. place_found us t j d)
  where
    at : (b : Bool) → eq_by_cmp statement_cmp t u ≡ b → (m : Option ℕ) → place_among us t ≡ m → cond b (Some 0) (option_map (λ j. suc j) m) ≡ Some i → ((j : ℕ) → place_among us t ≡ Some j → slice_get us j ≡ Some t) → slice_get (u ∷ us) i ≡ Some t
    at true d m f k more = let z : 0 ≡ i = some_is k in subst (λ j. slice_get (u ∷ us) j ≡ Some t) z (ap Some (sym (same_statement t u d)))
    at false d None f k more = cc
    at false d (Some j) f k more = let z : suc j ≡ i = some_is k in subst (λ j. slice_get (u ∷ us) j ≡ Some t) z (more j f)

-- where none is found there is none
pub place_none : (us : List Statement) (t : Statement) → place_among us t ≡ None → list_any (eq_by_cmp statement_cmp t) us ≡ false
place_none [] t e = refl
place_none (u ∷ us) t e = at (eq_by_cmp statement_cmp t u) (place_among us t) refl e (λ d. place_none us t d)
  where
    at : (b : Bool) (m : Option ℕ) → place_among us t ≡ m → cond b (Some 0) (option_map (λ j. suc j) m) ≡ None → (place_among us t ≡ None → list_any (eq_by_cmp statement_cmp t) us ≡ false) → (b || list_any (eq_by_cmp statement_cmp t) us) ≡ false
    at true m f k more = cc
    at false None f k more = more f
    at false (Some j) f k more = cc

-- what a look-up in a graph answers is the place among its triples
pub place_is : (g : Graph) (t : Statement) (o : Option ℕ) → IfSome o (λ i. slice_get (triples g) i ≡ Some t) → IfNone o (has g t ≡ false) → o ≡ place_among (triples g) t
place_is g t o some none = at o (place_among (triples g) t) refl some none
  where
    absent : place_among (triples g) t ≡ None → has g t ≡ false
    absent e = has-triples g t ∙ place_none (triples g) t e

    at : (o m : Option ℕ) → place_among (triples g) t ≡ m → IfSome o (λ i. slice_get (triples g) i ≡ Some t) → IfNone o (has g t ≡ false) → o ≡ m
    at None None e some none = refl
    at None (Some j) e some none = absurd (false≢true (sym none ∙ has_at g t j (place_found (triples g) t j e)))
    at (Some i) None e some none = absurd (false≢true (sym (absent e) ∙ has_at g t i some))
    at (Some i) (Some j) e some none = ap Some (one_place g t i j some (place_found (triples g) t j e))

pub place_within : (us : List Statement) (t : Statement) (o : Option ℕ) → IfSome o (λ i. slice_get us i ≡ Some t) → IfSome o (λ i. i < length us)
place_within us t None h = tt
place_within us t (Some i) h = slice_get_within us i t h

any_append : {X : Type 0} (f : X → Bool) (xs ys : List X) → list_any f (xs ++ ys) ≡ (list_any f xs || list_any f ys)
any_append f [] ys = refl
any_append f (x ∷ xs) ys = ap (λ b. f x || b) (any_append f xs ys) ∙ or_assoc (f x) (list_any f xs) (list_any f ys)
  where
    or_assoc : (a b c : Bool) → (a || (b || c)) ≡ ((a || b) || c)
    or_assoc true b c = refl
    or_assoc false b c = refl

-- each triple of the full graph is a candidate
pub full_listed : (s : Setting) (t : Statement) → has (full s) t ≡ true → list_any (eq_by_cmp statement_cmp t) (candidates s) ≡ true
full_listed s t e =
    any_append (eq_by_cmp statement_cmp t) (triples s.present) (triples s.offers)
    ∙ ((λ i. sym (has-triples s.present t) i || sym (has-triples s.offers t) i) ∙ (sym (has-whole s.present s.offers t) ∙ e))

-- the place in two lists, one behind the other
pub place_behind : (us vs : List Statement) (t : Statement) → place_among us t ≡ None → place_among (us ++ vs) t ≡ option_map (λ i. length us + i) (place_among vs t)
place_behind [] vs t e = at (place_among vs t)
  where
    at : (m : Option ℕ) → m ≡ option_map (λ i. 0 + i) m
    at None = refl
    at (Some i) = let z : i ≡ 0 + i = omega arith in ap Some z
place_behind (u ∷ us) vs t e = at (eq_by_cmp statement_cmp t u) (place_among us t) refl e (λ d. place_behind us vs t d)
  where
    further : (m : Option ℕ) → option_map (λ j. suc j) (option_map (λ i. length us + i) m) ≡ option_map (λ i. length (u ∷ us) + i) m
    further None = refl
    further (Some i) = let z : suc (length us + i) ≡ length (u ∷ us) + i = omega arith in ap Some z

    at : (b : Bool) (m : Option ℕ) → place_among us t ≡ m → cond b (Some 0) (option_map (λ j. suc j) m) ≡ None → (place_among us t ≡ None → place_among (us ++ vs) t ≡ option_map (λ i. length us + i) (place_among vs t)) → cond b (Some 0) (option_map (λ j. suc j) (place_among (us ++ vs) t)) ≡ option_map (λ i. length (u ∷ us) + i) (place_among vs t)
    at true m f k more = cc
    at false None f k more = ap (option_map (λ j. suc j)) (more f) ∙ further (place_among vs t)
    at false (Some j) f k more = cc

pub place_before : (us vs : List Statement) (t : Statement) (i : ℕ) → place_among us t ≡ Some i → place_among (us ++ vs) t ≡ Some i
place_before [] vs t i e = cc
place_before (u ∷ us) vs t i e = at (eq_by_cmp statement_cmp t u) (place_among us t) refl e (λ j d. place_before us vs t j d)
  where
    at : (b : Bool) (m : Option ℕ) → place_among us t ≡ m → cond b (Some 0) (option_map (λ j. suc j) m) ≡ Some i → ((j : ℕ) → place_among us t ≡ Some j → place_among (us ++ vs) t ≡ Some j) → cond b (Some 0) (option_map (λ j. suc j) (place_among (us ++ vs) t)) ≡ Some i
    at true m f k more = k
    at false None f k more = cc
    at false (Some j) f k more = ap (option_map (λ j. suc j)) (more j f) ∙ k

-- the look-ups in the data and in the offers, one after the other
pub found_first : (s : Setting) (t : Statement) (i : ℕ) → Some i ≡ place_among (triples s.present) t → Some i ≡ candidate_number s t
found_first s t i e = sym (place_before (triples s.present) (triples s.offers) t i (sym e))

pub found_second : (s : Setting) (t : Statement) (o r : Option ℕ) → None ≡ place_among (triples s.present) t → o ≡ place_among (triples s.offers) t → r ≡ option_map (λ i. length (triples s.present) + i) o → r ≡ candidate_number s t
found_second s t o r none own e = e ∙ (ap (option_map (λ i. length (triples s.present) + i)) own ∙ sym (place_behind (triples s.present) (triples s.offers) t (sym none)))

-- each edited graph is within the full one
pub edited_within : (s : Setting) (adds deletes : Graph) → Within adds s.offers → IsEdit s (edited s.present adds deletes)
edited_within s adds deletes added t e = has-whole s.present s.offers t ∙ by (has s.present t) (has deletes t) (has adds t) (has s.offers t) (sym (has-edited s.present adds deletes t) ∙ e) (added t)
  where
    by : (g d a h : Bool) → ((g && not d) || a) ≡ true → (a ≡ true → h ≡ true) → (g || h) ≡ true
    by true d a h e f = refl
    by false d true h e f = f refl
    by false d false h e f = absurd (false≢true e)

-- what a binary search of a graph says
pub searched : (g : Graph) (ts : List Statement) (q : Statement) (r : Result ℕ ℕ) → ts ≡ triples g → IsSearchInRange r (length ts) → IsBinarySearchResult (λ y. statement_cmp y q) ts r
    → IfOk r (λ i. slice_get (triples g) i ≡ Some q) × OnErr r (has g q ≡ false)
searched g ts q (Ok i) same bound h = (subst (λ us. slice_get us i ≡ Some q) same (found statement_cmp_total statement_cmp-IsAntisymmetric ts q i bound h), tt)
searched g ts q (Err i) same bound h =
    let rises : is_rising ts ≡ true = subst (λ us. is_rising us ≡ true) (sym same) (triples_rise g) in
    (tt, has-triples g q ∙ subst (λ us. list_any (eq_by_cmp statement_cmp q) us ≡ false) same (missing statement_cmp_total ts q i (h (rising_searchable statement_cmp_total ts q rises))))

pub low_place : {X : Type 0} (us vs : List X) (i : ℕ) → i < length us → slice_get (us ++ vs) i ≡ slice_get us i
low_place [] vs i l = absurd (omega (arith, l))
low_place (u ∷ us) vs zero l = refl
low_place (u ∷ us) vs (suc i) l = low_place us vs i (omega (arith, l))

pub high_place : {X : Type 0} (us vs : List X) (i : ℕ) → length us ≤ i → slice_get (us ++ vs) i ≡ slice_get vs (i - length us)
high_place [] vs i l = let e : i ≡ i - 0 = omega arith in ap (slice_get vs) e
high_place (u ∷ us) vs zero l = absurd (omega (arith, l))
high_place (u ∷ us) vs (suc i) l =
    let e : i - length us ≡ suc i - length (u ∷ us) = omega (arith, l) in
    high_place us vs i (omega (arith, l)) ∙ ap (slice_get vs) e

past : {X : Type 0} (xs : List X) (i : ℕ) → length xs ≤ i → slice_get xs i ≡ None
past [] i l = refl
past (x ∷ xs) zero l = absurd (omega (arith, l))
past (x ∷ xs) (suc i) l = past xs i (omega (arith, l))

not_below : (a b : ℕ) → b ≤ a → nat_lt a b ≡ false
not_below a b l = at (nat_lt a b) refl
  where
    at : (c : Bool) → nat_lt a b ≡ c → c ≡ false
    at true e = let m = ltb-true a b e in absurd (omega (arith, l, m))
    at false e = refl

-- what stands at a number, by where it stands
module _ (s : Setting) (t : ℕ) where
  pub candidate_low : (u : Statement) → slice_get (triples s.present) t ≡ Some u → slice_get (candidates s) t ≡ Some u
  candidate_low u e = low_place (triples s.present) (triples s.offers) t (slice_get_within (triples s.present) t u e) ∙ e

  pub candidate_high : (u : Statement) → length (triples s.present) ≤ t → slice_get (triples s.offers) (t - length (triples s.present)) ≡ Some u → slice_get (candidates s) t ≡ Some u
  candidate_high u l e = high_place (triples s.present) (triples s.offers) t l ∙ e

  pub no_addition : t < length (triples s.present) → cons_option (addition_at s t) [] ≡ []
  no_addition l = ap (λ b. cons_option (cond b None (slice_get (triples s.offers) (t - length (triples s.present)))) []) (lt-ltb t (length (triples s.present)) l)

  pub one_addition : (u : Statement) → length (triples s.present) ≤ t → slice_get (triples s.offers) (t - length (triples s.present)) ≡ Some u → cons_option (addition_at s t) [] ≡ u ∷ []
  one_addition u l e =
      ap (λ b. cons_option (cond b None (slice_get (triples s.offers) (t - length (triples s.present)))) []) (not_below t (length (triples s.present)) l)
      ∙ ap (λ o. cons_option o []) e

  pub no_deletion : length (triples s.present) ≤ t → cons_option (deletion_at s t) [] ≡ []
  no_deletion l = ap (λ o. cons_option o []) (past (triples s.present) t l)

  pub one_deletion : (u : Statement) → slice_get (triples s.present) t ≡ Some u → cons_option (deletion_at s t) [] ≡ u ∷ []
  one_deletion u e = ap (λ o. cons_option o []) e

  -- an offer's place among the offers
  pub offer_place : t < length (candidates s) → length (triples s.present) ≤ t → t - length (triples s.present) < length (triples s.offers)
  offer_place l m = let n = length-append (triples s.present) (triples s.offers) in omega (arith, l, m, n)

module _ (s : Setting) (apart : Apart s.present s.offers) where
  -- no candidate has two numbers
  one_candidate : (t : Statement) (i j : ℕ) → slice_get (candidates s) i ≡ Some t → slice_get (candidates s) j ≡ Some t → i ≡ j
  one_candidate t i j e d = at (split i (length (triples s.present))) (split j (length (triples s.present)))
    where
      split : (a b : ℕ) → (a < b) ⊎ (b ≤ a)
      split a b = grind arith

      in_present : (k : ℕ) → k < length (triples s.present) → slice_get (candidates s) k ≡ Some t → slice_get (triples s.present) k ≡ Some t
      in_present k l f = sym (low_place (triples s.present) (triples s.offers) k l) ∙ f

      in_offers : (k : ℕ) → length (triples s.present) ≤ k → slice_get (candidates s) k ≡ Some t → slice_get (triples s.offers) (k - length (triples s.present)) ≡ Some t
      in_offers k l f = sym (high_place (triples s.present) (triples s.offers) k l) ∙ f

      not_both : (k m : ℕ) → slice_get (triples s.present) k ≡ Some t → slice_get (triples s.offers) m ≡ Some t → ⊥
      not_both k m f g = false≢true (sym (apart t (has_at s.offers t m g)) ∙ has_at s.present t k f)

      at : (i < length (triples s.present)) ⊎ (length (triples s.present) ≤ i) → (j < length (triples s.present)) ⊎ (length (triples s.present) ≤ j) → i ≡ j
      at (inl l) (inl m) = one_place s.present t i j (in_present i l e) (in_present j m d)
      at (inl l) (inr m) = absurd (not_both i (j - length (triples s.present)) (in_present i l e) (in_offers j m d))
      at (inr l) (inl m) = absurd (not_both j (i - length (triples s.present)) (in_present j m d) (in_offers i l e))
      at (inr l) (inr m) = let same = one_place s.offers t (i - length (triples s.present)) (j - length (triples s.present)) (in_offers i l e) (in_offers j m d) in omega (arith, same, l, m)

  -- the number of a triple is the place at which it is a candidate
  pub candidate_exact : (t : Statement) (i : ℕ) → (candidate_number s t ≡ Some i) ↔ (slice_get (candidates s) i ≡ Some t)
  candidate_exact t i = (place_found (candidates s) t i, from (candidate_number s t) refl)
    where
      any_at : (us : List Statement) (k : ℕ) → slice_get us k ≡ Some t → list_any (eq_by_cmp statement_cmp t) us ≡ true
      any_at [] k f = cc
      any_at (u ∷ us) zero f = ap (λ b. b || list_any (eq_by_cmp statement_cmp t) us) (subst (λ v. eq_by_cmp statement_cmp t v ≡ true) (sym (some_is f)) (statement_tied t))
      any_at (u ∷ us) (suc k) f = or_true (eq_by_cmp statement_cmp t u) (any_at us k f)
        where
          or_true : (a : Bool) → list_any (eq_by_cmp statement_cmp t) us ≡ true → (a || list_any (eq_by_cmp statement_cmp t) us) ≡ true
          or_true true h = refl
          or_true false h = h

      from : (m : Option ℕ) → candidate_number s t ≡ m → slice_get (candidates s) i ≡ Some t → m ≡ Some i
      from None f e = absurd (false≢true (sym (place_none (candidates s) t f) ∙ any_at (candidates s) i e))
      from (Some j) f e = ap Some (one_candidate t j i (place_found (candidates s) t j f) e)

  pub candidate_exact_by : (t : Statement) (o : Option ℕ) → o ≡ candidate_number s t → (i : ℕ) → (o ≡ Some i) ↔ (slice_get (candidates s) i ≡ Some t)
  candidate_exact_by t o e i = (λ h. (candidate_exact t i).0 (sym e ∙ h), λ h. e ∙ (candidate_exact t i).1 h)
