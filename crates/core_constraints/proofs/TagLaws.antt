-- Language tags that nodes share.
use Rattle.std.proofs.Common.{◌≡◌, ◌↔◌, ◌⊎◌, inl, inr, ℕ, ◌+◌, ◌-◌, ◌<◌, ◌≤◌, Bool, true, false, List, [], ◌∷◌, ◌++◌, length, map, take, get_or, Contains, Option, Some, None, option_map, slice_get, sym, ap, ◌∙◌, subst, arith}
use Rattle.std.specs.List.{filter_map, cons_option, dedup}
use Rattle.std.specs.List.Sorted.{IsPermutation, IsSorted, IsSortedBy, IsStrictlyIncreasing}
use Rattle.std.specs.Cmp.{IsEquivalence}
use Rattle.std.proofs.lemmas.Bool.{cases_lt}
use Rattle.std.proofs.lemmas.List.{length-map, get_or-map}
use Rattle.std.proofs.lemmas.List.Kept.{Any-dedup, Contains-from_dedup}
use Rattle.std.proofs.lemmas.List.Sorted.{IsPermutation-sym}
use Rattle.std.proofs.lemmas.Option.{slice_get_within, slice_get-map, slice_get-get_or}
use Rattle.rdf_terms.specs.declared.term.Term.{Term}
use Rattle.rdf_terms.specs.declared.term.Term.TheVariants.{Literal}
use Rattle.rdf_terms.specs.Term.{text_cmp}
use Rattle.rdf_terms.specs.Nodes.{Nodes}
use Rattle.rdf_terms.proofs.Members.{in_map, map_in, in_none}
use Rattle.rdf_navigation.specs.Numbers.{term_at}
use Rattle.rdf_navigation.proofs.PropertyLaws.{filter_map_next, same_some}
use Rattle.shapes_graph.specs.NodeTests.{tag_of}
use Rattle.shapes_graph.specs.Conformance.{AreTwins}
use Rattle.path_eval.specs.Numbered.{terms_at, AreNumbers}
use Rattle.path_eval.proofs.LinkLaws.{in_push}
use Rattle.core_constraints.proofs.Decided.{in_at, in_place}
use Rattle.core_constraints.proofs.ListedNumbers.{distinct_terms}
use Rattle.core_constraints.proofs.RepeatedItems.{IsTwice, is_text, text_is, is_itself, passes, twice_moved, twice_mapped, neighbours, side_by_side}

-- the tags of one node more
pub tags_more : (n : Nodes) (is : List ℕ) (i : ℕ) (old new : List (List ℕ)) (o : Option (List ℕ)) → i < length is → o ≡ tag_of (term_at n (get_or is i 0)) → old ≡ filter_map tag_of (take i (terms_at n is)) → new ≡ old ++ cons_option o []
    → new ≡ filter_map tag_of (take (i + 1) (terms_at n is))
tags_more n is i old new o l e all pushed =
    pushed ∙ (ap (λ us. us ++ cons_option o []) all ∙ (ap (λ q. filter_map tag_of (take i (terms_at n is)) ++ cons_option q []) own ∙ sym (filter_map_next tag_of (terms_at n is) i (Literal [] [] None) m)))
  where
    m : i < length (terms_at n is)
    m = let a = length-map is (term_at n) in omega (arith, a, l)

    own : o ≡ tag_of (get_or (terms_at n is) i (Literal [] [] None))
    own = e ∙ ap tag_of (sym (get_or-map (term_at n) is i 0 (Literal [] [] None) l))

pub sorted_map : {X Y : Type 0} (f : X → Y) (lt : Y → Y → Bool) (xs : List X) → IsSortedBy (λ a b. lt (f a) (f b)) xs → IsSortedBy lt (map f xs)
sorted_map f lt [] up k d z l = absurd (omega (arith, l))
sorted_map f lt (x ∷ xs) up k d z l =
    let m = length-map (x ∷ xs) f in
    let a = get_or-map f (x ∷ xs) (k + 1) x d (omega (arith, m, l)) in
    let b = get_or-map f (x ∷ xs) k x d (omega (arith, m, l)) in
    (λ i. lt (a i) (b i)) ∙ up k x z (omega (arith, m, l))

pub text_at : {X : Type 0} (f : X → List ℕ) (xs : List X) (i : ℕ) (x : X) → i < length xs → x ≡ get_or xs i x → slice_get (map f xs) i ≡ Some (f x)
text_at f xs i x l e = slice_get-map f xs i ∙ ap (option_map f) (slice_get-get_or xs i x l ∙ ap Some (sym e))

-- the tag stands at two neighbours before the place
abbrev pub IsRepeated : List (List ℕ) → ℕ → List ℕ → Type 0
IsRepeated ts place t = (k : ℕ) × (k + 1 < place) × (slice_get ts k ≡ Some t) × (slice_get ts (k + 1) ≡ Some t)

abbrev pub AreRepeated : List (List ℕ) → ℕ → List (List ℕ) → Type 0
AreRepeated ts place found = (t : List ℕ) → Contains found t ↔ IsRepeated ts place t

pub repeated_start : (ts : List (List ℕ)) → AreRepeated ts 1 []
repeated_start ts t = (λ c. absurd (in_none t c), λ r. let l = r.1 in absurd (omega (arith, l)))

module _ (ts : List (List ℕ)) (place : ℕ) (a b : List ℕ) (start : 1 ≤ place) (at_a : slice_get ts (place - 1) ≡ Some a) (at_b : slice_get ts place ≡ Some b) where
  wider : (t : List ℕ) → IsRepeated ts place t → IsRepeated ts (place + 1) t
  wider t r = (r.0, let l = r.1 in omega (arith, l), r.2, r.3)

  -- before the place, or there
  split : (t : List ℕ) → IsRepeated ts (place + 1) t → IsRepeated ts place t ⊎ ((a ≡ t) × (b ≡ t))
  split t r = at (cases_lt (r.0 + 1) place)
    where
      at : (r.0 + 1 < place) ⊎ (place ≤ r.0 + 1) → IsRepeated ts place t ⊎ ((a ≡ t) × (b ≡ t))
      at (inl l) = inl (r.0, l, r.2, r.3)
      at (inr m) =
          let l = r.1 in
          let here : r.0 ≡ place - 1 = omega (arith, l, m, start) in
          let there : r.0 + 1 ≡ place = omega (arith, l, m) in
          inr (same_some (sym at_a ∙ (ap (slice_get ts) (sym here) ∙ r.2)), same_some (sym at_b ∙ (ap (slice_get ts) (sym there) ∙ r.3)))

  pub repeated_more : (found : List (List ℕ)) → AreRepeated ts place found → a ≡ b → AreRepeated ts (place + 1) (found ++ b ∷ [])
  repeated_more found all e t = (λ c. to ((in_push found b t).0 c), λ r. (in_push found b t).1 (from (split t r)))
    where
      to : Contains found t ⊎ (b ≡ t) → IsRepeated ts (place + 1) t
      to (inl c) = wider t ((all t).0 c)
      to (inr f) =
          let next : (place - 1) + 1 ≡ place = omega (arith, start) in
          (place - 1, omega (arith, start), at_a ∙ ap Some (e ∙ f), ap (slice_get ts) next ∙ (at_b ∙ ap Some f))

      from : IsRepeated ts place t ⊎ ((a ≡ t) × (b ≡ t)) → Contains found t ⊎ (b ≡ t)
      from (inl r) = inl ((all t).1 r)
      from (inr f) = inr f.1

  pub repeated_other : (found : List (List ℕ)) → AreRepeated ts place found → (a ≡ b → ⊥) → AreRepeated ts (place + 1) found
  repeated_other found all never t = (λ c. wider t ((all t).0 c), λ r. from (split t r))
    where
      from : IsRepeated ts place t ⊎ ((a ≡ t) × (b ≡ t)) → Contains found t
      from (inl r) = (all t).1 r
      from (inr f) = absurd (never (f.0 ∙ sym f.1))

-- a list without equal neighbours has the same texts
pub texts_once : {X : Type 0} (f : X → List ℕ) (xs : List X) (t : List ℕ) → IsEquivalence (λ (a b : X). is_text (f a) (f b)) → Contains (map f (dedup (λ (a b : X). is_text (f a) (f b)) xs)) t ↔ Contains (map f xs) t
texts_once {X} f xs t e = (to, from)
  where
    to : Contains (map f (dedup (λ (a b : X). is_text (f a) (f b)) xs)) t → Contains (map f xs) t
    to c =
        let m = map_in f (dedup (λ (a b : X). is_text (f a) (f b)) xs) t c in
        subst (Contains (map f xs)) m.2 (in_map f xs m.0 (Contains-from_dedup (λ (a b : X). is_text (f a) (f b)) xs m.0 m.1))

    from : Contains (map f xs) t → Contains (map f (dedup (λ (a b : X). is_text (f a) (f b)) xs)) t
    from c =
        let m = map_in f xs t c in
        let r = Any-dedup e xs m.0 m.1 in
        subst (Contains (map f (dedup (λ (a b : X). is_text (f a) (f b)) xs))) (sym (text_is (f m.0) (f r.1) r.4) ∙ m.2) (in_map f (dedup (λ (a b : X). is_text (f a) (f b)) xs) r.1 (r.0, r.2, r.3))

-- what stands twice among sorted tags is the tag of two nodes
module _ (n : Nodes) (is : List ℕ) (within : AreNumbers n is) (rises : IsStrictlyIncreasing is) (tag : List ℕ) where
  tag_there : (y : Term) → tag_of y ≡ Some tag → passes (is_text tag) (tag_of y) ≡ true
  tag_there y e = ap (passes (is_text tag)) e ∙ is_itself tag

  there_tag : (o : Option (List ℕ)) → passes (is_text tag) o ≡ true → o ≡ Some tag
  there_tag None h = absurd (let z : false ≡ true = h in cc)
  there_tag (Some t) h = ap Some (sym (text_is tag t h))

  abbrev pub HasTwins : Type 0
  HasTwins = (y : Term) × (z : Term) × AreTwins (Contains (terms_at n is)) y z tag

  twins_of : IsTwice (λ y. passes (is_text tag) (tag_of y)) (terms_at n is) → HasTwins
  twins_of t = (
    t.item,
    t.other,
    record {
      differ = λ e. let same = distinct_terms n is within rises t.first t.second t.other (t.at_first ∙ ap Some e) t.at_second in let l = t.apart in omega (arith, same, l);
      first = in_at (terms_at n is) t.first t.item t.at_first;
      second = in_at (terms_at n is) t.second t.other t.at_second;
      first_tag = there_tag (tag_of t.item) t.item_passes;
      second_tag = there_tag (tag_of t.other) t.other_passes;
    },
  )

  of_twins : HasTwins → IsTwice (λ y. passes (is_text tag) (tag_of y)) (terms_at n is)
  of_twins h = at (in_place (terms_at n is) h.0 h.2.first) (in_place (terms_at n is) h.1 h.2.second)
    where
      at : (i : ℕ) × (slice_get (terms_at n is) i ≡ Some h.0) → (j : ℕ) × (slice_get (terms_at n is) j ≡ Some h.1) → IsTwice (λ y. passes (is_text tag) (tag_of y)) (terms_at n is)
      at p q = order (cases_lt p.0 q.0) (cases_lt q.0 p.0)
        where
          order : (p.0 < q.0) ⊎ (q.0 ≤ p.0) → (q.0 < p.0) ⊎ (p.0 ≤ q.0) → IsTwice (λ y. passes (is_text tag) (tag_of y)) (terms_at n is)
          order (inl l) _ = record { first = p.0; second = q.0; item = h.0; other = h.1; apart = l; at_first = p.1; at_second = q.1; item_passes = tag_there h.0 h.2.first_tag; other_passes = tag_there h.1 h.2.second_tag }
          order (inr l) (inl m) = record { first = q.0; second = p.0; item = h.1; other = h.0; apart = m; at_first = q.1; at_second = p.1; item_passes = tag_there h.1 h.2.second_tag; other_passes = tag_there h.0 h.2.first_tag }
          order (inr l) (inr m) =
              let e : p.0 ≡ q.0 = omega (arith, l, m) in
              absurd (h.2.differ (same_some (sym p.1 ∙ (ap (slice_get (terms_at n is)) e ∙ q.1))))

  pub repeated_twins : (ts : List (List ℕ)) (place : ℕ) → IsSorted text_cmp ts → IsPermutation (filter_map tag_of (terms_at n is)) ts → length ts ≤ place → IsRepeated ts place tag ↔ HasTwins
  repeated_twins ts place up moved end = (to, from)
    where
      to : IsRepeated ts place tag → HasTwins
      to r = twins_of ((twice_mapped tag_of (is_text tag) (terms_at n is)).0 (twice_moved (is_text tag) (filter_map tag_of (terms_at n is)) ts moved (side_by_side ts tag r.0 r.2 r.3)))

      from : HasTwins → IsRepeated ts place tag
      from h =
          let back = IsPermutation-sym (filter_map tag_of (terms_at n is)) ts moved in
          let k = neighbours ts up tag (twice_moved (is_text tag) ts (filter_map tag_of (terms_at n is)) back ((twice_mapped tag_of (is_text tag) (terms_at n is)).1 (of_twins h))) in
          let l = slice_get_within ts (k.0 + 1) tag k.2 in
          (k.0, omega (arith, l, end), k.1, k.2)
