-- The places of triples in the order of their objects: how the order is made, searched and kept.
use Rattle.std.proofs.Common.{◌≡◌, ℕ, zero, suc, ◌+◌, ◌-◌, ◌<◌, ◌≤◌, ◌⊎◌, ◌↔◌, inl, inr, Bool, true, false, List, [], ◌∷◌, map, length, get_or, slice_get, Option, Some, None, Contains, refl, sym, ap, ◌∙◌, subst, arith}
use Rattle.std.proofs.Math.Path.{fun_ext}
use Rattle.std.specs.declared.cmp.Ordering.{Ordering}
use Rattle.std.specs.declared.cmp.Ordering.TheVariants.{Less, Equal, Greater}
use Rattle.std.specs.Ordering.{is_lt, is_eq, ordering_then, ordering_index, nat_cmp, eq_by_cmp, MatchOrdering}
use Rattle.std.specs.Cmp.{IsTotalOrder, nat_cmp_total, tied_itself}
use Rattle.std.specs.Cmp.Lexicographic.{options_total}
use Rattle.std.specs.Option.{option_cmp, option_map}
use Rattle.std.specs.List.{insert, filter, IsDistinct}
use Rattle.std.specs.List.Sorted.{IsPermutation, IsPartitionPoint, IsPartitionedBy, IsNonDecreasingBy, IsSortedBy, IsStrictlyIncreasing}
use Rattle.std.specs.FinMap.{IsAntisymmetric, nat_cmp-IsAntisymmetric}
use Rattle.std.proofs.lemmas.Cmp.{on_total, then_total, ranked, eq_by_cmp_equiv}
use Rattle.std.proofs.lemmas.List.{get_or-map, get_or_default, length-map}
use Rattle.std.proofs.lemmas.Bool.Decides.{nat_tests}
use Rattle.std.proofs.lemmas.List.Edits.{length-insert}
use Rattle.std.proofs.lemmas.List.Elements.{filter_passes}
use Rattle.std.proofs.lemmas.List.Sorted.{searchable_from_sorted, Contains-permutation, IsPermutation-sym, IsPermutation-insert}
use Rattle.std.proofs.lemmas.Map.Keys.{IsDistinct-from_apart, IsDistinct-IsPermutation}
use Rattle.std.proofs.lemmas.Option.{slice_get_past}
use Rattle.rdf_terms.specs.Term.{term_cmp}
use Rattle.rdf_terms.specs.TermHash.{term_hash, hashed_cmp}
use Rattle.rdf_terms.specs.declared.term.Term.{Term}
use Rattle.rdf_terms.specs.Statement.{Statement}
use Rattle.rdf_terms.specs.Set.{is_rising}
use Rattle.rdf_terms.specs.Graph.{object_at, ArePlacesOfObject}
use Rattle.rdf_terms.specs.ObjectOrder.{place_cmp, sought_cmp, IsObjectOrder, moved_place, AreAllPlaces, object_hash}
use Rattle.rdf_terms.specs.TermOrder.{term_cmp_total, term_cmp-IsAntisymmetric}
use Rattle.rdf_terms.proofs.Orders.{lt_or_le, less_of, equal_of, first_not_below, both_ties}
use Rattle.rdf_terms.proofs.Parts.{below_parts}
use Rattle.rdf_terms.proofs.Members.{in_filter, filter_in, in_map, map_in, in_rest, in_cases}
use Rattle.rdf_terms.proofs.Sets.{rising_sorted, rising_pairs, rising_of_distinct, rising-filter, rising-map, rising_searchable, inserted_rises}

-- numbers
less_nat : (x y : ℕ) → nat_cmp x y ≡ Less → x < y
less_nat x y e = subst (λ o. MatchOrdering o (x < y) (x ≡ y) (y < x)) e (ranked x y (nat_cmp x y) refl)

nat_less : (x y : ℕ) → x < y → nat_cmp x y ≡ Less
nat_less x y lt = by (nat_cmp x y) (ranked x y (nat_cmp x y) refl)
  where
    by : (o : Ordering) → MatchOrdering o (x < y) (x ≡ y) (y < x) → o ≡ Less
    by Less r = refl
    by Equal r = absurd (omega arith)
    by Greater r = absurd (omega arith)

-- objects
hashed_total : IsTotalOrder hashed_cmp
hashed_total = then_total (on_total term_hash nat_cmp_total) term_cmp_total

-- terms that tie have one hash
pub hashed_tie : (x y : Term) → term_cmp x y ≡ Equal → hashed_cmp x y ≡ Equal
hashed_tie x y e = ap (hashed_cmp x) (sym (term_cmp-IsAntisymmetric x y e)) ∙ tied_itself hashed_total x

abbrev object_cmp : Option Term → Option Term → Ordering
object_cmp = option_cmp hashed_cmp

objects_total : IsTotalOrder object_cmp
objects_total = options_total hashed_total

object_same : (a b : Option Term) → object_cmp a b ≡ Equal → a ≡ b
object_same None None e = refl
object_same None (Some y) e = cc
object_same (Some x) None e = cc
object_same (Some x) (Some y) e = ap Some (term_cmp-IsAntisymmetric x y ((both_ties _ _ e).1))

object_tied : (a : Option Term) → object_cmp a a ≡ Equal
object_tied a = tied_itself objects_total a

module _ (ts : List Statement) where
  pub place_cmp_total : IsTotalOrder (place_cmp ts)
  place_cmp_total = then_total (on_total (object_at ts) objects_total) nat_cmp_total

  pub place_cmp-IsAntisymmetric : IsAntisymmetric (place_cmp ts)
  place_cmp-IsAntisymmetric i j e = nat_cmp-IsAntisymmetric i j ((both_ties _ _ e).1)

  -- how the object at a place is ordered against an object
  abbrev key_at : Term → ℕ → Ordering
  key_at o i = object_cmp (object_at ts i) (Some o)

  -- places in that order have their objects in order
  keys_at_rise : (places : List ℕ) (o : Term) → is_rising (place_cmp ts) places ≡ true → IsNonDecreasingBy (λ i. ordering_index (key_at o i)) places
  keys_at_rise places o h =
      searchable_from_sorted objects_total (object_at ts) places (Some o) (λ k d low high. first_not_below _ _ (rising_sorted place_cmp_total places h k d low high))

  -- the places that tie with an object are its places
  tied_places : (places : List ℕ) (o : Term) → IsObjectOrder ts places → ArePlacesOfObject ts o (filter (λ i. is_eq (key_at o i)) places)
  tied_places places o order = record { rises = rises; exact = λ i. (there i, back i) }
    where
      at : ℕ → Bool
      at i = is_eq (key_at o i)

      same_object : (i : ℕ) → at i ≡ true → object_at ts i ≡ Some o
      same_object i e = object_same _ _ (equal_of _ e)

      there : (i : ℕ) → Contains (filter at places) i → object_at ts i ≡ Some o
      there i c = same_object i ((filter_in at places i c).1)

      back : (i : ℕ) → object_at ts i ≡ Some o → Contains (filter at places) i
      back i e = in_filter at places i ((order.all i).1 (within (lt_or_le i (length ts)))) (ap is_eq (ap (λ a. object_cmp a (Some o)) e ∙ object_tied (Some o)))
        where
          within : (i < length ts) ⊎ (length ts ≤ i) → i < length ts
          within (inl lt) = lt
          within (inr le) = let none : None ≡ Some o = sym (ap (option_map (λ (t : Statement). t.object)) (slice_get_past ts i le)) ∙ e in cc

      rises : IsStrictlyIncreasing (filter at places)
      rises k lt =
          let a = get_or (filter at places) k 0 in
          let b = get_or (filter at places) (k + 1) 0 in
          let e = same_object a (filter_passes at places k 0 (omega arith)) in
          let f = same_object b (filter_passes at places (k + 1) 0 lt) in
          let less = rising_pairs place_cmp_total (filter at places) (rising-filter (place_cmp ts) at places order.rises) k (k + 1) 0 (omega arith) lt in
          less_nat a b (sym (ap (λ r. ordering_then r (nat_cmp a b)) ((λ i. object_cmp (e i) (f i)) ∙ object_tied (Some o))) ∙ less)

  -- the same of an object that is sought by its hash
  abbrev pub sought_at : ℕ → Term → ℕ → Ordering
  sought_at hash o i = sought_cmp hash o (object_at ts i)

  sought_at_is : (o : Term) (hash : ℕ) → hash ≡ term_hash o → sought_at hash o ≡ key_at o
  sought_at_is o hash e = fun_ext (λ i. ap (λ n. sought_cmp n o (object_at ts i)) e ∙ by (object_at ts i))
    where
      by : (a : Option Term) → sought_cmp (term_hash o) o a ≡ object_cmp a (Some o)
      by None = refl
      by (Some x) = refl

  pub sought_at_rise : (places : List ℕ) (o : Term) (hash : ℕ) → hash ≡ term_hash o → is_rising (place_cmp ts) places ≡ true → IsNonDecreasingBy (λ i. ordering_index (sought_at hash o i)) places
  sought_at_rise places o hash e h = subst (λ k. IsNonDecreasingBy (λ i. ordering_index (k i)) places) (sym (sought_at_is o hash e)) (keys_at_rise places o h)

  pub sought_places : (places : List ℕ) (o : Term) (hash : ℕ) → hash ≡ term_hash o → IsObjectOrder ts places → ArePlacesOfObject ts o (filter (λ i. is_eq (sought_at hash o i)) places)
  sought_places places o hash e order = subst (λ k. ArePlacesOfObject ts o (filter (λ i. is_eq (k i)) places)) (sym (sought_at_is o hash e)) (tied_places places o order)

  -- all places, in another order
  pub permuted_all : (places others : List ℕ) → AreAllPlaces ts places → IsPermutation places others → (i : ℕ) → Contains others i ↔ (i < length ts)
  permuted_all places others are moved i = (there, back)
    where
      at : (k d : ℕ) → k < length ts → get_or places k d ≡ k
      at k d lt = get_or_default places k d 0 (let long = are.long in omega arith) ∙ are.each k lt

      there : Contains others i → i < length ts
      there c = let p = Contains-permutation others places i (IsPermutation-sym places others moved) c in
          let lt = p.1 in
          let k = p.0 in
          let long = are.long in
          let e : k ≡ i = sym (at k i (omega arith)) ∙ p.2 in
          omega arith

      back : i < length ts → Contains others i
      back lt = let long = are.long in Contains-permutation places others i moved (i, omega arith, at i i lt)

  -- all places, sorted
  pub sorted_places : (places sorted : List ℕ) → AreAllPlaces ts places → IsPermutation places sorted → IsSortedBy (λ i j. is_lt (place_cmp ts i j)) sorted → IsObjectOrder ts sorted
  sorted_places places sorted are moved up = record { rises = rising_of_distinct place_cmp_total sorted up distinct; all = permuted_all places sorted are moved }
    where
      at : (k d : ℕ) → k < length ts → get_or places k d ≡ k
      at k d lt = get_or_default places k d 0 (let long = are.long in omega arith) ∙ are.each k lt

      apart : (i j d : ℕ) → i < j → j < length places → eq_by_cmp (place_cmp ts) (get_or places i d) (get_or places j d) ≡ false
      apart i j d lt within = let long = are.long in (λ n. eq_by_cmp (place_cmp ts) (at i d (omega arith) n) (at j d (omega arith) n)) ∙ by _ refl
        where
          by : (o : Ordering) → place_cmp ts i j ≡ o → is_eq o ≡ false
          by Less e = refl
          by Equal e = let same = place_cmp-IsAntisymmetric i j e in absurd (omega arith)
          by Greater e = refl

      distinct : IsDistinct (eq_by_cmp (place_cmp ts)) sorted
      distinct = IsDistinct-IsPermutation (eq_by_cmp (place_cmp ts)) ((eq_by_cmp_equiv place_cmp_total).symm) places sorted moved (IsDistinct-from_apart _ places apart)

  -- a smaller hash comes first
  pub before_by_hash : (i j : ℕ) → object_hash (object_at ts i) < object_hash (object_at ts j) → place_cmp ts i j ≡ Less
  before_by_hash i j lt = by (object_at ts i) (object_at ts j) lt
    where
      by : (a b : Option Term) → object_hash a < object_hash b → ordering_then (object_cmp a b) (nat_cmp i j) ≡ Less
      by None None l = absurd (omega arith)
      by None (Some y) l = refl
      by (Some x) None l = absurd (omega arith)
      by (Some x) (Some y) l = ap (λ o. ordering_then (ordering_then o (term_cmp x y)) (nat_cmp i j)) (nat_less (term_hash x) (term_hash y) l)

  -- of one object, the earlier place
  pub before_by_place : (i j : ℕ) → object_at ts i ≡ object_at ts j → i < j → place_cmp ts i j ≡ Less
  before_by_place i j e lt = ap (λ a. ordering_then (object_cmp (object_at ts i) a) (nat_cmp i j)) (sym e) ∙ ap (λ o. ordering_then o (nat_cmp i j)) (object_tied (object_at ts i)) ∙ nat_less i j lt

-- a triple that is inserted moves the later places
pub moved_before : (from i : ℕ) → i < from → moved_place from i ≡ i
moved_before from i lt = grind (arith, nat_tests)

pub moved_after : (from i : ℕ) → from ≤ i → moved_place from i ≡ suc i
moved_after from i le = grind (arith, nat_tests)

module _ (t : Statement) where
  get_before : (ts : List Statement) (at k : ℕ) → k < at → at ≤ length ts → slice_get (insert ts at t) k ≡ slice_get ts k
  get_before [] at k lt le = absurd (omega arith)
  get_before (x ∷ xs) zero k lt le = absurd (omega arith)
  get_before (x ∷ xs) (suc at) zero lt le = refl
  get_before (x ∷ xs) (suc at) (suc k) lt le = get_before xs at k (omega arith) (omega arith)

  get_after : (ts : List Statement) (at k : ℕ) → at ≤ k → at ≤ length ts → slice_get (insert ts at t) (suc k) ≡ slice_get ts k
  get_after [] zero k le h = refl
  get_after [] (suc at) k le h = absurd (omega arith)
  get_after (x ∷ xs) zero k le h = refl
  get_after (x ∷ xs) (suc at) zero le h = absurd (omega arith)
  get_after (x ∷ xs) (suc at) (suc k) le h = get_after xs at k (omega arith) (omega arith)

  module _ (ts : List Statement) (at : ℕ) (within : at ≤ length ts) where
    object_moved : (i : ℕ) → object_at (insert ts at t) (moved_place at i) ≡ object_at ts i
    object_moved i = ap (option_map (λ (u : Statement). u.object)) (by (lt_or_le i at))
      where
        by : (i < at) ⊎ (at ≤ i) → slice_get (insert ts at t) (moved_place at i) ≡ slice_get ts i
        by (inl lt) = ap (slice_get (insert ts at t)) (moved_before at i lt) ∙ get_before ts at i lt within
        by (inr le) = ap (slice_get (insert ts at t)) (moved_after at i le) ∙ get_after ts at i le within

    moved_less : (i j : ℕ) → i < j → moved_place at i < moved_place at j
    moved_less i j lt = by (lt_or_le i at) (lt_or_le j at)
      where
        by : (i < at) ⊎ (at ≤ i) → (j < at) ⊎ (at ≤ j) → moved_place at i < moved_place at j
        by (inl a) (inl b) = let e = moved_before at i a in let f = moved_before at j b in omega arith
        by (inl a) (inr b) = let e = moved_before at i a in let f = moved_after at j b in omega arith
        by (inr a) (inl b) = absurd (omega arith)
        by (inr a) (inr b) = let e = moved_after at i a in let f = moved_after at j b in omega arith

    moved_rises : (i j : ℕ) → place_cmp ts i j ≡ Less → place_cmp (insert ts at t) (moved_place at i) (moved_place at j) ≡ Less
    moved_rises i j e = (λ n. ordering_then (object_cmp (object_moved i n) (object_moved j n)) (nat_cmp (moved_place at i) (moved_place at j))) ∙ by (object_cmp (object_at ts i) (object_at ts j)) e
      where
        by : (o : Ordering) → ordering_then o (nat_cmp i j) ≡ Less → ordering_then o (nat_cmp (moved_place at i) (moved_place at j)) ≡ Less
        by Less e = refl
        by Equal e = nat_less _ _ (moved_less i j (less_nat i j e))
        by Greater e = cc

    not_moved_here : (i : ℕ) → moved_place at i ≡ at → ⊥
    not_moved_here i e = by (lt_or_le i at)
      where
        by : (i < at) ⊎ (at ≤ i) → ⊥
        by (inl lt) = let f = moved_before at i lt in absurd (omega arith)
        by (inr le) = let f = moved_after at i le in absurd (omega arith)

    module _ (places : List ℕ) (order : IsObjectOrder ts places) where
      abbrev moved : List ℕ
      moved = map (moved_place at) places

      moved_order : is_rising (place_cmp (insert ts at t)) moved ≡ true
      moved_order = rising-map (place_cmp ts) (place_cmp (insert ts at t)) (moved_place at) moved_rises places order.rises

      pub moved_parts : IsPartitionedBy (λ i. is_lt (place_cmp (insert ts at t) i at)) moved
      moved_parts = below_parts (λ i. place_cmp (insert ts at t) i at) moved (rising_searchable (place_cmp_total (insert ts at t)) moved at moved_order)

      -- the place goes between those that are below it and those that are above it
      pub placed : (n : ℕ) → IsPartitionPoint (λ i. is_lt (place_cmp (insert ts at t) i at) ≡ true) (λ i. is_lt (place_cmp (insert ts at t) i at) ≡ false) moved n → n ≤ length moved → IsObjectOrder (insert ts at t) (insert moved n at)
      placed n part bound = record {
        rises = inserted_rises (place_cmp_total (insert ts at t)) moved at n moved_order (λ k d low high. less_of _ (part.0 k d low high), λ k d low high. above _ (get_or moved k d) refl (part.1 k d low high) (not_here k d high));
        all = λ j. (there j, back j);
      }
        where
          not_here : (k d : ℕ) → k < length moved → get_or moved k d ≡ at → ⊥
          not_here k d high e = not_moved_here (get_or places k d) (sym (get_or-map (moved_place at) places k d d (omega (arith, length-map places (moved_place at)))) ∙ e)

          above : (o : Ordering) (i : ℕ) → place_cmp (insert ts at t) i at ≡ o → is_lt o ≡ false → (i ≡ at → ⊥) → o ≡ Greater
          above Less i e f differs = cc
          above Equal i e f differs = absurd (differs (place_cmp-IsAntisymmetric (insert ts at t) i at e))
          above Greater i e f differs = refl

          longer : length (insert ts at t) ≡ length ts + 1
          longer = length-insert ts at t within

          there : (j : ℕ) → Contains (insert moved n at) j → j < length (insert ts at t)
          there j c = by (in_cases at moved j (Contains-permutation (insert moved n at) (at ∷ moved) j (IsPermutation-sym (at ∷ moved) (insert moved n at) (IsPermutation-insert moved n at)) c))
            where
              by : (at ≡ j) ⊎ Contains moved j → j < length (insert ts at t)
              by (inl e) = omega (arith, longer, within)
              by (inr c) =
                  let p = map_in (moved_place at) places j c in
                  let i = p.0 in
                  let lt = (order.all p.0).0 p.1 in
                  let e = p.2 in
                  over i lt e (lt_or_le i at)
                where
                  over : (i : ℕ) → i < length ts → moved_place at i ≡ j → (i < at) ⊎ (at ≤ i) → j < length (insert ts at t)
                  over i lt e (inl a) = let f = moved_before at i a in omega (arith, longer)
                  over i lt e (inr a) = let f = moved_after at i a in omega (arith, longer)

          back : (j : ℕ) → j < length (insert ts at t) → Contains (insert moved n at) j
          back j lt = Contains-permutation (at ∷ moved) (insert moved n at) j (IsPermutation-insert moved n at) (by (lt_or_le j at) (lt_or_le at j))
            where
              from : (i : ℕ) → i < length ts → moved_place at i ≡ j → Contains (at ∷ moved) j
              from i h e = subst (Contains (at ∷ moved)) e (in_rest at moved _ (in_map (moved_place at) places i ((order.all i).1 h)))

              by : (j < at) ⊎ (at ≤ j) → (at < j) ⊎ (j ≤ at) → Contains (at ∷ moved) j
              by (inl a) b = from j (omega (arith, within)) (moved_before at j a)
              by (inr a) (inl b) = from (j - 1) (omega (arith, longer)) (let e = moved_after at (j - 1) (omega arith) in omega arith)
              by (inr a) (inr b) = (0, omega arith, omega arith)
