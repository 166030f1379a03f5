-- What the numbers of value nodes say of the forms of constraints.
use Rattle.std.proofs.Common.{◌≡◌, ◌⊎◌, inl, inr, ℕ, zero, suc, ◌+◌, ◌<◌, ◌≤◌, ◌↔◌, ◌==◌, Bool, true, not, List, [], ◌∷◌, length, map, get_or, Contains, Some, None, refl, sym, ap, ◌∙◌, subst, arith}
use Rattle.std.proofs.lemmas.List.{length-map}
use Rattle.std.specs.Prelude.{IsTrue}
use Rattle.std.specs.List.Sorted.{IsStrictlyIncreasing}
use Rattle.std.proofs.lemmas.Bool.{cases_lt}
use Rattle.std.proofs.lemmas.Bool.Decides.{Decides-eqb}
use Rattle.std.proofs.lemmas.Map.Keys.{below_from_sorted, sorted_from_strictly_increasing}
use Rattle.std.proofs.lemmas.Option.{slice_get-get_or}
use Rattle.std.specs.declared.cmp.Ordering.{Ordering}
use Rattle.rdf_terms.specs.Term.{term_cmp}
use Rattle.rdf_terms.specs.TermOrder.{term_cmp_total, term_cmp-IsAntisymmetric}
use Rattle.rdf_terms.specs.declared.term.Term.{Term}
use Rattle.rdf_terms.specs.declared.term.Term.TheVariants.{Literal}
use Rattle.rdf_terms.specs.Nodes.{Nodes, terms}
use Rattle.rdf_terms.proofs.NodesLaws.{one_place_of_term}
use Rattle.rdf_terms.proofs.Members.{in_none, in_first, in_rest, in_cases, in_map, map_in}
use Rattle.rdf_navigation.specs.Numbers.{term_at}
use Rattle.shapes_profile.specs.Logic.{NoneFails, AtLeast}
use Rattle.shapes_graph.specs.Conformance.{Agree, IsOpen, AreTwins}
use Rattle.rdf_terms.specs.Statement.{Statement}
use Rattle.rdf_terms.specs.Graph.{Graph}
use Rattle.path_eval.specs.Numbered.{terms_at, AreNumbers}
use Rattle.core_constraints.specs.Decisions.{Says, Exactly}
use Rattle.core_constraints.specs.NumberLists.{AreNumbersOf}
use Rattle.core_constraints.proofs.Decided.{says_is, says_iff, says_not, take_whole, Distinct}
use Rattle.core_constraints.proofs.CountLaws.{First, exactly_none, exactly_more, exactly_iff, exactly_least}
use Rattle.core_constraints.proofs.ListedNumbers.{term_place, distinct_terms}

eq_or_not : (a b : ℕ) → (a ≡ b) ⊎ (¬ (a ≡ b))
eq_or_not a b = at (cases_lt a b) (cases_lt b a)
  where
    at : (a < b) ⊎ (b ≤ a) → (b < a) ⊎ (a ≤ b) → (a ≡ b) ⊎ (¬ (a ≡ b))
    at (inl l) _ = inr (λ e. omega (arith, l, e))
    at (inr g) (inl l) = inr (λ e. omega (arith, l, e))
    at (inr g) (inr h) = inl (omega (arith, g, h))

pub in_or_not : (xs : List ℕ) (a : ℕ) → Contains xs a ⊎ (¬ (Contains xs a))
in_or_not [] a = inr (in_none a)
in_or_not (x ∷ xs) a = at (eq_or_not x a) (in_or_not xs a)
  where
    at : (x ≡ a) ⊎ (¬ (x ≡ a)) → Contains xs a ⊎ (¬ (Contains xs a)) → Contains (x ∷ xs) a ⊎ (¬ (Contains (x ∷ xs) a))
    at (inl e) _ = inl (subst (λ z. Contains (x ∷ xs) z) e (in_first x xs))
    at (inr d) (inl h) = inl (in_rest x xs a h)
    at (inr d) (inr n) = inr (λ h. none (in_cases x xs a h))
      where
        none : (x ≡ a) ⊎ Contains xs a → ⊥
        none (inl e) = d e
        none (inr h) = n h

-- the first of ascending numbers is below the others
head_below : (x : ℕ) (xs : List ℕ) (a : ℕ) → IsStrictlyIncreasing (x ∷ xs) → Contains xs a → x < a
head_below x xs a rises h =
    let l = h.1 in
    let b = below_from_sorted (x ∷ xs) 0 (suc h.0) a (sorted_from_strictly_increasing (x ∷ xs) rises) (omega arith) (omega arith) in
    subst (λ m. x < m) h.2 b

tail_rises : (x : ℕ) (xs : List ℕ) → IsStrictlyIncreasing (x ∷ xs) → IsStrictlyIncreasing xs
tail_rises x xs rises k l = below_from_sorted (x ∷ xs) (suc k) (suc (k + 1)) 0 (sorted_from_strictly_increasing (x ∷ xs) rises) (omega arith) (omega arith)

-- ascending numbers are the same list, where they are the same numbers
same_list : (xs ys : List ℕ) → IsStrictlyIncreasing xs → IsStrictlyIncreasing ys → ((a : ℕ) → Contains xs a → Contains ys a) → ((a : ℕ) → Contains ys a → Contains xs a) → xs ≡ ys
same_list [] [] p q f g = refl
same_list [] (y ∷ ys) p q f g = absurd (in_none y (g y (in_first y ys)))
same_list (x ∷ xs) [] p q f g = absurd (in_none x (f x (in_first x xs)))
same_list (x ∷ xs) (y ∷ ys) p q f g = join (heads (in_cases y ys x (f x (in_first x xs))) (in_cases x xs y (g y (in_first y ys)))) (λ e. same_list xs ys (tail_rises x xs p) (tail_rises y ys q) (to e) (from e))
  where
    heads : (y ≡ x) ⊎ Contains ys x → (x ≡ y) ⊎ Contains xs y → x ≡ y
    heads (inl e) _ = sym e
    heads (inr h) (inl e) = e
    heads (inr h) (inr k) = let a = head_below y ys x q h in let b = head_below x xs y p k in absurd (omega (arith, a, b))

    to : x ≡ y → (a : ℕ) → Contains xs a → Contains ys a
    to e a h = pick (in_cases y ys a (f a (in_rest x xs a h)))
      where
        pick : (y ≡ a) ⊎ Contains ys a → Contains ys a
        pick (inl d) = let b = head_below x xs a p h in absurd (omega (arith, b, e, d))
        pick (inr k) = k

    from : x ≡ y → (a : ℕ) → Contains ys a → Contains xs a
    from e a h = pick (in_cases x xs a (g a (in_rest y ys a h)))
      where
        pick : (x ≡ a) ⊎ Contains xs a → Contains xs a
        pick (inl d) = let b = head_below y ys a q h in absurd (omega (arith, b, e, d))
        pick (inr k) = k

    join : x ≡ y → (x ≡ y → xs ≡ ys) → x ∷ xs ≡ y ∷ ys
    join e on = let d = on e in cc

pub mapped_empty : {X Y : Type 0} (f : X → Y) (xs : List X) (n : ℕ) (b : Bool) → n ≡ length xs → b ≡ (n == 0) → (b ≡ true) ↔ (map f xs ≡ [])
mapped_empty f [] n b l e = (λ h. refl, λ h. e ∙ (Decides-eqb n 0).1 l)
mapped_empty f (x ∷ xs) n b l e = (λ h. let z : n ≡ 0 = (Decides-eqb n 0).0 (sym e ∙ h) in absurd (omega (arith, z, l)), λ h. cc)

-- counts
pub least_says : {K : Type 0} {R : K → K → Ordering} (P : K → Type 0) (k m : ℕ) (b : Bool) → (b ≡ true) ↔ (m ≤ k) → Exactly R P k → Says b (AtLeast R P m)
least_says P k m b is h = let e = exactly_least P k m h in says_is b _ (λ t. e.1 (is.0 t), λ a. is.1 (e.0 a))

pub most_says : {K : Type 0} {R : K → K → Ordering} (P : K → Type 0) (k m : ℕ) (b : Bool) → (b ≡ true) ↔ (k ≤ m) → Exactly R P k → Says b (¬ (AtLeast R P (m + 1)))
most_says P k m b is h = let e = exactly_least P k (m + 1) h in says_is b _ (λ t a. above (is.0 t) (e.0 a), λ never. is.1 (below (cases_lt m k) (λ le. never (e.1 le))))
  where
    above : k ≤ m → m + 1 ≤ k → ⊥
    above a b = omega (arith, a, b)

    below : (m < k) ⊎ (k ≤ m) → ¬ (m + 1 ≤ k) → k ≤ m
    below (inl l) never = absurd (never (omega (arith, l)))
    below (inr g) never = g

module _ (n : Nodes) where
  same_number : (a b : ℕ) → a < length (terms n) → b < length (terms n) → term_at n a ≡ term_at n b → a ≡ b
  same_number a b la lb e = one_place_of_term n (term_at n a) a b (term_place n a la) (term_place n b lb ∙ ap Some (sym e))

  pub number_in : (is : List ℕ) (a : ℕ) → AreNumbers n is → a < length (terms n) → Contains (terms_at n is) (term_at n a) → Contains is a
  number_in is a within l h = let r = map_in (term_at n) is (term_at n a) h in subst (Contains is) (same_number r.0 a (within r.0 r.1) l r.2) r.1

  all_first : (xs : List Term) → Distinct xs → (j : ℕ) → j ≤ length xs → Exactly term_cmp (First xs (λ y. Unit {0}) j) j
  all_first xs once zero l = exactly_none term_cmp_total term_cmp-IsAntisymmetric xs (λ y. Unit {0})
  all_first xs once (suc j) l =
      let p : j + 1 ≡ suc j = omega arith in
      let lt : j < length xs = omega (arith, l) in
      subst (λ m. Exactly term_cmp (First xs (λ y. Unit {0}) (suc j)) m) p
      (exactly_more term_cmp_total term_cmp-IsAntisymmetric xs (λ y. Unit {0}) j j (get_or xs j (Literal [] [] None)) once (slice_get-get_or xs j (Literal [] [] None) lt) tt (all_first xs once j (omega (arith, lt))))

  module _ (V : Term → Type 0) (vs : List ℕ) (v : AreNumbersOf n V vs) where
    -- of nodes with F, as they were counted
    pub counted_of : (F : Term → Type 0) (k : ℕ) → Exactly term_cmp (λ y. Contains (terms_at n vs) y × F y) k → Exactly term_cmp (λ y. V y × F y) k
    counted_of F k h = exactly_iff (λ y. Contains (terms_at n vs) y × F y) (λ y. V y × F y) k (λ y. (λ g. ((v.exact y).0 g.0, g.1), λ g. ((v.exact y).1 g.0, g.1))) h

    pub counted_all : Exactly term_cmp (λ y. V y × Unit {0}) (length vs)
    counted_all =
        let xs = terms_at n vs in
        let e : length xs ≡ length vs = length-map vs (term_at n) in
        let le : length xs ≤ length xs = omega arith in
        counted_of (λ y. Unit {0}) (length vs)
        (subst (λ k. Exactly term_cmp (λ y. Contains xs y × Unit {0}) k) e
        (subst (λ ys. Exactly term_cmp (λ y. Contains ys y × Unit {0}) (length xs)) (take_whole xs (length xs) le) (all_first xs (distinct_terms n vs v.within v.rises) (length xs) le)))

    pub having_says : (o : Term) (b : Bool) → Says b (Contains (terms_at n vs) o) → Says b (V o)
    having_says o b h = says_iff b _ _ (v.exact o) h

    pub none_says : (G : Term → Type 0) (b : Bool) → Says b (NoneFails (Contains (terms_at n vs)) G) → Says b (NoneFails V G)
    none_says G b h = says_iff b _ _ (λ f bad. f (bad.0, (v.exact bad.0).1 bad.1, bad.2), λ f bad. f (bad.0, (v.exact bad.0).0 bad.1, bad.2)) h

    pub closing_says : (g : Graph) (allowed : List Term) (on b : Bool) → on ≡ true → Says b ((t : Statement) × IsOpen allowed g (Contains (terms_at n vs)) t)
        → Says (not b) (IsTrue on → ¬ ((t : Statement) × IsOpen allowed g V t))
    closing_says g allowed on b e h =
        says_iff (not b) (¬ ((t : Statement) × IsOpen allowed g (Contains (terms_at n vs)) t)) (IsTrue on → ¬ ((t : Statement) × IsOpen allowed g V t)) (
          λ f o bad. f (bad.0, record { there = bad.1.there; subject = (v.exact bad.0.subject).1 bad.1.subject; other = bad.1.other }),
          λ f bad. f e (bad.0, record { there = bad.1.there; subject = (v.exact bad.0.subject).0 bad.1.subject; other = bad.1.other }),
        )
        (says_not b _ h)

    pub unique_says : (on b : Bool) (tags : List (List ℕ)) → ((tag : List ℕ) → Contains tags tag ↔ ((y : Term) × (z : Term) × AreTwins (Contains (terms_at n vs)) y z tag)) → (b ≡ true) ↔ (tags ≡ [])
        → on ≡ true → Says b (IsTrue on → ¬ ((y : Term) × (z : Term) × (tag : List ℕ) × AreTwins V y z tag))
    unique_says on b tags is nil e = says_is b _ (λ t o bad. absurd (in_none bad.2 (subst (λ ts. Contains ts bad.2) (nil.0 t) (listed bad.0 bad.1 bad.2 bad.3))), λ h. nil.1 (empty tags refl h))
      where
        listed : (y z : Term) (tag : List ℕ) → AreTwins V y z tag → Contains tags tag
        listed y z tag h =
            (is tag).1 (y, z, record { differ = h.differ; first = (v.exact y).1 h.first; second = (v.exact z).1 h.second; first_tag = h.first_tag; second_tag = h.second_tag })

        empty : (ts : List (List ℕ)) → tags ≡ ts → (IsTrue on → ¬ ((y : Term) × (z : Term) × (tag : List ℕ) × AreTwins V y z tag)) → tags ≡ []
        empty [] d h = d
        empty (t ∷ ts) d h =
            let w = (is t).0 (subst (λ us. Contains us t) (sym d) (in_first t ts)) in
            absurd (h e (w.0, w.1, t, record { differ = w.2.differ; first = (v.exact w.0).0 w.2.first; second = (v.exact w.1).0 w.2.second; first_tag = w.2.first_tag; second_tag = w.2.second_tag }))

    module _ (W : Term → Type 0) (os : List ℕ) (w : AreNumbersOf n W os) where
      agree_of : vs ≡ os → Agree V W
      agree_of e =
          record {
            no_value_alone = λ bad. bad.2 ((w.exact bad.0).0 (subst (λ is. Contains (terms_at n is) bad.0) e ((v.exact bad.0).1 bad.1)));
            no_object_alone = λ bad. bad.2 ((v.exact bad.0).0 (subst (λ is. Contains (terms_at n is) bad.0) (sym e) ((w.exact bad.0).1 bad.1)));
          }

      same_of : Agree V W → vs ≡ os
      same_of h = same_list vs os v.rises w.rises (λ a k. to a k (in_or_not os a)) (λ a k. from a k (in_or_not vs a))
        where
          to : (a : ℕ) → Contains vs a → Contains os a ⊎ (¬ (Contains os a)) → Contains os a
          to a k (inl g) = g
          to a k (inr never) =
              absurd (h.no_value_alone (term_at n a, (v.exact (term_at n a)).0 (in_map (term_at n) vs a k), λ g. never (number_in os a w.within (v.within a k) ((w.exact (term_at n a)).1 g))))

          from : (a : ℕ) → Contains os a → Contains vs a ⊎ (¬ (Contains vs a)) → Contains vs a
          from a k (inl g) = g
          from a k (inr never) =
              absurd (h.no_object_alone (term_at n a, (w.exact (term_at n a)).0 (in_map (term_at n) os a k), λ g. never (number_in vs a v.within (w.within a k) ((v.exact (term_at n a)).1 g))))

      pub same_says : (b : Bool) → (b ≡ true) ↔ (vs ≡ os) → Says b (Agree V W)
      same_says b is = says_is b _ (λ t. agree_of (is.0 t), λ h. is.1 (same_of h))

      common : (y : Term) → V y → W y → (a : ℕ) × Contains vs a × Contains os a
      common y p q =
          let r = map_in (term_at n) vs y ((v.exact y).1 p) in
          (r.0, r.1, number_in os r.0 w.within (v.within r.0 r.1) (subst (λ z. Contains (terms_at n os) z) (sym r.2) ((w.exact y).1 q)))

      pub common_says : (b : Bool) → Says b ((a : ℕ) × Contains vs a × Contains os a) → Says (not b) (NoneFails V (λ y. ¬ (W y)))
      common_says b h =
          says_iff (not b) (¬ ((a : ℕ) × Contains vs a × Contains os a)) (NoneFails V (λ y. ¬ (W y)))
          (λ never bad. bad.2 (λ q. never (common bad.0 bad.1 q)), λ f p. f (term_at n p.0, (v.exact (term_at n p.0)).0 (in_map (term_at n) vs p.0 p.1), λ g. g ((w.exact (term_at n p.0)).0 (in_map (term_at n) os p.0 p.2))))
          (says_not b _ h)
