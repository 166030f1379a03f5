-- Counters of value nodes: the first j of the nodes that are value nodes in some edited graph.
use Rattle.std.proofs.Common.{◌≡◌, ◌↔◌, ◌⊎◌, inl, inr, ℕ, zero, suc, ◌+◌, ◌<◌, ◌≤◌, Bool, true, false, IsTrue, List, [], ◌∷◌, map, length, take, Contains, Option, Some, None, slice_get, refl, sym, ap, ◌∙◌, subst, arith}
use Rattle.std.proofs.lemmas.List.{length-map}
use Rattle.std.specs.declared.cmp.Ordering.TheVariants.{Less}
use Rattle.std.specs.List.{AllByRecursion}
use Rattle.std.specs.List.Sorted.{IsStrictlyIncreasing, IsStrictlySortedBy}
use Rattle.std.proofs.lemmas.Map.Keys.{below_from_sorted, sorted_from_strictly_increasing}
use Rattle.rdf_terms.specs.declared.term.Term.{Term}
use Rattle.rdf_terms.specs.Term.{term_cmp}
use Rattle.rdf_terms.specs.TermOrder.{term_cmp_total, term_cmp-IsAntisymmetric}
use Rattle.rdf_terms.specs.Graph.{Graph}
use Rattle.rdf_terms.specs.Nodes.{Nodes, terms, has_term, nodes_of_rising, is_rising}
use Rattle.rdf_terms.specs.Members.{IsSetOf}
use Rattle.rdf_terms.proofs.Members.{in_none, in_first, in_rest, in_cases, in_map, map_in}
use Rattle.rdf_terms.proofs.Membership.{of_rising_has, has_of_rising}
use Rattle.rdf_terms.proofs.Sets.{items-of_rising, rising_of_strict}
use Rattle.rdf_terms.proofs.NodesLaws.{same_nodes_within, terms_rise_at}
use Rattle.shapes_profile.specs.Logic.{AtLeast}
use Rattle.shapes_graph.specs.declared.constraints.Constraint.{Constraint}
use Rattle.shapes_graph.specs.Constraints.{constraint_at}
use Rattle.shapes_graph.specs.Forms.{Test, Form, Least, Most, form_of}
use Rattle.shapes_graph.specs.Conformance.{IsGood}
use Rattle.shapes_graph.specs.PathForms.{path_of}
use Rattle.shapes_graph.specs.Reach.{IsValue, IsValueBy}
use Rattle.repair_problem.specs.declared.atom.Atom.TheVariants as atom
use Rattle.repair_problem.specs.Setting.{Setting, IsEdit, full, nodes, node}
use Rattle.repair_problem.specs.ConstraintFacts.{AtLeastOfFirst, CountsBy}
use Rattle.repair_problem.specs.Meaning.{Means}
use Rattle.repair_problem.specs.PartMeaning.{PartMeans}
use Rattle.path_levels.specs.PossibleNodes.{node_count}
use Rattle.path_levels.proofs.NodeLaws.{node_there}
use Rattle.path_levels.proofs.Possibility.{has_possible}
use Rattle.count_encode.specs.Counts.{counted}
use Rattle.core_constraints.proofs.Decided.{take_whole}
use Rattle.rdf_navigation.specs.Numbers.{term_at}
use Rattle.path_eval.specs.Numbered.{AreNumbers}
use Rattle.core_constraints.proofs.ListedNumbers.{term_place}
use Rattle.core_constraints.proofs.CountLaws.{First, at_least_iff, at_least_none}
use Rattle.atom_parts.specs.ValueParts.{values_by, values_of}
use Rattle.atom_parts.proofs.Facts.{iff_same, iff_sym, iff_trans}
use Rattle.atom_parts.proofs.CounterMeans.{counted_means, counter_bound}
use Rattle.atom_parts.proofs.Constraints.{C, count_means, first_all}
use Rattle.atom_parts.proofs.Reached.{value_known, value_node, values_rise, value_terms_once}

-- numbers that rise stand for terms that rise
tail_rises : (x : ℕ) (xs : List ℕ) → IsStrictlyIncreasing (x ∷ xs) → IsStrictlyIncreasing xs
tail_rises x xs rises k l = below_from_sorted (x ∷ xs) (suc k) (suc (k + 1)) 0 (sorted_from_strictly_increasing (x ∷ xs) rises) (omega arith) (omega arith)

head_below : (x : ℕ) (xs : List ℕ) (a : ℕ) → IsStrictlyIncreasing (x ∷ xs) → Contains xs a → x < a
head_below x xs a rises h =
    let l = h.1 in
    let b = below_from_sorted (x ∷ xs) 0 (suc h.0) a (sorted_from_strictly_increasing (x ∷ xs) rises) (omega arith) (omega arith) in
    subst (λ m. x < m) h.2 b

terms_sorted : (n : Nodes) (xs : List ℕ) → IsStrictlyIncreasing xs → AreNumbers n xs → IsStrictlySortedBy term_cmp (map (term_at n) xs)
unfolding IsStrictlySortedBy
terms_sorted n [] rises within = tt
terms_sorted n (x ∷ xs) rises within = (heads xs (λ y c. c), terms_sorted n xs (tail_rises x xs rises) (λ y c. within y (in_rest x xs y c)))
  where
    there : (y : ℕ) → Contains (x ∷ xs) y → slice_get (terms n) y ≡ Some (term_at n y)
    there y c = term_place n y (within y c)

    heads : (ys : List ℕ) → ((y : ℕ) → Contains ys y → Contains xs y) → AllByRecursion (λ b. term_cmp (term_at n x) b ≡ Less) (map (term_at n) ys)
    heads [] all = tt
    heads (y ∷ ys) all =
        let c = all y (in_first y ys) in
        (terms_rise_at n (term_at n x) (term_at n y) x y (there x (in_first x xs)) (there y (in_rest x xs y c)) (head_below x xs y rises c), heads ys (λ z d. all z (in_rest y ys z d)))

module _ (s : Setting) where
  -- the nodes that are value nodes in some edited graph, as terms
  abbrev pub value_terms : ℕ → ℕ → List Term
  value_terms n x = map (node s) (values_of s n x)

  -- they are those of the full graph
  full_edit : IsEdit s (full s)
  full_edit t h = h

  value_there : (n x : ℕ) (b : Term) → x < node_count s → Contains (value_terms n x) b → IsValue s.shapes n (full s) (node s x) b
  value_there n x b l c = let r = map_in (node s) (values_of s n x) b c in subst (IsValue s.shapes n (full s) (node s x)) r.2 (by_path (path_of s.shapes n) r.0 r.1)
    where
      by_path : (o : Option ℕ) (y : ℕ) → Contains (values_by s o x) y → IsValueBy s.shapes o (full s) (node s x) (node s y)
      by_path None y c = ap (node s) (alone y c)
        where
          alone : (y : ℕ) → Contains (x ∷ []) y → x ≡ y
          alone y c = pick (in_cases x [] y c)
            where
              pick : (x ≡ y) ⊎ Contains [] y → x ≡ y
              pick (inl e) = e
              pick (inr k) = absurd (in_none y k)
      by_path (Some p) y c = (has_possible s p x y c).2

  value_listed : (n x : ℕ) (b : Term) → x < node_count s → IsValue s.shapes n (full s) (node s x) b → Contains (value_terms n x) b
  value_listed n x b l v = let k = value_known s (full s) full_edit n x b l v in subst (Contains (value_terms n x)) k.2 (in_map (node s) (values_of s n x) k.0 k.3)

  terms_rise : (n x : ℕ) → x < node_count s → is_rising (value_terms n x) ≡ true
  terms_rise n x l = rising_of_strict term_cmp (value_terms n x) (terms_sorted (nodes s) (values_of s n x) (values_rise s n x) (λ y c. value_node s n x y l c))

  abbrev value_set : ℕ → ℕ → Nodes
  value_set n x = nodes_of_rising (value_terms n x)

  set_terms : (n x : ℕ) → x < node_count s → terms (value_set n x) ≡ value_terms n x
  set_terms n x l = items-of_rising term_cmp (value_terms n x) (terms_rise n x l)

  set_is : (n x : ℕ) → x < node_count s → IsSetOf (IsValue s.shapes n (full s) (node s x)) (value_set n x)
  set_is n x l b = (
    λ h. value_there n x b l (of_rising_has term_cmp_total term_cmp-IsAntisymmetric (value_terms n x) b (terms_rise n x l) h),
    λ v. has_of_rising term_cmp_total term_cmp-IsAntisymmetric (value_terms n x) b (terms_rise n x l) (value_listed n x b l v),
  )

  -- the count over a set of all of them is one over their numbers
  pub first_values : (n x : ℕ) (P : Term → Type 0) (j m : ℕ) → x < node_count s → AtLeastOfFirst (IsValue s.shapes n (full s) (node s x)) P j m ↔ AtLeast term_cmp (First (value_terms n x) P j) m
  first_values n x P j m l = (
    λ h. subst (λ ts. AtLeast term_cmp (λ y. Contains (take j ts) y × P y) m) (ap terms (one h.counted h.all) ∙ set_terms n x l) h.enough,
    λ h. record { counted = value_set n x; all = set_is n x l; enough = subst (λ ts. AtLeast term_cmp (λ y. Contains (take j ts) y × P y) m) (sym (set_terms n x l)) h },
  )
    where
      one : (k : Nodes) → IsSetOf (IsValue s.shapes n (full s) (node s x)) k → k ≡ value_set n x
      one k h = same_nodes_within k (value_set n x) (λ b e. (set_is n x l b).1 ((h b).0 e)) (λ b e. (h b).1 ((set_is n x l b).0 e))

  module _ (g : Graph) (within : IsEdit s g) (i : ℕ) (c : Constraint) (f : Form) (e : constraint_at s.shapes i ≡ Some c) (k : form_of c.kind ≡ f) (x : ℕ) (l : x < node_count s) where
    -- a value node that is to be counted
    abbrev pub IsCounted : Test → Term → Type 0
    IsCounted t b = IsValue s.shapes c.shape g (node s x) b × IsGood g (C s g within) (node s x) t b

    -- of a form that counts with a test
    pub values_means : (t : Test) → ((j m : ℕ) → CountsBy g (C s g within) (IsValue s.shapes c.shape g (node s x)) (node s x) (IsValue s.shapes c.shape (full s) (node s x)) f j m ↔ AtLeastOfFirst (IsValue s.shapes c.shape (full s) (node s x)) (IsCounted t) j m) → (j m : ℕ) → j ≤ length (values_of s c.shape x) → AtLeast term_cmp (First (value_terms c.shape x) (IsCounted t) j) m ↔ PartMeans (Means s g) (counted i x j m)
    values_means t own j m le =
        counted_means (Means s g) i x j m (AtLeast term_cmp (First (value_terms c.shape x) (IsCounted t) j) m)
        (λ z. subst (AtLeast term_cmp (First (value_terms c.shape x) (IsCounted t) j)) (sym z) (at_least_none (First (value_terms c.shape x) (IsCounted t) j)))
        (λ lt q. let n = length-map (values_of s c.shape x) (node s) in let b = counter_bound term_cmp_total term_cmp-IsAntisymmetric (value_terms c.shape x) (IsCounted t) (value_terms_once s c.shape x l) j m (omega (arith, n, le)) q in absurd (omega (arith, lt, b)))
        (λ a b. iff_sym (iff_trans (iff_sym (first_values c.shape x (IsCounted t) j m l)) (iff_trans (iff_sym (own j m)) (count_means s g within i c f e k x j m l))))

    -- of all value nodes
    pub all_values_means : (t : Test) → ((j m : ℕ) → CountsBy g (C s g within) (IsValue s.shapes c.shape g (node s x)) (node s x) (IsValue s.shapes c.shape (full s) (node s x)) f j m ↔ AtLeastOfFirst (IsValue s.shapes c.shape (full s) (node s x)) (IsCounted t) j m) → (m : ℕ) → AtLeast term_cmp (IsCounted t) m ↔ PartMeans (Means s g) (counted i x (length (values_of s c.shape x)) m)
    all_values_means t own m =
        iff_trans (among m)
        (iff_trans (first_all (value_terms c.shape x) (IsCounted t) m)
        (subst (λ j. AtLeast term_cmp (First (value_terms c.shape x) (IsCounted t) j) m ↔ PartMeans (Means s g) (counted i x (length (values_of s c.shape x)) m)) (sym (length-map (values_of s c.shape x) (node s)))
        (values_means t own (length (values_of s c.shape x)) m (omega arith))))
      where
        known : (b : Term) → IsCounted t b → Contains (value_terms c.shape x) b
        known b h = let r = value_known s g within c.shape x b l h.0 in subst (Contains (value_terms c.shape x)) r.2 (in_map (node s) (values_of s c.shape x) r.0 r.3)

        among : (m : ℕ) → AtLeast term_cmp (IsCounted t) m ↔ AtLeast term_cmp (λ b. Contains (value_terms c.shape x) b × IsCounted t b) m
        among m = (at_least_iff (IsCounted t) (λ b. Contains (value_terms c.shape x) b × IsCounted t b) m (λ b h. (known b h, h)), at_least_iff (λ b. Contains (value_terms c.shape x) b × IsCounted t b) (IsCounted t) m (λ b h. h.1))
