-- What is asked of all value nodes together means what its parts mean, and so do marks of value nodes.
use Rattle.std.proofs.Common.{◌≡◌, ◌≢◌, ◌↔◌, ◌⊎◌, inl, inr, ℕ, zero, suc, ◌+◌, ◌<◌, ◌≤◌, Bool, true, false, not, cond, IsTrue, ◌&&◌, List, [], ◌∷◌, ◌++◌, map, filter, flat_map, length, Contains, Option, Some, None, IfSome, is_some, nat_eq, nat_lt, slice_get, refl, sym, ap, ◌∙◌, subst, arith}
use Rattle.std.proofs.lemmas.Bool.{false≢true, ltb-true, lt-ltb, cases_lt}
use Rattle.std.specs.List.{range_with_len}
use Rattle.std.specs.Str.{bytes_eq}
use Rattle.std.proofs.lemmas.Slice.Eq.{bytes_eq-Decides}
use Rattle.rdf_terms.specs.declared.term.Term.{Term}
use Rattle.rdf_terms.specs.declared.term.Term.TheVariants.{Iri}
use Rattle.rdf_terms.specs.Term.{term_cmp}
use Rattle.rdf_terms.specs.Graph.{Graph, has}
use Rattle.rdf_terms.specs.Members.{InGraph}
use Rattle.rdf_terms.proofs.Members.{in_none, in_first, in_rest, in_cases, in_filter, filter_in, in_map, map_in, in_flat_map, flat_map_in}
use Rattle.shapes_profile.specs.Logic.{EachOf, SomeOf, NoneFails, AtLeast}
use Rattle.shapes_graph.specs.declared.constraints.Constraint.{Constraint}
use Rattle.shapes_graph.specs.Constraints.{constraint_at}
use Rattle.shapes_graph.specs.NodeTests.{tag_of}
use Rattle.shapes_graph.specs.Forms.{Test, Anything, Passes, IsA, NotObject, Conforming, Failing, AllOf, SomeOfThese, OneOf, Counted, Form, Every, Nested, Closing, Least, Most, Having, Same, Unique, form_of}
use Rattle.shapes_graph.specs.Conformance.{IsGood, IsOpen, AreTwins, Agree, HoldsBy}
use Rattle.shapes_graph.specs.Reach.{IsValue}
use Rattle.repair_problem.specs.declared.atom.Atom.TheVariants as atom
use Rattle.repair_problem.specs.declared.atom.Part.{Part}
use Rattle.repair_problem.specs.declared.atom.Part.TheVariants.{Fixed}
use Rattle.repair_problem.specs.declared.atom.Parts.{Parts}
use Rattle.repair_problem.specs.Setting.{Setting, IsEdit, full, node}
use Rattle.repair_problem.specs.ConstraintFacts.{AtLeastOfFirst, CountsBy, PassesAlone, PassesBy, MarkedBy, DiffersBy}
use Rattle.repair_problem.specs.Meaning.{Means}
use Rattle.repair_problem.specs.PartMeaning.{PartMeans, PartsMean}
use Rattle.path_levels.specs.PossibleNodes.{node_count}
use Rattle.path_levels.specs.PathParts.{literal}
use Rattle.path_levels.proofs.NodeLaws.{one_number}
use Rattle.path_levels.proofs.Possibility.{below_in, below_out}
use Rattle.count_encode.specs.PartTruth.{negation}
use Rattle.count_encode.specs.Counts.{counted}
use Rattle.core_constraints.proofs.Decided.{no_false, false_of, each_at, each_of}
use Rattle.atom_parts.specs.CandidateLists.{is_linked, linked_nodes}
use Rattle.atom_parts.specs.ValueParts.{values_of, is_value, value_part, term_value_part, link_part, are_same_tags, same_tags, later_twins, twins}
use Rattle.atom_parts.specs.PartsTable.{test_part, good_part, value_and, counted_parts, marked_parts, differ_parts, twin_parts, where_true, all_counted, none_marked, none_differs, no_twins, holds_parts}
use Rattle.atom_parts.specs.Fixing.{IsPositive}
use Rattle.atom_parts.proofs.Facts.{iff_same, iff_sym, iff_trans, not_iff, both_iff, always_iff, never_iff, not_part, one_all, one_any, two_all, each_map, each_append, each_flat_map, both_true}
use Rattle.atom_parts.proofs.CounterMeans.{counted_positive}
use Rattle.atom_parts.proofs.Constraints.{C, not_not, good_means, marked_means, differ_means, twin_means, test_means, test_positive}
use Rattle.atom_parts.proofs.ValueCounts.{IsCounted, all_values_means}
use Rattle.atom_parts.proofs.Reached.{value_means, value_known, value_node, value_positive, triple_positive, link_means, linked, object_node, term_value_means}

-- parts where a test is passed
pub where_law : (P : Parts → Type 0) (b : Bool) (o : Option Parts) → (b ≡ true → IfSome o P) → IfSome (where_true b o) P
where_law P true o h = h refl
where_law P false o h = tt

-- both tags are there and the same
tags_there : (a b : Option (List ℕ)) → are_same_tags a b ≡ true → (tag : List ℕ) × (a ≡ Some tag) × (b ≡ Some tag)
tags_there None b e = absurd (false≢true e)
tags_there (Some a) None e = absurd (false≢true e)
tags_there (Some a) (Some b) e = (a, refl, ap Some (sym (texts_equal a b e)))
  where
    texts_equal : (a b : List ℕ) → bytes_eq a b ≡ true → a ≡ b
    texts_equal a b e = (bytes_eq-Decides a b).0 e

text_itself : (a : List ℕ) → bytes_eq a a ≡ true
text_itself a = (bytes_eq-Decides a a).1 refl

there_tags : (a b : Option (List ℕ)) (tag : List ℕ) → a ≡ Some tag → b ≡ Some tag → are_same_tags a b ≡ true
there_tags a b tag e f = ap (λ o. are_same_tags o b) e ∙ (ap (are_same_tags (Some tag)) f ∙ text_itself tag)

module _ (s : Setting) (g : Graph) (within : IsEdit s g) (i : ℕ) (c : Constraint) (f : Form) (e : constraint_at s.shapes i ≡ Some c) (k : form_of c.kind ≡ f) (x : ℕ) (l : x < node_count s) where
  abbrev V : Term → Type 0
  V = IsValue s.shapes c.shape g (node s x)

  abbrev C0 : ℕ → Term → Type 0
  C0 = C s g within

  value_iff : (y : ℕ) → y < node_count s → V (node s y) ↔ PartMeans (Means s g) (value_part s c.shape x y)
  value_iff y m = value_means s g within c.shape x y l m

  -- marks
  module _ (y : ℕ) (m : y < node_count s) where
    with_value : (P : Type 0) (other : Part) → P ↔ PartMeans (Means s g) other → (V (node s y) × P) ↔ EachOf (PartMeans (Means s g)) (value_part s c.shape x y ∷ other ∷ [])
    with_value P other h = two_all (value_iff y m) h

    -- failing a test
    fails : (t : Test) → ((q : List ℕ) → t ≡ NotObject q → ⊥) → ((b : Term) → PassesBy g C0 f b ↔ PassesAlone g C0 t b) → (¬ (PassesAlone g C0 t (node s y))) ↔ PartMeans (Means s g) (negation (test_part s i y t))
    fails t other own = iff_trans (not_iff (test_means s g within i c f e k y m t other own)) (not_part (Means s g) (test_part s i y t) (test_positive s g within i c f e k y t))

    own_every : (t : Test) → f ≡ Every t → (b : Term) → PassesBy g C0 f b ↔ PassesAlone g C0 t b
    own_every t z b = subst (λ h. PassesBy g C0 h b ↔ PassesAlone g C0 t b) (sym z) iff_same

    own_least : (n : ℕ) (t : Test) → f ≡ Least n t → (b : Term) → PassesBy g C0 f b ↔ PassesAlone g C0 t b
    own_least n t z b = subst (λ h. PassesBy g C0 h b ↔ PassesAlone g C0 t b) (sym z) iff_same

    own_most : (n : ℕ) (t : Test) → f ≡ Most n t → (b : Term) → PassesBy g C0 f b ↔ PassesAlone g C0 t b
    own_most n t z b = subst (λ h. PassesBy g C0 h b ↔ PassesAlone g C0 t b) (sym z) iff_same

    tested : (t : Test) → ((q : List ℕ) → t ≡ NotObject q → ⊥) → ((b : Term) → PassesBy g C0 f b ↔ PassesAlone g C0 t b) → (V (node s y) × PassesAlone g C0 t (node s y)) ↔ EachOf (PartMeans (Means s g)) (value_part s c.shape x y ∷ test_part s i y t ∷ [])
    tested t other own = with_value (PassesAlone g C0 t (node s y)) (test_part s i y t) (test_means s g within i c f e k y m t other own)

    failing : (t : Test) → ((q : List ℕ) → t ≡ NotObject q → ⊥) → ((b : Term) → PassesBy g C0 f b ↔ PassesAlone g C0 t b) → (V (node s y) × ¬ (PassesAlone g C0 t (node s y))) ↔ EachOf (PartMeans (Means s g)) (value_part s c.shape x y ∷ negation (test_part s i y t) ∷ [])
    failing t other own = with_value (¬ (PassesAlone g C0 t (node s y))) (negation (test_part s i y t)) (fails t other own)

    -- a counted value node passes the test
    counted_law : (t : Test) → ((q : List ℕ) → t ≡ NotObject q → ⊥) → ((b : Term) → PassesBy g C0 f b ↔ PassesAlone g C0 t b) → IfSome (counted_parts s i c.shape x y t) (λ parts. (V (node s y) × IsGood g C0 (node s x) t (node s y)) ↔ PartsMean (Means s g) parts)
    counted_law Anything other own = tt
    counted_law (NotObject q) other own = absurd (other q refl)
    counted_law (Passes test) other own = tested (Passes test) other own
    counted_law (IsA d) other own = tested (IsA d) other own
    counted_law (Conforming u) other own = tested (Conforming u) other own
    counted_law (Failing u) other own = tested (Failing u) other own
    counted_law (AllOf us) other own = tested (AllOf us) other own
    counted_law (SomeOfThese us) other own = tested (SomeOfThese us) other own
    counted_law (OneOf us) other own = tested (OneOf us) other own
    counted_law (Counted u us) other own = tested (Counted u us) other own

    pub marked_law : (h : Form) → f ≡ h → ((n : ℕ) (t : Test) (q : List ℕ) → (h ≡ Least n t) ⊎ (h ≡ Most n t) → t ≡ NotObject q → ⊥) → IfSome (marked_parts s i c.shape x y h) (λ parts. MarkedBy g C0 V (node s x) h (node s y) ↔ PartsMean (Means s g) parts)
    marked_law (Every Anything) z none = failing Anything (λ q r. cc) (own_every Anything z)
    marked_law (Every (Passes test)) z none = failing (Passes test) (λ q r. cc) (own_every (Passes test) z)
    marked_law (Every (IsA d)) z none = failing (IsA d) (λ q r. cc) (own_every (IsA d) z)
    marked_law (Every (NotObject q)) z none = with_value (¬ (¬ (InGraph g (node s x) (Iri q) (node s y)))) (link_part s q x y) (iff_trans (not_not (has g (record { subject = node s x; predicate = Iri q; object = node s y }))) (link_means s g within q x y))
    marked_law (Every (Conforming u)) z none = failing (Conforming u) (λ q r. cc) (own_every (Conforming u) z)
    marked_law (Every (Failing u)) z none = failing (Failing u) (λ q r. cc) (own_every (Failing u) z)
    marked_law (Every (AllOf us)) z none = failing (AllOf us) (λ q r. cc) (own_every (AllOf us) z)
    marked_law (Every (SomeOfThese us)) z none = failing (SomeOfThese us) (λ q r. cc) (own_every (SomeOfThese us) z)
    marked_law (Every (OneOf us)) z none = failing (OneOf us) (λ q r. cc) (own_every (OneOf us) z)
    marked_law (Every (Counted u us)) z none = failing (Counted u us) (λ q r. cc) (own_every (Counted u us) z)
    marked_law (Nested u) z none = with_value (¬ (C0 u (node s y))) (negation (literal (atom.Good i y) true)) (not_iff (subst (λ h. PassesBy g C0 h (node s y) ↔ Means s g (atom.Good i y)) z (good_means s g within i c f e k y m)))
    marked_law (Closing true allowed) z none = with_value (¬ (PassesBy g C0 (Closing true allowed) (node s y))) (negation (literal (atom.Good i y) true)) (not_iff (subst (λ h. PassesBy g C0 h (node s y) ↔ Means s g (atom.Good i y)) z (good_means s g within i c f e k y m)))
    marked_law (Closing false allowed) z none = with_value (¬ (PassesBy g C0 (Closing false allowed) (node s y))) (Fixed false) (λ h. absurd (h (λ o. absurd (false≢true o))), λ h. absurd (false≢true h))
    marked_law (Least n t) z none = counted_law t (λ q r. none n t q (inl refl) r) (own_least n t z)
    marked_law (Most n t) z none = counted_law t (λ q r. none n t q (inr refl) r) (own_most n t z)
    marked_law (Having o) z none = tt
    marked_law (Same q) z none = with_value (¬ (InGraph g (node s x) (Iri q) (node s y))) (negation (link_part s q x y)) (iff_trans (not_iff (link_means s g within q x y)) (not_part (Means s g) (link_part s q x y) (triple_positive s (record { subject = node s x; predicate = Iri q; object = node s y }))))
    marked_law (Unique on) z none = tt

    pub differ_law : (h : Form) → f ≡ h → IfSome (differ_parts s c.shape x y h) (λ parts. DiffersBy g C0 V (node s x) h (node s y) ↔ PartsMean (Means s g) parts)
    differ_law (Same q) z =
        where_law (λ parts. DiffersBy g C0 V (node s x) (Same q) (node s y) ↔ PartsMean (Means s g) parts) (is_linked s q x y) (Some (record { every = true; list = negation (value_part s c.shape x y) ∷ link_part s q x y ∷ [] }))
        (λ t. two_all (iff_trans (not_iff (value_iff y m)) (not_part (Means s g) (value_part s c.shape x y) (value_positive s c.shape x y))) (link_means s g within q x y))
    differ_law (Every t) z = tt
    differ_law (Nested u) z = tt
    differ_law (Closing on allowed) z = tt
    differ_law (Least n t) z = tt
    differ_law (Most n t) z = tt
    differ_law (Having o) z = tt
    differ_law (Unique on) z = tt

    pub twin_law : (v : ℕ) → v < node_count s → (h : Form) → IfSome (twin_parts s c.shape x y v h) (λ parts. (V (node s y) × V (node s v)) ↔ PartsMean (Means s g) parts)
    twin_law v n (Unique true) = where_law (λ parts. (V (node s y) × V (node s v)) ↔ PartsMean (Means s g) parts) (nat_lt y v && (same_tags s y v && (is_value s c.shape x y && is_value s c.shape x v))) (value_and s c.shape x y (value_part s c.shape x v)) (λ t. two_all (value_iff y m) (value_iff v n))
    twin_law v n (Unique false) = tt
    twin_law v n (Every t) = tt
    twin_law v n (Nested u) = tt
    twin_law v n (Closing on allowed) = tt
    twin_law v n (Least w t) = tt
    twin_law v n (Most w t) = tt
    twin_law v n (Having o) = tt
    twin_law v n (Same q) = tt

  -- no value node is marked
  unmarked_law : (G : Term → Type 0) → ((y : ℕ) → y < node_count s → Means s g (atom.Marked i x y) ↔ (V (node s y) × ¬ (G (node s y)))) → NoneFails V G ↔ EachOf (PartMeans (Means s g)) (none_marked s i c.shape x)
  unmarked_law G marks =
      iff_trans (
        λ none. each_of (λ y. ¬ (Means s g (atom.Marked i x y))) (values_of s c.shape x) (λ y h a. let r = (marks y (value_node s c.shape x y l h)).0 a in none (node s y, r.0, r.1)),
        λ all bad.
            let v = value_known s g within c.shape x bad.0 l bad.1 in
            each_at (λ y. ¬ (Means s g (atom.Marked i x y))) (values_of s c.shape x) v.0 all v.3 ((marks v.0 v.1).1 (subst V (sym v.2) bad.1, λ h. bad.2 (subst G v.2 h))),
      )
      (each_map (PartMeans (Means s g)) (λ y. literal (atom.Marked i x y) false) (values_of s c.shape x))

  marked_as : (h : Form) → f ≡ h → (y : ℕ) → y < node_count s → Means s g (atom.Marked i x y) ↔ MarkedBy g C0 V (node s x) h (node s y)
  marked_as h z y m = subst (λ h. Means s g (atom.Marked i x y) ↔ MarkedBy g C0 V (node s x) h (node s y)) z (iff_sym (marked_means s g within i c f e k x y l m))

  -- no triple of a value node is open
  closing_law : (on : Bool) (allowed : List Term) → f ≡ Closing on allowed → HoldsBy g C0 V (node s x) (Closing on allowed) ↔ EachOf (PartMeans (Means s g)) (none_marked s i c.shape x)
  closing_law on allowed z =
      iff_trans (
        λ h bad. bad.2 (λ o it. h o (it.0, record { there = it.1.there; subject = subst V it.1.subject bad.1; other = it.1.other })),
        λ h o it. h (it.0.subject, it.1.subject, λ good. good o (it.0, record { there = it.1.there; subject = refl; other = it.1.other })),
      )
      (unmarked_law (PassesBy g C0 (Closing on allowed)) (λ y m. marked_as (Closing on allowed) z y m))

  -- the value nodes are the objects
  same_law : (q : List ℕ) → f ≡ Same q → HoldsBy g C0 V (node s x) (Same q) ↔ EachOf (PartMeans (Means s g)) (none_marked s i c.shape x ++ none_differs s i q x)
  same_law q z =
      iff_trans (λ h. (h.no_value_alone, h.no_object_alone), λ h. record { no_value_alone = h.0; no_object_alone = h.1 })
      (iff_trans (both_iff (unmarked_law (InGraph g (node s x) (Iri q)) (λ y m. marked_as (Same q) z y m)) objects) (each_append (PartMeans (Means s g)) (none_marked s i c.shape x) (none_differs s i q x)))
    where
      differs : (y : ℕ) → y < node_count s → Means s g (atom.Differ i x y) ↔ ((¬ (V (node s y))) × InGraph g (node s x) (Iri q) (node s y))
      differs y m = subst (λ h. Means s g (atom.Differ i x y) ↔ DiffersBy g C0 V (node s x) h (node s y)) z (iff_sym (differ_means s g within i c f e k x y l m))

      objects : (¬ ((y : Term) × InGraph g (node s x) (Iri q) y × ¬ (V y))) ↔ EachOf (PartMeans (Means s g)) (none_differs s i q x)
      objects =
          iff_trans (
            λ none. each_of (λ y. ¬ (Means s g (atom.Differ i x y))) (linked_nodes s q x) (λ y h d.
                let m = below_out (node_count s) y (filter_in (is_linked s q x) (range_with_len 0 (node_count s)) y h).0 in
                let r = (differs y m).0 d in
                none (node s y, r.1, r.0)),
            λ all bad.
                let n = object_node s g within (node s x) (Iri q) bad.0 bad.1 in
                let there = subst (InGraph g (node s x) (Iri q)) (sym n.2) bad.1 in
                let listed = in_filter (is_linked s q x) (range_with_len 0 (node_count s)) n.0 (below_in (node_count s) n.0 n.1) (linked s g within q x n.0 there) in
                each_at (λ y. ¬ (Means s g (atom.Differ i x y))) (linked_nodes s q x) n.0 all listed ((differs n.0 n.1).1 (λ v. bad.2 (subst V n.2 v), there)),
          )
          (each_map (PartMeans (Means s g)) (λ y. literal (atom.Differ i x y) false) (linked_nodes s q x))

  -- no two value nodes have one tag
  unique_law : HoldsBy g C0 V (node s x) (Unique true) ↔ EachOf (PartMeans (Means s g)) (no_twins s i c.shape x)
  unique_law =
      iff_trans (
        λ none. each_of (λ y. EachOf (λ v. ¬ (Means s g (atom.Twin i x y v))) (later_twins s (values_of s c.shape x) y)) (values_of s c.shape x) (λ y h. each_of (λ v. ¬ (Means s g (atom.Twin i x y v))) (later_twins s (values_of s c.shape x) y) (λ v d twin. apart y v h d twin (none refl))),
        λ all o bad. found all bad.0 bad.1 bad.2 bad.3,
      )
      (iff_trans (each_lists (values_of s c.shape x)) (each_flat_map (PartMeans (Means s g)) (λ y. map (λ v. literal (atom.Twin i x y v) false) (later_twins s (values_of s c.shape x) y)) (values_of s c.shape x)))
    where
      vals : List ℕ
      vals = values_of s c.shape x

      Pair : ℕ → ℕ → Type 0
      Pair y v = Contains vals v × (y < v) × ((tag : List ℕ) × (tag_of (node s y) ≡ Some tag) × (tag_of (node s v) ≡ Some tag))

      later : (y v : ℕ) → Contains (later_twins s vals y) v → Pair y v
      later y v d =
          let r = filter_in (λ u. nat_lt y u && same_tags s y u) vals v d in
          let b = both_true (nat_lt y v) (same_tags s y v) r.1 in
          (r.0, ltb-true y v b.0, tags_there (tag_of (node s y)) (tag_of (node s v)) b.1)

      earlier : (y v : ℕ) → Pair y v → Contains (later_twins s vals y) v
      earlier y v p =
          in_filter (λ u. nat_lt y u && same_tags s y u) vals v p.0
          (ap (λ b. b && same_tags s y v) (lt-ltb y v p.1) ∙ there_tags (tag_of (node s y)) (tag_of (node s v)) p.2.0 p.2.1 p.2.2)

      twins_mean : (y v : ℕ) → y < node_count s → v < node_count s → (V (node s y) × V (node s v)) ↔ Means s g (atom.Twin i x y v)
      twins_mean y v m n = twin_means s g within i c f e k x y v l m n

      apart : (y v : ℕ) → Contains vals y → Contains (later_twins s vals y) v → Means s g (atom.Twin i x y v) → ¬ (¬ ((a : Term) × (b : Term) × (tag : List ℕ) × AreTwins V a b tag))
      apart y v h d twin none =
          let p = later y v d in
          let m = value_node s c.shape x y l h in
          let n = value_node s c.shape x v l p.0 in
          let r = (twins_mean y v m n).1 twin in
          let lt = p.1 in
          none (node s y, node s v, p.2.0, record { differ = λ same. absurd (let z = one_number s y v m n same in omega (arith, z, lt)); first = r.0; second = r.1; first_tag = p.2.1; second_tag = p.2.2 })

      found : EachOf (λ y. EachOf (λ v. ¬ (Means s g (atom.Twin i x y v))) (later_twins s vals y)) vals → (a b : Term) (tag : List ℕ) → AreTwins V a b tag → ⊥
      found all a b tag t = order (cases_lt p.0 q.0) (cases_lt q.0 p.0)
        where
          p : (y : ℕ) × (y < node_count s) × (node s y ≡ a) × Contains vals y
          p = value_known s g within c.shape x a l t.first

          q : (y : ℕ) × (y < node_count s) × (node s y ≡ b) × Contains vals y
          q = value_known s g within c.shape x b l t.second

          tag_p : tag_of (node s p.0) ≡ Some tag
          tag_p = ap tag_of p.2 ∙ t.first_tag

          tag_q : tag_of (node s q.0) ≡ Some tag
          tag_q = ap tag_of q.2 ∙ t.second_tag

          at : (y v : ℕ) → Contains vals y → Pair y v → y < node_count s → v < node_count s → V (node s y) → V (node s v) → ⊥
          at y v h pair m n first second =
              each_at (λ v. ¬ (Means s g (atom.Twin i x y v))) (later_twins s vals y) v
              (each_at (λ y. EachOf (λ v. ¬ (Means s g (atom.Twin i x y v))) (later_twins s vals y)) vals y all h)
              (earlier y v pair) ((twins_mean y v m n).0 (first, second))

          order : (p.0 < q.0) ⊎ (q.0 ≤ p.0) → (q.0 < p.0) ⊎ (p.0 ≤ q.0) → ⊥
          order (inl lt) _ = at p.0 q.0 p.3 (q.3, lt, (tag, tag_p, tag_q)) p.1 q.1 (subst V (sym p.2) t.first) (subst V (sym q.2) t.second)
          order (inr le) (inl lt) = at q.0 p.0 q.3 (p.3, lt, (tag, tag_q, tag_p)) q.1 p.1 (subst V (sym q.2) t.second) (subst V (sym p.2) t.first)
          order (inr le) (inr ge) = t.differ (sym p.2 ∙ (ap (node s) (omega (arith, le, ge)) ∙ q.2))

      each_lists : (ys : List ℕ) → EachOf (λ y. EachOf (λ v. ¬ (Means s g (atom.Twin i x y v))) (later_twins s vals y)) ys ↔ EachOf (λ y. EachOf (PartMeans (Means s g)) (map (λ v. literal (atom.Twin i x y v) false) (later_twins s vals y))) ys
      each_lists [] = iff_same
      each_lists (y ∷ ys) = both_iff (each_map (PartMeans (Means s g)) (λ v. literal (atom.Twin i x y v) false) (later_twins s vals y)) (each_lists ys)

  -- an every-test holds where no value node is marked
  every_law : (t : Test) → f ≡ Every t → NoneFails V (IsGood g C0 (node s x) t) ↔ EachOf (PartMeans (Means s g)) (none_marked s i c.shape x)
  every_law t z = unmarked_law (IsGood g C0 (node s x) t) (λ y m. marked_as (Every t) z y m)

  least_law : (n : ℕ) (t : Test) → f ≡ Least n t → (m : ℕ) → AtLeast term_cmp (IsCounted s g within i c f e k x l t) m ↔ PartMeans (Means s g) (all_counted s i c.shape x (Least n t) m)
  least_law n t z m = all_values_means s g within i c f e k x l t (λ j m. subst (λ h. CountsBy g C0 V (node s x) (IsValue s.shapes c.shape (full s) (node s x)) h j m ↔ AtLeastOfFirst (IsValue s.shapes c.shape (full s) (node s x)) (IsCounted s g within i c f e k x l t) j m) (sym z) (iff_same {P = AtLeastOfFirst (IsValue s.shapes c.shape (full s) (node s x)) (IsCounted s g within i c f e k x l t) j m})) m

  most_law : (n : ℕ) (t : Test) → f ≡ Most n t → (m : ℕ) → AtLeast term_cmp (IsCounted s g within i c f e k x l t) m ↔ PartMeans (Means s g) (all_counted s i c.shape x (Most n t) m)
  most_law n t z m = all_values_means s g within i c f e k x l t (λ j m. subst (λ h. CountsBy g C0 V (node s x) (IsValue s.shapes c.shape (full s) (node s x)) h j m ↔ AtLeastOfFirst (IsValue s.shapes c.shape (full s) (node s x)) (IsCounted s g within i c f e k x l t) j m) (sym z) (iff_same {P = AtLeastOfFirst (IsValue s.shapes c.shape (full s) (node s x)) (IsCounted s g within i c f e k x l t) j m})) m

  pub holds_law : (h : Form) → f ≡ h → IfSome (holds_parts s i c.shape x h) (λ parts. HoldsBy g C0 V (node s x) h ↔ PartsMean (Means s g) parts)
  holds_law (Every t) z = every_law t z
  holds_law (Nested u) z = unmarked_law (C0 u) (λ y m. marked_as (Nested u) z y m)
  holds_law (Closing on allowed) z = closing_law on allowed z
  holds_law (Least n t) z = one_any (least_law n t z n)
  holds_law (Most n t) z = one_all (iff_trans (not_iff (most_law n t z (n + 1))) (not_part (Means s g) (counted i x (length (values_of s c.shape x)) (n + 1)) (counted_positive i x (length (values_of s c.shape x)) (n + 1))))
  holds_law (Having o) z = one_any (term_value_means s g within c.shape x o l)
  holds_law (Same q) z = same_law q z
  holds_law (Unique true) z = unique_law
  holds_law (Unique false) z = (λ h. tt, λ h o. absurd (false≢true o))
