-- What atoms about a constraint mean, by its form, for nodes by their numbers; and the parts about single nodes.
use Rattle.std.proofs.Common.{◌≡◌, ◌↔◌, ◌⊎◌, inl, inr, ℕ, zero, suc, ◌+◌, ◌<◌, ◌≤◌, Bool, true, false, not, cond, IsTrue, IsFalse, ◌&&◌, List, [], ◌∷◌, ◌++◌, map, length, take, Contains, Option, Some, None, IfSome, slice_get, refl, sym, ap, ◌∙◌, subst, arith, if◌then◌else◌}
use Rattle.std.proofs.lemmas.Bool.{false≢true}
use Rattle.std.proofs.lemmas.List.{length-map}
use Rattle.std.specs.declared.cmp.Ordering.{Ordering}
use Rattle.std.specs.Ordering.{nat_cmp}
use Rattle.std.specs.Cmp.{nat_cmp_total}
use Rattle.std.specs.FinMap.{nat_cmp-IsAntisymmetric}
use Rattle.rdf_terms.specs.declared.term.Term.{Term}
use Rattle.rdf_terms.specs.declared.term.Term.TheVariants.{Iri}
use Rattle.rdf_terms.specs.Statement.{Statement}
use Rattle.rdf_terms.specs.Graph.{Graph, has}
use Rattle.rdf_terms.specs.Members.{InGraph}
use Rattle.rdf_terms.proofs.Orders.{same_term as equal_terms}
use Rattle.rdf_navigation.specs.Values.{same_term, among}
use Rattle.rdf_navigation.specs.Instances.{IsInstance}
use Rattle.shapes_profile.specs.Logic.{EachOf, SomeOf, AtLeast}
use Rattle.shapes_graph.specs.declared.constraints.Constraint.{Constraint}
use Rattle.shapes_graph.specs.Constraints.{constraint_at}
use Rattle.shapes_graph.specs.Forms.{Test, Anything, Passes, IsA, NotObject, Conforming, Failing, AllOf, SomeOfThese, OneOf, Counted, Form, Every, Nested, Closing, Least, Most, Having, Same, Unique, form_of}
use Rattle.shapes_graph.specs.Conformance.{OfConstraint, IsGood, IsOpen, OneConforms}
use Rattle.shapes_graph.specs.Reach.{IsValue}
use Rattle.repair_problem.specs.declared.atom.Atom.{Atom}
use Rattle.repair_problem.specs.declared.atom.Atom.TheVariants as atom
use Rattle.repair_problem.specs.declared.atom.Part.{Part}
use Rattle.repair_problem.specs.declared.atom.Part.TheVariants.{Fixed}
use Rattle.repair_problem.specs.declared.atom.Parts.{Parts}
use Rattle.repair_problem.specs.Setting.{Setting, OfNode, IsEdit, full, node}
use Rattle.repair_problem.specs.ConstraintFacts.{PassesAlone, PassesBy, MarkedBy, DiffersBy, CountsShapes, CountsBy}
use Rattle.repair_problem.specs.Meaning.{Conforming as Sat, Means}
use Rattle.repair_problem.specs.PartMeaning.{PartMeans, PartsMean}
use Rattle.path_levels.specs.PossibleNodes.{node_count}
use Rattle.path_levels.specs.PathParts.{literal}
use Rattle.path_levels.proofs.NodeLaws.{of_node}
use Rattle.count_encode.specs.PartTruth.{negation}
use Rattle.count_encode.specs.Counts.{counted}
use Rattle.core_constraints.proofs.Decided.{Distinct, no_false, false_of, take_whole}
use Rattle.core_constraints.proofs.CountLaws.{First, at_least_iff, at_least_none}
use Rattle.atom_parts.specs.CandidateLists.{candidates_if, is_open}
use Rattle.atom_parts.specs.ValueParts.{instance_part}
use Rattle.atom_parts.specs.PartsTable.{conforming_parts, triple_parts, test_parts, good_parts, test_part, good_part}
use Rattle.atom_parts.specs.Fixing.{IsPositive}
use Rattle.atom_parts.proofs.Facts.{tied, iff_same, iff_sym, iff_trans, not_iff, both_iff, always_iff, never_iff, not_part, one_all, one_any, two_all, each_map, some_map, each_iff, some_iff, each_append, both_true}
use Rattle.atom_parts.proofs.CounterMeans.{counted_means, counted_positive, counter_bound}
use Rattle.atom_parts.proofs.CandidateRows.{no_triple}
use Rattle.atom_parts.proofs.Reached.{instance_means}

-- of the constraint at hand
pub of_form : (o : Option Constraint) (c : Constraint) (f : Form) (P : ℕ → Form → Type 0) → o ≡ Some c → form_of c.kind ≡ f → OfConstraint o (λ d. P d.shape (form_of d.kind)) ↔ P c.shape f
of_form o c f P e k = subst (λ o. OfConstraint o (λ d. P d.shape (form_of d.kind)) ↔ P c.shape f) (sym e) (subst (λ f. P c.shape (form_of c.kind) ↔ P c.shape f) k iff_same)

-- a fact that a test tells is not doubly denied only
pub not_not : (b : Bool) → (¬ (¬ (b ≡ true))) ↔ (b ≡ true)
not_not true = (λ h. refl, λ h n. n h)
not_not false = (λ h. absurd (h (λ e. false≢true e)), λ h. absurd (false≢true h))

-- of all things of a list
pub first_all : {K : Type 0} {R : K → K → Ordering} (xs : List K) (F : K → Type 0) (m : ℕ) → AtLeast R (λ y. Contains xs y × F y) m ↔ AtLeast R (First xs F (length xs)) m
first_all {R = R} xs F m = subst (λ ys. AtLeast R (λ y. Contains xs y × F y) m ↔ AtLeast R (λ y. Contains ys y × F y) m) (sym (take_whole xs (length xs) (omega arith))) iff_same

module _ (s : Setting) (g : Graph) (within : IsEdit s g) where
  abbrev pub C : ℕ → Term → Type 0
  C = λ u b. Sat s g u b

  abbrev pub M : Atom → Type 0
  M = λ a. Means s g a

  -- conforming, as parts
  module _ (y : ℕ) (l : y < node_count s) where
    pub conforms_means : (u : ℕ) → C u (node s y) ↔ Means s g (atom.Conforms u y)
    conforms_means u = iff_sym (of_node s y (λ a. Sat s g u a) l)

    pub each_conforms : (us : List ℕ) → EachOf (λ u. C u (node s y)) us ↔ EachOf (PartMeans (Means s g)) (conforming_parts us y true)
    each_conforms us = iff_trans (each_iff (λ u. C u (node s y)) (λ u. Means s g (atom.Conforms u y)) conforms_means us) (each_map (PartMeans (Means s g)) (λ u. literal (atom.Conforms u y) true) us)

    pub some_conforms : (us : List ℕ) → SomeOf (λ u. C u (node s y)) us ↔ SomeOf (PartMeans (Means s g)) (conforming_parts us y true)
    some_conforms us = iff_trans (some_iff (λ u. C u (node s y)) (λ u. Means s g (atom.Conforms u y)) conforms_means us) (some_map (PartMeans (Means s g)) (λ u. literal (atom.Conforms u y) true) us)

    pub none_conforms : (us : List ℕ) → EachOf (λ u. ¬ (C u (node s y))) us ↔ EachOf (PartMeans (Means s g)) (conforming_parts us y false)
    none_conforms us = iff_trans (each_iff (λ u. ¬ (C u (node s y))) (λ u. ¬ (Means s g (atom.Conforms u y))) (λ u. not_iff (conforms_means u)) us) (each_map (PartMeans (Means s g)) (λ u. literal (atom.Conforms u y) false) us)

  -- atoms about constraint i
  module _ (i : ℕ) (c : Constraint) (f : Form) (e : constraint_at s.shapes i ≡ Some c) (k : form_of c.kind ≡ f) where
    pub good_means : (y : ℕ) → y < node_count s → PassesBy g C f (node s y) ↔ Means s g (atom.Good i y)
    good_means y l = iff_sym (iff_trans (of_form (constraint_at s.shapes i) c f (λ n f. OfNode s y (λ b. PassesBy g C f b)) e k) (of_node s y (λ b. PassesBy g C f b) l))

    pub marked_means : (x y : ℕ) → x < node_count s → y < node_count s → MarkedBy g C (IsValue s.shapes c.shape g (node s x)) (node s x) f (node s y) ↔ Means s g (atom.Marked i x y)
    marked_means x y l m =
        iff_sym (iff_trans (of_form (constraint_at s.shapes i) c f (λ n f. OfNode s x (λ a. OfNode s y (λ b. MarkedBy g C (IsValue s.shapes n g a) a f b))) e k)
        (iff_trans (of_node s x (λ a. OfNode s y (λ b. MarkedBy g C (IsValue s.shapes c.shape g a) a f b)) l) (of_node s y (λ b. MarkedBy g C (IsValue s.shapes c.shape g (node s x)) (node s x) f b) m)))

    pub differ_means : (x y : ℕ) → x < node_count s → y < node_count s → DiffersBy g C (IsValue s.shapes c.shape g (node s x)) (node s x) f (node s y) ↔ Means s g (atom.Differ i x y)
    differ_means x y l m =
        iff_sym (iff_trans (of_form (constraint_at s.shapes i) c f (λ n f. OfNode s x (λ a. OfNode s y (λ b. DiffersBy g C (IsValue s.shapes n g a) a f b))) e k)
        (iff_trans (of_node s x (λ a. OfNode s y (λ b. DiffersBy g C (IsValue s.shapes c.shape g a) a f b)) l) (of_node s y (λ b. DiffersBy g C (IsValue s.shapes c.shape g (node s x)) (node s x) f b) m)))

    pub twin_means : (x y z : ℕ) → x < node_count s → y < node_count s → z < node_count s → (IsValue s.shapes c.shape g (node s x) (node s y) × IsValue s.shapes c.shape g (node s x) (node s z)) ↔ Means s g (atom.Twin i x y z)
    twin_means x y z l m n =
        iff_sym (iff_trans (of_form (constraint_at s.shapes i) c f (λ n f. OfNode s x (λ a. OfNode s y (λ b. IsValue s.shapes n g a b) × OfNode s z (λ b. IsValue s.shapes n g a b))) e k)
        (iff_trans (of_node s x (λ a. OfNode s y (λ b. IsValue s.shapes c.shape g a b) × OfNode s z (λ b. IsValue s.shapes c.shape g a b)) l)
        (both_iff (of_node s y (λ b. IsValue s.shapes c.shape g (node s x) b) m) (of_node s z (λ b. IsValue s.shapes c.shape g (node s x) b) n))))

    pub count_means : (x j m : ℕ) → x < node_count s → CountsBy g C (IsValue s.shapes c.shape g (node s x)) (node s x) (IsValue s.shapes c.shape (full s) (node s x)) f j m ↔ Means s g (atom.Count i x j m)
    count_means x j m l =
        iff_sym (iff_trans (of_form (constraint_at s.shapes i) c f (λ n f. OfNode s x (λ a. CountsBy g C (IsValue s.shapes n g a) a (IsValue s.shapes n (full s) a) f j m)) e k)
        (of_node s x (λ a. CountsBy g C (IsValue s.shapes c.shape g a) a (IsValue s.shapes c.shape (full s) a) f j m) l))

    -- of the first shapes, so many are conformed to
    pub one_of_means : (us : List ℕ) → f ≡ Every (OneOf us) → Distinct us → (y j m : ℕ) → y < node_count s → j ≤ length us → AtLeast nat_cmp (First us (λ u. C u (node s y)) j) m ↔ PartMeans (Means s g) (counted i y j m)
    one_of_means us h once y j m l le =
        counted_means (Means s g) i y j m (AtLeast nat_cmp (First us (λ u. C u (node s y)) j) m)
        (λ z. subst (AtLeast nat_cmp (First us (λ u. C u (node s y)) j)) (sym z) (at_least_none (First us (λ u. C u (node s y)) j)))
        (λ lt q. let b = counter_bound nat_cmp_total nat_cmp-IsAntisymmetric us (λ u. C u (node s y)) once j m le q in absurd (omega (arith, lt, b)))
        (λ a b. iff_sym (subst (λ f. CountsBy g C (IsValue s.shapes c.shape g (node s y)) (node s y) (IsValue s.shapes c.shape (full s) (node s y)) f j m ↔ Means s g (atom.Count i y j m)) h (count_means y j m l)))

    -- what passes a test, as parts
    module _ (y : ℕ) (l : y < node_count s) where
      pub test_law : (t : Test) → ((us : List ℕ) → t ≡ OneOf us → (f ≡ Every (OneOf us)) × Distinct us) → IfSome (test_parts s i y t) (λ parts. PassesAlone g C t (node s y) ↔ PartsMean (Means s g) parts)
      test_law Anything own = tt
      test_law (Passes test) own = tt
      test_law (IsA c) own = one_any (instance_means s g within y c l)
      test_law (NotObject q) own = tt
      test_law (Conforming u) own = one_any (conforms_means y l u)
      test_law (Failing u) own = one_all (not_iff (conforms_means y l u))
      test_law (AllOf us) own = each_conforms y l us
      test_law (SomeOfThese us) own = some_conforms y l us
      test_law (OneOf us) own =
          let o = own us refl in
          let at : (m : ℕ) → AtLeast nat_cmp (λ u. Contains us u × C u (node s y)) m ↔ PartMeans (Means s g) (counted i y (length us) m) = λ m. iff_trans (first_all us (λ u. C u (node s y)) m) (one_of_means us o.0 o.1 y (length us) m l (omega arith)) in
          two_all (at 1) (iff_trans (not_iff (at 2)) (not_part (Means s g) (counted i y (length us) 2) (counted_positive i y (length us) 2)))
      test_law (Counted u us) own = iff_trans (both_iff (one_all (conforms_means y l u)) (none_conforms y l us)) (each_append (PartMeans (Means s g)) (conforming_parts (u ∷ []) y true) (conforms_not us))
        where
          conforms_not : List ℕ → List Part
          conforms_not us = conforming_parts us y false

      -- no triple with a predicate that isn't allowed
      closed_law : (allowed : List Term) → (IsTrue true → ¬ ((t : Statement) × IsOpen allowed g (λ z. node s y ≡ z) t)) ↔ EachOf (PartMeans (Means s g)) (triple_parts (candidates_if s (is_open allowed (node s y))) false)
      closed_law allowed =
          iff_trans (
            λ h bad. let r = both_true (same_term bad.0.subject (node s y)) (not (among allowed bad.0.predicate)) bad.2 in h refl (bad.0, record { there = bad.1; subject = sym (equal_terms bad.0.subject (node s y) r.0); other = not_true (among allowed bad.0.predicate) r.1 }),
            λ h o bad. h (bad.0, bad.1.there, opens bad.0 bad.1.subject bad.1.other),
          )
          (no_triple s g within (is_open allowed (node s y)))
        where
          not_true : (b : Bool) → not b ≡ true → IsFalse b
          not_true true e = absurd (false≢true e)
          not_true false e = refl

          opens : (t : Statement) → node s y ≡ t.subject → IsFalse (among allowed t.predicate) → is_open allowed (node s y) t ≡ true
          opens t e o = ap (λ b. b && not (among allowed t.predicate)) (tied t.subject (node s y) (sym e)) ∙ ap not o

      pub good_law : (h : Form) → ((us : List ℕ) → h ≡ Every (OneOf us) → (f ≡ Every (OneOf us)) × Distinct us) → ((m : ℕ) (t : Test) (us : List ℕ) → (h ≡ Least m t) ⊎ (h ≡ Most m t) → t ≡ OneOf us → ⊥) → IfSome (good_parts s i y h) (λ parts. PassesBy g C h (node s y) ↔ PartsMean (Means s g) parts)
      good_law (Every t) own none = test_law t (λ us q. own us (ap Every q))
      good_law (Nested u) own none = one_any (conforms_means y l u)
      good_law (Closing true allowed) own none = closed_law allowed
      good_law (Closing false allowed) own none = tt
      good_law (Least m t) own none = test_law t (λ us q. absurd (none m t us (inl refl) q))
      good_law (Most m t) own none = test_law t (λ us q. absurd (none m t us (inr refl) q))
      good_law (Having o) own none = tt
      good_law (Same q) own none = tt
      good_law (Unique on) own none = tt

      -- a test of a value node, as a part; a disjoint property asks for the focus node besides
      pub test_means : (t : Test) → ((q : List ℕ) → t ≡ NotObject q → ⊥) → ((b : Term) → PassesBy g C f b ↔ PassesAlone g C t b) → PassesAlone g C t (node s y) ↔ PartMeans (Means s g) (test_part s i y t)
      test_means Anything other own = always_iff tt
      test_means (Passes test) other own = iff_same
      test_means (IsA c) other own = iff_trans (iff_sym (own (node s y))) (good_means y l)
      test_means (NotObject q) other own = absurd (other q refl)
      test_means (Conforming u) other own = iff_trans (iff_sym (own (node s y))) (good_means y l)
      test_means (Failing u) other own = iff_trans (iff_sym (own (node s y))) (good_means y l)
      test_means (AllOf us) other own = iff_trans (iff_sym (own (node s y))) (good_means y l)
      test_means (SomeOfThese us) other own = iff_trans (iff_sym (own (node s y))) (good_means y l)
      test_means (OneOf us) other own = iff_trans (iff_sym (own (node s y))) (good_means y l)
      test_means (Counted u us) other own = iff_trans (iff_sym (own (node s y))) (good_means y l)

    pub test_positive : (y : ℕ) (t : Test) → IsPositive (test_part s i y t)
    test_positive y Anything = tt
    test_positive y (Passes test) = tt
    test_positive y (IsA c) = refl
    test_positive y (NotObject q) = tt
    test_positive y (Conforming u) = refl
    test_positive y (Failing u) = refl
    test_positive y (AllOf us) = refl
    test_positive y (SomeOfThese us) = refl
    test_positive y (OneOf us) = refl
    test_positive y (Counted u us) = refl
