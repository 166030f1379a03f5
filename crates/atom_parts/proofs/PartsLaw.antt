-- In each edited graph an atom means what its parts mean, and a counter what the two lower ones and the item mean.
use Rattle.std.proofs.Common.{◌≡◌, ◌↔◌, ◌⊎◌, inl, inr, ℕ, zero, suc, ◌+◌, ◌-◌, ◌<◌, ◌≤◌, Bool, true, false, cond, IsTrue, ◌&&◌, List, [], ◌∷◌, ◌++◌, map, flat_map, length, Contains, Option, Some, None, IfSome, nat_le, nat_lt, slice_get, Result, Ok, Err, IfOk, refl, sym, ap, ◌∙◌, subst, arith, if◌then◌else◌}
use Rattle.std.specs.Prelude.{option_map, option_and_then, unwrap_or}
use Rattle.std.proofs.lemmas.Bool.{false≢true, ltb-true}
use Rattle.std.proofs.lemmas.Option.{slice_get_within, slice_get-map}
use Rattle.std.proofs.lemmas.List.{length-map}
use Rattle.std.specs.Ordering.{nat_cmp}
use Rattle.std.specs.Cmp.{nat_cmp_total}
use Rattle.std.specs.FinMap.{nat_cmp-IsAntisymmetric}
use Rattle.rdf_terms.specs.declared.term.Term.{Term}
use Rattle.rdf_terms.specs.declared.term.Term.TheVariants.{Iri}
use Rattle.rdf_terms.specs.Term.{term_cmp}
use Rattle.rdf_terms.specs.TermOrder.{term_cmp_total, term_cmp-IsAntisymmetric}
use Rattle.rdf_terms.specs.Statement.{Statement}
use Rattle.rdf_terms.specs.Graph.{Graph, has, is_of}
use Rattle.rdf_terms.proofs.Orders.{same_term as equal_terms}
use Rattle.rdf_navigation.specs.Values.{same_term}
use Rattle.shapes_profile.specs.Logic.{EachOf, SomeOf, Unless, AtLeast}
use Rattle.shapes_profile.specs.Shapes.{shape_at}
use Rattle.shapes_profile.specs.Profile.{IsInProfile}
use Rattle.shapes_graph.specs.declared.constraints.Constraint.{Constraint}
use Rattle.shapes_graph.specs.declared.targets.Target.{Target}
use Rattle.shapes_graph.specs.declared.targets.Target.TheVariants as target
use Rattle.shapes_graph.specs.Constraints.{constraint_at, constraints_of, is_deactivated}
use Rattle.shapes_graph.specs.Forms.{Test, Anything, Passes, IsA, NotObject, Conforming, Failing, AllOf, SomeOfThese, OneOf, Counted, Form, Every, Nested, Closing, Least, Most, Having, Same, Unique, form_of}
use Rattle.shapes_graph.specs.Conformance.{OfConstraint, ConformsTo, ConformsBy, HoldsIn, HoldsBy, Holds}
use Rattle.shapes_graph.specs.Reach.{IsValue}
use Rattle.shapes_graph.specs.Targets.{targets, IsFocus}
use Rattle.targets.specs.Selection.{IsSelected}
use Rattle.targets.proofs.SelectionLaws.{focus_some}
use Rattle.repair_problem.specs.declared.atom.Atom.{Atom}
use Rattle.repair_problem.specs.declared.atom.Atom.TheVariants as atom
use Rattle.repair_problem.specs.declared.atom.Part.{Part}
use Rattle.repair_problem.specs.declared.atom.Part.TheVariants.{Fixed}
use Rattle.repair_problem.specs.declared.atom.Parts.{Parts}
use Rattle.repair_problem.specs.Setting.{Setting, OfNode, IsEdit, full, node}
use Rattle.repair_problem.specs.Meaning.{Means}
use Rattle.repair_problem.specs.PartMeaning.{PartMeans, PartsMean}
use Rattle.path_levels.specs.PossibleNodes.{node_count}
use Rattle.path_levels.specs.PathParts.{literal, path_parts}
use Rattle.path_levels.proofs.NodeLaws.{of_node}
use Rattle.path_levels.proofs.MeantParts.{parts_meant as path_meant}
use Rattle.path_levels.proofs.PathDepths.{paths_nest}
use Rattle.count_encode.specs.Counts.{counted}
use Rattle.core_constraints.specs.Levels.{IsStated}
use Rattle.core_constraints.proofs.Decided.{Distinct}
use Rattle.core_constraints.proofs.CountLaws.{First}
use Rattle.core_constraints.proofs.Opened.{IsRanked, opened}
use Rattle.core_constraints.proofs.Ranked.{ranked}
use Rattle.atom_parts.specs.CandidateLists.{candidates_if, is_to}
use Rattle.atom_parts.specs.ValueParts.{values_of, is_value, value_part}
use Rattle.atom_parts.specs.PartsTable.{all_of, any_of, where_true, by_constraint, is_node, good_parts, marked_parts, differ_parts, twin_parts, holds_parts, conforms_parts, target_list, target_parts, parts_of, triple_parts, items, need, counted_item, item_part}
use Rattle.atom_parts.specs.Fixing.{Fixing, NoAtom, ByParts, ByCount, by_parts, by_item, by_count, fixing, MeansFixing}
use Rattle.atom_parts.proofs.Facts.{tied, iff_same, iff_sym, iff_trans, not_iff, both_iff, one_any, each_map, each_iff, some_iff, some_flat_map, both_true}
use Rattle.atom_parts.proofs.ConstraintKinds.{xone_kind, IsCounting, least_kind}
use Rattle.atom_parts.proofs.CounterMeans.{counter_step}
use Rattle.atom_parts.proofs.CandidateRows.{some_triple}
use Rattle.atom_parts.proofs.Constraints.{C, good_means, good_law, marked_means, differ_means, twin_means, count_means, conforms_means, one_of_means}
use Rattle.atom_parts.proofs.ValueCounts.{value_terms, IsCounted, first_values, values_means}
use Rattle.atom_parts.proofs.WholeRows.{where_law, marked_law, differ_law, twin_law, holds_law}
use Rattle.atom_parts.proofs.Reached.{value_means, value_node, instance_means, value_terms_once}

-- said of another fact that is the same
if_iff : (M : Atom → Type 0) (T U : Type 0) (o : Option Parts) → U ↔ T → IfSome o (λ ps. T ↔ PartsMean M ps) → IfSome o (λ ps. U ↔ PartsMean M ps)
if_iff M T U None e h = tt
if_iff M T U (Some ps) e h = iff_trans e h

module _ (s : Setting) (profile : IsInProfile s.shapes) (g : Graph) (within : IsEdit s g) where
  abbrev M : Atom → Type 0
  M a = Means s g a

  abbrev Law : Type 0 → Option Parts → Type 0
  Law T o = IfSome o (λ ps. T ↔ PartsMean (Means s g) ps)

  at_constraint : (T : Type 0) (i : ℕ) (parts : ℕ → Form → Option Parts) → ((c : Constraint) → constraint_at s.shapes i ≡ Some c → Law T (parts c.shape (form_of c.kind))) → Law T (by_constraint s i parts)
  at_constraint T i parts each = go (constraint_at s.shapes i) refl
    where
      go : (o : Option Constraint) → constraint_at s.shapes i ≡ o → Law T (option_and_then (λ c. parts c.shape (form_of c.kind)) o)
      go None e = tt
      go (Some c) e = each c e

  guarded : (T : Type 0) (b : Bool) (o : Option Parts) → (b ≡ true → Law T o) → Law T (where_true b o)
  guarded T b o h = where_law (λ ps. T ↔ PartsMean (Means s g) ps) b o h

  below : (x : ℕ) → is_node s x ≡ true → x < node_count s
  below x e = ltb-true x (node_count s) e

  -- what the profile says of a constraint
  pub distinct : (i : ℕ) (c : Constraint) → constraint_at s.shapes i ≡ Some c → (us : List ℕ) → form_of c.kind ≡ Every (OneOf us) → Distinct us
  distinct i c e us k = λ j m u f h. ((ranked s.shapes profile).stated i c e).once us (xone_kind c.kind us k) j m u f h

  pub counting : (c : Constraint) (n : ℕ) (t : Test) → (form_of c.kind ≡ Least n t) ⊎ (form_of c.kind ≡ Most n t) → IsCounting t
  counting c n t h = least_kind c.kind n t h

  good : (i y : ℕ) → is_node s y ≡ true → (c : Constraint) → constraint_at s.shapes i ≡ Some c → Law (M (atom.Good i y)) (good_parts s i y (form_of c.kind))
  good i y t c e =
      if_iff M _ _ (good_parts s i y (form_of c.kind)) (iff_sym (good_means s g within i c (form_of c.kind) e refl y (below y t)))
      (good_law s g within i c (form_of c.kind) e refl y (below y t) (form_of c.kind) (λ us q. (q, distinct i c e us q)) (λ n t us q r. not_one t us r (counting c n t q)))
    where
      not_one : (t : Test) (us : List ℕ) → t ≡ OneOf us → IsCounting t → ⊥
      not_one t us r h = subst IsCounting r h

  marked : (i x y : ℕ) → (is_node s x && is_node s y) ≡ true → (c : Constraint) → constraint_at s.shapes i ≡ Some c → Law (M (atom.Marked i x y)) (marked_parts s i c.shape x y (form_of c.kind))
  marked i x y t c e =
      let r = both_true (is_node s x) (is_node s y) t in
      if_iff M _ _ (marked_parts s i c.shape x y (form_of c.kind)) (iff_sym (marked_means s g within i c (form_of c.kind) e refl x y (below x r.0) (below y r.1)))
      (marked_law s g within i c (form_of c.kind) e refl x (below x r.0) y (below y r.1) (form_of c.kind) refl (λ n t q h z. subst IsCounting z (counting c n t h)))

  differ : (i x y : ℕ) → (is_node s x && is_node s y) ≡ true → (c : Constraint) → constraint_at s.shapes i ≡ Some c → Law (M (atom.Differ i x y)) (differ_parts s c.shape x y (form_of c.kind))
  differ i x y t c e =
      let r = both_true (is_node s x) (is_node s y) t in
      if_iff M _ _ (differ_parts s c.shape x y (form_of c.kind)) (iff_sym (differ_means s g within i c (form_of c.kind) e refl x y (below x r.0) (below y r.1)))
      (differ_law s g within i c (form_of c.kind) e refl x (below x r.0) y (below y r.1) (form_of c.kind) refl)

  twin : (i x y z : ℕ) → (is_node s x && (is_node s y && is_node s z)) ≡ true → (c : Constraint) → constraint_at s.shapes i ≡ Some c → Law (M (atom.Twin i x y z)) (twin_parts s c.shape x y z (form_of c.kind))
  twin i x y z t c e =
      let r = both_true (is_node s x) (is_node s y && is_node s z) t in
      let q = both_true (is_node s y) (is_node s z) r.1 in
      if_iff M _ _ (twin_parts s c.shape x y z (form_of c.kind)) (iff_sym (twin_means s g within i c (form_of c.kind) e refl x y z (below x r.0) (below y q.0) (below z q.1)))
      (twin_law s g within i c (form_of c.kind) e refl x (below x r.0) y (below y q.0) z (below z q.1) (form_of c.kind))

  holds : (i x : ℕ) → is_node s x ≡ true → (c : Constraint) → constraint_at s.shapes i ≡ Some c → Law (M (atom.Holds i x)) (holds_parts s i c.shape x (form_of c.kind))
  holds i x t c e =
      if_iff M _ _ (holds_parts s i c.shape x (form_of c.kind)) (iff_trans (of_node s x (λ a. Holds s.shapes i g a) (below x t)) (stated (constraint_at s.shapes i) e))
      (holds_law s g within i c (form_of c.kind) e refl x (below x t) (form_of c.kind) refl)
    where
      stated : (o : Option Constraint) → o ≡ Some c → OfConstraint o (λ d. HoldsBy g (C s g within) (IsValue s.shapes d.shape g (node s x)) (node s x) (form_of d.kind)) ↔ HoldsBy g (C s g within) (IsValue s.shapes c.shape g (node s x)) (node s x) (form_of c.kind)
      stated o q = subst (λ o. OfConstraint o (λ d. HoldsBy g (C s g within) (IsValue s.shapes d.shape g (node s x)) (node s x) (form_of d.kind)) ↔ HoldsBy g (C s g within) (IsValue s.shapes c.shape g (node s x)) (node s x) (form_of c.kind)) (sym q) iff_same

  conforms : (n x : ℕ) → is_node s x ≡ true → Law (M (atom.Conforms n x)) (conforms_parts s n x)
  conforms n x t =
      if_iff M _ _ (conforms_parts s n x) (iff_trans (of_node s x (λ a. ConformsTo s.shapes g n a) l) (opened s.shapes g (ranked s.shapes profile) n (node s x)))
      (go (constraints_of s.shapes n))
    where
      l : x < node_count s
      l = below x t

      one : (i : ℕ) → HoldsIn s.shapes g (λ u y. ConformsTo s.shapes g u y) (node s x) i ↔ Means s g (atom.Holds i x)
      one i = iff_sym (of_node s x (λ a. Holds s.shapes i g a) l)

      listed : (off : Bool) (is : List ℕ) → Unless off (EachOf (HoldsIn s.shapes g (λ u y. ConformsTo s.shapes g u y) (node s x)) is) ↔ EachOf (PartMeans (Means s g)) (if off then [] else map (λ i. literal (atom.Holds i x) true) is)
      listed true is = iff_same
      listed false is = iff_trans (each_iff (HoldsIn s.shapes g (λ u y. ConformsTo s.shapes g u y) (node s x)) (λ i. Means s g (atom.Holds i x)) one is) (each_map (PartMeans (Means s g)) (λ i. literal (atom.Holds i x) true) is)

      go : (o : Option (List ℕ)) → IfSome (option_and_then (λ is. all_of (if is_deactivated s.shapes n then [] else map (λ i. literal (atom.Holds i x) true) is)) o) (λ ps. ConformsBy s.shapes g (λ u y. ConformsTo s.shapes g u y) n (node s x) o ↔ PartsMean (Means s g) ps)
      go None = tt
      go (Some is) = listed (is_deactivated s.shapes n) is

  -- a node that a target selects
  selected : (x : ℕ) → x < node_count s → (k : Target) → IsSelected g (node s x) k ↔ SomeOf (PartMeans (Means s g)) (target_list s x k)
  selected x l (target.Node a) = one_any (λ e. tied (node s x) a (sym e), λ e. sym (equal_terms (node s x) a e))
  selected x l (target.Class c) = one_any (instance_means s g within x c l)
  selected x l (target.SubjectsOf q) =
      iff_trans (
        λ h. (record { subject = node s x; predicate = Iri q; object = h.0 }, h.1, is_own (tied (node s x) (node s x) refl) (tied (Iri q) (Iri q) refl)),
        λ h. let r = both_true (same_term h.0.subject (node s x)) (same_term h.0.predicate (Iri q)) h.2 in
            (h.0.object, subst (λ (t : Statement). has g t ≡ true) (λ j. record { subject = equal_terms h.0.subject (node s x) r.0 j; predicate = equal_terms h.0.predicate (Iri q) r.1 j; object = h.0.object }) h.1),
      )
      (some_triple s g within (is_of (node s x) (Iri q)))
    where
      is_own : {a b : Bool} → a ≡ true → b ≡ true → (a && b) ≡ true
      is_own {a} {b} e f = ap (λ c. c && b) e ∙ f
  selected x l (target.ObjectsOf q) =
      iff_trans (
        λ h. (record { subject = h.0; predicate = Iri q; object = node s x }, h.1, is_own (tied (node s x) (node s x) refl) (tied (Iri q) (Iri q) refl)),
        λ h. let r = both_true (same_term h.0.object (node s x)) (same_term h.0.predicate (Iri q)) h.2 in
            (h.0.subject, subst (λ (t : Statement). has g t ≡ true) (λ j. record { subject = h.0.subject; predicate = equal_terms h.0.predicate (Iri q) r.1 j; object = equal_terms h.0.object (node s x) r.0 j }) h.1),
      )
      (some_triple s g within (is_to (node s x) (Iri q)))
    where
      is_own : {a b : Bool} → a ≡ true → b ≡ true → (a && b) ≡ true
      is_own {a} {b} e f = ap (λ c. c && b) e ∙ f

  focus : (n x : ℕ) → is_node s x ≡ true → Law (M (atom.Target n x)) (target_parts s n x)
  focus n x t = go (shape_at s.shapes n) refl
    where
      l : x < node_count s
      l = below x t

      go : (o : Option Term) → shape_at s.shapes n ≡ o → Law (M (atom.Target n x)) (option_and_then (λ shape. any_of (flat_map (target_list s x) (targets s.shapes shape))) o)
      go None e = tt
      go (Some shape) e =
          iff_trans (of_node s x (λ a. IsFocus s.shapes n g a) l)
          (iff_trans (iff_sym (focus_some s.shapes profile n (targets s.shapes shape) (ap (option_map (targets s.shapes)) e) g (node s x)))
          (iff_trans (some_iff (IsSelected g (node s x)) (λ k. SomeOf (PartMeans (Means s g)) (target_list s x k)) (selected x l) (targets s.shapes shape))
          (some_flat_map (PartMeans (Means s g)) (target_list s x) (targets s.shapes shape))))

  -- an atom of a path
  path_law : (a : Atom) → Law (Means s g a) (path_parts s a)
  path_law a = with_graph (path_parts s a) (path_meant s (paths_nest s.shapes profile) a (path_parts s a) refl)
    where
      with_graph : (o : Option Parts) → IfSome o (λ ps. (h : Graph) → IsEdit s h → Means s h a ↔ PartsMean (Means s h) ps) → Law (Means s g a) o
      with_graph None h = tt
      with_graph (Some ps) h = h g within

  -- an atom with parts means what they mean
  pub parts_law : (a : Atom) → Law (Means s g a) (parts_of s a)
  parts_law (atom.Good i y) = guarded _ (is_node s y) _ (λ t. at_constraint _ i (λ n f. good_parts s i y f) (good i y t))
  parts_law (atom.Marked i x y) =
      guarded _ (is_node s x && is_node s y) _
      (λ t. at_constraint _ i (λ n f. where_true (is_value s n x y) (marked_parts s i n x y f)) (λ c e. guarded _ (is_value s c.shape x y) _ (λ v. marked i x y t c e)))
  parts_law (atom.Differ i x y) = guarded _ (is_node s x && is_node s y) _ (λ t. at_constraint _ i (λ n f. differ_parts s n x y f) (differ i x y t))
  parts_law (atom.Twin i x y z) = guarded _ (is_node s x && (is_node s y && is_node s z)) _ (λ t. at_constraint _ i (λ n f. twin_parts s n x y z f) (twin i x y z t))
  parts_law (atom.Holds i x) = guarded _ (is_node s x) _ (λ t. at_constraint _ i (λ n f. holds_parts s i n x f) (holds i x t))
  parts_law (atom.Conforms n x) = guarded _ (is_node s x) _ (conforms n x)
  parts_law (atom.Target n x) = guarded _ (is_node s x) _ (focus n x)
  parts_law (atom.Triple t) = tt
  parts_law (atom.Count i x j m) = tt
  parts_law (atom.Reach p x y) = path_law (atom.Reach p x y)
  parts_law (atom.Level p k x y) = path_law (atom.Level p k x y)
  parts_law (atom.Middle p k x z y) = path_law (atom.Middle p k x z y)

pub parts_meant : (s : Setting) → IsInProfile s.shapes → (a : Atom) (o : Option Parts) → o ≡ parts_of s a → IfSome o (λ parts. (g : Graph) → IsEdit s g → Means s g a ↔ PartsMean (Means s g) parts)
parts_meant s profile a o e = subst (λ p. IfSome p (λ parts. (g : Graph) → IsEdit s g → Means s g a ↔ PartsMean (Means s g) parts)) (sym e) (at (parts_of s a) refl)
  where
    at : (p : Option Parts) → parts_of s a ≡ p → IfSome p (λ parts. (g : Graph) → IsEdit s g → Means s g a ↔ PartsMean (Means s g) parts)
    at None f = tt
    at (Some parts) f = λ g within. subst (λ q. IfSome q (λ ps. Means s g a ↔ PartsMean (Means s g) ps)) f (parts_law s profile g within a)
