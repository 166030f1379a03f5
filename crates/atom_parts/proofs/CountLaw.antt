-- In each edited graph a counter means what the two counters over one thing less and the thing mean; and so each atom means what fixes it.
use Rattle.std.proofs.Common.{◌≡◌, ◌↔◌, ◌⊎◌, inl, inr, ℕ, zero, suc, ◌-◌, ◌<◌, ◌≤◌, Bool, true, false, cond, ◌&&◌, List, [], ◌∷◌, map, length, Option, Some, None, IfSome, nat_le, nat_lt, slice_get, refl, sym, ap, ◌∙◌, subst, arith}
use Rattle.std.specs.Prelude.{option_and_then, option_map, unwrap_or}
use Rattle.std.proofs.lemmas.Bool.{ltb-true}
use Rattle.std.proofs.lemmas.Option.{slice_get_within, slice_get-map}
use Rattle.std.proofs.lemmas.List.{length-map}
use Rattle.std.specs.Ordering.{nat_cmp}
use Rattle.std.specs.Cmp.{nat_cmp_total}
use Rattle.std.specs.FinMap.{nat_cmp-IsAntisymmetric}
use Rattle.rdf_terms.specs.declared.term.Term.{Term}
use Rattle.rdf_terms.specs.Term.{term_cmp}
use Rattle.rdf_terms.specs.TermOrder.{term_cmp_total, term_cmp-IsAntisymmetric}
use Rattle.rdf_terms.specs.Graph.{Graph}
use Rattle.shapes_profile.specs.Logic.{AtLeast}
use Rattle.shapes_profile.specs.Profile.{IsInProfile}
use Rattle.shapes_graph.specs.declared.constraints.Constraint.{Constraint}
use Rattle.shapes_graph.specs.Constraints.{constraint_at}
use Rattle.shapes_graph.specs.Forms.{Test, Anything, Passes, IsA, NotObject, Conforming, Failing, AllOf, SomeOfThese, OneOf, Counted, Form, Every, Nested, Closing, Least, Most, Having, Same, Unique, form_of}
use Rattle.shapes_graph.specs.Conformance.{IsGood}
use Rattle.shapes_graph.specs.Reach.{IsValue}
use Rattle.repair_problem.specs.declared.atom.Atom.{Atom}
use Rattle.repair_problem.specs.declared.atom.Atom.TheVariants as atom
use Rattle.repair_problem.specs.declared.atom.Part.{Part}
use Rattle.repair_problem.specs.declared.atom.Parts.{Parts}
use Rattle.repair_problem.specs.Setting.{Setting, IsEdit, full, node}
use Rattle.repair_problem.specs.Candidates.{candidates}
use Rattle.repair_problem.specs.ConstraintFacts.{AtLeastOfFirst, CountsBy, MarkedBy}
use Rattle.repair_problem.specs.Meaning.{Means}
use Rattle.repair_problem.specs.PartMeaning.{PartMeans, PartsMean}
use Rattle.path_levels.specs.PossibleNodes.{node_count}
use Rattle.count_encode.specs.Counts.{counted}
use Rattle.core_constraints.proofs.Decided.{Distinct, in_at}
use Rattle.core_constraints.proofs.CountLaws.{First}
use Rattle.atom_parts.specs.ValueParts.{values_of, value_part}
use Rattle.atom_parts.specs.PartsTable.{by_constraint, is_node, items, need, counted_item, item_part, parts_of}
use Rattle.atom_parts.specs.Fixing.{Fixing, NoAtom, Free, ByParts, ByCount, by_parts, by_item, by_count, fixing, MeansFixing}
use Rattle.atom_parts.proofs.Facts.{iff_same, iff_sym, iff_trans, both_iff, both_true}
use Rattle.atom_parts.proofs.ConstraintKinds.{IsCounting}
use Rattle.atom_parts.proofs.CounterMeans.{counter_step}
use Rattle.atom_parts.proofs.Constraints.{C, marked_means, count_means, conforms_means, one_of_means}
use Rattle.atom_parts.proofs.ValueCounts.{value_terms, IsCounted, first_values, values_means}
use Rattle.atom_parts.proofs.PartsLaw.{distinct, counting, parts_law}
use Rattle.atom_parts.proofs.Reached.{value_means, value_node, value_terms_once}

or_iff : {P Q A B : Type 0} → P ↔ A → Q ↔ B → (P ⊎ Q) ↔ (A ⊎ B)
or_iff {P} {Q} {A} {B} e f = (to, back)
  where
    to : P ⊎ Q → A ⊎ B
    to (inl p) = inl (e.0 p)
    to (inr q) = inr (f.0 q)

    back : A ⊎ B → P ⊎ Q
    back (inl a) = inl (e.1 a)
    back (inr b) = inr (f.1 b)

nothing_at : {X : Type 0} (k : ℕ) → slice_get {X = X} [] k ≡ None
nothing_at zero = refl
nothing_at (suc k) = refl

module _ (s : Setting) (profile : IsInProfile s.shapes) (g : Graph) (within : IsEdit s g) where
  module _ (i : ℕ) (c : Constraint) (e : constraint_at s.shapes i ≡ Some c) (x j m : ℕ) (l : x < node_count s) (least : 1 ≤ m) (most : m ≤ j) where
    abbrev IsFixed : Fixing → Type 0
    IsFixed f = MeansFixing (Means s g) (atom.Count i x j m) f

    nothing : (f : Form) → IsFixed (by_item s i c.shape x j m f (slice_get [] (j - 1)))
    nothing f = subst (λ o. IsFixed (by_item s i c.shape x j m f o)) (sym (nothing_at (j - 1))) tt

    shapes : (us : List ℕ) → form_of c.kind ≡ Every (OneOf us) → IsFixed (by_item s i c.shape x j m (Every (OneOf us)) (slice_get us (j - 1)))
    shapes us z = at (slice_get us (j - 1)) refl
      where
        once : Distinct us
        once = distinct s profile g within i c e us z

        own : Means s g (atom.Count i x j m) ↔ AtLeast nat_cmp (First us (λ u. C s g within u (node s x)) j) m
        own = iff_sym (subst (λ f. CountsBy g (C s g within) (IsValue s.shapes c.shape g (node s x)) (node s x) (IsValue s.shapes c.shape (full s) (node s x)) f j m ↔ Means s g (atom.Count i x j m)) z (count_means s g within i c (form_of c.kind) e refl x j m l))

        at : (o : Option ℕ) → slice_get us (j - 1) ≡ o → IsFixed (by_item s i c.shape x j m (Every (OneOf us)) o)
        at None q = tt
        at (Some u) q =
            let b = slice_get_within us (j - 1) u q in
            let low : (k : ℕ) → AtLeast nat_cmp (First us (λ v. C s g within v (node s x)) (j - 1)) k ↔ PartMeans (Means s g) (counted i x (j - 1) k) = λ k. one_of_means s g within i c (form_of c.kind) e refl us z once x (j - 1) k l (omega (arith, b)) in
            iff_trans own
            (iff_trans (counter_step nat_cmp_total nat_cmp-IsAntisymmetric us (λ v. C s g within v (node s x)) once j m u least (omega (arith, least, most)) q)
            (or_iff (low m) (both_iff (low (m - 1)) (conforms_means s g within x l u))))

    values : (f : Form) (t : Test) → form_of c.kind ≡ f → IsCounting t
        → ((j m : ℕ) → CountsBy g (C s g within) (IsValue s.shapes c.shape g (node s x)) (node s x) (IsValue s.shapes c.shape (full s) (node s x)) f j m ↔ AtLeastOfFirst (IsValue s.shapes c.shape (full s) (node s x)) (λ b. IsValue s.shapes c.shape g (node s x) b × IsGood g (C s g within) (node s x) t b) j m)
        → ((b : Term) → MarkedBy g (C s g within) (IsValue s.shapes c.shape g (node s x)) (node s x) f b ↔ (IsValue s.shapes c.shape g (node s x) b × IsGood g (C s g within) (node s x) t b))
        → ((y : ℕ) → item_part s i c.shape x y f ≡ counted_item s i c.shape x y t) → (o : Option ℕ) → slice_get (values_of s c.shape x) (j - 1) ≡ o → IsFixed (by_item s i c.shape x j m f o)
    values f t z h counts marks own None q = tt
    values f t z h counts marks own (Some y) q =
        let b = slice_get_within (values_of s c.shape x) (j - 1) y q in
        let n = value_node s c.shape x y l (in_at (values_of s c.shape x) (j - 1) y q) in
        let there : slice_get (value_terms s c.shape x) (j - 1) ≡ Some (node s y) = slice_get-map (node s) (values_of s c.shape x) (j - 1) ∙ ap (option_map (node s)) q in
        let low : (k : ℕ) → AtLeast term_cmp (First (value_terms s c.shape x) (IsCounted s g within i c f e z x l t) (j - 1)) k ↔ PartMeans (Means s g) (counted i x (j - 1) k) = λ k. values_means s g within i c f e z x l t counts (j - 1) k (omega (arith, b)) in
        iff_trans (iff_sym (count_means s g within i c f e z x j m l))
        (iff_trans (counts j m)
        (iff_trans (first_values s c.shape x (IsCounted s g within i c f e z x l t) j m l)
        (iff_trans (counter_step term_cmp_total term_cmp-IsAntisymmetric (value_terms s c.shape x) (IsCounted s g within i c f e z x l t) (value_terms_once s c.shape x l) j m (node s y) least (omega (arith, least, most)) there)
        (or_iff (low m) (both_iff (low (m - 1)) (subst (λ p. IsCounted s g within i c f e z x l t (node s y) ↔ PartMeans (Means s g) p) (sym (own y)) (item t h y n marks)))))))
      where
        item : (t : Test) → IsCounting t → (y : ℕ) → y < node_count s → ((b : Term) → MarkedBy g (C s g within) (IsValue s.shapes c.shape g (node s x)) (node s x) f b ↔ (IsValue s.shapes c.shape g (node s x) b × IsGood g (C s g within) (node s x) t b)) → (IsValue s.shapes c.shape g (node s x) (node s y) × IsGood g (C s g within) (node s x) t (node s y)) ↔ PartMeans (Means s g) (counted_item s i c.shape x y t)
        item Anything h y n marks = iff_trans (λ p. p.0, λ v. (v, tt)) (value_means s g within c.shape x y l n)
        item (Counted u us) h y n marks = iff_trans (iff_sym (marks (node s y))) (marked_means s g within i c f e z x y l n)
        item (Passes test) h y n marks = absurd h
        item (IsA d) h y n marks = absurd h
        item (NotObject q) h y n marks = absurd h
        item (Conforming u) h y n marks = absurd h
        item (Failing u) h y n marks = absurd h
        item (AllOf us) h y n marks = absurd h
        item (SomeOfThese us) h y n marks = absurd h
        item (OneOf us) h y n marks = absurd h

    by_form : (f : Form) → form_of c.kind ≡ f → IsFixed (by_item s i c.shape x j m f (slice_get (items s c.shape x f) (j - 1)))
    by_form (Every (OneOf us)) z = shapes us z
    by_form (Every Anything) z = nothing (Every Anything)
    by_form (Every (Passes test)) z = nothing (Every (Passes test))
    by_form (Every (IsA d)) z = nothing (Every (IsA d))
    by_form (Every (NotObject q)) z = nothing (Every (NotObject q))
    by_form (Every (Conforming u)) z = nothing (Every (Conforming u))
    by_form (Every (Failing u)) z = nothing (Every (Failing u))
    by_form (Every (AllOf us)) z = nothing (Every (AllOf us))
    by_form (Every (SomeOfThese us)) z = nothing (Every (SomeOfThese us))
    by_form (Every (Counted u us)) z = nothing (Every (Counted u us))
    by_form (Nested u) z = nothing (Nested u)
    by_form (Closing on allowed) z = nothing (Closing on allowed)
    by_form (Least n t) z = values (Least n t) t z (counting s profile g within c n t (inl z)) (λ j m. iff_same) (λ b. iff_same) (λ y. refl) (slice_get (values_of s c.shape x) (j - 1)) refl
    by_form (Most n t) z = values (Most n t) t z (counting s profile g within c n t (inr z)) (λ j m. iff_same) (λ b. iff_same) (λ y. refl) (slice_get (values_of s c.shape x) (j - 1)) refl
    by_form (Having o) z = nothing (Having o)
    by_form (Same q) z = nothing (Same q)
    by_form (Unique on) z = nothing (Unique on)

  count_fixing : (i x j m : ℕ) (o : Option Constraint) → constraint_at s.shapes i ≡ o → MeansFixing (Means s g) (atom.Count i x j m) (unwrap_or (option_and_then (λ c. Some (by_count s i c.shape x j m (form_of c.kind))) o) NoAtom)
  count_fixing i x j m None e = tt
  count_fixing i x j m (Some c) e = at (is_node s x && (nat_le 1 m && (nat_le m j && nat_le m (need (form_of c.kind))))) refl
    where
      at : (b : Bool) → (is_node s x && (nat_le 1 m && (nat_le m j && nat_le m (need (form_of c.kind))))) ≡ b → MeansFixing (Means s g) (atom.Count i x j m) (cond b (by_item s i c.shape x j m (form_of c.kind) (slice_get (items s c.shape x (form_of c.kind)) (j - 1))) NoAtom)
      at false q = tt
      at true q =
          let r = both_true (is_node s x) (nat_le 1 m && (nat_le m j && nat_le m (need (form_of c.kind)))) q in
          let t = both_true (nat_le 1 m) (nat_le m j && nat_le m (need (form_of c.kind))) r.1 in
          let u = both_true (nat_le m j) (nat_le m (need (form_of c.kind))) t.1 in
          by_form i c e x j m (ltb-true x (node_count s) r.0) (grind (arith, t)) (grind (arith, u)) (form_of c.kind) refl

  of_parts : (a : Atom) (o : Option Parts) → IfSome o (λ ps. Means s g a ↔ PartsMean (Means s g) ps) → MeansFixing (Means s g) a (by_parts o)
  of_parts a None h = tt
  of_parts a (Some ps) h = h

  pub means_fixing : (a : Atom) → MeansFixing (Means s g) a (fixing s a)
  means_fixing (atom.Triple t) = at (nat_lt t (length (candidates s)))
    where
      at : (b : Bool) → MeansFixing (Means s g) (atom.Triple t) (cond b Free NoAtom)
      at true = tt
      at false = tt
  means_fixing (atom.Count i x j m) = count_fixing i x j m (constraint_at s.shapes i) refl
  means_fixing (atom.Reach p x y) = of_parts (atom.Reach p x y) (parts_of s (atom.Reach p x y)) (parts_law s profile g within (atom.Reach p x y))
  means_fixing (atom.Level p k x y) = of_parts (atom.Level p k x y) (parts_of s (atom.Level p k x y)) (parts_law s profile g within (atom.Level p k x y))
  means_fixing (atom.Middle p k x z y) = of_parts (atom.Middle p k x z y) (parts_of s (atom.Middle p k x z y)) (parts_law s profile g within (atom.Middle p k x z y))
  means_fixing (atom.Good i y) = of_parts (atom.Good i y) (parts_of s (atom.Good i y)) (parts_law s profile g within (atom.Good i y))
  means_fixing (atom.Marked i x y) = of_parts (atom.Marked i x y) (parts_of s (atom.Marked i x y)) (parts_law s profile g within (atom.Marked i x y))
  means_fixing (atom.Differ i x y) = of_parts (atom.Differ i x y) (parts_of s (atom.Differ i x y)) (parts_law s profile g within (atom.Differ i x y))
  means_fixing (atom.Twin i x y z) = of_parts (atom.Twin i x y z) (parts_of s (atom.Twin i x y z)) (parts_law s profile g within (atom.Twin i x y z))
  means_fixing (atom.Holds i x) = of_parts (atom.Holds i x) (parts_of s (atom.Holds i x)) (parts_law s profile g within (atom.Holds i x))
  means_fixing (atom.Conforms n x) = of_parts (atom.Conforms n x) (parts_of s (atom.Conforms n x)) (parts_law s profile g within (atom.Conforms n x))
  means_fixing (atom.Target n x) = of_parts (atom.Target n x) (parts_of s (atom.Target n x)) (parts_law s profile g within (atom.Target n x))
