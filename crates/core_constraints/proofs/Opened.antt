-- Conforming to a shape is that its constraints hold, where conforming to other shapes is meant alike.
use Rattle.std.proofs.Common.{◌≡◌, ℕ, zero, suc, ◌+◌, ◌<◌, ◌↔◌, Bool, true, false, List, [], ◌∷◌, Option, Some, None, refl, sym, subst, Contains, arith}
use Rattle.std.specs.Ordering.{nat_cmp}
use Rattle.rdf_terms.specs.Term.{term_cmp}
use Rattle.rdf_terms.specs.Graph.{Graph}
use Rattle.rdf_terms.specs.declared.term.Term.{Term}
use Rattle.shapes_graph.specs.declared.constraints.Constraint.{Constraint}
use Rattle.shapes_graph.specs.declared.constraints.Kind.{Kind}
use Rattle.shapes_graph.specs.declared.constraints.Kind.TheVariants as kind
use Rattle.shapes_profile.specs.Logic.{EachOf, Unless, NoneFails, AtLeast}
use Rattle.shapes_graph.specs.Constraints.{constraint_at, constraints_of, is_deactivated, shapes_of_kind}
use Rattle.shapes_graph.specs.Forms.{Test, Anything, Passes, IsA, NotObject, Conforming, Failing, AllOf, SomeOfThese, OneOf, Counted, Form, Every, Nested, Closing, Least, Most, Having, Same, Unique, form_of}
use Rattle.shapes_graph.specs.Conformance.{IsGood, HoldsBy, OfConstraint, HoldsIn, ConformsBy, ConformsToIn, ConformsTo}
use Rattle.shapes_graph.specs.Reach.{IsValue}
use Rattle.core_constraints.specs.Decisions.{Says}
use Rattle.core_constraints.specs.Levels.{level, IsStated}
use Rattle.core_constraints.proofs.Decided.{same, not_iff, each_in, some_in, says_iff}
use Rattle.core_constraints.proofs.CountLaws.{at_least_iff}
use Rattle.rdf_terms.proofs.Members.{in_first, in_rest}

-- the shapes that a test and a form refer to
abbrev pub test_references : Test → List ℕ
test_references Anything = []
test_references (Passes f) = []
test_references (IsA c) = []
test_references (NotObject q) = []
test_references (Conforming u) = u ∷ []
test_references (Failing u) = u ∷ []
test_references (AllOf us) = us
test_references (SomeOfThese us) = us
test_references (OneOf us) = us
test_references (Counted u us) = u ∷ us

abbrev pub references : Form → List ℕ
references (Every t) = test_references t
references (Nested u) = u ∷ []
references (Closing on allowed) = []
references (Least n t) = test_references t
references (Most n t) = test_references t
references (Having o) = []
references (Same q) = []
references (Unique on) = []

-- what the profile gives
pub record IsRanked (s : Graph) : Type 0 where
  pub shallow : (n : ℕ) → level s n < 129
  pub stated : (i : ℕ) (c : Constraint) → constraint_at s i ≡ Some c → IsStated s i c
  pub own : (n i : ℕ) (is : List ℕ) → constraints_of s n ≡ Some is → Contains is i → (c : Constraint) × (constraint_at s i ≡ Some c) × (c.shape ≡ n)

none_iff : {X : Type 0} (V P Q : X → Type 0) → ((y : X) → P y ↔ Q y) → NoneFails V P ↔ NoneFails V Q
none_iff V P Q e = (λ h bad. h (bad.0, bad.1, λ p. bad.2 ((e bad.0).0 p)), λ h bad. h (bad.0, bad.1, λ q. bad.2 ((e bad.0).1 q)))

module _ (g : Graph) (C D : ℕ → Term → Type 0) where
  good_same : (x : Term) (t : Test) → ((u : ℕ) → Contains (test_references t) u → (y : Term) → C u y ↔ D u y) → (y : Term) → IsGood g C x t y ↔ IsGood g D x t y
  good_same x Anything e y = same
  good_same x (Passes f) e y = same
  good_same x (IsA c) e y = same
  good_same x (NotObject q) e y = same
  good_same x (Conforming u) e y = e u (in_first u []) y
  good_same x (Failing u) e y = not_iff (e u (in_first u []) y)
  good_same x (AllOf us) e y = each_in (λ u. C u y) (λ u. D u y) us (λ u h. e u h y)
  good_same x (SomeOfThese us) e y = (some_in (λ u. C u y) (λ u. D u y) us (λ u h. (e u h y).0), some_in (λ u. D u y) (λ u. C u y) us (λ u h. (e u h y).1))
  good_same x (OneOf us) e y =
      let to : (n : ℕ) → AtLeast nat_cmp (λ u. Contains us u × C u y) n → AtLeast nat_cmp (λ u. Contains us u × D u y) n = λ n. at_least_iff (λ u. Contains us u × C u y) (λ u. Contains us u × D u y) n (λ u h. (h.0, (e u h.0 y).0 h.1)) in
      let back : (n : ℕ) → AtLeast nat_cmp (λ u. Contains us u × D u y) n → AtLeast nat_cmp (λ u. Contains us u × C u y) n = λ n. at_least_iff (λ u. Contains us u × D u y) (λ u. Contains us u × C u y) n (λ u h. (h.0, (e u h.0 y).1 h.1)) in
      (λ h. (to 1 h.0, λ k. h.1 (back 2 k)), λ h. (back 1 h.0, λ k. h.1 (to 2 k)))
  good_same x (Counted u us) e y =
      let f = e u (in_first u us) y in
      let r = each_in (λ u. ¬ (C u y)) (λ u. ¬ (D u y)) us (λ w h. not_iff (e w (in_rest u us w h) y)) in
      (λ h. (f.0 h.0, r.0 h.1), λ h. (f.1 h.0, r.1 h.1))

  least_same : (V : Term → Type 0) (x : Term) (t : Test) (n : ℕ) → ((u : ℕ) → Contains (test_references t) u → (y : Term) → C u y ↔ D u y) → AtLeast term_cmp (λ y. V y × IsGood g C x t y) n ↔ AtLeast term_cmp (λ y. V y × IsGood g D x t y) n
  least_same V x t n e =
      (at_least_iff (λ y. V y × IsGood g C x t y) (λ y. V y × IsGood g D x t y) n (λ y h. (h.0, (good_same x t e y).0 h.1)), at_least_iff (λ y. V y × IsGood g D x t y) (λ y. V y × IsGood g C x t y) n (λ y h. (h.0, (good_same x t e y).1 h.1)))

  holds_same : (V : Term → Type 0) (x : Term) (f : Form) → ((u : ℕ) → Contains (references f) u → (y : Term) → C u y ↔ D u y) → HoldsBy g C V x f ↔ HoldsBy g D V x f
  holds_same V x (Every t) e = none_iff V (IsGood g C x t) (IsGood g D x t) (good_same x t e)
  holds_same V x (Nested u) e = none_iff V (C u) (D u) (e u (in_first u []))
  holds_same V x (Closing on allowed) e = same
  holds_same V x (Least n t) e = least_same V x t n e
  holds_same V x (Most n t) e = not_iff (least_same V x t (n + 1) e)
  holds_same V x (Having o) e = same
  holds_same V x (Same q) e = same
  holds_same V x (Unique on) e = same

-- with the same value nodes
pub holds_values : (g : Graph) (C : ℕ → Term → Type 0) (V W : Term → Type 0) (x : Term) (f : Form) → ((y : Term) → V y ↔ W y) → HoldsBy g C V x f → HoldsBy g C W x f
holds_values g C V W x (Every t) e h = λ bad. h (bad.0, (e bad.0).1 bad.1, bad.2)
holds_values g C V W x (Nested u) e h = λ bad. h (bad.0, (e bad.0).1 bad.1, bad.2)
holds_values g C V W x (Closing on allowed) e h = λ o bad. h o (bad.0, record { there = bad.1.there; subject = (e bad.0.subject).1 bad.1.subject; other = bad.1.other })
holds_values g C V W x (Least n t) e h = at_least_iff (λ y. V y × IsGood g C x t y) (λ y. W y × IsGood g C x t y) n (λ y k. ((e y).0 k.0, k.1)) h
holds_values g C V W x (Most n t) e h = λ k. h (at_least_iff (λ y. W y × IsGood g C x t y) (λ y. V y × IsGood g C x t y) (n + 1) (λ y k. ((e y).1 k.0, k.1)) k)
holds_values g C V W x (Having o) e h = (e o).0 h
holds_values g C V W x (Same q) e h = record { no_value_alone = λ bad. h.no_value_alone (bad.0, (e bad.0).1 bad.1, bad.2); no_object_alone = λ bad. h.no_object_alone (bad.0, bad.1, λ v. bad.2 ((e bad.0).0 v)) }
holds_values g C V W x (Unique on) e h = λ o bad. h o (bad.0, bad.1, bad.2, record { differ = bad.3.differ; first = (e bad.0).1 bad.3.first; second = (e bad.1).1 bad.3.second; first_tag = bad.3.first_tag; second_tag = bad.3.second_tag })

pub says_values : (g : Graph) (C : ℕ → Term → Type 0) (V W : Term → Type 0) (x : Term) (f : Form) → ((y : Term) → V y ↔ W y) → (b : Bool) → Says b (HoldsBy g C V x f) → Says b (HoldsBy g C W x f)
says_values g C V W x f e b h = says_iff b _ _ (holds_values g C V W x f e, holds_values g C W V x f (λ y. ((e y).1, (e y).0))) h

pub references_of : (k : Kind) → references (form_of k) ≡ shapes_of_kind k
references_of (kind.Class c) = refl
references_of (kind.Datatype d) = refl
references_of (kind.NodeKind k) = refl
references_of (kind.MinExclusive b) = refl
references_of (kind.MinInclusive b) = refl
references_of (kind.MaxExclusive b) = refl
references_of (kind.MaxInclusive b) = refl
references_of (kind.MinLength n) = refl
references_of (kind.MaxLength n) = refl
references_of (kind.LanguageIn ts) = refl
references_of (kind.In ts) = refl
references_of (kind.Not u) = refl
references_of (kind.Node u) = refl
references_of (kind.And us) = refl
references_of (kind.Or us) = refl
references_of (kind.Xone us) = refl
references_of (kind.Property u) = refl
references_of (kind.Closed on al) = refl
references_of (kind.Disjoint q) = refl
references_of (kind.Equals q) = refl
references_of (kind.HasValue o) = refl
references_of (kind.UniqueLang on) = refl
references_of (kind.MinCount n) = refl
references_of (kind.MaxCount n) = refl
references_of (kind.QualifiedMinCount n u us) = refl
references_of (kind.QualifiedMaxCount n u us) = refl

unless_iff : (b : Bool) (P Q : Type 0) → P ↔ Q → Unless b P ↔ Unless b Q
unless_iff true P Q e = same
unless_iff false P Q e = e

module _ (s g : Graph) (ranked : IsRanked s) where
  by_same : (C D : ℕ → Term → Type 0) (n : ℕ) (x : Term) → ((u : ℕ) → level s u < level s n → (y : Term) → C u y ↔ D u y) → ConformsBy s g C n x (constraints_of s n) ↔ ConformsBy s g D n x (constraints_of s n)
  by_same C D n x e = go (constraints_of s n) refl
    where
      one : (is : List ℕ) → constraints_of s n ≡ Some is → (i : ℕ) → Contains is i → HoldsIn s g C x i ↔ HoldsIn s g D x i
      one is h i k =
          let r = ranked.own n i is h k in
          subst (λ o. OfConstraint o (λ c. HoldsBy g C (IsValue s c.shape g x) x (form_of c.kind)) ↔ OfConstraint o (λ c. HoldsBy g D (IsValue s c.shape g x) x (form_of c.kind))) (sym r.1)
          (holds_same g C D (IsValue s r.0.shape g x) x (form_of r.0.kind) (λ u l. e u (subst (λ m. level s u < level s m) r.2 ((ranked.stated i r.0 r.1).lower u (subst (λ us. Contains us u) (references_of r.0.kind) l)).1)))

      go : (o : Option (List ℕ)) → constraints_of s n ≡ o → ConformsBy s g C n x o ↔ ConformsBy s g D n x o
      go None h = same
      go (Some is) h = unless_iff (is_deactivated s n) (EachOf (HoldsIn s g C x) is) (EachOf (HoldsIn s g D x) is) (each_in (HoldsIn s g C x) (HoldsIn s g D x) is (one is h))

  conforms_same : (d e n : ℕ) (x : Term) → level s n < d → level s n < e → ConformsToIn d s g n x ↔ ConformsToIn e s g n x
  unfolding ConformsToIn
  conforms_same zero e n x h k = absurd (omega arith)
  conforms_same (suc d) zero n x h k = absurd (omega arith)
  conforms_same (suc d) (suc e) n x h k = by_same (λ u y. ConformsToIn d s g u y) (λ u y. ConformsToIn e s g u y) n x (λ u l y. conforms_same d e u y (omega arith) (omega arith))

  conforms_unfolds : (d : ℕ) → ((u : ℕ) → level s u < d) → (n : ℕ) (x : Term) → ConformsToIn d s g n x ↔ ConformsBy s g (λ u y. ConformsToIn d s g u y) n x (constraints_of s n)
  unfolding ConformsToIn
  conforms_unfolds d all n x = conforms_same d (suc d) n x (all n) (let h = all n in omega arith)

  pub opened : (n : ℕ) (x : Term) → ConformsTo s g n x ↔ ConformsBy s g (λ u y. ConformsTo s g u y) n x (constraints_of s n)
  unfolding ConformsTo
  opened n x = conforms_unfolds 129 ranked.shallow n x

  pub conforms_none : (n : ℕ) (x : Term) → constraints_of s n ≡ None → ¬ (ConformsTo s g n x)
  conforms_none n x e h = subst (λ o. ConformsBy s g (λ u y. ConformsTo s g u y) n x o) e ((opened n x).0 h)

  conforms_at : (n : ℕ) (x : Term) (is : List ℕ) → constraints_of s n ≡ Some is → ConformsTo s g n x ↔ Unless (is_deactivated s n) (EachOf (HoldsIn s g (λ u y. ConformsTo s g u y) x) is)
  conforms_at n x is e = subst (λ o. ConformsTo s g n x ↔ ConformsBy s g (λ u y. ConformsTo s g u y) n x o) e (opened n x)

  pub conforms_off : (n : ℕ) (x : Term) (is : List ℕ) → constraints_of s n ≡ Some is → is_deactivated s n ≡ true → ConformsTo s g n x
  conforms_off n x is e off = (subst (λ b. ConformsTo s g n x ↔ Unless b (EachOf (HoldsIn s g (λ u y. ConformsTo s g u y) x) is)) off (conforms_at n x is e)).1 tt

  pub conforms_says : (n : ℕ) (x : Term) (is : List ℕ) → constraints_of s n ≡ Some is → is_deactivated s n ≡ false → (b : Bool) → Says b (EachOf (HoldsIn s g (λ u y. ConformsTo s g u y) x) is) → Says b (ConformsTo s g n x)
  conforms_says n x is e off b h = let r = subst (λ b. ConformsTo s g n x ↔ Unless b (EachOf (HoldsIn s g (λ u y. ConformsTo s g u y) x) is)) off (conforms_at n x is e) in says_iff b _ _ (r.1, r.0) h
