-- Constraints that test each value node by itself, and what their tests mean.
use Rattle.std.proofs.Common.{◌≡◌, ℕ, Bool, true, false, List, Some, refl, sym, ap, ◌∙◌, subst}
use Rattle.std.specs.Option.{option_map_or}
use Rattle.rdf_terms.specs.declared.term.Term.{Term}
use Rattle.rdf_terms.specs.Graph.{Graph}
use Rattle.shapes_graph.specs.declared.constraints.Constraint.{Constraint}
use Rattle.shapes_graph.specs.declared.constraints.Kind.{Kind}
use Rattle.shapes_graph.specs.declared.constraints.Kind.TheVariants as kind
use Rattle.shapes_graph.specs.Constraints.{constraint_at}
use Rattle.shapes_graph.specs.Forms.{Anything, Passes, IsA, NotObject, Conforming, Failing, AllOf, SomeOfThese, OneOf, Counted, Form, Every, Nested, Closing, Least, Most, Having, Same, Unique, form_of}
use Rattle.shapes_graph.specs.Conformance.{IsGood}
use Rattle.value_tests.specs.GoodNodes.{is_test, passes, is_node_test, is_good}
use Rattle.core_constraints.specs.Decisions.{Says}
use Rattle.core_constraints.specs.Tests.{test_in, is_tested}
use Rattle.core_constraints.proofs.Decided.{no_false, says_of}

-- the kind asks neither for a class nor for a shape
pub record IsOfTerms (k : Kind) : Type 0 where
  pub not_class : (c : Term) → k ≡ kind.Class c → ⊥
  pub not_not : (u : ℕ) → k ≡ kind.Not u → ⊥
  pub not_node : (u : ℕ) → k ≡ kind.Node u → ⊥
  pub not_property : (u : ℕ) → k ≡ kind.Property u → ⊥
  pub not_and : (us : List ℕ) → k ≡ kind.And us → ⊥
  pub not_or : (us : List ℕ) → k ≡ kind.Or us → ⊥
  pub not_xone : (us : List ℕ) → k ≡ kind.Xone us → ⊥
  pub not_least : (n u : ℕ) (us : List ℕ) → k ≡ kind.QualifiedMinCount n u us → ⊥
  pub not_most : (n u : ℕ) (us : List ℕ) → k ≡ kind.QualifiedMaxCount n u us → ⊥

-- what it asks the value nodes one by one is then a test of the term alone
pub node_test : (k : Kind) → is_tested k ≡ true → IsOfTerms k → is_test (form_of k) ≡ true
node_test k tested h = by k refl
  where
    untested : (j : Kind) → k ≡ j → is_tested j ≡ false → is_test (form_of j) ≡ true
    untested j e f = absurd (no_false (is_tested j) (subst (λ (i : Kind). is_tested i ≡ true) e tested) f)

    by : (j : Kind) → k ≡ j → is_test (form_of j) ≡ true
    by (kind.Class c) e = absurd (h.not_class c e)
    by (kind.Datatype d) e = refl
    by (kind.NodeKind n) e = refl
    by (kind.MinExclusive b) e = refl
    by (kind.MinInclusive b) e = refl
    by (kind.MaxExclusive b) e = refl
    by (kind.MaxInclusive b) e = refl
    by (kind.MinLength n) e = refl
    by (kind.MaxLength n) e = refl
    by (kind.LanguageIn ts) e = refl
    by (kind.In ts) e = refl
    by (kind.Not u) e = absurd (h.not_not u e)
    by (kind.Node u) e = absurd (h.not_node u e)
    by (kind.And us) e = absurd (h.not_and us e)
    by (kind.Or us) e = absurd (h.not_or us e)
    by (kind.Xone us) e = absurd (h.not_xone us e)
    by (kind.Property u) e = absurd (h.not_property u e)
    by (kind.Closed on al) e = untested (kind.Closed on al) e refl
    by (kind.Disjoint q) e = untested (kind.Disjoint q) e refl
    by (kind.Equals q) e = untested (kind.Equals q) e refl
    by (kind.HasValue o) e = untested (kind.HasValue o) e refl
    by (kind.UniqueLang on) e = untested (kind.UniqueLang on) e refl
    by (kind.MinCount n) e = untested (kind.MinCount n) e refl
    by (kind.MaxCount n) e = untested (kind.MaxCount n) e refl
    by (kind.QualifiedMinCount n u us) e = absurd (h.not_least n u us e)
    by (kind.QualifiedMaxCount n u us) e = absurd (h.not_most n u us e)

passes_says : (g : Graph) (C : ℕ → Term → Type 0) (x y : Term) (f : Form) → is_test f ≡ true → Says (passes f y) (IsGood g C x (test_in f) y)
passes_says g C x y (Every (Passes test)) e = says_of (test y) (test y ≡ true) (λ h. h) (λ h k. no_false (test y) k h)
passes_says g C x y (Every Anything) e = absurd (no_false false e refl)
passes_says g C x y (Every (IsA c)) e = absurd (no_false false e refl)
passes_says g C x y (Every (NotObject q)) e = absurd (no_false false e refl)
passes_says g C x y (Every (Conforming u)) e = absurd (no_false false e refl)
passes_says g C x y (Every (Failing u)) e = absurd (no_false false e refl)
passes_says g C x y (Every (AllOf us)) e = absurd (no_false false e refl)
passes_says g C x y (Every (SomeOfThese us)) e = absurd (no_false false e refl)
passes_says g C x y (Every (OneOf us)) e = absurd (no_false false e refl)
passes_says g C x y (Every (Counted u us)) e = absurd (no_false false e refl)
passes_says g C x y (Nested u) e = absurd (no_false false e refl)
passes_says g C x y (Closing on al) e = absurd (no_false false e refl)
passes_says g C x y (Least n t) e = absurd (no_false false e refl)
passes_says g C x y (Most n t) e = absurd (no_false false e refl)
passes_says g C x y (Having o) e = absurd (no_false false e refl)
passes_says g C x y (Same q) e = absurd (no_false false e refl)
passes_says g C x y (Unique on) e = absurd (no_false false e refl)

-- what the triple states
module _ (s : Graph) (i : ℕ) (c : Constraint) (stated : constraint_at s i ≡ Some c) where
  pub stated_test : is_test (form_of c.kind) ≡ true → is_node_test s i ≡ true
  stated_test e = ap (λ o. option_map_or (λ (d : Constraint). is_test (form_of d.kind)) o false) stated ∙ e

  pub stated_says : (g : Graph) (C : ℕ → Term → Type 0) (x y z : Term) (b : Bool) → is_test (form_of c.kind) ≡ true → b ≡ is_good s i z → z ≡ y → Says b (IsGood g C x (test_in (form_of c.kind)) y)
  stated_says g C x y z b e f d =
      let whole : b ≡ passes (form_of c.kind) y = f ∙ ap (is_good s i) d ∙ ap (λ o. option_map_or (λ (d : Constraint). passes (form_of d.kind) y) o false) stated in
      subst (λ (b : Bool). Says b (IsGood g C x (test_in (form_of c.kind)) y)) (sym whole) (passes_says g C x y (form_of c.kind) e)
