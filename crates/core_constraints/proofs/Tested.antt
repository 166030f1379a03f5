-- Constraints that ask the value nodes one by one, which don't ask of the focus node.
use Rattle.std.proofs.Common.{◌≡◌, ℕ, ◌↔◌, Bool, true, false, List, refl}
use Rattle.std.specs.Prelude.{IsTrue}
use Rattle.rdf_terms.specs.Graph.{Graph}
use Rattle.rdf_terms.specs.declared.term.Term.{Term}
use Rattle.shapes_graph.specs.declared.constraints.Kind.{Kind}
use Rattle.shapes_graph.specs.declared.constraints.Kind.TheVariants as kind
use Rattle.shapes_profile.specs.Logic.{NoneFails}
use Rattle.shapes_graph.specs.Forms.{Test, Anything, Passes, IsA, NotObject, Conforming, Failing, AllOf, SomeOfThese, OneOf, Counted, Form, Every, Nested, Closing, Least, Most, Having, Same, Unique, form_of}
use Rattle.shapes_graph.specs.Conformance.{IsGood, HoldsBy}
use Rattle.core_constraints.specs.FrameRows.{has_one_row}
use Rattle.core_constraints.specs.Tests.{test_in, asks_nodes}
use Rattle.core_constraints.proofs.Decided.{same}

-- of each value node alone, and of all of them the same
abbrev pub asks_each : Form → Bool
asks_each (Every t) = asks_nodes t
asks_each (Nested u) = true
asks_each _ = false

module _ (g : Graph) (C : ℕ → Term → Type 0) where
  pub good_alone : (x z : Term) (t : Test) → IsTrue (asks_nodes t) → (y : Term) → IsGood g C x t y ↔ IsGood g C z t y
  good_alone x z Anything h y = same
  good_alone x z (Passes f) h y = same
  good_alone x z (IsA c) h y = same
  good_alone x z (NotObject q) h y = cc
  good_alone x z (Conforming u) h y = same
  good_alone x z (Failing u) h y = same
  good_alone x z (AllOf us) h y = same
  good_alone x z (SomeOfThese us) h y = same
  good_alone x z (OneOf us) h y = same
  good_alone x z (Counted u us) h y = same

  pub holds_alone : (V : Term → Type 0) (x : Term) (f : Form) → IsTrue (asks_each f) → NoneFails V (λ y. IsGood g C y (test_in f) y) ↔ HoldsBy g C V x f
  holds_alone V x (Every t) h =
      (λ k bad. k (bad.0, bad.1, λ p. bad.2 ((good_alone bad.0 x t h bad.0).0 p)), λ k bad. k (bad.0, bad.1, λ p. bad.2 ((good_alone bad.0 x t h bad.0).1 p)))
  holds_alone V x (Nested u) h = same
  holds_alone V x (Closing on allowed) h = cc
  holds_alone V x (Least n t) h = cc
  holds_alone V x (Most n t) h = cc
  holds_alone V x (Having o) h = cc
  holds_alone V x (Same q) h = cc
  holds_alone V x (Unique on) h = cc

pub asks_tested : (f : Form) → IsTrue (asks_each f) → IsTrue (asks_nodes (test_in f))
asks_tested (Every t) h = h
asks_tested (Nested u) h = refl
asks_tested (Closing on allowed) h = cc
asks_tested (Least n t) h = cc
asks_tested (Most n t) h = cc
asks_tested (Having o) h = cc
asks_tested (Same q) h = cc
asks_tested (Unique on) h = cc

-- the kind is none of those whose value nodes are looked at together, or against objects
pub record IsOfNodes (k : Kind) : Type 0 where
  pub not_value : (o : Term) → k ≡ kind.HasValue o → ⊥
  pub not_min : (n : ℕ) → k ≡ kind.MinCount n → ⊥
  pub not_max : (n : ℕ) → k ≡ kind.MaxCount n → ⊥
  pub not_equals : (q : List ℕ) → k ≡ kind.Equals q → ⊥
  pub not_disjoint : (q : List ℕ) → k ≡ kind.Disjoint q → ⊥
  pub not_unique : (on : Bool) → k ≡ kind.UniqueLang on → ⊥
  pub not_closed : (on : Bool) (allowed : List Term) → k ≡ kind.Closed on allowed → ⊥
  pub not_least : (n u : ℕ) (us : List ℕ) → k ≡ kind.QualifiedMinCount n u us → ⊥
  pub not_most : (n u : ℕ) (us : List ℕ) → k ≡ kind.QualifiedMaxCount n u us → ⊥

pub asks_of_nodes : (k : Kind) → IsOfNodes k → IsTrue (asks_each (form_of k))
asks_of_nodes (kind.Class c) h = refl
asks_of_nodes (kind.Datatype d) h = refl
asks_of_nodes (kind.NodeKind k) h = refl
asks_of_nodes (kind.MinExclusive b) h = refl
asks_of_nodes (kind.MinInclusive b) h = refl
asks_of_nodes (kind.MaxExclusive b) h = refl
asks_of_nodes (kind.MaxInclusive b) h = refl
asks_of_nodes (kind.MinLength n) h = refl
asks_of_nodes (kind.MaxLength n) h = refl
asks_of_nodes (kind.LanguageIn ts) h = refl
asks_of_nodes (kind.In ts) h = refl
asks_of_nodes (kind.Not u) h = refl
asks_of_nodes (kind.Node u) h = refl
asks_of_nodes (kind.And us) h = refl
asks_of_nodes (kind.Or us) h = refl
asks_of_nodes (kind.Xone us) h = refl
asks_of_nodes (kind.Property u) h = refl
asks_of_nodes (kind.Closed on al) h = absurd (h.not_closed on al refl)
asks_of_nodes (kind.Disjoint q) h = absurd (h.not_disjoint q refl)
asks_of_nodes (kind.Equals q) h = absurd (h.not_equals q refl)
asks_of_nodes (kind.HasValue o) h = absurd (h.not_value o refl)
asks_of_nodes (kind.UniqueLang on) h = absurd (h.not_unique on refl)
asks_of_nodes (kind.MinCount n) h = absurd (h.not_min n refl)
asks_of_nodes (kind.MaxCount n) h = absurd (h.not_max n refl)
asks_of_nodes (kind.QualifiedMinCount n u us) h = absurd (h.not_least n u us refl)
asks_of_nodes (kind.QualifiedMaxCount n u us) h = absurd (h.not_most n u us refl)

-- the kind is none of those with rows that aren't of value nodes that fail a test
pub record IsOfBadNodes (k : Kind) : Type 0 where
  pub not_one : has_one_row (form_of k) ≡ false
  pub not_property : (u : ℕ) → k ≡ kind.Property u → ⊥
  pub not_closed : (on : Bool) (allowed : List Term) → k ≡ kind.Closed on allowed → ⊥
  pub not_unique : (on : Bool) → k ≡ kind.UniqueLang on → ⊥
  pub not_equals : (q : List ℕ) → k ≡ kind.Equals q → ⊥
  pub not_disjoint : (q : List ℕ) → k ≡ kind.Disjoint q → ⊥

-- every value node is asked a test
abbrev pub AsksEvery : Form → Type 0
AsksEvery form = (t : Test) × (form ≡ Every t) × IsTrue (asks_nodes t)

pub asks_every : (k : Kind) → IsOfBadNodes k → AsksEvery (form_of k)
asks_every (kind.Class c) h = (_, refl, refl)
asks_every (kind.Datatype d) h = (_, refl, refl)
asks_every (kind.NodeKind k) h = (_, refl, refl)
asks_every (kind.MinExclusive b) h = (_, refl, refl)
asks_every (kind.MinInclusive b) h = (_, refl, refl)
asks_every (kind.MaxExclusive b) h = (_, refl, refl)
asks_every (kind.MaxInclusive b) h = (_, refl, refl)
asks_every (kind.MinLength n) h = (_, refl, refl)
asks_every (kind.MaxLength n) h = (_, refl, refl)
asks_every (kind.LanguageIn ts) h = (_, refl, refl)
asks_every (kind.In ts) h = (_, refl, refl)
asks_every (kind.Not u) h = (_, refl, refl)
asks_every (kind.Node u) h = (_, refl, refl)
asks_every (kind.And us) h = (_, refl, refl)
asks_every (kind.Or us) h = (_, refl, refl)
asks_every (kind.Xone us) h = (_, refl, refl)
asks_every (kind.Property u) h = absurd (h.not_property u refl)
asks_every (kind.Closed on al) h = absurd (h.not_closed on al refl)
asks_every (kind.Disjoint q) h = absurd (h.not_disjoint q refl)
asks_every (kind.Equals q) h = absurd (h.not_equals q refl)
asks_every (kind.HasValue o) h = let e = h.not_one in cc
asks_every (kind.UniqueLang on) h = absurd (h.not_unique on refl)
asks_every (kind.MinCount n) h = let e = h.not_one in cc
asks_every (kind.MaxCount n) h = let e = h.not_one in cc
asks_every (kind.QualifiedMinCount n u us) h = let e = h.not_one in cc
asks_every (kind.QualifiedMaxCount n u us) h = let e = h.not_one in cc
