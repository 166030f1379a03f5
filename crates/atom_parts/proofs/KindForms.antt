-- The kinds of constraints that are left when some are taken apart, by what is asked of them.
use Rattle.std.proofs.Common.{◌≡◌, ℕ, Bool, true, List, [], ◌∷◌, Some, refl}
use Rattle.rdf_terms.specs.declared.term.Term.{Term}
use Rattle.shapes_graph.specs.declared.constraints.Kind.{Kind}
use Rattle.shapes_graph.specs.declared.constraints.Kind.TheVariants as kind
use Rattle.shapes_graph.specs.Forms.{form_of}
use Rattle.repair_problem.specs.declared.atom.Part.TheVariants.{Fixed}
use Rattle.repair_problem.specs.Setting.{Setting, node}
use Rattle.value_tests.specs.GoodNodes.{is_test, passes}
use Rattle.count_encode.specs.PartTruth.{negation}
use Rattle.atom_parts.specs.ValueParts.{value_part}
use Rattle.atom_parts.specs.PartsTable.{good_part, marked_parts}

-- the kind neither counts, nor asks for a value, for objects or for tags
pub record IsOfMarked (k : Kind) : Type 0 where
  pub not_value : (o : Term) → k ≡ kind.HasValue o → ⊥
  pub not_equals : (q : List ℕ) → k ≡ kind.Equals q → ⊥
  pub not_unique : (on : Bool) → k ≡ kind.UniqueLang on → ⊥
  pub not_min : (n : ℕ) → k ≡ kind.MinCount n → ⊥
  pub not_max : (n : ℕ) → k ≡ kind.MaxCount n → ⊥
  pub not_least : (n u : ℕ) (us : List ℕ) → k ≡ kind.QualifiedMinCount n u us → ⊥
  pub not_most : (n u : ℕ) (us : List ℕ) → k ≡ kind.QualifiedMaxCount n u us → ⊥

-- what marks a value node for such a kind, but disjoint, is that it isn't good
pub marked_bad : (s : Setting) (i n x y : ℕ) (k : Kind) → IsOfMarked k → ((q : List ℕ) → k ≡ kind.Disjoint q → ⊥) → marked_parts s i n x y (form_of k) ≡ Some (record { every = true; list = value_part s n x y ∷ negation (good_part s i y (form_of k)) ∷ [] })
marked_bad s i n x y (kind.Class c) h d = refl
marked_bad s i n x y (kind.Datatype v) h d = refl
marked_bad s i n x y (kind.NodeKind v) h d = refl
marked_bad s i n x y (kind.MinExclusive b) h d = refl
marked_bad s i n x y (kind.MinInclusive b) h d = refl
marked_bad s i n x y (kind.MaxExclusive b) h d = refl
marked_bad s i n x y (kind.MaxInclusive b) h d = refl
marked_bad s i n x y (kind.MinLength m) h d = refl
marked_bad s i n x y (kind.MaxLength m) h d = refl
marked_bad s i n x y (kind.LanguageIn ts) h d = refl
marked_bad s i n x y (kind.In ts) h d = refl
marked_bad s i n x y (kind.Not u) h d = refl
marked_bad s i n x y (kind.Node u) h d = refl
marked_bad s i n x y (kind.And us) h d = refl
marked_bad s i n x y (kind.Or us) h d = refl
marked_bad s i n x y (kind.Xone us) h d = refl
marked_bad s i n x y (kind.Property u) h d = refl
marked_bad s i n x y (kind.Closed on al) h d = refl
marked_bad s i n x y (kind.Disjoint q) h d = absurd (d q refl)
marked_bad s i n x y (kind.Equals q) h d = absurd (h.not_equals q refl)
marked_bad s i n x y (kind.HasValue o) h d = absurd (h.not_value o refl)
marked_bad s i n x y (kind.UniqueLang on) h d = absurd (h.not_unique on refl)
marked_bad s i n x y (kind.MinCount m) h d = absurd (h.not_min m refl)
marked_bad s i n x y (kind.MaxCount m) h d = absurd (h.not_max m refl)
marked_bad s i n x y (kind.QualifiedMinCount m u us) h d = absurd (h.not_least m u us refl)
marked_bad s i n x y (kind.QualifiedMaxCount m u us) h d = absurd (h.not_most m u us refl)

-- the kind asks for no class, no shape and nothing closed
pub record IsShapeless (k : Kind) : Type 0 where
  pub not_class : (c : Term) → k ≡ kind.Class c → ⊥
  pub not_not : (u : ℕ) → k ≡ kind.Not u → ⊥
  pub not_node : (u : ℕ) → k ≡ kind.Node u → ⊥
  pub not_property : (u : ℕ) → k ≡ kind.Property u → ⊥
  pub not_and : (us : List ℕ) → k ≡ kind.And us → ⊥
  pub not_or : (us : List ℕ) → k ≡ kind.Or us → ⊥
  pub not_xone : (us : List ℕ) → k ≡ kind.Xone us → ⊥
  pub not_least : (n u : ℕ) (us : List ℕ) → k ≡ kind.QualifiedMinCount n u us → ⊥
  pub not_most : (n u : ℕ) (us : List ℕ) → k ≡ kind.QualifiedMaxCount n u us → ⊥
  pub not_closed : (al : List Term) → k ≡ kind.Closed true al → ⊥

-- the kind tests terms by themselves
pub record IsOfTerms (k : Kind) : Type 0 where
  pub shapeless : IsShapeless k
  pub not_closed : (on : Bool) (al : List Term) → k ≡ kind.Closed on al → ⊥
  pub not_disjoint : (q : List ℕ) → k ≡ kind.Disjoint q → ⊥
  pub not_equals : (q : List ℕ) → k ≡ kind.Equals q → ⊥
  pub not_value : (o : Term) → k ≡ kind.HasValue o → ⊥
  pub not_unique : (on : Bool) → k ≡ kind.UniqueLang on → ⊥
  pub not_min : (n : ℕ) → k ≡ kind.MinCount n → ⊥
  pub not_max : (n : ℕ) → k ≡ kind.MaxCount n → ⊥

-- then to pass it is that test of the node
pub terms_good : (k : Kind) → IsOfTerms k → (is_test (form_of k) ≡ true) × ((s : Setting) (i y : ℕ) → good_part s i y (form_of k) ≡ Fixed (passes (form_of k) (node s y)))
terms_good (kind.Class c) h = absurd (h.shapeless.not_class c refl)
terms_good (kind.Datatype d) h = (refl, λ s i y. refl)
terms_good (kind.NodeKind v) h = (refl, λ s i y. refl)
terms_good (kind.MinExclusive b) h = (refl, λ s i y. refl)
terms_good (kind.MinInclusive b) h = (refl, λ s i y. refl)
terms_good (kind.MaxExclusive b) h = (refl, λ s i y. refl)
terms_good (kind.MaxInclusive b) h = (refl, λ s i y. refl)
terms_good (kind.MinLength m) h = (refl, λ s i y. refl)
terms_good (kind.MaxLength m) h = (refl, λ s i y. refl)
terms_good (kind.LanguageIn ts) h = (refl, λ s i y. refl)
terms_good (kind.In ts) h = (refl, λ s i y. refl)
terms_good (kind.Not u) h = absurd (h.shapeless.not_not u refl)
terms_good (kind.Node u) h = absurd (h.shapeless.not_node u refl)
terms_good (kind.And us) h = absurd (h.shapeless.not_and us refl)
terms_good (kind.Or us) h = absurd (h.shapeless.not_or us refl)
terms_good (kind.Xone us) h = absurd (h.shapeless.not_xone us refl)
terms_good (kind.Property u) h = absurd (h.shapeless.not_property u refl)
terms_good (kind.Closed on al) h = absurd (h.not_closed on al refl)
terms_good (kind.Disjoint q) h = absurd (h.not_disjoint q refl)
terms_good (kind.Equals q) h = absurd (h.not_equals q refl)
terms_good (kind.HasValue o) h = absurd (h.not_value o refl)
terms_good (kind.UniqueLang on) h = absurd (h.not_unique on refl)
terms_good (kind.MinCount m) h = absurd (h.not_min m refl)
terms_good (kind.MaxCount m) h = absurd (h.not_max m refl)
terms_good (kind.QualifiedMinCount m u us) h = absurd (h.shapeless.not_least m u us refl)
terms_good (kind.QualifiedMaxCount m u us) h = absurd (h.shapeless.not_most m u us refl)
