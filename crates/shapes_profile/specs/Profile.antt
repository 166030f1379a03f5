-- The profile of shapes graphs, and the first cause for which a shapes graph isn't in it.
use Rattle.std.specs.Prelude.{◌≡◌, ◌⊎◌, ◌<◌, ℕ, Bool, true, false, IsTrue, List, [], ◌∷◌, map, Option, Some}
use Rattle.std.specs.Prelude.{Result, Ok, Err}
use Rattle.rdf_terms.specs.Graph.{Graph, triples}
use Rattle.rdf_terms.specs.Nodes.{terms}
use Rattle.rdf_terms.specs.declared.term.Term.{Term}
use Rattle.rdf_terms.specs.Vocab.Sh as sh
use Rattle.rdf_navigation.specs.Values.{among}
use Rattle.shapes_profile.specs.Logic.{IsFirst, NoneOf}
use Rattle.shapes_profile.specs.declared.refusals.ShapeRefusal.{ShapeRefusal}
use Rattle.shapes_profile.specs.declared.refusals.ShapeRefusal.TheVariants.{Unsupported, IllFormed, Recursive}
use Rattle.shapes_profile.specs.declared.refusals.ShapeRefusal.TheVariants.{PathTooDeep, ShapeTooDeep, OutOfMemory}
use Rattle.shapes_profile.specs.Shapes.{shape_terms}
use Rattle.property_paths.specs.Paths.{path_depth}
use Rattle.shapes_profile.specs.PathNodes.{path_nodes}
use Rattle.shapes_profile.specs.References.{IsRecursive, rank}
use Rattle.shapes_profile.specs.IllFormed.{IsIllFormed, IsSmallestRule}

-- predicates of SHACL that this project leaves out
unfoldable pub unsupported : List Term
unsupported =
    sh.pattern ∷ sh.flags ∷ sh.less_than ∷ sh.less_than_or_equals ∷ sh.sparql ∷ sh.select ∷ sh.ask ∷ sh.parameter
    ∷ sh.validator ∷ sh.node_validator ∷ sh.property_validator ∷ sh.rule ∷ sh.target ∷ sh.js ∷ sh.entailment
    ∷ sh.expression ∷ sh.values ∷ []

abbrev pub predicates : Graph → List Term
predicates s = map (λ t. t.predicate) (triples s)

abbrev pub IsUnsupported : Term → Type 0
IsUnsupported p = IsTrue (among unsupported p)

-- no depth up to the bound
abbrev pub IsOver : ℕ → Option ℕ → Type 0
IsOver n d = (q : ℕ) → d ≡ Some q → n < q

abbrev pub IsPathTooDeep : Graph → Term → Type 0
IsPathTooDeep s x = IsOver 32 (path_depth s x)

abbrev pub IsShapeTooDeep : Graph → Term → Type 0
IsShapeTooDeep s x = IsOver 128 (rank s x)

-- this cause at the first of its list, or it stands nowhere and what follows answers
abbrev pub IsCauseOr : (Term → Type 0) → List Term → (Term → ShapeRefusal → Type 0) → (ShapeRefusal → Type 0)
    → ShapeRefusal → Type 0
IsCauseOr P xs A B f = ((x : Term) × IsFirst P xs x × A x f) ⊎ (NoneOf P xs × B f)

-- the first cause in this order, at the first place in the order of triples or terms
unfoldable pub IsFault : Graph → ShapeRefusal → Type 0
IsFault s =
    IsCauseOr IsUnsupported (predicates s) (λ p f. f ≡ Unsupported p)
    (IsCauseOr (IsIllFormed s) (shape_terms s) (λ x f. (k : ℕ) × IsSmallestRule s x k × (f ≡ IllFormed x k))
    (IsCauseOr (IsRecursive s) (shape_terms s) (λ x f. f ≡ Recursive x)
    (IsCauseOr (IsPathTooDeep s) (terms (path_nodes s)) (λ x f. f ≡ PathTooDeep x)
    (IsCauseOr (IsShapeTooDeep s) (shape_terms s) (λ x f. f ≡ ShapeTooDeep x)
    (λ f. ⊥)))))

-- none of the causes holds
pub record IsInProfile (s : Graph) : Type 0 where
  pub supported : NoneOf IsUnsupported (predicates s)
  pub well_formed : NoneOf (IsIllFormed s) (shape_terms s)
  pub not_recursive : NoneOf (IsRecursive s) (shape_terms s)
  pub paths_fit : NoneOf (IsPathTooDeep s) (terms (path_nodes s))
  pub shapes_fit : NoneOf (IsShapeTooDeep s) (shape_terms s)

abbrev pub is_memory : ShapeRefusal → Bool
is_memory OutOfMemory = true
is_memory _ = false

-- what the check of a shapes graph answers: that it is in the profile, or the first cause why it isn't
abbrev pub IsVerdict : {T : Type 0} → Graph → Result T ShapeRefusal → Type 0
IsVerdict s (Ok _) = IsInProfile s
IsVerdict s (Err f) = IsFault s f
