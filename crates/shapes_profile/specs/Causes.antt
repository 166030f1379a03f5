-- What the search for each cause answers. Private functions alone cite it.
use Rattle.std.specs.Prelude.{◌≡◌, ℕ, List, Result, Ok, Err}
use Rattle.rdf_terms.specs.Graph.{Graph}
use Rattle.rdf_terms.specs.Nodes.{terms}
use Rattle.rdf_terms.specs.declared.term.Term.{Term}
use Rattle.shapes_profile.specs.Logic.{IsFirst, NoneOf}
use Rattle.shapes_profile.specs.declared.refusals.ShapeRefusal.{ShapeRefusal}
use Rattle.shapes_profile.specs.declared.refusals.ShapeRefusal.TheVariants.{Unsupported, IllFormed, Recursive}
use Rattle.shapes_profile.specs.declared.refusals.ShapeRefusal.TheVariants.{PathTooDeep, ShapeTooDeep}
use Rattle.shapes_profile.specs.Shapes.{shape_terms}
use Rattle.shapes_profile.specs.PathNodes.{path_nodes}
use Rattle.shapes_profile.specs.References.{IsRecursive}
use Rattle.shapes_profile.specs.IllFormed.{IsIllFormed, IsSmallestRule}
use Rattle.shapes_profile.specs.Profile.{predicates, IsUnsupported, IsPathTooDeep, IsShapeTooDeep, IsCauseOr}

-- nothing of the list has P, or the first that has it is named
abbrev pub IsSearched : {T : Type 0} → (Term → Type 0) → List Term → (Term → ShapeRefusal → Type 0)
    → Result T ShapeRefusal → Type 0
IsSearched P xs A (Ok _) = NoneOf P xs
IsSearched P xs A (Err f) = (x : Term) × IsFirst P xs x × A x f

abbrev pub IsAnswerOnPredicates : {T : Type 0} → Graph → Result T ShapeRefusal → Type 0
IsAnswerOnPredicates s r = IsSearched IsUnsupported (predicates s) (λ p f. f ≡ Unsupported p) r

abbrev pub IsAnswerOnRules : {T : Type 0} → Graph → Result T ShapeRefusal → Type 0
IsAnswerOnRules s r =
    IsSearched (IsIllFormed s) (shape_terms s) (λ x f. (k : ℕ) × IsSmallestRule s x k × (f ≡ IllFormed x k)) r

abbrev pub IsAnswerOnRecursion : {T : Type 0} → Graph → Result T ShapeRefusal → Type 0
IsAnswerOnRecursion s r = IsSearched (IsRecursive s) (shape_terms s) (λ x f. f ≡ Recursive x) r

abbrev pub IsAnswerOnPaths : {T : Type 0} → Graph → Result T ShapeRefusal → Type 0
IsAnswerOnPaths s r = IsSearched (IsPathTooDeep s) (terms (path_nodes s)) (λ x f. f ≡ PathTooDeep x) r

abbrev pub IsAnswerOnRanks : {T : Type 0} → Graph → Result T ShapeRefusal → Type 0
IsAnswerOnRanks s r = IsSearched (IsShapeTooDeep s) (shape_terms s) (λ x f. f ≡ ShapeTooDeep x) r

-- of the last three causes none holds, or the first of them is named
abbrev pub IsAnswerOnNesting : {T : Type 0} → Graph → Result T ShapeRefusal → Type 0
IsAnswerOnNesting s (Ok _) =
    NoneOf (IsRecursive s) (shape_terms s) × NoneOf (IsPathTooDeep s) (terms (path_nodes s))
    × NoneOf (IsShapeTooDeep s) (shape_terms s)
IsAnswerOnNesting s (Err f) =
    IsCauseOr (IsRecursive s) (shape_terms s) (λ x f. f ≡ Recursive x)
    (IsCauseOr (IsPathTooDeep s) (terms (path_nodes s)) (λ x f. f ≡ PathTooDeep x)
    (IsCauseOr (IsShapeTooDeep s) (shape_terms s) (λ x f. f ≡ ShapeTooDeep x)
    (λ f. ⊥))) f
