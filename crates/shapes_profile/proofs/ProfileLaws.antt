-- How the answers of the searches for the causes make a verdict.
use Rattle.std.proofs.Common.{◌≡◌, inl, inr, Bool, true, false, Ok, Err, subst}
use Rattle.std.specs.Bool.{MatchBool}
use Rattle.rdf_terms.specs.Graph.{Graph}
use Rattle.rdf_terms.specs.Nodes.{terms}
use Rattle.shapes_profile.specs.declared.refusals.ShapeRefusal.{ShapeRefusal}
use Rattle.shapes_profile.specs.Logic.{NoneOf}
use Rattle.shapes_profile.specs.Shapes.{shape_terms}
use Rattle.shapes_profile.specs.PathNodes.{path_nodes}
use Rattle.shapes_profile.specs.References.{IsRecursive}
use Rattle.shapes_profile.specs.IllFormed.{IsIllFormed}
use Rattle.shapes_profile.specs.Profile.{predicates, IsUnsupported, IsPathTooDeep, IsFault, IsInProfile, is_memory}
use Rattle.shapes_profile.specs.Causes.{IsAnswerOnPredicates, IsAnswerOnRules, IsAnswerOnRecursion, IsAnswerOnPaths, IsAnswerOnRanks, IsAnswerOnNesting}

meant_more : {P Q : Type 0} (b : Bool) → (P → Q) → MatchBool b (Unit {0}) P → MatchBool b (Unit {0}) Q
meant_more true f h = tt
meant_more false f h = f h

module _ (s : Graph) (f : ShapeRefusal) where
  abbrev Memory : Type 0 → Type 0
  Memory P = MatchBool (is_memory f) (Unit {0}) P

  abbrev IsNested : Type 0
  IsNested = IsAnswerOnNesting {T = Unit {0}} s (Err f)

  pub nested_1 : Memory (IsAnswerOnRecursion {T = Unit {0}} s (Err f)) → Memory IsNested
  nested_1 h = meant_more (is_memory f) (λ p. inl p) h

  pub nested_2 : NoneOf (IsRecursive s) (shape_terms s) → Memory (IsAnswerOnPaths {T = Unit {0}} s (Err f)) → Memory IsNested
  nested_2 a h = meant_more (is_memory f) (λ p. inr (a, inl p)) h

  pub nested_3 : NoneOf (IsRecursive s) (shape_terms s) → NoneOf (IsPathTooDeep s) (terms (path_nodes s)) → Memory (IsAnswerOnRanks {T = Unit {0}} s (Err f)) → Memory IsNested
  nested_3 a b h = meant_more (is_memory f) (λ p. inr (a, inr (b, inl p))) h

  pub fault_1 : Memory (IsAnswerOnPredicates {T = Unit {0}} s (Err f)) → Memory (IsFault s f)
  unfolding IsFault
  fault_1 h = meant_more (is_memory f) (λ p. inl p) h

  pub fault_2 : NoneOf IsUnsupported (predicates s) → Memory (IsAnswerOnRules {T = Unit {0}} s (Err f)) → Memory (IsFault s f)
  unfolding IsFault
  fault_2 a h = meant_more (is_memory f) (λ p. inr (a, inl p)) h

  pub fault_3 : NoneOf IsUnsupported (predicates s) → NoneOf (IsIllFormed s) (shape_terms s) → Memory IsNested → Memory (IsFault s f)
  unfolding IsFault
  fault_3 a b h = meant_more (is_memory f) (λ p. inr (a, inr (b, p))) h

-- the same over an equal graph
pub of_rules_at : (s t : Graph) (f : ShapeRefusal) → s ≡ t → Memory s f (IsAnswerOnRules {T = Unit {0}} s (Err f)) → Memory t f (IsAnswerOnRules {T = Unit {0}} t (Err f))
of_rules_at s t f e h = subst (λ (g : Graph). Memory g f (IsAnswerOnRules {T = Unit {0}} g (Err f))) e h

pub of_nesting_at : (s t : Graph) (f : ShapeRefusal) → s ≡ t → Memory s f (IsNested s f) → Memory t f (IsNested t f)
of_nesting_at s t f e h = subst (λ (g : Graph). Memory g f (IsNested g f)) e h

pub profiled : (s t : Graph) → s ≡ t → NoneOf IsUnsupported (predicates t) → NoneOf (IsIllFormed s) (shape_terms s) → IsAnswerOnNesting {T = Unit {0}} s (Ok tt) → IsInProfile t
profiled s t e a b h = at (subst (λ (g : Graph). NoneOf (IsIllFormed g) (shape_terms g)) e b) (subst (λ (g : Graph). IsAnswerOnNesting {T = Unit {0}} g (Ok tt)) e h)
  where
    at : NoneOf (IsIllFormed t) (shape_terms t) → IsAnswerOnNesting {T = Unit {0}} t (Ok tt) → IsInProfile t
    at b h = record { supported = a; well_formed = b; not_recursive = h.0; paths_fit = h.1; shapes_fit = h.2 }
