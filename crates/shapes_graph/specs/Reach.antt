-- Which terms a path leads to (SHACL 2017, section 2.3.1), and value nodes (section 3.7).
use Rattle.std.specs.Prelude.{◌≡◌, ℕ, zero, suc, ◌<◌, ◌⊎◌, List, length, Option, Some, None, slice_get}
use Rattle.rdf_terms.specs.Graph.{Graph}
use Rattle.rdf_terms.specs.Members.{InGraph}
use Rattle.rdf_terms.specs.declared.term.Term.{Term}
use Rattle.rdf_terms.specs.declared.term.Term.TheVariants.{Iri}
use Rattle.digraph.specs.Walk.{IsWalk}
use Rattle.shapes_profile.specs.Logic.{SomeOf}
use Rattle.shapes_graph.specs.declared.paths.PathForm.{PathForm}
use Rattle.shapes_graph.specs.declared.paths.PathForm.TheVariants.{Predicate, Inverse, Sequence, Alternative}
use Rattle.shapes_graph.specs.declared.paths.PathForm.TheVariants.{ZeroOrMore, OneOrMore, ZeroOrOne}
use Rattle.shapes_graph.specs.PathForms.{paths, path_of}

-- what a form makes of the relations of the paths that it names
abbrev pub ReachBy : (ℕ → Term → Term → Type 0) → Option PathForm → Graph → Term → Term → Type 0
ReachBy R None g x y = ⊥
ReachBy R (Some (Predicate i)) g x y = InGraph g x (Iri i) y
ReachBy R (Some (Inverse q)) g x y = R q y x
ReachBy R (Some (Sequence a b)) g x y = (z : Term) × R a x z × R b z y
ReachBy R (Some (Alternative qs)) g x y = SomeOf (λ q. R q x y) qs
ReachBy R (Some (ZeroOrMore q)) g x y = (w : List Term) × IsWalk (R q) w x y
ReachBy R (Some (OneOrMore q)) g x y = (w : List Term) × (0 < length w) × IsWalk (R q) w x y
ReachBy R (Some (ZeroOrOne q)) g x y = (x ≡ y) ⊎ R q x y

-- path p leads from x to y, where p is nested less than d deep
unfoldable pub ReachIn : ℕ → List PathForm → Graph → ℕ → Term → Term → Type 0
ReachIn zero ps g p x y = ⊥
ReachIn (suc d) ps g p x y = ReachBy (λ q a b. ReachIn d ps g q a b) (slice_get ps p) g x y

-- in the profile no path is nested deeper than 32
abbrev pub path_levels : ℕ
path_levels = 33

-- path p of the shapes graph leads from x to y
unfoldable pub Reaches : Graph → ℕ → Graph → Term → Term → Type 0
Reaches s p g x y = ReachIn path_levels (paths s) g p x y

-- y is a value node of x: x itself without a path, else what the path leads to
abbrev pub IsValueBy : Graph → Option ℕ → Graph → Term → Term → Type 0
IsValueBy s None g x y = x ≡ y
IsValueBy s (Some p) g x y = Reaches s p g x y

-- y is a value node of the focus node x for shape n: x itself for a node shape, what the path leads to for a
-- property shape
abbrev pub IsValue : Graph → ℕ → Graph → Term → Term → Type 0
IsValue s n g x y = IsValueBy s (path_of s n) g x y
