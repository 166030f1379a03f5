-- Of which edited graphs the clause of a rule is true.
use Rattle.std.specs.Prelude.{◌≡◌, ℕ, List, ◌∷◌, Some, slice_get, Contains}
use Rattle.rdf_terms.specs.Graph.{Graph}
use Rattle.shapes_profile.specs.Logic.{EachOf}
use Rattle.shapes_graph.specs.Conformance.{Conforms}
use Rattle.repair_problem.specs.declared.atom.Atom.{Atom}
use Rattle.repair_problem.specs.declared.atom.Literal.{Literal}
use Rattle.repair_problem.specs.Setting.{Setting, IsEdit}
use Rattle.repair_problem.specs.Candidates.{edited_by}
use Rattle.repair_problem.specs.Changes.{ChangeBelow}
use Rattle.repair_problem.specs.Meaning.{Means}
use Rattle.repair_problem.specs.PartMeaning.{LiteralMeans}
use Rattle.proof_lines.specs.declared.rule.RuleName.{RuleName}
use Rattle.proof_lines.specs.declared.rule.RuleName.TheVariants.{Root, Outside, Undo}

-- not all of its literals are false; M: what atoms mean
abbrev pub IsTrueOf : (Atom → Type 0) → List Literal → Type 0
IsTrueOf M ls = ¬ (EachOf (λ l. ¬ (LiteralMeans M l)) ls)

-- a change that has no candidate which the other hasn't
abbrev pub IsWithin : List ℕ → List ℕ → Type 0
IsWithin less pair = (t : ℕ) → Contains less t → Contains pair t

-- the clause of root is true of each edited graph that conforms, of outside of each change within the pair, of undo of
-- each change below it, and of any other rule of each edited graph
abbrev pub IsPremise : Setting → List (List ℕ) → RuleName → List ℕ → List Literal → Type 0
IsPremise s chain Root numbers ls =
    (g : Graph) → IsEdit s g → Conforms s.shapes g → IsTrueOf (Means s g) ls
IsPremise s chain Outside (j ∷ numbers) ls =
    (pair less : List ℕ) → slice_get chain j ≡ Some pair → IsWithin less pair → IsTrueOf (Means s (edited_by s less)) ls
IsPremise s chain Undo (j ∷ numbers) ls =
    (pair less : List ℕ) → slice_get chain j ≡ Some pair → ChangeBelow less pair
    → IsTrueOf (Means s (edited_by s less)) ls
IsPremise s chain name numbers ls = (g : Graph) → IsEdit s g → IsTrueOf (Means s g) ls
