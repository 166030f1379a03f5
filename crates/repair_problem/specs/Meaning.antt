-- What an atom means in an edited graph. Numbers are of candidates (t), paths (p), nodes (x, y, z), triples of the
-- shapes graph (i) and shapes (s); where a number is of none, the atom is false.
use Rattle.std.specs.Prelude.{◌≡◌, ℕ, IsTrue, Some, slice_get}
use Rattle.rdf_terms.specs.declared.term.Term.{Term}
use Rattle.rdf_terms.specs.Statement.{Statement}
use Rattle.rdf_terms.specs.Graph.{Graph, has}
use Rattle.shapes_graph.specs.PathForms.{paths}
use Rattle.shapes_graph.specs.Reach.{Reaches, IsValue}
use Rattle.shapes_graph.specs.Targets.{IsFocus}
use Rattle.shapes_graph.specs.declared.constraints.Constraint.{Constraint}
use Rattle.shapes_graph.specs.Constraints.{constraint_at}
use Rattle.shapes_graph.specs.Forms.{form_of}
use Rattle.shapes_graph.specs.Conformance.{OfConstraint, ConformsTo, Holds}
use Rattle.repair_problem.specs.declared.atom.Atom.{Atom}
use Rattle.repair_problem.specs.declared.atom.Atom.TheVariants as atom
use Rattle.repair_problem.specs.Setting.{Setting, OfNode, full}
use Rattle.repair_problem.specs.Candidates.{candidates}
use Rattle.repair_problem.specs.Levels.{LevelBy, MiddleBy}
use Rattle.repair_problem.specs.ConstraintFacts.{PassesBy, MarkedBy, DiffersBy, CountsBy}

module _ (s : Setting) (g : Graph) where
  -- path q leads from a to b
  abbrev pub Leads : ℕ → Term → Term → Type 0
  Leads q a b = Reaches s.shapes q g a b

  -- b conforms to the shape
  abbrev pub Conforming : ℕ → Term → Type 0
  Conforming n b = ConformsTo s.shapes g n b

  -- b is a value node of a for the constraint
  abbrev pub IsValueOf : Constraint → Term → Term → Type 0
  IsValueOf c a b = IsValue s.shapes c.shape g a b

  -- triple i states a constraint with P
  abbrev pub OfTriple : ℕ → (Constraint → Type 0) → Type 0
  OfTriple i P = OfConstraint (constraint_at s.shapes i) P

  abbrev pub Means : Atom → Type 0
  Means (atom.Triple t) = (c : Statement) × (slice_get (candidates s) t ≡ Some c) × IsTrue (has g c)
  Means (atom.Reach p x y) = OfNode s x (λ a. OfNode s y (λ b. Leads p a b))
  Means (atom.Level p k x y) =
      OfNode s x (λ a. OfNode s y (λ b. LevelBy Leads (slice_get (paths s.shapes) p) k a b))
  Means (atom.Middle p k x z y) =
      OfNode s x (λ a. OfNode s z (λ c. OfNode s y (λ b. MiddleBy Leads (slice_get (paths s.shapes) p) k a c b)))
  Means (atom.Good i y) = OfTriple i (λ c. OfNode s y (λ b. PassesBy g Conforming (form_of c.kind) b))
  Means (atom.Marked i x y) =
      OfTriple i (λ c. OfNode s x (λ a. OfNode s y (λ b. MarkedBy g Conforming (IsValueOf c a) a (form_of c.kind) b)))
  Means (atom.Count i x j m) =
      OfTriple i (λ c. OfNode s x (λ a.
      CountsBy g Conforming (IsValueOf c a) a (IsValue s.shapes c.shape (full s) a) (form_of c.kind) j m))
  Means (atom.Differ i x y) =
      OfTriple i (λ c. OfNode s x (λ a. OfNode s y (λ b. DiffersBy g Conforming (IsValueOf c a) a (form_of c.kind) b)))
  Means (atom.Twin i x y z) =
      OfTriple i (λ c. OfNode s x (λ a. OfNode s y (λ b. IsValueOf c a b) × OfNode s z (λ b. IsValueOf c a b)))
  Means (atom.Holds i x) = OfNode s x (λ a. Holds s.shapes i g a)
  Means (atom.Conforms n x) = OfNode s x (λ a. Conforming n a)
  Means (atom.Target n x) = OfNode s x (λ a. IsFocus s.shapes n g a)
