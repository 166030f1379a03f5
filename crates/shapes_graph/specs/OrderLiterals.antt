-- Literals that a range constraint compares and that this project can't compare: a document with one is refused
-- (SHACL 2017, section 4.3, compares them as SPARQL does).
use Rattle.std.specs.Prelude.{◌≡◌, ◌≢◌, ◌⊎◌, ℕ, Bool, true, false, ◌&&◌, ◌||◌, IsTrue, List, [], ◌∷◌, slice_get}
use Rattle.std.specs.Prelude.{Option, Some, option_and_then, is_some, is_none}
use Rattle.std.specs.List.{list_any}
use Rattle.std.specs.Str.{bytes_eq}
use Rattle.std.specs.declared.cmp.Ordering.TheVariants.{Greater}
use Rattle.rdf_terms.specs.Term.{term_cmp}
use Rattle.rdf_terms.specs.Graph.{Graph}
use Rattle.rdf_terms.specs.Nodes.{IsNodeOf}
use Rattle.rdf_terms.specs.Members.{InGraph}
use Rattle.rdf_terms.specs.declared.term.Term.{Term}
use Rattle.rdf_terms.specs.declared.term.Term.TheVariants.{Iri, Blank, Literal}
use Rattle.rdf_terms.specs.Vocab.Sh as sh
use Rattle.rdf_terms.specs.Vocab.Xsd as xsd
use Rattle.datatypes.specs.Literals.{integer_value, small_integer}
use Rattle.shapes_graph.specs.declared.constraints.Kind.{Kind}
use Rattle.shapes_graph.specs.declared.constraints.Kind.TheVariants.{MinExclusive, MinInclusive, MaxExclusive}
use Rattle.shapes_graph.specs.declared.constraints.Kind.TheVariants.{MaxInclusive}
use Rattle.shapes_graph.specs.declared.constraints.Constraint.{Constraint}
use Rattle.shapes_graph.specs.Constraints.{constraint_at}
use Rattle.shapes_graph.specs.declared.paths.PathForm.{PathForm}
use Rattle.shapes_graph.specs.declared.paths.PathForm.TheVariants.{Predicate}
use Rattle.shapes_graph.specs.PathForms.{paths, path_of}

abbrev pub is_range : Kind → Bool
is_range (MinExclusive b) = true
is_range (MinInclusive b) = true
is_range (MaxExclusive b) = true
is_range (MaxInclusive b) = true
is_range _ = false

-- shape n has a range constraint; whether it is deactivated is no matter
pub record HasRange (s : Graph) (n : ℕ) : Type 0 where
  pub place : ℕ
  pub constraint : Constraint
  pub there : constraint_at s place ≡ Some constraint
  pub own : constraint.shape ≡ n
  pub range : IsTrue (is_range constraint.kind)

abbrev pub path_form_of : Graph → ℕ → Option PathForm
path_form_of s n = option_and_then (slice_get (paths s)) (path_of s n)

-- a range constraint on a node shape, or on a property shape whose path is no predicate
abbrev pub ComparesAll : Graph → Type 0
ComparesAll s = (n : ℕ) × HasRange s n × ((q : List ℕ) → path_form_of s n ≢ Some (Predicate q))

-- a range constraint on a property shape whose path is this predicate
abbrev pub ComparesValuesOf : Graph → List ℕ → Type 0
ComparesValuesOf s q = (n : ℕ) × HasRange s n × (path_form_of s n ≡ Some (Predicate q))

abbrev pub IsTargetNode : Graph → Term → Type 0
IsTargetNode s y = (shape : Term) × InGraph s shape sh.target_node y

-- in the data graph g with what is offered in o
abbrev pub IsCompared : Graph → Graph → Graph → Term → Type 0
IsCompared s g o y =
    (ComparesAll s × (IsNodeOf g y ⊎ IsNodeOf o y ⊎ IsTargetNode s y))
    ⊎ ((q : List ℕ) × (x : Term) × ComparesValuesOf s q × (InGraph g x (Iri q) y ⊎ InGraph o x (Iri q) y))

-- a literal of xsd:decimal, xsd:float or xsd:double, or a well-formed integer literal outside 128 bits
abbrev pub is_out_of_reach : Term → Bool
is_out_of_reach (Iri i) = false
is_out_of_reach (Blank c l) = false
is_out_of_reach (Literal l d t) =
    list_any (bytes_eq d) (xsd.decimal ∷ xsd.float ∷ xsd.double ∷ [])
    || (is_some (integer_value (Literal l d t)) && is_none (small_integer (Literal l d t)))

-- the first such literal in the order of terms
pub record IsOrderLiteral (s g o : Graph) (y : Term) : Type 0 where
  pub compared : IsCompared s g o y
  pub out_of_reach : IsTrue (is_out_of_reach y)
  pub first : (z : Term) → IsCompared s g o z → IsTrue (is_out_of_reach z) → term_cmp y z ≢ Greater
