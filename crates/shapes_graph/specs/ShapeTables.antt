-- What the tables of a shapes graph hold. Private functions and the view of a type alone cite it.
use Rattle.std.specs.Prelude.{◌≡◌, ℕ, false, map, length, slice_get, unwrap_or, option_and_then}
use Rattle.rdf_terms.specs.Graph.{Graph, triples}
use Rattle.rdf_terms.specs.Vocab.Sh as sh
use Rattle.shapes_profile.specs.Shapes.{shape_terms}
use Rattle.shapes_graph.specs.declared.tables.Tables.{Tables}
use Rattle.shapes_graph.specs.Constraints.{constraint_at, constraints_of, is_deactivated, severity_of}
use Rattle.shapes_graph.specs.PathForms.{paths, path_of}
use Rattle.shapes_graph.specs.Targets.{targets}

-- as many entries as there are shapes, but for constraints and paths
pub record AreSized (s : Graph) (t : Tables) : Type 0 where
  pub constraints : length t.constraints ≡ length (triples s)
  pub places : length t.places ≡ length (shape_terms s)
  pub path_numbers : length t.path_numbers ≡ length (shape_terms s)
  pub targets : length t.targets ≡ length (shape_terms s)
  pub deactivated : length t.deactivated ≡ length (shape_terms s)
  pub severities : length t.severities ≡ length (shape_terms s)

-- of each triple, shape and path what the graph states
pub record AreTables (s : Graph) (t : Tables) : Type 0 where
  pub size : AreSized s t
  pub shapes : t.shapes ≡ shape_terms s
  pub constraint : (i : ℕ) → constraint_at s i ≡ option_and_then (λ c. c) (slice_get t.constraints i)
  pub place : (n : ℕ) → constraints_of s n ≡ slice_get t.places n
  pub paths : t.paths ≡ paths s
  pub path : (n : ℕ) → path_of s n ≡ option_and_then (λ p. p) (slice_get t.path_numbers n)
  pub targets : t.targets ≡ map (targets s) (shape_terms s)
  pub deactivated : (n : ℕ) → is_deactivated s n ≡ unwrap_or (slice_get t.deactivated n) false
  pub severity : (n : ℕ) → severity_of s n ≡ unwrap_or (slice_get t.severities n) sh.violation
