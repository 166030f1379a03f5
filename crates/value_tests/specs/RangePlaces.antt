-- Where a shapes graph states range constraints, and the literals that they compare in a triple. Private functions
-- cite it.
use Rattle.std.specs.Prelude.{◌≡◌, ◌⊎◌, ℕ, Bool, false, IsTrue, List, Contains, slice_get}
use Rattle.std.specs.Prelude.{Option, Some, None, is_none, option_and_then, if◌then◌else◌}
use Rattle.std.specs.Option.{option_map_or}
use Rattle.rdf_terms.specs.Statement.{Statement}
use Rattle.rdf_terms.specs.Graph.{Graph, triples}
use Rattle.rdf_terms.specs.declared.term.Term.{Term}
use Rattle.rdf_terms.specs.declared.term.Term.TheVariants.{Iri}
use Rattle.rdf_terms.specs.Vocab.Sh as sh
use Rattle.rdf_navigation.specs.Values.{same_term}
use Rattle.shapes_graph.specs.Constraints.{constraint_at}
use Rattle.shapes_graph.specs.OrderLiterals.{is_range, path_form_of, ComparesAll, ComparesValuesOf, is_out_of_reach}
use Rattle.shapes_graph.specs.declared.paths.PathForm.{PathForm}
use Rattle.shapes_graph.specs.declared.paths.PathForm.TheVariants.{Predicate}

-- the shape of the range constraint that triple i states, if it states one
abbrev pub range_shape : Graph → ℕ → Option ℕ
range_shape s i = option_and_then (λ c. if is_range c.kind then Some c.shape else None) (constraint_at s i)

-- the predicate that a path is, if it is one
abbrev pub predicate_of : Option PathForm → Option (List ℕ)
predicate_of (Some (Predicate q)) = Some q
predicate_of _ = None

-- triple i states a range constraint on a node shape, or on a property shape whose path is no predicate
abbrev pub compares_all_at : Graph → ℕ → Bool
compares_all_at s i = option_map_or (λ n. is_none (predicate_of (path_form_of s n))) (range_shape s i) false

-- the path of shape n is this predicate
abbrev pub has_path : Graph → Term → ℕ → Bool
has_path s p n = option_map_or (λ q. same_term p (Iri q)) (predicate_of (path_form_of s n)) false

-- triple i states a range constraint on a property shape whose path is this predicate
abbrev pub compares_values_at : Graph → Term → ℕ → Bool
compares_values_at s p i = option_map_or (has_path s p) (range_shape s i) false

-- no triple with this subject states such a constraint
abbrev pub HasNone : Graph → Term → Term → Type 0
HasNone s p x =
    (i : ℕ) (t : Statement) → slice_get (triples s) i ≡ Some t → t.subject ≡ x → compares_values_at s p i ≡ false

-- none with the subject of the triple at the place does
abbrev pub HasNoneAt : Graph → Term → ℕ → Type 0
HasNoneAt s p place = (t : Statement) → slice_get (triples s) place ≡ Some t → HasNone s p t.subject

-- a property shape whose path is this predicate has a range constraint
abbrev pub ComparesValuesOfTerm : Graph → Term → Type 0
ComparesValuesOfTerm s p = (q : List ℕ) × (p ≡ Iri q) × ComparesValuesOf s q

-- a term of the triple that is compared and out of reach
abbrev pub IsOrderTerm : Graph → Statement → Term → Type 0
IsOrderTerm s t y =
    IsTrue (is_out_of_reach y)
    × ((ComparesAll s × ((y ≡ t.subject) ⊎ (y ≡ t.object))) ⊎ (ComparesValuesOfTerm s t.predicate × (y ≡ t.object)))

-- of one of the triples
abbrev pub IsOrderTermIn : Graph → List Statement → Term → Type 0
IsOrderTermIn s ts y = (t : Statement) × Contains ts t × IsOrderTerm s t y

-- a value of sh:targetNode in one of the triples that is out of reach
abbrev pub IsOrderTarget : Statement → Term → Type 0
IsOrderTarget t y = IsTrue (is_out_of_reach y) × (t.predicate ≡ sh.target_node) × (y ≡ t.object)

abbrev pub IsOrderTargetIn : List Statement → Term → Type 0
IsOrderTargetIn ts y = (t : Statement) × Contains ts t × IsOrderTarget t y
