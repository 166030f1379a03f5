-- What a shape refers to is a shape.
use Rattle.std.proofs.Common.{◌≡◌, ◌⊎◌, inl, inr, true, cond, [], ◌∷◌, ◌++◌, Contains, Some, sym, subst}
use Rattle.std.specs.Prelude.{flat_map, not, ◌||◌}
use Rattle.std.proofs.lemmas.List.Elements.{Contains-append_cases, Contains-append_right}
use Rattle.rdf_terms.specs.declared.term.Term.{Term}
use Rattle.rdf_terms.specs.Statement.{Statement}
use Rattle.rdf_terms.specs.Graph.{Graph, triples}
use Rattle.rdf_terms.specs.Nodes.{terms, nodes_of_list, has_term}
use Rattle.rdf_terms.specs.Members.{InGraph}
use Rattle.rdf_terms.specs.Vocab.Sh as sh
use Rattle.rdf_terms.proofs.GraphLaws.{listed_of_has}
use Rattle.rdf_terms.proofs.Members.{in_first, in_flat_map, flat_map_in}
use Rattle.rdf_terms.proofs.NodesLaws.{nodes_of_list_is, terms_is}
use Rattle.rdf_terms.proofs.Values.{IsListOf-objects}
use Rattle.rdf_navigation.specs.Values.{among, values, subjects}
use Rattle.shapes_profile.specs.declared.properties.Row.{Row}
use Rattle.shapes_profile.specs.Properties.{table, iri_of, is_target, is_parameter}
use Rattle.shapes_profile.specs.Shapes.{declared_subjects, shapes_in, shapes_by, shapes_of, shape_nodes}
use Rattle.shapes_profile.specs.References.{qualified_shapes, qualified_shapes_under, siblings, references_of_row, references}
use Rattle.shapes_profile.proofs.TableLaws.{row_is, qualified_shape_row, qualified_shape_there}
use Rattle.shapes_profile.proofs.SiblingLaws.{sibling_is}
use Rattle.property_paths.proofs.PathLaws.{filtered_in}

-- what a value refers to is a shape
pub shape_of_value : (s : Graph) (r : Row) (x y t : Term) → Contains table r → InGraph s x (iri_of r.property) y → Contains (shapes_in s r.value y) t → has_term (shape_nodes s) t ≡ true
unfolding shape_nodes
shape_of_value s r x y t there value part =
    let u : Statement = record { subject = x; predicate = iri_of r.property; object = y } in
    let by_row : Contains (shapes_by s u (Some r)) t = Contains-append_right (cond (is_target r.property || is_parameter r.property) (x ∷ []) []) (shapes_in s r.value y) t part in
    let by_triple : Contains (shapes_of s u) t = subst (λ o. Contains (shapes_by s u o) t) (sym (row_is r there)) by_row in
    let listed = in_flat_map (shapes_of s) (triples s) u t (listed_of_has s u value) by_triple in
    (nodes_of_list_is (declared_subjects s ++ flat_map (shapes_of s) (triples s)) t).1 (Contains-append_right (declared_subjects s) (flat_map (shapes_of s) (triples s)) t listed)

value_in : (s : Graph) (x p y : Term) → Contains (values s x p) y → InGraph s x p y
value_in s x p y c = (IsListOf-objects s x p y).0 c

-- a sibling is a shape
pub sibling_shape : (s : Graph) (x t : Term) → Contains (siblings s x) t → has_term (shape_nodes s) t ≡ true
sibling_shape s x t c =
    let beside = flat_map (qualified_shapes_under s) (subjects s sh.property x) in
    let among_all = filtered_in (λ (u : Term). not (among (qualified_shapes s x) u)) (terms (nodes_of_list beside)) t (sibling_is s x t c) in
    let listed = (nodes_of_list_is beside t).0 ((terms_is (nodes_of_list beside) t).1 among_all) in
    let parent = flat_map_in (qualified_shapes_under s) (subjects s sh.property x) t listed in
    let child = flat_map_in (qualified_shapes s) (values s parent.0 sh.property) t parent.2 in
    shape_of_value s qualified_shape_row child.0 t t qualified_shape_there (value_in s child.0 sh.qualified_value_shape t child.2) (in_first t [])

pub reference_shape : (s : Graph) (x t : Term) → Contains (references s x) t → has_term (shape_nodes s) t ≡ true
unfolding references
reference_shape s x t c = at (Contains-append_cases (flat_map (references_of_row s x) table) (siblings s x) t c)
  where
    of_row : (r : Row) → Contains table r → Contains (references_of_row s x r) t → has_term (shape_nodes s) t ≡ true
    of_row r there c =
        let value = flat_map_in (shapes_in s r.value) (values s x (iri_of r.property)) t c in
        shape_of_value s r x value.0 t there (value_in s x (iri_of r.property) value.0 value.1) value.2

    at : Contains (flat_map (references_of_row s x) table) t ⊎ Contains (siblings s x) t → has_term (shape_nodes s) t ≡ true
    at (inl c) = let r = flat_map_in (references_of_row s x) table t c in of_row r.0 r.1 r.2
    at (inr c) = sibling_shape s x t c
