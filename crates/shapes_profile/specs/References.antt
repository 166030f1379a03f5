-- Shapes that refer to shapes: siblings, recursion and rank (SHACL 2017, sections 3.4.3 and 4.7.3).
use Rattle.std.specs.Prelude.{ℕ, ◌&&◌, ◌||◌, Bool, not, List, [], ◌++◌, length, filter, flat_map}
use Rattle.std.specs.Prelude.{Option, Some, if◌then◌else◌}
use Rattle.rdf_terms.specs.Graph.{Graph}
use Rattle.rdf_terms.specs.Nodes.{terms, nodes_of_list}
use Rattle.rdf_terms.specs.declared.term.Term.{Term}
use Rattle.rdf_terms.specs.Vocab.Sh as sh
use Rattle.digraph.specs.Depth.{depth_in}
use Rattle.digraph.specs.Reach.{IsOnCircle}
use Rattle.rdf_navigation.specs.Values.{among, values, has_values, subjects}
use Rattle.shapes_profile.specs.declared.properties.Row.{Row}
use Rattle.shapes_profile.specs.Properties.{table, iri_of}
use Rattle.shapes_profile.specs.Shapes.{shape_terms, shapes_in, has_true_value}

abbrev pub qualified_shapes : Graph → Term → List Term
qualified_shapes s x = values s x sh.qualified_value_shape

-- siblings are asked for: sh:qualifiedValueShapesDisjoint is true, and there is a qualified count
abbrev pub asks_for_siblings : Graph → Term → Bool
asks_for_siblings s x =
    has_true_value s x sh.qualified_value_shapes_disjoint
    && (has_values s x sh.qualified_min_count || has_values s x sh.qualified_max_count)

-- the qualified shapes of all property shapes of a parent
abbrev pub qualified_shapes_under : Graph → Term → List Term
qualified_shapes_under s parent = flat_map (qualified_shapes s) (values s parent sh.property)

-- the sibling shapes, in order: the qualified shapes under all parents, without its own
unfoldable pub siblings : Graph → Term → List Term
siblings s x =
    if asks_for_siblings s x then
    filter (λ u. not (among (qualified_shapes s x) u))
    (terms (nodes_of_list (flat_map (qualified_shapes_under s) (subjects s sh.property x))))
    else []

-- the shapes that the values of the property of a row refer to
abbrev pub references_of_row : Graph → Term → Row → List Term
references_of_row s x r = flat_map (shapes_in s r.value) (values s x (iri_of r.property))

-- the shapes that a shape refers to
unfoldable pub references : Graph → Term → List Term
references s x = flat_map (references_of_row s x) table ++ siblings s x

-- the shapes with their references, as a directed graph
abbrev pub shape_references : Graph → Term → Option (List Term)
shape_references s x = Some (references s x)

-- the shape refers to itself over one or more references
unfoldable pub IsRecursive : Graph → Term → Type 0
IsRecursive s x = IsOnCircle (shape_references s) x

-- 0 without references, else one more than the greatest rank referred to; a shape that leads to a recursive one
-- has none
unfoldable pub rank : Graph → Term → Option ℕ
rank s x = depth_in (shape_references s) (length (shape_terms s)) x
