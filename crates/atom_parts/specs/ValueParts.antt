-- Value nodes in some edited graph, and the facts about them as parts.
use Rattle.std.specs.Prelude.{ℕ, suc, ◌&&◌, Bool, false, List, [], ◌∷◌, flat_map, map, filter}
use Rattle.std.specs.Prelude.{Option, Some, None, option_map, nat_eq, nat_lt, if◌then◌else◌}
use Rattle.std.specs.List.{list_any}
use Rattle.std.specs.Str.{bytes_eq}
use Rattle.rdf_terms.specs.declared.term.Term.{Term}
use Rattle.rdf_terms.specs.declared.term.Term.TheVariants.{Iri}
use Rattle.rdf_terms.specs.Nodes.{terms}
use Rattle.rdf_navigation.specs.Values.{same_term}
use Rattle.shapes_graph.specs.NodeTests.{tag_of}
use Rattle.shapes_graph.specs.PathForms.{path_of}
use Rattle.repair_problem.specs.declared.atom.Atom.TheVariants as atom
use Rattle.repair_problem.specs.declared.atom.Part.{Part}
use Rattle.repair_problem.specs.declared.atom.Part.TheVariants.{Fixed}
use Rattle.repair_problem.specs.Setting.{Setting, nodes, node}
use Rattle.path_levels.specs.PossibleNodes.{possible}
use Rattle.path_levels.specs.PathParts.{path_part, triple_part}

-- the first place of a term in a list
abbrev pub place_among_terms : List Term → Term → Option ℕ
place_among_terms [] a = None
place_among_terms (b ∷ bs) a = if same_term b a then Some 0 else option_map (λ i. suc i) (place_among_terms bs a)

-- of the language tags of two literals, whether they are there and the same
abbrev pub are_same_tags : Option (List ℕ) → Option (List ℕ) → Bool
are_same_tags (Some a) (Some b) = bytes_eq a b
are_same_tags _ _ = false

module _ (s : Setting) where
  -- the number of a term as a node
  abbrev pub node_number : Term → Option ℕ
  node_number a = place_among_terms (terms (nodes s)) a

  -- the nodes that are value nodes of x in some edited graph: x itself without a path
  abbrev pub values_by : Option ℕ → ℕ → List ℕ
  values_by None x = x ∷ []
  values_by (Some p) x = possible s p x

  abbrev pub values_of : ℕ → ℕ → List ℕ
  values_of n x = values_by (path_of s.shapes n) x

  -- whether y is among them
  abbrev pub is_value : ℕ → ℕ → ℕ → Bool
  is_value n x y = list_any (λ z. nat_eq y z) (values_of n x)

  -- that y is a value node of x
  abbrev pub value_part_by : Option ℕ → ℕ → ℕ → Part
  value_part_by None x y = Fixed (nat_eq x y)
  value_part_by (Some p) x y = path_part s (atom.Reach p x y)

  abbrev pub value_part : ℕ → ℕ → ℕ → Part
  value_part n x y = value_part_by (path_of s.shapes n) x y

  -- a fact about a term that has to be a node
  abbrev pub of_node_part : Option ℕ → (ℕ → Part) → Part
  of_node_part None part = Fixed false
  of_node_part (Some y) part = part y

  -- that the term is a value node of x
  abbrev pub term_value_part : ℕ → ℕ → Term → Part
  term_value_part n x a = of_node_part (node_number a) (λ y. value_part n x y)

  -- that y is a SHACL instance of the class: path 3 leads there, by a type and then superclasses
  abbrev pub instance_part : ℕ → Term → Part
  instance_part y c = of_node_part (node_number c) (λ z. path_part s (atom.Reach 3 y z))

  -- that the triple from node x to node y with this predicate is there
  abbrev pub link_part : List ℕ → ℕ → ℕ → Part
  link_part q x y = triple_part s (record { subject = node s x; predicate = Iri q; object = node s y })

  -- whether both nodes are literals with the same language tag
  abbrev pub same_tags : ℕ → ℕ → Bool
  same_tags y z = are_same_tags (tag_of (node s y)) (tag_of (node s z))

  -- the greater ones of these nodes with the same tag
  abbrev pub later_twins : List ℕ → ℕ → List ℕ
  later_twins ys y = filter (λ z. nat_lt y z && same_tags y z) ys

  -- f of all pairs of these nodes with the same tag, the first of which is less, by the first and then the second
  abbrev pub twins : {X : Type 0} → (ℕ → ℕ → X) → List ℕ → List X
  twins f ys = flat_map (λ y. map (f y) (later_twins ys y)) ys
