-- What atoms about constraints and shapes come down to, by the forms of constraints. The nodes, constraints and shapes
-- of an atom are named by numbers.
use Rattle.std.specs.Prelude.{ℕ, ◌+◌, ◌&&◌, Bool, true, false, List, [], ◌∷◌, ◌++◌, map, flat_map, length}
use Rattle.std.specs.Prelude.{Option, Some, None, option_and_then, nat_lt, if◌then◌else◌}
use Rattle.rdf_terms.specs.declared.term.Term.TheVariants.{Iri}
use Rattle.rdf_terms.specs.Graph.{is_of}
use Rattle.rdf_navigation.specs.Values.{same_term}
use Rattle.shapes_graph.specs.declared.targets.Target.{Target}
use Rattle.shapes_graph.specs.declared.targets.Target.TheVariants as target
use Rattle.shapes_profile.specs.Shapes.{shape_at, shape_terms}
use Rattle.shapes_graph.specs.Constraints.{constraint_at, constraints_of, is_deactivated}
use Rattle.shapes_graph.specs.Targets.{targets}
use Rattle.shapes_graph.specs.Forms.{Test, Anything, Passes, IsA, NotObject, Conforming, Failing, AllOf, SomeOfThese}
use Rattle.shapes_graph.specs.Forms.{OneOf, Counted, Form, Every, Nested, Closing, Least, Most, Having, Same, Unique}
use Rattle.shapes_graph.specs.Forms.{form_of}
use Rattle.repair_problem.specs.declared.atom.Atom.{Atom}
use Rattle.repair_problem.specs.declared.atom.Atom.TheVariants as atom
use Rattle.repair_problem.specs.declared.atom.Part.{Part}
use Rattle.repair_problem.specs.declared.atom.Part.TheVariants.{Fixed}
use Rattle.repair_problem.specs.declared.atom.Parts.{Parts}
use Rattle.repair_problem.specs.Setting.{Setting, node}
use Rattle.path_levels.specs.PossibleNodes.{node_count}
use Rattle.path_levels.specs.PathParts.{literal, path_parts}
use Rattle.count_encode.specs.PartTruth.{negation}
use Rattle.count_encode.specs.Counts.{counted}
use Rattle.atom_parts.specs.CandidateLists.{candidates_if, is_to, is_open, is_linked, linked_nodes}
use Rattle.atom_parts.specs.ValueParts.{values_of, is_value, value_part, term_value_part, instance_part, link_part}
use Rattle.atom_parts.specs.ValueParts.{same_tags, twins}

abbrev pub all_of : List Part → Option Parts
all_of parts = Some (record { every = true; list = parts })

abbrev pub any_of : List Part → Option Parts
any_of parts = Some (record { every = false; list = parts })

-- the parts, where the test is passed
abbrev pub where_true : Bool → Option Parts → Option Parts
where_true b o = if b then o else None

-- that the node conforms to each of the shapes, or doesn't
abbrev pub conforming_parts : List ℕ → ℕ → Bool → List Part
conforming_parts us y positive = map (λ u. literal (atom.Conforms u y) positive) us

-- that these candidates are in the graph, or aren't
abbrev pub triple_parts : List ℕ → Bool → List Part
triple_parts ts positive = map (λ t. literal (atom.Triple t) positive) ts

-- up to which number a constraint counts
abbrev pub need : Form → ℕ
need (Every (OneOf us)) = 2
need (Least m t) = m
need (Most m t) = m + 1
need _ = 0

module _ (s : Setting) where
  -- what y has to be to pass the test, whatever the focus node; i: the constraint
  abbrev pub test_parts : ℕ → ℕ → Test → Option Parts
  test_parts i y (IsA c) = any_of (instance_part s y c ∷ [])
  test_parts i y (Conforming u) = any_of (conforming_parts (u ∷ []) y true)
  test_parts i y (Failing u) = all_of (conforming_parts (u ∷ []) y false)
  test_parts i y (AllOf us) = all_of (conforming_parts us y true)
  test_parts i y (SomeOfThese us) = any_of (conforming_parts us y true)
  test_parts i y (OneOf us) = all_of (counted i y (length us) 1 ∷ negation (counted i y (length us) 2) ∷ [])
  test_parts i y (Counted u us) = all_of (conforming_parts (u ∷ []) y true ++ conforming_parts us y false)
  test_parts i y _ = None

  -- what y has to be to pass the constraint as a single value node
  abbrev pub good_parts : ℕ → ℕ → Form → Option Parts
  good_parts i y (Every t) = test_parts i y t
  good_parts i y (Nested u) = any_of (conforming_parts (u ∷ []) y true)
  good_parts i y (Closing true allowed) = all_of (triple_parts (candidates_if s (is_open allowed (node s y))) false)
  good_parts i y (Least n t) = test_parts i y t
  good_parts i y (Most n t) = test_parts i y t
  good_parts i y _ = None

  -- that y passes the constraint, as a part: without an atom a test of the node by itself, or what always passes
  abbrev pub test_part : ℕ → ℕ → Test → Part
  test_part i y Anything = Fixed true
  test_part i y (Passes test) = Fixed (test (node s y))
  test_part i y (NotObject q) = Fixed false
  test_part i y _ = literal (atom.Good i y) true

  abbrev pub good_part : ℕ → ℕ → Form → Part
  good_part i y (Every t) = test_part i y t
  good_part i y (Nested u) = literal (atom.Good i y) true
  good_part i y (Closing true allowed) = literal (atom.Good i y) true
  good_part i y (Closing false allowed) = Fixed true
  good_part i y (Least n t) = test_part i y t
  good_part i y (Most n t) = test_part i y t
  good_part i y _ = Fixed false

  -- that y is a value node of x for shape n, and this besides
  abbrev pub value_and : ℕ → ℕ → ℕ → Part → Option Parts
  value_and n x y other = all_of (value_part s n x y ∷ other ∷ [])

  -- of a count only what passes a test besides
  abbrev pub counted_parts : ℕ → ℕ → ℕ → ℕ → Test → Option Parts
  counted_parts i n x y Anything = None
  counted_parts i n x y t = value_and n x y (test_part i y t)

  -- that y is a value node of x which counts for or against constraint i of shape n
  abbrev pub marked_parts : ℕ → ℕ → ℕ → ℕ → Form → Option Parts
  marked_parts i n x y (Every (NotObject q)) = value_and n x y (link_part s q x y)
  marked_parts i n x y (Every t) = value_and n x y (negation (test_part i y t))
  marked_parts i n x y (Nested u) = value_and n x y (negation (good_part i y (Nested u)))
  marked_parts i n x y (Closing on allowed) = value_and n x y (negation (good_part i y (Closing on allowed)))
  marked_parts i n x y (Same q) = value_and n x y (negation (link_part s q x y))
  marked_parts i n x y (Least m t) = counted_parts i n x y t
  marked_parts i n x y (Most m t) = counted_parts i n x y t
  marked_parts i n x y _ = None

  -- that y is an object of x, and no value node
  abbrev pub differ_parts : ℕ → ℕ → ℕ → Form → Option Parts
  differ_parts n x y (Same q) =
      where_true (is_linked s q x y) (all_of (negation (value_part s n x y) ∷ link_part s q x y ∷ []))
  differ_parts n x y _ = None

  -- that y and z, literals with the same tag, are both value nodes
  abbrev pub twin_parts : ℕ → ℕ → ℕ → ℕ → Form → Option Parts
  twin_parts n x y z (Unique true) =
      where_true (nat_lt y z && (same_tags s y z && (is_value s n x y && is_value s n x z)))
      (value_and n x y (value_part s n x z))
  twin_parts n x y z _ = None

  -- what is counted of x: value nodes, or the shapes of which one is to be conformed to
  abbrev pub items : ℕ → ℕ → Form → List ℕ
  items n x (Every (OneOf us)) = us
  items n x (Least m t) = values_of s n x
  items n x (Most m t) = values_of s n x
  items n x _ = []

  -- that an item is to be counted
  abbrev pub counted_item : ℕ → ℕ → ℕ → ℕ → Test → Part
  counted_item i n x y Anything = value_part s n x y
  counted_item i n x y t = literal (atom.Marked i x y) true

  abbrev pub item_part : ℕ → ℕ → ℕ → ℕ → Form → Part
  item_part i n x y (Every t) = literal (atom.Conforms y x) true
  item_part i n x y (Least m t) = counted_item i n x y t
  item_part i n x y (Most m t) = counted_item i n x y t
  item_part i n x y _ = Fixed false

  -- that of all items so many are to be counted
  abbrev pub all_counted : ℕ → ℕ → ℕ → Form → ℕ → Part
  all_counted i n x f m = counted i x (length (items n x f)) m

  -- that no value node counts against the constraint
  abbrev pub none_marked : ℕ → ℕ → ℕ → List Part
  none_marked i n x = map (λ y. literal (atom.Marked i x y) false) (values_of s n x)

  abbrev pub none_differs : ℕ → List ℕ → ℕ → List Part
  none_differs i q x = map (λ y. literal (atom.Differ i x y) false) (linked_nodes s q x)

  abbrev pub no_twins : ℕ → ℕ → ℕ → List Part
  no_twins i n x = twins s (λ y z. literal (atom.Twin i x y z) false) (values_of s n x)

  -- what is asked of all value nodes together
  abbrev pub holds_parts : ℕ → ℕ → ℕ → Form → Option Parts
  holds_parts i n x (Least m t) = any_of (all_counted i n x (Least m t) m ∷ [])
  holds_parts i n x (Most m t) = all_of (negation (all_counted i n x (Most m t) (m + 1)) ∷ [])
  holds_parts i n x (Having o) = any_of (term_value_part s n x o ∷ [])
  holds_parts i n x (Same q) = all_of (none_marked i n x ++ none_differs i q x)
  holds_parts i n x (Unique true) = all_of (no_twins i n x)
  holds_parts i n x (Unique false) = all_of []
  holds_parts i n x _ = all_of (none_marked i n x)

  -- of the shape and the form of the constraint that triple i states, if it states one
  abbrev pub by_constraint : {X : Type 0} → ℕ → (ℕ → Form → Option X) → Option X
  by_constraint i by_form = option_and_then (λ c. by_form c.shape (form_of c.kind)) (constraint_at s.shapes i)

  -- that the constraints of a shape hold, unless it is deactivated
  abbrev pub conforms_parts : ℕ → ℕ → Option Parts
  conforms_parts n x =
      option_and_then
      (λ is. all_of (if is_deactivated s.shapes n then [] else map (λ i. literal (atom.Holds i x) true) is))
      (constraints_of s.shapes n)

  -- that x is a focus node by the target
  abbrev pub target_list : ℕ → Target → List Part
  target_list x (target.Node a) = Fixed (same_term (node s x) a) ∷ []
  target_list x (target.Class c) = instance_part s x c ∷ []
  target_list x (target.SubjectsOf q) = triple_parts (candidates_if s (is_of (node s x) (Iri q))) true
  target_list x (target.ObjectsOf q) = triple_parts (candidates_if s (is_to (node s x) (Iri q))) true

  abbrev pub target_parts : ℕ → ℕ → Option Parts
  target_parts n x =
      option_and_then (λ shape. any_of (flat_map (target_list x) (targets s.shapes shape))) (shape_at s.shapes n)

  abbrev pub is_node : ℕ → Bool
  is_node x = nat_lt x (node_count s)

  abbrev pub is_shape : ℕ → Bool
  is_shape n = nat_lt n (length (shape_terms s.shapes))

  -- The parts of an atom, all or any of which are meant. None where the numbers name no atom, and of candidates and
  -- counters.
  abbrev pub parts_of : Atom → Option Parts
  parts_of (atom.Good i y) = where_true (is_node y) (by_constraint i (λ n f. good_parts i y f))
  parts_of (atom.Marked i x y) =
      where_true (is_node x && is_node y)
      (by_constraint i (λ n f. where_true (is_value s n x y) (marked_parts i n x y f)))
  parts_of (atom.Differ i x y) = where_true (is_node x && is_node y) (by_constraint i (λ n f. differ_parts n x y f))
  parts_of (atom.Twin i x y z) =
      where_true (is_node x && (is_node y && is_node z)) (by_constraint i (λ n f. twin_parts n x y z f))
  parts_of (atom.Holds i x) = where_true (is_node x) (by_constraint i (λ n f. holds_parts i n x f))
  parts_of (atom.Conforms n x) = where_true (is_node x) (conforms_parts n x)
  parts_of (atom.Target n x) = where_true (is_node x) (target_parts n x)
  parts_of a = path_parts s a
