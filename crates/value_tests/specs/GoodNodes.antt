-- Constraints that test each value node by itself (SHACL 2017, section 4).
use Rattle.std.specs.Prelude.{ℕ, Bool, true, false}
use Rattle.std.specs.Option.{option_map_or}
use Rattle.rdf_terms.specs.Graph.{Graph}
use Rattle.rdf_terms.specs.declared.term.Term.{Term}
use Rattle.shapes_graph.specs.Constraints.{constraint_at}
use Rattle.shapes_graph.specs.Forms.{Form, Every, Passes, form_of}

-- of sh:datatype, sh:nodeKind, the four ranges, the two lengths, sh:languageIn and sh:in
abbrev pub is_test : Form → Bool
is_test (Every (Passes test)) = true
is_test _ = false

-- whether the term passes such a test
abbrev pub passes : Form → Term → Bool
passes (Every (Passes test)) y = test y
passes _ y = false

-- whether triple i of the sorted shapes graph states such a test
abbrev pub is_node_test : Graph → ℕ → Bool
is_node_test s i = option_map_or (λ c. is_test (form_of c.kind)) (constraint_at s i) false

-- whether the term passes the test that it states
abbrev pub is_good : Graph → ℕ → Term → Bool
is_good s i y = option_map_or (λ c. passes (form_of c.kind) y) (constraint_at s i) false
