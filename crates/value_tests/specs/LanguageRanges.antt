-- Language ranges in shapes graphs. Private functions cite it.
use Rattle.std.specs.Prelude.{ℕ, Bool, false, List}
use Rattle.rdf_terms.specs.declared.term.Term.{Term}
use Rattle.rdf_terms.specs.declared.term.Term.TheVariants.{Literal}
use Rattle.shapes_graph.specs.NodeTests.{matches}

-- the lexical form is a language range that matches the tag
abbrev pub is_in_range_of : List ℕ → Term → Bool
is_in_range_of tag (Literal l d t) = matches tag l
is_in_range_of tag _ = false
