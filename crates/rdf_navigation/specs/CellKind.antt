-- Which nodes may be the cells of a list. Only private functions cite this.
use Rattle.std.specs.Prelude.{Bool}
use Rattle.rdf_terms.specs.declared.term.Term.{Term}
use Rattle.rdf_terms.specs.Statement.{is_node}
use Rattle.rdf_navigation.specs.declared.cell_kind.CellKind.{CellKind}
use Rattle.rdf_navigation.specs.declared.cell_kind.CellKind.TheVariants.{Node, Blank}
use Rattle.rdf_navigation.specs.Lists.{is_blank}

abbrev pub is_cell : CellKind → Term → Bool
is_cell Node x = is_node x
is_cell Blank x = is_blank x
