use Rattle.std.proofs.Common.{sym, ◌∙◌}
use Rattle.rdf_navigation.specs.CellKind.{is_cell}
use Rattle.rdf_navigation.proofs.TableLaws.{rests_in}
use Rattle.rdf_navigation.proofs.lists.rest_digraph.Goals as goal

pub push_node-requires : goal.push_node-requires
push_node-requires c = λ ts e t h. c.requires c.node-item.result t (rests_in (is_cell c.args.kind) c.args.graph.now c.node-item.result ts (sym c.in_ok-successors.ensures ∙ e) t h)
