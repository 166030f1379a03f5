use Rattle.std.proofs.Common.{IsTrue, sym, subst, ◌∙◌}
use Rattle.rdf_terms.specs.Nodes.{Nodes, has_term}
use Rattle.property_paths.proofs.PartLaws.{part_node}
use Rattle.property_paths.proofs.path_depths.part_digraph.Goals as goal

pub push_node-requires : goal.push_node-requires
push_node-requires c = λ ts e t h.
    subst (λ (n : Nodes). IsTrue (has_term n t)) (sym c.requires.nodes) (part_node c.args.lists.now c.node-item.result ts (sym c.in_ok-parts.ensures ∙ e) t h)
