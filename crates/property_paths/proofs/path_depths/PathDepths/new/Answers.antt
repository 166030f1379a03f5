use Rattle.std.proofs.Common.{◌≡◌, [], length, sym, ap, subst, ◌∙◌}
use Rattle.rdf_terms.specs.Graph.{Graph}
use Rattle.rdf_terms.specs.Nodes.{terms, nodes_of}
use Rattle.rdf_navigation.specs.Numbers.{IsNumbered}
use Rattle.property_paths.specs.Paths.{path_parts, graph_nodes}
use Rattle.property_paths.proofs.PartLaws.{tables_right}
use Rattle.property_paths.proofs.path_depths.PathDepths.new.Goals as goal

pub invariant_of-result : goal.invariant_of-result
invariant_of-result c =
    let s = c.args.graph.now in
    let g = c.in_ok-parts.parts in
    let nodes : c.in_ok-nodes.nodes ≡ graph_nodes s = c.in_ok-nodes.ensures.value ∙ ap (λ (h : Graph). nodes_of s h []) c.new.ensures in
    let len : length g ≡ length (terms (graph_nodes s)) = subst (λ (h : Graph). length g ≡ length (terms (graph_nodes h))) (sym c.requires) c.in_ok-parts.ensures.len in
    let numbered = subst (λ (h : Graph). IsNumbered (path_parts h) (graph_nodes h) g) (sym c.requires) c.in_ok-parts.ensures.numbered in
    tables_right s c.in_ok-nodes.nodes g c.in_ok-depths.depths.items nodes len numbered c.in_ok-depths.ensures.length c.in_ok-depths.ensures.value
