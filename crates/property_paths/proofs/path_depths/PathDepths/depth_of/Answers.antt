use Rattle.std.proofs.Common.{◌≡◌, ◌<◌, min, true, length, refl, sym, ap, subst, ◌∙◌, arith}
use Rattle.std.specs.Prelude.{Some, None, option_map, slice_get}
use Rattle.std.proofs.lemmas.Option.{slice_get_read, slice_get_within, get_or_from_slice_get}
use Rattle.rdf_terms.specs.Graph.{Graph}
use Rattle.rdf_terms.specs.Nodes.{Nodes, terms, has_term}
use Rattle.rdf_terms.proofs.NodesLaws.{has_term_at}
use Rattle.digraph.specs.Digraph.{look}
use Rattle.property_paths.specs.Paths.{graph_nodes}
use Rattle.property_paths.proofs.PartLaws.{listed_is}
use Rattle.property_paths.specs.PathTable.{listed_depth}
use Rattle.property_paths.proofs.path_depths.PathDepths.depth_of.Goals as goal

pub returns-in-Some : goal.returns-in-Some
returns-in-Some c =
    let x = c.args.node.now in
    let g = c.self.inside.graph.now in
    let ds = c.self.inside.depths.items in
    let there : slice_get (terms c.self.inside.nodes) c.in-Some.place ≡ Some x = c.in-Some.ensures.some in
    let m = slice_get_within (terms c.self.inside.nodes) c.in-Some.place x there in
    let l : c.in-Some.place < length ds = omega (arith, m, c.self.invariant.0.size) in
    let read = slice_get_read ds (length ds) c.in-Some.place c.index.result.now refl l c.index.ensures in
    let own : look ds c.in-Some.place ≡ c.index.result.now = get_or_from_slice_get ds c.in-Some.place c.index.result.now None read in
    let node : has_term (graph_nodes g) x ≡ true = subst (λ (n : Nodes). has_term n x ≡ true) c.self.invariant.0.all (has_term_at c.self.inside.nodes x c.in-Some.place there) in
    sym own ∙ c.self.invariant.0.listed c.in-Some.place x there ∙ ap (option_map (min 33)) (sym (listed_is g x node))
    ∙ ap (λ (h : Graph). option_map (min 33) (listed_depth h x)) c.self.view_is
