use Rattle.std.proofs.Common.{◌≡◌, IsTrue, sym, ap, ◌∙◌, subst}
use Rattle.rdf_terms.specs.Graph.{empty}
use Rattle.rdf_terms.specs.Nodes.{Nodes, has_term, nodes_of}
use Rattle.core_constraints.proofs.FocusNumbers.{focus_numbered}
use Rattle.core_constraints.proofs.input.Input.new.Goals as goal

pub returns-clause-focus : goal.returns-clause-focus
returns-clause-focus c =
    let s = c.args.shapes.now in
    let g = c.args.graph.now in
    let named = c.in_ok-named.named in
    let is : c.in_ok-graph.graph.nodes ≡ nodes_of g empty named = c.in_ok-graph.ensures.nodes ∙ ap (nodes_of g empty) c.as_slice.ensures in
    λ n x f. subst (λ (u : Nodes). IsTrue (has_term u x)) (sym is) (focus_numbered s c.triples-triples.ensures.profile g named c.in_ok-named.ensures n x f)
