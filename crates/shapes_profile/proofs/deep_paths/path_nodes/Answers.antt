use Rattle.std.proofs.Common.{◌≡◌, IsTrue, IfOk, List, Contains, sym, subst, ◌∙◌}
use Rattle.rdf_terms.specs.declared.term.Term.{Term}
use Rattle.rdf_terms.specs.Graph.{Graph}
use Rattle.rdf_terms.specs.Nodes.{has_term}
use Rattle.rdf_terms.specs.Members.{IsSetOf}
use Rattle.digraph.specs.Reach.{IsReached}
use Rattle.rdf_navigation.proofs.PropertyLaws.{from_three}
use Rattle.property_paths.specs.Paths.{path_parts, graph_nodes}
use Rattle.shapes_profile.proofs.PathNodeLaws.{path_values, path_value_node, path_nodes_are}
use Rattle.shapes_profile.proofs.deep_paths.path_nodes.Goals as goal

pub made_of-requires : goal.made_of-requires
made_of-requires c = λ t h.
    let starts : c.as_slice.result.now ≡ path_values c.args.shapes.now = c.as_slice.ensures ∙ c.in_ok-starts.ensures in
    subst (λ (g : Graph). IsTrue (has_term (graph_nodes g) t)) (sym c.requires)
    (path_value_node c.args.shapes.now t (subst (λ (ts : List Term). Contains ts t) starts h))

pub returns : goal.returns
returns c =
    let s = c.args.shapes.now in
    let starts : c.as_slice.result.now ≡ path_values s = c.as_slice.ensures ∙ c.in_ok-starts.ensures in
    let reached : IfOk c.made_of.result (λ n. IsSetOf (IsReached (path_parts s) (path_values s)) n) =
    subst (λ (ts : List Term). IfOk c.made_of.result (λ n. IsSetOf (IsReached (path_parts s) ts) n)) starts
    (subst (λ (g : Graph). IfOk c.made_of.result (λ n. IsSetOf (IsReached (path_parts g) c.as_slice.result.now) n)) c.requires c.made_of.ensures) in
    from_three c.made_of.result _ _ _ (λ n all more most. path_nodes_are s n all) reached reached reached
