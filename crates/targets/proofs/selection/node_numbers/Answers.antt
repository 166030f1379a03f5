use Rattle.std.proofs.Common.{◌≡◌, ℕ, List, [], ◌∷◌, IsTrue, Some, slice_get, sym, subst}
use Rattle.rdf_terms.specs.Members.{IsListOf}
use Rattle.rdf_terms.specs.Nodes.{Nodes, terms, has_term}
use Rattle.path_eval.specs.Numbered.{terms_at}
use Rattle.targets.proofs.SelectionLaws.{one_node}
use Rattle.targets.proofs.selection.node_numbers.Goals as goal

pub returns-in_ok-vec-in-Some-clause-exact : goal.returns-in_ok-vec-in-Some-clause-exact
returns-in_ok-vec-in-Some-clause-exact c =
    let n = c.args.graph.now.nodes in
    let node = c.args.node.now in
    let k = c.in-Some.number in
    let at : slice_get (terms n) k ≡ Some node = subst (λ (m : Nodes). slice_get (terms m) k ≡ Some node) c.nodes.ensures.nodes c.in-Some.ensures.some in
    let items : c.in_ok-vec-in-Some.field-0.items ≡ k ∷ [] = c.in_ok-vec-in-Some.ensures.items in
    subst (λ (is : List ℕ). IsListOf (λ x. IsTrue (has_term n x) × (node ≡ x)) (terms_at n is)) (sym items) (one_node n k node at)
