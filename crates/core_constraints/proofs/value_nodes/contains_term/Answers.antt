use Rattle.std.proofs.Common.{◌≡◌, ◌∙◌, ap, sym, subst, Contains, Some, slice_get}
use Rattle.rdf_terms.specs.Nodes.{Nodes, terms, has_term}
use Rattle.path_eval.specs.Numbered.{terms_at}
use Rattle.core_constraints.proofs.Decided.{says_iff}
use Rattle.core_constraints.proofs.NodeNumbers.{number_listed_is, not_listed}
use Rattle.core_constraints.proofs.value_nodes.contains_term.Goals as goal

pub returns-in-Some : goal.returns-in-Some
returns-in-Some c =
    let n = c.args.input.now.graph.nodes in
    let values = c.args.values.now in
    let y = c.args.term.now in
    let k = c.in-Some.number in
    let at : slice_get (terms n) k ≡ Some y = subst (λ (m : Nodes). slice_get (terms m) k ≡ Some y) c.nodes.ensures.nodes c.in-Some.ensures.some in
    says_iff c.contains.result (Contains values k) (Contains (terms_at n values) y) (number_listed_is n values c.requires.within k y at) c.contains.ensures

pub returns-in-None : goal.returns-in-None
returns-in-None c =
    let n = c.args.input.now.graph.nodes in
    not_listed n c.args.values.now c.requires.within c.args.term.now (ap (λ (m : Nodes). has_term m c.args.term.now) (sym c.nodes.ensures.nodes) ∙ c.in-None.ensures.none)
