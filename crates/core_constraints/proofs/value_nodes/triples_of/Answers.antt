use Rattle.std.proofs.Common.{◌≡◌, ◌↔◌, ◌-◌, IsTrue, List, take, drop, Contains, sym, ap, ◌∙◌, subst}
use Rattle.rdf_terms.specs.declared.term.Term.{Term}
use Rattle.rdf_terms.specs.Statement.{Statement}
use Rattle.rdf_terms.specs.Graph.{Graph, triples, has, ArePlacesOf}
use Rattle.core_constraints.specs.Findings.{data_of, term_of}
use Rattle.core_constraints.proofs.NodeNumbers.{part_of_subject}
use Rattle.core_constraints.proofs.value_nodes.triples_of.Goals as goal

pub returns : goal.returns
returns c =
    let g = data_of c.args.input.now in
    let x = term_of c.args.input.now c.args.subject in
    let first = c.places_of-first.result.0 in
    let after = c.places_of-first.result.1 in
    let is : c.as_slice.result.now ≡ triples g = c.as_slice.ensures ∙ ap triples c.graph-graph.ensures in
    let own = subst (λ (h : Graph). ArePlacesOf (triples h) c.term.result.now first after) c.graph-graph.ensures c.places_of-first.ensures in
    let places = subst (λ (u : Term). ArePlacesOf (triples g) u first after) c.term.ensures own in
    λ t. subst (λ (us : List Statement). Contains (take (after - first) (drop first us)) t ↔ (IsTrue (has g t) × (t.subject ≡ x))) (sym is) (part_of_subject g x first after places t)
