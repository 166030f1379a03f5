use Rattle.std.proofs.Common.{◌≡◌, List, Contains, IsTrue, ap, sym, subst, ◌∙◌}
use Rattle.rdf_terms.specs.declared.term.Term.{Term}
use Rattle.rdf_terms.specs.Graph.{Graph}
use Rattle.rdf_terms.specs.Nodes.{Nodes, has_term}
use Rattle.rdf_navigation.proofs.PropertyLaws.{same_some}
use Rattle.shapes_profile.specs.References.{references}
use Rattle.shapes_profile.proofs.ReferenceLaws.{reference_shape}
use Rattle.shapes_profile.proofs.ranks.reference_digraph.Goals as goal

pub push_node-requires : goal.push_node-requires
push_node-requires c = λ ts e t h.
    let s = c.args.shapes.now in
    let x = c.shape-item.result in
    let refs : c.in_ok-references.references ≡ references s x = c.in_ok-references.ensures ∙ ap (λ (g : Graph). references g x) c.declarations.ensures in
    subst (λ (n : Nodes). IsTrue (has_term n t)) (sym c.nodes.ensures) (reference_shape s x t (subst (λ (us : List Term). Contains us t) (sym (same_some e) ∙ refs) h))
