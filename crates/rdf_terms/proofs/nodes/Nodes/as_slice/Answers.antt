use Rattle.std.proofs.Common.{ap, sym, ◌∙◌, subst, IsTrue, Contains, ◌↔◌}
use Rattle.rdf_terms.proofs.NodesLaws.{terms_is}
use Rattle.rdf_terms.specs.Nodes.{terms, has_term}
use Rattle.rdf_terms.specs.Term.{term_cmp}
use Rattle.rdf_terms.proofs.Sets.{items-of_rising}
use Rattle.rdf_terms.proofs.nodes.Nodes.as_slice.Goals as goal

pub returns-clause-value : goal.returns-clause-value
returns-clause-value c =
    c.as_slice.ensures.value ∙ sym (items-of_rising term_cmp c.self.inside.items.items c.self.invariant) ∙ ap terms c.self.view_is

pub returns-clause-exact : goal.returns-clause-exact
returns-clause-exact c =
    let listed = c.as_slice.ensures.value ∙ sym (items-of_rising term_cmp c.self.inside.items.items c.self.invariant) ∙ ap terms c.self.view_is in
    λ t. subst (λ ts. IsTrue (has_term c.args.self.now t) ↔ Contains ts t) (sym listed) (terms_is c.args.self.now t)
