use Rattle.std.proofs.Common.{◌≡◌, ◌↔◌, IsTrue, ◌∙◌, ap, map, sym, subst}
use Rattle.std.specs.List.{list_any}
use Rattle.rdf_terms.specs.declared.term.Term.TheVariants.{Iri}
use Rattle.rdf_terms.specs.Statement.{Statement}
use Rattle.rdf_terms.specs.Members.{InGraph}
use Rattle.rdf_navigation.specs.Values.{same_term}
use Rattle.rdf_navigation.proofs.PropertyLaws.{any_map, among_is}
use Rattle.rdf_navigation.proofs.property.has_value.Goals as goal

value_found : goal.returns-clause-value
value_found c =
    let y = c.args.value.now in
    let ts = c.triples_of.result.now in
    let found : c.any_has_object.result ≡ list_any (λ (t : Statement). same_term y t.object) ts = c.any_has_object.ensures in
    found ∙ any_map (same_term y) (λ (t : Statement). t.object) ts ∙ ap (λ us. list_any (same_term y) (map (λ (t : Statement). t.object) us)) c.triples_of.ensures.value

pub returns-clause-value : goal.returns-clause-value
returns-clause-value c = value_found c

pub returns-clause-exact : goal.returns-clause-exact
returns-clause-exact c =
    let g = c.args.graph.now in
    let p = Iri c.args.predicate.now in
    subst (λ b. IsTrue b ↔ InGraph g c.args.subject.now p c.args.value.now) (sym (value_found c)) (among_is g c.args.subject.now p c.args.value.now)
