use Rattle.std.proofs.Common.{◌≡◌, ◌<◌, length, Some, slice_get, sym, ap, ◌∙◌, subst}
use Rattle.std.specs.Ordering.{is_ne}
use Rattle.rdf_terms.specs.declared.term.Term.TheVariants.{Iri}
use Rattle.rdf_terms.specs.Statement.{Statement}
use Rattle.rdf_terms.specs.Graph.{triples}
use Rattle.rdf_terms.specs.Nodes.{terms}
use Rattle.rdf_navigation.specs.Numbers.{term_at}
use Rattle.path_eval.specs.declared.direction.Direction.{Direction}
use Rattle.path_eval.specs.Links.{far_end}
use Rattle.path_eval.specs.Numbered.{Numbered}
use Rattle.path_eval.proofs.Found.{other_term, equal_terms, table_at}
use Rattle.path_eval.proofs.Searches.{same_item}
use Rattle.path_eval.proofs.numbered.NumberedGraph.link.Goals as goal

pub returns-then-is_ne-clause-none : goal.returns-then-is_ne-clause-none
returns-then-is_ne-clause-none c =
    let triple = c.nth-triple.result.now in
    λ t e same. let z : triple ≡ t = same_item triple t (sym c.nth-triple.ensures ∙ (ap (λ (u : Numbered). slice_get (triples u.graph) c.args.place) c.self.view_is ∙ e)) in
    other_term c.triple.inside.predicate (Iri c.args.predicate.now) c.is_ne.result (c.is_ne.ensures ∙ ap is_ne c.compare_to_iri.ensures) c.if-is_ne.true (ap (λ (u : Statement). u.predicate) c.triple.view_is ∙ (ap (λ (u : Statement). u.predicate) z ∙ same))

pub returns-in-Forward-clause-within : goal.returns-in-Forward-clause-within
returns-in-Forward-clause-within c =
    let v = c.self.inside in
    let l : c.args.place < length (triples v.graph.now) = subst (λ (u : Numbered). c.args.place < length (triples u.graph)) (sym c.self.view_is) c.requires in
    subst (λ (u : Numbered). c.index.result.now < length (terms u.nodes)) c.self.view_is
    (table_at v.graph.now v.nodes (λ (t : Statement). t.object) v.objects.items c.args.place c.index.result.now c.self.invariant.object c.self.invariant.objects_within l c.index.ensures).0

pub returns-in-Backward-clause-within : goal.returns-in-Backward-clause-within
returns-in-Backward-clause-within c =
    let v = c.self.inside in
    let l : c.args.place < length (triples v.graph.now) = subst (λ (u : Numbered). c.args.place < length (triples u.graph)) (sym c.self.view_is) c.requires in
    subst (λ (u : Numbered). c.index-in-Backward.result.now < length (terms u.nodes)) c.self.view_is
    (table_at v.graph.now v.nodes (λ (t : Statement). t.subject) v.subjects.items c.args.place c.index-in-Backward.result.now c.self.invariant.subject c.self.invariant.subjects_within l c.index-in-Backward.ensures).0

pub returns-in-Forward-clause-some : goal.returns-in-Forward-clause-some
returns-in-Forward-clause-some c =
    let v = c.self.inside in
    let t = c.nth-triple.result.now in
    let l : c.args.place < length (triples v.graph.now) = subst (λ (u : Numbered). c.args.place < length (triples u.graph)) (sym c.self.view_is) c.requires in
    let far = (table_at v.graph.now v.nodes (λ (t : Statement). t.object) v.objects.items c.args.place c.index.result.now c.self.invariant.object c.self.invariant.objects_within l c.index.ensures).1 t c.nth-triple.ensures in
    let p : t.predicate ≡ Iri c.args.predicate.now = sym (ap (λ (u : Statement). u.predicate) c.triple.view_is) ∙ equal_terms c.triple.inside.predicate (Iri c.args.predicate.now) c.is_ne.result (c.is_ne.ensures ∙ ap is_ne c.compare_to_iri.ensures) c.if-is_ne.false in
    subst (λ (u : Numbered). (t : Statement) × (slice_get (triples u.graph) c.args.place ≡ Some t) × (t.predicate ≡ Iri c.args.predicate.now) × (far_end c.args.direction t ≡ term_at u.nodes c.index.result.now)) c.self.view_is
    (t, c.nth-triple.ensures, p, ap (λ (d : Direction). far_end d t) c.in-Forward.is ∙ far)

pub returns-in-Backward-clause-some : goal.returns-in-Backward-clause-some
returns-in-Backward-clause-some c =
    let v = c.self.inside in
    let t = c.nth-triple.result.now in
    let l : c.args.place < length (triples v.graph.now) = subst (λ (u : Numbered). c.args.place < length (triples u.graph)) (sym c.self.view_is) c.requires in
    let far = (table_at v.graph.now v.nodes (λ (t : Statement). t.subject) v.subjects.items c.args.place c.index-in-Backward.result.now c.self.invariant.subject c.self.invariant.subjects_within l c.index-in-Backward.ensures).1 t c.nth-triple.ensures in
    let p : t.predicate ≡ Iri c.args.predicate.now = sym (ap (λ (u : Statement). u.predicate) c.triple.view_is) ∙ equal_terms c.triple.inside.predicate (Iri c.args.predicate.now) c.is_ne.result (c.is_ne.ensures ∙ ap is_ne c.compare_to_iri.ensures) c.if-is_ne.false in
    subst (λ (u : Numbered). (t : Statement) × (slice_get (triples u.graph) c.args.place ≡ Some t) × (t.predicate ≡ Iri c.args.predicate.now) × (far_end c.args.direction t ≡ term_at u.nodes c.index-in-Backward.result.now)) c.self.view_is
    (t, c.nth-triple.ensures, p, ap (λ (d : Direction). far_end d t) c.in-Backward.is ∙ far)
