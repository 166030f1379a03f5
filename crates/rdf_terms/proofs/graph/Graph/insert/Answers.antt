use Rattle.std.proofs.Common.{◌∙◌, sym, ap, subst, rules, length, not}
use Rattle.rdf_terms.specs.Statement.{statement_cmp}
use Rattle.rdf_terms.specs.Graph.{triples, with, graph_of, IsPlace}
use Rattle.rdf_terms.specs.TermOrder.{statement_cmp_total, statement_cmp-IsAntisymmetric}
use Rattle.rdf_terms.proofs.Sets.{items-of_rising, has_none, inserted, inserted_rises}
use Rattle.rdf_terms.proofs.Membership.{has_at, with_present}
use Rattle.rdf_terms.proofs.graph.Graph.insert.Goals as goal

pub insert_at-requires-clause-within : goal.insert_at-requires-clause-within
insert_at-requires-clause-within c =
    let shown = sym (ap triples c.self.view_is) ∙ items-of_rising statement_cmp c.self.inside.items.items c.self.invariant.0 in
    let l = ap length shown in
    let w = c.in-Err.ensures.within in
    search rules

pub invariant_of-self-in-Err : goal.invariant_of-self-in-Err
invariant_of-self-in-Err c =
    let shown = sym (ap triples c.self.view_is) ∙ items-of_rising statement_cmp c.self.inside.items.items c.self.invariant.0 in
    let at = subst (λ ts. IsPlace ts c.args.triple c.in-Err.place) shown c.in-Err.ensures.absent in
    (rw c.in_ok-insert_at-in-Err.ensures.inserted (inserted_rises statement_cmp_total c.self.inside.items.items c.args.triple c.in-Err.place c.self.invariant.0 at), c.in_ok-insert_at-in-Err.ensures.order)

pub returns-in-Ok-clause-ok : goal.returns-in-Ok-clause-ok
returns-in-Ok-clause-ok c = sym (with_present statement_cmp_total statement_cmp-IsAntisymmetric c.args.self.now c.args.triple (has_at statement_cmp_total statement_cmp-IsAntisymmetric c.args.self.now c.args.triple c.in-Ok.field-0 c.in-Ok.ensures.found))

pub returns-in-Ok-clause-new : goal.returns-in-Ok-clause-new
returns-in-Ok-clause-new c = ap not (sym (has_at statement_cmp_total statement_cmp-IsAntisymmetric c.args.self.now c.args.triple c.in-Ok.field-0 c.in-Ok.ensures.found))

pub returns-in_ok-insert_at-in-Err-clause-ok : goal.returns-in_ok-insert_at-in-Err-clause-ok
returns-in_ok-insert_at-in-Err-clause-ok c =
    let shown = sym (ap triples c.self.view_is) ∙ items-of_rising statement_cmp c.self.inside.items.items c.self.invariant.0 in
    let at = subst (λ ts. IsPlace ts c.args.triple c.in-Err.place) shown c.in-Err.ensures.absent in
    ap graph_of c.in_ok-insert_at-in-Err.ensures.inserted ∙ inserted statement_cmp_total c.self.inside.items.items c.args.triple c.in-Err.place c.self.invariant.0 at ∙ ap (λ g. with g c.args.triple) c.self.view_is

pub returns-in_ok-insert_at-in-Err-clause-new : goal.returns-in_ok-insert_at-in-Err-clause-new
returns-in_ok-insert_at-in-Err-clause-new c = ap not (sym (has_none statement_cmp_total statement_cmp-IsAntisymmetric c.args.self.now c.args.triple c.in-Err.place c.in-Err.ensures.absent))
