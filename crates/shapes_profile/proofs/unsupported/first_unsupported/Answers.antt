use Rattle.std.proofs.Common.{◌≡◌, ◌∙◌, List, length, sym, subst, ap, arith, false}
use Rattle.std.specs.Prelude.{Some, slice_get}
use Rattle.std.proofs.lemmas.Bool.{false≢true}
use Rattle.std.proofs.lemmas.List.{length-map}
use Rattle.rdf_terms.specs.Statement.{Statement}
use Rattle.rdf_terms.specs.Graph.{triples}
use Rattle.rdf_terms.proofs.Sets.{get_at}
use Rattle.rdf_navigation.specs.Values.{among}
use Rattle.shapes_profile.specs.Profile.{unsupported, predicates, IsUnsupported}
use Rattle.shapes_profile.proofs.Firsts.{none_next, none_all, at_map}
use Rattle.shapes_profile.proofs.unsupported.first_unsupported.Goals as goal

pub seeking-preserved : goal.seeking-preserved
seeking-preserved c =
    let there : slice_get c.as_slice-triple-items.result.now c.seeking.triple-index ≡ Some c.triple-item.result =
    get_at _ _ _ c.seeking-test.true c.triple-item.is in
    let listed = subst (λ (ts : List Statement). slice_get ts c.seeking.triple-index ≡ Some c.triple-item.result) c.as_slice-triple-items.ensures there in
    let not : among unsupported c.triple-item.result.predicate ≡ false = cc in
    none_next IsUnsupported (predicates c.args.graph.now) c.seeking.triple-index c.triple-item.result.predicate c.seeking.invariant (at_map (λ (t : Statement). t.predicate) (triples c.args.graph.now) _ _ listed) (λ e. false≢true (sym not ∙ e))

pub returns-clause-none : goal.returns-clause-none
returns-clause-none c =
    none_all IsUnsupported (predicates c.args.graph.now) c.seeking.triple-index
    (omega (arith, c.seeking-test.false, ap length c.as_slice-triple-items.ensures, length-map (triples c.args.graph.now) (λ (t : Statement). t.predicate)))
    c.seeking.invariant
