use Rattle.std.proofs.Common.{List, ap, ◌∙◌, ◌++◌}
use Rattle.std.specs.Prelude.{filter, flat_map}
use Rattle.std.proofs.lemmas.Result.{IfOk-weaker}
use Rattle.rdf_terms.specs.Statement.{is_iri}
use Rattle.rdf_terms.specs.Graph.{Graph}
use Rattle.rdf_terms.specs.declared.term.Term.{Term}
use Rattle.rdf_terms.specs.Vocab.Sh as sh
use Rattle.rdf_navigation.specs.Values.{values}
use Rattle.shapes_profile.specs.Shapes.{members_or_none}
use Rattle.shapes_graph.specs.Constraints.{distinct}
use Rattle.shapes_graph.proofs.kinds.allowed.Goals as goal

pub returns : goal.returns
returns c =
    let s = c.args.declarations.now in
    let x = c.args.shape.now in
    let paths = λ (g : Graph). filter is_iri (flat_map (λ (p : Term). values g p sh.path) (values g x sh.property)) in
    let ignored = flat_map (λ (o : Term). members_or_none s o) (values s x sh.ignored_properties) in
    let first = c.in_ok-push_property_paths.ensures ∙ ap (λ (ts : List Term). ts ++ paths c.graph.result.now) c.new-terms.ensures ∙ ap paths c.graph.ensures in
    IfOk-weaker c.distinct.result _ _ (λ ts e. e ∙ ap distinct (c.in_ok-push_ignored.ensures ∙ ap (λ (ts : List Term). ts ++ ignored) first)) c.distinct.ensures
