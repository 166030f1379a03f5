use Rattle.std.proofs.Common.{◌∙◌, refl, sym, ap, subst}
use Rattle.std.proofs.lemmas.Result.{err_from_is_err_and}
use Rattle.rdf_terms.specs.Graph.{Graph}
use Rattle.shapes_profile.specs.Logic.{NoneOf}
use Rattle.shapes_profile.specs.Shapes.{shape_terms}
use Rattle.shapes_profile.specs.PathNodes.{path_nodes}
use Rattle.shapes_profile.specs.IllFormed.{IsIllFormed}
use Rattle.shapes_profile.proofs.ProfileLaws.{fault_1, fault_2, fault_3, of_rules_at, of_nesting_at, profiled}
use Rattle.shapes_profile.proofs.profile.check_profile.Goals as goal

pub returns-in_err-check_predicates-clause-verdict : goal.returns-in_err-check_predicates-clause-verdict
returns-in_err-check_predicates-clause-verdict c =
    let p = err_from_is_err_and c.from_residual.result c.from_residual.ensures.1 in
    rw (p.1, p.2) (fault_1 c.args.graph.now c.in_err-check_predicates.field-0.0 c.in_err-check_predicates.ensures)

pub returns-in_err-check_predicates-clause-shapes : goal.returns-in_err-check_predicates-clause-shapes
returns-in_err-check_predicates-clause-shapes c =
    let p = err_from_is_err_and c.from_residual.result c.from_residual.ensures.1 in
    rw (p.1) tt

pub returns-in_err-check_predicates-clause-path_nodes : goal.returns-in_err-check_predicates-clause-path_nodes
returns-in_err-check_predicates-clause-path_nodes c =
    let p = err_from_is_err_and c.from_residual.result c.from_residual.ensures.1 in
    rw (p.1) tt

pub returns-in_err-shapes-clause-verdict : goal.returns-in_err-shapes-clause-verdict
returns-in_err-shapes-clause-verdict c =
    let p = err_from_is_err_and c.from_residual-in_err-shapes.result c.from_residual-in_err-shapes.ensures.1 in
    rw (p.1, p.2) tt

pub returns-in_err-shapes-clause-shapes : goal.returns-in_err-shapes-clause-shapes
returns-in_err-shapes-clause-shapes c =
    let p = err_from_is_err_and c.from_residual-in_err-shapes.result c.from_residual-in_err-shapes.ensures.1 in
    rw (p.1) tt

pub returns-in_err-shapes-clause-path_nodes : goal.returns-in_err-shapes-clause-path_nodes
returns-in_err-shapes-clause-path_nodes c =
    let p = err_from_is_err_and c.from_residual-in_err-shapes.result c.from_residual-in_err-shapes.ensures.1 in
    rw (p.1) tt

pub returns-in_err-paths-clause-verdict : goal.returns-in_err-paths-clause-verdict
returns-in_err-paths-clause-verdict c =
    let p = err_from_is_err_and c.from_residual-in_err-paths.result c.from_residual-in_err-paths.ensures.1 in
    rw (p.1, p.2) tt

pub returns-in_err-paths-clause-shapes : goal.returns-in_err-paths-clause-shapes
returns-in_err-paths-clause-shapes c =
    let p = err_from_is_err_and c.from_residual-in_err-paths.result c.from_residual-in_err-paths.ensures.1 in
    rw (p.1) tt

pub returns-in_err-paths-clause-path_nodes : goal.returns-in_err-paths-clause-path_nodes
returns-in_err-paths-clause-path_nodes c =
    let p = err_from_is_err_and c.from_residual-in_err-paths.result c.from_residual-in_err-paths.ensures.1 in
    rw (p.1) tt

pub returns-in_err-check_rules-clause-verdict : goal.returns-in_err-check_rules-clause-verdict
returns-in_err-check_rules-clause-verdict c =
    let p = err_from_is_err_and c.from_residual-in_err-check_rules.result c.from_residual-in_err-check_rules.ensures.1 in
    rw (p.1, p.2)
    (fault_2 c.args.graph.now c.in_err-check_rules.field-0.0 c.in_ok-check_predicates.ensures
    (of_rules_at c.in_ok-shapes.shapes c.args.graph.now c.in_err-check_rules.field-0.0 c.in_ok-shapes.ensures c.in_err-check_rules.ensures))

pub returns-in_err-check_rules-clause-shapes : goal.returns-in_err-check_rules-clause-shapes
returns-in_err-check_rules-clause-shapes c =
    let p = err_from_is_err_and c.from_residual-in_err-check_rules.result c.from_residual-in_err-check_rules.ensures.1 in
    rw (p.1) tt

pub returns-in_err-check_rules-clause-path_nodes : goal.returns-in_err-check_rules-clause-path_nodes
returns-in_err-check_rules-clause-path_nodes c =
    let p = err_from_is_err_and c.from_residual-in_err-check_rules.result c.from_residual-in_err-check_rules.ensures.1 in
    rw (p.1) tt

pub returns-in_err-path_nodes-clause-verdict : goal.returns-in_err-path_nodes-clause-verdict
returns-in_err-path_nodes-clause-verdict c =
    let p = err_from_is_err_and c.from_residual-in_err-path_nodes.result c.from_residual-in_err-path_nodes.ensures.1 in
    rw (p.1, p.2)
    (fault_3 c.args.graph.now c.in_err-path_nodes.field-0.0 c.in_ok-check_predicates.ensures
    (subst (λ (g : Graph). NoneOf (IsIllFormed g) (shape_terms g)) c.in_ok-shapes.ensures c.in_ok-check_rules.ensures)
    (of_nesting_at c.in_ok-shapes.shapes c.args.graph.now c.in_err-path_nodes.field-0.0 c.in_ok-shapes.ensures c.in_err-path_nodes.ensures.verdict))

pub returns-in_err-path_nodes-clause-shapes : goal.returns-in_err-path_nodes-clause-shapes
returns-in_err-path_nodes-clause-shapes c =
    let p = err_from_is_err_and c.from_residual-in_err-path_nodes.result c.from_residual-in_err-path_nodes.ensures.1 in
    rw (p.1) tt

pub returns-in_err-path_nodes-clause-path_nodes : goal.returns-in_err-path_nodes-clause-path_nodes
returns-in_err-path_nodes-clause-path_nodes c =
    let p = err_from_is_err_and c.from_residual-in_err-path_nodes.result c.from_residual-in_err-path_nodes.ensures.1 in
    rw (p.1) tt

pub new-requires-2 : goal.new-requires-2
new-requires-2 c =
    sym (c.lists.ensures ∙ c.declarations.ensures ∙ c.in_ok-shapes.ensures)

pub check_rules-requires : goal.check_rules-requires
check_rules-requires c =
    c.in_ok-paths.ensures ∙ sym c.in_ok-shapes.ensures

pub check_nesting-requires : goal.check_nesting-requires
check_nesting-requires c =
    c.in_ok-paths.ensures ∙ sym c.in_ok-shapes.ensures

pub returns-clause-verdict : goal.returns-clause-verdict
returns-clause-verdict c =
    profiled c.in_ok-shapes.shapes c.args.graph.now c.in_ok-shapes.ensures c.in_ok-check_predicates.ensures c.in_ok-check_rules.ensures
    c.in_ok-path_nodes.ensures.verdict

pub returns-clause-shapes : goal.returns-clause-shapes
returns-clause-shapes c =
    c.in_ok-shapes.ensures

pub returns-clause-path_nodes : goal.returns-clause-path_nodes
returns-clause-path_nodes c =
    c.in_ok-path_nodes.ensures.nodes ∙ ap path_nodes c.in_ok-shapes.ensures

pub same-shapes : goal.same-shapes
same-shapes c = refl
