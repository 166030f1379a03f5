use Rattle.std.proofs.Common.{◌≡◌, List, length, sym, ap, subst, ◌∙◌, arith}
use Rattle.std.specs.Prelude.{Some, slice_get}
use Rattle.rdf_terms.specs.declared.term.Term.{Term}
use Rattle.rdf_terms.specs.Nodes.{terms}
use Rattle.rdf_terms.proofs.Sets.{get_at}
use Rattle.shapes_profile.specs.PathNodes.{path_nodes}
use Rattle.shapes_profile.specs.Profile.{IsPathTooDeep}
use Rattle.shapes_profile.proofs.Firsts.{none_next, none_all, first_at}
use Rattle.shapes_profile.proofs.PathNodeLaws.{deep_path, shallow_path}
use Rattle.shapes_profile.proofs.deep_paths.first_deep_path.Goals as goal

pub returns-then-is_too_deep-clause-some : goal.returns-then-is_too_deep-clause-some
returns-then-is_too_deep-clause-some c =
    let s = c.args.paths.now in
    let x = c.node-item.result in
    let listed = get_at c.as_slice-node-items.result.now c.seeking.node-index x c.seeking-test.true c.node-item.is in
    let there : slice_get (terms (path_nodes s)) c.seeking.node-index ≡ Some x =
    subst (λ (ts : List Term). slice_get ts c.seeking.node-index ≡ Some x) (c.as_slice-node-items.ensures.value ∙ ap terms c.requires) listed in
    first_at (IsPathTooDeep s) (terms (path_nodes s)) c.seeking.node-index x c.seeking.invariant there
    (deep_path s x c.seeking.node-index there (sym c.is_too_deep.ensures ∙ c.if-is_too_deep.true))

pub seeking-preserved : goal.seeking-preserved
seeking-preserved c =
    let s = c.args.paths.now in
    let x = c.node-item.result in
    let listed = get_at c.as_slice-node-items.result.now c.seeking.node-index x c.seeking-test.true c.node-item.is in
    let there : slice_get (terms (path_nodes s)) c.seeking.node-index ≡ Some x =
    subst (λ (ts : List Term). slice_get ts c.seeking.node-index ≡ Some x) (c.as_slice-node-items.ensures.value ∙ ap terms c.requires) listed in
    none_next (IsPathTooDeep s) (terms (path_nodes s)) c.seeking.node-index x c.seeking.invariant there
    (shallow_path s x c.seeking.node-index there (sym c.is_too_deep.ensures ∙ c.if-is_too_deep.false))

pub returns-clause-none : goal.returns-clause-none
returns-clause-none c =
    let s = c.args.paths.now in
    let same : c.as_slice-node-items.result.now ≡ terms (path_nodes s) = c.as_slice-node-items.ensures.value ∙ ap terms c.requires in
    none_all (IsPathTooDeep s) (terms (path_nodes s)) c.seeking.node-index
    (omega (arith, c.seeking-test.false, ap length same)) c.seeking.invariant
