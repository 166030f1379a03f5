use Rattle.std.proofs.Common.{◌≡◌, ℕ, List, ◌∷◌, ◌++◌, [], false, map, get_or, ap, ◌∙◌}
use Rattle.std.proofs.lemmas.List.{get_or_default}
use Rattle.repair_problem.specs.declared.atom.Atom.TheVariants as atom
use Rattle.repair_problem.specs.declared.atom.Part.{Part}
use Rattle.repair_problem.specs.Setting.{Setting}
use Rattle.path_levels.specs.PathParts.{literal}
use Rattle.atom_parts.specs.CandidateLists.{linked_nodes}
use Rattle.atom_parts.specs.PartsTable.{none_marked}
use Rattle.atom_parts.proofs.PushedLists.{mapped_next, mapped_end}
use Rattle.atom_parts.proofs.holds.same_list.Goals as goal

pub linked-preserved : goal.linked-preserved
linked-preserved c =
    let f : ℕ → Part = λ y. literal (atom.Differ c.args.i c.args.x y) false in
    let marked = none_marked c.args.nodes.now c.args.i c.args.shape c.args.x in
    let ys = c.deref-y-items.result.now in
    let i = c.linked.y-index in
    c.in_ok-push.ensures.ok
    ∙ (ap (λ part. c.linked.list ++ part ∷ []) c.literal.ensures
    ∙ mapped_next f marked c.linked.list ys i (get_or ys i 0) c.linked.invariant c.linked-test.true (get_or_default ys i 0 (get_or ys i 0) c.linked-test.true))

pub returns-clause-value : goal.returns-clause-value
returns-clause-value c =
    let f : ℕ → Part = λ y. literal (atom.Differ c.args.i c.args.x y) false in
    let s = c.args.nodes.now in
    let marked = none_marked s c.args.i c.args.shape c.args.x in
    let ys = c.deref-y-items.result.now in
    let e : ys ≡ c.in_ok-linked.linked.items = c.deref-y-items.ensures.value in
    let found : c.in_ok-linked.linked.items ≡ linked_nodes s c.args.predicate.now c.args.x = c.in_ok-linked.ensures ∙ (ap (λ (t : Setting). linked_nodes t c.as_str.result.now c.args.x) (c.problem.ensures ∙ c.none_marked.ensures.same) ∙ ap (λ (q : List ℕ). linked_nodes s q c.args.x) c.as_str.ensures) in
    mapped_end f marked c.linked.list ys c.linked.y-index c.linked.invariant c.linked-test.false ∙ ap (λ us. marked ++ map f us) (e ∙ found)
