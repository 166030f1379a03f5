use Rattle.std.proofs.Common.{◌≡◌, ℕ, ◌<◌, [], ◌∷◌, ◌++◌, false, map, get_or, All, sym, ap, ◌∙◌, subst}
use Rattle.std.proofs.lemmas.List.{get_or_default}
use Rattle.repair_problem.specs.declared.atom.Atom.TheVariants as atom
use Rattle.repair_problem.specs.declared.atom.Part.{Part}
use Rattle.repair_problem.specs.Setting.{Setting}
use Rattle.path_levels.specs.PossibleNodes.{node_count}
use Rattle.path_levels.specs.PathParts.{literal}
use Rattle.atom_parts.specs.ValueParts.{values_of, twins, later_twins}
use Rattle.atom_parts.proofs.PushedLists.{mapped_next, mapped_end}
use Rattle.atom_parts.proofs.TableLaws.{values_within, pairs_mapped}
use Rattle.atom_parts.proofs.holds.unique_list.Goals as goal

pub twins-requires : goal.twins-requires
twins-requires c =
    let ys = c.as_slice.result.now in
    subst (λ (t : Setting). All (λ y. y < node_count t) ys) (sym (c.problem.ensures ∙ c.values_of.ensures.same))
    (values_within c.args.nodes.now c.args.shape c.args.x ys c.requires.x (c.as_slice.ensures ∙ c.in_ok-values.ensures.value))

pub pairs-preserved : goal.pairs-preserved
pairs-preserved c =
    let f : ℕ × ℕ → Part = λ p. literal (atom.Twin c.args.i c.args.x p.0 p.1) false in
    let ps = c.deref-y-items.result.now in
    let k = c.pairs.y-index in
    c.in_ok-push.ensures.ok
    ∙ (ap (λ part. c.pairs.list ++ part ∷ []) c.literal.ensures
    ∙ mapped_next f [] c.pairs.list ps k (get_or ps k (0, 0)) c.pairs.invariant c.pairs-test.true (get_or_default ps k (0, 0) (get_or ps k (0, 0)) c.pairs-test.true))

pub returns-clause-value : goal.returns-clause-value
returns-clause-value c =
    let f : ℕ × ℕ → Part = λ p. literal (atom.Twin c.args.i c.args.x p.0 p.1) false in
    let s = c.args.nodes.now in
    let ps = c.deref-y-items.result.now in
    let k = c.pairs.y-index in
    let e : ps ≡ c.in_ok-pairs.pairs.items = c.deref-y-items.ensures.value in
    let found : c.in_ok-pairs.pairs.items ≡ twins s (λ y z. (y, z)) (values_of s c.args.shape c.args.x) =
    c.in_ok-pairs.ensures
    ∙ (ap (λ (t : Setting). twins t (λ y z. (y, z)) c.as_slice.result.now) (c.problem.ensures ∙ c.values_of.ensures.same)
    ∙ ap (twins s (λ y z. (y, z))) (c.as_slice.ensures ∙ c.in_ok-values.ensures.value)) in
    mapped_end f [] c.pairs.list ps k c.pairs.invariant c.pairs-test.false
    ∙ (ap (map f) (e ∙ found) ∙ pairs_mapped f (later_twins s (values_of s c.args.shape c.args.x)) (values_of s c.args.shape c.args.x))
