use Rattle.std.proofs.Common.{ℕ, [], ◌∷◌, ◌++◌, true, false, get_or, ap, ◌∙◌}
use Rattle.std.proofs.lemmas.List.{get_or_default}
use Rattle.repair_problem.specs.declared.atom.Atom.TheVariants as atom
use Rattle.repair_problem.specs.declared.atom.Part.{Part}
use Rattle.path_levels.specs.PathParts.{literal}
use Rattle.atom_parts.specs.PartsTable.{conforming_parts}
use Rattle.atom_parts.proofs.PushedLists.{mapped_next, mapped_end}
use Rattle.atom_parts.proofs.good.qualified_list.Goals as goal

pub siblings-preserved : goal.siblings-preserved
siblings-preserved c =
    let f : ℕ → Part = λ u. literal (atom.Conforms u c.args.node) false in
    let us = c.args.siblings.now in
    let i = c.siblings.sibling-index in
    c.in_ok-push.ensures.ok
    ∙ (ap (λ part. c.siblings.list ++ part ∷ []) c.conforming-in-siblings.ensures
    ∙ mapped_next f (conforming_parts (c.args.shape ∷ []) c.args.node true) c.siblings.list us i (get_or us i 0) c.siblings.invariant c.siblings-test.true (get_or_default us i 0 (get_or us i 0) c.siblings-test.true))

pub returns : goal.returns
returns c =
    let f : ℕ → Part = λ u. literal (atom.Conforms u c.args.node) false in
    mapped_end f (conforming_parts (c.args.shape ∷ []) c.args.node true) c.siblings.list c.args.siblings.now c.siblings.sibling-index c.siblings.invariant c.siblings-test.false
