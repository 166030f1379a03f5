use Rattle.std.proofs.Common.{◌≡◌, [], ◌∷◌, true, Option, Some, sym, ap, ◌∙◌}
use Rattle.shapes_graph.specs.Forms.{form_of}
use Rattle.repair_problem.specs.declared.atom.Part.{Part}
use Rattle.repair_problem.specs.declared.atom.Parts.{Parts}
use Rattle.repair_problem.specs.Setting.{Setting}
use Rattle.count_encode.specs.PartTruth.{negation}
use Rattle.atom_parts.specs.ValueParts.{value_part}
use Rattle.atom_parts.specs.PartsTable.{good_part}
use Rattle.atom_parts.proofs.KindForms.{IsOfMarked, marked_bad}
use Rattle.atom_parts.proofs.marked.mark.Goals as goal

pub returns-in_default : goal.returns-in_default
returns-in_default c =
    let s = c.args.nodes.now in
    let k = c.args.constraint.now in
    let d = c.in_default in
    let left : IsOfMarked k.kind = record { not_value = d.not-HasValue; not_equals = d.not-Equals; not_unique = d.not-UniqueLang; not_min = d.not-MinCount; not_max = d.not-MaxCount; not_least = d.not-QualifiedMinCount; not_most = d.not-QualifiedMaxCount } in
    let bad : c.negation-bad.result ≡ negation (good_part s c.args.i c.args.y (form_of k.kind)) =
    c.negation-bad.ensures ∙ ap negation (c.good_part-good.ensures ∙ ap (λ (t : Setting). good_part t c.args.i c.args.y (form_of k.kind)) c.problem-problem.ensures) in
    let whole : Part → Option Parts = λ part. Some (record { every = true; list = value_part s k.shape c.args.x c.args.y ∷ part ∷ [] }) in
    ap whole bad ∙ sym (marked_bad s c.args.i k.shape c.args.x c.args.y k.kind left d.not-Disjoint)
