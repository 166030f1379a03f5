use Rattle.std.proofs.Common.{List, ◌++◌, ap, ◌∙◌}
use Rattle.repair_problem.specs.declared.atom.Part.{Part}
use Rattle.repair_problem.specs.Setting.{nodes}
use Rattle.path_eval.proofs.GrowthLaws.{on_ok}
use Rattle.atom_parts.proofs.TableLaws.{node_read, subjects_row, objects_row}
use Rattle.atom_parts.proofs.shape_parts.push_target.Goals as goal

pub returns-in-SubjectsOf-clause-value : goal.returns-in-SubjectsOf-clause-value
returns-in-SubjectsOf-clause-value c =
    let s = c.args.nodes.now in
    let there = node_read s c.nodes.result.now c.args.x c.nth_term-term.result.now (c.nodes.ensures ∙ ap nodes c.problem-problem.ensures) c.nth_term-term.ensures in
    on_ok c.push_subjects_of.result _ _ c.push_subjects_of.ensures
    (λ e. e ∙ ap (λ (us : List Part). c.args.list.now ++ us) (subjects_row s c.args.x c.problem-problem.result.now c.nth_term-term.result.now c.as_str.result.now c.in-SubjectsOf.predicate c.args.target.now c.problem-problem.ensures there c.as_str.ensures c.in-SubjectsOf.is))

pub returns-in-ObjectsOf-clause-value : goal.returns-in-ObjectsOf-clause-value
returns-in-ObjectsOf-clause-value c =
    let s = c.args.nodes.now in
    let there = node_read s c.nodes.result.now c.args.x c.nth_term-term.result.now (c.nodes.ensures ∙ ap nodes c.problem-problem.ensures) c.nth_term-term.ensures in
    on_ok c.push_objects_of.result _ _ c.push_objects_of.ensures
    (λ e. e ∙ ap (λ (us : List Part). c.args.list.now ++ us) (objects_row s c.args.x c.problem-problem.result.now c.nth_term-term.result.now c.as_str-in-ObjectsOf.result.now c.in-ObjectsOf.predicate c.args.target.now c.problem-problem.ensures there c.as_str-in-ObjectsOf.ensures c.in-ObjectsOf.is))
