use Rattle.std.proofs.Common.{◌≡◌, ap, ◌∙◌, false}
use Rattle.std.proofs.lemmas.Result.{IfOk-weaker}
use Rattle.repair_problem.specs.Setting.{nodes, node}
use Rattle.atom_parts.specs.CandidateLists.{candidates_if, is_open}
use Rattle.atom_parts.specs.PartsTable.{triple_parts}
use Rattle.atom_parts.proofs.TableLaws.{node_read, closed_row}
use Rattle.atom_parts.proofs.good.closed_list_of.Goals as goal

pub returns : goal.returns
returns c =
    let s = c.args.nodes.now in
    let there = node_read s c.nodes.result.now c.args.y c.nth_term-subject.result.now (c.nodes.ensures ∙ ap nodes c.problem-problem.ensures) c.nth_term-subject.ensures in
    let row = closed_row s c.args.y c.problem-problem.result.now c.nth_term-subject.result.now c.as_slice.result.now c.args.allowed.now c.problem-problem.ensures there c.as_slice.ensures in
    IfOk-weaker c.closed_list.result _ (λ list. list ≡ triple_parts (candidates_if s (is_open c.args.allowed.now (node s c.args.y))) false) (λ list e. e ∙ row) c.closed_list.ensures
