use Rattle.std.proofs.lemmas.Result.{err_from_is_err_and}
use Rattle.command_words.specs.declared.words.Command.TheVariants.{Apply}
use Rattle.document_input.specs.Told.{during, shelf_told}
use Rattle.document_input.proofs.Errors.{here, past_graph}
use Rattle.explain_cli.proofs.Answers.{stops, applies}
use Rattle.explain_cli.proofs.apply.apply_report.Goals as goal

pub returns-in_err-claim-clause-answer : goal.returns-in_err-claim-clause-answer
returns-in_err-claim-clause-answer g c =
    let error = err_from_is_err_and c.from_residual-in_err-claim.result c.from_residual-in_err-claim.ensures.1 in
    rw (error.1, error.2) (stops (Apply c.args.present.now c.args.document.now) (past_graph c.in_ok-present.ensures.read (here c.in_err-claim.ensures.read)))

pub returns-clause-answer : goal.returns-clause-answer
returns-clause-answer g c =
    let told = shelf_told g.H.Shelf.held g.H.Shelf.faults in
    applies c.args.present.now c.args.document.now (during told c.args.reader.now.shelf.now c.document.new.self.shelf.now)
    _ c.in_ok-claim.claim c.apply_document-edited.result c.edited_report.result
    (record { present = c.in_ok-present.ensures.read.ok; claimed = rw c.graph.ensures.read.later.kept at c.in_ok-claim.ensures.read.ok }) (c.in_ok-present.ensures.lawful, c.in_ok-present.ensures.scope) c.apply_document-edited.ensures c.edited_report.ensures
