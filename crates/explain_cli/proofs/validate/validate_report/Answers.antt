use Rattle.std.proofs.lemmas.Result.{err_from_is_err_and}
use Rattle.command_words.specs.declared.words.Command.TheVariants.{Validate}
use Rattle.document_input.specs.Told.{during, shelf_told}
use Rattle.document_input.proofs.Errors.{here, past_graph}
use Rattle.explain_cli.proofs.Answers.{stops, validates}
use Rattle.explain_cli.proofs.validate.validate_report.Goals as goal

pub returns-in_err-present-clause-answer : goal.returns-in_err-present-clause-answer
returns-in_err-present-clause-answer g c =
    let error = err_from_is_err_and c.from_residual-in_err-present.result c.from_residual-in_err-present.ensures.1 in
    rw (error.1, error.2) (stops (Validate c.args.shapes.now c.args.present.now) (past_graph c.in_ok-shapes.ensures.read (here c.in_err-present.ensures.read)))

pub returns-clause-answer : goal.returns-clause-answer
returns-clause-answer g c =
    let told = shelf_told g.H.Shelf.held g.H.Shelf.faults in
    let first = c.graph.ensures.read.later.kept in
    validates c.args.shapes.now c.args.present.now (during told c.args.reader.now.shelf.now c.graph-2.new.self.shelf.now)
    c.in_ok-shapes.shapes c.in_ok-present.present c.report_validation.result
    (record { shapes = c.in_ok-shapes.ensures.read.ok; present = rw first at c.in_ok-present.ensures.read.ok }) c.report_validation.ensures
