use Rattle.std.proofs.lemmas.Result.{err_from_is_err_and}
use Rattle.command_words.specs.declared.words.Command.TheVariants.{Explain}
use Rattle.document_input.specs.Told.{during, shelf_told}
use Rattle.document_input.proofs.Errors.{here, past_graph}
use Rattle.explain_cli.proofs.Answers.{stops, explains}
use Rattle.explain_cli.proofs.explain.explain_report.Goals as goal

pub returns-in_err-present-clause-answer : goal.returns-in_err-present-clause-answer
returns-in_err-present-clause-answer g c =
    let error = err_from_is_err_and c.from_residual-in_err-present.result c.from_residual-in_err-present.ensures.1 in
    rw (error.1, error.2) (stops (Explain c.args.shapes.now c.args.present.now c.args.offered.now c.args.conflicts)
    (past_graph c.in_ok-shapes.ensures.read (here c.in_err-present.ensures.read)))

pub returns-in_err-offered-clause-answer : goal.returns-in_err-offered-clause-answer
returns-in_err-offered-clause-answer g c =
    let error = err_from_is_err_and c.from_residual-in_err-offered.result c.from_residual-in_err-offered.ensures.1 in
    rw (error.1, error.2) (stops (Explain c.args.shapes.now c.args.present.now c.args.offered.now c.args.conflicts)
    (past_graph c.in_ok-shapes.ensures.read (past_graph c.in_ok-present.ensures.read (here c.in_err-offered.ensures.read))))

pub returns-clause-answer : goal.returns-clause-answer
returns-clause-answer g c =
    let told = shelf_told g.H.Shelf.held g.H.Shelf.faults in
    let first = c.graph.ensures.read.later.kept in
    let second = c.graph-2.ensures.read.later.kept in
    explains c.args.shapes.now c.args.present.now c.args.offered.now c.args.conflicts (during told c.args.reader.now.shelf.now c.graph-3.new.self.shelf.now)
    (record { shapes = c.in_ok-shapes.shapes; present = c.in_ok-present.present; offered = c.in_ok-offered.offered }) c.report_explanation.result
    (record { shapes = c.in_ok-shapes.ensures.read.ok; present = rw first at c.in_ok-present.ensures.read.ok; offered = rw (second, first) at c.in_ok-offered.ensures.read.ok })
    (c.in_ok-present.ensures.lawful, c.in_ok-present.ensures.scope) (c.in_ok-offered.ensures.lawful, c.in_ok-offered.ensures.scope)
    c.report_explanation.ensures
