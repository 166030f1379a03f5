-- What the private functions of the commands say of their results.
use Rattle.std.specs.Prelude.{◌≡◌, ◌≢◌, ◌↔◌, ℕ, List, [], ◌∷◌, Result, Ok, Err, MatchResult}
use Rattle.std.specs.List.Sorted.{IsStrictlySortedBy}
use Rattle.rdf_terms.specs.Graph.{Graph, empty}
use Rattle.rdf_terms.specs.declared.term.Scope.TheVariants.{Data as OfData}
use Rattle.ntriples_io.specs.CanonicalText.{graph_text}
use Rattle.ntriples_io.specs.RoundTrip.{HasScope}
use Rattle.ntriples_io.specs.Text.{NtText, AreLawful}
use Rattle.proof_lines.specs.declared.proof.Claim.{Claim as Claimed}
use Rattle.proof_lines.specs.declared.proof.Claim.TheVariants as claimed
use Rattle.proof_documents.specs.Document.{Document as Claim}
use Rattle.certificates.specs.Writing.{IsSpellable}
use Rattle.certificates.specs.declared.refusal.CheckRefusal.{CheckRefusal}
use Rattle.certificates.specs.declared.refusal.CheckRefusal.TheVariants.{OutOfMemory as NoVerdict}
use Rattle.proof_documents.specs.declared.refusal.ApplyRefusal.{ApplyRefusal}
use Rattle.proof_documents.specs.declared.refusal.ApplyRefusal.TheVariants.{NoPair as ClaimsNoPair, OutsideData}
use Rattle.proof_documents.specs.declared.refusal.ApplyRefusal.TheVariants.{OutOfMemory as NoMemory}
use Rattle.shapes_profile.specs.Profile.{IsInProfile}
use Rattle.shapes_graph.specs.Conformance.{Conforms}
use Rattle.shapes_graph.specs.Results.{IsResult}
use Rattle.core_constraints.specs.declared.result_rows.ResultRow.{ResultRow}
use Rattle.core_constraints.specs.Rows.{row_cmp, AreRowsOf}
use Rattle.report_writer.specs.Report.{report_text}
use Rattle.command_words.specs.declared.words.Command.{Command}
use Rattle.document_input.specs.declared.error.InputError.{InputError}
use Rattle.document_input.specs.declared.error.InputError.TheVariants.{Unread, Refused, OutOfMemory}
use Rattle.document_input.specs.declared.refusal.ClaimRefusal.TheVariants.{NoPair as NotOfPair, PairOutside}
use Rattle.document_input.specs.declared.refusal.InputRefusal.TheVariants.{Shapes as OfTheShapes, Claim as OfTheClaim}
use Rattle.document_input.specs.Reading.{IsErrorIn}
use Rattle.document_input.specs.Told.{Change, ShelfTold}
use Rattle.explain_cli.specs.declared.report.Report.{Report}
use Rattle.explain_cli.specs.declared.status.Status.{Status}
use Rattle.explain_cli.specs.declared.status.Status.TheVariants.{Done, No, Input, Read, Spent}
use Rattle.explain_cli.specs.Answer.{IsOneOf, IsAnswerIn}
use Rattle.explain_cli.specs.Explanations.{IsExplained}
use Rattle.explain_cli.specs.Input.{documents_of, RefusesIn, AreComparable, IsOutside, IsUnfitInput, Graphs, setting_of}
use Rattle.explain_cli.specs.Notes.{input_line, read_line, rejected_line}
use Rattle.explain_cli.specs.Reports.{answer, note}
use Rattle.explain_cli.specs.Verdicts.{accepted_line, Judges}

-- why a command has no answer
abbrev pub IsErrorOf : Command → Change ShelfTold → InputError → Type 0
IsErrorOf command shelf (Unread role) = IsErrorIn shelf (documents_of command) (Unread role)
IsErrorOf command shelf (Refused refusal) = RefusesIn command shelf.before.held refusal
IsErrorOf command shelf OutOfMemory = Unit {0}

-- the result of a command: an answer, or why there is none
abbrev pub AnswersCommand : Command → Change ShelfTold → Result Report InputError → Type 0
AnswersCommand command shelf result =
    MatchResult result (IsAnswerIn command shelf.before.held) (IsErrorOf command shelf)

-- a report of that kind, unless memory could not be had
abbrev pub Makes : (Report → Type 0) → Result Report InputError → Type 0
Makes P result = MatchResult result P (λ error. error ≡ OutOfMemory)

-- why no shapes were read of a graph
abbrev pub IsShapesError : Graph → InputError → Type 0
IsShapesError s (Unread role) = ⊥
IsShapesError s (Refused (OfTheShapes reason)) = IsOutside s reason
IsShapesError s (Refused _) = ⊥
IsShapesError s OutOfMemory = Unit {0}

-- the status of a report with these rows
abbrev pub status_of_rows : List ResultRow → Status
status_of_rows [] = Done
status_of_rows (r ∷ rows) = No

abbrev pub ReportsRows : List ResultRow → Report → Type 0
ReportsRows rows report = report ≡ answer (status_of_rows rows) (report_text rows)

-- the report of the results of a data graph
pub record IsValidationReport (s g : Graph) (report : Report) : Type 0 where
  pub profile : IsInProfile s
  pub comparable : AreComparable s g empty
  pub rows : List ResultRow
  pub exact : AreRowsOf (IsResult s g) rows
  pub sorted : IsStrictlySortedBy row_cmp rows
  pub some : (rows ≢ []) ↔ ¬ (Conforms s g)
  pub texts : ReportsRows rows report

-- why the graphs were not judged
abbrev pub IsUnfitError : Graph → Graph → Graph → InputError → Type 0
IsUnfitError s g offered (Unread role) = ⊥
IsUnfitError s g offered (Refused refusal) = IsUnfitInput s g offered refusal
IsUnfitError s g offered OutOfMemory = Unit {0}

abbrev pub ReportsValidation : Graph → Graph → Result Report InputError → Type 0
ReportsValidation s g result = MatchResult result (IsValidationReport s g) (IsUnfitError s g empty)

-- the report of a verdict on a document that claims so
abbrev pub IsVerdictReport : Claimed → Result (Unit {0}) CheckRefusal → Report → Type 0
IsVerdictReport claim (Ok u) report = report ≡ answer Done (accepted_line claim)
IsVerdictReport claim (Err e) report = (e ≢ NoVerdict) × (report ≡ note No (rejected_line e))

-- the report of whether a claim is accepted
pub record IsCheckReport (g : Graphs) (claim : Claim) (report : Report) : Type 0 where
  pub profile : IsInProfile g.shapes
  pub comparable : AreComparable g.shapes g.present g.offered
  pub verdict : Judges (setting_of g) claim report

abbrev pub ReportsVerdict : Graphs → Claim → Result Report InputError → Type 0
ReportsVerdict g claim result =
    MatchResult result (IsCheckReport g claim) (IsUnfitError g.shapes g.present g.offered)

-- the status of a report of a proof that claims so
abbrev pub status_of_claim : Claimed → Status
status_of_claim claimed.Pair = Done
status_of_claim claimed.NoPair = No
status_of_claim claimed.Spent = Spent

-- the report of the proof that was found for graphs, which is so where its document can be spelled
pub record IsExplanationReport (g : Graphs) (budget : ℕ) (report : Report) : Type 0 where
  pub profile : IsInProfile g.shapes
  pub comparable : AreComparable g.shapes g.present g.offered
  pub status : IsOneOf (Done ∷ No ∷ Spent ∷ []) report.status
  pub explained : IsSpellable (setting_of g) → IsExplained (setting_of g) budget report

abbrev pub ReportsExplanation : Graphs → ℕ → Result Report InputError → Type 0
ReportsExplanation g budget result =
    MatchResult result (IsExplanationReport g budget) (IsUnfitError g.shapes g.present g.offered)

-- the report of an edited graph, whose text is read back as that graph
pub record IsEditedReport (made : Graph) (report : Report) : Type 0 where
  pub texts : report ≡ answer Done (graph_text made)
  pub read_back : AreLawful made → HasScope OfData made → NtText (graph_text made) OfData made

-- the report of a claim that was applied to data, or why it was not
abbrev pub ReportsEdited : Result Graph ApplyRefusal → Result Report InputError → Type 0
ReportsEdited (Ok made) result = Makes (IsEditedReport made) result
ReportsEdited (Err ClaimsNoPair) result = result ≡ Err (Refused (OfTheClaim NotOfPair))
ReportsEdited (Err (OutsideData number)) result = result ≡ Err (Refused (OfTheClaim (PairOutside number)))
ReportsEdited (Err NoMemory) result = result ≡ Err OutOfMemory

-- the report of why a command has no answer
abbrev pub IsErrorReport : InputError → Report → Type 0
IsErrorReport (Unread role) report = report ≡ note Read (read_line role)
IsErrorReport (Refused refusal) report = report ≡ note Input (input_line refusal)
IsErrorReport OutOfMemory report = ⊥
