-- The right answers to the words, over what is held under the names. A new command adds a line to `statuses_of`
-- and one to `IsAnswer`, with the records that the latter names.
use Rattle.std.specs.Prelude.{◌≡◌, ◌≢◌, ℕ, ◌⊎◌, List, [], ◌∷◌, None, Some, Result, Ok, Err}
use Rattle.rdf_terms.specs.Graph.{Graph}
use Rattle.rdf_terms.specs.declared.term.Scope.TheVariants.{Data as OfData}
use Rattle.ntriples_io.specs.CanonicalText.{graph_text}
use Rattle.ntriples_io.specs.Text.{NtText}
use Rattle.std.specs.List.Sorted.{IsStrictlySortedBy}
use Rattle.shapes_graph.specs.Conformance as shacl
use Rattle.shapes_graph.specs.Results.{IsResult, HasNoResult}
use Rattle.core_constraints.specs.declared.result_rows.ResultRow.{ResultRow}
use Rattle.core_constraints.specs.Rows.{row_cmp, AreRowsOf}
use Rattle.report_writer.specs.Report.{report_text}
use Rattle.proof_documents.specs.Document.{Document as Claim}
use Rattle.proof_documents.specs.Applying.{Edits}
use Rattle.shelf_io.specs.Held.{Held}
use Rattle.command_words.specs.declared.words.Command.{Command}
use Rattle.command_words.specs.declared.words.Command.TheVariants.{Validate, Explain, Apply, Check}
use Rattle.command_words.specs.Words.{words_of}
use Rattle.document_input.specs.declared.role.Role.{Role}
use Rattle.document_input.specs.declared.refusal.InputRefusal.{InputRefusal}
use Rattle.document_input.specs.declared.error.InputError.TheVariants.{Unread}
use Rattle.document_input.specs.NamedDocument.{NamedDocument}
use Rattle.document_input.specs.Reading.{IsErrorIn}
use Rattle.document_input.specs.Told.{Change, ShelfTold}
use Rattle.explain_cli.specs.declared.report.Report.{Report}
use Rattle.explain_cli.specs.declared.status.Status.{Status}
use Rattle.explain_cli.specs.declared.status.Status.TheVariants.{Done, No, Usage, Input, Read, Spent}
use Rattle.explain_cli.specs.Explanations.{IsExplained}
use Rattle.explain_cli.specs.Input.{Contents, documents_of, Names, names, Graphs, IsInput, AreApplied, RefusesIn}
use Rattle.explain_cli.specs.Input.{IsValidationInput, IsCheckInput, setting_of}
use Rattle.explain_cli.specs.Notes.{usage_line, input_line, read_line}
use Rattle.explain_cli.specs.Reports.{answer, note}
use Rattle.explain_cli.specs.Verdicts.{Judges}

-- the status is one of these
abbrev pub IsOneOf : List Status → Status → Type 0
IsOneOf [] status = ⊥
IsOneOf (one ∷ others) status = (status ≡ one) ⊎ IsOneOf others status

-- the statuses that a command answers with where nothing fails and its input is not refused
abbrev pub statuses_of : Command → List Status
statuses_of (Validate shapes present) = Done ∷ No ∷ []
statuses_of (Explain shapes present offered conflicts) = Done ∷ No ∷ Spent ∷ []
statuses_of (Apply present document) = Done ∷ []
statuses_of (Check shapes present offered document) = Done ∷ No ∷ []

-- ---- validate

-- out is the report without a result: the data has none, and it isn't so that it does not conform
pub record ReportsNone (shapes_name data_name : List ℕ) (held : Contents) (report : Report) : Type 0 where
  pub shapes : Graph
  pub present : Graph
  pub input : IsValidationInput shapes_name data_name held shapes present
  pub none : HasNoResult shapes present
  pub conforming : ¬ (¬ (shacl.Conforms shapes present))
  pub texts : report ≡ answer Done (report_text [])

-- out is the report of exactly the results of the data, of which there are some, sorted by their fields, and the data
-- does not conform
pub record ReportsResults (shapes_name data_name : List ℕ) (held : Contents) (report : Report) : Type 0 where
  pub shapes : Graph
  pub present : Graph
  pub input : IsValidationInput shapes_name data_name held shapes present
  pub rows : List ResultRow
  pub some : rows ≢ []
  pub exact : AreRowsOf (IsResult shapes present) rows
  pub sorted : IsStrictlySortedBy row_cmp rows
  pub violated : ¬ (shacl.Conforms shapes present)
  pub texts : report ≡ answer No (report_text rows)

-- ---- explain

-- out is the document of an accepted proof: of a minimal pair for the graphs of the named documents, or that no pair
-- explains, or of as many steps as the budget
pub record ExplainsGraphs (names : Names) (budget : ℕ) (held : Contents) (report : Report) : Type 0 where
  pub graphs : Graphs
  pub input : IsInput names held graphs
  pub explained : IsExplained (setting_of graphs) budget report

-- ---- apply

-- out is the canonical text of the data as the claim edits it, and is read back as that graph
pub record WritesEdited (data_name claim_name : List ℕ) (held : Contents) (report : Report) : Type 0 where
  pub present : Graph
  pub claim : Claim
  pub documents : AreApplied data_name claim_name held present claim
  pub made : Graph
  pub edits : Edits present claim made
  pub texts : report ≡ answer Done (graph_text made)
  pub read_back : NtText (graph_text made) OfData made

-- ---- check

-- the claim is accepted, or the notes say why it is not
pub record JudgesClaim (names : Names) (claim_name : List ℕ) (held : Contents) (report : Report) : Type 0 where
  pub graphs : Graphs
  pub claim : Claim
  pub input : IsCheckInput names claim_name held graphs claim
  pub verdict : Judges (setting_of graphs) claim report

-- ---- every command

-- the answers of a command to an input that is not refused
abbrev pub IsAnswer : Command → Contents → Report → Type 0
IsAnswer (Validate shapes present) held report =
    ReportsNone shapes present held report ⊎ ReportsResults shapes present held report
IsAnswer (Explain shapes present offered conflicts) held report =
    ExplainsGraphs (names shapes present offered) conflicts held report
IsAnswer (Apply present document) held report = WritesEdited present document held report
IsAnswer (Check shapes present offered document) held report =
    JudgesClaim (names shapes present offered) document held report

-- an answer, where the shelf tells what it holds; where it does not, the status alone is known
abbrev pub IsAnswerIn : Command → Held → Report → Type 0
IsAnswerIn command None report = IsOneOf (statuses_of command) report.status
IsAnswerIn command (Some held) report = IsAnswer command held report

-- the notes name the first refusal of the input
pub record NamesRefusal (command : Command) (held : Held) (report : Report) : Type 0 where
  pub refusal : InputRefusal
  pub first : RefusesIn command held refusal
  pub texts : report ≡ note Input (input_line refusal)

-- The notes name the role of a document that could not be read: the shelf's count for its name rose. Those
-- before it are in order, where the shelf tells what it holds.
pub record NamesReadFault (documents : List NamedDocument) (shelf : Change ShelfTold) (report : Report) : Type 0 where
  pub role : Role
  pub first : IsErrorIn shelf documents (Unread role)
  pub texts : report ≡ note Read (read_line role)

-- what a command means to write
abbrev pub CommandMeans : Command → Change ShelfTold → Report → Type 0
CommandMeans command shelf report =
    IsAnswerIn command shelf.before.held report
    ⊎ NamesRefusal command shelf.before.held report
    ⊎ NamesReadFault (documents_of command) shelf report

-- what a call means to write, by what its words are
abbrev pub MeansFor : Result Command ℕ → Change ShelfTold → Report → Type 0
MeansFor (Err position) shelf report = report ≡ note Usage (usage_line position)
MeansFor (Ok command) shelf report = CommandMeans command shelf report

abbrev pub Means : List (List ℕ) → Change ShelfTold → Report → Type 0
Means words shelf report = MeansFor (words_of words) shelf report
