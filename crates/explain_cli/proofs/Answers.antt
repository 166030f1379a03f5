-- What was made of the documents is the answer of the command, and an error of the input is named in the notes.
use Rattle.std.proofs.Common.{IsTrue, ◌≡◌, ◌≢◌, ◌↔◌, List, [], ◌∷◌, ℕ, ◌<◌, Option, None, Some, Result, Ok, Err, OnOk, IfErr, refl, sym, ap, ◌∙◌, subst, ◌⊎◌, inl, inr}
use Rattle.rdf_terms.specs.declared.term.Scope.TheVariants.{Data as OfData}
use Rattle.rdf_terms.specs.Graph.{Graph, empty, of_list, without}
use Rattle.repair_problem.specs.Setting.{Setting}
use Rattle.rdf_terms.specs.declared.term.Term.{Term}
use Rattle.ntriples_io.specs.RoundTrip.{HasScope}
use Rattle.ntriples_io.specs.Text.{AreLawful}
use Rattle.shelf_io.specs.Held.{Held}
use Rattle.std.specs.List.Sorted.{IsStrictlySortedBy}
use Rattle.rdf_terms.proofs.Members.{in_none}
use Rattle.shapes_profile.specs.Profile.{IsInProfile}
use Rattle.shapes_graph.specs.Conformance.{Conforms}
use Rattle.shapes_graph.specs.OrderLiterals.{IsCompared, is_out_of_reach}
use Rattle.shapes_graph.specs.Results.{IsResult, HasNoResult}
use Rattle.core_constraints.specs.declared.result_rows.ResultRow.{ResultRow}
use Rattle.core_constraints.specs.Rows.{row_cmp, AreRowsOf}
use Rattle.proof_documents.specs.declared.refusal.ApplyRefusal.{ApplyRefusal}
use Rattle.proof_documents.specs.declared.refusal.ApplyRefusal.TheVariants.{NoPair as ClaimsNoPair, OutsideData, OutOfMemory as NoMemory}
use Rattle.proof_documents.specs.Document.{Document as Claim, IsWellFormed}
use Rattle.proof_documents.specs.Applying.{Applies, Edits}
use Rattle.proof_documents.proofs.Applied.{edited_lawful}
use Rattle.command_words.specs.declared.words.Command.{Command}
use Rattle.command_words.specs.declared.words.Command.TheVariants.{Validate, Explain, Apply, Check}
use Rattle.certificates.specs.declared.refusal.CheckRefusal.{CheckRefusal}
use Rattle.certificates.specs.declared.refusal.CheckRefusal.TheVariants as reason
use Rattle.certificates.specs.Checks.{IsVerdict, IsRejection, IsNotAccepted, IsAcceptedDocument}
use Rattle.certificates.specs.Shown.{IsShown}
use Rattle.document_input.specs.declared.role.Role.TheVariants.{Shapes, Data, Offered}
use Rattle.document_input.specs.declared.error.InputError.{InputError}
use Rattle.document_input.specs.declared.error.InputError.TheVariants.{Unread, Refused, OutOfMemory}
use Rattle.document_input.specs.declared.refusal.ClaimRefusal.{ClaimRefusal}
use Rattle.document_input.specs.declared.refusal.ClaimRefusal.TheVariants.{NoPair as NotOfPair, PairOutside}
use Rattle.document_input.specs.declared.refusal.InputRefusal.{InputRefusal}
use Rattle.document_input.specs.declared.refusal.InputRefusal.TheVariants.{Claim as OfTheClaim}
use Rattle.document_input.specs.NamedDocument.{IsGraph, IsClaim}
use Rattle.document_input.specs.Reading.{Holds, HoldsIn}
use Rattle.document_input.specs.Told.{Change, ShelfTold}
use Rattle.document_input.proofs.Errors.{StopsIn}
use Rattle.explain_cli.specs.declared.report.Report.{Report}
use Rattle.explain_cli.specs.declared.status.Status.TheVariants.{Done, No}
use Rattle.explain_cli.specs.Answer.{IsAnswerIn, CommandMeans}
use Rattle.explain_cli.specs.Commands.{IsErrorOf, IsErrorReport, AnswersCommand, ReportsRows, IsValidationReport, ReportsValidation, IsExplanationReport, ReportsExplanation, IsEditedReport, ReportsEdited, IsVerdictReport, IsCheckReport, ReportsVerdict}
use Rattle.explain_cli.specs.Input.{Contents, documents_of, AreGraphsOf, AreComparable, IsUnfitInput, Names, names, Graphs, AreHeld, AreApplied, IsUnfitFor, AreJudged, graphs_of, setting_of, RefusesDocument, RefusesIn}
use Rattle.explain_cli.specs.Verdicts.{Accepts, Rejects, Judges}
use Rattle.explain_cli.proofs.Explained.{spellable}

-- ---- every command

-- the first error of the documents is why a command has no answer
pub stops : (command : Command) {shelf : Change ShelfTold} {error : InputError} → StopsIn shelf (documents_of command) error → IsErrorOf command shelf error
stops command {shelf = shelf} {error = Unread role} stop = stop.first
stops command {shelf = shelf} {error = Refused refusal} stop = told command shelf.before.held refusal stop.first
  where
    told : (command : Command) (held : Held) (refusal : InputRefusal) → RefusesDocument (documents_of command) held refusal → RefusesIn command held refusal
    told command None refusal first = tt
    told command (Some held) refusal first = inl first
stops command {shelf = shelf} {error = OutOfMemory} stop = tt

-- the result is that the input is refused
refused : (command : Command) (shelf : Change ShelfTold) (refusal : InputRefusal) (result : Result Report InputError) → RefusesIn command shelf.before.held refusal → result ≡ Err (Refused refusal) → AnswersCommand command shelf result
refused command shelf refusal result first is = subst (AnswersCommand command shelf) (sym is) first

-- the report of an error is that of the command
pub error_answers : (command : Command) (shelf : Change ShelfTold) (error : InputError) (report : Report) → IsErrorOf command shelf error → IsErrorReport error report → CommandMeans command shelf report
error_answers command shelf (Unread role) report cause texts = inr (inr (record { role = role; first = cause; texts = texts }))
error_answers command shelf (Refused refusal) report cause texts = inr (inl (record { refusal = refusal; first = cause; texts = texts }))
error_answers command shelf OutOfMemory report cause texts = absurd texts

-- the graph of a document with the blank nodes of the data is lawful
abbrev pub IsLawfulData : Graph → Type 0
IsLawfulData g = AreLawful g × HasScope OfData g

-- ---- validate

-- what was found of shapes that were read of a graph
pub validation_of : (s t g o : Graph) (rows : List ResultRow) (report : Report) → (t ≡ s) × IsInProfile s → o ≡ empty → AreComparable s g o → AreRowsOf (IsResult t g) rows → IsStrictlySortedBy row_cmp rows
    → (rows ≢ []) ↔ ¬ (Conforms t g) → ReportsRows rows report → IsValidationReport s g report
validation_of s t g o rows report is none comparable exact sorted some texts =
    record {
      profile = is.1;
      comparable = subst (λ (h : Graph). AreComparable s g h) none comparable;
      rows = rows;
      exact = subst (λ (u : Graph). AreRowsOf (IsResult u g) rows) is.0 exact;
      sorted = sorted;
      some = subst (λ (u : Graph). (rows ≢ []) ↔ ¬ (Conforms u g)) is.0 some;
      texts = texts;
    }

-- the graphs are those of the documents, where the shelf tells
pub record ReadsTwo (held : Held) (s p : List ℕ) (t g : Graph) : Type 0 where
  pub shapes : HoldsIn (IsGraph Shapes s t) held s
  pub present : HoldsIn (IsGraph Data p g) held p

are_validated : (held : Contents) (s p : List ℕ) (t g : Graph) → ReadsTwo (Some held) s p t g → AreGraphsOf s p held t g
are_validated held s p t g reads = record { shapes = reads.shapes; present = reads.present }

no_rows : (t g : Graph) → AreRowsOf (IsResult t g) [] → HasNoResult t g
no_rows t g exact h = in_none h.0 ((exact h.0).1 h.1)

validated : (s p : List ℕ) (held : Held) (t g : Graph) (report : Report) (rows : List ResultRow) → ReadsTwo held s p t g → IsInProfile t → AreComparable t g empty → AreRowsOf (IsResult t g) rows → IsStrictlySortedBy row_cmp rows → (rows ≢ []) ↔ ¬ (Conforms t g) → ReportsRows rows report
    → IsAnswerIn (Validate s p) held report
validated s p None t g report [] reads profile comparable exact sorted some texts = inl (ap (λ (r : Report). r.status) texts)
validated s p None t g report (r ∷ rows) reads profile comparable exact sorted some texts = inr (inl (ap (λ (r : Report). r.status) texts))
validated s p (Some held) t g report [] reads profile comparable exact sorted some texts =
    inl (record { shapes = t; present = g; input = record { documents = are_validated held s p t g reads; profile = profile; comparable = comparable }; none = no_rows t g exact; conforming = λ broken. some.1 broken refl; texts = texts })
validated s p (Some held) t g report (r ∷ rows) reads profile comparable exact sorted some texts =
    inr (record { shapes = t; present = g; input = record { documents = are_validated held s p t g reads; profile = profile; comparable = comparable }; rows = r ∷ rows; some = λ e. cc; exact = exact; sorted = sorted; violated = some.0 (λ e. cc); texts = texts })

unfit_input : (s p : List ℕ) (held : Held) (t g : Graph) (refusal : InputRefusal) → ReadsTwo held s p t g → IsUnfitInput t g empty refusal → RefusesIn (Validate s p) held refusal
unfit_input s p None t g refusal reads unfit = tt
unfit_input s p (Some held) t g refusal reads unfit = inr (record { shapes = t; present = g; documents = are_validated held s p t g reads; unfit = unfit })

pub validates : (s p : List ℕ) (shelf : Change ShelfTold) (t g : Graph) (result : Result Report InputError) → ReadsTwo shelf.before.held s p t g → ReportsValidation t g result → AnswersCommand (Validate s p) shelf result
validates s p shelf t g (Ok report) reads is = validated s p shelf.before.held t g report is.rows reads is.profile is.comparable is.exact is.sorted is.some is.texts
validates s p shelf t g (Err (Unread role)) reads is = absurd is
validates s p shelf t g (Err (Refused refusal)) reads is = unfit_input s p shelf.before.held t g refusal reads is
validates s p shelf t g (Err OutOfMemory) reads is = tt

-- ---- explain

-- the graphs are those of the documents, where the shelf tells
pub record ReadsGraphs (held : Held) (n : Names) (g : Graphs) : Type 0 where
  pub shapes : HoldsIn (IsGraph Shapes n.shapes g.shapes) held n.shapes
  pub present : HoldsIn (IsGraph Data n.present g.present) held n.present
  pub offered : HoldsIn (IsGraph Offered n.offered g.offered) held n.offered

are_held : (held : Contents) (n : Names) (g : Graphs) → ReadsGraphs (Some held) n g → AreHeld n held g
are_held held n g reads = record { shapes = reads.shapes; present = reads.present; offered = reads.offered }

explained : (s p o : List ℕ) (n : ℕ) (held : Held) (g : Graphs) (report : Report) → ReadsGraphs held (names s p o) g → IsLawfulData g.present → IsLawfulData g.offered → IsExplanationReport g n report → IsAnswerIn (Explain s p o n) held report
explained s p o n None g report reads mine theirs is = is.status
explained s p o n (Some held) g report reads mine theirs is =
    let spelled = spellable g.present g.offered mine theirs g.shapes in
    record { graphs = g; input = record { documents = are_held held (names s p o) g reads; profile = is.profile; comparable = is.comparable }; explained = is.explained spelled }

unfit_for_repair : (s p o : List ℕ) (n : ℕ) (held : Held) (g : Graphs) (refusal : InputRefusal) → ReadsGraphs held (names s p o) g → IsUnfitInput g.shapes g.present g.offered refusal → RefusesIn (Explain s p o n) held refusal
unfit_for_repair s p o n None g refusal reads unfit = tt
unfit_for_repair s p o n (Some held) g refusal reads unfit = inr (record { graphs = g; documents = are_held held (names s p o) g reads; unfit = unfit })

pub explains : (s p o : List ℕ) (n : ℕ) (shelf : Change ShelfTold) (g : Graphs) (result : Result Report InputError) → ReadsGraphs shelf.before.held (names s p o) g → IsLawfulData g.present → IsLawfulData g.offered → ReportsExplanation g n result → AnswersCommand (Explain s p o n) shelf result
explains s p o n shelf g (Ok report) reads mine theirs is = explained s p o n shelf.before.held g report reads mine theirs is
explains s p o n shelf g (Err (Unread role)) reads mine theirs is = absurd is
explains s p o n shelf g (Err (Refused refusal)) reads mine theirs is = unfit_for_repair s p o n shelf.before.held g refusal reads is
explains s p o n shelf g (Err OutOfMemory) reads mine theirs is = tt

-- ---- apply

-- the data and the claim are those of the documents, where the shelf tells
pub record ReadsClaim (held : Held) (p d : List ℕ) (g : Graph) (claim : Claim) : Type 0 where
  pub present : HoldsIn (IsGraph Data p g) held p
  pub claimed : HoldsIn (IsClaim claim) held d

are_applied : (held : Contents) (p d : List ℕ) (g : Graph) (claim : Claim) → ReadsClaim (Some held) p d g claim → AreApplied p d held g claim
are_applied held p d g claim reads = record { present = reads.present; claimed = reads.claimed }

well_formed : (claim : Claim) (held : Option (List ℕ)) → Holds (IsClaim claim) held → IsWellFormed claim
well_formed claim None holds = absurd holds
well_formed claim (Some bytes) holds = holds.text.well_formed

lawful_edit : (held : Contents) (p d : List ℕ) (g : Graph) (claim : Claim) (made : Graph) → AreApplied p d held g claim → IsLawfulData g → Edits g claim made → IsLawfulData made
lawful_edit held p d g claim made reads old edits =
    edited_lawful g claim made (well_formed claim (held d) reads.claimed) edits old.0 old.1

edited : (p d : List ℕ) (held : Held) (g : Graph) (claim : Claim) (made : Graph) (report : Report) → ReadsClaim held p d g claim → IsLawfulData g → Edits g claim made → IsEditedReport made report → IsAnswerIn (Apply p d) held report
edited p d None g claim made report reads old edits texts = inl (ap (λ (r : Report). r.status) texts.texts)
edited p d (Some held) g claim made report reads old edits texts =
    let documents = are_applied held p d g claim reads in
    let lawful = lawful_edit held p d g claim made documents old edits in
    record { present = g; claim = claim; documents = documents; made = made; edits = edits; texts = texts.texts; read_back = texts.read_back lawful.0 lawful.1 }

unfit : (p d : List ℕ) (held : Held) (g : Graph) (claim : Claim) (reason : ClaimRefusal) → ReadsClaim held p d g claim → IsUnfitFor g claim reason → RefusesIn (Apply p d) held (OfTheClaim reason)
unfit p d None g claim reason reads fault = tt
unfit p d (Some held) g claim reason reads fault = inr (record { present = g; claim = claim; documents = are_applied held p d g claim reads; reason = reason; is = refl; unfit = fault })

pub applies : (p d : List ℕ) (shelf : Change ShelfTold) (g : Graph) (claim : Claim) (made : Result Graph ApplyRefusal) (result : Result Report InputError) → ReadsClaim shelf.before.held p d g claim → IsLawfulData g → Applies g claim made → ReportsEdited made result
    → AnswersCommand (Apply p d) shelf result
applies p d shelf g claim (Ok made) (Ok report) reads old edits texts = edited p d shelf.before.held g claim made report reads old edits texts
applies p d shelf g claim (Ok made) (Err error) reads old edits is = subst (IsErrorOf (Apply p d) shelf) (sym is) tt
applies p d shelf g claim (Err ClaimsNoPair) result reads old fault is = refused (Apply p d) shelf _ result (unfit p d shelf.before.held g claim NotOfPair reads fault) is
applies p d shelf g claim (Err (OutsideData number)) result reads old fault is = refused (Apply p d) shelf _ result (unfit p d shelf.before.held g claim (PairOutside number) reads fault) is
applies p d shelf g claim (Err NoMemory) result reads old fault is = subst (AnswersCommand (Apply p d) shelf) (sym is) tt

-- ---- check

-- the graphs and the claim are those of the documents, where the shelf tells
pub record ReadsJudged (held : Held) (n : Names) (d : List ℕ) (g : Graphs) (claim : Claim) : Type 0 where
  pub graphs : ReadsGraphs held n g
  pub claimed : HoldsIn (IsClaim claim) held d

are_judged : (held : Contents) (n : Names) (d : List ℕ) (g : Graphs) (claim : Claim) → ReadsJudged (Some held) n d g claim → AreJudged n d held g claim
are_judged held n d g claim reads = record { graphs = are_held held n g reads.graphs; claimed = reads.claimed }

-- the report of a verdict is that of the claim
pub judges : (s : Setting) (claim : Claim) (verdict : Result (Unit {0}) CheckRefusal) (report : Report) → IsVerdict s claim verdict → OnOk verdict (IsShown s (of_list claim.adds) (of_list claim.deletes) claim.proof)
    → IfErr verdict (λ e. IsNotAccepted s claim e) → IsVerdictReport claim.proof.claim verdict report → Judges s claim report
judges s claim (Ok u) report accepted shown not_accepted texts = inl (record { accepted = accepted; shown = shown; texts = texts })
judges s claim (Err e) report first shown not_accepted texts =
    inr (record { reason = e; stated = texts.0; first = first; not_accepted = not e texts.0 not_accepted; texts = texts.1 })
  where
    not : (e : CheckRefusal) → e ≢ reason.OutOfMemory → IsNotAccepted s claim e → ¬ (IsAcceptedDocument s claim)
    not (reason.PairOutside n) stated h = h
    not (reason.NotBelow n) stated h = h
    not (reason.NotConforming n) stated h = h
    not (reason.BadRule n) stated h = h
    not (reason.BadStep n) stated h = h
    not reason.WrongClaim stated h = h
    not reason.NotEmpty stated h = h
    not reason.OutOfMemory stated h = absurd (stated refl)

-- the report of a problem that was made of the graphs
pub check_report_of : (s p o t : Graph) (problem : Setting) (claim : Claim) (verdict : Result (Unit {0}) CheckRefusal) (report : Report) → (t ≡ s) × IsInProfile s → AreComparable s p o → problem.shapes ≡ t → problem.present ≡ p → problem.offers ≡ without o p
    → IsVerdict problem claim verdict → OnOk verdict (IsShown problem (of_list claim.adds) (of_list claim.deletes) claim.proof) → IfErr verdict (λ e. IsNotAccepted problem claim e) → IsVerdictReport claim.proof.claim verdict report → IsCheckReport (graphs_of s p o) claim report
check_report_of s p o t problem claim verdict report is comparable shapes present offers judged shown not_accepted texts =
    let shapes_are : problem.shapes ≡ s = shapes ∙ is.0 in
    let same : problem ≡ setting_of (graphs_of s p o) = λ i. record { shapes = shapes_are i; present = present i; offers = offers i } in
    record { profile = is.1; comparable = comparable; verdict = subst (λ (q : Setting). Judges q claim report) same (judges problem claim verdict report judged shown not_accepted texts) }

check_status : (s : Setting) (claim : Claim) (report : Report) → Judges s claim report → (report.status ≡ Done) ⊎ ((report.status ≡ No) ⊎ ⊥)
check_status s claim report (inl accepts) = inl (ap (λ (r : Report). r.status) accepts.texts)
check_status s claim report (inr rejects) = inr (inl (ap (λ (r : Report). r.status) rejects.texts))

judged : (s p o d : List ℕ) (held : Held) (g : Graphs) (claim : Claim) (report : Report) → ReadsJudged held (names s p o) d g claim → IsCheckReport g claim report → IsAnswerIn (Check s p o d) held report
judged s p o d None g claim report reads is = check_status _ _ report is.verdict
judged s p o d (Some held) g claim report reads is =
    record {
      graphs = g;
      claim = claim;
      input = record { documents = are_judged held (names s p o) d g claim reads; profile = is.profile; comparable = is.comparable };
      verdict = is.verdict;
    }

unfit_graphs : (s p o d : List ℕ) (held : Held) (g : Graphs) (claim : Claim) (refusal : InputRefusal) → ReadsJudged held (names s p o) d g claim → IsUnfitInput g.shapes g.present g.offered refusal → RefusesIn (Check s p o d) held refusal
unfit_graphs s p o d None g claim refusal reads unfit = tt
unfit_graphs s p o d (Some held) g claim refusal reads unfit = inr (record { graphs = g; claim = claim; documents = are_judged held (names s p o) d g claim reads; unfit = unfit })

pub checks : (s p o d : List ℕ) (shelf : Change ShelfTold) (g : Graphs) (claim : Claim) (result : Result Report InputError) → ReadsJudged shelf.before.held (names s p o) d g claim → ReportsVerdict g claim result → AnswersCommand (Check s p o d) shelf result
checks s p o d shelf g claim (Ok report) reads is = judged s p o d shelf.before.held g claim report reads is
checks s p o d shelf g claim (Err (Unread role)) reads is = absurd is
checks s p o d shelf g claim (Err (Refused refusal)) reads is = unfit_graphs s p o d shelf.before.held g claim refusal reads is
checks s p o d shelf g claim (Err OutOfMemory) reads is = tt
