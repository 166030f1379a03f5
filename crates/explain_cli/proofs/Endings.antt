-- The status of what a call means to write, and how a call ends.
use Rattle.std.proofs.Common.{◌≡◌, ◌≢◌, ℕ, ◌⊎◌, inl, inr, List, [], ◌∷◌, None, Some, Result, Ok, sym, ap, ◌∙◌, subst}
use Rattle.shelf_io.specs.Held.{Held}
use Rattle.repair_problem.specs.Setting.{Setting}
use Rattle.proof_documents.specs.Document.{Document as Claim}
use Rattle.command_words.specs.declared.words.Command.{Command}
use Rattle.command_words.specs.declared.words.Command.TheVariants.{Validate, Explain, Apply, Check}
use Rattle.command_words.specs.Words.{words_of}
use Rattle.document_input.specs.Told.{Change, ShelfTold}
use Rattle.explain_cli.specs.declared.report.Report.{Report}
use Rattle.explain_cli.specs.declared.status.Status.{Status}
use Rattle.explain_cli.specs.declared.status.Status.TheVariants.{Done, No, Input, Read, Write, Memory, Spent}
use Rattle.explain_cli.specs.Answer.{IsOneOf, statuses_of, IsAnswer, IsAnswerIn, CommandMeans, MeansFor}
use Rattle.explain_cli.specs.Causes.{cut_short}
use Rattle.explain_cli.specs.Explanations.{IsExplained}
use Rattle.explain_cli.specs.Input.{Contents, Refuses, RefusesIn}
use Rattle.explain_cli.specs.Outcome.{SinkTold, Outcome}
use Rattle.explain_cli.specs.Verdicts.{Judges}
use Rattle.explain_cli.proofs.Ready.{IsReady}

-- ---- the statuses of answers

-- the statuses that some command answers with
abbrev pub own : List Status
own = Done ∷ No ∷ Spent ∷ []

pub own_statuses : (command : Command) (status : Status) → IsOneOf (statuses_of command) status → IsOneOf own status
own_statuses (Validate s p) status (inl e) = inl e
own_statuses (Validate s p) status (inr (inl e)) = inr (inl e)
own_statuses (Validate s p) status (inr (inr e)) = absurd e
own_statuses (Explain s p o n) status is = is
own_statuses (Apply p d) status (inl e) = inl e
own_statuses (Apply p d) status (inr e) = absurd e
own_statuses (Check s p o d) status (inl e) = inl e
own_statuses (Check s p o d) status (inr (inl e)) = inr (inl e)
own_statuses (Check s p o d) status (inr (inr e)) = absurd e

judged_status : (s : Setting) (claim : Claim) (report : Report) → Judges s claim report → IsOneOf (Done ∷ No ∷ []) report.status
judged_status s claim report (inl accepts) = inl (ap (λ (r : Report). r.status) accepts.texts)
judged_status s claim report (inr rejects) = inr (inl (ap (λ (r : Report). r.status) rejects.texts))

explained_status : (s : Setting) (budget : ℕ) (report : Report) → IsExplained s budget report → IsOneOf (Done ∷ No ∷ Spent ∷ []) report.status
explained_status s budget report (inl found) = inl (ap (λ (r : Report). r.status) found.written.texts)
explained_status s budget report (inr (inl none)) = inr (inl (ap (λ (r : Report). r.status) none.written.texts))
explained_status s budget report (inr (inr spent)) = inr (inr (inl (ap (λ (r : Report). r.status) spent.written.texts)))

pub answer_status : (command : Command) (held : Contents) (report : Report) → IsAnswer command held report → IsOneOf (statuses_of command) report.status
answer_status (Validate s p) held report (inl none) = inl (ap (λ (r : Report). r.status) none.texts)
answer_status (Validate s p) held report (inr some) = inr (inl (ap (λ (r : Report). r.status) some.texts))
answer_status (Explain s p o n) held report answer = explained_status _ n report answer.explained
answer_status (Apply p d) held report written = inl (ap (λ (r : Report). r.status) written.texts)
answer_status (Check s p o d) held report judged = judged_status _ _ report judged.verdict

-- an answer shows that the input is in order
pub answer_ready : (command : Command) (held : Contents) (report : Report) → IsAnswer command held report → IsReady command held
answer_ready (Validate s p) held report (inl none) = (none.shapes, none.present, none.input)
answer_ready (Validate s p) held report (inr some) = (some.shapes, some.present, some.input)
answer_ready (Explain s p o n) held report answer = (answer.graphs, answer.input)
answer_ready (Apply p d) held report written =
    record { present = written.present; claim = written.claim; documents = written.documents; made = written.made; edits = written.edits }
answer_ready (Check s p o d) held report judged = (judged.graphs, judged.claim, judged.input)

-- ---- every command

pub status_in : (command : Command) (held : Held) (report : Report) → IsAnswerIn command held report → IsOneOf (statuses_of command) report.status
status_in command None report answer = answer
status_in command (Some held) report answer = answer_status command held report answer

pub not_own : (s : Status) → s ≢ Done → s ≢ No → s ≢ Spent → IsOneOf own s → ⊥
not_own s done none spent (inl e) = done e
not_own s done none spent (inr (inl e)) = none e
not_own s done none spent (inr (inr (inl e))) = spent e
not_own s done none spent (inr (inr (inr e))) = e

pub not_cut : (s : Status) → s ≢ Read → s ≢ Write → s ≢ Memory → IsOneOf cut_short s → ⊥
not_cut s read write memory (inl e) = read e
not_cut s read write memory (inr (inl e)) = write e
not_cut s read write memory (inr (inr (inl e))) = memory e
not_cut s read write memory (inr (inr (inr e))) = e

-- a command means no other status than its own, that of a refusal and that of a read fault
command_status : (command : Command) (shelf : Change ShelfTold) (report : Report) → CommandMeans command shelf report → IsOneOf (Input ∷ Read ∷ own) report.status
command_status command shelf report (inl answer) = inr (inr (own_statuses command report.status (status_in command shelf.before.held report answer)))
command_status command shelf report (inr (inl refusal)) = inl (ap (λ (r : Report). r.status) refusal.texts)
command_status command shelf report (inr (inr fault)) = inr (inl (ap (λ (r : Report). r.status) fault.texts))

not_of_command : (s : Status) → s ≢ Input → s ≢ Read → (IsOneOf own s → ⊥) → IsOneOf (Input ∷ Read ∷ own) s → ⊥
not_of_command s input read others (inl e) = input e
not_of_command s input read others (inr (inl e)) = read e
not_of_command s input read others (inr (inr is)) = others is

pub not_answered : (command : Command) (shelf : Change ShelfTold) (report : Report) (s : Status) → s ≢ Input → s ≢ Read → (IsOneOf own s → ⊥) → CommandMeans command shelf report → s ≡ report.status → ⊥
not_answered command shelf report s input read others answers e =
    not_of_command s input read others (subst (IsOneOf (Input ∷ Read ∷ own)) (sym e) (command_status command shelf report answers))

-- ---- how a call ends

-- the call ends with a report that was meant, or a sink or the memory failed
abbrev pub EndedAs : Result Command ℕ → Change ShelfTold → Status → Type 0
EndedAs r shelf status = ((report : Report) × (status ≡ report.status) × MeansFor r shelf report) ⊎ IsOneOf (Write ∷ Memory ∷ []) status

pub ended : (words : List (List ℕ)) (shelf : Change ShelfTold) (out notes : Change SinkTold) (status : Status) → Outcome words shelf out notes status → EndedAs (words_of words) shelf status
ended words shelf out notes status (inl reports) =
    elim reports.written [
      | inl whole ↦ inl (reports.report, whole.0, reports.meant)
      | inr part ↦ inr (inl part.0)
    ]
ended words shelf out notes status (inr nothing) = inr (inr (inl nothing.memory))

-- a command over documents whose bytes are told: its input is refused, or it has its answer, or it is cut short
abbrev pub Settled : Command → Contents → Status → Type 0
Settled command held status =
    ((status ≡ Input) × Refuses command held) ⊎ ((report : Report) × (status ≡ report.status) × IsAnswer command held report) ⊎ IsOneOf cut_short status

settles : (command : Command) (held : Contents) (shelf : Change ShelfTold) (status : Status) (report : Report) → shelf.before.held ≡ Some held → status ≡ report.status → CommandMeans command shelf report → Settled command held status
settles command held shelf status report told e (inl answer) = inr (inl (report, e, subst (λ (h : Held). IsAnswerIn command h report) told answer))
settles command held shelf status report told e (inr (inl refusal)) =
    inl (e ∙ ap (λ (r : Report). r.status) refusal.texts, (refusal.refusal, subst (λ (h : Held). RefusesIn command h refusal.refusal) told refusal.first))
settles command held shelf status report told e (inr (inr fault)) = inr (inr (inl (e ∙ ap (λ (r : Report). r.status) fault.texts)))

pub settled : (command : Command) (held : Contents) (shelf : Change ShelfTold) (status : Status) → shelf.before.held ≡ Some held → EndedAs (Ok command) shelf status → Settled command held status
settled command held shelf status told (inl end) = settles command held shelf status end.0 told end.1 end.2
settled command held shelf status told (inr cut) = inr (inr (inr cut))
