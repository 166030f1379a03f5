-- When each status comes, by how the call ends.
use Rattle.std.proofs.Common.{◌≡◌, ◌≢◌, ℕ, ◌⊎◌, inl, inr, List, [], ◌∷◌, Some, Result, Ok, Err, IsErr, refl, sym, ap, ◌∙◌, subst}
use Rattle.rdf_terms.specs.Graph.{Graph, of_list, without}
use Rattle.shapes_graph.specs.Conformance.{Conforms}
use Rattle.shelf_io.specs.Held.{Held}
use Rattle.repair_problem.specs.Repair.{Explains as DoesExplain, NoneExplains}
use Rattle.proof_documents.specs.Document.{Document as Claim}
use Rattle.certificates.specs.Checks.{IsAcceptedDocument}
use Rattle.command_words.specs.declared.words.Command.{Command}
use Rattle.command_words.specs.declared.words.Command.TheVariants.{Validate, Explain, Apply, Check}
use Rattle.command_words.specs.Words.{words_of}
use Rattle.document_input.specs.Told.{Change, ShelfTold}
use Rattle.document_input.proofs.Errors.{none_unread}
use Rattle.document_input.proofs.Unrefused.{one_claim}
use Rattle.explain_cli.specs.declared.report.Report.{Report}
use Rattle.explain_cli.specs.declared.status.Status.{Status}
use Rattle.explain_cli.specs.declared.status.Status.TheVariants.{Done, No, Usage, Input, Read, Write, Memory, Spent}
use Rattle.explain_cli.specs.Answer.{IsOneOf, statuses_of, IsAnswer, IsAnswerIn, CommandMeans, MeansFor}
use Rattle.explain_cli.specs.Causes.{cut_short, HasViolation, HasPair, HasNoPair, HasSmallBudget, HasRejection, ExplainCauses, CommandCauses, InputCauses, Searches, IsUndisturbed, Causes}
use Rattle.explain_cli.specs.Input.{Contents, documents_of, Names, names, Graphs, IsInput, setting_of, Refuses, RefusesIn}
use Rattle.explain_cli.specs.Outcome.{SinkTold, Outcome}
use Rattle.explain_cli.proofs.Endings.{own, own_statuses, answer_status, answer_ready, status_in, not_own, not_cut, not_answered, EndedAs, ended, Settled, settled}
use Rattle.explain_cli.proofs.Ready.{one_input, one_validated, ready_unrefused}

-- ---- the words

usage_only : (r : Result Command ℕ) (shelf : Change ShelfTold) (status : Status) → EndedAs r shelf status → status ≡ Usage → IsErr r
usage_only (Err position) shelf status end e = refl
usage_only (Ok command) shelf status (inl end) e =
    absurd (not_answered command shelf end.0 Usage (λ d. cc) (λ d. cc) (not_own Usage (λ d. cc) (λ d. cc) (λ d. cc)) end.2 (sym e ∙ end.1))
usage_only (Ok command) shelf status (inr cut) e = absurd (not_cut Usage (λ d. cc) (λ d. cc) (λ d. cc) (inr (subst (IsOneOf (Write ∷ Memory ∷ [])) e cut)))

usage_always : (r : Result Command ℕ) (shelf : Change ShelfTold) (status : Status) → EndedAs r shelf status → IsErr r → (status ≡ Usage) ⊎ IsOneOf (Write ∷ Memory ∷ []) status
usage_always (Err position) shelf status (inl end) wrong = inl (end.1 ∙ ap (λ (r : Report). r.status) end.2)
usage_always (Ok command) shelf status (inl end) wrong = absurd cc
usage_always r shelf status (inr cut) wrong = inr cut

-- only `explain` answers so
spent_command : (command : Command) → IsOneOf (statuses_of command) Spent → Searches (Ok command)
spent_command (Validate s p) (inl e) = absurd cc
spent_command (Validate s p) (inr (inl e)) = absurd cc
spent_command (Validate s p) (inr (inr e)) = absurd e
spent_command (Explain s p o n) is = tt
spent_command (Apply p d) (inl e) = absurd cc
spent_command (Apply p d) (inr e) = absurd e
spent_command (Check s p o d) (inl e) = absurd cc
spent_command (Check s p o d) (inr (inl e)) = absurd cc
spent_command (Check s p o d) (inr (inr e)) = absurd e

spent_meant : (command : Command) (shelf : Change ShelfTold) (report : Report) → CommandMeans command shelf report → report.status ≡ Spent → Searches (Ok command)
spent_meant command shelf report (inl answer) e = spent_command command (subst (IsOneOf (statuses_of command)) e (status_in command shelf.before.held report answer))
spent_meant command shelf report (inr (inl refusal)) e = let other = ap (λ (r : Report). r.status) refusal.texts in absurd cc
spent_meant command shelf report (inr (inr fault)) e = let other = ap (λ (r : Report). r.status) fault.texts in absurd cc

spent_only : (r : Result Command ℕ) (shelf : Change ShelfTold) (status : Status) → EndedAs r shelf status → status ≡ Spent → Searches r
spent_only (Err position) shelf status (inl end) e = let usage = ap (λ (r : Report). r.status) end.2 in let is = end.1 in absurd cc
spent_only (Ok command) shelf status (inl end) e = spent_meant command shelf end.0 end.2 (sym end.1 ∙ e)
spent_only r shelf status (inr cut) e = absurd (not_cut Spent (λ d. cc) (λ d. cc) (λ d. cc) (inr (subst (IsOneOf (Write ∷ Memory ∷ [])) e cut)))

-- ---- refusals of the input

input_only : (command : Command) (held : Contents) (status : Status) → Settled command held status → status ≡ Input → Refuses command held
input_only command held status (inl refused) e = refused.1
input_only command held status (inr (inl end)) e =
    absurd (not_own Input (λ d. cc) (λ d. cc) (λ d. cc) (subst (IsOneOf own) (sym end.1 ∙ e) (own_statuses command end.0.status (answer_status command held end.0 end.2))))
input_only command held status (inr (inr cut)) e = absurd (not_cut Input (λ d. cc) (λ d. cc) (λ d. cc) (subst (IsOneOf cut_short) e cut))

input_always : (command : Command) (held : Contents) (status : Status) → Settled command held status → Refuses command held → (status ≡ Input) ⊎ IsOneOf cut_short status
input_always command held status (inl refused) refuses = inl refused.0
input_always command held status (inr (inl end)) refuses = absurd (ready_unrefused command held (answer_ready command held end.0 end.2) refuses)
input_always command held status (inr (inr cut)) refuses = inr cut

-- ---- the status of `validate`

violated_only : (s p : List ℕ) (held : Contents) (status : Status) → Settled (Validate s p) held status → status ≡ No → HasViolation s p held
violated_only s p held status (inl refused) e = let other = refused.0 in absurd cc
violated_only s p held status (inr (inl end)) e =
    let is : No ≡ end.0.status = sym e ∙ end.1 in
    elim end.2 [ inl none ↦ let other = ap (λ (r : Report). r.status) none.texts in absurd cc | inr some ↦ (some.shapes, some.present, some.input, some.violated) ]
violated_only s p held status (inr (inr cut)) e = absurd (not_cut No (λ d. cc) (λ d. cc) (λ d. cc) (subst (IsOneOf cut_short) e cut))

violated_always : (s p : List ℕ) (held : Contents) (status : Status) → Settled (Validate s p) held status → HasViolation s p held → (status ≡ No) ⊎ IsOneOf cut_short status
violated_always s p held status (inl refused) violated = absurd (ready_unrefused (Validate s p) held (violated.0, violated.1, violated.2) refused.1)
violated_always s p held status (inr (inl end)) violated =
    elim end.2 [
      | inl none ↦
          let same = one_validated s p held violated.0 violated.1 none.shapes none.present violated.2.documents none.input.documents in
          absurd (none.conforming (subst (λ (t : Graph). ¬ (Conforms t none.present)) same.0 (subst (λ (g : Graph). ¬ (Conforms violated.0 g)) same.1 violated.3)))
      | inr some ↦ inl (end.1 ∙ ap (λ (r : Report). r.status) some.texts)
    ]
violated_always s p held status (inr (inr cut)) violated = inr cut

-- ---- the statuses of `explain`

-- a pair that explains, and none
pair_or_none : (n : Names) (held : Contents) (g h : Graphs) (adds deletes : Graph) → IsInput n held g → IsInput n held h → DoesExplain (Conforms g.shapes) g.present (without g.offered g.present) adds deletes → NoneExplains (Conforms h.shapes) h.present (without h.offered h.present) → ⊥
pair_or_none n held g h adds deletes a b explains none =
    let same = one_input n held h g b.documents a.documents in
    let unexplained = subst (λ (k : Graphs). NoneExplains (Conforms k.shapes) k.present (without k.offered k.present)) same none in
    unexplained adds deletes explains

module _ (s p o : List ℕ) (n : ℕ) (held : Contents) where
  abbrev Answered : Status → Type 0
  Answered status = (report : Report) × (status ≡ report.status) × IsAnswer (Explain s p o n) held report

  answered_pair : (status : Status) → Answered status → status ≡ Done → HasPair (names s p o) held
  answered_pair status end e =
      let is : Done ≡ end.0.status = sym e ∙ end.1 in
      elim end.2.explained [
        | inl found ↦ (end.2.graphs, of_list found.document.adds, of_list found.document.deletes, end.2.input, found.minimal.explains)
        | inr others ↦ elim others [
          | inl none ↦ let other = ap (λ (r : Report). r.status) none.written.texts in absurd cc
          | inr spent ↦ let other = ap (λ (r : Report). r.status) spent.written.texts in absurd cc
        ]
      ]

  answered_none : (status : Status) → Answered status → status ≡ No → HasNoPair (names s p o) held
  answered_none status end e =
      let is : No ≡ end.0.status = sym e ∙ end.1 in
      elim end.2.explained [
        | inl found ↦ let other = ap (λ (r : Report). r.status) found.written.texts in absurd cc
        | inr others ↦ elim others [
          | inl none ↦ (end.2.graphs, end.2.input, none.none)
          | inr spent ↦ let other = ap (λ (r : Report). r.status) spent.written.texts in absurd cc
        ]
      ]

  answered_spent : (status : Status) → Answered status → status ≡ Spent → HasSmallBudget (names s p o) n held
  answered_spent status end e =
      let is : Spent ≡ end.0.status = sym e ∙ end.1 in
      elim end.2.explained [
        | inl found ↦ let other = ap (λ (r : Report). r.status) found.written.texts in absurd cc
        | inr others ↦ elim others [
          | inl none ↦ let other = ap (λ (r : Report). r.status) none.written.texts in absurd cc
          | inr spent ↦ (end.2.graphs, end.2.input, spent.bound)
        ]
      ]

  -- a fact of the answer holds where the call was neither refused nor cut short
  of_answer : (own : Status) (P : Type 0) (status : Status) → own ≢ Input → own ≢ Read → own ≢ Write → own ≢ Memory → (Answered status → status ≡ own → P) → Settled (Explain s p o n) held status → status ≡ own → P
  of_answer own P status input read write memory tells (inl refused) e = absurd (input (sym e ∙ refused.0))
  of_answer own P status input read write memory tells (inr (inl end)) e = tells end e
  of_answer own P status input read write memory tells (inr (inr cut)) e = absurd (not_cut own read write memory (subst (IsOneOf cut_short) e cut))

  pair_always : (status : Status) → Settled (Explain s p o n) held status → HasPair (names s p o) held → (status ≡ Done) ⊎ IsOneOf (Spent ∷ cut_short) status
  pair_always status (inl refused) pair = absurd (ready_unrefused (Explain s p o n) held (pair.0, pair.3) refused.1)
  pair_always status (inr (inl end)) pair =
      elim end.2.explained [
        | inl found ↦ inl (end.1 ∙ ap (λ (r : Report). r.status) found.written.texts)
        | inr others ↦ elim others [
          | inl none ↦ absurd (pair_or_none (names s p o) held pair.0 end.2.graphs pair.1 pair.2 pair.3 end.2.input pair.4 none.none)
          | inr spent ↦ inr (inl (end.1 ∙ ap (λ (r : Report). r.status) spent.written.texts))
        ]
      ]
  pair_always status (inr (inr cut)) pair = inr (inr cut)

  none_always : (status : Status) → Settled (Explain s p o n) held status → HasNoPair (names s p o) held → (status ≡ No) ⊎ IsOneOf (Spent ∷ cut_short) status
  none_always status (inl refused) none = absurd (ready_unrefused (Explain s p o n) held (none.0, none.1) refused.1)
  none_always status (inr (inl end)) none =
      elim end.2.explained [
        | inl found ↦
            absurd (pair_or_none (names s p o) held end.2.graphs none.0 (of_list found.document.adds) (of_list found.document.deletes) end.2.input none.1 found.minimal.explains none.2)
        | inr others ↦ elim others [
          | inl shown ↦ inl (end.1 ∙ ap (λ (r : Report). r.status) shown.written.texts)
          | inr spent ↦ inr (inl (end.1 ∙ ap (λ (r : Report). r.status) spent.written.texts))
        ]
      ]
  none_always status (inr (inr cut)) none = inr (inr cut)

  explain_causes : (status : Status) → Settled (Explain s p o n) held status → ExplainCauses (names s p o) n held status
  explain_causes status end =
      record {
        pair = record { only = of_answer Done _ status (λ d. cc) (λ d. cc) (λ d. cc) (λ d. cc) (answered_pair status) end; always = pair_always status end };
        none = record { only = of_answer No _ status (λ d. cc) (λ d. cc) (λ d. cc) (λ d. cc) (answered_none status) end; always = none_always status end };
        spent = of_answer Spent _ status (λ d. cc) (λ d. cc) (λ d. cc) (λ d. cc) (answered_spent status) end;
      }

-- ---- the status of `check`

rejected_only : (s p o d : List ℕ) (held : Contents) (status : Status) → Settled (Check s p o d) held status → status ≡ No → HasRejection (names s p o) d held
rejected_only s p o d held status (inl refused) e = let other = refused.0 in absurd cc
rejected_only s p o d held status (inr (inl end)) e =
    let is : No ≡ end.0.status = sym e ∙ end.1 in
    elim end.2.verdict [
      | inl accepts ↦ let other = ap (λ (r : Report). r.status) accepts.texts in absurd cc
      | inr rejects ↦ (end.2.graphs, end.2.claim, end.2.input, rejects.not_accepted)
    ]
rejected_only s p o d held status (inr (inr cut)) e = absurd (not_cut No (λ d. cc) (λ d. cc) (λ d. cc) (subst (IsOneOf cut_short) e cut))

rejected_always : (s p o d : List ℕ) (held : Contents) (status : Status) → Settled (Check s p o d) held status → HasRejection (names s p o) d held → (status ≡ No) ⊎ IsOneOf cut_short status
rejected_always s p o d held status (inl refused) rejected = absurd (ready_unrefused (Check s p o d) held (rejected.0, rejected.1, rejected.2) refused.1)
rejected_always s p o d held status (inr (inl end)) rejected =
    let same = one_input (names s p o) held rejected.0 end.2.graphs rejected.2.documents.graphs end.2.input.documents.graphs in
    let same_claim = one_claim (held d) rejected.1 end.2.claim rejected.2.documents.claimed end.2.input.documents.claimed in
    elim end.2.verdict [
      | inl accepts ↦
          absurd (subst (λ (g : Graphs). ¬ (IsAcceptedDocument (setting_of g) end.2.claim)) same (subst (λ (c : Claim). ¬ (IsAcceptedDocument (setting_of rejected.0) c)) same_claim rejected.3) accepts.accepted)
      | inr rejects ↦ inl (end.1 ∙ ap (λ (r : Report). r.status) rejects.texts)
    ]
rejected_always s p o d held status (inr (inr cut)) rejected = inr cut

own_causes : (command : Command) (held : Contents) (status : Status) → Settled command held status → CommandCauses command held status
own_causes (Validate s p) held status end = record { only = violated_only s p held status end; always = violated_always s p held status end }
own_causes (Explain s p o n) held status end = explain_causes s p o n held status end
own_causes (Apply p d) held status end = tt
own_causes (Check s p o d) held status end = record { only = rejected_only s p o d held status end; always = rejected_always s p o d held status end }

input_causes : (command : Command) (held : Contents) (status : Status) → Settled command held status → InputCauses command held status
input_causes command held status end =
    record {
      refused = record { only = input_only command held status end; always = input_always command held status end };
      own = own_causes command held status end;
    }

-- ---- an input that is not refused is answered, unless the outside fails

answered : (command : Command) (held : Contents) (shelf : Change ShelfTold) (out notes : Change SinkTold) (status : Status) (report : Report) → shelf.before.held ≡ Some held → ¬ (Refuses command held) → IsUndisturbed (documents_of command) shelf out notes
    → status ≡ report.status → CommandMeans command shelf report → IsOneOf (Memory ∷ statuses_of command) status
answered command held shelf out notes status report told kept calm e (inl answer) =
    inr (subst (IsOneOf (statuses_of command)) (sym e) (answer_status command held report (subst (λ (h : Held). IsAnswerIn command h report) told answer)))
answered command held shelf out notes status report told kept calm e (inr (inl refusal)) =
    absurd (kept (refusal.refusal, subst (λ (h : Held). RefusesIn command h refusal.refusal) told refusal.first))
answered command held shelf out notes status report told kept calm e (inr (inr fault)) = absurd (none_unread (documents_of command) shelf fault.role calm.read fault.first)

complete : (command : Command) (held : Contents) (words : List (List ℕ)) (shelf : Change ShelfTold) (out notes : Change SinkTold) (status : Status) → words_of words ≡ Ok command → shelf.before.held ≡ Some held → ¬ (Refuses command held)
    → IsUndisturbed (documents_of command) shelf out notes → Outcome words shelf out notes status → IsOneOf (Memory ∷ statuses_of command) status
complete command held words shelf out notes status is told kept calm (inl reports) =
    elim reports.written [
      | inl whole ↦ answered command held shelf out notes status reports.report told kept calm whole.0 (subst (λ (r : Result Command ℕ). MeansFor r shelf reports.report) is reports.meant)
      | inr part ↦ elim part.1 [ inl broke ↦ absurd (calm.out_taken broke.rose) | inr broke ↦ absurd (calm.notes_taken broke.rose) ]
    ]
complete command held words shelf out notes status is told kept calm (inr nothing) = inl nothing.memory

pub causes : (words : List (List ℕ)) (shelf : Change ShelfTold) (out notes : Change SinkTold) (status : Status) → Outcome words shelf out notes status → Causes words shelf out notes status
causes words shelf out notes status outcome =
    let end = ended words shelf out notes status outcome in
    record {
      usage = record { only = usage_only (words_of words) shelf status end; always = usage_always (words_of words) shelf status end };
      spent = spent_only (words_of words) shelf status end;
      input = λ command held is told. input_causes command held status (settled command held shelf status told (subst (λ (r : Result Command ℕ). EndedAs r shelf status) is end));
      complete = λ command held is told kept calm. complete command held words shelf out notes status is told kept calm outcome;
    }
