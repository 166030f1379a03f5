-- When each status comes: what is true where a call ends with it, and where it has to.
use Rattle.std.specs.Prelude.{◌≡◌, ℕ, ◌⊎◌, List, [], ◌∷◌, Some, Result, Ok, Err, IsErr}
use Rattle.std.specs.List.{All}
use Rattle.rdf_terms.specs.Graph.{Graph, without}
use Rattle.shapes_graph.specs.Conformance.{Conforms}
use Rattle.repair_problem.specs.Repair.{Explains, NoneExplains}
use Rattle.proof_documents.specs.Document.{Document as Claim}
use Rattle.certificates.specs.Checks.{IsAcceptedDocument}
use Rattle.command_words.specs.declared.words.Command.{Command}
use Rattle.command_words.specs.declared.words.Command.TheVariants.{Validate, Explain, Apply, Check}
use Rattle.command_words.specs.Words.{words_of}
use Rattle.document_input.specs.NamedDocument.{NamedDocument}
use Rattle.document_input.specs.Reading.{RoseFor}
use Rattle.document_input.specs.Told.{Change, ShelfTold}
use Rattle.explain_cli.specs.declared.status.Status.{Status}
use Rattle.explain_cli.specs.declared.status.Status.TheVariants.{Done, No, Usage, Input, Read, Write, Memory, Spent}
use Rattle.explain_cli.specs.Answer.{IsOneOf, statuses_of}
use Rattle.explain_cli.specs.Explanations.{IsWithinBound}
use Rattle.explain_cli.specs.Input.{Contents, documents_of, IsValidationInput, Names, names, Graphs, IsInput, Refuses}
use Rattle.explain_cli.specs.Input.{IsCheckInput, setting_of}
use Rattle.explain_cli.specs.Outcome.{SinkTold, RoseIn}

-- a status comes only where the fact holds, and always where it does, or one of those comes that it yields to
pub record ComesExactly (status : Status) (yields : List Status) (P : Type 0) (ended : Status) : Type 0 where
  pub only : ended ≡ status → P
  pub always : P → (ended ≡ status) ⊎ IsOneOf yields ended

-- the outside cut the call short: a document could not be read, a sink did not take its text, or
-- memory could not be had. Each of these has its own cause.
abbrev pub cut_short : List Status
cut_short = Read ∷ Write ∷ Memory ∷ []

-- the input is in order, and the data does not conform to the shapes
abbrev pub HasViolation : List ℕ → List ℕ → Contents → Type 0
HasViolation shapes_name data_name held =
    (s : Graph) × (g : Graph) × IsValidationInput shapes_name data_name held s g × ¬ (Conforms s g)

-- the input is in order, and some pair explains
abbrev pub HasPair : Names → Contents → Type 0
HasPair names held =
    (g : Graphs) × (adds : Graph) × (deletes : Graph) × IsInput names held g
    × Explains (Conforms g.shapes) g.present (without g.offered g.present) adds deletes

-- the input is in order, and no pair explains
abbrev pub HasNoPair : Names → Contents → Type 0
HasNoPair names held =
    (g : Graphs) × IsInput names held g × NoneExplains (Conforms g.shapes) g.present (without g.offered g.present)

-- the input is in order, and the budget is at most 3^a, by the number a of its atoms
abbrev pub HasSmallBudget : Names → ℕ → Contents → Type 0
HasSmallBudget names budget held = (g : Graphs) × IsInput names held g × IsWithinBound (setting_of g) budget

-- the statuses of `explain`
pub record ExplainCauses (names : Names) (budget : ℕ) (held : Contents) (status : Status) : Type 0 where
  pub pair : ComesExactly Done (Spent ∷ cut_short) (HasPair names held) status
  pub none : ComesExactly No (Spent ∷ cut_short) (HasNoPair names held) status
  -- so a budget over 3^a is never spent
  pub spent : status ≡ Spent → HasSmallBudget names budget held

-- the input is in order, and the claim is not accepted
abbrev pub HasRejection : Names → List ℕ → Contents → Type 0
HasRejection names claim_name held =
    (g : Graphs) × (claim : Claim) × IsCheckInput names claim_name held g claim
    × ¬ (IsAcceptedDocument (setting_of g) claim)

-- the statuses of a command's own over documents whose bytes are told
abbrev pub CommandCauses : Command → Contents → Status → Type 0
CommandCauses (Validate shapes present) held status =
    ComesExactly No cut_short (HasViolation shapes present held) status
CommandCauses (Explain shapes present offered conflicts) held status =
    ExplainCauses (names shapes present offered) conflicts held status
CommandCauses (Apply present document) held status = Unit {0}
CommandCauses (Check shapes present offered document) held status =
    ComesExactly No cut_short (HasRejection (names shapes present offered) document held) status

-- the statuses of a command over documents whose bytes are told
pub record InputCauses (command : Command) (held : Contents) (status : Status) : Type 0 where
  pub refused : ComesExactly Input cut_short (Refuses command held) status
  pub own : CommandCauses command held status

-- only `explain` searches
abbrev pub Searches : Result Command ℕ → Type 0
Searches (Ok (Explain shapes present offered conflicts)) = Unit {0}
Searches r = ⊥

-- no pull of a named document and no write failed
pub record IsUndisturbed (documents : List NamedDocument) (shelf : Change ShelfTold)
    (out notes : Change SinkTold) : Type 0 where
  pub read : All (λ document. ¬ (RoseFor shelf document)) documents
  pub out_taken : ¬ (RoseIn out)
  pub notes_taken : ¬ (RoseIn notes)

-- the statuses of a call
pub record Causes (words : List (List ℕ)) (shelf : Change ShelfTold) (out notes : Change SinkTold)
    (status : Status) : Type 0 where
  pub usage : ComesExactly Usage (Write ∷ Memory ∷ []) (IsErr (words_of words)) status
  pub spent : status ≡ Spent → Searches (words_of words)
  pub input : (command : Command) (held : Contents) → words_of words ≡ Ok command → shelf.before.held ≡ Some held
      → InputCauses command held status
  -- an input that is not refused is answered, unless the outside fails
  pub complete : (command : Command) (held : Contents) → words_of words ≡ Ok command → shelf.before.held ≡ Some held
      → ¬ (Refuses command held) → IsUndisturbed (documents_of command) shelf out notes
      → IsOneOf (Memory ∷ statuses_of command) status
