-- The input of a command: which documents its words name, what they are together, and what is refused.
use Rattle.std.specs.Prelude.{◌≡◌, ◌≢◌, ℕ, ◌⊎◌, IsTrue, List, [], ◌∷◌, Option, None, Some}
use Rattle.rdf_terms.specs.Graph.{Graph, empty, without}
use Rattle.proof_lines.specs.declared.proof.Claim.TheVariants.{Pair as ClaimsPair}
use Rattle.proof_documents.specs.Document.{Document as Claim}
use Rattle.proof_documents.specs.Applying.{IsUnfit}
use Rattle.shelf_io.specs.Held.{Held}
use Rattle.rdf_terms.specs.declared.term.Term.{Term}
use Rattle.shapes_profile.specs.declared.refusals.ShapeRefusal.{ShapeRefusal}
use Rattle.shapes_profile.specs.declared.refusals.ShapeRefusal.TheVariants as faults
use Rattle.shapes_profile.specs.Profile.{IsInProfile, IsFault}
use Rattle.shapes_graph.specs.OrderLiterals.{IsCompared, is_out_of_reach, IsOrderLiteral}
use Rattle.repair_problem.specs.Setting.{Setting, setting}
use Rattle.command_words.specs.declared.words.Command.{Command}
use Rattle.command_words.specs.declared.words.Command.TheVariants.{Validate, Explain, Apply, Check}
use Rattle.document_input.specs.declared.role.Role.TheVariants.{Shapes, Data, Offered}
use Rattle.document_input.specs.declared.refusal.ShapesRefusal.{ShapesRefusal}
use Rattle.document_input.specs.declared.refusal.ShapesRefusal.TheVariants.{Unsupported, IllFormed, Recursive}
use Rattle.document_input.specs.declared.refusal.ShapesRefusal.TheVariants.{PathTooDeep, ShapeTooDeep}
use Rattle.document_input.specs.declared.refusal.ClaimRefusal.{ClaimRefusal}
use Rattle.document_input.specs.declared.refusal.ClaimRefusal.TheVariants.{NoPair, PairOutside}
use Rattle.document_input.specs.declared.refusal.InputRefusal.{InputRefusal}
use Rattle.document_input.specs.declared.refusal.InputRefusal.TheVariants.{Shapes as OfTheShapes, Claim as OfTheClaim}
use Rattle.document_input.specs.declared.refusal.InputRefusal.TheVariants.{Literal as OfALiteral}
use Rattle.document_input.specs.NamedDocument.{NamedDocument, name_of, IsGraph, IsClaim, IsRefused}
use Rattle.document_input.specs.NamedDocument.NamedDocument.{GraphDocument, ClaimDocument}
use Rattle.document_input.specs.Reading.{Holds, HoldsIn, FirstIn}

-- the bytes that are held under each name
abbrev pub Contents : Type 0
Contents = List ℕ → Option (List ℕ)

-- the documents of a command, in the order of its words
abbrev pub documents_of : Command → List NamedDocument
documents_of (Validate shapes present) = GraphDocument Shapes shapes ∷ GraphDocument Data present ∷ []
documents_of (Explain shapes present offered conflicts) =
    GraphDocument Shapes shapes ∷ GraphDocument Data present ∷ GraphDocument Offered offered ∷ []
documents_of (Apply present document) = GraphDocument Data present ∷ ClaimDocument document ∷ []
documents_of (Check shapes present offered document) =
    GraphDocument Shapes shapes ∷ GraphDocument Data present ∷ GraphDocument Offered offered
    ∷ ClaimDocument document ∷ []

-- ---- validate

-- the graphs are those of the documents, which have blank nodes of their own
pub record AreGraphsOf (shapes_name data_name : List ℕ) (held : Contents) (s g : Graph) : Type 0 where
  pub shapes : Holds (IsGraph Shapes shapes_name s) (held shapes_name)
  pub present : Holds (IsGraph Data data_name g) (held data_name)

-- no literal that a range constraint would have to compare is out of reach
abbrev pub AreComparable : Graph → Graph → Graph → Type 0
AreComparable s g offered = (y : Term) → IsCompared s g offered y → ¬ (IsTrue (is_out_of_reach y))

-- the graphs are those of the documents, the shapes are in the profile, and the literals can be compared
pub record IsValidationInput (shapes_name data_name : List ℕ) (held : Contents) (s g : Graph) : Type 0 where
  pub documents : AreGraphsOf shapes_name data_name held s g
  pub profile : IsInProfile s
  pub comparable : AreComparable s g empty

-- the refusal names this cause why a graph is not in the profile
abbrev pub NamesFault : ShapeRefusal → ShapesRefusal → Type 0
NamesFault (faults.Unsupported p) reason = reason ≡ Unsupported p
NamesFault (faults.IllFormed x rule) reason = reason ≡ IllFormed x rule
NamesFault (faults.Recursive x) reason = reason ≡ Recursive x
NamesFault (faults.PathTooDeep x) reason = reason ≡ PathTooDeep x
NamesFault (faults.ShapeTooDeep x) reason = reason ≡ ShapeTooDeep x
NamesFault faults.OutOfMemory reason = ⊥

-- the first cause why the graph is not in the profile
abbrev pub IsOutside : Graph → ShapesRefusal → Type 0
IsOutside s reason = (f : ShapeRefusal) × IsFault s f × NamesFault f reason

-- the graphs can't be judged: first where the shapes are not in the profile, and then for a literal
abbrev pub IsUnfitInput : Graph → Graph → Graph → InputRefusal → Type 0
IsUnfitInput s g offered (OfTheShapes reason) = IsOutside s reason
IsUnfitInput s g offered (OfALiteral y) = IsInProfile s × IsOrderLiteral s g offered y
IsUnfitInput s g offered _ = ⊥

-- both documents are in order, and their graphs can't be validated
pub record RefusesValidation (shapes_name data_name : List ℕ) (held : Contents) (refusal : InputRefusal) : Type 0 where
  pub shapes : Graph
  pub present : Graph
  pub documents : AreGraphsOf shapes_name data_name held shapes present
  pub unfit : IsUnfitInput shapes present empty refusal

-- ---- explain

-- the names of its documents, and their graphs
pub record Names : Type 0 where
  pub shapes : List ℕ
  pub present : List ℕ
  pub offered : List ℕ

abbrev pub names : List ℕ → List ℕ → List ℕ → Names
names shapes present offered = record { shapes = shapes; present = present; offered = offered }

pub record Graphs : Type 0 where
  pub shapes : Graph
  pub present : Graph
  pub offered : Graph

abbrev pub graphs_of : Graph → Graph → Graph → Graphs
graphs_of shapes present offered = record { shapes = shapes; present = present; offered = offered }

-- The graphs are those of the documents. The data and the offered triples share their blank nodes, and the
-- shapes have their own. The label of an anonymous node of Turtle tells the role of its document.
pub record AreHeld (names : Names) (held : Contents) (g : Graphs) : Type 0 where
  pub shapes : Holds (IsGraph Shapes names.shapes g.shapes) (held names.shapes)
  pub present : Holds (IsGraph Data names.present g.present) (held names.present)
  pub offered : Holds (IsGraph Offered names.offered g.offered) (held names.offered)

-- the graphs are those of the documents, the shapes are in the profile, and the literals can be compared
pub record IsInput (names : Names) (held : Contents) (g : Graphs) : Type 0 where
  pub documents : AreHeld names held g
  pub profile : IsInProfile g.shapes
  pub comparable : AreComparable g.shapes g.present g.offered

-- all documents are in order, and their graphs can't be judged
pub record RefusesGraphs (names : Names) (held : Contents) (refusal : InputRefusal) : Type 0 where
  pub graphs : Graphs
  pub documents : AreHeld names held graphs
  pub unfit : IsUnfitInput graphs.shapes graphs.present graphs.offered refusal

-- what is explained, and what the claim of a document speaks of: the offered triples that the data has are no offers
abbrev pub setting_of : Graphs → Setting
setting_of g = setting g.shapes g.present (without g.offered g.present)

-- ---- apply

-- the graph and the claim are those of the documents
pub record AreApplied (data_name claim_name : List ℕ) (held : Contents) (g : Graph) (claim : Claim) : Type 0 where
  pub present : Holds (IsGraph Data data_name g) (held data_name)
  pub claimed : Holds (IsClaim claim) (held claim_name)

-- the claim can't be applied to the data: first where it is not that of a pair
abbrev pub IsUnfitFor : Graph → Claim → ClaimRefusal → Type 0
IsUnfitFor g claim NoPair = claim.proof.claim ≢ ClaimsPair
IsUnfitFor g claim (PairOutside number) = IsUnfit g claim number

-- both documents are in order, and the claim can't be applied to the data
pub record RefusesClaim (data_name claim_name : List ℕ) (held : Contents) (refusal : InputRefusal) : Type 0 where
  pub present : Graph
  pub claim : Claim
  pub documents : AreApplied data_name claim_name held present claim
  pub reason : ClaimRefusal
  pub is : refusal ≡ OfTheClaim reason
  pub unfit : IsUnfitFor present claim reason

-- ---- check

-- the graphs and the claim are those of the documents
pub record AreJudged (names : Names) (claim_name : List ℕ) (held : Contents) (g : Graphs) (claim : Claim) : Type 0 where
  pub graphs : AreHeld names held g
  pub claimed : Holds (IsClaim claim) (held claim_name)

-- the graphs and the claim are those of the documents, the shapes are in the profile, and the literals can be compared
pub record IsCheckInput (names : Names) (claim_name : List ℕ) (held : Contents) (g : Graphs) (claim : Claim)
    : Type 0 where
  pub documents : AreJudged names claim_name held g claim
  pub profile : IsInProfile g.shapes
  pub comparable : AreComparable g.shapes g.present g.offered

-- all documents are in order, and their graphs can't be judged
pub record RefusesCheck (names : Names) (claim_name : List ℕ) (held : Contents) (refusal : InputRefusal) : Type 0 where
  pub graphs : Graphs
  pub claim : Claim
  pub documents : AreJudged names claim_name held graphs claim
  pub unfit : IsUnfitInput graphs.shapes graphs.present graphs.offered refusal

-- ---- the first refusal

-- a document is refused, and those before it are in order, where the shelf tells
abbrev pub RefusesDocument : List NamedDocument → Held → InputRefusal → Type 0
RefusesDocument documents held refusal =
    FirstIn (λ document. HoldsIn (IsRefused document refusal) held (name_of document)) held documents

-- what is refused where all documents of a command are in order
abbrev pub RefusesBehind : Command → Contents → InputRefusal → Type 0
RefusesBehind (Validate shapes present) held refusal = RefusesValidation shapes present held refusal
RefusesBehind (Explain shapes present offered conflicts) held refusal =
    RefusesGraphs (names shapes present offered) held refusal
RefusesBehind (Apply present document) held refusal = RefusesClaim present document held refusal
RefusesBehind (Check shapes present offered document) held refusal =
    RefusesCheck (names shapes present offered) document held refusal

-- the first refusal of the input: each document in the order of the words, and then what is behind them
abbrev pub RefusesFirst : Command → Contents → InputRefusal → Type 0
RefusesFirst command held refusal =
    RefusesDocument (documents_of command) (Some held) refusal ⊎ RefusesBehind command held refusal

-- some document, or what is behind the documents, is refused
abbrev pub Refuses : Command → Contents → Type 0
Refuses command held = (refusal : InputRefusal) × RefusesFirst command held refusal

-- the first refusal, where the shelf tells what it holds
abbrev pub RefusesIn : Command → Held → InputRefusal → Type 0
RefusesIn command None refusal = Unit {0}
RefusesIn command (Some held) refusal = RefusesFirst command held refusal
