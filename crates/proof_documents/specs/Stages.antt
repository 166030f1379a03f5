-- How a document is read line by line. Private functions alone cite this module. It says which lines may come
-- next, and what each adds to what was read.
use Rattle.std.specs.Prelude.{◌≡◌, ℕ, ◌⊎◌, IsTrue, List, [], ◌∷◌, ◌++◌}
use Rattle.rdf_terms.specs.Statement.{Statement}
use Rattle.rdf_terms.specs.Graph.{is_rising}
use Rattle.proof_lines.specs.declared.proof.Claim.{Claim}
use Rattle.proof_lines.specs.declared.proof.Claim.TheVariants.{Pair, NoPair, Spent}
use Rattle.proof_lines.specs.declared.proof.ProofLine.{ProofLine}
use Rattle.proof_documents.specs.declared.draft.Draft.{Draft}
use Rattle.proof_documents.specs.declared.draft.Stage.{Stage}
use Rattle.proof_documents.specs.declared.draft.Stage.TheVariants.{Version, Claimed, Adds, Deletes, Proved, Ended}
use Rattle.proof_documents.specs.Document.{Document}
use Rattle.proof_documents.specs.DocumentText.{version_text, claim_text, add_prefix, delete_prefix, end_text}
use Rattle.proof_documents.specs.Lines.{IsProofLine, IsTripleLine}

-- nothing was read
abbrev pub nothing_read : Draft
nothing_read = record { stage = Version; claim = NoPair; adds = []; deletes = []; lines = [] }

-- what was read, as a document
abbrev pub document_of : Draft → Document
document_of s = record { adds = s.adds; deletes = s.deletes; proof = record { claim = s.claim; lines = s.lines } }

-- triples come only behind the claim of a pair
abbrev pub after_claim : Claim → Stage
after_claim Pair = Adds
after_claim NoPair = Proved
after_claim Spent = Proved

pub record TakesClaim (s : Draft) (text : List ℕ) (t : Draft) : Type 0 where
  pub claim : Claim
  pub spelled : text ≡ claim_text claim
  pub is : t ≡ record { stage = after_claim claim; claim = claim; adds = s.adds; deletes = s.deletes; lines = s.lines }

pub record TakesAdd (s : Draft) (text : List ℕ) (t : Draft) : Type 0 where
  pub triple : Statement
  pub spelled : IsTripleLine add_prefix text triple
  pub rises : IsTrue (is_rising (s.adds ++ triple ∷ []))
  pub is :
      t ≡ record { stage = Adds; claim = s.claim; adds = s.adds ++ triple ∷ []; deletes = s.deletes; lines = s.lines }

pub record TakesDelete (s : Draft) (text : List ℕ) (t : Draft) : Type 0 where
  pub triple : Statement
  pub spelled : IsTripleLine delete_prefix text triple
  pub rises : IsTrue (is_rising (s.deletes ++ triple ∷ []))
  pub is :
      t ≡
      record { stage = Deletes; claim = s.claim; adds = s.adds; deletes = s.deletes ++ triple ∷ []; lines = s.lines }

pub record TakesProofLine (s : Draft) (text : List ℕ) (t : Draft) : Type 0 where
  pub read : ProofLine
  pub spelled : IsProofLine text read
  pub is :
      t ≡ record { stage = Proved; claim = s.claim; adds = s.adds; deletes = s.deletes; lines = s.lines ++ read ∷ [] }

abbrev pub at_stage : Stage → Draft → Draft
at_stage stage s = record { stage = stage; claim = s.claim; adds = s.adds; deletes = s.deletes; lines = s.lines }

-- the text, which has no LF, may be the next line, and this is what was read with it
abbrev pub TakesAt : Stage → Draft → List ℕ → Draft → Type 0
TakesAt Version s text t = (text ≡ version_text) × (t ≡ at_stage Claimed s)
TakesAt Claimed s text t = TakesClaim s text t
TakesAt Adds s text t =
    TakesAdd s text t ⊎ TakesDelete s text t ⊎ TakesProofLine s text t ⊎ ((text ≡ end_text) × (t ≡ at_stage Ended s))
TakesAt Deletes s text t = TakesDelete s text t ⊎ TakesProofLine s text t ⊎ ((text ≡ end_text) × (t ≡ at_stage Ended s))
TakesAt Proved s text t = TakesProofLine s text t ⊎ ((text ≡ end_text) × (t ≡ at_stage Ended s))
TakesAt Ended s text t = ⊥

abbrev pub Takes : Draft → List ℕ → Draft → Type 0
Takes s text t = TakesAt s.stage s text t

-- the lines lead from one to the other
abbrev pub Leads : Draft → List (List ℕ) → Draft → Type 0
Leads s [] t = s ≡ t
Leads s (text ∷ texts) t = (next : Draft) × Takes s text next × Leads next texts t

-- the lines of a text so far, and what they give
abbrev pub HasRead : List (List ℕ) → Draft → Type 0
HasRead texts s = Leads nothing_read texts s
