-- The documents that the words of a command name: what their bytes are, and why they are refused.
use Rattle.std.specs.Prelude.{◌≡◌, ℕ, ◌<◌, ◌≤◌, ◌^◌, ◌⊎◌, IsTrue, List, length, codes, nat_eq}
use Rattle.std.specs.List.{ends_with}
use Rattle.rdf_terms.specs.Graph.{Graph}
use Rattle.rdf_terms.specs.declared.term.Scope.{Scope}
use Rattle.rdf_terms.specs.declared.term.Scope.TheVariants.{Data as OfData, Shapes as OfShapes}
use Rattle.ntriples_io.specs.Text.{NtText, BadLine}
use Rattle.turtle_statements.specs.declared.role.Role.{Role as TurtleRole}
use Rattle.turtle_statements.specs.declared.role.Role.TheVariants as turtle
use Rattle.turtle_io.specs.declared.refusal.TurtleRefusal.{TurtleRefusal}
use Rattle.turtle_io.specs.declared.refusal.TurtleRefusal.TheVariants as fault
use Rattle.turtle_io.specs.Documents.{TurtleText, TurtleFault}
use Rattle.proof_documents.specs.Document.{Document as Claim}
use Rattle.proof_documents.specs.Text.{IsDocument, IsFirstBad}
use Rattle.document_input.specs.declared.role.Role.{Role}
use Rattle.document_input.specs.declared.role.Role.TheVariants.{Shapes, Data, Offered, Document}
use Rattle.document_input.specs.declared.refusal.GraphRefusal.{GraphRefusal}
use Rattle.document_input.specs.declared.refusal.GraphRefusal.TheVariants.{TooLong, Line, Statement, TooDeep}
use Rattle.document_input.specs.declared.refusal.GraphRefusal.TheVariants.{ReservedLabel}
use Rattle.document_input.specs.declared.refusal.DocumentRefusal.{DocumentRefusal}
use Rattle.document_input.specs.declared.refusal.DocumentRefusal.TheVariants.{TooLong as TooLongClaim}
use Rattle.document_input.specs.declared.refusal.DocumentRefusal.TheVariants.{Line as ClaimLine}
use Rattle.document_input.specs.declared.refusal.InputRefusal.{InputRefusal}
use Rattle.document_input.specs.declared.refusal.InputRefusal.TheVariants.{Graph as OfGraph, Document as OfDocument}

-- a document that the words name: that of the graph of a role, or that of a claim
pub data NamedDocument : Type 0 where
  GraphDocument : (role : Role) (name : List ℕ) → NamedDocument
  ClaimDocument : (name : List ℕ) → NamedDocument

abbrev pub role_of : NamedDocument → Role
role_of (GraphDocument role name) = role
role_of (ClaimDocument name) = Document

abbrev pub name_of : NamedDocument → List ℕ
name_of (GraphDocument role name) = name
name_of (ClaimDocument name) = name

-- the scope of the blank nodes of a graph: the data and the offered triples share theirs
abbrev pub scope_of : Role → Scope
scope_of Shapes = OfShapes
scope_of Data = OfData
scope_of Offered = OfData
scope_of Document = OfData

-- its role as a document of Turtle, by which anonymous nodes are labelled
abbrev pub turtle_role_of : Role → TurtleRole
turtle_role_of Shapes = turtle.Shapes
turtle_role_of Data = turtle.Data
turtle_role_of Offered = turtle.Offered
turtle_role_of Document = turtle.Data

-- a graph's document of that name is read as Turtle, and of any other as N-Triples
abbrev pub IsTurtleName : List ℕ → Type 0
IsTurtleName name = IsTrue (ends_with nat_eq name (codes ".ttl"))

-- the bytes are a text with this graph, in the format that the name tells
abbrev pub IsTextOf : Role → List ℕ → Graph → List ℕ → Type 0
IsTextOf role name g bytes =
    (IsTurtleName name × TurtleText bytes (turtle_role_of role) g)
    ⊎ (¬ (IsTurtleName name) × NtText bytes (scope_of role) g)

-- the bytes are a document of that role and name with this graph
pub record IsGraph (role : Role) (name : List ℕ) (g : Graph) (bytes : List ℕ) : Type 0 where
  pub short : length bytes ≤ 2 ^ 30
  pub text : IsTextOf role name g bytes

-- the bytes are not too long, and their first line that is none of N-Triples has this number
pub record HasBadLine (role : Role) (name : List ℕ) (number : ℕ) (bytes : List ℕ) : Type 0 where
  pub short : length bytes ≤ 2 ^ 30
  pub format : ¬ (IsTurtleName name)
  pub bad : BadLine bytes (scope_of role) number

-- the bytes are not too long, and as Turtle the first statement that is not accepted is refused so
pub record HasBadStatement (role : Role) (name : List ℕ) (refusal : TurtleRefusal) (bytes : List ℕ) : Type 0 where
  pub short : length bytes ≤ 2 ^ 30
  pub format : IsTurtleName name
  pub bad : TurtleFault bytes (turtle_role_of role) refusal

-- the bytes of a graph are refused for the reason: their length first, then their grammar
abbrev pub IsGraphFault : Role → List ℕ → GraphRefusal → List ℕ → Type 0
IsGraphFault role name TooLong bytes = 2 ^ 30 < length bytes
IsGraphFault role name (Line number) bytes = HasBadLine role name number bytes
IsGraphFault role name (Statement at) bytes = HasBadStatement role name (fault.Syntax at) bytes
IsGraphFault role name (TooDeep at) bytes = HasBadStatement role name (fault.TooDeep at) bytes
IsGraphFault role name (ReservedLabel at) bytes = HasBadStatement role name (fault.ReservedLabel at) bytes

-- the bytes are the document of a claim
pub record IsClaim (claim : Claim) (bytes : List ℕ) : Type 0 where
  pub short : length bytes ≤ 2 ^ 30
  pub text : IsDocument bytes claim

-- the bytes of a claim are refused for the reason: their length first, then their lines
abbrev pub IsClaimFault : DocumentRefusal → List ℕ → Type 0
IsClaimFault TooLongClaim bytes = 2 ^ 30 < length bytes
IsClaimFault (ClaimLine number) bytes = (length bytes ≤ 2 ^ 30) × IsFirstBad bytes number

-- the bytes of the document are in order
abbrev pub IsInOrder : NamedDocument → List ℕ → Type 0
IsInOrder (GraphDocument role name) bytes = (g : Graph) × IsGraph role name g bytes
IsInOrder (ClaimDocument name) bytes = (claim : Claim) × IsClaim claim bytes

-- the bytes of the document of a graph are refused so
pub record RefusesGraph (role : Role) (name : List ℕ) (refusal : InputRefusal) (bytes : List ℕ) : Type 0 where
  pub reason : GraphRefusal
  pub is : refusal ≡ OfGraph role reason
  pub fault : IsGraphFault role name reason bytes

-- the bytes of the document of a claim are refused so
pub record RefusesClaim (refusal : InputRefusal) (bytes : List ℕ) : Type 0 where
  pub reason : DocumentRefusal
  pub is : refusal ≡ OfDocument reason
  pub fault : IsClaimFault reason bytes

-- the bytes of the document are refused so
abbrev pub IsRefused : NamedDocument → InputRefusal → List ℕ → Type 0
IsRefused (GraphDocument role name) refusal bytes = RefusesGraph role name refusal bytes
IsRefused (ClaimDocument name) refusal bytes = RefusesClaim refusal bytes
