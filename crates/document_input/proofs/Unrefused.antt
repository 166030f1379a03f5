-- The bytes of a document have one meaning, and documents in order are not refused.
use Rattle.std.proofs.Common.{◌≡◌, ℕ, inl, inr, List, [], ◌∷◌, Option, None, Some, Result, Ok, Err, arith}
use Rattle.rdf_terms.specs.Graph.{Graph}
use Rattle.ntriples_io.proofs.Once.{text_once, never_both}
use Rattle.turtle_io.specs.declared.refusal.TurtleRefusal.{TurtleRefusal}
use Rattle.turtle_io.specs.declared.refusal.TurtleRefusal.TheVariants as fault
use Rattle.turtle_io.specs.Documents.{TurtleText, TurtleFault, DocumentMeans}
use Rattle.turtle_io.proofs.OnlyAnswer.{one_answer as one_turtle_answer}
use Rattle.document_input.specs.declared.role.Role.{Role}
use Rattle.proof_documents.specs.Document.{Document as Claim}
use Rattle.proof_documents.specs.declared.refusal.DocRefusal.{DocRefusal}
use Rattle.proof_documents.specs.declared.refusal.DocRefusal.TheVariants.{Line as BadLine}
use Rattle.proof_documents.proofs.Reading.{one_answer}
use Rattle.document_input.specs.declared.refusal.GraphRefusal.{GraphRefusal}
use Rattle.document_input.specs.declared.refusal.GraphRefusal.TheVariants.{TooLong, Line, Statement, TooDeep, ReservedLabel}
use Rattle.document_input.specs.declared.refusal.DocumentRefusal.{DocumentRefusal}
use Rattle.document_input.specs.declared.refusal.DocumentRefusal.TheVariants.{TooLong as TooLongClaim, Line as ClaimLine}
use Rattle.document_input.specs.declared.refusal.InputRefusal.{InputRefusal}
use Rattle.document_input.specs.NamedDocument.{NamedDocument, name_of, scope_of, turtle_role_of, IsTextOf, IsGraph, HasBadLine, HasBadStatement, IsGraphFault, IsClaim, IsClaimFault, IsInOrder, IsRefused}
use Rattle.document_input.specs.NamedDocument.NamedDocument.{GraphDocument, ClaimDocument}
use Rattle.document_input.specs.Reading.{Holds, HoldsIn, HoldsInOrder, FirstIn}

one_text : (role : Role) (name : List ℕ) (g h : Graph) (bytes : List ℕ) → IsTextOf role name g bytes → IsTextOf role name h bytes → g ≡ h
one_text role name g h bytes (inl a) (inl b) =
    let same : ◌≡◌ {A = Result Graph TurtleRefusal} (Ok g) (Ok h) = one_turtle_answer bytes (turtle_role_of role) (Ok g) (Ok h) a.1 b.1 in
    cc
one_text role name g h bytes (inl a) (inr b) = absurd (b.0 a.0)
one_text role name g h bytes (inr a) (inl b) = absurd (a.0 b.0)
one_text role name g h bytes (inr a) (inr b) = text_once bytes (scope_of role) g h a.1 b.1

pub one_graph : (role : Role) (held : Option (List ℕ)) (name : List ℕ) (g h : Graph) → Holds (IsGraph role name g) held → Holds (IsGraph role name h) held → g ≡ h
one_graph role None name g h a b = absurd a
one_graph role (Some bytes) name g h a b = one_text role name g h bytes a.text b.text

pub one_claim : (held : Option (List ℕ)) (c d : Claim) → Holds (IsClaim c) held → Holds (IsClaim d) held → c ≡ d
one_claim None c d a b = absurd a
one_claim (Some bytes) c d a b =
    let same : ◌≡◌ {A = Result Claim DocRefusal} (Ok c) (Ok d) = one_answer bytes (Ok c) (Ok d) a.text b.text in
    cc

-- a text with a graph has no fault
line_unrefused : (role : Role) (name : List ℕ) (g : Graph) (number : ℕ) (bytes : List ℕ) → IsTextOf role name g bytes → HasBadLine role name number bytes → ⊥
line_unrefused role name g number bytes (inl a) fault = fault.format a.0
line_unrefused role name g number bytes (inr a) fault = never_both bytes (scope_of role) g number a.1 fault.bad

statement_unrefused : (role : Role) (name : List ℕ) (g : Graph) (refusal : TurtleRefusal) (bytes : List ℕ) → IsTextOf role name g bytes → HasBadStatement role name refusal bytes → DocumentMeans bytes (turtle_role_of role) (Err refusal) → ⊥
statement_unrefused role name g refusal bytes (inl a) fault means =
    let same : ◌≡◌ {A = Result Graph TurtleRefusal} (Ok g) (Err refusal) = one_turtle_answer bytes (turtle_role_of role) (Ok g) (Err refusal) a.1 means in
    cc
statement_unrefused role name g refusal bytes (inr a) fault means = a.0 fault.format

graph_unrefused : (role : Role) (name : List ℕ) (g : Graph) (reason : GraphRefusal) (bytes : List ℕ) → IsGraph role name g bytes → IsGraphFault role name reason bytes → ⊥
graph_unrefused role name g TooLong bytes graph fault = let short = graph.short in omega arith
graph_unrefused role name g (Line number) bytes graph fault = line_unrefused role name g number bytes graph.text fault
graph_unrefused role name g (Statement at) bytes graph bad = statement_unrefused role name g (fault.Syntax at) bytes graph.text bad bad.bad
graph_unrefused role name g (TooDeep at) bytes graph bad = statement_unrefused role name g (fault.TooDeep at) bytes graph.text bad bad.bad
graph_unrefused role name g (ReservedLabel at) bytes graph bad = statement_unrefused role name g (fault.ReservedLabel at) bytes graph.text bad bad.bad

claim_unrefused : (claim : Claim) (reason : DocumentRefusal) (bytes : List ℕ) → IsClaim claim bytes → IsClaimFault reason bytes → ⊥
claim_unrefused claim TooLongClaim bytes read fault = let short = read.short in omega arith
claim_unrefused claim (ClaimLine number) bytes read fault =
    let same : ◌≡◌ {A = Result Claim DocRefusal} (Ok claim) (Err (BadLine number)) = one_answer bytes (Ok claim) (Err (BadLine number)) read.text fault.1 in
    cc

unrefused : (document : NamedDocument) (refusal : InputRefusal) (bytes : List ℕ) → IsInOrder document bytes → IsRefused document refusal bytes → ⊥
unrefused (GraphDocument role name) refusal bytes order refused = graph_unrefused role name order.0 refused.reason bytes order.1 refused.fault
unrefused (ClaimDocument name) refusal bytes order refused = claim_unrefused order.0 refused.reason bytes order.1 refused.fault

held_unrefused : (document : NamedDocument) (refusal : InputRefusal) (held : Option (List ℕ)) → Holds (IsInOrder document) held → Holds (IsRefused document refusal) held → ⊥
held_unrefused document refusal None order refused = order
held_unrefused document refusal (Some bytes) order refused = unrefused document refusal bytes order refused

-- each of the documents is held in order
abbrev pub AreInOrder : (List ℕ → Option (List ℕ)) → List NamedDocument → Type 0
AreInOrder held [] = Unit {0}
AreInOrder held (document ∷ documents) = HoldsInOrder (Some held) document × AreInOrder held documents

-- documents that are all in order are not refused
pub documents_unrefused : (documents : List NamedDocument) (held : List ℕ → Option (List ℕ)) (refusal : InputRefusal) → AreInOrder held documents
    → FirstIn (λ document. HoldsIn (IsRefused document refusal) (Some held) (name_of document)) (Some held) documents → ⊥
documents_unrefused [] held refusal order first = first
documents_unrefused (document ∷ documents) held refusal order (inl refused) = held_unrefused document refusal (held (name_of document)) order.0 refused
documents_unrefused (document ∷ documents) held refusal order (inr later) = documents_unrefused documents held refusal order.1 later.1
