-- What the calls of a reader say together: the first error of some documents, and what follows from it.
use Rattle.std.proofs.Common.{ℕ, inl, inr, List, [], ◌∷◌, Option, None, Some, Ok, Err, subst, arith}
use Rattle.std.specs.List.{All}
use Rattle.std.proofs.lemmas.List.Elements.{All-head, All-tail}
use Rattle.shelf_io.specs.Held.{Held}
use Rattle.document_input.specs.declared.error.InputError.{InputError}
use Rattle.document_input.specs.declared.error.InputError.TheVariants.{Unread, Refused, OutOfMemory}
use Rattle.document_input.specs.declared.role.Role.{Role}
use Rattle.rdf_terms.specs.Graph.{Graph}
use Rattle.proof_documents.specs.Document.{Document as Claim}
use Rattle.document_input.specs.NamedDocument.{NamedDocument, name_of, IsGraph, IsClaim, IsInOrder, IsRefused}
use Rattle.document_input.specs.NamedDocument.NamedDocument.{GraphDocument, ClaimDocument}
use Rattle.document_input.specs.Reading.{Holds, HoldsIn, HoldsInOrder, RoseFor, IsErrorAt, Reads, IsErrorIn}
use Rattle.document_input.specs.Told.{Change, ShelfTold, Continues}

-- an error of a later call, as one from the first call on
since : {first second : ShelfTold} → Continues (record { before = first; after = second }) → (third : ShelfTold) (document : NamedDocument) (error : InputError)
    → IsErrorAt (record { before = second; after = third }) document error → IsErrorAt (record { before = first; after = third }) document error
since a third document (Unread role) cause = let low = a.later (name_of document) in let rose = cause.1 in (cause.0, omega arith)
since a third document (Refused refusal) cause = subst (λ (held : Held). HoldsIn (IsRefused document refusal) held (name_of document)) a.kept cause
since a third document OutOfMemory cause = tt

-- a document for whose name no count rose is not one that could not be read
pub none_unread : (documents : List NamedDocument) (shelf : Change ShelfTold) (role : Role) → All (λ document. ¬ (RoseFor shelf document)) documents → IsErrorIn shelf documents (Unread role) → ⊥
none_unread [] shelf role calm first = first
none_unread (document ∷ documents) shelf role calm (inl fault) = All-head (λ d. ¬ (RoseFor shelf d)) document documents calm fault.1
none_unread (document ∷ documents) shelf role calm (inr later) = none_unread documents shelf role (All-tail (λ d. ¬ (RoseFor shelf d)) document documents calm) later.1

-- a graph or a claim that was read stands in a document in order
pub graph_in_order : (held : Held) (role : Role) (name : List ℕ) (g : Graph) → HoldsIn (IsGraph role name g) held name → HoldsInOrder held (GraphDocument role name)
graph_in_order None role name g holds = tt
graph_in_order (Some held) role name g holds = within (held name) holds
  where
    within : (bytes : Option (List ℕ)) → Holds (IsGraph role name g) bytes → Holds (IsInOrder (GraphDocument role name)) bytes
    within None holds = holds
    within (Some bytes) holds = (g, holds)

pub claim_in_order : (held : Held) (name : List ℕ) (claim : Claim) → HoldsIn (IsClaim claim) held name → HoldsInOrder held (ClaimDocument name)
claim_in_order None name claim holds = tt
claim_in_order (Some held) name claim holds = within (held name) holds
  where
    within : (bytes : Option (List ℕ)) → Holds (IsClaim claim) bytes → Holds (IsInOrder (ClaimDocument name)) bytes
    within None holds = holds
    within (Some bytes) holds = (claim, holds)

-- the errors of later documents, as those from the first call on
lift : {first second : ShelfTold} → Continues (record { before = first; after = second }) → (third : ShelfTold) (documents : List NamedDocument) (error : InputError)
    → IsErrorIn (record { before = second; after = third }) documents error → IsErrorIn (record { before = first; after = third }) documents error
lift a third [] error none = none
lift a third (document ∷ documents) error (inl cause) = inl (since a third document error cause)
lift a third (document ∷ documents) error (inr later) =
    inr (subst (λ (held : Held). HoldsInOrder held document) a.kept later.0, lift a third documents error later.1)

-- the first error of some documents, read from this shelf one after another
pub record StopsIn (shelf : Change ShelfTold) (documents : List NamedDocument) (error : InputError) : Type 0 where
  pub first : IsErrorIn shelf documents error

-- it is that of the first document
pub here : {Value : Type 0} {Is : Value → List ℕ → Type 0} {document : NamedDocument} {shelf : Change ShelfTold} {error : InputError} {documents : List NamedDocument}
    → Reads Is document shelf (Err error) → StopsIn shelf (document ∷ documents) error
here reads = record { first = inl reads.err }

-- a graph was read, and the error is that of the documents behind it
pub past_graph : {first second third : ShelfTold} {role : Role} {name : List ℕ} {g : Graph} {documents : List NamedDocument} {error : InputError}
    → Reads (IsGraph role name) (GraphDocument role name) (record { before = first; after = second }) (Ok g)
    → StopsIn (record { before = second; after = third }) documents error → StopsIn (record { before = first; after = third }) (GraphDocument role name ∷ documents) error
past_graph {first} {second} {third} {role} {name} {g} {documents} {error} reads later =
    record { first = inr (graph_in_order first.held role name g reads.ok, lift reads.later third documents error later.first) }

-- a claim was read, and the error is that of the documents behind it
pub past_claim : {first second third : ShelfTold} {name : List ℕ} {claim : Claim} {documents : List NamedDocument} {error : InputError}
    → Reads IsClaim (ClaimDocument name) (record { before = first; after = second }) (Ok claim)
    → StopsIn (record { before = second; after = third }) documents error → StopsIn (record { before = first; after = third }) (ClaimDocument name ∷ documents) error
past_claim {first} {second} {third} {name} {claim} {documents} {error} reads later =
    record { first = inr (claim_in_order first.held name claim reads.ok, lift reads.later third documents error later.first) }
