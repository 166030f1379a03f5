-- What the reading of documents says of a shelf, whether or not it tells what it holds.
use Rattle.std.specs.Prelude.{◌≡◌, ℕ, ◌⊎◌, List, [], ◌∷◌, Option, None, Some, Result, IfOk, IfErr}
use Rattle.shelf_io.specs.Held.{Held}
use Rattle.shelf_io.specs.Causes.{Rose}
use Rattle.document_input.specs.declared.error.InputError.{InputError}
use Rattle.document_input.specs.declared.error.InputError.TheVariants.{Unread, Refused, OutOfMemory}
use Rattle.document_input.specs.NamedDocument.{NamedDocument, role_of, name_of, IsInOrder, IsRefused}
use Rattle.document_input.specs.Told.{Change, ShelfTold, Continues}

-- bytes are held, and they are so
abbrev pub Holds : (List ℕ → Type 0) → Option (List ℕ) → Type 0
Holds P None = ⊥
Holds P (Some bytes) = P bytes

-- the bytes that are held under the name are so, where the shelf tells
abbrev pub HoldsIn : (List ℕ → Type 0) → Held → List ℕ → Type 0
HoldsIn P None name = Unit {0}
HoldsIn P (Some held) name = Holds P (held name)

-- a document in order is held under its name, where the shelf tells
abbrev pub HoldsInOrder : Held → NamedDocument → Type 0
HoldsInOrder held document = HoldsIn (IsInOrder document) held (name_of document)

-- one of the documents is so, and those before it are in order, where the shelf tells
abbrev pub FirstIn : (NamedDocument → Type 0) → Held → List NamedDocument → Type 0
FirstIn P held [] = ⊥
FirstIn P held (document ∷ documents) = P document ⊎ (HoldsInOrder held document × FirstIn P held documents)

-- the shelf's count of faults for the name of the document rose
abbrev pub RoseFor : Change ShelfTold → NamedDocument → Type 0
RoseFor shelf document = Rose (shelf.before.faults (name_of document)) (shelf.after.faults (name_of document))

-- the cause of each error of one document
abbrev pub IsErrorAt : Change ShelfTold → NamedDocument → InputError → Type 0
IsErrorAt shelf document (Unread role) = (role ≡ role_of document) × RoseFor shelf document
IsErrorAt shelf document (Refused refusal) =
    HoldsIn (IsRefused document refusal) shelf.before.held (name_of document)
IsErrorAt shelf document OutOfMemory = Unit {0}

-- What reading one document answers: what its bytes are, or the cause of the error. The shelf holds what it
-- held, and no count has fallen.
pub record Reads {Value : Type 0} (Is : Value → List ℕ → Type 0) (document : NamedDocument) (shelf : Change ShelfTold)
    (result : Result Value InputError) : Type 0 where
  pub ok : IfOk result (λ value. HoldsIn (Is value) shelf.before.held (name_of document))
  pub err : IfErr result (IsErrorAt shelf document)
  pub later : Continues shelf

-- the error is that of the first of the documents that has one
abbrev pub IsErrorIn : Change ShelfTold → List NamedDocument → InputError → Type 0
IsErrorIn shelf documents error = FirstIn (λ document. IsErrorAt shelf document error) shelf.before.held documents
