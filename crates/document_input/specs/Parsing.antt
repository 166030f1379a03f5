-- What the private functions of the reader say of the bytes of one document.
use Rattle.std.specs.Prelude.{◌≡◌, ℕ, ◌≤◌, ◌^◌, List, Result, length, IfOk, IfErr, OnOk}
use Rattle.shelf_io.specs.Documents.{ReadsWhole, IsShort, IsCut}
use Rattle.shelf_io.specs.Causes.{Rose}
use Rattle.document_input.specs.declared.role.Role.{Role}
use Rattle.document_input.specs.declared.refusal.InputRefusal.{InputRefusal}
use Rattle.document_input.specs.declared.error.InputError.{InputError}
use Rattle.document_input.specs.declared.error.InputError.TheVariants.{Unread, Refused, OutOfMemory}
use Rattle.document_input.specs.Told.{Change, ShelfTold, Continues}

-- the bytes are so, if they are not too long
abbrev pub IfShort : (List ℕ → Type 0) → List ℕ → Type 0
IfShort P bytes = length bytes ≤ 2 ^ 30 → P bytes

-- the bytes of a document were not parsed, by what is said of each refusal
abbrev pub IsParseError : (InputRefusal → List ℕ → Type 0) → List ℕ → InputError → Type 0
IsParseError Refuses bytes (Unread role) = ⊥
IsParseError Refuses bytes (Refused refusal) = IfShort (Refuses refusal) bytes
IsParseError Refuses bytes OutOfMemory = Unit {0}

-- no bytes of a document were had, by the refusal of those that are too long
abbrev pub IsBytesError : Role → List ℕ → InputRefusal → Change ShelfTold → InputError → Type 0
IsBytesError role name too_long shelf (Unread blamed) =
    (blamed ≡ role) × Rose (shelf.before.faults name) (shelf.after.faults name)
IsBytesError role name too_long shelf (Refused refusal) = (refusal ≡ too_long) × IsCut shelf.before.held name
IsBytesError role name too_long shelf OutOfMemory = Unit {0}

-- the bytes of a document, which are not too long, or why there are none
pub record ReadsBytes (role : Role) (name : List ℕ) (too_long : InputRefusal) (shelf : Change ShelfTold)
    (result : Result (List ℕ) InputError) : Type 0 where
  pub ok : IfOk result (λ bytes. ReadsWhole shelf.before.held name bytes)
  pub short : OnOk result (IsShort shelf.before.held name)
  pub err : IfErr result (IsBytesError role name too_long shelf)
  pub later : Continues shelf
