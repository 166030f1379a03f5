-- What whole calls say of the bytes that were read and written.
use Rattle.std.specs.Prelude.{◌≡◌, ℕ, ◌<◌, ◌≤◌, ◌^◌, List, ◌++◌, take, length, Option, Some, None, IsSomeAnd}
use Rattle.shelf_io.specs.Held.{Held}

-- the sink has these bytes more, where it tells
abbrev pub Gained : Option (List ℕ) → Option (List ℕ) → List ℕ → Type 0
Gained None new bytes = new ≡ None
Gained (Some old) new bytes = new ≡ Some (old ++ bytes)

-- the sink has a part from the front of these bytes more, where it tells
abbrev pub GainedPrefix : Option (List ℕ) → Option (List ℕ) → List ℕ → Type 0
GainedPrefix old new bytes = (n : ℕ) × (n ≤ length bytes) × Gained old new (take n bytes)

-- the bytes are those that are held under the name, where they are told
abbrev pub ReadsWhole : Held → List ℕ → List ℕ → Type 0
ReadsWhole None name bytes = Unit {0}
ReadsWhole (Some held) name bytes = held name ≡ Some bytes

-- a document has at most 2^30 bytes
abbrev pub IsLong : Option (List ℕ) → Type 0
IsLong bytes = IsSomeAnd bytes (λ b. 2 ^ 30 < length b)

-- more bytes are held under the name than a document has, where they are told
abbrev pub IsCut : Held → List ℕ → Type 0
IsCut None name = Unit {0}
IsCut (Some held) name = IsLong (held name)

-- no more bytes are held under the name than a document has, where they are told
abbrev pub IsShort : Held → List ℕ → Type 0
IsShort None name = Unit {0}
IsShort (Some held) name = IsSomeAnd (held name) (λ b. length b ≤ 2 ^ 30)

-- the shelf tells what it holds, and that is more than a document under the name
abbrev pub IsToldLong : Held → List ℕ → Type 0
IsToldLong None name = ⊥
IsToldLong (Some held) name = IsLong (held name)

-- the shelf tells what it holds, and that is nothing under the name
abbrev pub IsToldMissing : Held → List ℕ → Type 0
IsToldMissing None name = ⊥
IsToldMissing (Some held) name = held name ≡ None
