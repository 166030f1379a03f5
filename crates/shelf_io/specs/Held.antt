-- What a pull says of the bytes that a shelf holds, and a write of those that a sink has.
use Rattle.std.specs.Prelude.{◌≡◌, ℕ, ◌+◌, ◌<◌, ◌≤◌, ◌↔◌, ◌⊎◌, List, ◌++◌, length, take, drop, Option, Some, None, Result, Ok, Err, IfOk, IsErr}
use Rattle.shelf_io.specs.declared.shelf.Failed.{Failed}

-- the bytes under each name that is held, where the shelf tells them
abbrev pub Held : Type 0
Held = Option (List ℕ → Option (List ℕ))

-- the first n bytes of the buffer are held from that place on, and a buffer with room gets none
-- exactly at or past their end
pub record Hands (bytes : List ℕ) (at : ℕ) (buf : List ℕ) (n : ℕ) : Type 0 where
  pub same : take n buf ≡ take n (drop at bytes)
  pub within : at + n ≤ length bytes ⊎ n ≡ 0
  pub ends : 0 < length buf → (n ≡ 0) ↔ (length bytes ≤ at)

-- a pull of what is held under one name: where nothing is, it fails
abbrev pub PullsOf : Option (List ℕ) → ℕ → Result ℕ Failed → List ℕ → Type 0
PullsOf None at result buf = IsErr result
PullsOf (Some bytes) at result buf = IfOk result (λ n. Hands bytes at buf n)

-- a pull of a name, with the buffer after it
abbrev pub Pulls : Held → List ℕ → ℕ → Result ℕ Failed → List ℕ → Type 0
Pulls None name at result buf = Unit {0}
Pulls (Some held) name at result buf = PullsOf (held name) at result buf

-- a write appends the first n bytes, or nothing where it fails; a sink goes on telling, or not
abbrev pub Writes : Option (List ℕ) → Option (List ℕ) → Result ℕ Failed → List ℕ → Type 0
Writes None new result bytes = new ≡ None
Writes (Some old) new (Ok n) bytes = new ≡ Some (old ++ take n bytes)
Writes (Some old) new (Err e) bytes = new ≡ Some old
