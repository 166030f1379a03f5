-- What a shelf in memory keeps under each name.
use Rattle.std.specs.Prelude.{ℕ, ◌-◌, ◌^◌, List, length, min, cond, Option, Some, None, option_map, Result, Ok, Err, nat_eq}
use Rattle.std.specs.List.{find}
use Rattle.std.specs.Cmp.Lexicographic.{pointwise}
use Rattle.shelf_io.specs.declared.shelf.Failed.{Failed}
use Rattle.shelf_io.specs.Calls.{Calls, fails_next, with_failing, after_call, no_calls}
use Rattle.shelf_io.specs.Named.{ChangesOnly}

-- a name, its bytes and its pulls
pub record Kept : Type 0 where
  pub name : List ℕ
  pub bytes : List ℕ
  pub calls : Calls

-- what is kept under the name, if it is held
abbrev pub kept_at : List Kept → List ℕ → Option Kept
kept_at shelf name = find (λ k. pointwise nat_eq k.name name) shelf

-- the bytes that are held under the name
abbrev pub held_in : List Kept → List ℕ → Option (List ℕ)
held_in shelf name = option_map (λ k. k.bytes) (kept_at shelf name)

-- the counts of a name that isn't held stand at their end
abbrev pub faults_of : Option Kept → ℕ
faults_of None = 2 ^ 64 - 1
faults_of (Some k) = k.calls.faults

abbrev pub faults_in : List Kept → List ℕ → ℕ
faults_in shelf name = faults_of (kept_at shelf name)

abbrev pub pulls_of : Option Kept → ℕ
pulls_of None = 2 ^ 64 - 1
pulls_of (Some k) = k.calls.made

abbrev pub pulls_in : List Kept → List ℕ → ℕ
pulls_in shelf name = pulls_of (kept_at shelf name)

-- the bytes under the name, in the place of those that stood there: its calls stay
abbrev pub held_anew : List ℕ → List ℕ → Option Kept → Kept
held_anew name bytes None =
    record { name = name; bytes = bytes; calls = no_calls }
held_anew name bytes (Some k) = record k { bytes = bytes }

-- one more pull that is to fail
abbrev pub failing_at : ℕ → Kept → Kept
failing_at call k = record k { calls = with_failing call k.calls }

-- a pull fails exactly where the name isn't held or the pull is one that is to fail; else as many
-- bytes as fit are handed out
abbrev pub pull_answer : Option Kept → ℕ → ℕ → Result ℕ Failed
pull_answer None at room = Err (record {})
pull_answer (Some k) at room =
    cond (fails_next k.calls) (Err (record {})) (Ok (min room (length k.bytes - at)))

-- a pull counts as one more call of the name
abbrev pub after_pull : Kept → Kept
after_pull k = record k { calls = after_call k.calls (fails_next k.calls) }

-- the bytes are held under the name, and nothing else has changed
abbrev pub HoldsAnew : List Kept → List Kept → List ℕ → List ℕ → Type 0
HoldsAnew old new name bytes =
    ChangesOnly (kept_at old) (kept_at new) name (Some (held_anew name bytes (kept_at old name)))

-- what is kept under the name, if it is held, has changed so, and nothing else
abbrev pub ChangesKept : (Kept → Kept) → List Kept → List Kept → List ℕ → Type 0
ChangesKept change old new name =
    ChangesOnly (kept_at old) (kept_at new) name (option_map change (kept_at old name))
