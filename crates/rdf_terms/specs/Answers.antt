-- What a call answers, unless memory could not be had: the frame of the clauses that want of memory is no answer to.
use Rattle.std.specs.Prelude.{◌≡◌, Bool, Result, Ok, Err}
use Rattle.std.specs.Bool.{MatchBool}

-- want of memory, an error that passes the test, says nothing
abbrev pub UnlessMemory : {T E : Type 0} → (E → Bool) → Result T E → Type 0 → Type 0
UnlessMemory is_memory (Ok x) P = P
UnlessMemory is_memory (Err e) P = MatchBool (is_memory e) (Unit {0}) P

-- unless memory could not be had, the answer is one that is meant
abbrev pub IsMeant : {T E : Type 0} → (E → Bool) → (Result T E → Type 0) → Result T E → Type 0
IsMeant is_memory Means result = UnlessMemory is_memory result (Means result)

-- unless memory could not be had, no other answer is meant
abbrev pub IsOnlyMeant : {T E : Type 0} → (E → Bool) → (Result T E → Type 0) → Result T E → Type 0
IsOnlyMeant {T} {E} is_memory Means result =
    (other : Result T E) → Means other → UnlessMemory is_memory result (result ≡ other)
