-- Counts of faults. A fault is answered only where the count of the device rose.
use Rattle.std.specs.Prelude.{ℕ, ◌+◌, ◌-◌, ◌^◌, ◌≤◌, min, Result, Ok, Err, OnErr}
use Rattle.shelf_io.specs.declared.shelf.Failed.{Failed}

-- one more, until the count stands at the end of a u64
abbrev pub raised : ℕ → ℕ
raised count = min (count + 1) (2 ^ 64 - 1)

-- the count is greater than before, or stands at its end
abbrev pub Rose : ℕ → ℕ → Type 0
Rose before now = raised before ≤ now

-- the count does not fall, and a refusal comes only where it rose
pub record HasCause {T E : Type 0} (before now : ℕ) (result : Result T E) : Type 0 where
  pub later : before ≤ now
  pub failed : OnErr result (Rose before now)

-- the count of a device that raises it at each failure and at nothing else
abbrev pub count_after : ℕ → Result ℕ Failed → ℕ
count_after count (Ok n) = count
count_after count (Err e) = raised count
