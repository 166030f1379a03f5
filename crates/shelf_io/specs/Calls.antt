-- What a device in memory keeps of its calls.
use Rattle.std.specs.Prelude.{ℕ, ◌+◌, ◌==◌, Bool, cond, List, [], ◌∷◌, ◌++◌}
use Rattle.std.specs.List.{list_any}
use Rattle.shelf_io.specs.Causes.{raised}

-- the numbers of the calls that are to fail, counted from 1; the calls so far; those that failed
pub record Calls : Type 0 where
  pub failing : List ℕ
  pub made : ℕ
  pub faults : ℕ

-- no call yet, and none that is to fail
abbrev pub no_calls : Calls
no_calls = record { failing = []; made = 0; faults = 0 }

-- whether the next call is one that is to fail
abbrev pub fails_next : Calls → Bool
fails_next calls = list_any (λ number. number == calls.made + 1) calls.failing

-- one more call that is to fail
abbrev pub with_failing : ℕ → Calls → Calls
with_failing call calls = record calls { failing = calls.failing ++ call ∷ [] }

-- one more call, which failed or not
abbrev pub after_call : Calls → Bool → Calls
after_call calls failed =
    record {
      failing = calls.failing;
      made = raised calls.made;
      faults = cond failed (raised calls.faults) calls.faults;
    }
