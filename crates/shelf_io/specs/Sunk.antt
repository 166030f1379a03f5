-- What a sink in memory keeps.
use Rattle.std.specs.Prelude.{ℕ, ◌-◌, ◌++◌, ◌||◌, ◌==◌, List, [], length, take, min, Bool, cond, Result, Ok, Err}
use Rattle.shelf_io.specs.declared.shelf.Failed.{Failed}
use Rattle.shelf_io.specs.Calls.{Calls, fails_next, after_call, no_calls}

-- the bytes that were written, how many there may be, and the writes
pub record Sunk : Type 0 where
  pub bytes : List ℕ
  pub room : ℕ
  pub calls : Calls

-- nothing was written
abbrev pub empty_sink : ℕ → Sunk
empty_sink room = record { bytes = []; room = room; calls = no_calls }

-- how many bytes still fit
abbrev pub room_left : Sunk → ℕ
room_left sink = sink.room - length sink.bytes

-- a write fails exactly where the room is full or the write is one that is to fail
abbrev pub write_fails : Sunk → Bool
write_fails sink = (room_left sink == 0) || fails_next sink.calls

-- else it takes what still fits
abbrev pub write_answer : Sunk → List ℕ → Result ℕ Failed
write_answer sink bytes =
    cond (write_fails sink) (Err (record {})) (Ok (min (length bytes) (room_left sink)))

-- a write that does not fail appends what fits, and each counts as one more call
abbrev pub after_write : Sunk → List ℕ → Sunk
after_write sink bytes =
    record {
      bytes = cond (write_fails sink) sink.bytes (sink.bytes ++ take (room_left sink) bytes);
      room = sink.room;
      calls = after_call sink.calls (write_fails sink);
    }
