use Rattle.std.proofs.Common.{◌≡◌, ◌+◌, ◌≤◌, take, length, IsTrue}
use Rattle.clause_store.specs.Clauses.{is_within}
use Rattle.literal_signs.specs.Marked.{absents, marked_set}
use Rattle.sat_core.proofs.room.make_room_for.Given as goal

abbrev pub invariant-loop-lit : goal.invariant-loop-lit
invariant-loop-lit l =
    record {
      marked : marked_set l.signs.items ≡ marked_set l.fn.signs.items;
      absents : absents l.signs.items + length l.fn.signs.items ≡ absents l.fn.signs.items + length l.signs.items;
      longer : length l.fn.signs.items ≤ length l.signs.items;
      room : IsTrue (is_within (length l.signs.items) (take l.lit-index l.lits));
    }
