use Rattle.std.proofs.Common.{◌≡◌, take, length}
use Rattle.clause_store.specs.Clauses.{has}
use Rattle.clause_store.specs.Chained.{union}
use Rattle.literal_signs.specs.Marked.{marked_set}
use Rattle.literal_signs.proofs.resolution.unite.Given as goal

abbrev pub invariant-loop-lit : goal.invariant-loop-lit
invariant-loop-lit l =
    record {
      length : length l.signs ≡ length l.fn.signs;
      united : marked_set l.signs ≡ union (marked_set l.fn.signs) (has (take l.lit-index l.clause));
    }
