use Rattle.std.proofs.Common.{◌≡◌, ◌<◌, take, length}
use Rattle.clause_store.specs.Chained.{Derives}
use Rattle.literal_signs.specs.Marked.{marked_set}
use Rattle.refute_check.proofs.gather.resolve_all.Given as goal

abbrev pub invariant-loop-k : goal.invariant-loop-k
invariant-loop-k g l =
    record {
      length : length l.signs ≡ length l.fn.signs;
      pos : 0 < l.k;
      chain : Derives (g.S.ClauseStore.clauses l.store) (take l.k l.ids) (marked_set l.signs);
    }
