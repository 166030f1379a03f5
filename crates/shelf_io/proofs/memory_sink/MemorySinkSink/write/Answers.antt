use Rattle.std.proofs.Common.{arith}
use Rattle.shelf_io.proofs.memory_sink.MemorySinkSink.write.Goals as goal

pub returns-then-count-clause-cause : goal.returns-then-count-clause-cause
returns-then-count-clause-cause c =
    rw (← c.self.view_is) (record {
      later = c.if-count.ensures.later;
      failed = rw c.if-count.ensures.after (omega arith);
    })
