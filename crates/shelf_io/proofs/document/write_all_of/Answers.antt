use Rattle.std.proofs.Common.{rules}
use Rattle.shelf_io.proofs.Gains.{gained_more}
use Rattle.shelf_io.proofs.document.write_all_of.Goals as goal

pub loop-done-preserved : goal.loop-done-preserved
loop-done-preserved g c =
    let t = c.in-Ok.ensures.taken in
    record {
      within = search rules;
      gained = gained_more (g.N.Sink.written c.args.sink.now) (g.N.Sink.written c.loop-done.sink) (g.N.Sink.written c.write.new.self) c.args.bytes.now c.loop-done.done c.in-Ok.count c.loop-done.invariant.gained c.in-Ok.ensures.bytes;
      count = search rules;
    }
