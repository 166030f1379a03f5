use Rattle.std.proofs.Common.{refl}
use Rattle.std.proofs.lemmas.Result.{on_ok_weaker}
use Rattle.shelf_io.specs.Kept.{failing_at}
use Rattle.shelf_io.proofs.Places.{StandsAt, StandsNowhere, mapped_at, absent}
use Rattle.shelf_io.proofs.memory_shelf.MemoryShelf.fail_at.Goals as goal

pub unreachable-requires : goal.unreachable-requires
unreachable-requires c =
    let nowhere : StandsNowhere (λ k. k.name) c.deref.result.now c.self.inside.entries.items c.args.self.now c.args.name.now =
    record { place = c.in-None.ensures; searched = c.deref.ensures.value; viewed = c.self.view_is } in
    let never = rw (absent nowhere) at c.requires in
    cc

pub returns-clause-ok : goal.returns-clause-ok
returns-clause-ok c =
    let stands : StandsAt (λ k. k.name) c.deref.result.now c.self.inside.entries.items c.args.self.now c.args.name.now c.in-Some.i c.index_mut-entry.result.now =
    record { place = c.in-Some.ensures; searched = c.deref.ensures.value; viewed = c.self.view_is; item = c.index_mut-entry.ensures.value } in
    on_ok_weaker c.fail_at.result (mapped_at stands (failing_at c.args.call) (λ k. refl) c.fail_at.new.self) c.fail_at.ensures.ok
