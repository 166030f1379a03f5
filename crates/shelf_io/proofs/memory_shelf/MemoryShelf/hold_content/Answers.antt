use Rattle.std.proofs.Common.{ap}
use Rattle.shelf_io.proofs.Places.{StandsAt, StandsNowhere, stands_first, changed_at, added_at, absent}
use Rattle.shelf_io.proofs.memory_shelf.MemoryShelf.hold_content.Goals as goal

pub returns-in-Some-clause-ok : goal.returns-in-Some-clause-ok
returns-in-Some-clause-ok c =
    let stands : StandsAt (λ k. k.name) c.deref.result.now c.self.inside.entries.items c.args.self.now c.args.name.now c.in-Some.i c.index_mut-entry.result.now =
    record { place = c.in-Some.ensures; searched = c.deref.ensures.value; viewed = c.self.view_is; item = c.index_mut-entry.ensures.value } in
    rw (stands_first stands, ← c.replace.ensures) (changed_at stands c.replace.new.self (ap (λ k. k.name) c.replace.ensures))

pub returns-in_ok-push-in-None-clause-ok : goal.returns-in_ok-push-in-None-clause-ok
returns-in_ok-push-in-None-clause-ok c =
    let nowhere : StandsNowhere (λ k. k.name) c.deref.result.now c.self.inside.entries.items c.args.self.now c.args.name.now =
    record { place = c.in-None.ensures; searched = c.deref.ensures.value; viewed = c.self.view_is } in
    rw (absent nowhere, ← c.in_ok-entry-in-None.ensures, c.in_ok-push-in-None.ensures.items)
    (added_at nowhere c.in_ok-entry-in-None.entry (ap (λ k. k.name) c.in_ok-entry-in-None.ensures))
