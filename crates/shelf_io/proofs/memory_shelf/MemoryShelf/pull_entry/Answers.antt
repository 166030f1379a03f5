use Rattle.std.proofs.Common.{ap, refl}
use Rattle.shelf_io.specs.Kept.{after_pull}
use Rattle.shelf_io.proofs.Places.{StandsAt, StandsNowhere, stands_first, changed_at, mapped_at, absent}
use Rattle.shelf_io.proofs.memory_shelf.MemoryShelf.pull_entry.Goals as goal

pub returns-in-Some-clause-answer : goal.returns-in-Some-clause-answer
returns-in-Some-clause-answer c =
    let stands : StandsAt (λ k. k.name) c.deref.result.now c.self.inside.entries.items c.args.self.now c.args.name.now c.in-Some.i c.index_mut-entry.result.now =
    record { place = c.in-Some.ensures; searched = c.deref.ensures.value; viewed = c.self.view_is; item = c.index_mut-entry.ensures.value } in
    rw (stands_first stands) c.pull.ensures.answer

pub returns-in-Some-clause-buffer : goal.returns-in-Some-clause-buffer
returns-in-Some-clause-buffer c =
    let stands : StandsAt (λ k. k.name) c.deref.result.now c.self.inside.entries.items c.args.self.now c.args.name.now c.in-Some.i c.index_mut-entry.result.now =
    record { place = c.in-Some.ensures; searched = c.deref.ensures.value; viewed = c.self.view_is; item = c.index_mut-entry.ensures.value } in
    rw (stands_first stands) c.pull.ensures.buffer

pub returns-in-Some-clause-after : goal.returns-in-Some-clause-after
returns-in-Some-clause-after c =
    let stands : StandsAt (λ k. k.name) c.deref.result.now c.self.inside.entries.items c.args.self.now c.args.name.now c.in-Some.i c.index_mut-entry.result.now =
    record { place = c.in-Some.ensures; searched = c.deref.ensures.value; viewed = c.self.view_is; item = c.index_mut-entry.ensures.value } in
    mapped_at stands after_pull (λ k. refl) c.pull.new.self c.pull.ensures.after

pub returns-in-Some-clause-later : goal.returns-in-Some-clause-later
returns-in-Some-clause-later c =
    let stands : StandsAt (λ k. k.name) c.deref.result.now c.self.inside.entries.items c.args.self.now c.args.name.now c.in-Some.i c.index_mut-entry.result.now =
    record { place = c.in-Some.ensures; searched = c.deref.ensures.value; viewed = c.self.view_is; item = c.index_mut-entry.ensures.value } in
    rw (stands_first stands, (changed_at stands c.pull.new.self (ap (λ k. k.name) c.pull.ensures.after)).here) c.pull.ensures.later

pub returns-in-None-clause-answer : goal.returns-in-None-clause-answer
returns-in-None-clause-answer c =
    let nowhere : StandsNowhere (λ k. k.name) c.deref.result.now c.self.inside.entries.items c.args.self.now c.args.name.now =
    record { place = c.in-None.ensures; searched = c.deref.ensures.value; viewed = c.self.view_is } in
    rw (absent nowhere)

pub returns-in-None-clause-after : goal.returns-in-None-clause-after
returns-in-None-clause-after c =
    let nowhere : StandsNowhere (λ k. k.name) c.deref.result.now c.self.inside.entries.items c.args.self.now c.args.name.now =
    record { place = c.in-None.ensures; searched = c.deref.ensures.value; viewed = c.self.view_is } in
    record { here = rw (absent nowhere); others = λ other ne. refl }
