use Rattle.std.proofs.Common.{rules, ◌<◌}
use Rattle.shelf_io.proofs.Gains.{taken_more, whole}
use Rattle.shelf_io.proofs.document.read_document.Goals as goal

pub returns-in-Ok-eq0-pull-clause-ok : goal.returns-in-Ok-eq0-pull-clause-ok
returns-in-Ok-eq0-pull-clause-ok g c =
    let p = rw (c.in-Ok-eq0-pull.field-0-test, c.loop-at.invariant.kept) at c.in-Ok-eq0-pull.ensures.bytes in
    whole (g.H.Shelf.held c.args.shelf.now) c.args.name.now c.loop-at.at c.loop-at.bytes c.pull-in-loop-at.new.buf (search rules) c.loop-at.invariant.taken p

pub loop-at-preserved : goal.loop-at-preserved
loop-at-preserved g c =
    let p = rw c.loop-at.invariant.kept at c.in-Ok-pull.ensures.bytes in
    let pos : 0 < c.in-Ok-pull.count = search rules in
    record {
      bound = search rules;
      taken = rw c.in-Ok-append.ensures.ok (taken_more (g.H.Shelf.held c.args.shelf.now) c.args.name.now c.loop-at.at c.in-Ok-pull.count c.loop-at.bytes c.pull-in-loop-at.new.buf pos c.loop-at.invariant.taken p);
      kept = search rules;
      count = search rules;
      few = search rules;
      unasked = search rules;
      others = search rules;
    }
