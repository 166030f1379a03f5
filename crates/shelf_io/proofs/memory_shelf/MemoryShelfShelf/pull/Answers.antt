use Rattle.std.proofs.Common.{Some, ap}
use Rattle.shelf_io.proofs.Pulled.{held_stays}
use Rattle.shelf_io.proofs.memory_shelf.MemoryShelfShelf.pull.Goals as goal

pub returns-clause-kept : goal.returns-clause-kept
returns-clause-kept c =
    ap Some (held_stays c.args.self.now c.pull_entry.new.self c.args.name.now c.pull_entry.ensures.after)
