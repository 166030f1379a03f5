use Rattle.std.proofs.Common.{sym, arith}
use Rattle.shelf_io.proofs.Listed.{none_past_end}
use Rattle.shelf_io.proofs.calls.is_listed.Goals as goal

pub returns-in-None : goal.returns-in-None
returns-in-None c =
    sym (none_past_end c.args.failing.now _ c.type_inv.failing (omega (arith, c.in-None.ensures)))
