use Rattle.std.proofs.Common.{rules, length, ◌-◌, ◌<◌}
use Rattle.sat_core.proofs.Entries.{get_some}
use Rattle.sat_core.proofs.walk.last_start.Goals as goal

pub returns : goal.returns
returns c =
    let lt : length c.args.starts.now - 1 < length c.args.starts.now = search rules in
    (length c.args.starts.now - 1, get_some c.args.starts.now (length c.args.starts.now - 1) 0 lt)
