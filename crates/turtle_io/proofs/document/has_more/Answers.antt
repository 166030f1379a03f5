use Rattle.std.proofs.Common.{◌<◌, length, rules}
use Rattle.turtle_io.proofs.Going.{text_left}
use Rattle.turtle_io.proofs.document.has_more.Goals as goal

pub returns-then-not-is_empty-clause-more : goal.returns-then-not-is_empty-clause-more
returns-then-not-is_empty-clause-more c =
    let n : 0 < length c.args.text.now = search rules in
    λ e. text_left c.args.at_end c.args.text.now c.utf8.text n
