use Rattle.std.proofs.Common.{List, ℕ, rules}
use Rattle.std.specs.Str.{IsUtf8, chars}
use Rattle.turtle_statements.proofs.Leaves.{prefix_gives, no_prefix}
use Rattle.turtle_statements.proofs.statement.split_prefix.Goals as goal

pub returns-in-Some : goal.returns-in-Some
returns-in-Some c =
    let u : IsUtf8 c.in-Some.parts.prefix.now = search rules in
    prefix_gives (chars c.args.name.now) c.in-Some.parts.prefix.now (chars c.in-Some.parts.local.now) c.in-Some.ensures.cut u

pub returns-in-None : goal.returns-in-None
returns-in-None c = no_prefix (chars c.args.name.now) c.in-None.ensures.cut
