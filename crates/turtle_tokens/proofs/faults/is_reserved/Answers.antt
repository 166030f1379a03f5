use Rattle.std.proofs.Common.{sym, rules, ◌≡◌}
use Rattle.std.proofs.lemmas.Str.{encodes-chars}
use Rattle.turtle_tokens.proofs.faults.is_reserved.Goals as goal

pub returns : goal.returns
returns c =
    let same : c.as_bytes.result.now ≡ c.args.label.now = search rules in
    rw (encodes-chars c.args.label.now c.utf8.label, sym same) c.starts_with.ensures.value
