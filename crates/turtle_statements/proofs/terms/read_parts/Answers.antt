use Rattle.std.proofs.Common.{List, ℕ, rules, sym, ◌∙◌}
use Rattle.std.specs.Prelude.{string_bytes}
use Rattle.std.specs.Str.{chars}
use Rattle.turtle_statements.specs.Names.{names_of}
use Rattle.turtle_statements.proofs.Leaves.{expand_gives, expand_missed}
use Rattle.turtle_statements.proofs.terms.read_parts.Goals as goal

pub returns-in_err-namespace : goal.returns-in_err-namespace
returns-in_err-namespace c =
    let m = expand_missed (names_of c.args.context.now) c.args.prefix.now (chars c.args.local.now) c.in_err-namespace.field-0.0 c.utf8.prefix c.in_err-namespace.ensures in
    search rules

pub returns : goal.returns
returns c =
    expand_gives (names_of c.args.context.now) c.args.prefix.now (chars c.args.local.now) c.in_ok-namespace.namespace.now c.in_ok-text_of.field-0 c.utf8.prefix c.in_ok-namespace.ensures (c.in_ok-text_of.ensures ∙ c.in_ok-iri.ensures.expands)
