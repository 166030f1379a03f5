use Rattle.std.proofs.Common.{rules, arith, length, ap}
use Rattle.std.specs.Str.{chars}
use Rattle.turtle_terms.proofs.Expanding.{terminal_is, escape_leaves, all_left}
use Rattle.turtle_terms.proofs.names.push_unescaped.Goals as goal

pub escapes-init : goal.escapes-init
escapes-init c = record { utf8 = search rules; leaves = c.in_ok-rest.ensures.pushes; stops = c.in_ok-rest.ensures.stops }

pub escapes-preserved : goal.escapes-preserved
escapes-preserved c = record {
  utf8 = search rules;
  leaves = escape_leaves _ _ _ (chars c.escapes.rest.now) (chars c.in-Some.escaped.now) _ _ _ _ c.in-Some.ensures c.escapes.invariant.leaves c.in_ok-behind.ensures.pushes c.in_ok-rest-2.ensures.pushes;
  stops = c.in_ok-rest-2.ensures.stops;
}

pub escapes-smaller : goal.escapes-smaller
escapes-smaller c = omega (arith, ap length (terminal_is 92 (chars c.escapes.rest.now) (chars c.in-Some.escaped.now) c.in-Some.ensures), c.in_ok-behind.ensures.shorter, c.in_ok-rest-2.ensures.shorter)

pub returns : goal.returns
returns c = all_left _ _ _ (chars c.escapes.rest.now) c.escapes.invariant.stops c.in_default.ensures c.escapes.invariant.leaves
