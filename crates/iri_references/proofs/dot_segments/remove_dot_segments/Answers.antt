use Rattle.std.proofs.Common.{rules, arith, string_bytes, ◌<◌, ◌≡◌, length}
use Rattle.std.proofs.lemmas.Grind.{common_steps}
use Rattle.iri_references.proofs.Turns.{turns_go_on, turns_end}
use Rattle.iri_references.proofs.dot_segments.remove_dot_segments.Goals as goal

pub turns-preserved : goal.turns-preserved
turns-preserved c =
    let some : 0 < length c.turns.input.now = grind (arith, common_steps) in
    record {
      utf8 = search rules;
      turning = turns_go_on c.args.path.now c.turns.input.now (string_bytes c.turns.output) c.in_ok-input.input.now (string_bytes c.take_turn.new.output) c.turns.invariant.turning some c.in_ok-input.ensures.turn c.in_ok-input.ensures.shorter;
    }

pub returns : goal.returns
returns c =
    let none : length c.turns.input.now ≡ 0 = grind (arith, common_steps) in
    turns_end c.args.path.now c.turns.input.now (string_bytes c.turns.output) c.turns.invariant.turning none
