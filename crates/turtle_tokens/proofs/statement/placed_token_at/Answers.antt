use Rattle.std.proofs.Common.{rules, ◌≡◌, ◌++◌, ◌-◌, length, sym, arith}
use Rattle.std.specs.Str.{chars, IsUtf8}
use Rattle.std.proofs.lemmas.List.{take-append-drop}
use Rattle.turtle_tokens.proofs.CutLaws.{no_token, rest_shorter, boundary, is_next, has_bytes}
use Rattle.turtle_tokens.proofs.statement.placed_token_at.Goals as goal

pub overflow_sub-text : goal.overflow_sub-text
overflow_sub-text c = let u : IsUtf8 c.in-Some.after.now = search rules in rest_shorter c.args.text.now c.in-Some.after.now c.in-Some.kind c.utf8.text u c.in-Some.ensures

pub split_at-requires : goal.split_at-requires
split_at-requires c = let u : IsUtf8 c.in-Some.after.now = search rules in boundary c.args.text.now c.in-Some.after.now c.in-Some.kind c.utf8.text u c.in-Some.ensures

pub returns-in-None : goal.returns-in-None
returns-in-None c = no_token c.args.at (chars c.args.text.now) c.in-None.ensures

pub returns-in-Some : goal.returns-in-Some
returns-in-Some c =
    let u : IsUtf8 c.in-Some.after.now = search rules in
    let k = c.in-Some.kind in
    let parts : c.args.text.now ≡ c.split_at.result.0.now ++ c.split_at.result.1.now = rw (c.split_at.ensures.front, c.split_at.ensures.back) (sym (take-append-drop (length c.args.text.now - length c.in-Some.after.now) c.args.text.now)) in
    let size : length c.split_at.result.1.now ≡ length c.in-Some.after.now = omega (arith, c.split_at.ensures.back_len, rest_shorter c.args.text.now c.in-Some.after.now k c.utf8.text u c.in-Some.ensures) in (
      parts,
      has_bytes c.args.text.now c.split_at.result.0.now c.split_at.result.1.now c.in-Some.after.now k c.utf8.text u c.in-Some.ensures parts size,
      is_next c.args.at c.args.text.now c.split_at.result.0.now c.split_at.result.1.now c.in-Some.after.now k c.utf8.text u c.in-Some.ensures parts size,
    )
