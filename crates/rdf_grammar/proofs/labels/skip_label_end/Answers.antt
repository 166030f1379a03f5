use Rattle.std.proofs.Common.{◌≡◌, ◌∙◌, sym, rules, Some, refl}
use Rattle.std.specs.Str.{chars}
use Rattle.std.proofs.lemmas.Bool.{ne_eqb}
use Rattle.grammar_forms.specs.Reading.{char_at}
use Rattle.grammar_forms.proofs.NameEnds.{name_begins, name_char, name_dot, name_stops, name_ended}
use Rattle.rdf_grammar.specs.Productions.{is_name_char}
use Rattle.rdf_grammar.specs.Reading.{label_end_at}
use Rattle.rdf_grammar.proofs.Productions.{no_dot}
use Rattle.rdf_grammar.proofs.labels.skip_label_end.Goals as goal

pub loop-c-init : goal.loop-c-init
loop-c-init c = (search rules, search rules, name_begins (is_name_char c.args.dialect) (chars c.args.text.now))

pub loop-c-preserved-then-is_name_char : goal.loop-c-preserved-then-is_name_char
loop-c-preserved-then-is_name_char c =
    (search rules, search rules, name_char (is_name_char c.args.dialect) _ _ _ c.in-Some.c (chars c.in-Some.after.now) c.in-Some.ensures (sym c.is_name_char.ensures ∙ c.if-is_name_char.true) c.loop-c.invariant.2)

pub loop-c-preserved : goal.loop-c-preserved
loop-c-preserved c =
    let at : char_at (chars c.loop-c.ahead.now) ≡ Some (46, chars c.in-Some.after.now) = rw (← c.if-c-eq46.true) c.in-Some.ensures in
    (search rules, search rules, name_dot (is_name_char c.args.dialect) _ _ _ (chars c.in-Some.after.now) at (no_dot c.args.dialect) c.loop-c.invariant.2)

pub returns-else-c-eq46 : goal.returns-else-c-eq46
unfolding label_end_at
returns-else-c-eq46 c = rw (name_stops (is_name_char c.args.dialect) _ _ _ c.in-Some.c (chars c.in-Some.after.now) c.in-Some.ensures (sym c.is_name_char.ensures ∙ c.if-is_name_char.false) (ne_eqb c.in-Some.c 46 c.if-c-eq46.false) c.loop-c.invariant.2) refl

pub returns : goal.returns
unfolding label_end_at
returns c = rw (name_ended (is_name_char c.args.dialect) _ _ _ c.in_default.ensures c.loop-c.invariant.2) refl
