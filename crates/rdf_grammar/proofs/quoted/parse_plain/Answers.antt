use Rattle.std.proofs.Common.{ap, ◌∙◌, refl}
use Rattle.std.specs.Prelude.{encode_utf8_all}
use Rattle.std.specs.Str.{chars}
use Rattle.grammar_forms.specs.Reading.{one_at, either_at}
use Rattle.grammar_forms.proofs.Exactness.{take_front}
use Rattle.grammar_forms.proofs.Loops.{written_done}
use Rattle.rdf_grammar.proofs.QuotedText.{nothing_read, run_read, nothing_more}
use Rattle.rdf_grammar.proofs.quoted.parse_plain.Goals as goal

pub returns-in-None : goal.returns-in-None
returns-in-None g c =
    let p = g.Q.CharClass.test c.args.quoted.now in
    let e = g.Q.Quoted.escape_at c.args.quoted.now in
    let cs = chars c.args.text.now in
    let run = c.skip-rest.ensures.run in
    let bytes = c.front.ensures ∙ ap encode_utf8_all (take_front _ _ _ run.parts) in
    written_done (either_at (one_at p) e) _ _ _ (nothing_more p e _ run.stops c.in-None.ensures.gives)
    (run_read p e cs cs _ _ _ (record { skips = run; bytes = bytes }) (nothing_read (either_at (one_at p) e) cs _ refl))
