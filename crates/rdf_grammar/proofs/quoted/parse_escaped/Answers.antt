use Rattle.std.proofs.Common.{rules}
use Rattle.std.specs.Str.{chars}
use Rattle.grammar_forms.specs.Reading.{one_at, either_at}
use Rattle.grammar_forms.proofs.Loops.{written_done}
use Rattle.rdf_grammar.proofs.QuotedText.{nothing_read, run_read, escape_read, nothing_more}
use Rattle.rdf_grammar.proofs.quoted.parse_escaped.Goals as goal

pub escapes-init : goal.escapes-init
escapes-init g c =
    let p = g.Q.CharClass.test c.args.quoted.now in
    let e = g.Q.Quoted.escape_at c.args.quoted.now in
    record {
      utf8 = search rules;
      written = run_read p e (chars c.args.text.now) (chars c.args.text.now) _ _ _ c.in_ok-rest.ensures (nothing_read (either_at (one_at p) e) (chars c.args.text.now) _ c.new-out.ensures.bytes);
      stops = c.in_ok-rest.ensures.skips.stops;
    }

pub escapes-preserved : goal.escapes-preserved
escapes-preserved g c =
    let p = g.Q.CharClass.test c.args.quoted.now in
    let e = g.Q.Quoted.escape_at c.args.quoted.now in
    let i = c.escapes.invariant in
    record {
      utf8 = search rules;
      written =
          run_read p e (chars c.args.text.now) _ _ _ _ c.in_ok-rest-2.ensures
          (escape_read p e (chars c.args.text.now) _ _ _ _ c.in-Some.c i.stops c.in-Some.ensures.gives c.in-Some.ensures.shorter c.in_ok-push.ensures.bytes i.written);
      stops = c.in_ok-rest-2.ensures.skips.stops;
    }

pub returns : goal.returns
returns g c =
    let p = g.Q.CharClass.test c.args.quoted.now in
    let e = g.Q.Quoted.escape_at c.args.quoted.now in
    written_done (either_at (one_at p) e) _ _ _ (nothing_more p e _ c.escapes.invariant.stops c.in_default.ensures.gives) c.escapes.invariant.written
