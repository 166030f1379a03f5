use Rattle.std.proofs.Common.{[], rules}
use Rattle.std.specs.Str.{chars}
use Rattle.grammar_forms.specs.Reading.{one_at}
use Rattle.grammar_forms.proofs.Exactness.{one_exact, one_nonempty}
use Rattle.grammar_forms.proofs.Loops.{consumes, begins, passed_more, passed_done, skips}
use Rattle.rdf_grammar.proofs.Skipping.{passed_before}
use Rattle.rdf_grammar.proofs.characters.skip.Goals as goal

pub class-init : goal.class-init
class-init g c =
    let p = g.C.CharClass.test c.args.class.now in
    (search rules, passed_before p (chars c.args.text.now) _ _ c.skip_ascii-rest.ensures ([], begins (one_at p) (chars c.args.text.now)))

pub class-preserved : goal.class-preserved
class-preserved g c =
    let p = g.C.CharClass.test c.args.class.now in
    (search rules, passed_more (one_at p) (consumes (one_exact p) (one_nonempty p)) _ _ c.in-Some._c (chars c.in-Some.after.now) c.in-Some.ensures.gives c.class.invariant.1)

pub returns-clause-run : goal.returns-clause-run
returns-clause-run g c =
    let p = g.C.CharClass.test c.args.class.now in
    skips p _ _ (passed_done (one_at p) _ _ c.in_default.ensures.gives c.class.invariant.1)
