use Rattle.std.proofs.Common.{◌≡◌, ◌≤◌, true, length, take, subst, sym}
use Rattle.std.specs.List.{list_all}
use Rattle.std.specs.Str.{IsAscii, chars}
use Rattle.rdf_grammar.specs.Answers.{StandBefore}
use Rattle.rdf_grammar.proofs.Skipping.{cut_here, stand_before}
use Rattle.rdf_grammar.proofs.characters.skip_ascii.Goals as goal

pub range_from-requires : goal.range_from-requires
range_from-requires g c =
    let e = c.as_bytes-bytes.ensures.value in
    λ h. cut_here c.args.text.now c.ascii.end c.utf8.text (subst (λ bs. c.ascii.end ≤ length bs) e c.ascii.invariant.within) (subst (λ bs. IsAscii (take c.ascii.end bs)) e c.ascii.invariant.ascii)

pub returns : goal.returns
returns g c =
    let e = c.as_bytes-bytes.ensures.value in
    let p = g.C.CharClass.test c.args.class.now in
    subst (λ rest. StandBefore p (chars c.args.text.now) (chars rest)) (sym c.range_from.ensures.value)
    (stand_before p c.args.text.now c.ascii.end (subst (λ bs. IsAscii (take c.ascii.end bs)) e c.ascii.invariant.ascii) (subst (λ bs. list_all p (take c.ascii.end bs) ≡ true) e c.ascii.invariant.each))
