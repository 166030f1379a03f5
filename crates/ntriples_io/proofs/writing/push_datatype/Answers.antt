use Rattle.std.proofs.Common.{◌≡◌, Bool, true, false, not, nat_eq, codes, ◌++◌, refl, sym, ap, ◌∙◌, append_assoc}
use Rattle.std.specs.Cmp.Lexicographic.{pointwise}
use Rattle.rdf_terms.specs.Vocab.Xsd.{string as xsd_string}
use Rattle.ntriples_io.specs.CanonicalText.{bracketed}
use Rattle.ntriples_io.proofs.writing.push_datatype.Goals as goal

is_false : (b : Bool) → not b ≡ true → b ≡ false
is_false true e = cc
is_false false e = refl

pub returns-in_ok-push_iri : goal.returns-in_ok-push_iri
returns-in_ok-push_iri c =
    let other : pointwise nat_eq c.args.datatype.now xsd_string ≡ false = ap (λ d. pointwise nat_eq d xsd_string) (sym c.as_str.ensures) ∙ is_false _ (sym c.ne.ensures ∙ c.if-ne.true) in
    rw other (c.in_ok-push_iri.ensures ∙ ap (λ o. o ++ bracketed c.args.datatype.now) c.in_ok-append.ensures.ok ∙ append_assoc c.args.out.now (codes "^^") (bracketed c.args.datatype.now))
