use Rattle.std.proofs.Common.{◌≡◌, ◌<◌, length, refl, below_more, sym, ap, ◌∙◌, arith}
use Rattle.std.proofs.lemmas.Bool.{false≢true}
use Rattle.rdf_terms.specs.Graph.{Graph, triples}
use Rattle.value_tests.proofs.RangeLaws.{all_from, all_to}
use Rattle.value_tests.proofs.range_constraints.compares_all.Goals as goal

pub returns-then-compares_all_at : goal.returns-then-compares_all_at
returns-then-compares_all_at c =
    let s = c.args.shapes.now in
    (λ t. all_from s c.places.place (sym c.compares_all_at.ensures ∙ c.if-compares_all_at.true), λ h. refl)

pub returns : goal.returns
returns c =
    let s = c.args.shapes.now in
    let size : c.len-place-end.result ≡ length (triples s) = c.len-place-end.ensures ∙ ap (λ (g : Graph). length (triples g)) c.triples.ensures.graph in (
      λ t. absurd (false≢true t),
      λ h.
          let at = all_to s h in
          let within : at.0 < c.places.place = omega (arith, at.2, size, c.places-test.false) in
          absurd (false≢true (sym (c.places.invariant at.0 within) ∙ at.1)),
    )

pub places-preserved : goal.places-preserved
places-preserved c = below_more _ _ c.places.invariant (sym c.compares_all_at.ensures ∙ c.if-compares_all_at.false)
