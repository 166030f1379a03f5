use Rattle.std.proofs.Common.{◌≡◌, ◌+◌, ℕ, List, drop, length, Some, None, arith, sym, ap, ◌∙◌, subst}
use Rattle.std.proofs.lemmas.List.{length-drop, take_rest}
use Rattle.std.specs.List.{position, position_or_len}
use Rattle.std.specs.Str.{IsCharBoundary}
use Rattle.iri_references.specs.Components.{is_slash}
use Rattle.iri_references.proofs.Cutting.{position_is, slash_boundary}
use Rattle.iri_references.proofs.cuts.slash_from.Goals as goal

pub returns-in-Some-clause-boundary : goal.returns-in-Some-clause-boundary
returns-in-Some-clause-boundary c =
    let found = position_is is_slash (drop c.args.start c.as_bytes-bytes.result.now) (Some c.in-Some.count) (sym c.in-Some.is ∙ (c.first_slash.ensures ∙ ap (λ (bs : List ℕ). position is_slash bs) (take_rest c.as_bytes-bytes.result.now c.args.start))) in
    let same = ap (λ (bs : List ℕ). position_or_len is_slash (drop c.args.start bs)) c.as_bytes-bytes.ensures.value in
    subst (λ n. IsCharBoundary c.args.text.now (c.args.start + n)) (sym (found.0 ∙ same)) (slash_boundary c.args.text.now c.args.start c.requires)

pub returns-in-None-clause-place : goal.returns-in-None-clause-place
returns-in-None-clause-place c =
    let rest : List ℕ = drop c.args.start c.as_bytes-bytes.result.now in
    let found : position_or_len is_slash rest ≡ length rest = position_is is_slash rest None (sym c.in-None.is ∙ (c.first_slash.ensures ∙ ap (λ (bs : List ℕ). position is_slash bs) (take_rest c.as_bytes-bytes.result.now c.args.start))) in
    let same = ap (λ (bs : List ℕ). position_or_len is_slash (drop c.args.start bs)) c.as_bytes-bytes.ensures.value in
    omega (arith, found, same, length-drop c.args.start c.as_bytes-bytes.result.now, ap length c.as_bytes-bytes.ensures.value, c.requires)
