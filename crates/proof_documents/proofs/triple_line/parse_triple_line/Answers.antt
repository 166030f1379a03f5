use Rattle.std.proofs.Common.{◌≡◌, Some, sym, ap, ◌∙◌}
use Rattle.std.proofs.lemmas.Result.{err_from_is_err_and}
use Rattle.ntriples_io.specs.CanonicalText.{line_text}
use Rattle.proof_documents.proofs.TripleLines.{rest_means, no_rest, missed}
use Rattle.proof_documents.proofs.triple_line.parse_triple_line.Goals as goal

pub returns-in_err-rest-clause-only : goal.returns-in_err-rest-clause-only
returns-in_err-rest-clause-only c = λ t h. absurd (no_rest c.args.prefix.now c.args.text.now t c.strip_front.result c.in_err-rest.ensures.ok_part c.strip_front.ensures.none h)

pub returns-in_err-parse_line-clause-only : goal.returns-in_err-parse_line-clause-only
returns-in_err-parse_line-clause-only c = λ t h.
    let p = err_from_is_err_and c.from_residual-in_err-parse_line.result c.from_residual-in_err-parse_line.ensures.1 in
    let k = rest_means c.args.prefix.now c.args.text.now c.in_ok-rest.rest.now t (rw c.in_ok-rest.ensures.ok_part at c.strip_front.ensures.found) h in
    rw (p.1, p.2) (missed (Some t) t c.in_err-parse_line.field-0.0 (c.in_err-parse_line.ensures.only (Some t) k.is_line))

pub returns-in_err-triple-clause-only : goal.returns-in_err-triple-clause-only
returns-in_err-triple-clause-only c = λ t h.
    let k = rest_means c.args.prefix.now c.args.text.now c.in_ok-rest.rest.now t (rw c.in_ok-rest.ensures.ok_part at c.strip_front.ensures.found) h in
    absurd (cc (c.in_ok-parse_line.ensures.only (Some t) k.is_line, c.in_err-triple.ensures.ok_part))

pub returns-then-not-is_line_of-clause-only : goal.returns-then-not-is_line_of-clause-only
returns-then-not-is_line_of-clause-only c = λ t h.
    let k = rest_means c.args.prefix.now c.args.text.now c.in_ok-rest.rest.now t (rw c.in_ok-rest.ensures.ok_part at c.strip_front.ensures.found) h in
    let same : t ≡ c.in_ok-triple.triple = cc (c.in_ok-parse_line.ensures.only (Some t) k.is_line, c.in_ok-triple.ensures.ok_part) in
    let canonical = c.is_line_of.ensures.1 (c.as_slice.ensures ∙ c.in_ok-canonical.ensures.text ∙ ap line_text (sym same) ∙ k.ended) in
    absurd (cc (canonical, c.if-not-is_line_of.true))

pub returns-clause-only : goal.returns-clause-only
returns-clause-only c = λ t h.
    let k = rest_means c.args.prefix.now c.args.text.now c.in_ok-rest.rest.now t (rw c.in_ok-rest.ensures.ok_part at c.strip_front.ensures.found) h in
    cc (c.in_ok-parse_line.ensures.only (Some t) k.is_line, c.in_ok-triple.ensures.ok_part)
