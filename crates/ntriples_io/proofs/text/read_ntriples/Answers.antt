use Rattle.std.proofs.Common.{Err, [], ◌∙◌, subst}
use Rattle.std.proofs.lemmas.Result.{err_from_is_err_and}
use Rattle.rdf_terms.specs.declared.term.Scope.{Scope}
use Rattle.ntriples_io.specs.Text.{IsAnswer}
use Rattle.ntriples_io.proofs.Once.{one_answer}
use Rattle.ntriples_io.proofs.Steps.{refused_answer}
use Rattle.ntriples_io.proofs.text.read_ntriples.Goals as goal

pub returns-in_err-feed-clause-answer : goal.returns-in_err-feed-clause-answer
returns-in_err-feed-clause-answer c =
    let p = err_from_is_err_and c.from_residual.result c.from_residual.ensures.1 in
    rw (p.1, p.2)
    (subst (λ (s : Scope). IsAnswer c.args.bytes.now s (Err c.in_err-feed.field-0.0)) (c.feed.ensures.scope ∙ c.new-reader.ensures.scope)
    (refused_answer c.feed.new.self c.in_err-feed.field-0.0 c.args.bytes.now c.in_err-feed.ensures.err (c.feed.ensures.read [] c.new-reader.ensures.read)))

pub returns-in_err-feed-clause-only : goal.returns-in_err-feed-clause-only
returns-in_err-feed-clause-only c = λ other m.
    let p = err_from_is_err_and c.from_residual.result c.from_residual.ensures.1 in
    rw (p.1, p.2)
    (one_answer c.args.bytes.now c.args.scope (Err c.in_err-feed.field-0.0) other
    (subst (λ (s : Scope). IsAnswer c.args.bytes.now s (Err c.in_err-feed.field-0.0)) (c.feed.ensures.scope ∙ c.new-reader.ensures.scope)
    (refused_answer c.feed.new.self c.in_err-feed.field-0.0 c.args.bytes.now c.in_err-feed.ensures.err (c.feed.ensures.read [] c.new-reader.ensures.read))) m)
