use Rattle.std.proofs.Common.{◌≡◌, Err, ◌∙◌, ap, subst, take, length, arith}
use Rattle.std.proofs.lemmas.Result.{err_from_is_err_and}
use Rattle.rdf_terms.specs.declared.term.Scope.{Scope}
use Rattle.ntriples_io.specs.Text.{IsAnswer, pieces_text}
use Rattle.ntriples_io.proofs.Joined.{fits, count_more, read_more, refused_early}
use Rattle.ntriples_io.proofs.Once.{one_answer}
use Rattle.ntriples_io.proofs.text.read_pieces.Goals as goal

pub feed-requires : goal.feed-requires
feed-requires c =
    let same : c.as_slice.result.now ≡ c.piece-item.result = c.as_slice.ensures in
    omega (arith, fits c.args.pieces.now c.loop-piece.piece-index c.piece-item.result c.loop-piece-test.true c.piece-item.is, c.loop-piece.invariant.count, ap length same)

pub loop-piece-preserved : goal.loop-piece-preserved
loop-piece-preserved c =
    let same : c.as_slice.result.now ≡ c.piece-item.result = c.as_slice.ensures in
    record {
      read =
          read_more c.feed.new.self c.args.pieces.now c.loop-piece.piece-index c.piece-item.result c.loop-piece-test.true c.piece-item.is
          (rw same at (c.feed.ensures.read (pieces_text (take c.loop-piece.piece-index c.args.pieces.now)) c.loop-piece.invariant.read));
      scope = c.feed.ensures.scope ∙ c.loop-piece.invariant.scope;
      count = omega (arith, count_more c.args.pieces.now c.loop-piece.piece-index c.piece-item.result c.loop-piece-test.true c.piece-item.is, c.loop-piece.invariant.count, c.in_ok-feed.ensures.taken, ap length same);
    }

pub returns-in_err-feed-clause-answer : goal.returns-in_err-feed-clause-answer
returns-in_err-feed-clause-answer c =
    let p = err_from_is_err_and c.from_residual.result c.from_residual.ensures.1 in
    let same : c.as_slice.result.now ≡ c.piece-item.result = c.as_slice.ensures in
    rw (p.1, p.2)
    (subst (λ (s : Scope). IsAnswer (pieces_text c.args.pieces.now) s (Err c.in_err-feed.field-0.0)) (c.feed.ensures.scope ∙ c.loop-piece.invariant.scope)
    (refused_early c.feed.new.self c.in_err-feed.field-0.0 c.args.pieces.now c.loop-piece.piece-index c.piece-item.result c.loop-piece-test.true c.piece-item.is c.in_err-feed.ensures.err
    (rw same at (c.feed.ensures.read (pieces_text (take c.loop-piece.piece-index c.args.pieces.now)) c.loop-piece.invariant.read))))

pub returns-in_err-feed-clause-only : goal.returns-in_err-feed-clause-only
returns-in_err-feed-clause-only c = λ other m.
    let p = err_from_is_err_and c.from_residual.result c.from_residual.ensures.1 in
    let same : c.as_slice.result.now ≡ c.piece-item.result = c.as_slice.ensures in
    rw (p.1, p.2)
    (one_answer (pieces_text c.args.pieces.now) c.args.scope (Err c.in_err-feed.field-0.0) other
    (subst (λ (s : Scope). IsAnswer (pieces_text c.args.pieces.now) s (Err c.in_err-feed.field-0.0)) (c.feed.ensures.scope ∙ c.loop-piece.invariant.scope)
    (refused_early c.feed.new.self c.in_err-feed.field-0.0 c.args.pieces.now c.loop-piece.piece-index c.piece-item.result c.loop-piece-test.true c.piece-item.is c.in_err-feed.ensures.err
    (rw same at (c.feed.ensures.read (pieces_text (take c.loop-piece.piece-index c.args.pieces.now)) c.loop-piece.invariant.read)))) m)
