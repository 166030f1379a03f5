use Rattle.std.proofs.Common.{arith}
use Rattle.std.proofs.lemmas.Str.{IsCharBoundary-after_ascii}
use Rattle.iri_references.proofs.target.without_last_segment.Goals as goal

pub range-requires-clause-end_boundary : goal.range-requires-clause-end_boundary
range-requires-clause-end_boundary c = IsCharBoundary-after_ascii c.args.path.now c.in-Some.at c.utf8.path (omega (arith, c.in-Some.ensures.0)) (omega (arith, c.in-Some.ensures.1))
