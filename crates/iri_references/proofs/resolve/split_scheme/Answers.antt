use Rattle.std.proofs.Common.{lit<}
use Rattle.std.proofs.lemmas.Str.Pattern.{NoCharPasses-char}
use Rattle.iri_references.proofs.Cutting.{has_colon}
use Rattle.iri_references.proofs.resolve.split_scheme.Goals as goal

pub unreachable-requires : goal.unreachable-requires
unreachable-requires c = has_colon c.args.iri.now c.requires (λ i. NoCharPasses-char 58 c.args.iri.now i c.in-None.ensures.cases (lit< tt))
