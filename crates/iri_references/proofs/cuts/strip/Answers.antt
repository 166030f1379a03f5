use Rattle.iri_references.proofs.Cutting.{strip_found}
use Rattle.iri_references.proofs.cuts.strip.Goals as goal

pub returns-clause-found : goal.returns-clause-found
returns-clause-found c = strip_found c.args.prefix.now c.args.text.now c.strip_prefix.result c.strip_prefix.ensures.cases
