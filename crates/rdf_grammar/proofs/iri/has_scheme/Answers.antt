use Rattle.std.proofs.Common.{ap, ◌∙◌}
use Rattle.rdf_grammar.specs.Reading.{has_scheme}
use Rattle.rdf_grammar.proofs.Productions.{scheme_told}
use Rattle.rdf_grammar.proofs.iri.has_scheme.Goals as goal

pub returns-clause-scheme : goal.returns-clause-scheme
returns-clause-scheme c = scheme_told c.begins_with_scheme.result c.args.iri.now (c.begins_with_scheme.ensures ∙ ap has_scheme c.as_bytes.ensures.value)
