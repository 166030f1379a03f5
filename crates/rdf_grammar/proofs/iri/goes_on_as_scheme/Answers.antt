use Rattle.std.proofs.Common.{Some, None, sym}
use Rattle.rdf_grammar.proofs.Productions.{no_colon}
use Rattle.rdf_grammar.proofs.iri.goes_on_as_scheme.Goals as goal

pub returns-in-Some : goal.returns-in-Some
returns-in-Some c = sym (no_colon c.args.bytes.now (Some c.in-Some.b) c.in-Some.ensures)

pub returns-in-None : goal.returns-in-None
returns-in-None c = sym (no_colon c.args.bytes.now None c.in-None.ensures)
