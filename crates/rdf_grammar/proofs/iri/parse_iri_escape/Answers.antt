use Rattle.rdf_grammar.proofs.Productions.{uchar_shorter}
use Rattle.rdf_grammar.proofs.iri.parse_iri_escape.Goals as goal

pub returns-then-is_iri_char-clause-shorter : goal.returns-then-is_iri_char-clause-shorter
returns-then-is_iri_char-clause-shorter c = uchar_shorter _ _ c.in_ok-c.ensures
