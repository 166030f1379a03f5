use Rattle.rdf_grammar.specs.Reading.{uchar_at, echar_at}
use Rattle.rdf_grammar.proofs.Productions.{uchar_shorter, echar_shorter, gives_shorter}
use Rattle.rdf_grammar.proofs.strings.parse_string_escape.Goals as goal

pub returns-in-None-clause-shorter : goal.returns-in-None-clause-shorter
returns-in-None-clause-shorter c = gives_shorter uchar_at uchar_shorter _ c.parse_uchar.result c.parse_uchar.ensures

pub returns-in_default-clause-shorter : goal.returns-in_default-clause-shorter
returns-in_default-clause-shorter c = gives_shorter echar_at echar_shorter _ c.parse_echar.result c.parse_echar.ensures
