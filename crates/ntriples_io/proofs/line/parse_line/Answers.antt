use Rattle.ntriples_io.proofs.Answering.{is_found, is_only}
use Rattle.ntriples_io.proofs.line.parse_line.Goals as goal

pub returns-in-Ok-clause-found : goal.returns-in-Ok-clause-found
returns-in-Ok-clause-found c = is_found c.args.scope _ _ c.parse_text.result c.in-Ok.ensures.cases.0 c.in-Ok.ensures.cases.1 c.parse_text.ensures

pub returns-in-Ok-clause-only : goal.returns-in-Ok-clause-only
returns-in-Ok-clause-only c = is_only c.args.scope _ _ c.parse_text.result c.in-Ok.ensures.cases.0 c.parse_text.ensures
