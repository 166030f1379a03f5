use Rattle.explain_cli.proofs.StatusCauses.{causes}
use Rattle.explain_cli.proofs.top.run.Goals as goal

pub returns-clause-causes : goal.returns-clause-causes
returns-clause-causes g c = causes _ _ _ _ c.run_words.result c.run_words.ensures
