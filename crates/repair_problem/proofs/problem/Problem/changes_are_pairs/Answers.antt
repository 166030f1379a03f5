use Rattle.shapes_graph.specs.Conformance.{Conforms}
use Rattle.repair_problem.proofs.ChangeLaws.{changes_pairs}
use Rattle.repair_problem.proofs.problem.Problem.changes_are_pairs.Goals as goal

pub returns : goal.returns
returns c = changes_pairs c.args.self.now (Conforms c.args.self.now.shapes)
