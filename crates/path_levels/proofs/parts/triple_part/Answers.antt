use Rattle.std.proofs.Common.{Some, None}
use Rattle.path_levels.proofs.TripleParts.{triple_part_is}
use Rattle.path_levels.proofs.parts.triple_part.Goals as goal

pub returns-in-Some : goal.returns-in-Some
returns-in-Some c =
    triple_part_is c.args.problem.now c.args.x c.args.y c.args.predicate.now c.nth_term-subject.result.now c.nth_term-object.result.now c.nodes-nodes.result.now (Some c.in-Some.t) c.nodes-nodes.ensures c.nth_term-subject.ensures c.nth_term-object.ensures c.in-Some.ensures

pub returns-in-None : goal.returns-in-None
returns-in-None c =
    triple_part_is c.args.problem.now c.args.x c.args.y c.args.predicate.now c.nth_term-subject.result.now c.nth_term-object.result.now c.nodes-nodes.result.now None c.nodes-nodes.ensures c.nth_term-subject.ensures c.nth_term-object.ensures c.in-None.ensures
