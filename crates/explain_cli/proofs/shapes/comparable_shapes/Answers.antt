use Rattle.std.proofs.Common.{subst}
use Rattle.rdf_terms.specs.Graph.{Graph}
use Rattle.explain_cli.specs.Input.{AreComparable}
use Rattle.explain_cli.proofs.shapes.comparable_shapes.Goals as goal

pub returns-clause-comparable : goal.returns-clause-comparable
returns-clause-comparable c = subst (λ (s : Graph). AreComparable s c.args.present.now c.args.offered.now) c.in_ok-shapes.ensures.ok.0 c.in_default.ensures.none
