use Rattle.std.proofs.Common.{sym}
use Rattle.value_tests.proofs.RangeLaws.{own_shape}
use Rattle.value_tests.proofs.range_constraints.range_shape.Goals as goal

pub returns-in-Some-clause-within : goal.returns-in-Some-clause-within
returns-in-Some-clause-within c = own_shape c.args.shapes.now c.args.place c.in-Some.constraint.now (sym c.in-Some.ensures.value)
