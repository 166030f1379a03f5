use Rattle.turtle_terms.proofs.Datatypes.{integer_is, decimal_is, double_is, boolean_is}
use Rattle.turtle_terms.proofs.literals.datatype_of.Goals as goal

pub returns-in-Integer-clause-lawful : goal.returns-in-Integer-clause-lawful
returns-in-Integer-clause-lawful c = integer_is

pub returns-in-Decimal-clause-lawful : goal.returns-in-Decimal-clause-lawful
returns-in-Decimal-clause-lawful c = decimal_is

pub returns-in-Double-clause-lawful : goal.returns-in-Double-clause-lawful
returns-in-Double-clause-lawful c = double_is

pub returns-in-Word-clause-lawful : goal.returns-in-Word-clause-lawful
returns-in-Word-clause-lawful c = boolean_is
