use Rattle.std.proofs.Common.{arith, ◌∙◌}
use Rattle.rdf_grammar.proofs.Fronts.{front_length, front_is, front_boundary}
use Rattle.rdf_grammar.proofs.characters.front.Goals as goal

pub overflow_sub-text : goal.overflow_sub-text
overflow_sub-text c = omega (arith, front_length c.args.text.now c.args.rest.now c.utf8.text c.utf8.rest c.requires)

pub range-requires-clause-end_boundary : goal.range-requires-clause-end_boundary
range-requires-clause-end_boundary c = front_boundary c.args.text.now c.args.rest.now c.utf8.text c.utf8.rest c.requires

pub returns : goal.returns
returns c = c.range.ensures.value ∙ front_is c.args.text.now c.args.rest.now c.utf8.text c.utf8.rest c.requires
