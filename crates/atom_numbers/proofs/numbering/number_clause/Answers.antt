use Rattle.atom_numbers.proofs.NumberLaws.{number_next, within_next, grown_more, only_next, only_whole, joined_next, joined_whole}
use Rattle.atom_numbers.proofs.numbering.number_clause.Goals as goal

pub literals-preserved : goal.literals-preserved
literals-preserved c = record {
  value = number_next c.literals.atoms.keys c.number_literal.new.atoms.keys c.literals.clause c.push.new.self c.in_ok-lit.lit c.args.literals.now c.literals.literal-index _ c.in_ok-lit.ensures.grown c.literals.invariant.within c.literals.invariant.value c.literals-test.true c.in_ok-lit.ensures.value c.in_ok-push.ensures.ok;
  within = within_next c.literals.atoms.keys c.number_literal.new.atoms.keys c.literals.clause c.push.new.self c.in_ok-lit.lit c.in_ok-lit.ensures.grown c.literals.invariant.within c.in_ok-lit.ensures.within c.in_ok-push.ensures.ok;
  order = joined_next c.args.atoms.now.keys c.literals.atoms.keys c.number_literal.new.atoms.keys c.args.literals.now c.literals.literal-index _ c.literals.invariant.order c.literals-test.true c.in_ok-lit.ensures.joined;
  only = only_next c.args.atoms.now.keys c.literals.atoms.keys c.number_literal.new.atoms.keys c.args.literals.now c.literals.literal-index _ c.literals.invariant.only c.literals-test.true c.in_ok-lit.ensures.only;
  grown = grown_more c.args.atoms.now.keys c.literals.atoms.keys c.number_literal.new.atoms.keys c.literals.invariant.grown c.in_ok-lit.ensures.grown;
  apart = c.in_ok-lit.ensures.apart;
}

pub returns-clause-only : goal.returns-clause-only
returns-clause-only c = only_whole c.args.atoms.now.keys c.literals.atoms.keys c.args.literals.now c.literals.literal-index c.literals-test.false c.literals.invariant.only

pub returns-clause-joined : goal.returns-clause-joined
returns-clause-joined c = joined_whole c.args.atoms.now.keys c.literals.atoms.keys c.args.literals.now c.literals.literal-index c.literals-test.false c.literals.invariant.order
