use Rattle.premise_rules.proofs.DistinctLiterals.{passed_start, passed_more, passed_end, stopped_here}
use Rattle.premise_rules.proofs.finish.finish.Goals as goal

pub parts-init : goal.parts-init
parts-init c = record {
  signs = c.new-literals.ensures.signs;
  passed = passed_start c.args.parts.now c.new-literals.result.list c.new-literals.ensures.list;
}

pub add-requires : goal.add-requires
add-requires c = c.parts.invariant.signs

pub parts-preserved : goal.parts-preserved
parts-preserved c = record {
  signs = c.in_ok-fits.ensures.signs;
  passed = passed_more c.args.parts.now c.parts.part-index _ c.parts.literals.list c.add.new.self.list c.in_ok-fits.fits c.parts-test.true c.parts.invariant.passed c.in_ok-fits.ensures.value c.in_ok-fits.ensures.list c.if-not-fits.false;
}

pub returns-then-not-fits : goal.returns-then-not-fits
returns-then-not-fits c = stopped_here c.args.parts.now c.parts.part-index _ c.parts.literals.list c.in_ok-fits.fits c.parts-test.true c.parts.invariant.passed c.in_ok-fits.ensures.value c.if-not-fits.true

pub returns : goal.returns
returns c = passed_end c.args.parts.now c.parts.part-index c.parts.literals.list c.parts-test.false c.parts.invariant.passed
