use Rattle.std.proofs.Common.{arith}
use Rattle.std.proofs.lemmas.List.Sorted.{IsPermutation-trans}
use Rattle.rdf_terms.proofs.presort.gather.Goals as goal

pub cycle-preserved : goal.cycle-preserved
cycle-preserved c = record {
  within = omega arith;
  moved = IsPermutation-trans _ _ _ c.cycle.invariant.moved c.swap.ensures.permutation;
}

pub cycles-preserved : goal.cycles-preserved
cycles-preserved c = IsPermutation-trans _ _ _ c.cycles.invariant c.cycle.invariant.moved
