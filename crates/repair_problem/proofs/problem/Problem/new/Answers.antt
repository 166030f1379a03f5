use Rattle.std.proofs.Common.{rules, sym, subst}
use Rattle.repair_problem.specs.Repair.{Apart}
use Rattle.repair_problem.proofs.Pairs.{without_apart}
use Rattle.repair_problem.proofs.problem.Problem.new.Goals as goal

pub invariant_of-result : goal.invariant_of-result
invariant_of-result c = record {
  apart = subst (Apart c.args.present) (sym c.in_ok-offers.ensures.value) (without_apart c.args.offered c.args.present);
  all_triples = let e = c.in_ok-full.ensures.full in search (rules, e);
  all_nodes = let e = c.in_ok-full.ensures.nodes in search (rules, e);
}
