use Rattle.std.proofs.Common.{arith, sym, ◌∙◌}
use Rattle.std.proofs.lemmas.Bool.{false≢true}
use Rattle.digraph.specs.Reach.{IsOnCircle}
use Rattle.digraph.specs.Digraph.{successors_at}
use Rattle.digraph.proofs.LabelLaws.{none_next, on_circle_within}
use Rattle.digraph.proofs.circles.first_on_circle.Goals as goal

pub seeking-preserved : goal.seeking-preserved
seeking-preserved c =
    none_next (IsOnCircle (successors_at c.args.graph.now)) c.seeking.x c.seeking.invariant (λ w. false≢true (sym c.if-branch.false ∙ c.in_ok-is_on_circle.ensures.1 w))

pub returns-clause-none : goal.returns-clause-none
returns-clause-none c = λ x w.
    c.seeking.invariant x (let l = on_circle_within c.args.graph.now x w in omega (arith, l, c.seeking-test.false, c.len-x-end.ensures)) w
