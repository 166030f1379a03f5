use Rattle.std.proofs.Common.{◌≡◌, ◌<◌, ◌≤◌, length, Contains, refl, subst, take_all}
use Rattle.path_eval.specs.Visits.{Adds}
use Rattle.path_eval.proofs.VisitLaws.{adds_more}
use Rattle.path_eval.proofs.visits.add_all.Goals as goal

pub nodes-preserved : goal.nodes-preserved
nodes-preserved c =
    adds_more c.args.visits.now.keys c.nodes.visits.keys c.add.new.visits.keys c.args.count c.args.state c.args.nodes.now c.nodes.node-index _ c.nodes-test.true refl c.nodes.invariant c.in_ok-add.ensures

pub returns : goal.returns
returns c =
    let end : length c.args.nodes.now ≤ c.nodes.node-index = c.nodes-test.false in
    subst (λ ns. Adds c.args.visits.now.keys c.nodes.visits.keys (λ v. (c.args.state < c.args.count) × (c.args.state ≡ v.state) × Contains ns v.node)) (take_all _ _ end) c.nodes.invariant
