use Rattle.std.proofs.Common.{◌≡◌, ◌<◌}
use Rattle.path_eval.specs.declared.visits.Visit.{Visit}
use Rattle.path_eval.specs.contracts.visits.VisitPartialEq.TheImpl.{eq-value}
use Rattle.path_eval.proofs.VisitLaws.{adds_insert, adds_same}
use Rattle.path_eval.proofs.VisitEquality.{same_visit}
use Rattle.path_eval.proofs.visits.add.Goals as goal

pub returns-in_ok-insert : goal.returns-in_ok-insert
returns-in_ok-insert c =
    let v : Visit = record { state = c.args.state; node = c.args.node } in
    adds_same c.args.visits.now.keys c.insert.new.self.keys (λ u. v ≡ u) (λ u. (c.args.state < c.args.count) × (v ≡ u)) (λ u. (λ e. (c.if-state-count.true, e), λ h. h.1))
    (adds_insert eq-value.it same_visit c.args.visits.now.keys c.insert.new.self.keys v c.in_ok-insert.ensures.keys)
