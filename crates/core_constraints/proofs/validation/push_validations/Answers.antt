use Rattle.std.proofs.Common.{◌≡◌, ◌≤◌, length, get_or, Contains, subst, take_all}
use Rattle.std.proofs.lemmas.List.{get_or_default}
use Rattle.core_constraints.specs.Findings.{same_validation}
use Rattle.core_constraints.specs.Validations.{Adds}
use Rattle.core_constraints.proofs.MemoLaws.{same_is}
use Rattle.core_constraints.proofs.ValidationLaws.{adds_insert, adds_node}
use Rattle.core_constraints.proofs.validation.push_validations.Goals as goal

pub nodes-preserved : goal.nodes-preserved
nodes-preserved c =
    let ns = c.args.nodes.now in
    let k = c.nodes.node-index in
    let node = get_or ns k 0 in
    adds_node c.args.validations.now.keys c.nodes.validations.keys c.insert.new.self.keys c.args.shape ns k node c.nodes-test.true (get_or_default ns k 0 node c.nodes-test.true) c.nodes.invariant
    (adds_insert same_validation same_is c.nodes.validations.keys c.insert.new.self.keys (record { shape = c.args.shape; node = node }) c.in_ok-insert.ensures.keys)

pub returns : goal.returns
returns c =
    let end : length c.args.nodes.now ≤ c.nodes.node-index = c.nodes-test.false in
    subst (λ ns. Adds c.args.validations.now.keys c.nodes.validations.keys (λ v. (c.args.shape ≡ v.shape) × Contains ns v.node)) (take_all _ _ end) c.nodes.invariant
