use Rattle.std.proofs.Common.{◌≡◌, false, ◌∙◌}
use Rattle.std.specs.Prelude.{is_some}
use Rattle.std.proofs.lemmas.Result.{IfOk-weaker}
use Rattle.rdf_navigation.specs.Lists.{blank_members}
use Rattle.property_paths.proofs.PathLaws.{not_listed}
use Rattle.property_paths.proofs.path_nodes.node_of_blank.Goals as goal

pub returns : goal.returns
returns c =
    let none : is_some (blank_members c.args.lists.now c.args.node.now) ≡ false = cc in
    IfOk-weaker c.node_of_subject.result _ _ (λ o e. e ∙ not_listed c.args.lists.now c.args.node.now none) c.node_of_subject.ensures
