use Rattle.std.proofs.Common.{ap, sym, ◌∙◌}
use Rattle.rdf_terms.specs.Graph.{Graph}
use Rattle.shapes_profile.specs.IllFormed.{cannot_be_shape, has_two, lacks_path, is_node_shape_with_path, has_value_no_path, has_property_of_path}
use Rattle.shapes_profile.specs.IllFormed.{has_value_no_list}
use Rattle.shapes_profile.proofs.RuleLaws.{rule_1, rule_2, rule_3, rule_4, rule_5, rule_6, rule_7, rule_8, no_rule}
use Rattle.shapes_profile.proofs.ill_formed.rule_of.Goals as goal

pub returns-then-cannot_be_shape : goal.returns-then-cannot_be_shape
returns-then-cannot_be_shape c =
    let s = c.args.shapes.now in
    let x = c.args.shape.now in
    rule_1 s x (ap (λ (g : Graph). cannot_be_shape g x) (sym c.declarations-declarations.ensures) ∙ sym c.cannot_be_shape.ensures ∙ c.if-cannot_be_shape.true)

pub returns-then-has_two : goal.returns-then-has_two
returns-then-has_two c =
    let s = c.args.shapes.now in
    let x = c.args.shape.now in
    rule_2 s x (ap (λ (g : Graph). cannot_be_shape g x) (sym c.declarations-declarations.ensures) ∙ sym c.cannot_be_shape.ensures ∙ c.if-cannot_be_shape.false) (ap (λ (g : Graph). has_two g x) (sym c.graph-graph.ensures) ∙ sym c.has_two.ensures ∙ c.if-has_two.true)

pub returns-then-lacks_path : goal.returns-then-lacks_path
returns-then-lacks_path c =
    let s = c.args.shapes.now in
    let x = c.args.shape.now in
    rule_3 s x (ap (λ (g : Graph). cannot_be_shape g x) (sym c.declarations-declarations.ensures) ∙ sym c.cannot_be_shape.ensures ∙ c.if-cannot_be_shape.false) (ap (λ (g : Graph). has_two g x) (sym c.graph-graph.ensures) ∙ sym c.has_two.ensures ∙ c.if-has_two.false) (ap (λ (g : Graph). lacks_path g x) (sym c.declarations-declarations.ensures) ∙ sym c.lacks_path.ensures ∙ c.if-lacks_path.true)

pub returns-then-is_node_shape_with_path : goal.returns-then-is_node_shape_with_path
returns-then-is_node_shape_with_path c =
    let s = c.args.shapes.now in
    let x = c.args.shape.now in
    rule_4 s x (ap (λ (g : Graph). cannot_be_shape g x) (sym c.declarations-declarations.ensures) ∙ sym c.cannot_be_shape.ensures ∙ c.if-cannot_be_shape.false) (ap (λ (g : Graph). has_two g x) (sym c.graph-graph.ensures) ∙ sym c.has_two.ensures ∙ c.if-has_two.false) (ap (λ (g : Graph). lacks_path g x) (sym c.declarations-declarations.ensures) ∙ sym c.lacks_path.ensures ∙ c.if-lacks_path.false) (ap (λ (g : Graph). is_node_shape_with_path g x) (sym c.declarations-declarations.ensures) ∙ sym c.is_node_shape_with_path.ensures ∙ c.if-is_node_shape_with_path.true)

pub returns-then-has_value_no_path : goal.returns-then-has_value_no_path
returns-then-has_value_no_path c =
    let s = c.args.shapes.now in
    let x = c.args.shape.now in
    rule_5 s x (ap (λ (g : Graph). cannot_be_shape g x) (sym c.declarations-declarations.ensures) ∙ sym c.cannot_be_shape.ensures ∙ c.if-cannot_be_shape.false) (ap (λ (g : Graph). has_two g x) (sym c.graph-graph.ensures) ∙ sym c.has_two.ensures ∙ c.if-has_two.false) (ap (λ (g : Graph). lacks_path g x) (sym c.declarations-declarations.ensures) ∙ sym c.lacks_path.ensures ∙ c.if-lacks_path.false) (ap (λ (g : Graph). is_node_shape_with_path g x) (sym c.declarations-declarations.ensures) ∙ sym c.is_node_shape_with_path.ensures ∙ c.if-is_node_shape_with_path.false) (ap (λ (g : Graph). has_value_no_path g x) (sym c.requires) ∙ sym c.has_value_no_path.ensures ∙ c.if-has_value_no_path.true)

pub returns-then-has_property_of_path : goal.returns-then-has_property_of_path
returns-then-has_property_of_path c =
    let s = c.args.shapes.now in
    let x = c.args.shape.now in
    rule_6 s x (ap (λ (g : Graph). cannot_be_shape g x) (sym c.declarations-declarations.ensures) ∙ sym c.cannot_be_shape.ensures ∙ c.if-cannot_be_shape.false) (ap (λ (g : Graph). has_two g x) (sym c.graph-graph.ensures) ∙ sym c.has_two.ensures ∙ c.if-has_two.false) (ap (λ (g : Graph). lacks_path g x) (sym c.declarations-declarations.ensures) ∙ sym c.lacks_path.ensures ∙ c.if-lacks_path.false) (ap (λ (g : Graph). is_node_shape_with_path g x) (sym c.declarations-declarations.ensures) ∙ sym c.is_node_shape_with_path.ensures ∙ c.if-is_node_shape_with_path.false) (ap (λ (g : Graph). has_value_no_path g x) (sym c.requires) ∙ sym c.has_value_no_path.ensures ∙ c.if-has_value_no_path.false) (ap (λ (g : Graph). has_property_of_path g x) (sym c.graph-graph.ensures) ∙ sym c.has_property_of_path.ensures ∙ c.if-has_property_of_path.true)

pub returns-then-has_value_no_list : goal.returns-then-has_value_no_list
returns-then-has_value_no_list c =
    let s = c.args.shapes.now in
    let x = c.args.shape.now in
    rule_7 s x (ap (λ (g : Graph). cannot_be_shape g x) (sym c.declarations-declarations.ensures) ∙ sym c.cannot_be_shape.ensures ∙ c.if-cannot_be_shape.false) (ap (λ (g : Graph). has_two g x) (sym c.graph-graph.ensures) ∙ sym c.has_two.ensures ∙ c.if-has_two.false) (ap (λ (g : Graph). lacks_path g x) (sym c.declarations-declarations.ensures) ∙ sym c.lacks_path.ensures ∙ c.if-lacks_path.false) (ap (λ (g : Graph). is_node_shape_with_path g x) (sym c.declarations-declarations.ensures) ∙ sym c.is_node_shape_with_path.ensures ∙ c.if-is_node_shape_with_path.false) (ap (λ (g : Graph). has_value_no_path g x) (sym c.requires) ∙ sym c.has_value_no_path.ensures ∙ c.if-has_value_no_path.false) (ap (λ (g : Graph). has_property_of_path g x) (sym c.graph-graph.ensures) ∙ sym c.has_property_of_path.ensures ∙ c.if-has_property_of_path.false) (ap (λ (g : Graph). has_value_no_list g x) (sym c.declarations-declarations.ensures) ∙ sym c.has_value_no_list.ensures ∙ c.if-has_value_no_list.true)

pub returns-then-branch : goal.returns-then-branch
returns-then-branch c =
    let s = c.args.shapes.now in
    let x = c.args.shape.now in
    rule_8 s x (ap (λ (g : Graph). cannot_be_shape g x) (sym c.declarations-declarations.ensures) ∙ sym c.cannot_be_shape.ensures ∙ c.if-cannot_be_shape.false) (ap (λ (g : Graph). has_two g x) (sym c.graph-graph.ensures) ∙ sym c.has_two.ensures ∙ c.if-has_two.false) (ap (λ (g : Graph). lacks_path g x) (sym c.declarations-declarations.ensures) ∙ sym c.lacks_path.ensures ∙ c.if-lacks_path.false) (ap (λ (g : Graph). is_node_shape_with_path g x) (sym c.declarations-declarations.ensures) ∙ sym c.is_node_shape_with_path.ensures ∙ c.if-is_node_shape_with_path.false) (ap (λ (g : Graph). has_value_no_path g x) (sym c.requires) ∙ sym c.has_value_no_path.ensures ∙ c.if-has_value_no_path.false) (ap (λ (g : Graph). has_property_of_path g x) (sym c.graph-graph.ensures) ∙ sym c.has_property_of_path.ensures ∙ c.if-has_property_of_path.false) (ap (λ (g : Graph). has_value_no_list g x) (sym c.declarations-declarations.ensures) ∙ sym c.has_value_no_list.ensures ∙ c.if-has_value_no_list.false) (sym c.in_ok-has_other_value.ensures ∙ c.if-branch.true)

pub returns : goal.returns
returns c =
    let s = c.args.shapes.now in
    let x = c.args.shape.now in
    no_rule s x (ap (λ (g : Graph). cannot_be_shape g x) (sym c.declarations-declarations.ensures) ∙ sym c.cannot_be_shape.ensures ∙ c.if-cannot_be_shape.false) (ap (λ (g : Graph). has_two g x) (sym c.graph-graph.ensures) ∙ sym c.has_two.ensures ∙ c.if-has_two.false) (ap (λ (g : Graph). lacks_path g x) (sym c.declarations-declarations.ensures) ∙ sym c.lacks_path.ensures ∙ c.if-lacks_path.false) (ap (λ (g : Graph). is_node_shape_with_path g x) (sym c.declarations-declarations.ensures) ∙ sym c.is_node_shape_with_path.ensures ∙ c.if-is_node_shape_with_path.false) (ap (λ (g : Graph). has_value_no_path g x) (sym c.requires) ∙ sym c.has_value_no_path.ensures ∙ c.if-has_value_no_path.false) (ap (λ (g : Graph). has_property_of_path g x) (sym c.graph-graph.ensures) ∙ sym c.has_property_of_path.ensures ∙ c.if-has_property_of_path.false) (ap (λ (g : Graph). has_value_no_list g x) (sym c.declarations-declarations.ensures) ∙ sym c.has_value_no_list.ensures ∙ c.if-has_value_no_list.false) (sym c.in_ok-has_other_value.ensures ∙ c.if-branch.false)
