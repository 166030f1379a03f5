use Rattle.shapes_profile.proofs.rules.is_node_kind.Goals as goal

pub returns : goal.returns
returns c = c.is_one_of.ensures
