use Rattle.rdf_terms.specs.Statement.{is_node}
use Rattle.rdf_navigation.proofs.ListLaws.{members_is}
use Rattle.rdf_navigation.proofs.lists.Lists.members.Goals as goal

pub returns-then-not-is_list-clause-exact : goal.returns-then-not-is_list-clause-exact
returns-then-not-is_list-clause-exact c = λ ms. members_is is_node c.args.self.now c.args.node.now ms

pub returns-in_err-read_members-clause-exact : goal.returns-in_err-read_members-clause-exact
returns-in_err-read_members-clause-exact c = λ ms. members_is is_node c.args.self.now c.args.node.now ms

pub returns-clause-exact : goal.returns-clause-exact
returns-clause-exact c = λ ms. members_is is_node c.args.self.now c.args.node.now ms
