use Rattle.rdf_navigation.specs.Lists.{is_blank}
use Rattle.rdf_navigation.proofs.ListLaws.{members_is}
use Rattle.rdf_navigation.proofs.lists.Lists.blank_members.Goals as goal

pub returns-then-not-is_blank_list-clause-exact : goal.returns-then-not-is_blank_list-clause-exact
returns-then-not-is_blank_list-clause-exact c = λ ms. members_is is_blank c.args.self.now c.args.node.now ms

pub returns-in_err-read_members-clause-exact : goal.returns-in_err-read_members-clause-exact
returns-in_err-read_members-clause-exact c = λ ms. members_is is_blank c.args.self.now c.args.node.now ms

pub returns-clause-exact : goal.returns-clause-exact
returns-clause-exact c = λ ms. members_is is_blank c.args.self.now c.args.node.now ms
