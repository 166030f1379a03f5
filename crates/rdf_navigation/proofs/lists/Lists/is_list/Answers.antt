use Rattle.rdf_terms.specs.Statement.{is_node}
use Rattle.rdf_navigation.proofs.ListLaws.{cells_differ}
use Rattle.rdf_navigation.proofs.lists.Lists.is_list.Goals as goal

pub returns-clause-repeats : goal.returns-clause-repeats
returns-clause-repeats c = λ cs ms h. cells_differ is_node c.args.self.now cs ms c.args.node.now h
