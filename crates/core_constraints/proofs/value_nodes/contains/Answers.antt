use Rattle.core_constraints.proofs.ListedNumbers.{search_says}
use Rattle.core_constraints.proofs.value_nodes.contains.Goals as goal

pub returns : goal.returns
returns c = search_says c.args.numbers.now c.requires c.args.number c.binary_search.result c.is_ok.result c.binary_search.ensures.position c.is_ok.ensures.value
