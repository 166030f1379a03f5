use Rattle.std.proofs.Common.{ap, ◌∙◌}
use Rattle.rdf_terms.specs.Statement.{statement_cmp}
use Rattle.rdf_terms.specs.Graph.{graph_of}
use Rattle.rdf_terms.proofs.Sets.{of_rising-empty}
use Rattle.rdf_terms.proofs.graph.Graph.new.Goals as goal

pub returns : goal.returns
returns c = ap graph_of c.new.ensures.items ∙ of_rising-empty statement_cmp
