use Rattle.std.proofs.Common.{ap, sym, ◌∙◌}
use Rattle.rdf_terms.specs.Graph.{triples}
use Rattle.rdf_terms.specs.Statement.{statement_cmp}
use Rattle.rdf_terms.proofs.Sets.{items-of_rising}
use Rattle.rdf_terms.proofs.graph.Graph.as_slice.Goals as goal

pub returns : goal.returns
returns c =
    c.as_slice.ensures.value ∙ sym (items-of_rising statement_cmp c.self.inside.items.items c.self.invariant.0) ∙ ap triples c.self.view_is
