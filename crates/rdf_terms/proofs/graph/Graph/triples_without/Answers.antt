use Rattle.std.proofs.Common.{ap, sym, ◌∙◌, not, take_all}
use Rattle.std.specs.List.{filter}
use Rattle.rdf_terms.specs.Graph.{has}
use Rattle.rdf_terms.specs.TermOrder.{statement_cmp_total, statement_cmp-IsAntisymmetric}
use Rattle.rdf_terms.proofs.Membership.{items-without}
use Rattle.rdf_terms.proofs.graph.Graph.triples_without.Goals as goal

pub returns : goal.returns
returns c =
    c.keeping.invariant ∙ ap (filter (λ t. not (has c.args.other.now t))) (take_all c.keeping.triple-index c.as_slice-triple-items.result.now c.keeping-test.false ∙ c.as_slice-triple-items.ensures)
    ∙ sym (items-without statement_cmp_total statement_cmp-IsAntisymmetric c.args.self.now c.args.other.now)
