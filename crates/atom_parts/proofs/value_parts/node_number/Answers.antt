use Rattle.std.proofs.Common.{sym, ap, ◌∙◌}
use Rattle.rdf_terms.specs.Nodes.{Nodes, terms}
use Rattle.atom_parts.specs.ValueParts.{place_among_terms}
use Rattle.atom_parts.proofs.Reached.{place_of_look_up}
use Rattle.atom_parts.proofs.value_parts.node_number.Goals as goal

pub returns-in-Some : goal.returns-in-Some
returns-in-Some c =
    sym c.in-Some.is
    ∙ (place_of_look_up c.nodes.result.now c.args.term.now c.index_of_term.result c.index_of_term.ensures.some c.index_of_term.ensures.none
    ∙ ap (λ (n : Nodes). place_among_terms (terms n) c.args.term.now) c.nodes.ensures)

pub returns-in-None : goal.returns-in-None
returns-in-None c =
    sym c.in-None.is
    ∙ (place_of_look_up c.nodes.result.now c.args.term.now c.index_of_term.result c.index_of_term.ensures.some c.index_of_term.ensures.none
    ∙ ap (λ (n : Nodes). place_among_terms (terms n) c.args.term.now) c.nodes.ensures)
