use Rattle.std.proofs.Common.{◌<◌, true, length, sym, subst}
use Rattle.rdf_terms.specs.Graph.{Graph, triples}
use Rattle.core_constraints.proofs.Ranked.{constraint_place}
use Rattle.atom_parts.proofs.KindForms.{IsOfTerms}
use Rattle.atom_parts.proofs.TableLaws.{node_read, terms_row}
use Rattle.atom_parts.proofs.good.good_part.Goals as goal

pub good_node-requires-clause-place : goal.good_node-requires-clause-place
good_node-requires-clause-place c =
    subst (λ (g : Graph). c.args.i < length (triples g)) (sym c.shapes.ensures) (constraint_place c.args.problem.now.shapes c.args.i c.args.constraint.now c.requires.stated)

pub returns-in_default : goal.returns-in_default
returns-in_default c =
    let s = c.args.problem.now in
    let d = c.in_default in
    let left : IsOfTerms c.args.constraint.now.kind = record {
      shapeless = record { not_class = d.not-Class; not_not = d.not-Not; not_node = d.not-Node; not_property = d.not-Property; not_and = d.not-And; not_or = d.not-Or; not_xone = d.not-Xone; not_least = d.not-QualifiedMinCount; not_most = d.not-QualifiedMaxCount; not_closed = λ al. d.not-Closed true al };
      not_closed = d.not-Closed;
      not_disjoint = d.not-Disjoint;
      not_equals = d.not-Equals;
      not_value = d.not-HasValue;
      not_unique = d.not-UniqueLang;
      not_min = d.not-MinCount;
      not_max = d.not-MaxCount;
    } in
    terms_row s c.args.i c.args.node c.args.constraint.now c.requires.stated left c.shapes.result.now c.nth_term-term.result.now c.good_node.result c.shapes.ensures
    (node_read s c.nodes.result.now c.args.node c.nth_term-term.result.now c.nodes.ensures c.nth_term-term.ensures)
    c.good_node.ensures
