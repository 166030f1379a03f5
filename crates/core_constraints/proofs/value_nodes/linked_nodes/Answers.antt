use Rattle.rdf_terms.specs.Members.{InGraph}
use Rattle.rdf_terms.specs.declared.term.Term.{Term}
use Rattle.rdf_terms.specs.declared.term.Term.TheVariants.{Iri}
use Rattle.path_eval.specs.Directions.{Towards}
use Rattle.path_eval.proofs.FoundNodes.{sorted_rises, sorted_has}
use Rattle.targets.proofs.SelectionLaws.{same_members}
use Rattle.core_constraints.specs.Findings.{data_of, term_of}
use Rattle.core_constraints.proofs.value_nodes.linked_nodes.Goals as goal

pub returns : goal.returns
returns c =
    let i = c.args.input.now in
    let old = c.in_ok-found.found.items in
    let new = c.dedup.new.self.items in
    let has = sorted_has old c.sort_unstable.new.self.items new c.sort_unstable.ensures.permutation c.dedup.ensures.filtered in
    record {
      within = λ k d. c.in_ok-found.ensures.within k ((has k).0 d);
      rises = sorted_rises old c.sort_unstable.new.self.items new c.sort_unstable.ensures.sorted c.dedup.ensures.filtered;
      exact = same_members i.graph.nodes (Towards c.args.direction (λ (x y : Term). InGraph (data_of i) x (Iri c.args.predicate.now) y) (term_of i c.args.node)) old new has c.in_ok-found.ensures.exact;
    }
