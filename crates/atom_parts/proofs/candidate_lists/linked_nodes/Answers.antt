use Rattle.std.proofs.Common.{◌≡◌, ◌++◌, ℕ, List, Some, slice_get, sym, ap, ◌∙◌, subst}
use Rattle.std.specs.Prelude.{filter_map}
use Rattle.std.specs.List.Sorted.{IsPermutation}
use Rattle.rdf_terms.specs.declared.term.Term.{Term}
use Rattle.rdf_terms.specs.declared.term.Term.TheVariants.{Iri}
use Rattle.rdf_terms.specs.Statement.{Statement}
use Rattle.rdf_terms.specs.Graph.{Graph}
use Rattle.rdf_terms.specs.Nodes.{Nodes, terms}
use Rattle.repair_problem.specs.Setting.{node}
use Rattle.path_levels.proofs.NodeLaws.{node_is}
use Rattle.atom_parts.specs.ValueParts.{node_number}
use Rattle.atom_parts.proofs.Linked.{AreOf, linked_is}
use Rattle.atom_parts.proofs.candidate_lists.linked_nodes.Goals as goal

pub returns : goal.returns
returns c =
    let s = c.args.problem.now in
    let x = c.args.x in
    let q = c.args.predicate.now in
    let a = c.nth_term-subject.result.now in
    let olds = c.triples_of.result.now in
    let news = c.triples_of-2.result.now in
    let subject : node c.args.problem.now c.args.x ≡ c.nth_term-subject.result.now = node_is s x a (subst (λ (n : Nodes). slice_get (terms n) x ≡ Some a) c.nodes.ensures c.nth_term-subject.ensures) in
    let old : AreOf c.args.problem.now.present (node c.args.problem.now c.args.x) (Iri c.args.predicate.now) c.triples_of.result.now =
    subst (λ (g : Graph). AreOf g (node s x) (Iri q) olds) c.present.ensures (subst (λ (b : Term). AreOf c.present.result.now b (Iri q) olds) (sym subject) c.triples_of.ensures.exact) in
    let new : AreOf c.args.problem.now.offers (node c.args.problem.now c.args.x) (Iri c.args.predicate.now) c.triples_of-2.result.now =
    subst (λ (g : Graph). AreOf g (node s x) (Iri q) news) c.offers.ensures.value (subst (λ (b : Term). AreOf c.offers.result.now b (Iri q) news) (sym subject) c.triples_of-2.ensures.exact) in
    let number = λ (t : Statement). node_number s t.object in
    let all : c.push_objects-2.new.numbers.items ≡ filter_map (λ (t : Statement). node_number c.args.problem.now t.object) c.triples_of.result.now ++ filter_map (λ (t : Statement). node_number c.args.problem.now t.object) c.triples_of-2.result.now =
    c.in_ok-push_objects-2.ensures ∙ ap (λ us. us ++ filter_map number news) (c.in_ok-push_objects.ensures ∙ ap (λ us. us ++ filter_map number olds) c.new-numbers.ensures.items) in
    linked_is s q x olds news old new c.sort_unstable.new.self.items c.dedup.new.self.items (subst (λ (us : List ℕ). IsPermutation us c.sort_unstable.new.self.items) all c.sort_unstable.ensures.permutation) c.sort_unstable.ensures.sorted c.dedup.ensures.filtered
