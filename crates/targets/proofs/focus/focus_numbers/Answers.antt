use Rattle.std.proofs.Common.{◌≡◌, ◌++◌, ℕ, List, IsTrue, take, take_all, sym, ap, ◌∙◌, subst}
use Rattle.rdf_terms.specs.Members.{IsListOf}
use Rattle.rdf_terms.specs.Nodes.{has_term}
use Rattle.shapes_profile.specs.Logic.{SomeOf}
use Rattle.shapes_graph.specs.declared.targets.Target.{Target}
use Rattle.shapes_graph.specs.Targets.{IsFocus}
use Rattle.path_eval.specs.Numbered.{terms_at, AreNumbers}
use Rattle.path_eval.proofs.FoundNodes.{sorted_rises, sorted_has}
use Rattle.path_eval.proofs.LinkLaws.{list_same}
use Rattle.targets.specs.Selection.{IsSelected}
use Rattle.targets.proofs.SelectionLaws.{numbers_append, selected_more, same_members, focus_some}
use Rattle.targets.proofs.focus.focus_numbers.Goals as goal

pub targets-preserved : goal.targets-preserved
targets-preserved c =
    let g = c.args.graph.now.graph in
    let n = c.args.graph.now.nodes in
    let ks = c.targets_of-target-items.result.now in
    let sel = c.in_ok-selected.selected.items in
    let e : c.extend_from_slice.new.self.items ≡ c.targets.found.items ++ sel = c.in_ok-extend_from_slice.ensures.items ∙ ap (λ (us : List ℕ). c.targets.found.items ++ us) c.as_slice.ensures.value in
    record {
      within = subst (AreNumbers n) (sym e) (numbers_append n c.targets.found.items sel c.targets.invariant.within c.in_ok-selected.ensures.within);
      exact = selected_more g n ks c.targets.target-index c.target-item.result c.targets.found.items sel c.extend_from_slice.new.self.items c.targets-test.true c.target-item.is e c.targets.invariant.exact c.in_ok-selected.ensures.exact;
    }

pub returns-clause-within : goal.returns-clause-within
returns-clause-within c =
    λ i d. c.targets.invariant.within i ((sorted_has c.targets.found.items c.sort_unstable.new.self.items c.dedup.new.self.items c.sort_unstable.ensures.permutation c.dedup.ensures.filtered i).0 d)

pub returns-clause-rises : goal.returns-clause-rises
returns-clause-rises c = sorted_rises c.targets.found.items c.sort_unstable.new.self.items c.dedup.new.self.items c.sort_unstable.ensures.sorted c.dedup.ensures.filtered

pub returns-clause-exact : goal.returns-clause-exact
returns-clause-exact c =
    let s = c.args.shapes.now in
    let m = c.args.s in
    let g = c.args.graph.now.graph in
    let n = c.args.graph.now.nodes in
    let ks = c.targets_of-target-items.result.now in
    let all : take c.targets.target-index ks ≡ ks = take_all c.targets.target-index ks c.targets-test.false in
    let found = subst (λ (us : List Target). IsListOf (λ x. IsTrue (has_term n x) × SomeOf (IsSelected g x) us) (terms_at n c.targets.found.items)) all c.targets.invariant.exact in
    let is = focus_some s c.triples-triples.ensures.profile m ks c.targets_of-target-items.ensures g in
    same_members n (λ x. IsTrue (has_term n x) × IsFocus s m g x) c.targets.found.items c.dedup.new.self.items
    (sorted_has c.targets.found.items c.sort_unstable.new.self.items c.dedup.new.self.items c.sort_unstable.ensures.permutation c.dedup.ensures.filtered)
    (list_same (λ x. IsTrue (has_term n x) × SomeOf (IsSelected g x) ks) (λ x. IsTrue (has_term n x) × IsFocus s m g x) (terms_at n c.targets.found.items) (λ x. (λ h. (h.0, (is x).0 h.1), λ h. (h.0, (is x).1 h.1))) found)
