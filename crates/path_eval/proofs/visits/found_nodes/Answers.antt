use Rattle.std.proofs.Common.{◌≡◌, ℕ, ◌+◌, ◌↔◌, List, get_or, take, Contains, sym, ◌∙◌, subst, take_all}
use Rattle.std.proofs.lemmas.List.{get_or_default}
use Rattle.path_eval.specs.declared.visits.Visit.{Visit}
use Rattle.path_eval.proofs.FoundNodes.{sorted_rises, sorted_has, found_more, found_other}
use Rattle.path_eval.proofs.visits.found_nodes.Goals as goal
use Rattle.path_eval.proofs.visits.found_nodes.Goals.{then-visit-eq0+in_ok-push, else-visit-eq0}

pub visits-preserved : goal.visits-preserved
visits-preserved c =
    let vs = c.args.visits.now in
    let k = c.visits.visit-index in
    let v : Visit = get_or vs k (record { state = 0; node = 0 }) in
    let at : v ≡ get_or vs k v = get_or_default vs k (record { state = 0; node = 0 }) v c.visits-test.true in
    elim c.if-visit-eq0.branch [
      | then-visit-eq0+in_ok-push w ↦ subst (λ (ns : List ℕ). (i : ℕ) → Contains ns i ↔ Contains (take (k + 1) vs) (record { state = 0; node = i })) (sym ((λ j. (w.nodes-is j).items) ∙ w.in_ok-push.ensures.items)) (found_more vs k v c.visits-test.true at c.visits.nodes.items w.if-visit-eq0.true c.visits.invariant)
      | else-visit-eq0 w ↦ subst (λ (ns : List ℕ). (i : ℕ) → Contains ns i ↔ Contains (take (k + 1) vs) (record { state = 0; node = i })) (sym (λ j. (w.nodes-is j).items)) (found_other vs k v c.visits-test.true at c.visits.nodes.items w.if-visit-eq0.false c.visits.invariant)
    ]

pub returns-clause-rises : goal.returns-clause-rises
returns-clause-rises c = let a = c.sort_unstable.ensures in let b = c.dedup.ensures in sorted_rises c.visits.nodes.items c.sort_unstable.new.self.items c.dedup.new.self.items c.sort_unstable.ensures.sorted c.dedup.ensures.filtered

pub returns-clause-exact : goal.returns-clause-exact
returns-clause-exact c =
    let all : take c.visits.visit-index c.args.visits.now ≡ c.args.visits.now = take_all c.visits.visit-index c.args.visits.now c.visits-test.false in
    λ i. let h = sorted_has c.visits.nodes.items c.sort_unstable.new.self.items c.dedup.new.self.items c.sort_unstable.ensures.permutation c.dedup.ensures.filtered i in
    let v : Visit = record { state = 0; node = i } in
    let k = c.visits.invariant i in
    (λ d. subst (λ us. Contains us v) all (k.0 (h.0 d)), λ d. h.1 (k.1 (subst (λ us. Contains us v) (sym all) d)))
