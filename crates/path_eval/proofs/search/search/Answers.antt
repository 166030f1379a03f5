use Rattle.std.proofs.Common.{◌≡◌, ℕ, ◌+◌, ◌-◌, ◌*◌, ◌<◌, ◌≤◌, List, [], Some, slice_get, length, get_or, Contains, sym, ap, ◌∙◌, subst, arith}
use Rattle.std.proofs.lemmas.Option.{slice_get-get_or}
use Rattle.rdf_terms.specs.Nodes.{terms}
use Rattle.path_eval.specs.declared.visits.Visit.{Visit}
use Rattle.path_eval.specs.contracts.visits.VisitPartialEq.TheImpl.{eq-value}
use Rattle.path_eval.specs.Automaton.{Moves}
use Rattle.path_eval.specs.Visits.{Adds}
use Rattle.path_eval.proofs.Found.{at_place}
use Rattle.path_eval.proofs.FollowLaws.{begun, followed, ended, none_there}
use Rattle.path_eval.proofs.VisitEquality.{same_visit, visit_laws}
use Rattle.path_eval.proofs.VisitLaws.{visits_bound}
use Rattle.path_eval.proofs.search.search.Goals as goal

pub following-init : goal.following-init
following-init c =
    let ss = c.args.states.now in
    let starts = c.args.starts.now in
    let n = c.args.graph.now.nodes in
    let none : c.new-visits.result.keys ≡ [] = none_there c.new-visits.result.keys c.new-visits.ensures.len in
    let b = begun (Moves c.args.forms.now c.args.graph.now.graph ss) (length ss) n c.args.entry starts c.add_all.new.visits.keys c.requires
    (subst (λ (vs : List Visit). Adds vs c.add_all.new.visits.keys (λ v. (c.args.entry < length ss) × (c.args.entry ≡ v.state) × Contains starts v.node)) none c.in_ok-add_all.ensures) in
    record { searched = b.0; within = b.1 }

pub follow-requires : goal.follow-requires
follow-requires c =
    let l : c.following.next < length c.following.visits.keys = let e = c.len.ensures.len in omega (arith, c.following-test.true, e) in
    (c.following.invariant.within _ (subst (λ (vs : List Visit). Contains c.following.visits.keys (get_or vs c.following.next (record { state = 0; node = 0 }))) (sym c.as_slice.ensures.keys) (at_place c.following.visits.keys c.following.next (record { state = 0; node = 0 }) l))).1

pub following-smaller : goal.following-smaller
following-smaller c =
    let ss = c.args.states.now in
    let n = c.args.graph.now.nodes in
    let l : c.following.next < length c.following.visits.keys = let e = c.len.ensures.len in omega (arith, c.following-test.true, e) in
    less c.following.next (length c.following.visits.keys) (length ss * length (terms n)) l (visits_bound eq-value.it visit_laws same_visit (length ss) n c.following.visits.keys c.len.ensures.unique c.following.invariant.within)
  where
    less : (n f m : ℕ) → n < f → f ≤ m → m - (n + 1) < m - n
    less n f m l k = omega (arith, l, k)

pub following-preserved : goal.following-preserved
following-preserved c =
    let ss = c.args.states.now in
    let n = c.args.graph.now.nodes in
    let vs = c.following.visits.keys in
    let next = c.following.next in
    let v : Visit = get_or c.as_slice.result.now next (record { state = 0; node = 0 }) in
    let l : next < length vs = let e = c.len.ensures.len in omega (arith, c.following-test.true, e) in
    let at : slice_get vs next ≡ Some v = slice_get-get_or vs next (record { state = 0; node = 0 }) l ∙ ap (λ (us : List Visit). Some (get_or us next (record { state = 0; node = 0 }))) (sym c.as_slice.ensures.keys) in
    record {
      searched = followed (Moves c.args.forms.now c.args.graph.now.graph ss) (length ss) n c.args.entry c.args.starts.now v vs c.follow.new.visits.keys next c.following.invariant.searched at c.in_ok-follow.ensures;
      within = c.in_ok-follow.ensures.within c.following.invariant.within;
    }

pub returns : goal.returns
returns c =
    let ss = c.args.states.now in
    let l : length c.following.visits.keys ≤ c.following.next = let e = c.len.ensures.len in omega (arith, c.following-test.false, e) in
    ended (Moves c.args.forms.now c.args.graph.now.graph ss) (length ss) c.args.graph.now.nodes c.args.entry c.args.starts.now c.following.visits.keys c.following.next c.following.invariant.searched c.following.invariant.within l
