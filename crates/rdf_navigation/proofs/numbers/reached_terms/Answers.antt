use Rattle.std.proofs.Common.{◌↔◌, ◌<◌, length, ℕ, List, Bool, IsTrue, slice_index_or, false, sym, subst}
use Rattle.std.proofs.lemmas.Result.{IfOk-weaker}
use Rattle.digraph.specs.Digraph.{successors_at}
use Rattle.digraph.specs.Reach.{IsReached}
use Rattle.rdf_navigation.proofs.ReachLaws.{marked_reached}
use Rattle.rdf_navigation.proofs.numbers.reached_terms.Goals as goal

pub returns : goal.returns
returns c =
    let n = c.args.nodes.now in
    let d = c.args.digraph.now in
    let places = c.in_ok-places.places.items in
    let marks = c.as_slice-2.result.now in
    let exact : (i : ℕ) → i < length d → IsTrue (slice_index_or marks i false) ↔ IsReached (successors_at d) places i =
    λ i l. subst (λ (ms : List Bool). IsTrue (slice_index_or ms i false) ↔ IsReached (successors_at d) places i) (sym c.as_slice-2.ensures.value)
    (subst (λ (ps : List ℕ). IsTrue (slice_index_or c.in_ok-marks.marks.items i false) ↔ IsReached (successors_at d) ps i) c.as_slice.ensures.value (c.in_ok-marks.ensures.exact i l)) in
    IfOk-weaker c.from_terms.result _ _ (λ m e next w b.
    let are = marked_reached next n d c.requires.len w c.args.starts.now places c.in_ok-places.ensures.places c.in_ok-places.ensures.within marks exact b in
    (λ h. are.0 ((c.in_ok-terms.ensures b).0 ((e b).0 h)), λ h. (e b).1 ((c.in_ok-terms.ensures b).1 (are.1 h)))) c.from_terms.ensures.exact
