use Rattle.std.proofs.Common.{◌≡◌, ◌+◌, ◌++◌, ◌∷◌, [], sym, ap, ◌∙◌, subst, arith}
use Rattle.rdf_navigation.proofs.NumberLaws.{place_within}
use Rattle.rdf_navigation.proofs.ReachLaws.{AreMarked, marked_start, marked_push, marked_skip}
use Rattle.rdf_navigation.proofs.numbers.marked_terms.Goals as goal
use Rattle.rdf_navigation.proofs.numbers.marked_terms.Goals.{then-is_marked+in_ok-copy+in_ok-push, else-is_marked}

pub places-init : goal.places-init
places-init c = subst (AreMarked c.args.nodes.now c.args.marks.now 0) (sym c.new-marked.ensures) (marked_start c.args.nodes.now c.args.marks.now)

pub places-preserved : goal.places-preserved
places-preserved c =
    let n = c.args.nodes.now in
    let marks = c.args.marks.now in
    let k = c.places.place in
    let ts = c.places.marked in
    elim c.if-is_marked.branch [
      | then-is_marked+in_ok-copy+in_ok-push w ↦
          let t = w.nth_term.result.now in
          let pushed : c.if-is_marked.marked ≡ ts ++ t ∷ [] = w.marked-is ∙ w.in_ok-push.ensures.ok ∙ ap (λ u. ts ++ u ∷ []) w.in_ok-copy.ensures in
          subst (AreMarked n marks (k + 1)) (sym pushed) (marked_push n marks k ts t c.places.invariant w.nth_term.ensures (sym c.is_marked.ensures ∙ w.if-is_marked.true))
      | else-is_marked w ↦
          subst (AreMarked n marks (k + 1)) (sym w.marked-is) (marked_skip n marks k ts c.places.invariant (sym c.is_marked.ensures ∙ w.if-is_marked.false))
    ]

pub returns : goal.returns
returns c = λ x. (
  λ h. let r = (c.places.invariant x).0 h in (r.0, r.2, r.3),
  λ r.
      let l = place_within c.args.nodes.now r.0 x r.1 in
      let e = c.len-place-end.ensures in
      let f = c.places-test.false in
      (c.places.invariant x).1 (r.0, omega (arith, l, e, f), r.1, r.2),
)
