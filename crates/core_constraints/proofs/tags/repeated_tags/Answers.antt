use Rattle.std.proofs.Common.{◌≡◌, ◌≤◌, ◌<◌, ◌-◌, ◌+◌, ℕ, List, [], ◌∷◌, ◌++◌, map, length, Contains, sym, ap, ◌∙◌, subst, arith}
use Rattle.std.specs.List.{dedup}
use Rattle.std.proofs.lemmas.Bool.{false≢true}
use Rattle.std.proofs.lemmas.Cmp.{nat_list_eq_equiv, on_equiv}
use Rattle.std.proofs.lemmas.List.{length-map, map-append}
use Rattle.std.proofs.lemmas.List.Filters.{dedup_is}
use denote.Ref.{Bor}
use Rattle.core_constraints.proofs.RepeatedItems.{is_text, text_is, is_itself}
use Rattle.core_constraints.proofs.TagLaws.{AreRepeated, repeated_start, repeated_more, repeated_other, text_at, texts_once, repeated_twins}
use Rattle.core_constraints.proofs.tags.repeated_tags.Goals as goal
use Rattle.core_constraints.proofs.tags.repeated_tags.Goals.{then-eq+in_ok-push, else-eq}

abbrev text_of : Bor (List ℕ) → List ℕ
text_of t = t.now

pub places-init : goal.places-init
places-init c =
    let ts = map text_of c.in_ok-tags.tags.items in
    subst (λ (us : List (Bor (List ℕ))). AreRepeated ts 1 (map text_of us)) (sym c.new-repeated.ensures.items) (repeated_start ts)

pub places-preserved : goal.places-preserved
places-preserved c =
    let tags = c.in_ok-tags.tags.items in
    let ts = map text_of tags in
    let place = c.places.place in
    let found = map text_of c.places.repeated.items in
    let a = c.index-in-places.result.now in
    let b = c.index.result.now in
    let size = c.in_ok-tags.tags.ok.0 in
    let inside : place < length tags = omega (arith, c.places-test.true, c.len-place-end.ensures, size) in
    let start : 1 ≤ place = omega arith in
    let below : place - 1 < length tags = omega (arith, inside, start) in
    let at_a = text_at text_of tags (place - 1) a below c.index-in-places.ensures in
    let at_b = text_at text_of tags place b inside c.index.ensures in
    elim c.if-eq.branch [
      | then-eq+in_ok-push w ↦
          let e : c.if-eq.repeated.items ≡ c.places.repeated.items ++ b ∷ [] = (λ k. (w.repeated-is k).items) ∙ w.in_ok-push.ensures.items in
          let same : a.now ≡ b.now = text_is a.now b.now (sym c.eq.ensures ∙ w.if-eq.true) in
          subst (λ (us : List (List ℕ)). AreRepeated ts (place + 1) us) (sym (ap (map text_of) e ∙ map-append text_of c.places.repeated.items (b ∷ [])))
          (repeated_more ts place a.now b.now start at_a at_b found c.places.invariant same)
      | else-eq w ↦
          let e : c.if-eq.repeated.items ≡ c.places.repeated.items = λ k. (w.repeated-is k).items in
          let other = λ (f : a.now ≡ b.now). false≢true (sym w.if-eq.false ∙ (c.eq.ensures ∙ (ap (is_text a.now) (sym f) ∙ is_itself a.now))) in
          subst (λ (us : List (List ℕ)). AreRepeated ts (place + 1) us) (sym (ap (map text_of) e))
          (repeated_other ts place a.now b.now start at_a at_b found c.places.invariant other)
    ]

pub returns : goal.returns
returns c =
    let n = c.args.input.now.graph.nodes in
    let is = c.args.values.now in
    let tags = c.in_ok-tags.tags.items in
    let ts = map text_of tags in
    let found = c.places.repeated.items in
    let new = c.dedup.new.self.items in
    let size = c.in_ok-tags.tags.ok.0 in
    let end : length ts ≤ c.places.place = let m = length-map tags text_of in omega (arith, m, c.places-test.false, c.len-place-end.ensures, size) in
    let once : new ≡ dedup (λ (a b : Bor (List ℕ)). is_text (text_of a) (text_of b)) found = dedup_is (λ (a b : Bor (List ℕ)). is_text (text_of a) (text_of b)) found new c.dedup.ensures.filtered in
    λ tag.
    let kept = texts_once text_of found tag (on_equiv text_of nat_list_eq_equiv) in
    let twins = repeated_twins n is c.requires.within c.requires.rises tag ts c.places.place c.in_ok-tags.ensures.sorted c.in_ok-tags.ensures.tags end in
    let own = c.places.invariant tag in (
      λ h. twins.0 (own.0 (kept.0 (subst (λ (us : List (Bor (List ℕ))). Contains (map text_of us) tag) once h))),
      λ h. subst (λ (us : List (Bor (List ℕ))). Contains (map text_of us) tag) (sym once) (kept.1 (own.1 (twins.1 h))),
    )
