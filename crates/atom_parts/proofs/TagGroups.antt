-- Nodes beside their language tags: in order by a stable sort, those with the same tag stay in the order of the nodes.
use Rattle.std.proofs.Common.{◌≡◌, ℕ, ◌+◌, ◌<◌, Bool, true, false, cond, not, ◌&&◌, List, [], ◌∷◌, ◌++◌, map, length, take, get_or, Option, Some, None, refl, sym, ap, ◌∙◌, append_assoc, append-nil, nat_lt, lt-ltb, le-ltb, ◌≤◌}
use Rattle.std.specs.declared.cmp.Ordering.{Ordering}
use Rattle.std.specs.declared.cmp.Ordering.TheVariants.{Less, Equal, Greater}
use Rattle.std.specs.Ordering.{is_lt, is_eq, nat_cmp, ordering_index, ordering_reverse}
use Rattle.std.specs.Cmp.Lexicographic.{slice_cmp, nat_list_cmp_total, nat_list_eq_equiv}
use Rattle.std.specs.List.{filter, flat_map}
use Rattle.std.specs.List.Sorted.{IsNonDecreasingBy, IsStableBy, ties}
use Rattle.std.specs.Str.{bytes_eq}
use Rattle.std.proofs.lemmas.List.{map-append, map_more, flat_map_more, take_more}
use Rattle.std.proofs.lemmas.List.Elements.{filter_agree, filter-append, filter_more}
use Rattle.std.proofs.lemmas.List.Sorted.{searchable_from_sorted}
use Rattle.std.proofs.lemmas.Map.Text.{is_eq-slice_cmp}
use Rattle.atom_parts.specs.ValueParts.{are_same_tags}
use Rattle.atom_parts.specs.declared.twins.TaggedNode.{TaggedNode}
use Rattle.atom_parts.specs.TaggedNodes.{has_tag, with_tag, numbers, nodes_with_tag, AreTagged, AreByTags}

one_number : (b : Bool) (p : TaggedNode) (y : ℕ) → p.node ≡ y → numbers (cond b (p ∷ []) []) ≡ cond b (y ∷ []) []
one_number true p y e = ap (λ (z : ℕ). z ∷ []) e
one_number false p y e = refl

module _ (tags : ℕ → Option (List ℕ)) where
  -- one node more that has a tag
  pub tagged_push : (ys : List ℕ) (k : ℕ) (d : ℕ) (ps : List TaggedNode) (p : TaggedNode) → k < length ys → AreTagged tags (take k ys) ps → tags (get_or ys k d) ≡ Some p.tag.now → p.node ≡ get_or ys k d → AreTagged tags (take (k + 1) ys) (ps ++ p ∷ [])
  tagged_push ys k d ps p l are tag same a =
      ap numbers (filter-append (has_tag a) ps (p ∷ []))
      ∙ (map-append (λ (q : TaggedNode). q.node) (with_tag a ps) (cond (bytes_eq p.tag.now a) (p ∷ []) [])
      ∙ (ap (λ (us : List ℕ). us ++ numbers (cond (bytes_eq p.tag.now a) (p ∷ []) [])) (are a)
      ∙ (ap (λ (us : List ℕ). nodes_with_tag tags a (take k ys) ++ us) (one_number (bytes_eq p.tag.now a) p (get_or ys k d) same)
      ∙ (ap (λ (b : Bool). nodes_with_tag tags a (take k ys) ++ cond b (get_or ys k d ∷ []) []) (nat_list_eq_equiv.symm p.tag.now a ∙ sym (ap (λ (o : Option (List ℕ)). are_same_tags (Some a) o) tag))
      ∙ sym (filter_more (λ y. are_same_tags (Some a) (tags y)) ys k d l)))))

  -- one node more that has none
  pub tagged_pass : (ys : List ℕ) (k : ℕ) (d : ℕ) (ps : List TaggedNode) → k < length ys → AreTagged tags (take k ys) ps → tags (get_or ys k d) ≡ None → AreTagged tags (take (k + 1) ys) ps
  tagged_pass ys k d ps l are tag a =
      are a
      ∙ (sym (append-nil (nodes_with_tag tags a (take k ys)))
      ∙ (ap (λ (b : Bool). nodes_with_tag tags a (take k ys) ++ cond b (get_or ys k d ∷ []) []) (sym (ap (λ (o : Option (List ℕ)). are_same_tags (Some a) o) tag))
      ∙ sym (filter_more (λ y. are_same_tags (Some a) (tags y)) ys k d l)))

-- neither tag is below the other where they are the same
neither_below : (r s : Ordering) → r ≡ ordering_reverse s → (not (is_lt r) && not (is_lt s)) ≡ is_eq s
neither_below r Less e = ap (λ (o : Ordering). not (is_lt o) && not (is_lt Less)) e
neither_below r Equal e = ap (λ (o : Ordering). not (is_lt o) && not (is_lt Equal)) e
neither_below r Greater e = ap (λ (o : Ordering). not (is_lt o) && not (is_lt Greater)) e

tied_tags : (a b : List ℕ) → (not (is_lt (slice_cmp nat_cmp a b)) && not (is_lt (slice_cmp nat_cmp b a))) ≡ bytes_eq b a
tied_tags a b = neither_below (slice_cmp nat_cmp a b) (slice_cmp nat_cmp b a) (nat_list_cmp_total.antisymm a b) ∙ is_eq-slice_cmp b a

abbrev pub is_below : TaggedNode → TaggedNode → Bool
is_below p q = is_lt (slice_cmp nat_cmp p.tag.now q.tag.now)

any_node : List ℕ → TaggedNode
any_node a = record { tag = record { ref_ptr = (0, 0); now = a }; node = 0 }

-- a stable sort by the tags keeps those with the same tag in their order
pub tagged_sorted : (tags : ℕ → Option (List ℕ)) (ys : List ℕ) (ps qs : List TaggedNode) → IsStableBy is_below ps qs → AreTagged tags ys ps → AreTagged tags ys qs
unfolding any_node
tagged_sorted tags ys ps qs stable are a =
    ap numbers (sym (filter_agree (ties is_below (any_node a)) (has_tag a) (λ q. tied_tags a q.tag.now) qs) ∙ (stable (any_node a) ∙ filter_agree (ties is_below (any_node a)) (has_tag a) (λ q. tied_tags a q.tag.now) ps))
    ∙ are a

pub tags_rise : (a : List ℕ) (ps : List TaggedNode) → AreByTags ps → IsNonDecreasingBy (λ p. ordering_index (slice_cmp nat_cmp p.tag.now a)) ps
tags_rise a ps up = searchable_from_sorted nat_list_cmp_total (λ (p : TaggedNode). p.tag.now) ps a up

pub tied_are : (a : List ℕ) (ps : List TaggedNode) → filter (λ p. is_eq (slice_cmp nat_cmp p.tag.now a)) ps ≡ with_tag a ps
tied_are a ps = filter_agree (λ p. is_eq (slice_cmp nat_cmp p.tag.now a)) (has_tag a) (λ p. is_eq-slice_cmp p.tag.now a) ps

module _ (y : ℕ) where
  abbrev pub pairs_with : List ℕ → List (ℕ × ℕ)
  pairs_with zs = map (λ z. (y, z)) (filter (nat_lt y) zs)

  -- one node more
  pairs_next : (ps : List TaggedNode) (k : ℕ) (d : TaggedNode) (old list : List (ℕ × ℕ)) → k < length ps → list ≡ old ++ pairs_with (numbers (take k ps))
      → list ++ pairs_with ((get_or ps k d).node ∷ []) ≡ old ++ pairs_with (numbers (take (k + 1) ps))
  pairs_next ps k d old list l e =
      let n = (get_or ps k d).node in
      ap (λ (us : List (ℕ × ℕ)). us ++ pairs_with (n ∷ [])) e
      ∙ (append_assoc old (pairs_with (numbers (take k ps))) (pairs_with (n ∷ []))
      ∙ ap (λ (us : List (ℕ × ℕ)). old ++ us)
      (sym (map-append (λ (z : ℕ). (y, z)) (filter (nat_lt y) (numbers (take k ps))) (filter (nat_lt y) (n ∷ [])))
      ∙ (sym (ap (map (λ (z : ℕ). (y, z))) (filter-append (nat_lt y) (numbers (take k ps)) (n ∷ [])))
      ∙ sym (ap pairs_with (map_more (λ (p : TaggedNode). p.node) ps k d l)))))

  pub pairs_more : (ps : List TaggedNode) (k : ℕ) (p : TaggedNode) (old list : List (ℕ × ℕ)) → k < length ps → p ≡ get_or ps k p → y < p.node → list ≡ old ++ pairs_with (numbers (take k ps))
      → list ++ (y, p.node) ∷ [] ≡ old ++ pairs_with (numbers (take (k + 1) ps))
  pairs_more ps k p old list l at above e =
      ap (λ (b : Bool). list ++ map (λ (z : ℕ). (y, z)) (cond b (p.node ∷ []) [])) (sym (lt-ltb y p.node above))
      ∙ (ap (λ (q : TaggedNode). list ++ pairs_with (q.node ∷ [])) at ∙ pairs_next ps k p old list l e)

  pub pairs_skip : (ps : List TaggedNode) (k : ℕ) (p : TaggedNode) (old list : List (ℕ × ℕ)) → k < length ps → p ≡ get_or ps k p → p.node ≤ y → list ≡ old ++ pairs_with (numbers (take k ps))
      → list ≡ old ++ pairs_with (numbers (take (k + 1) ps))
  pairs_skip ps k p old list l at below e =
      sym (append-nil list)
      ∙ (ap (λ (b : Bool). list ++ map (λ (z : ℕ). (y, z)) (cond b (p.node ∷ []) [])) (sym (le-ltb y p.node below))
      ∙ (ap (λ (q : TaggedNode). list ++ pairs_with (q.node ∷ [])) at ∙ pairs_next ps k p old list l e))

twice_at : {X : Type 0} (p q : X → Bool) (x : X) (xs : List X) (b : Bool) → filter p (filter q xs) ≡ filter (λ z. p z && q z) xs → filter p (cond b (x ∷ filter q xs) (filter q xs)) ≡ cond (p x && b) (x ∷ filter (λ z. p z && q z) xs) (filter (λ z. p z && q z) xs)
twice_at {X} p q x xs true e = kept (p x)
  where
    kept : (c : Bool) → cond c (x ∷ filter p (filter q xs)) (filter p (filter q xs)) ≡ cond (c && true) (x ∷ filter (λ z. p z && q z) xs) (filter (λ z. p z && q z) xs)
    kept true = ap (λ (us : List X). x ∷ us) e
    kept false = e
twice_at {X} p q x xs false e = e ∙ left (p x)
  where
    left : (c : Bool) → filter (λ z. p z && q z) xs ≡ cond (c && false) (x ∷ filter (λ z. p z && q z) xs) (filter (λ z. p z && q z) xs)
    left true = refl
    left false = refl

filter_twice : {X : Type 0} (p q : X → Bool) (xs : List X) → filter p (filter q xs) ≡ filter (λ z. p z && q z) xs
filter_twice p q [] = refl
filter_twice p q (x ∷ xs) = twice_at p q x xs (q x) (filter_twice p q xs)

filter_never : {X : Type 0} (p : X → Bool) (xs : List X) → ((x : X) → p x ≡ false) → filter p xs ≡ []
filter_never p [] h = refl
filter_never p (x ∷ xs) h = ap (λ b. cond b (x ∷ filter p xs) (filter p xs)) (h x) ∙ filter_never p xs h

and_false : (b : Bool) → (b && false) ≡ false
and_false true = refl
and_false false = refl

module _ (tags : ℕ → Option (List ℕ)) (ys : List ℕ) where
  abbrev pub later : ℕ → List ℕ
  later y = filter (λ z. nat_lt y z && are_same_tags (tags y) (tags z)) ys

  abbrev pub pairs_of : ℕ → List (ℕ × ℕ)
  pairs_of y = map (λ z. (y, z)) (later y)

  pub later_is : (y : ℕ) (a : List ℕ) (ps : List TaggedNode) → AreTagged tags ys ps → tags y ≡ Some a → filter (nat_lt y) (numbers (with_tag a ps)) ≡ later y
  later_is y a ps are tag =
      ap (filter (nat_lt y)) (are a)
      ∙ (filter_twice (nat_lt y) (λ z. are_same_tags (Some a) (tags z)) ys
      ∙ ap (λ (o : Option (List ℕ)). filter (λ z. nat_lt y z && are_same_tags o (tags z)) ys) (sym tag))

  pub later_none : (y : ℕ) → tags y ≡ None → later y ≡ []
  later_none y tag = filter_never (λ z. nat_lt y z && are_same_tags (tags y) (tags z)) ys (λ z. ap (λ (o : Option (List ℕ)). nat_lt y z && are_same_tags o (tags z)) tag ∙ and_false (nat_lt y z))

  -- the pairs of one node more
  pub twins_next : (k d : ℕ) (list : List (ℕ × ℕ)) → k < length ys → list ≡ flat_map pairs_of (take k ys) → list ++ pairs_of (get_or ys k d) ≡ flat_map pairs_of (take (k + 1) ys)
  twins_next k d list l e =
      ap (λ (us : List (ℕ × ℕ)). us ++ pairs_of (get_or ys k d)) e
      ∙ (flat_map_more pairs_of [] (take k ys) (get_or ys k d)
      ∙ ap (flat_map pairs_of) (sym (take_more ys k d l)))
