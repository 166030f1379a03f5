-- Walks, circles and depths of the graph over numbers are those of the terms.
use Rattle.std.proofs.Common.{◌≡◌, ℕ, ◌<◌, ◌≤◌, ◌⊎◌, inl, inr, List, [], ◌∷◌, map, length, Contains, refl, sym, ap, subst, ◌∙◌, arith}
use Rattle.std.specs.Prelude.{Option, Some, None, option_map}
use Rattle.rdf_terms.specs.declared.term.Term.{Term}
use Rattle.rdf_terms.specs.Nodes.{Nodes, terms}
use Rattle.rdf_terms.proofs.Members.{in_map, map_in}
use Rattle.rdf_terms.proofs.NodesLaws.{one_place_of_term}
use Rattle.digraph.specs.Digraph.{Digraph, successors_at}
use Rattle.digraph.specs.Walk.{IsWalk}
use Rattle.digraph.specs.Reach.{IsSuccessor, IsOnCircle}
use Rattle.digraph.specs.Depth.{depth_in}
use Rattle.digraph.proofs.DepthLaws.{depth_along_within}
use Rattle.rdf_navigation.specs.Numbers.{term_at, IsNumbered}
use Rattle.rdf_navigation.proofs.PropertyLaws.{same_some}
use Rattle.std.proofs.lemmas.Option.{slice_get-get_or}
use Rattle.std.proofs.lemmas.Bool.{cases_lt}
use Rattle.std.proofs.lemmas.List.{get_or_past}

module _ (next : Term → Option (List Term)) (n : Nodes) (g : Digraph) (len : length g ≡ length (terms n)) (w : IsNumbered next n g) where
  step_there : (i j : ℕ) → i < length (terms n) → IsSuccessor (successors_at g) i j → IsSuccessor next (term_at n i) (term_at n j)
  step_there i j l s =
      (map (term_at n) s.0, w.same i (omega (arith, len, l)) ∙ ap (option_map (map (term_at n))) s.1, in_map (term_at n) s.0 j s.2)

  walk_there : (js : List ℕ) (i j : ℕ) → i < length (terms n) → IsWalk (IsSuccessor (successors_at g)) js i j → IsWalk (IsSuccessor next) (map (term_at n) js) (term_at n i) (term_at n j)
  walk_there [] i j l h = ap (term_at n) h
  walk_there (k ∷ ks) i j l h = (step_there i k l h.0, walk_there ks k j (w.closed i k h.0) h.1)

  pub circle_there : (i : ℕ) → i < length (terms n) → IsOnCircle (successors_at g) i → IsOnCircle next (term_at n i)
  circle_there i l c = (term_at n c.0, step_there i c.0 l c.1, (map (term_at n) c.2.0, walk_there c.2.0 c.0 i (w.closed i c.0 c.1) c.2.1))

  step_back : (i : ℕ) (y : Term) → i < length (terms n) → IsSuccessor next (term_at n i) y → (j : ℕ) × IsSuccessor (successors_at g) i j × (term_at n j ≡ y)
  step_back i y l s = at (successors_at g i) refl
    where
      at : (o : Option (List ℕ)) → successors_at g i ≡ o → (j : ℕ) × IsSuccessor (successors_at g) i j × (term_at n j ≡ y)
      at None e = absurd (let z : None ≡ Some s.0 = sym (w.same i (omega (arith, len, l)) ∙ ap (option_map (map (term_at n))) e) ∙ s.1 in cc)
      at (Some is) e =
          let same : map (term_at n) is ≡ s.0 = same_some (sym (w.same i (omega (arith, len, l)) ∙ ap (option_map (map (term_at n))) e) ∙ s.1) in
          let m = map_in (term_at n) is y (subst (λ ys. Contains ys y) (sym same) s.2) in
          (m.0, (is, e, m.1), m.2)

  walk_back : (ys : List Term) (i : ℕ) (y : Term) → i < length (terms n) → IsWalk (IsSuccessor next) ys (term_at n i) y → (js : List ℕ) × (j : ℕ) × IsWalk (IsSuccessor (successors_at g)) js i j × (term_at n j ≡ y) × (j < length (terms n))
  walk_back [] i y l h = ([], i, refl, h, l)
  walk_back (z ∷ zs) i y l h =
      let s = step_back i z l h.0 in
      let r = walk_back zs s.0 y (w.closed i s.0 s.1) (subst (λ u. IsWalk (IsSuccessor next) zs u y) (sym s.2) h.1) in
      (s.0 ∷ r.0, r.1, (s.1, r.2), r.3, r.4)

  one_number : (i j : ℕ) → i < length (terms n) → j < length (terms n) → term_at n j ≡ term_at n i → j ≡ i
  one_number i j l k e =
      one_place_of_term n (term_at n i) j i (slice_get-get_or (terms n) j _ k ∙ ap (λ u. Some u) e) (slice_get-get_or (terms n) i _ l)

  pub circle_back : (i : ℕ) → i < length (terms n) → IsOnCircle next (term_at n i) → IsOnCircle (successors_at g) i
  circle_back i l c =
      let s = step_back i c.0 l c.1 in
      let r = walk_back c.2.0 s.0 (term_at n i) (w.closed i s.0 s.1) (subst (λ u. IsWalk (IsSuccessor next) c.2.0 u (term_at n i)) (sym s.2) c.2.1) in
      let e = one_number i r.1 l r.4 r.3 in
      (s.0, s.1, (r.0, subst (λ k. IsWalk (IsSuccessor (successors_at g)) r.0 s.0 k) e r.2))

  pub depth_there : (k i : ℕ) → i < length (terms n) → depth_in next k (term_at n i) ≡ depth_in (successors_at g) k i
  depth_there k i l =
      depth_along_within (term_at n) (successors_at g) next (λ j. j < length (terms n)) (λ j m. w.same j (omega (arith, len, m))) (λ j u m q. w.closed j u q) k i l

pub within : (g : Digraph) (i : ℕ) → IsOnCircle (successors_at g) i → i < length g
within g i c = at (cases_lt i (length g))
  where
    at : (i < length g) ⊎ (length g ≤ i) → i < length g
    at (inl l) = l
    at (inr l) = absurd (let z : None ≡ Some c.1.0 = sym (get_or_past g i None l) ∙ c.1.1 in cc)
