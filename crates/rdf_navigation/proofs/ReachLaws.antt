-- What is reached along a relation between terms, by the graph over their places.
use Rattle.std.proofs.Common.{◌≡◌, ◌↔◌, ℕ, ◌+◌, ◌<◌, ◌≤◌, ◌⊎◌, inl, inr, Bool, true, false, IsTrue, List, [], ◌∷◌, ◌++◌, map, length, slice_get, slice_index_or, Contains, Option, Some, option_map, sym, ap, ◌∙◌, subst, arith}
use Rattle.std.proofs.lemmas.Bool.{false≢true, cases_lt}
use Rattle.std.proofs.lemmas.List.Elements.{Contains-append_cases, Contains-append_left, Contains-push}
use Rattle.std.proofs.lemmas.Option.{slice_get-get_or}
use Rattle.rdf_terms.specs.declared.term.Term.{Term}
use Rattle.rdf_terms.specs.Nodes.{Nodes, terms}
use Rattle.rdf_terms.proofs.Members.{in_none, in_cases}
use Rattle.digraph.specs.Reach.{IsSuccessor, IsReached}
use Rattle.digraph.specs.Digraph.{Digraph, successors_at}
use Rattle.digraph.proofs.WalkLaws.{reached_along_within, reached_image_within}
use Rattle.rdf_navigation.specs.Numbers.{term_at, IsNumbered}
use Rattle.rdf_navigation.proofs.NumberLaws.{at_place, place_within}

module _ (next : Term → Option (List Term)) (n : Nodes) (d : Digraph) (len : length d ≡ length (terms n)) (w : IsNumbered next n d) where
  abbrev IsPlace : ℕ → Type 0
  IsPlace i = i < length (terms n)

  same_next : (i : ℕ) → IsPlace i → next (term_at n i) ≡ option_map (map (term_at n)) (successors_at d i)
  same_next i l = w.same i (omega (arith, l, len))

  closed_next : (i j : ℕ) → IsPlace i → IsSuccessor (successors_at d) i j → IsPlace j
  closed_next i j l s = w.closed i j s

  -- the terms of the marked places are what is reached from the terms of the starts
  pub marked_reached : (ts : List Term) (starts : List ℕ) → map (term_at n) starts ≡ ts → ((i : ℕ) → Contains starts i → IsPlace i)
      → (marks : List Bool) → ((i : ℕ) → i < length d → IsTrue (slice_index_or marks i false) ↔ IsReached (successors_at d) starts i)
      → (b : Term) → ((i : ℕ) × (slice_get (terms n) i ≡ Some b) × IsTrue (slice_index_or marks i false)) ↔ IsReached next ts b
  marked_reached ts starts same within marks exact b = (to, from)
    where
      mark : (i : ℕ) → IsPlace i → IsTrue (slice_index_or marks i false) ↔ IsReached (successors_at d) starts i
      mark i l = exact i (omega (arith, l, len))

      to : (i : ℕ) × (slice_get (terms n) i ≡ Some b) × IsTrue (slice_index_or marks i false) → IsReached next ts b
      to m =
          let r = reached_along_within (term_at n) (successors_at d) next IsPlace same_next closed_next starts m.0 within ((mark m.0 (place_within n m.0 b m.1)).0 m.2) in
          subst (λ us. IsReached next us b) same (subst (IsReached next (map (term_at n) starts)) (at_place n m.0 b m.1) r)

      from : IsReached next ts b → (i : ℕ) × (slice_get (terms n) i ≡ Some b) × IsTrue (slice_index_or marks i false)
      from h =
          let r = reached_image_within (term_at n) (successors_at d) next IsPlace same_next closed_next starts b within (subst (λ us. IsReached next us b) (sym same) h) in
          (r.0, slice_get-get_or (terms n) r.0 _ r.2 ∙ ap (λ u. Some u) r.1, (mark r.0 r.2).1 r.3)

-- the terms of the marked numbers below k
abbrev pub AreMarked : Nodes → List Bool → ℕ → List Term → Type 0
AreMarked n marks k ts = (x : Term) → Contains ts x ↔ ((i : ℕ) × (i < k) × (slice_get (terms n) i ≡ Some x) × IsTrue (slice_index_or marks i false))

module _ (n : Nodes) (marks : List Bool) where
  pub marked_start : AreMarked n marks 0 []
  marked_start x = (λ c. absurd (in_none x c), λ m. let l = m.1 in absurd (omega (arith, l)))

  pub marked_push : (k : ℕ) (ts : List Term) (t : Term) → AreMarked n marks k ts → slice_get (terms n) k ≡ Some t → slice_index_or marks k false ≡ true → AreMarked n marks (k + 1) (ts ++ t ∷ [])
  marked_push k ts t h e m x = (λ c. to (Contains-append_cases ts (t ∷ []) x c), from)
    where
      to : Contains ts x ⊎ Contains (t ∷ []) x → (i : ℕ) × (i < k + 1) × (slice_get (terms n) i ≡ Some x) × IsTrue (slice_index_or marks i false)
      to (inl c) = let r = (h x).0 c in let l = r.1 in (r.0, omega (arith, l), r.2, r.3)
      to (inr c) = one (in_cases t [] x c)
        where
          one : (t ≡ x) ⊎ Contains [] x → (i : ℕ) × (i < k + 1) × (slice_get (terms n) i ≡ Some x) × IsTrue (slice_index_or marks i false)
          one (inl s) = (k, omega arith, e ∙ ap (λ z. Some z) s, m)
          one (inr d) = absurd (in_none x d)

      from : (i : ℕ) × (i < k + 1) × (slice_get (terms n) i ≡ Some x) × IsTrue (slice_index_or marks i false) → Contains (ts ++ t ∷ []) x
      from r = at (cases_lt r.0 k)
        where
          at : (r.0 < k) ⊎ (k ≤ r.0) → Contains (ts ++ t ∷ []) x
          at (inl l) = Contains-append_left ts (t ∷ []) x ((h x).1 (r.0, l, r.2, r.3))
          at (inr l) =
              let m = r.1 in
              let same : r.0 ≡ k = omega (arith, l, m) in
              let both : Some t ≡ Some x = sym e ∙ ap (slice_get (terms n)) (sym same) ∙ r.2 in
              let equal : t ≡ x = cc in
              subst (Contains (ts ++ t ∷ [])) equal (Contains-push ts t)

  pub marked_skip : (k : ℕ) (ts : List Term) → AreMarked n marks k ts → slice_index_or marks k false ≡ false → AreMarked n marks (k + 1) ts
  marked_skip k ts h m x = (λ c. let r = (h x).0 c in let l = r.1 in (r.0, omega (arith, l), r.2, r.3), λ r. at r (cases_lt r.0 k))
    where
      at : (r : (i : ℕ) × (i < k + 1) × (slice_get (terms n) i ≡ Some x) × IsTrue (slice_index_or marks i false)) → (r.0 < k) ⊎ (k ≤ r.0) → Contains ts x
      at r (inl l) = (h x).1 (r.0, l, r.2, r.3)
      at r (inr l) = let b = r.1 in let same : r.0 ≡ k = omega (arith, l, b) in absurd (false≢true (sym m ∙ ap (λ i. slice_index_or marks i false) (sym same) ∙ r.3))
