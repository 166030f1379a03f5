-- What a search over an automaton's states reaches is what the path reaches.
use Rattle.std.proofs.Common.{◌≡◌, ◌↔◌, ℕ, ◌+◌, ◌<◌, List, [], ◌∷◌, length, get_or, Contains, None, Some, slice_get, IsTrue, refl, sym, ap, ◌∙◌, subst, arith}
use Rattle.std.specs.List.Sorted.{IsStrictlyIncreasing}
use Rattle.std.specs.declared.cmp.Ordering.TheVariants.{Less}
use Rattle.std.proofs.lemmas.List.{length-map, get_or-map}
use Rattle.std.proofs.lemmas.Option.{slice_get-get_or}
use Rattle.rdf_terms.specs.declared.term.Term.{Term}
use Rattle.rdf_terms.specs.declared.term.Term.TheVariants.{Literal}
use Rattle.rdf_terms.specs.Term.{term_cmp}
use Rattle.rdf_terms.specs.TermOrder.{term_cmp_total}
use Rattle.rdf_terms.specs.Graph.{Graph}
use Rattle.rdf_terms.specs.Nodes.{Nodes, terms, is_rising}
use Rattle.rdf_terms.proofs.Members.{in_first, in_map, map_in}
use Rattle.rdf_terms.proofs.NodesLaws.{terms_rise_at}
use Rattle.rdf_terms.proofs.Sets.{rising_of_neighbours}
use Rattle.rdf_navigation.specs.Numbers.{term_at}
use Rattle.rdf_navigation.proofs.NumberLaws.{at_place as at_place_of}
use Rattle.digraph.specs.Walk.{IsWalk}
use Rattle.shapes_graph.specs.declared.paths.PathForm.{PathForm}
use Rattle.shapes_graph.specs.Reach.{ReachIn}
use Rattle.path_eval.specs.declared.direction.Direction.{Direction}
use Rattle.path_eval.specs.declared.automaton.State.{State}
use Rattle.path_eval.specs.declared.automaton.State.TheVariants.{Found}
use Rattle.path_eval.specs.declared.visits.Visit.{Visit}
use Rattle.path_eval.specs.Directions.{Towards}
use Rattle.path_eval.specs.Numbered.{terms_at, AreNumbers, AreReached}
use Rattle.path_eval.specs.Automaton.{Position, Moves, IsCompiled}
use Rattle.path_eval.specs.Visits.{position, AreSearched}
use Rattle.path_eval.proofs.Automata.{path_is, entry_within}
use Rattle.path_eval.proofs.Found.{at_place}
use Rattle.path_eval.proofs.VisitLaws.{in_one}

module _ (ps : List PathForm) (g : Graph) (ss : List State) (n : Nodes) (f p : ℕ) (d : Direction) (e : ℕ) (compiled : IsCompiled f ps ss p d e 0) (end : slice_get ss 0 ≡ Some Found) where
  pub reached_are : (starts : List ℕ) (visits : List Visit) (found : List ℕ) → AreSearched (Moves ps g ss) (length ss) n e starts visits → IsStrictlyIncreasing found
      → ((i : ℕ) → Contains found i ↔ Contains visits (record { state = 0; node = i })) → AreReached (Towards d (λ x y. ReachIn f ps g p x y)) n starts found
  reached_are starts visits found s rises all = record {
    within = λ i c. (s.within (record { state = 0; node = i }) ((all i).0 c)).1;
    rises = rises;
    exact = λ y. (to y, from y);
  }
    where
      to : (y : Term) → Contains (terms_at n found) y → (x : Term) × Contains (terms_at n starts) x × Towards d (λ x y. ReachIn f ps g p x y) x y
      to y c =
          let m = map_in (term_at n) found y c in
          let v : Visit = record { state = 0; node = m.0 } in
          let w = (s.exact (position n v)).0 (in_map (position n) visits v ((all m.0).0 m.1)) in
          let walk : (u : List Position) × IsWalk (Moves ps g ss) u (e, w.0.1) (0, term_at n m.0) = (w.3.0, subst (λ j. IsWalk (Moves ps g ss) w.3.0 (j, w.0.1) (0, term_at n m.0)) (sym w.2.0) w.3.1) in
          (w.0.1, w.2.1, subst (Towards d (λ x y. ReachIn f ps g p x y) w.0.1) m.2 ((path_is ps g ss f p d e compiled end w.0.1 (term_at n m.0)).0 walk))

      from : (y : Term) → (x : Term) × Contains (terms_at n starts) x × Towards d (λ x y. ReachIn f ps g p x y) x y → Contains (terms_at n found) y
      from y r =
          let walk = (path_is ps g ss f p d e compiled end r.0 y).1 r.2 in
          let m = map_in (position n) visits (0, y) ((s.exact (0, y)).1 ((e, r.0), entry_within ps g ss f p d e 0 compiled, (refl, r.1), walk)) in
          let is : m.0 ≡ record { state = 0; node = m.0.node } = λ j. record { state = (m.2 j).0; node = m.0.node } in
          subst (Contains (terms_at n found)) (ap (λ (u : Position). u.1) m.2) (in_map (term_at n) found m.0.node ((all m.0.node).1 (subst (Contains visits) is m.1)))

-- the terms of numbers that rise, rise
pub terms_rise : (n : Nodes) (is : List ℕ) → AreNumbers n is → IsStrictlyIncreasing is → IsTrue (is_rising (terms_at n is))
terms_rise n is within rises = rising_of_neighbours term_cmp_total (terms_at n is) next
  where
    at : (k : ℕ) (t : Term) → k < length is → slice_get (terms n) (get_or is k 0) ≡ Some (get_or (terms_at n is) k t)
    at k t l =
        let m : get_or is k 0 < length (terms n) = within (get_or is k 0) (at_place is k 0 l) in
        slice_get-get_or (terms n) (get_or is k 0) (Literal [] [] None) m ∙ ap (λ (u : Term). Some u) (sym (get_or-map (term_at n) is k 0 t l))

    next : (k : ℕ) (t : Term) → k + 1 < length (terms_at n is) → term_cmp (get_or (terms_at n is) k t) (get_or (terms_at n is) (k + 1) t) ≡ Less
    next k t l =
        let m = length-map is (term_at n) in
        terms_rise_at n _ _ (get_or is k 0) (get_or is (k + 1) 0) (at k t (omega (arith, l, m))) (at (k + 1) t (omega (arith, l, m))) (rises k (omega (arith, l, m)))

-- what is reached from one start
pub reached_one : (R : Term → Term → Type 0) (n : Nodes) (start : ℕ) (x : Term) (found : List ℕ) → slice_get (terms n) start ≡ Some x → AreReached R n (start ∷ []) found → (y : Term) → Contains (terms_at n found) y ↔ R x y
reached_one R n start x found at r y = (to, λ s. (r.exact y).1 (x, subst (λ u. Contains (u ∷ []) x) (sym own) (in_first x []), s))
  where
    own : term_at n start ≡ x
    own = at_place_of n start x at

    to : Contains (terms_at n found) y → R x y
    to c = let h = (r.exact y).0 c in subst (λ u. R u y) (sym (in_one (term_at n start) h.0 h.1) ∙ own) h.2
