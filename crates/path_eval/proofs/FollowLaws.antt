-- What a search over visits finds, said of positions.
use Rattle.std.proofs.Common.{◌≡◌, ◌↔◌, ◌⊎◌, inl, inr, ℕ, ◌+◌, ◌<◌, ◌≤◌, List, [], ◌∷◌, length, Contains, Some, option_map, slice_get, refl, sym, ap, ◌∙◌, subst, arith}
use Rattle.std.proofs.lemmas.List.{length-map}
use Rattle.std.proofs.lemmas.Option.{slice_get-map}
use Rattle.rdf_terms.specs.declared.term.Term.{Term}
use Rattle.rdf_terms.specs.Members.{IsListOf}
use Rattle.rdf_terms.specs.Nodes.{Nodes, terms}
use Rattle.rdf_terms.proofs.Members.{in_none, in_map, map_in}
use Rattle.rdf_navigation.specs.Numbers.{term_at}
use Rattle.path_eval.specs.declared.visits.Visit.{Visit}
use Rattle.rdf_terms.specs.Graph.{Graph}
use Rattle.shapes_graph.specs.declared.paths.PathForm.{PathForm}
use Rattle.path_eval.specs.declared.automaton.State.{State}
use Rattle.path_eval.specs.Automaton.{Position, MoveBy, Moves}
use Rattle.path_eval.specs.Numbered.{terms_at, AreNumbers}
use Rattle.path_eval.specs.Visits.{position, positions, Adds, AreVisits, Follows, IsStart, AreSearched}
use Rattle.path_eval.proofs.Searches.{IsFound, IsSearch, search_start, search_next, search_end}

module _ (T : Position → Position → Type 0) (count : ℕ) (n : Nodes) where
  pub follows_by : (visit : Visit) (old new : List Visit) (P : Visit → Type 0) → Adds old new P → ((v : Visit) → P v → (v.state < count) × (v.node < length (terms n)))
      → ((v : Visit) → P v → T (position n visit) (position n v)) → ((y : Position) → T (position n visit) y → (v : Visit) × P v × (position n v ≡ y)) → Follows T count n visit old new
  follows_by visit old new P a within sound whole = record { kept = a.kept; within = λ all v c. fits all v ((a.exact v).0 c); exact = λ y. (to y, from y) }
    where
      fits : AreVisits count n old → (v : Visit) → Contains old v ⊎ P v → (v.state < count) × (v.node < length (terms n))
      fits all v (inl c) = all v c
      fits all v (inr p) = within v p

      to : (y : Position) → Contains (positions n new) y → Contains (positions n old) y ⊎ T (position n visit) y
      to y c = at ((a.exact m.0).0 m.1)
        where
          m : (v : Visit) × Contains new v × (position n v ≡ y)
          m = map_in (position n) new y c

          at : Contains old m.0 ⊎ P m.0 → Contains (positions n old) y ⊎ T (position n visit) y
          at (inl d) = inl (subst (Contains (positions n old)) m.2 (in_map (position n) old m.0 d))
          at (inr p) = inr (subst (T (position n visit)) m.2 (sound m.0 p))

      from : (y : Position) → Contains (positions n old) y ⊎ T (position n visit) y → Contains (positions n new) y
      from y (inl c) = let m = map_in (position n) old y c in subst (Contains (positions n new)) m.2 (in_map (position n) new m.0 ((a.exact m.0).1 (inl m.1)))
      from y (inr t) = let w = whole y t in subst (Contains (positions n new)) w.2 (in_map (position n) new w.0 ((a.exact w.0).1 (inr w.1)))

  -- one state follows, at each of some nodes
  pub follows_step : (visit : Visit) (old new : List Visit) (state : ℕ) (nodes : List ℕ) (Q : Term → Type 0) → AreNumbers n nodes → IsListOf Q (terms_at n nodes)
      → Adds old new (λ v. (state < count) × (state ≡ v.state) × Contains nodes v.node) → ((y : Position) → T (position n visit) y ↔ ((y.0 < count) × ((state ≡ y.0) × Q y.1))) → Follows T count n visit old new
  follows_step visit old new state nodes Q within list a is =
      follows_by visit old new (λ v. (state < count) × (state ≡ v.state) × Contains nodes v.node) a (λ v p. (subst (λ s. s < count) p.1 p.0, within v.node p.2))
      (λ v p. (is (position n v)).1 (subst (λ s. s < count) p.1 p.0, (p.1, (list (term_at n v.node)).0 (in_map (term_at n) nodes v.node p.2)))) whole
    where
      whole : (y : Position) → T (position n visit) y → (v : Visit) × ((state < count) × (state ≡ v.state) × Contains nodes v.node) × (position n v ≡ y)
      whole y t =
          let h = (is y).0 t in
          let m = map_in (term_at n) nodes y.1 ((list y.1).1 h.1.1) in
          let l : state < count = subst (λ s. s < count) (sym h.1.0) h.0 in
          (record { state = state; node = m.0 }, (l, refl, m.1), λ j. (h.1.0 j, m.2 j))

  -- two states follow, at the same node
  pub follows_fork : (visit : Visit) (old new : List Visit) (a b : ℕ) → visit.node < length (terms n)
      → Adds old new (λ v. ((a < count) × (record { state = a; node = visit.node } ≡ v)) ⊎ ((b < count) × (record { state = b; node = visit.node } ≡ v)))
      → ((y : Position) → T (position n visit) y ↔ ((y.0 < count) × (((a ≡ y.0) ⊎ (b ≡ y.0)) × (term_at n visit.node ≡ y.1)))) → Follows T count n visit old new
  follows_fork visit old new a b l adds is =
      follows_by visit old new P adds within sound whole
    where
      P : Visit → Type 0
      P v = ((a < count) × (record { state = a; node = visit.node } ≡ v)) ⊎ ((b < count) × (record { state = b; node = visit.node } ≡ v))

      within : (v : Visit) → ((a < count) × (record { state = a; node = visit.node } ≡ v)) ⊎ ((b < count) × (record { state = b; node = visit.node } ≡ v)) → (v.state < count) × (v.node < length (terms n))
      within v (inl h) = subst (λ (u : Visit). (u.state < count) × (u.node < length (terms n))) h.1 (h.0, l)
      within v (inr h) = subst (λ (u : Visit). (u.state < count) × (u.node < length (terms n))) h.1 (h.0, l)

      sound : (v : Visit) → ((a < count) × (record { state = a; node = visit.node } ≡ v)) ⊎ ((b < count) × (record { state = b; node = visit.node } ≡ v)) → T (position n visit) (position n v)
      sound v (inl h) = subst (λ (u : Visit). T (position n visit) (position n u)) h.1 ((is (a, term_at n visit.node)).1 (h.0, (inl refl, refl)))
      sound v (inr h) = subst (λ (u : Visit). T (position n visit) (position n u)) h.1 ((is (b, term_at n visit.node)).1 (h.0, (inr refl, refl)))

      whole : (y : Position) → T (position n visit) y → (v : Visit) × (((a < count) × (record { state = a; node = visit.node } ≡ v)) ⊎ ((b < count) × (record { state = b; node = visit.node } ≡ v))) × (position n v ≡ y)
      whole y t = at h.1.0
        where
          h : (y.0 < count) × (((a ≡ y.0) ⊎ (b ≡ y.0)) × (term_at n visit.node ≡ y.1))
          h = (is y).0 t

          at : (a ≡ y.0) ⊎ (b ≡ y.0) → (v : Visit) × (((a < count) × (record { state = a; node = visit.node } ≡ v)) ⊎ ((b < count) × (record { state = b; node = visit.node } ≡ v))) × (position n v ≡ y)
          at (inl e) = (record { state = a; node = visit.node }, inl (subst (λ s. s < count) (sym e) h.0, refl), λ j. (e j, h.1.1 j))
          at (inr e) = (record { state = b; node = visit.node }, inr (subst (λ s. s < count) (sym e) h.0, refl), λ j. (e j, h.1.1 j))

  -- nothing follows
  pub follows_none : (visit : Visit) (vs : List Visit) → ((y : Position) → T (position n visit) y → ⊥) → Follows T count n visit vs vs
  follows_none visit vs never = record { kept = λ i l. refl; within = λ all. all; exact = λ y. (λ c. inl c, at y) }
    where
      at : (y : Position) → Contains (positions n vs) y ⊎ T (position n visit) y → Contains (positions n vs) y
      at y (inl c) = c
      at y (inr t) = absurd (never y t)

  module _ (entry : ℕ) (starts : List ℕ) where
    abbrev pub Begins : Position → Type 0
    Begins x = (entry < count) × IsStart n entry starts x

    pub begun : (vs : List Visit) → AreNumbers n starts → Adds [] vs (λ v. (entry < count) × (entry ≡ v.state) × Contains starts v.node) → IsSearch T Begins (positions n vs) 0 × AreVisits count n vs
    begun vs within a = (search_start T Begins (positions n vs) (λ x. (to x, from x)), λ v c. fits v ((a.exact v).0 c))
      where
        fits : (v : Visit) → Contains [] v ⊎ ((entry < count) × (entry ≡ v.state) × Contains starts v.node) → (v.state < count) × (v.node < length (terms n))
        fits v (inl c) = absurd (in_none v c)
        fits v (inr p) = (subst (λ s. s < count) p.1 p.0, within v.node p.2)

        to : (x : Position) → Contains (positions n vs) x → Begins x
        to x c = at ((a.exact m.0).0 m.1)
          where
            m : (v : Visit) × Contains vs v × (position n v ≡ x)
            m = map_in (position n) vs x c

            at : Contains [] m.0 ⊎ ((entry < count) × (entry ≡ m.0.state) × Contains starts m.0.node) → Begins x
            at (inl d) = absurd (in_none m.0 d)
            at (inr p) = subst Begins m.2 (p.0, (p.1, in_map (term_at n) starts m.0.node p.2))

        from : (x : Position) → Begins x → Contains (positions n vs) x
        from x b =
            let m = map_in (term_at n) starts x.1 b.1.1 in
            let v : Visit = record { state = entry; node = m.0 } in
            let is : position n v ≡ x = λ j. (b.1.0 j, m.2 j) in
            subst (Contains (positions n vs)) is (in_map (position n) vs v ((a.exact v).1 (inr (b.0, refl, m.1))))

    pub followed : (visit : Visit) (old new : List Visit) (next : ℕ) → IsSearch T Begins (positions n old) next → slice_get old next ≡ Some visit → Follows T count n visit old new → IsSearch T Begins (positions n new) (next + 1)
    followed visit old new next s is f =
        search_next T Begins (positions n old) (positions n new) next (position n visit) s (slice_get-map (position n) old next ∙ ap (option_map (position n)) is) kept f.exact
      where
        kept : (i : ℕ) → i < length (positions n old) → slice_get (positions n new) i ≡ slice_get (positions n old) i
        kept i l = slice_get-map (position n) new i ∙ (ap (option_map (position n)) (f.kept i (let e = length-map old (position n) in omega (arith, l, e))) ∙ sym (slice_get-map (position n) old i))

    pub ended : (vs : List Visit) (next : ℕ) → IsSearch T Begins (positions n vs) next → AreVisits count n vs → length vs ≤ next → AreSearched T count n entry starts vs
    ended vs next s within l = record {
      within = within;
      exact = λ y. (λ c. let f = (e y).0 c in (f.0, f.1.0, f.1.1, f.2), λ f. (e y).1 (f.0, (f.1, f.2), f.3));
    }
      where
        e : (y : Position) → Contains (positions n vs) y ↔ IsFound T Begins y
        e y = search_end T Begins (positions n vs) next s (let m = length-map vs (position n) in omega (arith, l, m)) y

pub moves_by : (ps : List PathForm) (g : Graph) (ss : List State) (s : State) (u : Position) → slice_get ss u.0 ≡ Some s → (y : Position) → Moves ps g ss u y ↔ ((y.0 < length ss) × MoveBy ps g (Some s) u.1 y)
moves_by ps g ss s u e y = (λ m. (m.0, subst (λ o. MoveBy ps g o u.1 y) e m.1), λ m. (m.0, subst (λ o. MoveBy ps g o u.1 y) (sym e) m.1))

pub none_there : {X : Type 0} (xs : List X) → length xs ≡ 0 → xs ≡ []
none_there [] e = refl
none_there (x ∷ xs) e = absurd (omega (arith, e))
