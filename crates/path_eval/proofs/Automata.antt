-- The automaton that was compiled from a path leads exactly where the path leads.
use Rattle.std.proofs.Common.{◌≡◌, ◌↔◌, ◌⊎◌, inl, inr, ℕ, zero, suc, ◌<◌, ◌≤◌, List, [], ◌∷◌, ◌++◌, length, Option, Some, None, slice_get, refl, sym, ap, ◌∙◌, subst, arith}
use Rattle.std.proofs.lemmas.Bool.{cases_lt}
use Rattle.rdf_terms.specs.declared.term.Term.{Term}
use Rattle.rdf_terms.specs.Graph.{Graph}
use Rattle.digraph.specs.Walk.{IsWalk}
use Rattle.shapes_graph.specs.declared.paths.PathForm.{PathForm}
use Rattle.shapes_graph.specs.declared.paths.PathForm.TheVariants.{Predicate, Inverse, Sequence, Alternative, ZeroOrMore, OneOrMore, ZeroOrOne}
use Rattle.shapes_graph.specs.Reach.{ReachBy, ReachIn}
use Rattle.path_eval.specs.declared.direction.Direction.{Direction}
use Rattle.path_eval.specs.declared.automaton.State.{State}
use Rattle.path_eval.specs.declared.automaton.State.TheVariants.{Found, Stuck, Step, Fork}
use Rattle.path_eval.specs.Directions.{Towards, turned, ordered}
use Rattle.path_eval.specs.Automaton.{Position, StepBy, MoveBy, Moves, AreForked, CompiledBy, IsCompiled}
use Rattle.std.proofs.lemmas.Option.{slice_get_within}
use Rattle.path_eval.proofs.Searches.{same_item}
use Rattle.path_eval.proofs.Walks.{walk_on, middle, from_middle, turn, turn_back, either, from_either, star, from_star, plus, from_plus, some_towards, towards_some, nothing}

module _ (ps : List PathForm) (g : Graph) (ss : List State) where
  abbrev Leads : Position → Position → Type 0
  Leads u v = (w : List Position) × IsWalk (Moves ps g ss) w u v

  -- on from the states that a state leads to
  move_then : (e : ℕ) (s : State) (x : Term) (v u : Position) → slice_get ss e ≡ Some s → v.0 < length ss → MoveBy ps g (Some s) x v → Leads v u → Leads (e, x) u
  move_then e s x v u at l m w = (v ∷ w.0, ((l, subst (λ o. MoveBy ps g o x v) (sym at) m), w.1))

  here : (u : Position) → Leads u u
  here u = ([], refl)

  both : (u v t : Position) → Leads u v → Leads v t → Leads u t
  both u v t a b = (a.0 ++ b.0, walk_on (Moves ps g ss) a.0 b.0 u v t a.1 b.1)

  forked_within : (C : ℕ → ℕ → Type 0) (qs : List ℕ) (n e : ℕ) → AreForked C ss qs n e → e < length ss
  forked_within C qs zero e c = slice_get_within ss e Stuck c
  forked_within C qs (suc n) e c = slice_get_within ss e (Fork c.0 c.1) c.2

  entry_by : (C : ℕ → Direction → ℕ → ℕ → Type 0) → ((q : ℕ) (d : Direction) (e k : ℕ) → C q d e k → e < length ss) → (o : Option PathForm) (p : ℕ) (d : Direction) (e k : ℕ) → CompiledBy C o ss p d e k → e < length ss
  entry_by C h None p d e k c = slice_get_within ss e Stuck c
  entry_by C h (Some (Predicate i)) p d e k c = slice_get_within ss e (Step p d k) c
  entry_by C h (Some (Inverse q)) p d e k c = h q (turned d) e k c
  entry_by C h (Some (Sequence a b)) p d e k c = h (ordered d a b).0 d e c.0 c.1
  entry_by C h (Some (Alternative qs)) p d e k c = forked_within (λ q a. C q d a k) qs (length qs) e c
  entry_by C h (Some (ZeroOrMore q)) p d e k c = slice_get_within ss e (Fork c.0 k) c.1.0
  entry_by C h (Some (OneOrMore q)) p d e k c = h q d e c.0 c.1.1
  entry_by C h (Some (ZeroOrOne q)) p d e k c = slice_get_within ss e (Fork c.0 k) c.1

  -- the first state of a path is one
  pub entry_within : (f p : ℕ) (d : Direction) (e k : ℕ) → IsCompiled f ps ss p d e k → e < length ss
  unfolding IsCompiled
  entry_within zero p d e k c = slice_get_within ss e Stuck c
  entry_within (suc f) p d e k c = entry_by (λ q d e k. IsCompiled f ps ss q d e k) (λ q d e k h. entry_within f q d e k h) (slice_get ps p) p d e k c

  module _ (C : ℕ → Direction → ℕ → ℕ → Type 0) (R : ℕ → Term → Term → Type 0) (entry : (q : ℕ) (d : Direction) (e k : ℕ) → C q d e k → e < length ss)
      (along : (q : ℕ) (d : Direction) (e k : ℕ) → C q d e k → k < length ss → (x y : Term) → Towards d (R q) x y → Leads (e, x) (k, y)) where
    forks_along : (d : Direction) (k : ℕ) → k < length ss → (qs : List ℕ) (n e : ℕ) → AreForked (λ q a. C q d a k) ss qs n e → (i q : ℕ) → i < n → slice_get qs i ≡ Some q → (x y : Term) → Towards d (R q) x y → Leads (e, x) (k, y)
    forks_along d k l qs zero e c i q m s x y r = absurd (omega (arith, m))
    forks_along d k l qs (suc n) e c i q m s x y r = at (cases_lt i n) (λ j. forks_along d k l qs n c.1 c.4 i q j s x y r)
      where
        at : (i < n) ⊎ (n ≤ i) → (i < n → Leads (c.1, x) (k, y)) → Leads (e, x) (k, y)
        at (inl j) more = move_then e (Fork c.0 c.1) x (c.1, x) (k, y) c.2 (forked_within (λ q a. C q d a k) qs n c.1 c.4) (inr refl, refl) (more j)
        at (inr j) more =
            let same : i ≡ n = omega (arith, j, m) in
            let z : c.3.0 ≡ q = same_item c.3.0 q (sym c.3.1 ∙ (ap (slice_get qs) (sym same) ∙ s)) in
            let own : C q d c.0 k = subst (λ t. C t d c.0 k) z c.3.2 in
            move_then e (Fork c.0 c.1) x (c.0, x) (k, y) c.2 (entry q d c.0 k own) (inl refl, refl) (along q d c.0 k own l x y r)

    loop_along : (q : ℕ) (d : Direction) (e b k : ℕ) → slice_get ss e ≡ Some (Fork b k) → C q d b e → k < length ss → (w : List Term) (x y : Term) → IsWalk (Towards d (R q)) w x y → Leads (e, x) (k, y)
    loop_along q d e b k at c l [] x y r = move_then e (Fork b k) x (k, y) (k, y) at l (inr refl, r) (here (k, y))
    loop_along q d e b k at c l (z ∷ zs) x y r =
        move_then e (Fork b k) x (b, x) (k, y) at (entry q d b e c) (inl refl, refl)
        (both (b, x) (e, z) (k, y) (along q d b e c (slice_get_within ss e (Fork b k) at) x z r.0) (loop_along q d e b k at c l zs z y r.1))

    along_by : (o : Option PathForm) (p : ℕ) → slice_get ps p ≡ o → (d : Direction) (e k : ℕ) → CompiledBy C o ss p d e k → k < length ss → (x y : Term) → Towards d (λ a b. ReachBy R o g a b) x y → Leads (e, x) (k, y)
    along_by None p is d e k c l x y r = absurd (nothing d x y r)
    along_by (Some (Predicate i)) p is d e k c l x y r =
        let s : StepBy (slice_get ps p) d g x y = subst (λ o. StepBy o d g x y) (sym is) r in
        move_then e (Step p d k) x (k, y) (k, y) c l (refl, s) (here (k, y))
    along_by (Some (Inverse q)) p is d e k c l x y r = along q (turned d) e k c l x y (turn (R q) d x y r)
    along_by (Some (Sequence a b)) p is d e k c l x y r =
        let m = middle R d a b x y r in
        both (e, x) (c.0, m.0) (k, y) (along (ordered d a b).0 d e c.0 c.1 (entry (ordered d a b).1 d c.0 k c.2) x m.0 m.1) (along (ordered d a b).1 d c.0 k c.2 l m.0 y m.2)
    along_by (Some (Alternative qs)) p is d e k c l x y r = let s = some_towards R d qs x y r in forks_along d k l qs (length qs) e c s.0 s.2.0 s.1 s.2.1 x y s.2.2
    along_by (Some (ZeroOrMore q)) p is d e k c l x y r = let w = star (R q) d x y r in loop_along q d e c.0 k c.1.0 c.1.1 l w.0 x y w.1
    along_by (Some (OneOrMore q)) p is d e k c l x y r =
        let w = plus (R q) d x y r in
        both (e, x) (c.0, w.0) (k, y) (along q d e c.0 c.1.1 (slice_get_within ss c.0 (Fork e k) c.1.0) x w.0 w.1) (loop_along q d c.0 e k c.1.0 c.1.1 l w.2.0 w.0 y w.2.1)
    along_by (Some (ZeroOrOne q)) p is d e k c l x y r = at (either (R q) d x y r)
      where
        at : (x ≡ y) ⊎ Towards d (R q) x y → Leads (e, x) (k, y)
        at (inl s) = move_then e (Fork c.0 k) x (k, y) (k, y) c.1 l (inr refl, s) (here (k, y))
        at (inr s) = move_then e (Fork c.0 k) x (c.0, x) (k, y) c.1 (entry q d c.0 k c.2) (inl refl, refl) (along q d c.0 k c.2 l x y s)

  -- where the path leads, the automaton does
  pub path_along : (f p : ℕ) (d : Direction) (e k : ℕ) → IsCompiled f ps ss p d e k → k < length ss → (x y : Term) → Towards d (λ a b. ReachIn f ps g p a b) x y → Leads (e, x) (k, y)
  unfolding IsCompiled ReachIn
  path_along zero p d e k c l x y r = absurd (nothing d x y r)
  path_along (suc f) p d e k c l x y r =
      along_by (λ q d e k. IsCompiled f ps ss q d e k) (λ q a b. ReachIn f ps g q a b) (λ q d e k h. entry_within f q d e k h) (λ q d e k h j u v t. path_along f q d e k h j u v t) (slice_get ps p) p refl d e k c l x y r

  module _ (goal : Position) (end : slice_get ss goal.0 ≡ Some Found) where
    -- what is left of a walk to the end once a path was followed
    abbrev Rest : (Term → Term → Type 0) → ℕ → Term → List Position → Type 0
    Rest S k x w = (z : Term) × S x z × ((v : List Position) × (length v ≤ length w) × IsWalk (Moves ps g ss) v (k, z) goal)

    -- the first move, where the state isn't the end
    first_move : (e : ℕ) (s : State) → slice_get ss e ≡ Some s → (s ≡ Found → ⊥) → (x : Term) (w : List Position) → IsWalk (Moves ps g ss) w (e, x) goal
        → (v : Position) × MoveBy ps g (Some s) x v × ((u : List Position) × (length w ≡ suc (length u)) × IsWalk (Moves ps g ss) u v goal)
    first_move e s at other x [] h = absurd (other (same_item s Found (sym at ∙ (ap (λ (u : Position). slice_get ss u.0) h ∙ end))))
    first_move e s at other x (v ∷ w) h = (v, subst (λ o. MoveBy ps g o x v) at h.0.1, (w, refl, h.1))

    no_move : (e : ℕ) → slice_get ss e ≡ Some Stuck → (x : Term) (w : List Position) → IsWalk (Moves ps g ss) w (e, x) goal → ⊥
    no_move e at x w h = (first_move e Stuck at (λ z. cc) x w h).1

    -- a fork's walk goes on in one of its states
    fork_move : (e a b : ℕ) → slice_get ss e ≡ Some (Fork a b) → (x : Term) (w : List Position) → IsWalk (Moves ps g ss) w (e, x) goal
        → (u : List Position) × (length w ≡ suc (length u)) × (IsWalk (Moves ps g ss) u (a, x) goal ⊎ IsWalk (Moves ps g ss) u (b, x) goal)
    fork_move e a b at x w h = (m.2.0, m.2.1, by m.1.0)
      where
        m : (v : Position) × MoveBy ps g (Some (Fork a b)) x v × ((u : List Position) × (length w ≡ suc (length u)) × IsWalk (Moves ps g ss) u v goal)
        m = first_move e (Fork a b) at (λ z. cc) x w h

        to : (c : ℕ) → c ≡ m.0.0 → IsWalk (Moves ps g ss) m.2.0 (c, x) goal
        to c i = subst (λ (u : Position). IsWalk (Moves ps g ss) m.2.0 u goal) (λ j. (sym i j, sym m.1.1 j)) m.2.2

        by : (a ≡ m.0.0) ⊎ (b ≡ m.0.0) → IsWalk (Moves ps g ss) m.2.0 (a, x) goal ⊎ IsWalk (Moves ps g ss) m.2.0 (b, x) goal
        by (inl i) = inl (to a i)
        by (inr i) = inr (to b i)

    module _ (C : ℕ → Direction → ℕ → ℕ → Type 0) (R : ℕ → Term → Term → Type 0)
        (rest : (q : ℕ) (d : Direction) (e k : ℕ) → C q d e k → (x : Term) (w : List Position) → IsWalk (Moves ps g ss) w (e, x) goal → Rest (Towards d (R q)) k x w) where
      forks_rest : (d : Direction) (k : ℕ) (qs : List ℕ) (n e : ℕ) → AreForked (λ q a. C q d a k) ss qs n e → (x : Term) (w : List Position) → IsWalk (Moves ps g ss) w (e, x) goal
          → (i : ℕ) × (q : ℕ) × (slice_get qs i ≡ Some q) × Rest (Towards d (R q)) k x w
      forks_rest d k qs zero e c x w h = absurd (no_move e c x w h)
      forks_rest d k qs (suc n) e c x w h = by m.2 (λ t. forks_rest d k qs n c.1 c.4 x m.0 t)
        where
          m : (u : List Position) × (length w ≡ suc (length u)) × (IsWalk (Moves ps g ss) u (c.0, x) goal ⊎ IsWalk (Moves ps g ss) u (c.1, x) goal)
          m = fork_move e c.0 c.1 c.2 x w h

          wider : (q : ℕ) → Rest (Towards d (R q)) k x m.0 → Rest (Towards d (R q)) k x w
          wider q r = let a = r.2.1 in let b = m.1 in (r.0, r.1, (r.2.0, omega (arith, a, b), r.2.2))

          by : IsWalk (Moves ps g ss) m.0 (c.0, x) goal ⊎ IsWalk (Moves ps g ss) m.0 (c.1, x) goal
              → (IsWalk (Moves ps g ss) m.0 (c.1, x) goal → (i : ℕ) × (q : ℕ) × (slice_get qs i ≡ Some q) × Rest (Towards d (R q)) k x m.0)
              → (i : ℕ) × (q : ℕ) × (slice_get qs i ≡ Some q) × Rest (Towards d (R q)) k x w
          by (inl t) more = (n, c.3.0, c.3.1, wider c.3.0 (rest c.3.0 d c.0 k c.3.2 x m.0 t))
          by (inr t) more = let r = more t in (r.0, r.1, r.2, wider r.1 r.3)

      loop_rest : (q : ℕ) (d : Direction) (e b k : ℕ) → slice_get ss e ≡ Some (Fork b k) → C q d b e → (n : ℕ) (x : Term) (w : List Position) → length w ≤ n → IsWalk (Moves ps g ss) w (e, x) goal
          → Rest (λ u v. (us : List Term) × IsWalk (Towards d (R q)) us u v) k x w
      loop_rest q d e b k at c zero x w l h = let m = fork_move e b k at x w h in let n = m.1 in absurd (omega (arith, l, n))
      loop_rest q d e b k at c (suc n) x w l h = by m.2 (λ z v o t. loop_rest q d e b k at c n z v o t)
        where
          m : (u : List Position) × (length w ≡ suc (length u)) × (IsWalk (Moves ps g ss) u (b, x) goal ⊎ IsWalk (Moves ps g ss) u (k, x) goal)
          m = fork_move e b k at x w h

          by : IsWalk (Moves ps g ss) m.0 (b, x) goal ⊎ IsWalk (Moves ps g ss) m.0 (k, x) goal
              → ((z : Term) (v : List Position) → length v ≤ n → IsWalk (Moves ps g ss) v (e, z) goal → Rest (λ u v. (us : List Term) × IsWalk (Towards d (R q)) us u v) k z v)
              → Rest (λ u v. (us : List Term) × IsWalk (Towards d (R q)) us u v) k x w
          by (inl t) more =
              let r = rest q d b e c x m.0 t in
              let i = r.2.1 in
              let j = m.1 in
              let s = more r.0 r.2.0 (omega (arith, i, j, l)) r.2.2 in
              let o = s.2.1 in
              (s.0, (r.0 ∷ s.1.0, (r.1, s.1.1)), (s.2.0, omega (arith, o, i, j), s.2.2))
          by (inr t) more = let j = m.1 in (x, ([], refl), (m.0, omega (arith, j), t))

      rest_by : (o : Option PathForm) (p : ℕ) → slice_get ps p ≡ o → (d : Direction) (e k : ℕ) → CompiledBy C o ss p d e k → (x : Term) (w : List Position) → IsWalk (Moves ps g ss) w (e, x) goal → Rest (Towards d (λ a b. ReachBy R o g a b)) k x w
      rest_by None p is d e k c x w h = absurd (no_move e c x w h)
      rest_by (Some (Predicate i)) p is d e k c x w h =
          let m = first_move e (Step p d k) c (λ z. cc) x w h in
          let s : StepBy (Some (Predicate i)) d g x m.0.1 = subst (λ o. StepBy o d g x m.0.1) is m.1.1 in
          let l = m.2.1 in
          (m.0.1, s, (m.2.0, omega (arith, l), subst (λ j. IsWalk (Moves ps g ss) m.2.0 (j, m.0.1) goal) (sym m.1.0) m.2.2))
      rest_by (Some (Inverse q)) p is d e k c x w h = let r = rest q (turned d) e k c x w h in (r.0, turn_back (R q) d x r.0 r.1, r.2)
      rest_by (Some (Sequence a b)) p is d e k c x w h =
          let r = rest (ordered d a b).0 d e c.0 c.1 x w h in
          let s = rest (ordered d a b).1 d c.0 k c.2 r.0 r.2.0 r.2.2 in
          let l = r.2.1 in
          let m = s.2.1 in
          (s.0, from_middle R d a b x s.0 r.0 r.1 s.1, (s.2.0, omega (arith, l, m), s.2.2))
      rest_by (Some (Alternative qs)) p is d e k c x w h = let r = forks_rest d k qs (length qs) e c x w h in (r.3.0, towards_some R d qs x r.3.0 r.0 r.1 r.2 r.3.1, r.3.2)
      rest_by (Some (ZeroOrMore q)) p is d e k c x w h =
          let r = loop_rest q d e c.0 k c.1.0 c.1.1 (length w) x w (omega arith) h in
          (r.0, from_star (R q) d x r.0 r.1.0 r.1.1, r.2)
      rest_by (Some (OneOrMore q)) p is d e k c x w h =
          let r = rest q d e c.0 c.1.1 x w h in
          let s = loop_rest q d c.0 e k c.1.0 c.1.1 (length r.2.0) r.0 r.2.0 (omega arith) r.2.2 in
          let l = r.2.1 in
          let m = s.2.1 in
          (s.0, from_plus (R q) d x s.0 r.0 s.1.0 r.1 s.1.1, (s.2.0, omega (arith, l, m), s.2.2))
      rest_by (Some (ZeroOrOne q)) p is d e k c x w h = by m.2
        where
          m : (u : List Position) × (length w ≡ suc (length u)) × (IsWalk (Moves ps g ss) u (c.0, x) goal ⊎ IsWalk (Moves ps g ss) u (k, x) goal)
          m = fork_move e c.0 k c.1 x w h

          by : IsWalk (Moves ps g ss) m.0 (c.0, x) goal ⊎ IsWalk (Moves ps g ss) m.0 (k, x) goal → Rest (Towards d (λ a b. (a ≡ b) ⊎ R q a b)) k x w
          by (inl t) =
              let r = rest q d c.0 k c.2 x m.0 t in
              let a = r.2.1 in
              let b = m.1 in
              (r.0, from_either (R q) d x r.0 (inr r.1), (r.2.0, omega (arith, a, b), r.2.2))
          by (inr t) = let b = m.1 in (x, from_either (R q) d x x (inl refl), (m.0, omega (arith, b), t))

    path_rest : (f p : ℕ) (d : Direction) (e k : ℕ) → IsCompiled f ps ss p d e k → (x : Term) (w : List Position) → IsWalk (Moves ps g ss) w (e, x) goal → Rest (Towards d (λ a b. ReachIn f ps g p a b)) k x w
    unfolding IsCompiled ReachIn
    path_rest zero p d e k c x w h = absurd (no_move e c x w h)
    path_rest (suc f) p d e k c x w h =
        rest_by (λ q d e k. IsCompiled f ps ss q d e k) (λ q a b. ReachIn f ps g q a b) (λ q d e k h u v t. path_rest f q d e k h u v t) (slice_get ps p) p refl d e k c x w h

  -- from its first state the automaton comes to the end exactly where the path leads
  pub path_is : (f p : ℕ) (d : Direction) (e : ℕ) → IsCompiled f ps ss p d e 0 → slice_get ss 0 ≡ Some Found → (x y : Term) → Leads (e, x) (0, y) ↔ Towards d (λ a b. ReachIn f ps g p a b) x y
  path_is f p d e c end x y = (to, λ r. path_along f p d e 0 c (slice_get_within ss 0 Found end) x y r)
    where
      same : (z : Term) (v : List Position) → IsWalk (Moves ps g ss) v (0, z) (0, y) → z ≡ y
      same z [] h = ap (λ (u : Position). u.1) h
      same z (u ∷ v) h = absurd (subst (λ o. MoveBy ps g o z u) end h.0.1)

      to : Leads (e, x) (0, y) → Towards d (λ a b. ReachIn f ps g p a b) x y
      to w =
          let r = path_rest (0, y) end f p d e 0 c x w.0 w.1 in
          subst (λ z. Towards d (λ a b. ReachIn f ps g p a b) x z) (same r.0 r.2.0 r.2.2) r.1

-- no step along a path that isn't a predicate
pub no_step : (o : Option PathForm) → ((i : List ℕ) → o ≡ Some (Predicate i) → ⊥) → (d : Direction) (g : Graph) (x y : Term) → StepBy o d g x y → ⊥
no_step None h d g x y s = s
no_step (Some (Predicate i)) h d g x y s = h i refl
no_step (Some (Inverse q)) h d g x y s = s
no_step (Some (Sequence a b)) h d g x y s = s
no_step (Some (Alternative qs)) h d g x y s = s
no_step (Some (ZeroOrMore q)) h d g x y s = s
no_step (Some (OneOrMore q)) h d g x y s = s
no_step (Some (ZeroOrOne q)) h d g x y s = s
