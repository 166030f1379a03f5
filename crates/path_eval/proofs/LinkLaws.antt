-- What the triples at some places lead to.
use Rattle.std.proofs.Common.{◌≡◌, ◌↔◌, ◌⊎◌, inl, inr, ℕ, ◌+◌, ◌<◌, ◌≤◌, IsTrue, List, [], ◌∷◌, ◌++◌, take, length, get_or, Contains, Some, None, option_map, slice_get, refl, sym, ap, ◌∙◌, subst, arith}
use Rattle.std.proofs.lemmas.Bool.{cases_lt}
use Rattle.std.proofs.lemmas.List.{map-append, get_or_default}
use Rattle.std.proofs.lemmas.List.Elements.{Contains-append_cases, Contains-append_left, Contains-append_right}
use Rattle.std.proofs.lemmas.Option.{slice_get_past, slice_get_within, get_or_from_slice_get}
use Rattle.rdf_terms.specs.declared.term.Term.{Term}
use Rattle.rdf_terms.specs.Statement.{Statement}
use Rattle.rdf_terms.specs.Graph.{Graph, triples, has, ArePlacesOf, ArePlacesOfObject}
use Rattle.rdf_terms.specs.Members.{InGraph, IsListOf}
use Rattle.rdf_terms.specs.Nodes.{Nodes, terms}
use Rattle.rdf_terms.proofs.Members.{in_none, in_first, take_next}
use Rattle.rdf_terms.proofs.GraphLaws.{has_listed, listed_of_has}
use Rattle.rdf_navigation.specs.Numbers.{term_at}
use Rattle.path_eval.specs.declared.direction.Direction.{Direction}
use Rattle.path_eval.specs.declared.direction.Direction.TheVariants.{Forward, Backward}
use Rattle.path_eval.specs.Directions.{Towards}
use Rattle.path_eval.specs.Numbered.{terms_at, AreNumbers}
use Rattle.path_eval.specs.Links.{far_end, IsLinked}
use Rattle.path_eval.proofs.Searches.{place_of, same_item}
use Rattle.path_eval.proofs.VisitLaws.{in_one}

pub list_same : (P Q : Term → Type 0) (ts : List Term) → ((y : Term) → P y ↔ Q y) → IsListOf P ts → IsListOf Q ts
list_same P Q ts is l y = (λ c. (is y).0 ((l y).0 c), λ q. (l y).1 ((is y).1 q))

pub in_push : {X : Type 0} (xs : List X) (x y : X) → Contains (xs ++ x ∷ []) y ↔ (Contains xs y ⊎ (x ≡ y))
in_push xs x y = (λ c. to (Contains-append_cases xs (x ∷ []) y c), back)
  where
    to : Contains xs y ⊎ Contains (x ∷ []) y → Contains xs y ⊎ (x ≡ y)
    to (inl c) = inl c
    to (inr c) = inr (in_one x y c)

    back : Contains xs y ⊎ (x ≡ y) → Contains (xs ++ x ∷ []) y
    back (inl c) = Contains-append_left xs (x ∷ []) y c
    back (inr e) = Contains-append_right xs (x ∷ []) y (subst (Contains (x ∷ [])) e (in_first x []))

pub numbers_push : (n : Nodes) (is : List ℕ) (i : ℕ) → AreNumbers n is → i < length (terms n) → AreNumbers n (is ++ i ∷ [])
numbers_push n is i a l j c = at ((in_push is i j).0 c)
  where
    at : Contains is j ⊎ (i ≡ j) → j < length (terms n)
    at (inl d) = a j d
    at (inr e) = subst (λ k. k < length (terms n)) e l

module _ (ts : List Statement) (p : Term) (d : Direction) (P Q : ℕ → Type 0) (i : ℕ) (split : (k : ℕ) → Q k → P k ⊎ (i ≡ k)) (wider : (k : ℕ) → P k → Q k) where
  -- at one of the first places, or at the next
  old_or_new : (y : Term) → IsLinked ts p d Q y → IsLinked ts p d P y ⊎ ((t : Statement) × (slice_get ts i ≡ Some t) × (t.predicate ≡ p) × (far_end d t ≡ y))
  old_or_new y h = at (split h.0 h.1)
    where
      at : P h.0 ⊎ (i ≡ h.0) → IsLinked ts p d P y ⊎ ((t : Statement) × (slice_get ts i ≡ Some t) × (t.predicate ≡ p) × (far_end d t ≡ y))
      at (inl q) = inl (h.0, q, h.2)
      at (inr e) = inr (h.2.0, ap (slice_get ts) e ∙ h.2.1, h.2.2, h.2.3)

  -- one place more, whose triple leads to a term
  pub linked_more : Q i → (n : Nodes) (found : List ℕ) (j : ℕ) → IsListOf (IsLinked ts p d P) (terms_at n found)
      → (t : Statement) × (slice_get ts i ≡ Some t) × (t.predicate ≡ p) × (far_end d t ≡ term_at n j) → IsListOf (IsLinked ts p d Q) (terms_at n (found ++ j ∷ []))
  linked_more q n found j all own y = (λ c. to (push.0 (subst (λ us. Contains us y) pushed c)), λ h. subst (λ us. Contains us y) (sym pushed) (push.1 (back (old_or_new y h))))
    where
      pushed : terms_at n (found ++ j ∷ []) ≡ terms_at n found ++ term_at n j ∷ []
      pushed = map-append (term_at n) found (j ∷ [])

      push : Contains (terms_at n found ++ term_at n j ∷ []) y ↔ (Contains (terms_at n found) y ⊎ (term_at n j ≡ y))
      push = in_push (terms_at n found) (term_at n j) y

      to : Contains (terms_at n found) y ⊎ (term_at n j ≡ y) → IsLinked ts p d Q y
      to (inl c) = let h = (all y).0 c in (h.0, wider h.0 h.1, h.2)
      to (inr e) = (i, q, (own.0, own.1, own.2, own.3 ∙ e))

      back : IsLinked ts p d P y ⊎ ((t : Statement) × (slice_get ts i ≡ Some t) × (t.predicate ≡ p) × (far_end d t ≡ y)) → Contains (terms_at n found) y ⊎ (term_at n j ≡ y)
      back (inl h) = inl ((all y).1 h)
      back (inr h) = let same : own.0 ≡ h.0 = same_item own.0 h.0 (sym own.1 ∙ h.1) in inr (sym own.3 ∙ (ap (far_end d) same ∙ h.3))

  -- one place more, whose triple has another predicate
  pub linked_other : ((t : Statement) → slice_get ts i ≡ Some t → t.predicate ≡ p → ⊥) → (us : List Term) → IsListOf (IsLinked ts p d P) us → IsListOf (IsLinked ts p d Q) us
  linked_other never us all y = (λ c. let h = (all y).0 c in (h.0, wider h.0 h.1, h.2), λ h. back (old_or_new y h))
    where
      back : IsLinked ts p d P y ⊎ ((t : Statement) × (slice_get ts i ≡ Some t) × (t.predicate ≡ p) × (far_end d t ≡ y)) → Contains us y
      back (inl h) = (all y).1 h
      back (inr h) = absurd (never h.0 h.1 h.2)

pub linked_none : (ts : List Statement) (p : Term) (d : Direction) (P : ℕ → Type 0) → ((k : ℕ) → P k → ⊥) → IsListOf (IsLinked ts p d P) []
linked_none ts p d P never y = (λ c. absurd (in_none y c), λ h. absurd (never h.0 h.1))

module _ (g : Graph) (p : Term) where
  listed : (i : ℕ) (t : Statement) → slice_get (triples g) i ≡ Some t → IsTrue (has g t)
  listed i t e = has_listed g t (i, slice_get_within (triples g) i t e, get_or_from_slice_get (triples g) i t t e)

  -- by the places of the subject
  pub forward_is : (x : Term) (first after : ℕ) → ArePlacesOf (triples g) x first after → (y : Term) → IsLinked (triples g) p Forward (λ i. (first ≤ i) × (i < after)) y ↔ InGraph g x p y
  forward_is x first after a y = (to, from)
    where
      to : IsLinked (triples g) p Forward (λ i. (first ≤ i) × (i < after)) y → InGraph g x p y
      to h =
          let t : Statement = h.2.0 in
          let own : t.subject ≡ x = (a.exact h.0 t h.2.1).1 h.1 in
          subst (λ (u : Statement). IsTrue (has g u)) (λ j. record { subject = own j; predicate = h.2.2 j; object = h.2.3 j }) (listed h.0 t h.2.1)

      from : InGraph g x p y → IsLinked (triples g) p Forward (λ i. (first ≤ i) × (i < after)) y
      from h =
          let t : Statement = record { subject = x; predicate = p; object = y } in
          let s = place_of (triples g) t (listed_of_has g t h) in
          (s.0, (a.exact s.0 t s.2).0 refl, (t, s.2, refl, refl))

  -- by the places of the object
  pub backward_is : (x : Term) (places : List ℕ) → ArePlacesOfObject (triples g) x places → (y : Term) → IsLinked (triples g) p Backward (λ i. Contains places i) y ↔ InGraph g y p x
  backward_is x places a y = (to, from)
    where
      to : IsLinked (triples g) p Backward (λ i. Contains places i) y → InGraph g y p x
      to h =
          let t : Statement = h.2.0 in
          let own : t.object ≡ x = same_item t.object x (sym (ap (option_map (λ (u : Statement). u.object)) h.2.1) ∙ (a.exact h.0).0 h.1) in
          subst (λ (u : Statement). IsTrue (has g u)) (λ j. record { subject = h.2.3 j; predicate = h.2.2 j; object = own j }) (listed h.0 t h.2.1)

      from : InGraph g y p x → IsLinked (triples g) p Backward (λ i. Contains places i) y
      from h =
          let t : Statement = record { subject = y; predicate = p; object = x } in
          let s = place_of (triples g) t (listed_of_has g t h) in
          (s.0, (a.exact s.0).1 (ap (option_map (λ (u : Statement). u.object)) s.2), (t, s.2, refl, refl))

-- the step of a walk over the places of a subject
module _ (ts : List Statement) (p : Term) (first place : ℕ) (from : first ≤ place) where
  split_places : (k : ℕ) → (first ≤ k) × (k < place + 1) → ((first ≤ k) × (k < place)) ⊎ (place ≡ k)
  split_places k q = at (cases_lt k place)
    where
      at : (k < place) ⊎ (place ≤ k) → ((first ≤ k) × (k < place)) ⊎ (place ≡ k)
      at (inl l) = inl (q.0, l)
      at (inr l) = inr (let m = q.1 in omega (arith, l, m))

  more_places : (k : ℕ) → (first ≤ k) × (k < place) → (first ≤ k) × (k < place + 1)
  more_places k q = (q.0, let l = q.1 in omega (arith, l))

  pub forward_more : (n : Nodes) (found : List ℕ) (j : ℕ) → IsListOf (IsLinked ts p Forward (λ i. (first ≤ i) × (i < place))) (terms_at n found)
      → (t : Statement) × (slice_get ts place ≡ Some t) × (t.predicate ≡ p) × (far_end Forward t ≡ term_at n j) → IsListOf (IsLinked ts p Forward (λ i. (first ≤ i) × (i < place + 1))) (terms_at n (found ++ j ∷ []))
  forward_more n found j all own = linked_more ts p Forward (λ i. (first ≤ i) × (i < place)) (λ i. (first ≤ i) × (i < place + 1)) place split_places more_places (from, omega arith) n found j all own

  pub forward_other : ((t : Statement) → slice_get ts place ≡ Some t → t.predicate ≡ p → ⊥) → (us : List Term) → IsListOf (IsLinked ts p Forward (λ i. (first ≤ i) × (i < place))) us → IsListOf (IsLinked ts p Forward (λ i. (first ≤ i) × (i < place + 1))) us
  forward_other never us all = linked_other ts p Forward (λ i. (first ≤ i) × (i < place)) (λ i. (first ≤ i) × (i < place + 1)) place split_places more_places never us all

-- the step of a walk over the places of an object
module _ (ts : List Statement) (p : Term) (places : List ℕ) (k : ℕ) (within : k < length places) where
  next_place : take (k + 1) places ≡ take k places ++ get_or places k 0 ∷ []
  next_place = take_next places k (get_or places k 0) within (get_or_default places k 0 (get_or places k 0) within)

  split_list : (i : ℕ) → Contains (take (k + 1) places) i → Contains (take k places) i ⊎ (get_or places k 0 ≡ i)
  split_list i c = (in_push (take k places) (get_or places k 0) i).0 (subst (λ us. Contains us i) next_place c)

  join_list : (i : ℕ) → Contains (take k places) i ⊎ (get_or places k 0 ≡ i) → Contains (take (k + 1) places) i
  join_list i c = subst (λ us. Contains us i) (sym next_place) ((in_push (take k places) (get_or places k 0) i).1 c)

  pub backward_more : (n : Nodes) (found : List ℕ) (j : ℕ) → IsListOf (IsLinked ts p Backward (λ i. Contains (take k places) i)) (terms_at n found)
      → (t : Statement) × (slice_get ts (get_or places k 0) ≡ Some t) × (t.predicate ≡ p) × (far_end Backward t ≡ term_at n j) → IsListOf (IsLinked ts p Backward (λ i. Contains (take (k + 1) places) i)) (terms_at n (found ++ j ∷ []))
  backward_more n found j all own = linked_more ts p Backward (λ i. Contains (take k places) i) (λ i. Contains (take (k + 1) places) i) (get_or places k 0) split_list (λ i c. join_list i (inl c)) (join_list (get_or places k 0) (inr refl)) n found j all own

  pub backward_other : ((t : Statement) → slice_get ts (get_or places k 0) ≡ Some t → t.predicate ≡ p → ⊥) → (us : List Term) → IsListOf (IsLinked ts p Backward (λ i. Contains (take k places) i)) us → IsListOf (IsLinked ts p Backward (λ i. Contains (take (k + 1) places) i)) us
  backward_other never us all = linked_other ts p Backward (λ i. Contains (take k places) i) (λ i. Contains (take (k + 1) places) i) (get_or places k 0) split_list (λ i c. join_list i (inl c)) never us all

pub place_inside : (ts : List Statement) (o : Term) (places : List ℕ) → ArePlacesOfObject ts o places → (i : ℕ) → Contains places i → i < length ts
place_inside ts o places a i c = at (cases_lt i (length ts))
  where
    at : (i < length ts) ⊎ (length ts ≤ i) → i < length ts
    at (inl l) = l
    at (inr l) = let z : None ≡ Some o = sym (ap (option_map (λ (u : Statement). u.object)) (slice_get_past ts i l)) ∙ (a.exact i).0 c in absurd (cc)

-- the step of a pass over all places
module _ (ts : List Statement) (p : Term) (d : Direction) (place : ℕ) where
  split_below : (k : ℕ) → k < place + 1 → (k < place) ⊎ (place ≡ k)
  split_below k q = at (cases_lt k place)
    where
      at : (k < place) ⊎ (place ≤ k) → (k < place) ⊎ (place ≡ k)
      at (inl l) = inl l
      at (inr l) = inr (omega (arith, l, q))

  more_below : (k : ℕ) → k < place → k < place + 1
  more_below k l = omega (arith, l)

  pub pass_more : (n : Nodes) (found : List ℕ) (j : ℕ) → IsListOf (IsLinked ts p d (λ i. i < place)) (terms_at n found)
      → (t : Statement) × (slice_get ts place ≡ Some t) × (t.predicate ≡ p) × (far_end d t ≡ term_at n j) → IsListOf (IsLinked ts p d (λ i. i < place + 1)) (terms_at n (found ++ j ∷ []))
  pass_more n found j all own = linked_more ts p d (λ i. i < place) (λ i. i < place + 1) place split_below more_below (omega arith) n found j all own

  pub pass_other : ((t : Statement) → slice_get ts place ≡ Some t → t.predicate ≡ p → ⊥) → (us : List Term) → IsListOf (IsLinked ts p d (λ i. i < place)) us → IsListOf (IsLinked ts p d (λ i. i < place + 1)) us
  pass_other never us all = linked_other ts p d (λ i. i < place) (λ i. i < place + 1) place split_below more_below never us all

-- the end from which a triple leads
abbrev near_end : Direction → Statement → Term
near_end Forward t = t.subject
near_end Backward t = t.object

-- what triples at any place lead to
pub pass_is : (g : Graph) (p : Term) (d : Direction) (y : Term) → IsLinked (triples g) p d (λ i. i < length (triples g)) y ↔ ((x : Term) × Towards d (λ a b. InGraph g a p b) x y)
pass_is g p d y = (to, λ r. from r.0 d r.1)
  where
    there : (d : Direction) (t : Statement) → IsTrue (has g t) → t.predicate ≡ p → far_end d t ≡ y → Towards d (λ a b. InGraph g a p b) (near_end d t) y
    there Forward t h e f = subst (λ (u : Statement). IsTrue (has g u)) (λ j. record { subject = t.subject; predicate = e j; object = f j }) h
    there Backward t h e f = subst (λ (u : Statement). IsTrue (has g u)) (λ j. record { subject = f j; predicate = e j; object = t.object }) h

    to : IsLinked (triples g) p d (λ i. i < length (triples g)) y → (x : Term) × Towards d (λ a b. InGraph g a p b) x y
    to h = (near_end d h.2.0, there d h.2.0 (listed g p h.0 h.2.0 h.2.1) h.2.2 h.2.3)

    from : (x : Term) (d : Direction) → Towards d (λ a b. InGraph g a p b) x y → IsLinked (triples g) p d (λ i. i < length (triples g)) y
    from x Forward h =
        let t : Statement = record { subject = x; predicate = p; object = y } in
        let s = place_of (triples g) t (listed_of_has g t h) in
        (s.0, s.1, (t, s.2, refl, refl))
    from x Backward h =
        let t : Statement = record { subject = y; predicate = p; object = x } in
        let s = place_of (triples g) t (listed_of_has g t h) in
        (s.0, s.1, (t, s.2, refl, refl))
