-- Relations between terms as graphs over the places of these terms.
use Rattle.std.proofs.Common.{◌≡◌, ◌↔◌, take, slice_get, ℕ, ◌+◌, ◌<◌, ◌≤◌, ◌⊎◌, inl, inr, Bool, true, false, cond, List, [], ◌∷◌, ◌++◌, map, length, get_or, Contains, Option, Some, None, option_map, refl, sym, ap, ◌∙◌, subst, arith}
use Rattle.std.proofs.lemmas.Bool.{cases_lt}
use Rattle.std.proofs.lemmas.List.{length-append, get_or_append_left, get_or_past, get_or_default, map-append}
use Rattle.std.proofs.Math.Seq.{get_or-append_seam}
use Rattle.std.proofs.lemmas.List.Elements.{Contains-append_cases}
use Rattle.std.proofs.lemmas.Option.{get_or_from_slice_get, slice_get_past}
use Rattle.std.specs.List.{flat_map}
use Rattle.rdf_terms.specs.declared.term.Term.{Term}
use Rattle.rdf_terms.specs.declared.term.Term.TheVariants.{Literal}
use Rattle.rdf_terms.specs.Statement.{Statement}
use Rattle.rdf_terms.specs.Graph.{Graph, triples, has}
use Rattle.rdf_terms.specs.Nodes.{Nodes, terms}
use Rattle.rdf_terms.specs.Members.{InGraph}
use Rattle.rdf_terms.proofs.Orders.{same_term as equal_terms, term_tied}
use Rattle.rdf_terms.proofs.GraphLaws.{has_listed, listed_of_has}
use Rattle.rdf_terms.proofs.Members.{take_next, in_none, in_first, in_rest, in_cases, in_flat_map, flat_map_in}
use Rattle.digraph.specs.Digraph.{Digraph, successors_at}
use Rattle.digraph.specs.Reach.{IsSuccessor}
use Rattle.rdf_navigation.specs.Values.{same_term}
use Rattle.rdf_navigation.specs.Numbers.{term_at, IsNumbered, ends_by, IsEndOf}

abbrev nowhere : Term
nowhere = Literal [] [] None

-- where a term stands
pub at_place : (n : Nodes) (k : ℕ) (x : Term) → slice_get (terms n) k ≡ Some x → term_at n k ≡ x
at_place n k x e = get_or_from_slice_get (terms n) k x nowhere e

pub at_item : (n : Nodes) (k : ℕ) (x : Term) → k < length (terms n) → x ≡ get_or (terms n) k x → term_at n k ≡ x
at_item n k x l e = get_or_default (terms n) k nowhere x l ∙ sym e

pub place_within : (n : Nodes) (k : ℕ) (x : Term) → slice_get (terms n) k ≡ Some x → k < length (terms n)
place_within n k x e = at (cases_lt k (length (terms n)))
  where
    at : (k < length (terms n)) ⊎ (length (terms n) ≤ k) → k < length (terms n)
    at (inl l) = l
    at (inr l) = absurd (let z : None ≡ Some x = sym (slice_get_past (terms n) k l) ∙ e in cc)

-- one place more
pub places_more : (n : Nodes) (ps : List ℕ) (ts : List Term) (k : ℕ) (t : Term) (i : ℕ) → map (term_at n) ps ≡ take k ts → k < length ts → t ≡ get_or ts k t → slice_get (terms n) i ≡ Some t
    → map (term_at n) (ps ++ i ∷ []) ≡ take (k + 1) ts
places_more n ps ts k t i h l e g =
    map-append (term_at n) ps (i ∷ []) ∙ ap (λ us. us ++ term_at n i ∷ []) h ∙ ap (λ u. take k ts ++ u ∷ []) (at_place n i t g) ∙ sym (take_next ts k t l e)

pub within_more : (n : Nodes) (ps : List ℕ) (i : ℕ) (t : Term) → ((j : ℕ) → Contains ps j → j < length (terms n)) → slice_get (terms n) i ≡ Some t → (j : ℕ) → Contains (ps ++ i ∷ []) j → j < length (terms n)
within_more n ps i t h g j c = at (Contains-append_cases ps (i ∷ []) j c)
  where
    here : (i ≡ j) ⊎ Contains [] j → j < length (terms n)
    here (inl e) = subst (λ k. k < length (terms n)) e (place_within n i t g)
    here (inr d) = absurd (in_none j d)

    at : Contains ps j ⊎ Contains (i ∷ []) j → j < length (terms n)
    at (inl d) = h j d
    at (inr d) = here (in_cases i [] j d)

module _ (next : Term → Option (List Term)) (n : Nodes) where
  pub numbered_start : IsNumbered next n []
  numbered_start = record { same = λ i l. absurd (omega (arith, l)); closed = λ i j s. absurd (let z : None ≡ Some s.0 = sym (get_or_past [] i None (omega arith)) ∙ s.1 in cc) }

  -- one number more
  pub numbered_push : (g : Digraph) (e : Option (List ℕ)) → IsNumbered next n g → next (term_at n (length g)) ≡ option_map (map (term_at n)) e
      → ((is : List ℕ) → e ≡ Some is → (i : ℕ) → Contains is i → i < length (terms n)) → IsNumbered next n (g ++ e ∷ [])
  numbered_push g e w here within = record { same = same; closed = closed }
    where
      old : (i : ℕ) → i < length g → successors_at (g ++ e ∷ []) i ≡ successors_at g i
      old i l = get_or_append_left g (e ∷ []) None i l

      new : (i : ℕ) → i ≡ length g → successors_at (g ++ e ∷ []) i ≡ e
      new i q = ap (λ k. successors_at (g ++ e ∷ []) k) q ∙ get_or-append_seam g e [] None

      same : (i : ℕ) → i < length (g ++ e ∷ []) → next (term_at n i) ≡ option_map (map (term_at n)) (successors_at (g ++ e ∷ []) i)
      same i l = at (cases_lt i (length g))
        where
          at : (i < length g) ⊎ (length g ≤ i) → next (term_at n i) ≡ option_map (map (term_at n)) (successors_at (g ++ e ∷ []) i)
          at (inl k) = w.same i k ∙ ap (option_map (map (term_at n))) (sym (old i k))
          at (inr k) =
              let m = length-append g (e ∷ []) in
              let q : i ≡ length g = omega (arith, l, k, m) in
              ap (λ j. next (term_at n j)) q ∙ here ∙ ap (option_map (map (term_at n))) (sym (new i q))

      closed : (i j : ℕ) → IsSuccessor (successors_at (g ++ e ∷ [])) i j → j < length (terms n)
      closed i j s = at (cases_lt i (length g)) (cases_lt i (length (g ++ e ∷ [])))
        where
          at : (i < length g) ⊎ (length g ≤ i) → (i < length (g ++ e ∷ [])) ⊎ (length (g ++ e ∷ []) ≤ i) → j < length (terms n)
          at (inl k) o = w.closed i j (s.0, sym (old i k) ∙ s.1, s.2)
          at (inr k) (inl l) =
              let m = length-append g (e ∷ []) in
              let q : i ≡ length g = omega (arith, l, k, m) in
              within s.0 (sym (new i q) ∙ s.1) j s.2
          at (inr k) (inr l) = absurd (let z : None ≡ Some s.0 = sym (get_or_past (g ++ e ∷ []) i None l) ∙ s.1 in cc)

-- the ends of the triples with a predicate, and one more term
pub ends_is : (g : Graph) (p more x : Term) → Contains (more ∷ flat_map (ends_by p) (triples g)) x ↔ (IsEndOf g p x ⊎ (x ≡ more))
ends_is g p more x = (λ c. to (in_cases more (flat_map (ends_by p) (triples g)) x c), from)
  where
    of_triple : (t : Statement) → has g t ≡ true → Contains (ends_by p t) x → IsEndOf g p x
    of_triple t h c = at (same_term t.predicate p) refl c
      where
        ends : InGraph g t.subject p t.object → (t.subject ≡ x) ⊎ Contains (t.object ∷ []) x → IsEndOf g p x
        ends e (inl s) = (t.object, inl (subst (λ z. InGraph g z p t.object) s e))
        ends e (inr d) = second (in_cases t.object [] x d)
          where
            second : (t.object ≡ x) ⊎ Contains [] x → IsEndOf g p x
            second (inl s) = (t.subject, inr (subst (λ z. InGraph g t.subject p z) s e))
            second (inr d) = absurd (in_none x d)

        at : (b : Bool) → same_term t.predicate p ≡ b → Contains (cond b (t.subject ∷ t.object ∷ []) []) x → IsEndOf g p x
        at true e c = ends (subst (λ q. InGraph g t.subject q t.object) (equal_terms t.predicate p e) h) (in_cases t.subject (t.object ∷ []) x c)
        at false e c = absurd (in_none x c)

    to : (more ≡ x) ⊎ Contains (flat_map (ends_by p) (triples g)) x → IsEndOf g p x ⊎ (x ≡ more)
    to (inl e) = inr (sym e)
    to (inr c) = let t = flat_map_in (ends_by p) (triples g) x c in inl (of_triple t.0 (has_listed g t.0 t.1) t.2)

    listed : (t : Statement) → t.predicate ≡ p → has g t ≡ true → Contains (t.subject ∷ t.object ∷ []) x → Contains (more ∷ flat_map (ends_by p) (triples g)) x
    listed t e h c =
        let same : same_term t.predicate p ≡ true = ap (λ q. same_term q p) e ∙ term_tied p in
        let there : Contains (ends_by p t) x = subst (λ b. Contains (cond b (t.subject ∷ t.object ∷ []) []) x) (sym same) c in
        in_rest more _ x (in_flat_map (ends_by p) (triples g) t x (listed_of_has g t h) there)

    from : IsEndOf g p x ⊎ (x ≡ more) → Contains (more ∷ flat_map (ends_by p) (triples g)) x
    from (inl (y, inl h)) = listed (record { subject = x; predicate = p; object = y }) refl h (in_first x (y ∷ []))
    from (inl (y, inr h)) = listed (record { subject = y; predicate = p; object = x }) refl h (in_rest y (x ∷ []) x (in_first x []))
    from (inr e) = subst (Contains (more ∷ flat_map (ends_by p) (triples g))) (sym e) (in_first more _)
