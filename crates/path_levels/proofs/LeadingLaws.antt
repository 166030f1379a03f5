-- The test of where a path leads answers what the definition says.
use Rattle.std.proofs.Common.{◌≡◌, ℕ, zero, suc, ◌+◌, ◌<◌, ◌≤◌, ◌⊎◌, inl, inr, Bool, true, false, ◌&&◌, ◌||◌, List, [], ◌∷◌, length, Contains, Option, Some, None, slice_get, refl, sym, ap, ◌∙◌, subst, arith}
use Rattle.std.specs.List.{list_any}
use Rattle.std.proofs.lemmas.Bool.{false≢true}
use Rattle.rdf_terms.specs.declared.term.Term.{Term}
use Rattle.rdf_terms.specs.declared.term.Term.TheVariants.{Iri}
use Rattle.rdf_terms.specs.Statement.{Statement}
use Rattle.rdf_terms.specs.Graph.{Graph, has}
use Rattle.rdf_terms.proofs.Orders.{term_tied, same_term as equal_terms}
use Rattle.rdf_terms.proofs.Members.{in_first, in_rest}
use Rattle.rdf_navigation.specs.Values.{same_term}
use Rattle.rdf_navigation.proofs.PropertyLaws.{any_in, in_any}
use Rattle.digraph.specs.Walk.{IsWalk}
use Rattle.digraph.proofs.ShortWalks.{walk_visits, short_walk}
use Rattle.shapes_profile.specs.Logic.{SomeOf}
use Rattle.shapes_graph.specs.declared.paths.PathForm.{PathForm}
use Rattle.shapes_graph.specs.declared.paths.PathForm.TheVariants.{Predicate, Inverse, Sequence, Alternative, ZeroOrMore, OneOrMore, ZeroOrOne}
use Rattle.shapes_graph.specs.Reach.{ReachBy, ReachIn}
use Rattle.path_levels.specs.LeadingTests.{walks, leads_by, leads_in}
use Rattle.path_levels.proofs.Choices.{both_left, both_right, both, or_right, or_cases}
use Rattle.path_levels.proofs.PathGrowth.{keeps}

module _ (us : List Term) where
  walks_sound : (T : Term → Term → Bool) (R : Term → Term → Type 0) → ((x y : Term) → T x y ≡ true → R x y) → (k : ℕ) (x y : Term) → walks us T k x y ≡ true → (w : List Term) × IsWalk R w x y
  walks_sound T R f zero x y h = ([], equal_terms x y h)
  walks_sound T R f (suc k) x y h = at (or_cases _ _ h) (λ z e. walks_sound T R f k z y e)
    where
      at : (same_term x y ≡ true) ⊎ (list_any (λ z. T x z && walks us T k z y) us ≡ true) → ((z : Term) → walks us T k z y ≡ true → (w : List Term) × IsWalk R w z y) → (w : List Term) × IsWalk R w x y
      at (inl e) more = ([], equal_terms x y e)
      at (inr e) more =
          let r = any_in (λ z. T x z && walks us T k z y) us e in
          let w = more r.0 (both_right _ _ r.2) in
          (r.0 ∷ w.0, (f x r.0 (both_left _ _ r.2), w.1))

  sound_by : (T : ℕ → Term → Term → Bool) (R : ℕ → Term → Term → Type 0) → ((q : ℕ) (x y : Term) → T q x y ≡ true → R q x y) → (g : Graph) (form : Option PathForm) (x y : Term) → leads_by us T form g x y ≡ true → ReachBy R form g x y
  sound_by T R f g None x y h = absurd (false≢true h)
  sound_by T R f g (Some (Predicate i)) x y h = h
  sound_by T R f g (Some (Inverse q)) x y h = f q y x h
  sound_by T R f g (Some (Sequence a b)) x y h =
      let r = any_in (λ z. T a x z && T b z y) us h in
      (r.0, f a x r.0 (both_left _ _ r.2), f b r.0 y (both_right _ _ r.2))
  sound_by T R f g (Some (Alternative qs)) x y h = some qs h
    where
      some : (qs : List ℕ) → list_any (λ q. T q x y) qs ≡ true → SomeOf (λ q. R q x y) qs
      some [] h = absurd (false≢true h)
      some (q ∷ qs) h = at (or_cases _ _ h) (λ k. some qs k)
        where
          at : (T q x y ≡ true) ⊎ (list_any (λ q. T q x y) qs ≡ true) → (list_any (λ q. T q x y) qs ≡ true → SomeOf (λ q. R q x y) qs) → SomeOf (λ q. R q x y) (q ∷ qs)
          at (inl k) more = inl (f q x y k)
          at (inr k) more = inr (more k)
  sound_by T R f g (Some (ZeroOrMore q)) x y h = walks_sound (T q) (R q) (f q) (length us) x y h
  sound_by T R f g (Some (OneOrMore q)) x y h =
      let r = any_in (λ z. T q x z && walks us (T q) (length us) z y) us h in
      let w : (w : List Term) × IsWalk (R q) w r.0 y = walks_sound (T q) (R q) (f q) (length us) r.0 y (both_right (T q x r.0) _ r.2) in
      let l : 0 < length (r.0 ∷ w.0) = omega arith in
      (r.0 ∷ w.0, l, (f q x r.0 (both_left _ _ r.2), w.1))
  sound_by T R f g (Some (ZeroOrOne q)) x y h = at (or_cases _ _ h)
    where
      at : (same_term x y ≡ true) ⊎ (T q x y ≡ true) → (x ≡ y) ⊎ R q x y
      at (inl e) = inl (equal_terms x y e)
      at (inr e) = inr (f q x y e)

  pub leads_sound : (d : ℕ) (ps : List PathForm) (g : Graph) (p : ℕ) (x y : Term) → leads_in us d ps g p x y ≡ true → ReachIn d ps g p x y
  unfolding leads_in ReachIn
  leads_sound zero ps g p x y h = absurd (false≢true h)
  leads_sound (suc d) ps g p x y h = sound_by (λ q a b. leads_in us d ps g q a b) (λ q a b. ReachIn d ps g q a b) (λ q a b k. leads_sound d ps g q a b k) g (slice_get ps p) x y h

  abbrev In : Term → Type 0
  In u = Contains us u

  walks_whole : (T : Term → Term → Bool) (R : Term → Term → Type 0) → ((x y : Term) → In x → R x y → T x y ≡ true) → (w : List Term) (k : ℕ) (x y : Term) → length w ≤ k → IsWalk R w x y → ((u : Term) → Contains (x ∷ w) u → In u) → walks us T k x y ≡ true
  walks_whole T R f [] zero x y l h e = subst (λ z. same_term x z ≡ true) h (term_tied x)
  walks_whole T R f [] (suc k) x y l h e = ap (λ b. b || list_any (λ z. T x z && walks us T k z y) us) (subst (λ z. same_term x z ≡ true) h (term_tied x))
  walks_whole T R f (z ∷ zs) zero x y l h e = absurd (omega arith)
  walks_whole T R f (z ∷ zs) (suc k) x y l h e =
      or_right _ _ (in_any (λ z. T x z && walks us T k z y) us z (e z (in_rest x (z ∷ zs) z (in_first z zs)))
      (both _ _ (f x z (e x (in_first x (z ∷ zs))) h.0) (walks_whole T R f zs k z y (omega arith) h.1 (λ u c. e u (in_rest x (z ∷ zs) u c)))))

  -- a walk from a term of the list, whose steps keep to it, is found
  many : (T : Term → Term → Bool) (R : Term → Term → Type 0) → ((x y : Term) → In x → R x y → T x y ≡ true) → ((x y : Term) → R x y → (In x → In y) × (In y → In x)) → (w : List Term) (x y : Term) → In x → IsWalk R w x y → walks us T (length us) x y ≡ true
  many T R f keep w x y n h =
      let stays = λ (u v : Term) (m : In u) (k : R u v). (keep u v k).0 m in
      let s = short_walk same_term equal_terms term_tied R us w x y h (walk_visits R In stays w x y h n) in
      let l = s.2 in
      walks_whole T R f s.0 (length us) x y (omega arith) s.1 (walk_visits R In stays s.0 x y s.1 n)

  module _ (g : Graph) (ends : (t : Statement) → has g t ≡ true → In t.subject × In t.object) where
    whole_by : (T : ℕ → Term → Term → Bool) (R : ℕ → Term → Term → Type 0) → ((q : ℕ) (x y : Term) → In x → R q x y → T q x y ≡ true) → ((q : ℕ) (x y : Term) → R q x y → (In x → In y) × (In y → In x))
        → (form : Option PathForm) (x y : Term) → In x → ReachBy R form g x y → leads_by us T form g x y ≡ true
    whole_by T R f keep None x y n r = absurd r
    whole_by T R f keep (Some (Predicate i)) x y n r = r
    whole_by T R f keep (Some (Inverse q)) x y n r = f q y x ((keep q y x r).1 n) r
    whole_by T R f keep (Some (Sequence a b)) x y n r =
        let m = (keep a x r.0 r.1).0 n in
        in_any (λ z. T a x z && T b z y) us r.0 m (both _ _ (f a x r.0 n r.1) (f b r.0 y m r.2))
    whole_by T R f keep (Some (Alternative qs)) x y n r = some qs r
      where
        some : (qs : List ℕ) → SomeOf (λ q. R q x y) qs → list_any (λ q. T q x y) qs ≡ true
        some [] r = absurd r
        some (q ∷ qs) r = at r (λ k. some qs k)
          where
            at : R q x y ⊎ SomeOf (λ q. R q x y) qs → (SomeOf (λ q. R q x y) qs → list_any (λ q. T q x y) qs ≡ true) → list_any (λ q. T q x y) (q ∷ qs) ≡ true
            at (inl k) more = ap (λ b. b || list_any (λ q. T q x y) qs) (f q x y n k)
            at (inr k) more = or_right _ _ (more k)
    whole_by T R f keep (Some (ZeroOrMore q)) x y n r = many (T q) (R q) (f q) (keep q) r.0 x y n r.1
    whole_by T R f keep (Some (OneOrMore q)) x y n r = at r.0 r.1 r.2
      where
        at : (w : List Term) → 0 < length w → IsWalk (R q) w x y → leads_by us T (Some (OneOrMore q)) g x y ≡ true
        at [] l h = absurd (omega (arith, l))
        at (z ∷ zs) l h =
            let m = (keep q x z h.0).0 n in
            in_any (λ z. T q x z && walks us (T q) (length us) z y) us z m (both _ _ (f q x z n h.0) (many (T q) (R q) (f q) (keep q) zs z y m h.1))
    whole_by T R f keep (Some (ZeroOrOne q)) x y n r = at r
      where
        at : (x ≡ y) ⊎ R q x y → (same_term x y || T q x y) ≡ true
        at (inl e) = ap (λ b. b || T q x y) (subst (λ z. same_term x z ≡ true) e (term_tied x))
        at (inr k) = or_right _ _ (f q x y n k)

    pub leads_whole : (d : ℕ) (ps : List PathForm) (p : ℕ) (x y : Term) → In x → ReachIn d ps g p x y → leads_in us d ps g p x y ≡ true
    unfolding leads_in ReachIn
    leads_whole zero ps p x y n r = absurd r
    leads_whole (suc d) ps p x y n r =
        whole_by (λ q a b. leads_in us d ps g q a b) (λ q a b. ReachIn d ps g q a b) (λ q a b m k. leads_whole d ps q a b m k) (λ q a b k. keeps In g ends d ps q a b k) (slice_get ps p) x y n r
