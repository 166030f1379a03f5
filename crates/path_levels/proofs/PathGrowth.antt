-- A greater graph has more walks, and a path keeps to the nodes of a graph.
use Rattle.std.proofs.Common.{◌≡◌, ℕ, zero, suc, ◌<◌, ◌⊎◌, inl, inr, Bool, true, false, List, [], ◌∷◌, length, Option, Some, None, slice_get, refl, sym, ap, ◌∙◌, subst}
use Rattle.rdf_terms.specs.declared.term.Term.{Term}
use Rattle.rdf_terms.specs.declared.term.Term.TheVariants.{Iri}
use Rattle.rdf_terms.specs.Statement.{Statement}
use Rattle.rdf_terms.specs.Graph.{Graph, has}
use Rattle.digraph.specs.Walk.{IsWalk}
use Rattle.shapes_profile.specs.Logic.{SomeOf}
use Rattle.shapes_graph.specs.declared.paths.PathForm.{PathForm}
use Rattle.shapes_graph.specs.declared.paths.PathForm.TheVariants.{Predicate, Inverse, Sequence, Alternative, ZeroOrMore, OneOrMore, ZeroOrOne}
use Rattle.shapes_graph.specs.Reach.{ReachBy, ReachIn}
use Rattle.repair_problem.specs.Repair.{Within}
use Rattle.path_levels.proofs.Choices.{some_weaker, walk_map}

more_by : (R S : ℕ → Term → Term → Type 0) → ((q : ℕ) (x y : Term) → R q x y → S q x y) → (g h : Graph) → Within g h → (form : Option PathForm) (x y : Term) → ReachBy R form g x y → ReachBy S form h x y
more_by R S f g h w None x y r = r
more_by R S f g h w (Some (Predicate i)) x y r = w _ r
more_by R S f g h w (Some (Inverse q)) x y r = f q y x r
more_by R S f g h w (Some (Sequence a b)) x y r = (r.0, f a x r.0 r.1, f b r.0 y r.2)
more_by R S f g h w (Some (Alternative qs)) x y r = some_weaker (λ q. R q x y) (λ q. S q x y) (λ q k. f q x y k) qs r
more_by R S f g h w (Some (ZeroOrMore q)) x y r = (r.0, walk_map (R q) (S q) (f q) r.0 x y r.1)
more_by R S f g h w (Some (OneOrMore q)) x y r = (r.0, r.1, walk_map (R q) (S q) (f q) r.0 x y r.2)
more_by R S f g h w (Some (ZeroOrOne q)) x y r = at r
  where
    at : (x ≡ y) ⊎ R q x y → (x ≡ y) ⊎ S q x y
    at (inl e) = inl e
    at (inr k) = inr (f q x y k)

pub more : (d : ℕ) (ps : List PathForm) (g h : Graph) → Within g h → (p : ℕ) (x y : Term) → ReachIn d ps g p x y → ReachIn d ps h p x y
unfolding ReachIn
more zero ps g h w p x y r = absurd r
more (suc d) ps g h w p x y r = more_by (λ q a b. ReachIn d ps g q a b) (λ q a b. ReachIn d ps h q a b) (λ q a b k. more d ps g h w q a b k) g h w (slice_get ps p) x y r

-- one of the two ends has N only if the other has
abbrev Keeps : (Term → Type 0) → Term → Term → Type 0
Keeps N x y = (N x → N y) × (N y → N x)

module _ (N : Term → Type 0) (g : Graph) (ends : (t : Statement) → has g t ≡ true → N t.subject × N t.object) where
  walk_keeps : (R : Term → Term → Type 0) → ((x y : Term) → R x y → Keeps N x y) → (w : List Term) (x y : Term) → IsWalk R w x y → Keeps N x y
  walk_keeps R f [] x y r = (subst N r, subst N (sym r))
  walk_keeps R f (z ∷ zs) x y r =
      let a = f x z r.0 in
      let b = walk_keeps R f zs z y r.1 in
      (λ n. b.0 (a.0 n), λ n. a.1 (b.1 n))

  keeps_by : (R : ℕ → Term → Term → Type 0) → ((q : ℕ) (x y : Term) → R q x y → Keeps N x y) → (form : Option PathForm) (x y : Term) → ReachBy R form g x y → Keeps N x y
  keeps_by R f None x y r = absurd r
  keeps_by R f (Some (Predicate i)) x y r =
      let e = ends (record { subject = x; predicate = Iri i; object = y }) r in
      (λ n. e.1, λ n. e.0)
  keeps_by R f (Some (Inverse q)) x y r = let k = f q y x r in (k.1, k.0)
  keeps_by R f (Some (Sequence a b)) x y r =
      let k = f a x r.0 r.1 in
      let l = f b r.0 y r.2 in
      (λ n. l.0 (k.0 n), λ n. k.1 (l.1 n))
  keeps_by R f (Some (Alternative qs)) x y r = some qs r
    where
      some : (qs : List ℕ) → SomeOf (λ q. R q x y) qs → Keeps N x y
      some [] r = absurd r
      some (q ∷ qs) r = at r (λ k. some qs k)
        where
          at : R q x y ⊎ SomeOf (λ q. R q x y) qs → (SomeOf (λ q. R q x y) qs → Keeps N x y) → Keeps N x y
          at (inl k) on = f q x y k
          at (inr k) on = on k
  keeps_by R f (Some (ZeroOrMore q)) x y r = walk_keeps (R q) (f q) r.0 x y r.1
  keeps_by R f (Some (OneOrMore q)) x y r = walk_keeps (R q) (f q) r.0 x y r.2
  keeps_by R f (Some (ZeroOrOne q)) x y r = at r
    where
      at : (x ≡ y) ⊎ R q x y → Keeps N x y
      at (inl e) = (subst N e, subst N (sym e))
      at (inr k) = f q x y k

  pub keeps : (d : ℕ) (ps : List PathForm) (p : ℕ) (x y : Term) → ReachIn d ps g p x y → Keeps N x y
  unfolding ReachIn
  keeps zero ps p x y r = absurd r
  keeps (suc d) ps p x y r = keeps_by (λ q a b. ReachIn d ps g q a b) (λ q a b k. keeps d ps q a b k) (slice_get ps p) x y r
