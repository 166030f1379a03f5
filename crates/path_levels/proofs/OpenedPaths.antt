-- A path means what its form makes of the paths that it names, at any depth that is enough for it.
use Rattle.std.proofs.Common.{◌≡◌, ℕ, zero, suc, ◌<◌, ◌⊎◌, List, [], ◌∷◌, length, Option, Some, None, slice_get, refl, sym, ap, ◌∙◌, subst}
use Rattle.std.proofs.Math.Path.{fun_ext}
use Rattle.rdf_terms.specs.declared.term.Term.{Term}
use Rattle.rdf_terms.specs.Graph.{Graph}
use Rattle.digraph.specs.Walk.{IsWalk}
use Rattle.shapes_profile.specs.Logic.{SomeOf, EachOf}
use Rattle.shapes_graph.specs.declared.paths.PathForm.{PathForm}
use Rattle.shapes_graph.specs.declared.paths.PathForm.TheVariants.{Predicate, Inverse, Sequence, Alternative, ZeroOrMore, OneOrMore, ZeroOrOne}
use Rattle.shapes_graph.specs.Reach.{ReachBy, ReachIn}

-- the paths that a form names have F
abbrev pub NamesBy : (ℕ → Type 0) → Option PathForm → Type 0
NamesBy F None = Unit {0}
NamesBy F (Some (Predicate i)) = Unit {0}
NamesBy F (Some (Inverse q)) = F q
NamesBy F (Some (Sequence a b)) = F a × F b
NamesBy F (Some (Alternative qs)) = EachOf F qs
NamesBy F (Some (ZeroOrMore q)) = F q
NamesBy F (Some (OneOrMore q)) = F q
NamesBy F (Some (ZeroOrOne q)) = F q

-- path p is nested less than d deep
unfoldable pub NestsIn : ℕ → List PathForm → ℕ → Type 0
NestsIn zero ps p = ⊥
NestsIn (suc d) ps p = NamesBy (λ q. NestsIn d ps q) (slice_get ps p)

by_same : (F : ℕ → Type 0) (R S : ℕ → Term → Term → Type 0) → ((q : ℕ) → F q → R q ≡ S q) → (form : Option PathForm) → NamesBy F form → (g : Graph) (x y : Term) → ReachBy R form g x y ≡ ReachBy S form g x y
by_same F R S e None f g x y = refl
by_same F R S e (Some (Predicate i)) f g x y = refl
by_same F R S e (Some (Inverse q)) f g x y = λ i. e q f i y x
by_same F R S e (Some (Sequence a b)) f g x y = λ i. (z : Term) × e a f.0 i x z × e b f.1 i z y
by_same F R S e (Some (Alternative qs)) f g x y = some qs f
  where
    some : (qs : List ℕ) → EachOf F qs → SomeOf (λ q. R q x y) qs ≡ SomeOf (λ q. S q x y) qs
    some [] f = refl
    some (q ∷ qs) f = let r = some qs f.1 in λ i. e q f.0 i x y ⊎ r i
by_same F R S e (Some (ZeroOrMore q)) f g x y = λ i. (w : List Term) × IsWalk (e q f i) w x y
by_same F R S e (Some (OneOrMore q)) f g x y = λ i. (w : List Term) × (0 < length w) × IsWalk (e q f i) w x y
by_same F R S e (Some (ZeroOrOne q)) f g x y = λ i. (x ≡ y) ⊎ e q f i x y

deeper : (d : ℕ) (ps : List PathForm) (g : Graph) (p : ℕ) → NestsIn d ps p → ReachIn d ps g p ≡ ReachIn (suc d) ps g p
unfolding ReachIn NestsIn
deeper zero ps g p f = absurd f
deeper (suc d) ps g p f = fun_ext (λ x. fun_ext (λ y. by_same (λ q. NestsIn d ps q) (λ q a b. ReachIn d ps g q a b) (λ q a b. ReachIn (suc d) ps g q a b) (λ q h. deeper d ps g q h) (slice_get ps p) f g x y))

-- at any depth that is enough
pub opened : (d : ℕ) (ps : List PathForm) (g : Graph) (p : ℕ) → NestsIn d ps p → (x y : Term) → ReachIn d ps g p x y ≡ ReachBy (λ q a b. ReachIn d ps g q a b) (slice_get ps p) g x y
unfolding ReachIn
opened d ps g p f x y = λ i. deeper d ps g p f i x y
