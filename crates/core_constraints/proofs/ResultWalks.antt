-- The results of a data graph are those of the constraints of the shapes to which walks lead from its focus nodes.
use Rattle.std.proofs.Common.{◌≡◌, ◌↔◌, ◌⊎◌, inl, inr, ℕ, zero, suc, ◌<◌, List, [], ◌∷◌, Contains, Option, Some, None, refl, sym, subst, arith}
use Rattle.digraph.specs.Walk.{IsWalk}
use Rattle.rdf_terms.specs.declared.term.Term.{Term}
use Rattle.rdf_terms.specs.Graph.{Graph}
use Rattle.rdf_terms.proofs.Members.{in_first}
use Rattle.path_eval.proofs.Searches.{IsFound}
use Rattle.shapes_graph.specs.declared.constraints.Constraint.{Constraint}
use Rattle.shapes_graph.specs.declared.constraints.Kind.{Kind}
use Rattle.shapes_graph.specs.declared.constraints.Kind.TheVariants as kind
use Rattle.shapes_graph.specs.Constraints.{constraint_at, constraints_of, shapes_of_kind}
use Rattle.shapes_graph.specs.Forms.{Form, Every, Nested, Closing, Least, Most, Having, Same, Unique, form_of}
use Rattle.shapes_graph.specs.Conformance.{OfConstraint, ConformsTo, shape_levels}
use Rattle.shapes_graph.specs.Reach.{IsValue}
use Rattle.shapes_graph.specs.Results.{ResultRow, Frame, IsRowBy, IsRowOf, IsRowIn, IsResult, frame_of}
use Rattle.shapes_graph.specs.Targets.{IsFocus}
use Rattle.core_constraints.specs.Levels.{level}
use Rattle.core_constraints.specs.RowLists.{IsNoRow}
use Rattle.core_constraints.specs.Validations.{Leads}
use Rattle.core_constraints.proofs.Opened.{IsRanked}

-- only sh:property leads to another shape
pub nested_property : (k : Kind) (u : ℕ) → form_of k ≡ Nested u → k ≡ kind.Property u
nested_property (kind.Property v) u e = cc
nested_property k u e = cc

module _ (g : Graph) (C : ℕ → Term → Type 0) where
  -- a row of another shape, or an own one
  row_cases : (N : ℕ → Term → ResultRow → Type 0) (V : Term → Type 0) (x : Term) (fr : Frame) (f : Form) (r : ResultRow) → IsRowBy g C N V x fr f r → IsRowBy g C IsNoRow V x fr f r ⊎ ((u : ℕ) × (y : Term) × (f ≡ Nested u) × V y × N u y r)
  row_cases N V x fr (Every t) r w = inl w
  row_cases N V x fr (Nested u) r w = inr (u, w.0, refl, w.1, w.2)
  row_cases N V x fr (Closing on allowed) r w = inl w
  row_cases N V x fr (Least n t) r w = inl w
  row_cases N V x fr (Most n t) r w = inl w
  row_cases N V x fr (Having o) r w = inl w
  row_cases N V x fr (Same q) r w = inl w
  row_cases N V x fr (Unique on) r w = inl w

  row_own : (N : ℕ → Term → ResultRow → Type 0) (V : Term → Type 0) (x : Term) (fr : Frame) (f : Form) (r : ResultRow) → IsRowBy g C IsNoRow V x fr f r → IsRowBy g C N V x fr f r
  row_own N V x fr (Every t) r w = w
  row_own N V x fr (Nested u) r w = absurd w.2
  row_own N V x fr (Closing on allowed) r w = w
  row_own N V x fr (Least n t) r w = w
  row_own N V x fr (Most n t) r w = w
  row_own N V x fr (Having o) r w = w
  row_own N V x fr (Same q) r w = w
  row_own N V x fr (Unique on) r w = w

module _ (s g : Graph) where
  -- r is a result of one of the shape's own constraints
  abbrev pub IsOwn : ℕ × Term → ResultRow → Type 0
  IsOwn p r = IsRowOf s g IsNoRow p.0 p.1 r (constraints_of s p.0)

  abbrev pub IsFocused : ℕ × Term → Type 0
  IsFocused p = IsFocus s p.0 g p.1

  abbrev IsRowOfConstraint : (ℕ → Term → ResultRow → Type 0) → ℕ → Term → ResultRow → ℕ → Option Constraint → Type 0
  IsRowOfConstraint N n x r i o = OfConstraint o (λ c. IsRowBy g (λ u y. ConformsTo s g u y) N (IsValue s c.shape g x) x (frame_of s n i x) (form_of c.kind) r)

  module _ (ranked : IsRanked s) where
    own_all : (N : ℕ → Term → ResultRow → Type 0) (n : ℕ) (x : Term) (r : ResultRow) (o : Option (List ℕ)) → constraints_of s n ≡ o → IsRowOf s g IsNoRow n x r o → IsRowOf s g N n x r o
    own_all N n x r None e w = w
    own_all N n x r (Some is) e w =
        let i = w.1.0 in
        let c = ranked.own n i is e w.1.1 in (
          w.0,
          (
            i,
            w.1.1,
            subst (IsRowOfConstraint N n x r i) (sym c.1)
                (row_own g (λ u y. ConformsTo s g u y) N (IsValue s c.0.shape g x) x (frame_of s n i x) (form_of c.0.kind) r (subst (IsRowOfConstraint IsNoRow n x r i) c.1 w.1.2)),
          ),
        )

    split : (N : ℕ → Term → ResultRow → Type 0) (n : ℕ) (x : Term) (r : ResultRow) (o : Option (List ℕ)) → constraints_of s n ≡ o → IsRowOf s g N n x r o → IsRowOf s g IsNoRow n x r o ⊎ ((u : ℕ) × (y : Term) × Leads s g (n, x) (u, y) × N u y r)
    split N n x r None e w = absurd w
    split N n x r (Some is) e w = at (row_cases g (λ u y. ConformsTo s g u y) N (IsValue s c.0.shape g x) x (frame_of s n i x) (form_of c.0.kind) r (subst (IsRowOfConstraint N n x r i) c.1 w.1.2))
      where
        i : ℕ
        i = w.1.0

        c : (c : Constraint) × (constraint_at s i ≡ Some c) × (c.shape ≡ n)
        c = ranked.own n i is e w.1.1

        at : IsRowBy g (λ u y. ConformsTo s g u y) IsNoRow (IsValue s c.0.shape g x) x (frame_of s n i x) (form_of c.0.kind) r ⊎ ((u : ℕ) × (y : Term) × (form_of c.0.kind ≡ Nested u) × IsValue s c.0.shape g x y × N u y r)
            → IsRowOf s g IsNoRow n x r (Some is) ⊎ ((u : ℕ) × (y : Term) × Leads s g (n, x) (u, y) × N u y r)
        at (inl k) = inl (w.0, (i, w.1.1, subst (IsRowOfConstraint IsNoRow n x r i) (sym c.1) k))
        at (inr k) = inr (
          k.0,
          k.1,
          record {
            active = w.0;
            place = i;
            own = (is, e, w.1.1);
            nested = subst (λ o. OfConstraint o (λ c. c.kind ≡ kind.Property k.0)) (sym c.1) (nested_property c.0.kind k.0 k.2);
            value = subst (λ m. IsValue s m g x k.1) c.2 k.3;
          },
          k.4,
        )

    -- the constraint by which one leads to the other
    constraint_of_lead : (n : ℕ) (x : Term) (u : ℕ) (y : Term) → (l : Leads s g (n, x) (u, y)) → (c : Constraint) × (constraint_at s l.place ≡ Some c) × (c.shape ≡ n) × (c.kind ≡ kind.Property u)
    constraint_of_lead n x u y l =
        let c = ranked.own n l.place l.own.0 l.own.1 l.own.2 in
        (c.0, c.1, c.2, subst (λ o. OfConstraint o (λ c. c.kind ≡ kind.Property u)) c.1 l.nested)

    falls : (n : ℕ) (x : Term) (u : ℕ) (y : Term) → Leads s g (n, x) (u, y) → level s u < level s n
    falls n x u y l =
        let c = constraint_of_lead n x u y l in
        let there : Contains (shapes_of_kind c.0.kind) u = subst (λ k. Contains (shapes_of_kind k) u) (sym c.3) (in_first u []) in
        subst (λ m. level s u < level s m) c.2 ((ranked.stated l.place c.0 c.1).lower u there).1

    lead : (N : ℕ → Term → ResultRow → Type 0) (n : ℕ) (x : Term) (u : ℕ) (y : Term) (r : ResultRow) → Leads s g (n, x) (u, y) → N u y r → IsRowOf s g N n x r (constraints_of s n)
    lead N n x u y r l h =
        let c = constraint_of_lead n x u y l in
        let row : IsRowBy g (λ u y. ConformsTo s g u y) N (IsValue s c.0.shape g x) x (frame_of s n l.place x) (form_of c.0.kind) r = subst (λ k. IsRowBy g (λ u y. ConformsTo s g u y) N (IsValue s c.0.shape g x) x (frame_of s n l.place x) (form_of k) r) (sym c.3) (y, subst (λ m. IsValue s m g x y) (sym c.2) l.value, h) in
        subst (λ o. IsRowOf s g N n x r o) (sym l.own.1) (l.active, (l.place, l.own.2, subst (IsRowOfConstraint N n x r l.place) (sym c.1) row))

    deeper : (d e n : ℕ) (x : Term) (r : ResultRow) → level s n < e → IsRowIn d s g n x r → IsRowIn e s g n x r
    unfolding IsRowIn
    deeper zero e n x r l w = absurd w
    deeper (suc d) zero n x r l w = absurd (omega arith)
    deeper (suc d) (suc e) n x r l w = at (λ u y k. deeper d e u y r k) (split (λ u y q. IsRowIn d s g u y q) n x r (constraints_of s n) refl w)
      where
        at : ((u : ℕ) (y : Term) → level s u < e → IsRowIn d s g u y r → IsRowIn e s g u y r) → IsRowOf s g IsNoRow n x r (constraints_of s n) ⊎ ((u : ℕ) × (y : Term) × Leads s g (n, x) (u, y) × IsRowIn d s g u y r)
            → IsRowOf s g (λ u y q. IsRowIn e s g u y q) n x r (constraints_of s n)
        at more (inl k) = own_all (λ u y q. IsRowIn e s g u y q) n x r (constraints_of s n) refl k
        at more (inr k) = let f = falls n x k.0 k.1 k.2 in lead (λ u y q. IsRowIn e s g u y q) n x k.0 k.1 r k.2 (more k.0 k.1 (omega (arith, f, l)) k.3)

    opens : (d : ℕ) → ((u : ℕ) → level s u < d) → (n : ℕ) (x : Term) (r : ResultRow) → IsRowIn d s g n x r ↔ IsRowOf s g (λ u y q. IsRowIn d s g u y q) n x r (constraints_of s n)
    unfolding IsRowIn
    opens d all n x r = (λ w. deeper d (suc d) n x r (let h = all n in omega (arith, h)) w, λ w. deeper (suc d) d n x r (all n) w)

    pub rows_open : (n : ℕ) (x : Term) (r : ResultRow) → IsRowIn shape_levels s g n x r ↔ IsRowOf s g (λ u y q. IsRowIn shape_levels s g u y q) n x r (constraints_of s n)
    rows_open n x r = opens shape_levels ranked.shallow n x r

    -- a row of a shape is an own one of a shape to which a walk leads
    to_walk : (d : ℕ) (p : ℕ × Term) (r : ResultRow) → IsRowIn d s g p.0 p.1 r → (q : ℕ × Term) × ((w : List (ℕ × Term)) × IsWalk (Leads s g) w p q) × IsOwn q r
    unfolding IsRowIn
    to_walk zero p r h = absurd h
    to_walk (suc d) p r h = at (λ q k. to_walk d q r k) (split (λ u y q. IsRowIn d s g u y q) p.0 p.1 r (constraints_of s p.0) refl h)
      where
        at : ((q : ℕ × Term) → IsRowIn d s g q.0 q.1 r → (z : ℕ × Term) × ((w : List (ℕ × Term)) × IsWalk (Leads s g) w q z) × IsOwn z r)
            → IsRowOf s g IsNoRow p.0 p.1 r (constraints_of s p.0) ⊎ ((u : ℕ) × (y : Term) × Leads s g (p.0, p.1) (u, y) × IsRowIn d s g u y r)
            → (q : ℕ × Term) × ((w : List (ℕ × Term)) × IsWalk (Leads s g) w p q) × IsOwn q r
        at more (inl k) = (p, ([], refl), k)
        at more (inr k) = let m = more (k.0, k.1) k.3 in (m.0, ((k.0, k.1) ∷ m.1.0, (k.2, m.1.1)), m.2)

    from_walk : (w : List (ℕ × Term)) (p q : ℕ × Term) (r : ResultRow) → IsWalk (Leads s g) w p q → IsOwn q r → IsRowIn shape_levels s g p.0 p.1 r
    from_walk [] p q r e own = (rows_open p.0 p.1 r).1 (own_all (λ u y q. IsRowIn shape_levels s g u y q) p.0 p.1 r (constraints_of s p.0) refl (subst (λ (z : ℕ × Term). IsOwn z r) (sym e) own))
    from_walk (z ∷ zs) p q r k own = (rows_open p.0 p.1 r).1 (lead (λ u y q. IsRowIn shape_levels s g u y q) p.0 p.1 z.0 z.1 r k.0 (from_walk zs z q r k.1 own))

    pub result_walks : (r : ResultRow) → IsResult s g r ↔ ((q : ℕ × Term) × IsFound (Leads s g) IsFocused q × IsOwn q r)
    unfolding IsResult
    result_walks r = (to, λ h. (h.1.0.0, h.1.0.1, h.1.1, from_walk h.1.2.0 h.1.0 h.0 r h.1.2.1 h.2))
      where
        to : (n : ℕ) × (x : Term) × IsFocus s n g x × IsRowIn shape_levels s g n x r → (q : ℕ × Term) × IsFound (Leads s g) IsFocused q × IsOwn q r
        to h = let k = to_walk shape_levels (h.0, h.1) r h.3 in (k.0, ((h.0, h.1), h.2, k.1), k.2)
