-- The objects of the triples with a subject and a predicate, which are its values: whether there is
-- one or none, and how many there are.
use Rattle.std.proofs.Common.{◌≡◌, ℕ, zero, suc, ◌≤◌, List, [], ◌∷◌, map, length, slice_index_or, Contains, refl, sym, ap, ◌∙◌, subst, arith}
use Rattle.rdf_terms.specs.declared.term.Term.{Term}
use Rattle.rdf_terms.specs.Statement.{Statement}
use Rattle.rdf_terms.specs.Graph.{Graph, triples_of}
use Rattle.rdf_terms.specs.Members.{InGraph, IsListOf, IsCount}
use Rattle.rdf_terms.proofs.Members.{in_none, in_first, in_rest, in_map, map_in}
use Rattle.rdf_terms.proofs.Counting.{IsCount-rising}
use Rattle.rdf_terms.proofs.Keys.{in_triples_of, triples_of_in, none_in, objects, objects_of_rise, objects_differ}

length-map : {X Y : Type 0} (f : X → Y) (xs : List X) → length (map f xs) ≡ length xs
length-map f [] = refl
length-map f (x ∷ xs) = ap (λ n. suc n) (length-map f xs)

module _ (g : Graph) (s p : Term) where
  -- the objects are exactly the values
  pub IsListOf-objects : IsListOf (λ y. InGraph g s p y) (objects (triples_of g s p))
  IsListOf-objects y = (to, from)
    where
      to : Contains (objects (triples_of g s p)) y → InGraph g s p y
      to h = let t = map_in (λ (t : Statement). t.object) (triples_of g s p) y h in subst (InGraph g s p) t.2 (triples_of_in g s p t.0 t.1)

      from : InGraph g s p y → Contains (objects (triples_of g s p)) y
      from h = in_map (λ (t : Statement). t.object) (triples_of g s p) _ (in_triples_of g s p y h)

  -- there are as many values as triples
  pub counted : IsCount (λ y. InGraph g s p y) (length (triples_of g s p))
  counted = subst (IsCount (λ y. InGraph g s p y)) (length-map _ (triples_of g s p)) (IsCount-rising _ (objects (triples_of g s p)) (objects_of_rise g s p) IsListOf-objects)

  -- at most one triple, and at most one value
  pub same_values : length (triples_of g s p) ≤ 1 → (m n : Term) → InGraph g s p m → InGraph g s p n → m ≡ n
  same_values few m n h k = by (triples_of g s p) few (in_triples_of g s p m h) (in_triples_of g s p n k)
    where
      object_of : (t : Statement) → (y : Term) → Contains (t ∷ []) (record { subject = s; predicate = p; object = y }) → t.object ≡ y
      object_of t y c = let l = c.1 in let same : slice_index_or (t ∷ []) c.0 (record { subject = s; predicate = p; object = y }) ≡ record { subject = s; predicate = p; object = y } = c.2 in alone c.0 (omega arith) same
        where
          alone : (k : ℕ) → k ≡ 0 → slice_index_or (t ∷ []) k (record { subject = s; predicate = p; object = y }) ≡ record { subject = s; predicate = p; object = y } → t.object ≡ y
          alone zero z e = ap (λ (u : Statement). u.object) e
          alone (suc k) z e = absurd (omega arith)

      by : (ts : List Statement) → length ts ≤ 1 → Contains ts (record { subject = s; predicate = p; object = m }) → Contains ts (record { subject = s; predicate = p; object = n }) → m ≡ n
      by [] few c d = absurd (in_none _ c)
      by (t ∷ []) few c d = sym (object_of t m c) ∙ object_of t n d
      by (t ∷ u ∷ us) few c d = absurd (omega arith)

  pub few_triples : ((m n : Term) → InGraph g s p m → InGraph g s p n → m ≡ n) → length (triples_of g s p) ≤ 1
  few_triples same = by (triples_of g s p) refl
    where
      by : (ts : List Statement) → triples_of g s p ≡ ts → length ts ≤ 1
      by [] e = omega arith
      by (t ∷ []) e = omega arith
      by (t ∷ u ∷ us) e =
          let here = λ (v : Statement) (c : Contains (t ∷ u ∷ us) v). triples_of_in g s p v (subst (λ vs. Contains vs v) (sym e) c) in
          absurd (objects_differ g s p t u us e (same t.object u.object (here t (in_first t (u ∷ us))) (here u (in_rest t (u ∷ us) u (in_first u us)))))

  -- no triple, and no value
  pub no_triples : ((o : Term) → ¬ (InGraph g s p o)) → length (triples_of g s p) ≡ 0
  no_triples none = by (triples_of g s p) refl
    where
      by : (ts : List Statement) → triples_of g s p ≡ ts → length ts ≡ 0
      by [] e = refl
      by (t ∷ ts) e = absurd (none t.object (triples_of_in g s p t (subst (λ vs. Contains vs t) (sym e) (in_first t ts))))

  pub no_values : length (triples_of g s p) ≡ 0 → (o : Term) → ¬ (InGraph g s p o)
  no_values l o h = none_in g s p o (nil (triples_of g s p) l) h
    where
      nil : (ts : List Statement) → length ts ≡ 0 → ts ≡ []
      nil [] e = refl
      nil (t ∷ ts) e = absurd (omega arith)
