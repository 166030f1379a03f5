-- Subclasses are reached against the triples, and the test of an instance says what an instance is.
use Rattle.std.proofs.Common.{◌≡◌, ◌↔◌, ℕ, zero, suc, ◌≤◌, ◌⊎◌, inl, inr, true, ◌&&◌, IsTrue, List, [], ◌∷◌, ◌++◌, map, length, Contains, Option, Some, refl, sym, ap, ◌∙◌, subst, arith}
use Rattle.std.proofs.lemmas.List.{length-map}
use Rattle.std.specs.List.{list_any, filter, flat_map}
use Rattle.rdf_terms.specs.declared.term.Term.{Term}
use Rattle.rdf_terms.specs.Statement.{Statement}
use Rattle.rdf_terms.specs.Graph.{Graph, triples}
use Rattle.rdf_terms.specs.Nodes.{Nodes, terms}
use Rattle.rdf_terms.specs.Members.{InGraph, IsSetOf}
use Rattle.rdf_terms.specs.Vocab.Rdf as rdf
use Rattle.rdf_terms.specs.Vocab.Rdfs as rdfs
use Rattle.rdf_terms.proofs.Bools.{both_left, both_right, both_true, either_left, either_right, either_of}
use Rattle.rdf_terms.proofs.Orders.{same_term as equal_terms, term_tied}
use Rattle.rdf_terms.proofs.GraphLaws.{has_listed, listed_of_has}
use Rattle.rdf_terms.proofs.NodesLaws.{terms_is}
use Rattle.rdf_terms.proofs.Members.{in_none, in_first, in_rest, in_cases, in_map, map_in, in_filter, filter_in, in_flat_map, flat_map_in}
use Rattle.rdf_terms.proofs.Values.{IsListOf-objects}
use Rattle.digraph.specs.Walk.{IsWalk}
use Rattle.digraph.specs.Reach.{IsSuccessor, IsReached}
use Rattle.digraph.proofs.WalkLaws.{walk_more}
use Rattle.digraph.proofs.ShortWalks.{short_walk}
use Rattle.rdf_navigation.specs.Values.{same_term, values, subjects}
use Rattle.rdf_navigation.specs.Instances.{IsSubclass, IsInstance, leads_to, is_instance}
use Rattle.rdf_navigation.proofs.PropertyLaws.{any_in, in_any}

-- the subjects of a value are exactly the terms that have it
pub subjects_are : (g : Graph) (p y x : Term) → Contains (subjects g p y) x ↔ InGraph g x p y
subjects_are g p y x = (to, from)
  where
    to : Contains (subjects g p y) x → InGraph g x p y
    to c =
        let m = map_in (λ (t : Statement). t.subject) (filter (λ (t : Statement). same_term t.predicate p && same_term t.object y) (triples g)) x c in
        let f = filter_in (λ (t : Statement). same_term t.predicate p && same_term t.object y) (triples g) m.0 m.1 in
        let h : InGraph g m.0.subject m.0.predicate m.0.object = has_listed g m.0 f.0 in
        let h1 : InGraph g m.0.subject p m.0.object = subst (λ q. InGraph g m.0.subject q m.0.object) (equal_terms m.0.predicate p (both_left _ _ f.1)) h in
        let h2 : InGraph g m.0.subject p y = subst (λ o. InGraph g m.0.subject p o) (equal_terms m.0.object y (both_right (same_term m.0.predicate p) _ f.1)) h1 in
        subst (λ z. InGraph g z p y) m.2 h2

    from : InGraph g x p y → Contains (subjects g p y) x
    from h =
        let t : Statement = record { subject = x; predicate = p; object = y } in
        in_map (λ (u : Statement). u.subject) _ t (in_filter (λ (u : Statement). same_term u.predicate p && same_term u.object y) (triples g) t (listed_of_has g t h) (both_true _ _ (term_tied p) (term_tied y)))

-- a walk read backwards
pub walk_turned : {X : Type 0} (R : X → X → Type 0) (S : X → X → Type 0) → ((a b : X) → R a b → S b a) → (zs : List X) (x y : X) → IsWalk R zs x y → (us : List X) × IsWalk S us y x
walk_turned R S turn [] x y w = ([], sym w)
walk_turned R S turn (z ∷ zs) x y w = let r = walk_turned R S turn zs z y w.1 in (r.0 ++ x ∷ [], walk_more S r.0 y z x r.1 (turn x z w.0))

module _ (g : Graph) where
  -- the classes right below a class
  abbrev pub below : Term → Option (List Term)
  below c = Some (subjects g rdfs.sub_class_of c)

  abbrev Above : Term → Term → Type 0
  Above x y = InGraph g x rdfs.sub_class_of y

  below_above : (c b : Term) → IsSuccessor below c b → Above b c
  below_above c b s = let same : subjects g rdfs.sub_class_of c ≡ s.0 = cc in (subjects_are g rdfs.sub_class_of c b).0 (subst (λ ts. Contains ts b) (sym same) s.2)

  above_below : (b c : Term) → Above b c → IsSuccessor below c b
  above_below b c h = (subjects g rdfs.sub_class_of c, refl, (subjects_are g rdfs.sub_class_of c b).1 h)

  -- what is reached along this relation from a class is its subclasses
  pub subclasses_are : (c b : Term) → IsReached below (c ∷ []) b ↔ IsSubclass g b c
  subclasses_are c b = (to, λ h. (c, in_first c [], walk_turned Above (IsSuccessor below) above_below h.0 b c h.1))
    where
      to : IsReached below (c ∷ []) b → IsSubclass g b c
      to r = at (in_cases c [] r.0 r.1)
        where
          at : (c ≡ r.0) ⊎ Contains [] r.0 → IsSubclass g b c
          at (inl e) = let t = walk_turned (IsSuccessor below) Above below_above r.2.0 r.0 b r.2.1 in (t.0, subst (IsWalk Above t.0 b) (sym e) t.1)
          at (inr h) = absurd (in_none r.0 h)

  -- the test by steps
  leads_walk : (k : ℕ) (b c : Term) → leads_to k g b c ≡ true → (w : List Term) × IsWalk Above w b c
  leads_walk zero b c e = ([], equal_terms b c e)
  leads_walk (suc k) b c e = at (either_of (same_term b c) _ e) (λ d h. leads_walk k d c h)
    where
      at : (same_term b c ≡ true) ⊎ (list_any (λ d. leads_to k g d c) (values g b rdfs.sub_class_of) ≡ true)
          → ((d : Term) → leads_to k g d c ≡ true → (w : List Term) × IsWalk Above w d c) → (w : List Term) × IsWalk Above w b c
      at (inl s) more = ([], equal_terms b c s)
      at (inr h) more =
          let r = any_in (λ d. leads_to k g d c) (values g b rdfs.sub_class_of) h in
          let w = more r.0 r.2 in
          (r.0 ∷ w.0, ((IsListOf-objects g b rdfs.sub_class_of r.0).0 r.1, w.1))

  same_terms : (b c : Term) → b ≡ c → same_term b c ≡ true
  same_terms b c e = ap (λ z. same_term b z) (sym e) ∙ term_tied b

  walk_leads : (k : ℕ) (w : List Term) (b c : Term) → length w ≤ k → IsWalk Above w b c → leads_to k g b c ≡ true
  walk_leads zero [] b c l h = same_terms b c h
  walk_leads zero (z ∷ zs) b c l h = absurd (omega (arith, l))
  walk_leads (suc k) [] b c l h = either_left (same_term b c) _ (same_terms b c h)
  walk_leads (suc k) (z ∷ zs) b c l h =
      either_right (same_term b c) _ (in_any (λ d. leads_to k g d c) (values g b rdfs.sub_class_of) z ((IsListOf-objects g b rdfs.sub_class_of z).1 h.0) (walk_leads k zs z c (omega (arith, l)) h.1))

  -- each place of a walk is an object
  walk_objects : (w : List Term) (b c : Term) → IsWalk Above w b c → (u : Term) → Contains w u → Contains (map (λ (t : Statement). t.object) (triples g)) u
  walk_objects [] b c h u m = absurd (in_none u m)
  walk_objects (z ∷ zs) b c h u m = at (in_cases z zs u m) (λ d. walk_objects zs z c h.1 u d)
    where
      here : Statement
      here = record { subject = b; predicate = rdfs.sub_class_of; object = z }

      at : (z ≡ u) ⊎ Contains zs u → (Contains zs u → Contains (map (λ (t : Statement). t.object) (triples g)) u) → Contains (map (λ (t : Statement). t.object) (triples g)) u
      at (inl e) more = subst (λ o. Contains (map (λ (t : Statement). t.object) (triples g)) o) e (in_map (λ (t : Statement). t.object) (triples g) here (listed_of_has g here h.0))
      at (inr d) more = more d

  subclass_leads : (b c : Term) → IsSubclass g b c → leads_to (length (triples g)) g b c ≡ true
  subclass_leads b c h =
      let v = short_walk same_term (λ x y e. equal_terms x y e) (λ x. term_tied x) Above places h.0 b c h.1 (λ u m. all u (in_cases b h.0 u m)) in
      let l = v.2 in
      let m = length-map (triples g) (λ (t : Statement). t.object) in
      walk_leads (length (triples g)) v.0 b c (omega (arith, l, m)) v.1
    where
      places : List Term
      places = b ∷ map (λ (t : Statement). t.object) (triples g)

      all : (u : Term) → (b ≡ u) ⊎ Contains h.0 u → Contains (b ∷ map (λ (t : Statement). t.object) (triples g)) u
      all u (inl e) = subst (λ z. Contains (b ∷ map (λ (t : Statement). t.object) (triples g)) z) e (in_first b _)
      all u (inr d) = in_rest b _ u (walk_objects h.0 b c h.1 u d)

  -- the test of an instance is true of the instances
  pub is_instance_is : (x c : Term) → IsTrue (is_instance g x c) ↔ IsInstance g x c
  unfolding is_instance
  is_instance_is x c = (to, from)
    where
      to : list_any (λ b. leads_to (length (triples g)) g b c) (values g x rdf.type_) ≡ true → IsInstance g x c
      to e =
          let r = any_in (λ b. leads_to (length (triples g)) g b c) (values g x rdf.type_) e in
          (r.0, (IsListOf-objects g x rdf.type_ r.0).0 r.1, leads_walk (length (triples g)) r.0 c r.2)

      from : IsInstance g x c → list_any (λ b. leads_to (length (triples g)) g b c) (values g x rdf.type_) ≡ true
      from h = in_any (λ b. leads_to (length (triples g)) g b c) (values g x rdf.type_) h.0 ((IsListOf-objects g x rdf.type_ h.0).1 h.1) (subclass_leads h.0 c h.2)

  -- the subjects of rdf:type with a subclass are the instances
  pub instances_are : (n : Nodes) (c : Term) → IsSetOf (λ b. IsSubclass g b c) n → (x : Term) → Contains (flat_map (λ b. subjects g rdf.type_ b) (terms n)) x ↔ IsInstance g x c
  instances_are n c all x = (
    λ h. let r = flat_map_in (λ b. subjects g rdf.type_ b) (terms n) x h in (r.0, (subjects_are g rdf.type_ r.0 x).0 r.2, (all r.0).0 ((terms_is n r.0).1 r.1)),
    λ h. in_flat_map (λ b. subjects g rdf.type_ b) (terms n) h.0 x ((terms_is n h.0).0 ((all h.0).1 h.2)) ((subjects_are g rdf.type_ h.0 x).1 h.1),
  )
