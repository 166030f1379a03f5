-- The focus nodes of a shape are the nodes that its targets select.
use Rattle.std.proofs.Common.{◌≡◌, ◌↔◌, ◌⊎◌, inl, inr, Bool, true, false, cond, IsTrue, List, [], ◌∷◌, ◌++◌, Option, Some, None, option_map, Contains, flat_map, refl, sym, ap, ◌∙◌, subst}
use Rattle.std.specs.Prelude.{option_and_then}
use Rattle.std.specs.List.{filter_map, cons_option, find}
use Rattle.std.proofs.lemmas.Bool.{false≢true}
use Rattle.std.proofs.lemmas.List.Elements.{Contains-append_left, Contains-append_right}
use Rattle.rdf_terms.specs.declared.term.Term.{Term}
use Rattle.rdf_terms.specs.declared.term.Term.TheVariants.{Iri}
use Rattle.rdf_terms.specs.Statement.{Statement}
use Rattle.rdf_terms.specs.Graph.{Graph, triples, has}
use Rattle.rdf_terms.specs.Members.{InGraph}
use Rattle.rdf_terms.specs.Nodes.{IsNodeOf}
use Rattle.rdf_terms.specs.Vocab.Sh as sh
use Rattle.rdf_terms.specs.Vocab.Rdfs as rdfs
use Rattle.rdf_terms.specs.Vocab.Rdf as rdf
use Rattle.rdf_terms.proofs.GraphLaws.{has_listed, listed_of_has}
use Rattle.rdf_terms.proofs.Members.{in_none, in_first, in_rest, in_cases}
use Rattle.rdf_terms.proofs.Orders.{same_term as equal_terms, term_tied}
use Rattle.digraph.proofs.WalkLaws.{walk_keeps}
use Rattle.rdf_navigation.specs.Values.{same_term}
use Rattle.rdf_navigation.specs.Instances.{IsInstance}
use Rattle.shapes_profile.specs.Logic.{SomeOf}
use Rattle.shapes_profile.specs.declared.properties.Property.{Property}
use Rattle.shapes_profile.specs.declared.properties.Property.TheVariants.{TargetNode, TargetClass, TargetSubjectsOf, TargetObjectsOf}
use Rattle.shapes_profile.specs.declared.properties.Row.{Row}
use Rattle.shapes_profile.specs.Properties.{table, iri_of, row_of, property_of}
use Rattle.shapes_profile.specs.Shapes.{is_implicit_class}
use Rattle.shapes_profile.proofs.TableLaws.{row_is}
use Rattle.shapes_graph.specs.declared.targets.Target.{Target}
use Rattle.shapes_graph.specs.declared.targets.Target.TheVariants.{Node, Class, SubjectsOf, ObjectsOf}
use Rattle.shapes_graph.specs.PathForms.{text_of}
use Rattle.shapes_graph.specs.Targets.{target_of, target_by, targets, IsFocusOf}
use Rattle.targets.specs.Selection.{IsSelected, named_nodes}
use Rattle.targets.proofs.ValueLaws.{node_row, class_row, subjects_row, objects_row, node_row_there, class_row_there, subjects_row_there, objects_row_there}

-- some of two lists, of a list that was filtered, of a list with one thing more
pub some_append : {X : Type 0} (P : X → Type 0) (xs ys : List X) → SomeOf P (xs ++ ys) ↔ (SomeOf P xs ⊎ SomeOf P ys)
some_append P [] ys = (λ s. inr s, at)
  where
    at : ⊥ ⊎ SomeOf P ys → SomeOf P ys
    at (inl h) = absurd h
    at (inr h) = h
some_append P (x ∷ xs) ys = (to (some_append P xs ys), from (some_append P xs ys))
  where
    to : SomeOf P (xs ++ ys) ↔ (SomeOf P xs ⊎ SomeOf P ys) → P x ⊎ SomeOf P (xs ++ ys) → (P x ⊎ SomeOf P xs) ⊎ SomeOf P ys
    to e (inl p) = inl (inl p)
    to e (inr s) = by (e.0 s)
      where
        by : SomeOf P xs ⊎ SomeOf P ys → (P x ⊎ SomeOf P xs) ⊎ SomeOf P ys
        by (inl h) = inl (inr h)
        by (inr h) = inr h

    from : SomeOf P (xs ++ ys) ↔ (SomeOf P xs ⊎ SomeOf P ys) → (P x ⊎ SomeOf P xs) ⊎ SomeOf P ys → P x ⊎ SomeOf P (xs ++ ys)
    from e (inl (inl p)) = inl p
    from e (inl (inr h)) = inr (e.1 (inl h))
    from e (inr h) = inr (e.1 (inr h))

some_filtered : {X Y : Type 0} (P : Y → Type 0) (f : X → Option Y) (xs : List X) → SomeOf P (filter_map f xs) → (x : X) × Contains xs x × ((y : Y) × (f x ≡ Some y) × P y)
some_filtered P f [] s = absurd s
some_filtered {X} {Y} P f (x ∷ xs) s = at (f x) refl s (λ h. some_filtered P f xs h)
  where
    at : (o : Option Y) → f x ≡ o → SomeOf P (cons_option o (filter_map f xs)) → (SomeOf P (filter_map f xs) → (z : X) × Contains xs z × ((y : Y) × (f z ≡ Some y) × P y)) → (z : X) × Contains (x ∷ xs) z × ((y : Y) × (f z ≡ Some y) × P y)
    at None e s more = let r = more s in (r.0, in_rest x xs r.0 r.1, r.2)
    at (Some y) e (inl p) more = (x, in_first x xs, (y, e, p))
    at (Some y) e (inr s) more = let r = more s in (r.0, in_rest x xs r.0 r.1, r.2)

filtered_some : {X Y : Type 0} (P : Y → Type 0) (f : X → Option Y) (xs : List X) (x : X) (y : Y) → Contains xs x → f x ≡ Some y → P y → SomeOf P (filter_map f xs)
filtered_some P f [] x y c e p = absurd (in_none x c)
filtered_some {X} {Y} P f (z ∷ zs) x y c e p = at (f z) refl (in_cases z zs x c) (λ d. filtered_some P f zs x y d e p)
  where
    at : (o : Option Y) → f z ≡ o → (z ≡ x) ⊎ Contains zs x → (Contains zs x → SomeOf P (filter_map f zs)) → SomeOf P (cons_option o (filter_map f zs))
    at None q (inl same) more = absurd (let w : None ≡ Some y = sym q ∙ (ap f same ∙ e) in cc)
    at None q (inr d) more = more d
    at (Some u) q (inl same) more = let w : Some y ≡ Some u = sym e ∙ (ap f (sym same) ∙ q) in let v : y ≡ u = cc in inl (subst P v p)
    at (Some u) q (inr d) more = inr (more d)

found_row : (p : Term) (rs : List Row) (r : Row) → find (λ (r : Row). same_term p (iri_of r.property)) rs ≡ Some r → p ≡ iri_of r.property
found_row p [] r e = absurd (let z : None ≡ Some r = e in cc)
found_row p (q ∷ rs) r e = at (same_term p (iri_of q.property)) refl e (λ h. found_row p rs r h)
  where
    at : (b : Bool) → same_term p (iri_of q.property) ≡ b → cond b (Some q) (find (λ (r : Row). same_term p (iri_of r.property)) rs) ≡ Some r → (find (λ (r : Row). same_term p (iri_of r.property)) rs ≡ Some r → p ≡ iri_of r.property) → p ≡ iri_of r.property
    at true b h more = let z : q ≡ r = cc in equal_terms p (iri_of q.property) b ∙ ap (λ (u : Row). iri_of u.property) z
    at false b h more = more h

-- the predicate that is a property is its IRI
pub property_iri : (p : Term) (k : Property) → property_of p ≡ Some k → p ≡ iri_of k
unfolding row_of
property_iri p k e = at (row_of p) refl e
  where
    at : (o : Option Row) → row_of p ≡ o → option_map (λ (r : Row). r.property) o ≡ Some k → p ≡ iri_of k
    at None q h = absurd (let z : None ≡ Some k = h in cc)
    at (Some r) q h = let z : r.property ≡ k = cc in found_row p table r q ∙ ap iri_of z

property_there : (r : Row) → Contains table r → property_of (iri_of r.property) ≡ Some r.property
property_there r c = ap (option_map (λ (r : Row). r.property)) (row_is r c)

module _ (s : Graph) (shape : Term) where
  -- a target that a triple of the shape states
  stated : (t : Statement) (k : Target) → target_by shape t ≡ Some k → (t.subject ≡ shape) × ((p : Property) × (property_of t.predicate ≡ Some p) × (target_of t.object p ≡ Some k))
  stated t k e = at (same_term t.subject shape) refl e
    where
      by : (o : Option Property) → property_of t.predicate ≡ o → option_and_then (target_of t.object) o ≡ Some k → (p : Property) × (property_of t.predicate ≡ Some p) × (target_of t.object p ≡ Some k)
      by None q h = absurd (let z : None ≡ Some k = h in cc)
      by (Some p) q h = (p, q, h)

      at : (b : Bool) → same_term t.subject shape ≡ b → cond b (option_and_then (target_of t.object) (property_of t.predicate)) None ≡ Some k → (t.subject ≡ shape) × ((p : Property) × (property_of t.predicate ≡ Some p) × (target_of t.object p ≡ Some k))
      at true b h = (equal_terms t.subject shape b, by (property_of t.predicate) refl h)
      at false b h = absurd (let z : None ≡ Some k = h in cc)

  -- the target that the triple with such a row states
  states : (r : Row) → Contains table r → (o : Term) → target_by shape (record { subject = shape; predicate = iri_of r.property; object = o }) ≡ target_of o r.property
  states r c o = ap (λ b. cond b (option_and_then (target_of o) (property_of (iri_of r.property))) None) (term_tied shape) ∙ ap (option_and_then (target_of o)) (property_there r c)

  module _ (g : Graph) (x : Term) (subjects_are : (q : Term) → InGraph s shape sh.target_subjects_of q → Iri (text_of q) ≡ q) (objects_are : (q : Term) → InGraph s shape sh.target_objects_of q → Iri (text_of q) ≡ q) where
    by_property : (p : Property) (o : Term) (k : Target) → target_of o p ≡ Some k → InGraph s shape (iri_of p) o → IsSelected g x k → IsFocusOf s shape g x
    by_property TargetNode o k e h i = let z : Node o ≡ k = cc in let own : IsSelected g x (Node o) = subst (IsSelected g x) (sym z) i in inl (subst (InGraph s shape sh.target_node) own h)
    by_property TargetClass o k e h i = let z : Class o ≡ k = cc in let own : IsSelected g x (Class o) = subst (IsSelected g x) (sym z) i in inr (inl (o, h, own))
    by_property TargetSubjectsOf o k e h i =
        let z : SubjectsOf (text_of o) ≡ k = cc in
        let own : IsSelected g x (SubjectsOf (text_of o)) = subst (IsSelected g x) (sym z) i in
        inr (inr (inr (inl (o, own.0, h, subst (λ q. InGraph g x q own.0) (subjects_are o h) own.1))))
    by_property TargetObjectsOf o k e h i =
        let z : ObjectsOf (text_of o) ≡ k = cc in
        let own : IsSelected g x (ObjectsOf (text_of o)) = subst (IsSelected g x) (sym z) i in
        inr (inr (inr (inr (o, own.0, h, subst (λ q. InGraph g own.0 q x) (objects_are o h) own.1))))
    by_property _ o k e h i = absurd (let z : None ≡ Some k = e in cc)

    in_stated : (r : Row) → Contains table r → (o : Term) (k : Target) → target_of o r.property ≡ Some k → InGraph s shape (iri_of r.property) o → IsSelected g x k → SomeOf (IsSelected g x) (filter_map (target_by shape) (triples s))
    in_stated r c o k e h i =
        let t : Statement = record { subject = shape; predicate = iri_of r.property; object = o } in
        filtered_some (IsSelected g x) (target_by shape) (triples s) t k (listed_of_has s t h) (states r c o ∙ e) i

    abbrev implicit : Bool → List Target
    implicit b = cond b (Class shape ∷ []) []

    implicit_to : (b : Bool) → SomeOf (IsSelected g x) (implicit b) → IsTrue b × IsInstance g x shape
    implicit_to true (inl i) = (refl, i)
    implicit_to true (inr i) = absurd i
    implicit_to false i = absurd i

    implicit_from : (b : Bool) → IsTrue b → IsInstance g x shape → SomeOf (IsSelected g x) (implicit b)
    implicit_from true h i = inl i
    implicit_from false h i = absurd (false≢true h)

    -- what some target of the shape selects is a focus node
    pub focus_is : SomeOf (IsSelected g x) (targets s shape) ↔ IsFocusOf s shape g x
    unfolding targets
    focus_is = (λ h. to (both.0 h), λ f. both.1 (from f))
      where
        both : SomeOf (IsSelected g x) (filter_map (target_by shape) (triples s) ++ implicit (is_implicit_class s shape)) ↔ (SomeOf (IsSelected g x) (filter_map (target_by shape) (triples s)) ⊎ SomeOf (IsSelected g x) (implicit (is_implicit_class s shape)))
        both = some_append (IsSelected g x) (filter_map (target_by shape) (triples s)) (implicit (is_implicit_class s shape))

        to : SomeOf (IsSelected g x) (filter_map (target_by shape) (triples s)) ⊎ SomeOf (IsSelected g x) (implicit (is_implicit_class s shape)) → IsFocusOf s shape g x
        to (inl h) =
            let r = some_filtered (IsSelected g x) (target_by shape) (triples s) h in
            let t : Statement = r.0 in
            let k = r.2.0 in
            let own = stated t k r.2.1 in
            let q = property_iri t.predicate own.1.0 own.1.1 in
            let there : InGraph s shape (iri_of own.1.0) t.object = subst (λ (u : Statement). IsTrue (has s u)) (λ j. record { subject = own.0 j; predicate = q j; object = t.object }) (has_listed s t r.1) in
            by_property own.1.0 t.object k own.1.2 there r.2.2
        to (inr h) = let i = implicit_to (is_implicit_class s shape) h in inr (inr (inl (i.0, i.1)))

        from : IsFocusOf s shape g x → SomeOf (IsSelected g x) (filter_map (target_by shape) (triples s)) ⊎ SomeOf (IsSelected g x) (implicit (is_implicit_class s shape))
        from (inl h) = inl (in_stated node_row node_row_there x (Node x) refl h refl)
        from (inr (inl h)) = inl (in_stated class_row class_row_there h.0 (Class h.0) refl h.1 h.2)
        from (inr (inr (inl h))) = inr (implicit_from (is_implicit_class s shape) h.0 h.1)
        from (inr (inr (inr (inl h)))) = inl (in_stated subjects_row subjects_row_there h.0 (SubjectsOf (text_of h.0)) refl h.2 (h.1, subst (λ q. InGraph g x q h.1) (sym (subjects_are h.0 h.2)) h.3))
        from (inr (inr (inr (inr h)))) = inl (in_stated objects_row objects_row_there h.0 (ObjectsOf (text_of h.0)) refl h.2 (h.1, subst (λ q. InGraph g h.1 q x) (sym (objects_are h.0 h.2)) h.3))

module _ (g : Graph) where
  -- an instance is a node
  pub instance_node : (x c : Term) → IsInstance g x c → IsNodeOf g x
  instance_node x c h = (record { subject = x; predicate = rdf.type_; object = h.0 }, h.1, inl refl)

  -- so is its class
  pub class_node : (x c : Term) → IsInstance g x c → IsNodeOf g c
  class_node x c h =
      walk_keeps (λ a b. InGraph g a rdfs.sub_class_of b) (IsNodeOf g) (λ u v _ e. (record { subject = u; predicate = rdfs.sub_class_of; object = v }, e, inr refl)) h.2.0 h.0 c h.2.1
      (record { subject = x; predicate = rdf.type_; object = h.0 }, h.1, inr refl)

  -- what a target selects is a node, or is named
  selected_there : (x : Term) (k : Target) → IsSelected g x k → IsNodeOf g x ⊎ Contains (named_nodes k) x
  selected_there x (Node y) e = inr (subst (Contains (y ∷ [])) e (in_first y []))
  selected_there x (Class c) i = inl (instance_node x c i)
  selected_there x (SubjectsOf p) i = inl (record { subject = x; predicate = Iri p; object = i.0 }, i.1, inl refl)
  selected_there x (ObjectsOf p) i = inl (record { subject = i.0; predicate = Iri p; object = x }, i.1, inr refl)

  pub some_there : (x : Term) (ks : List Target) → SomeOf (IsSelected g x) ks → IsNodeOf g x ⊎ Contains (flat_map named_nodes ks) x
  some_there x [] s = absurd s
  some_there x (k ∷ ks) s = at s (λ r. some_there x ks r)
    where
      first : IsNodeOf g x ⊎ Contains (named_nodes k) x → IsNodeOf g x ⊎ Contains (named_nodes k ++ flat_map named_nodes ks) x
      first (inl h) = inl h
      first (inr c) = inr (Contains-append_left (named_nodes k) (flat_map named_nodes ks) x c)

      later : IsNodeOf g x ⊎ Contains (flat_map named_nodes ks) x → IsNodeOf g x ⊎ Contains (named_nodes k ++ flat_map named_nodes ks) x
      later (inl h) = inl h
      later (inr c) = inr (Contains-append_right (named_nodes k) (flat_map named_nodes ks) x c)

      at : IsSelected g x k ⊎ SomeOf (IsSelected g x) ks → (SomeOf (IsSelected g x) ks → IsNodeOf g x ⊎ Contains (flat_map named_nodes ks) x) → IsNodeOf g x ⊎ Contains (named_nodes k ++ flat_map named_nodes ks) x
      at (inl i) more = first (selected_there x k i)
      at (inr r) more = later (more r)
