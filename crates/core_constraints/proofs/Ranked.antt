-- The shapes that a constraint refers to are of lower ranks than its own, and no rank is over 128.
use Rattle.std.proofs.Common.{◌≡◌, ◌⊎◌, inl, inr, ℕ, zero, suc, ◌+◌, ◌<◌, ◌≤◌, ◌&&◌, Bool, true, false, cond, List, [], ◌∷◌, length, Contains, Option, Some, None, slice_get, refl, sym, ap, subst, ◌∙◌, lit<, arith}
use Rattle.std.specs.Prelude.{option_map, option_and_then, unwrap_or, is_some, flat_map, filter_map}
use Rattle.std.specs.List.{enumerate_from, cons_option}
use Rattle.std.proofs.lemmas.Bool.{cases_lt}
use Rattle.std.proofs.lemmas.Option.{slice_get_within, slice_get-map}
use Rattle.std.proofs.lemmas.List.Elements.{Contains-append_left, Contains-append_right}
use Rattle.rdf_terms.specs.declared.term.Term.{Term}
use Rattle.rdf_terms.specs.Statement.{Statement}
use Rattle.rdf_terms.specs.Graph.{Graph, triples}
use Rattle.rdf_terms.specs.Nodes.{nodes_of_list, has_term}
use Rattle.rdf_terms.specs.Members.{InGraph}
use Rattle.rdf_terms.specs.Vocab.Sh as sh
use Rattle.rdf_terms.proofs.GraphLaws.{has_listed}
use Rattle.rdf_terms.proofs.Members.{in_none, in_first, in_cases, in_flat_map, map_in}
use Rattle.rdf_terms.proofs.NodesLaws.{nodes_of_list_is, terms_is, place_of_term, one_place_of_term}
use Rattle.rdf_terms.proofs.Orders.{same_term as same_is}
use Rattle.rdf_terms.proofs.Values.{IsListOf-objects}
use Rattle.rdf_navigation.specs.Values.{same_term, values, first_of, value_of}
use Rattle.rdf_navigation.proofs.PropertyLaws.{same_some, not_missing}
use Rattle.digraph.specs.Depth.{depth_in}
use Rattle.digraph.proofs.DepthLaws.{depth_grows, successor_depth}
use Rattle.shapes_profile.specs.declared.properties.Row.{Row}
use Rattle.shapes_profile.specs.declared.properties.Property.{Property}
use Rattle.shapes_profile.specs.declared.properties.Property.TheVariants as property
use Rattle.shapes_profile.specs.declared.properties.Expected.TheVariants as value
use Rattle.shapes_profile.specs.Properties.{row, table, iri_of, row_of}
use Rattle.shapes_profile.specs.Shapes.{members_or_none, is_true_literal, shapes_in, shape_nodes, shape_terms, shape_at, shape_number}
use Rattle.shapes_profile.specs.References.{siblings, references_of_row, references, shape_references, rank}
use Rattle.shapes_profile.specs.Profile.{IsInProfile, IsOver}
use Rattle.shapes_profile.proofs.ReferenceLaws.{reference_shape}
use Rattle.shapes_profile.proofs.TableLaws.{qualified_shape_row, qualified_shape_there}
use Rattle.shapes_graph.proofs.RowLaws.{row_there}
use Rattle.shapes_graph.proofs.NumberLaws.{place_there, place_absent}
use Rattle.shapes_graph.proofs.NamedShapes.{constraint_within}
use Rattle.shapes_graph.specs.declared.constraints.Kind.{Kind}
use Rattle.shapes_graph.specs.declared.constraints.Kind.TheVariants as kind
use Rattle.shapes_graph.specs.declared.constraints.Constraint.{Constraint}
use Rattle.shapes_graph.specs.PathForms.{text_of}
use Rattle.shapes_graph.specs.Constraints.{shape_numbers, distinct, count, allowed, sibling_numbers, qualified_shape, kind_of, shapes_of_kind, constraint_of, constraint_at, constraints_of, place_of}
use Rattle.core_constraints.specs.Levels.{level, AreLower, AreDistinct, IsStated}
use Rattle.core_constraints.proofs.Decided.{Distinct, in_at}
use Rattle.core_constraints.proofs.Opened.{IsRanked}

-- the table has the rows of the properties that refer to shapes
not_row : Contains table (row property.Not value.Shape false false)
unfolding table
not_row = (24, lit< tt, refl)

node_row : Contains table (row property.Node value.Shape false false)
unfolding table
node_row = (25, lit< tt, refl)

property_row : Contains table (row property.Property value.Shape false false)
unfolding table
property_row = (26, lit< tt, refl)

and_row : Contains table (row property.And value.ListOfShapes false false)
unfolding table
and_row = (28, lit< tt, refl)

or_row : Contains table (row property.Or value.ListOfShapes false false)
unfolding table
or_row = (29, lit< tt, refl)

xone_row : Contains table (row property.Xone value.ListOfShapes false false)
unfolding table
xone_row = (30, lit< tt, refl)

module _ (s : Graph) where
  -- x refers to the shape of this number
  abbrev IsReferred : Term → ℕ → Type 0
  IsReferred x n = (y : Term) × Contains (references s x) y × (shape_number s y ≡ n)

  abbrev AreReferred : Term → List Term → Type 0
  AreReferred x ts = (t : Term) → Contains ts t → Contains (references s x) t

  listed : (x p y : Term) → InGraph s x p y → Contains (values s x p) y
  listed x p y g = (IsListOf-objects s x p y).1 g

  own_value : (x p y : Term) → Contains (values s x p) y → InGraph s x p y
  own_value x p y c = (IsListOf-objects s x p y).0 c

  referred : (r : Row) (x y t : Term) → Contains table r → InGraph s x (iri_of r.property) y → Contains (shapes_in s r.value y) t → Contains (references s x) t
  unfolding references
  referred r x y t there g part =
      Contains-append_left (flat_map (references_of_row s x) table) (siblings s x) t
      (in_flat_map (references_of_row s x) table r t there (in_flat_map (shapes_in s r.value) (values s x (iri_of r.property)) y t (listed x (iri_of r.property) y g) part))

  sibling_referred : (x t : Term) → Contains (siblings s x) t → Contains (references s x) t
  unfolding references
  sibling_referred x t c = Contains-append_right (flat_map (references_of_row s x) table) (siblings s x) t c

  numbers_refer : (x : Term) (ts : List Term) → AreReferred x ts → (n : ℕ) → Contains (shape_numbers s ts) n → IsReferred x n
  numbers_refer x ts h n c = let m = map_in (shape_number s) ts n c in (m.0, h m.0 m.1, m.2)

  first_in : (ys : List Term) (y : Term) → first_of ys ≡ Some y → Contains ys y
  first_in [] y e = absurd (not_missing y e)
  first_in (z ∷ zs) y e = subst (Contains (z ∷ zs)) (same_some e) (in_first z zs)

  module _ (n : ℕ) (k : Kind) (c : Contains (shapes_of_kind k) n) where
    own : (k0 : Kind) → Some k0 ≡ Some k → Contains (shapes_of_kind k0) n
    own k0 e = subst (λ (u : Kind). Contains (shapes_of_kind u) n) (sym (same_some e)) c

    names_none : (x : Term) (k0 : Kind) → shapes_of_kind k0 ≡ [] → Some k0 ≡ Some k → IsReferred x n
    names_none x k0 z e = absurd (in_none n (subst (λ (ns : List ℕ). Contains ns n) z (own k0 e)))

    names_one : (x y : Term) → Contains (references s x) y → Contains (shape_number s y ∷ []) n → IsReferred x n
    names_one x y h d = at (in_cases (shape_number s y) [] n d)
      where
        at : (shape_number s y ≡ n) ⊎ Contains [] n → IsReferred x n
        at (inl e) = (y, h, e)
        at (inr z) = absurd (in_none n z)

    qualified : (x : Term) (o : Option Term) → value_of s x sh.qualified_value_shape ≡ o → (make : ℕ → Kind) → ((u : ℕ) → shapes_of_kind (make u) ≡ u ∷ sibling_numbers s x)
        → option_map make (option_map (shape_number s) o) ≡ Some k → IsReferred x n
    qualified x None f make is e = absurd (not_missing k e)
    qualified x (Some y) f make is e = at (in_cases (shape_number s y) (sibling_numbers s x) n (subst (λ (ns : List ℕ). Contains ns n) (is (shape_number s y)) (own (make (shape_number s y)) e)))
      where
        there : InGraph s x sh.qualified_value_shape y
        there = own_value x sh.qualified_value_shape y (first_in (values s x sh.qualified_value_shape) y f)

        at : (shape_number s y ≡ n) ⊎ Contains (sibling_numbers s x) n → IsReferred x n
        at (inl g) = (y, referred qualified_shape_row x y y qualified_shape_there there (in_first y []), g)
        at (inr d) = numbers_refer x (siblings s x) (λ t l. sibling_referred x t l) n d

    kind_refers : (x o : Term) (p : Property) → InGraph s x (iri_of p) o → kind_of s x o p ≡ Some k → IsReferred x n
    kind_refers x o property.Class g e = names_none x (kind.Class o) refl e
    kind_refers x o property.Datatype g e = names_none x (kind.Datatype o) refl e
    kind_refers x o property.NodeKind g e = names_none x (kind.NodeKind o) refl e
    kind_refers x o property.MinExclusive g e = names_none x (kind.MinExclusive o) refl e
    kind_refers x o property.MinInclusive g e = names_none x (kind.MinInclusive o) refl e
    kind_refers x o property.MaxExclusive g e = names_none x (kind.MaxExclusive o) refl e
    kind_refers x o property.MaxInclusive g e = names_none x (kind.MaxInclusive o) refl e
    kind_refers x o property.MinLength g e = names_none x (kind.MinLength (count o)) refl e
    kind_refers x o property.MaxLength g e = names_none x (kind.MaxLength (count o)) refl e
    kind_refers x o property.LanguageIn g e = names_none x (kind.LanguageIn (members_or_none s o)) refl e
    kind_refers x o property.In g e = names_none x (kind.In (members_or_none s o)) refl e
    kind_refers x o property.Closed g e = names_none x (kind.Closed (is_true_literal o) (allowed s x)) refl e
    kind_refers x o property.Disjoint g e = names_none x (kind.Disjoint (text_of o)) refl e
    kind_refers x o property.Equals g e = names_none x (kind.Equals (text_of o)) refl e
    kind_refers x o property.HasValue g e = names_none x (kind.HasValue o) refl e
    kind_refers x o property.UniqueLang g e = names_none x (kind.UniqueLang (is_true_literal o)) refl e
    kind_refers x o property.MinCount g e = names_none x (kind.MinCount (count o)) refl e
    kind_refers x o property.MaxCount g e = names_none x (kind.MaxCount (count o)) refl e
    kind_refers x o property.Not g e = names_one x o (referred (row property.Not value.Shape false false) x o o not_row g (in_first o [])) (own (kind.Not (shape_number s o)) e)
    kind_refers x o property.Node g e = names_one x o (referred (row property.Node value.Shape false false) x o o node_row g (in_first o [])) (own (kind.Node (shape_number s o)) e)
    kind_refers x o property.Property g e = names_one x o (referred (row property.Property value.Shape false false) x o o property_row g (in_first o [])) (own (kind.Property (shape_number s o)) e)
    kind_refers x o property.And g e = numbers_refer x (members_or_none s o) (λ t l. referred (row property.And value.ListOfShapes false false) x o t and_row g l) n (own (kind.And (shape_numbers s (members_or_none s o))) e)
    kind_refers x o property.Or g e = numbers_refer x (members_or_none s o) (λ t l. referred (row property.Or value.ListOfShapes false false) x o t or_row g l) n (own (kind.Or (shape_numbers s (members_or_none s o))) e)
    kind_refers x o property.Xone g e = numbers_refer x (distinct (members_or_none s o)) (λ t l. referred (row property.Xone value.ListOfShapes false false) x o t xone_row g ((nodes_of_list_is (members_or_none s o) t).0 ((terms_is (nodes_of_list (members_or_none s o)) t).1 l))) n (own (kind.Xone (shape_numbers s (distinct (members_or_none s o)))) e)
    kind_refers x o property.QualifiedMinCount g e = qualified x (value_of s x sh.qualified_value_shape) refl (λ u. kind.QualifiedMinCount (count o) u (sibling_numbers s x)) (λ u. refl) e
    kind_refers x o property.QualifiedMaxCount g e = qualified x (value_of s x sh.qualified_value_shape) refl (λ u. kind.QualifiedMaxCount (count o) u (sibling_numbers s x)) (λ u. refl) e
    kind_refers x o property.Severity g e = absurd (not_missing k e)
    kind_refers x o property.QualifiedValueShapesDisjoint g e = absurd (not_missing k e)
    kind_refers x o property.Deactivated g e = absurd (not_missing k e)
    kind_refers x o property.IgnoredProperties g e = absurd (not_missing k e)
    kind_refers x o property.QualifiedValueShape g e = absurd (not_missing k e)
    kind_refers x o property.Path g e = absurd (not_missing k e)
    kind_refers x o property.TargetNode g e = absurd (not_missing k e)
    kind_refers x o property.TargetClass g e = absurd (not_missing k e)
    kind_refers x o property.TargetSubjectsOf g e = absurd (not_missing k e)
    kind_refers x o property.TargetObjectsOf g e = absurd (not_missing k e)

  -- the members of sh:xone are the distinct shapes of its list
  abbrev IsXone : Term → Term → Property → List ℕ → Type 0
  IsXone x o p us = (p ≡ property.Xone) × (shape_numbers s (distinct (members_or_none s o)) ≡ us)

  not_xone_qualified : (make : ℕ → Kind) (us : List ℕ) → ((u : ℕ) → ¬ (make u ≡ kind.Xone us)) → (o : Option ℕ) → ¬ (option_map make o ≡ Some (kind.Xone us))
  not_xone_qualified make us not None e = not_missing (kind.Xone us) e
  not_xone_qualified make us not (Some u) e = not u (same_some e)

  xone_members : (x o : Term) (p : Property) (us : List ℕ) → kind_of s x o p ≡ Some (kind.Xone us) → IsXone x o p us
  xone_members x o property.Class us e = absurd (let d : kind.Class o ≡ kind.Xone us = same_some e in cc)
  xone_members x o property.Datatype us e = absurd (let d : kind.Datatype o ≡ kind.Xone us = same_some e in cc)
  xone_members x o property.NodeKind us e = absurd (let d : kind.NodeKind o ≡ kind.Xone us = same_some e in cc)
  xone_members x o property.MinExclusive us e = absurd (let d : kind.MinExclusive o ≡ kind.Xone us = same_some e in cc)
  xone_members x o property.MinInclusive us e = absurd (let d : kind.MinInclusive o ≡ kind.Xone us = same_some e in cc)
  xone_members x o property.MaxExclusive us e = absurd (let d : kind.MaxExclusive o ≡ kind.Xone us = same_some e in cc)
  xone_members x o property.MaxInclusive us e = absurd (let d : kind.MaxInclusive o ≡ kind.Xone us = same_some e in cc)
  xone_members x o property.MinLength us e = absurd (let d : kind.MinLength (count o) ≡ kind.Xone us = same_some e in cc)
  xone_members x o property.MaxLength us e = absurd (let d : kind.MaxLength (count o) ≡ kind.Xone us = same_some e in cc)
  xone_members x o property.LanguageIn us e = absurd (let d : kind.LanguageIn (members_or_none s o) ≡ kind.Xone us = same_some e in cc)
  xone_members x o property.In us e = absurd (let d : kind.In (members_or_none s o) ≡ kind.Xone us = same_some e in cc)
  xone_members x o property.Not us e = absurd (let d : kind.Not (shape_number s o) ≡ kind.Xone us = same_some e in cc)
  xone_members x o property.Node us e = absurd (let d : kind.Node (shape_number s o) ≡ kind.Xone us = same_some e in cc)
  xone_members x o property.And us e = absurd (let d : kind.And (shape_numbers s (members_or_none s o)) ≡ kind.Xone us = same_some e in cc)
  xone_members x o property.Or us e = absurd (let d : kind.Or (shape_numbers s (members_or_none s o)) ≡ kind.Xone us = same_some e in cc)
  xone_members x o property.Xone us e = (refl, let d : kind.Xone (shape_numbers s (distinct (members_or_none s o))) ≡ kind.Xone us = same_some e in cc)
  xone_members x o property.Property us e = absurd (let d : kind.Property (shape_number s o) ≡ kind.Xone us = same_some e in cc)
  xone_members x o property.Closed us e = absurd (let d : kind.Closed (is_true_literal o) (allowed s x) ≡ kind.Xone us = same_some e in cc)
  xone_members x o property.Disjoint us e = absurd (let d : kind.Disjoint (text_of o) ≡ kind.Xone us = same_some e in cc)
  xone_members x o property.Equals us e = absurd (let d : kind.Equals (text_of o) ≡ kind.Xone us = same_some e in cc)
  xone_members x o property.HasValue us e = absurd (let d : kind.HasValue o ≡ kind.Xone us = same_some e in cc)
  xone_members x o property.UniqueLang us e = absurd (let d : kind.UniqueLang (is_true_literal o) ≡ kind.Xone us = same_some e in cc)
  xone_members x o property.MinCount us e = absurd (let d : kind.MinCount (count o) ≡ kind.Xone us = same_some e in cc)
  xone_members x o property.MaxCount us e = absurd (let d : kind.MaxCount (count o) ≡ kind.Xone us = same_some e in cc)
  xone_members x o property.QualifiedMinCount us e = absurd (not_xone_qualified (λ u. kind.QualifiedMinCount (count o) u (sibling_numbers s x)) us (λ u d. cc) (qualified_shape s x) e)
  xone_members x o property.QualifiedMaxCount us e = absurd (not_xone_qualified (λ u. kind.QualifiedMaxCount (count o) u (sibling_numbers s x)) us (λ u d. cc) (qualified_shape s x) e)
  xone_members x o property.Severity us e = absurd (not_missing (kind.Xone us) e)
  xone_members x o property.QualifiedValueShapesDisjoint us e = absurd (not_missing (kind.Xone us) e)
  xone_members x o property.Deactivated us e = absurd (not_missing (kind.Xone us) e)
  xone_members x o property.IgnoredProperties us e = absurd (not_missing (kind.Xone us) e)
  xone_members x o property.QualifiedValueShape us e = absurd (not_missing (kind.Xone us) e)
  xone_members x o property.Path us e = absurd (not_missing (kind.Xone us) e)
  xone_members x o property.TargetNode us e = absurd (not_missing (kind.Xone us) e)
  xone_members x o property.TargetClass us e = absurd (not_missing (kind.Xone us) e)
  xone_members x o property.TargetSubjectsOf us e = absurd (not_missing (kind.Xone us) e)
  xone_members x o property.TargetObjectsOf us e = absurd (not_missing (kind.Xone us) e)

  mapped : (ts : List Term) (i u : ℕ) → slice_get (shape_numbers s ts) i ≡ Some u → (t : Term) × (slice_get ts i ≡ Some t) × (shape_number s t ≡ u)
  mapped ts i u e = at (slice_get ts i) refl (sym (slice_get-map (shape_number s) ts i) ∙ e)
    where
      at : (o : Option Term) → slice_get ts i ≡ o → option_map (shape_number s) o ≡ Some u → (t : Term) × (slice_get ts i ≡ Some t) × (shape_number s t ≡ u)
      at None f e = absurd (not_missing u e)
      at (Some t) f e = (t, f, same_some e)

  -- numbers and shapes
  at_number : (y : Term) → has_term (shape_nodes s) y ≡ true → shape_at s (shape_number s y) ≡ Some y
  unfolding shape_number
  at_number y h =
      let place = place_of_term (shape_nodes s) y h in
      subst (λ i. slice_get (shape_terms s) i ≡ Some y) (place_there (shape_nodes s) y place.0 place.1) place.1

  number_at : (n : ℕ) (x : Term) → shape_at s n ≡ Some x → n ≡ shape_number s x
  unfolding shape_number
  number_at n x e = place_there (shape_nodes s) x n e

  level_at : (n : ℕ) (x : Term) (d : ℕ) → shape_at s n ≡ Some x → rank s x ≡ Some d → level s n ≡ d
  unfolding level
  level_at n x d e f = ap (λ o. unwrap_or (option_and_then (rank s) o) 0) e ∙ ap (λ o. unwrap_or o 0) f

  level_none : (n : ℕ) → shape_at s n ≡ None → level s n ≡ 0
  unfolding level
  level_none n e = ap (λ o. unwrap_or (option_and_then (rank s) o) 0) e

  has_within : (x : Term) → shape_number s x < length (shape_terms s) → has_term (shape_nodes s) x ≡ true
  unfolding shape_number
  has_within x l = by (has_term (shape_nodes s) x) refl
    where
      by : (b : Bool) → has_term (shape_nodes s) x ≡ b → has_term (shape_nodes s) x ≡ true
      by true e = e
      by false e = let z = place_absent (shape_nodes s) x e in absurd (omega (arith, z, l))

  distinct_numbers : (ts : List Term) → ((t : Term) → Contains ts t → has_term (shape_nodes s) t ≡ true) → Distinct ts → AreDistinct (shape_numbers s ts)
  distinct_numbers ts all once i j u e f =
      let a = mapped ts i u e in
      let b = mapped ts j u f in
      let at_a : shape_at s u ≡ Some a.0 = subst (λ m. shape_at s m ≡ Some a.0) a.2 (at_number a.0 (all a.0 (in_at ts i a.0 a.1))) in
      let at_b : shape_at s u ≡ Some b.0 = subst (λ m. shape_at s m ≡ Some b.0) b.2 (at_number b.0 (all b.0 (in_at ts j b.0 b.1))) in
      let one : b.0 ≡ a.0 = same_some (sym at_b ∙ at_a) in
      once i j a.0 a.1 (subst (λ z. slice_get ts j ≡ Some z) one b.1)

  -- the triple that states a constraint, its row and its kind
  statement_of : (i : ℕ) (c : Constraint) → constraint_at s i ≡ Some c → (t : Statement) × (slice_get (triples s) i ≡ Some t) × (constraint_of s t ≡ Some c)
  unfolding constraint_at
  statement_of i c e = at (slice_get (triples s) i) refl e
    where
      at : (o : Option Statement) → slice_get (triples s) i ≡ o → option_and_then (constraint_of s) o ≡ Some c → (t : Statement) × (slice_get (triples s) i ≡ Some t) × (constraint_of s t ≡ Some c)
      at None f e = absurd (not_missing c e)
      at (Some t) f e = (t, f, e)

  pub constraint_place : (i : ℕ) (c : Constraint) → constraint_at s i ≡ Some c → i < length (triples s)
  constraint_place i c e = let t = statement_of i c e in slice_get_within (triples s) i t.0 t.1

  abbrev IsKindOf : Statement → Constraint → Row → Type 0
  IsKindOf t c r = (row_of t.predicate ≡ Some r) × (kind_of s t.subject t.object r.property ≡ Some c.kind) × (shape_number s t.subject ≡ c.shape)

  kind_at : (t : Statement) (c : Constraint) → constraint_of s t ≡ Some c → (r : Row) × IsKindOf t c r
  unfolding constraint_of
  kind_at t c e = by_row (row_of t.predicate) refl e
    where
      by_kind : (r : Row) → row_of t.predicate ≡ Some r → (o : Option Kind) → kind_of s t.subject t.object r.property ≡ o
          → option_map (λ (k : Kind). record { shape = shape_number s t.subject; kind = k }) o ≡ Some c → (r : Row) × IsKindOf t c r
      by_kind r f None g e = absurd (not_missing c e)
      by_kind r f (Some k) g e =
          let made : Constraint = record { shape = shape_number s t.subject; kind = k } in
          let d : made ≡ c = same_some e in
          (r, (f, g ∙ ap (λ (d : Constraint). Some d.kind) d, ap (λ (d : Constraint). d.shape) d))

      by_row : (o : Option Row) → row_of t.predicate ≡ o
          → option_map (λ (k : Kind). record { shape = shape_number s t.subject; kind = k }) (option_and_then (kind_of s t.subject t.object) (option_map (λ (r : Row). r.property) o)) ≡ Some c
          → (r : Row) × IsKindOf t c r
      by_row None f e = absurd (not_missing c e)
      by_row (Some r) f e = by_kind r f (kind_of s t.subject t.object r.property) refl e

  stated_in : (t : Statement) (r : Row) (i : ℕ) → slice_get (triples s) i ≡ Some t → row_of t.predicate ≡ Some r → InGraph s t.subject (iri_of r.property) t.object
  stated_in t r i e f = subst (λ (p : Term). InGraph s t.subject p t.object) (row_there t.predicate r f).1 (has_listed s t (in_at (triples s) i t e))

  -- the constraint triples of a shape
  both_left : (a b : Bool) → (a && b) ≡ true → a ≡ true
  both_left true b e = refl
  both_left false b e = e

  both_right : (a b : Bool) → (a && b) ≡ true → b ≡ true
  both_right true b e = e
  both_right false b e = cc

  abbrev IsOwnPlace : Term → List Statement → ℕ → ℕ → Type 0
  IsOwnPlace x ts n i = (k : ℕ) × (t : Statement) × (slice_get ts k ≡ Some t) × (n + k ≡ i) × ((same_term t.subject x && is_some (constraint_of s t)) ≡ true)

  own_place : (x : Term) (ts : List Statement) (n i : ℕ) → Contains (filter_map (place_of s x) (enumerate_from n ts)) i → IsOwnPlace x ts n i
  own_place x [] n i h = absurd (in_none i h)
  own_place x (t ∷ ts) n i h = at (λ g. own_place x ts (n + 1) i g) (same_term t.subject x && is_some (constraint_of s t)) refl h
    where
      later : IsOwnPlace x ts (n + 1) i → IsOwnPlace x (t ∷ ts) n i
      later r = let e = r.3 in (suc r.0, r.1, r.2, omega (arith, e), r.4)

      first : (Contains (filter_map (place_of s x) (enumerate_from (n + 1) ts)) i → IsOwnPlace x ts (n + 1) i) → (same_term t.subject x && is_some (constraint_of s t)) ≡ true → (n ≡ i) ⊎ Contains (filter_map (place_of s x) (enumerate_from (n + 1) ts)) i → IsOwnPlace x (t ∷ ts) n i
      first rest f (inl e) = (0, t, refl, omega (arith, e), f)
      first rest f (inr g) = later (rest g)

      at : (Contains (filter_map (place_of s x) (enumerate_from (n + 1) ts)) i → IsOwnPlace x ts (n + 1) i) → (b : Bool) → (same_term t.subject x && is_some (constraint_of s t)) ≡ b → Contains (cons_option (cond b (Some n) None) (filter_map (place_of s x) (enumerate_from (n + 1) ts))) i → IsOwnPlace x (t ∷ ts) n i
      at rest true f g = first rest f (in_cases n (filter_map (place_of s x) (enumerate_from (n + 1) ts)) i g)
      at rest false f g = later (rest g)

  some_of : (o : Option Constraint) → is_some o ≡ true → (c : Constraint) × (o ≡ Some c)
  some_of None e = cc
  some_of (Some c) e = (c, refl)

  own_at : (n i : ℕ) (is : List ℕ) → constraints_of s n ≡ Some is → Contains is i → (c : Constraint) × (constraint_at s i ≡ Some c) × (c.shape ≡ n)
  unfolding constraints_of constraint_at
  own_at n i is e h = at (shape_at s n) refl e
    where
      of_shape : (x : Term) → shape_at s n ≡ Some x → filter_map (place_of s x) (enumerate_from 0 (triples s)) ≡ is → (c : Constraint) × (constraint_at s i ≡ Some c) × (c.shape ≡ n)
      of_shape x f g =
          let r = own_place x (triples s) 0 i (subst (λ ps. Contains ps i) (sym g) h) in
          let t = r.1 in
          let sum = r.3 in
          let k : r.0 ≡ i = omega (arith, sum) in
          let c = some_of (constraint_of s t) (both_right (same_term t.subject x) (is_some (constraint_of s t)) r.4) in
          let subject : t.subject ≡ x = same_is t.subject x (both_left (same_term t.subject x) (is_some (constraint_of s t)) r.4) in
          let place : slice_get (triples s) i ≡ Some t = subst (λ m. slice_get (triples s) m ≡ Some t) k r.2 in
          let number = (kind_at t c.0 c.1).1.2 in
          (c.0, ap (option_and_then (constraint_of s)) place ∙ c.1, sym number ∙ ap (shape_number s) subject ∙ sym (number_at n x f))

      at : (o : Option Term) → shape_at s n ≡ o → option_map (λ x. filter_map (place_of s x) (enumerate_from 0 (triples s))) o ≡ Some is → (c : Constraint) × (constraint_at s i ≡ Some c) × (c.shape ≡ n)
      at None f e = absurd (not_missing is e)
      at (Some x) f e = of_shape x f (same_some e)

  -- a shape that another refers to is of a lower rank
  rank_lower : (x y : Term) (d : ℕ) → rank s x ≡ Some d → Contains (references s x) y → (e : ℕ) × (rank s y ≡ Some e) × (e < d)
  unfolding rank
  rank_lower x y d h c = by (length (shape_terms s)) h
    where
      by : (k : ℕ) → depth_in (shape_references s) k x ≡ Some d → (e : ℕ) × (depth_in (shape_references s) k y ≡ Some e) × (e < d)
      by zero h = absurd (not_missing d h)
      by (suc k) h =
          let r = successor_depth (shape_references s) k x y d h (references s x, refl, c) in
          (r.0, depth_grows (shape_references s) k (suc k) y r.0 (omega arith) r.1, r.2)

  module _ (profile : IsInProfile s) where
    rank_some : (n : ℕ) (x : Term) → shape_at s n ≡ Some x → (d : ℕ) × (rank s x ≡ Some d) × (d < 129)
    rank_some n x e = by (rank s x) refl
      where
        fits : ¬ (IsOver 128 (rank s x))
        fits = profile.shapes_fit n x e

        at : (d : ℕ) → rank s x ≡ Some d → (d < 129) ⊎ (129 ≤ d) → (d : ℕ) × (rank s x ≡ Some d) × (d < 129)
        at d f (inl l) = (d, f, l)
        at d f (inr g) = absurd (fits (λ q h. let z : d ≡ q = same_some (sym f ∙ h) in omega (arith, z, g)))

        by : (o : Option ℕ) → rank s x ≡ o → (d : ℕ) × (rank s x ≡ Some d) × (d < 129)
        by None f = absurd (fits (λ q h. absurd (not_missing q (sym f ∙ h))))
        by (Some d) f = at d f (cases_lt d 129)

    shallow : (n : ℕ) → level s n < 129
    shallow n = by (shape_at s n) refl
      where
        by : (o : Option Term) → shape_at s n ≡ o → level s n < 129
        by None e = subst (λ m. m < 129) (sym (level_none n e)) (lit< tt)
        by (Some x) e = let r = rank_some n x e in subst (λ m. m < 129) (sym (level_at n x r.0 e r.1)) r.2

    -- what x refers to is lower than x
    lower_number : (n u : ℕ) (x : Term) → shape_at s n ≡ Some x → IsReferred x u → (u < length (shape_terms s)) × (level s u < level s n)
    lower_number n u x e r =
        let d = rank_some n x e in
        let l = rank_lower x r.0 d.0 d.1 r.1 in
        let there : shape_at s u ≡ Some r.0 = subst (λ m. shape_at s m ≡ Some r.0) r.2 (at_number r.0 (reference_shape s x r.0 r.1)) in
        (slice_get_within (shape_terms s) u r.0 there, subst (λ a. a < level s n) (sym (level_at u r.0 l.0 there l.1)) (subst (λ b. l.0 < b) (sym (level_at n x d.0 e d.1)) l.2))

    once : (i : ℕ) (c : Constraint) (t : Statement) → slice_get (triples s) i ≡ Some t → (k : (r : Row) × IsKindOf t c r) → (us : List ℕ) → c.kind ≡ kind.Xone us → AreDistinct us
    once i c t e k us f =
        let x = xone_members t.subject t.object k.0.property us (k.1.1 ∙ ap Some f) in
        let ts = distinct (members_or_none s t.object) in
        let there : InGraph s t.subject (iri_of property.Xone) t.object = subst (λ (p : Property). InGraph s t.subject (iri_of p) t.object) x.0 (stated_in t k.0 i e k.1.0) in
        subst AreDistinct x.1
        (distinct_numbers ts
        (λ y h. reference_shape s t.subject y (referred (row property.Xone value.ListOfShapes false false) t.subject t.object y xone_row there ((nodes_of_list_is (members_or_none s t.object) y).0 ((terms_is (nodes_of_list (members_or_none s t.object)) y).1 h))))
        (λ j m y h g. one_place_of_term (nodes_of_list (members_or_none s t.object)) y j m h g))

    stated : (i : ℕ) (c : Constraint) → constraint_at s i ≡ Some c → IsStated s i c
    stated i c e =
        let t = statement_of i c e in
        let k = kind_at t.0 c t.2 in
        let owner = constraint_within s i c e c.shape (in_first c.shape (shapes_of_kind c.kind)) in
        let shape = at_number t.0.subject (has_within t.0.subject (subst (λ n. n < length (shape_terms s)) (sym k.1.2) owner)) in
        record {
          stated = e;
          owner = owner;
          lower = λ u h. lower_number c.shape u t.0.subject (subst (λ n. shape_at s n ≡ Some t.0.subject) k.1.2 shape) (kind_refers u c.kind h t.0.subject t.0.object k.0.property (stated_in t.0 k.0 i t.1 k.1.0) k.1.1);
          once = once i c t.0 t.1 k;
        }

    pub ranked : IsRanked s
    ranked = record { shallow = shallow; stated = stated; own = own_at }

-- the shapes that a stated constraint of this kind refers to
module _ {i : ℕ} (s : Graph) (c : Constraint) (h : IsStated s i c) where
  pub lower_of : (k : Kind) → c.kind ≡ k → AreLower s c.shape (shapes_of_kind k)
  lower_of k e = subst (λ (j : Kind). AreLower s c.shape (shapes_of_kind j)) e h.lower

  pub qualified_lower_least : {n : ℕ} (u : ℕ) (us : List ℕ) → c.kind ≡ kind.QualifiedMinCount n u us → AreLower s c.shape (u ∷ us)
  qualified_lower_least {n} u us e = lower_of (kind.QualifiedMinCount n u us) e

  pub qualified_lower_most : {n : ℕ} (u : ℕ) (us : List ℕ) → c.kind ≡ kind.QualifiedMaxCount n u us → AreLower s c.shape (u ∷ us)
  qualified_lower_most {n} u us e = lower_of (kind.QualifiedMaxCount n u us) e
