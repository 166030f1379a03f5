-- The numbers in a constraint are of shapes.
use Rattle.std.proofs.Common.{◌≡◌, ◌⊎◌, inl, inr, ℕ, zero, suc, ◌<◌, Bool, true, false, cond, List, [], ◌∷◌, ◌++◌, length, Contains, Option, Some, None, slice_get, refl, sym, ap, subst, ◌∙◌, lit<, arith, Bor}
use Rattle.std.specs.Prelude.{option_map, option_and_then, option_copied, IfSome, ◌||◌, flat_map}
use Rattle.std.proofs.lemmas.Option.{slice_get_within}
use Rattle.std.proofs.lemmas.List.Elements.{Contains-append_left, Contains-append_right}
use Rattle.rdf_terms.specs.declared.term.Term.{Term}
use Rattle.rdf_terms.specs.Statement.{Statement}
use Rattle.rdf_terms.specs.Graph.{Graph, triples}
use Rattle.rdf_terms.specs.Nodes.{terms, nodes_of_list, has_term}
use Rattle.rdf_terms.specs.Members.{InGraph}
use Rattle.rdf_terms.specs.Vocab.Sh as sh
use Rattle.rdf_terms.proofs.GraphLaws.{listed_of_has, has_listed}
use Rattle.rdf_terms.proofs.Members.{in_none, in_first, in_rest, in_cases, in_flat_map, map_in}
use Rattle.rdf_terms.proofs.NodesLaws.{nodes_of_list_is, terms_is, place_of_term}
use Rattle.rdf_terms.proofs.Values.{IsListOf-objects}
use Rattle.rdf_navigation.specs.Values.{values, first_of, value_of}
use Rattle.rdf_navigation.proofs.PropertyLaws.{same_some, not_missing}
use Rattle.shapes_profile.specs.declared.properties.Row.{Row}
use Rattle.shapes_profile.specs.declared.properties.Property.{Property}
use Rattle.shapes_profile.specs.declared.properties.Property.TheVariants as property
use Rattle.shapes_profile.specs.declared.properties.Expected.TheVariants as value
use Rattle.shapes_profile.specs.Properties.{row, table, iri_of, row_of, property_of, is_target, is_parameter}
use Rattle.shapes_profile.specs.Shapes.{members_or_none, is_true_literal, shapes_by, shapes_of, declared_subjects, shape_nodes, shape_terms, shape_number}
use Rattle.shapes_profile.specs.References.{siblings}
use Rattle.shapes_profile.proofs.ReferenceLaws.{shape_of_value, sibling_shape}
use Rattle.shapes_graph.proofs.RowLaws.{row_there}
use Rattle.shapes_profile.proofs.TableLaws.{qualified_shape_row, qualified_shape_there}
use Rattle.shapes_graph.specs.declared.constraints.Kind.{Kind}
use Rattle.shapes_graph.specs.declared.constraints.Kind.TheVariants as kind
use Rattle.shapes_graph.specs.declared.constraints.Constraint.{Constraint}
use Rattle.shapes_graph.specs.PathForms.{text_of}
use Rattle.shapes_graph.specs.Constraints.{shape_numbers, distinct, count, allowed, sibling_numbers, qualified_shape, kind_of, shapes_of_kind, shapes_of_constraint, constraint_of, constraint_at}
use Rattle.shapes_graph.proofs.NumberLaws.{place_there}

slice_get_in : {X : Type 0} (xs : List X) (i : ℕ) (x : X) → slice_get xs i ≡ Some x → Contains xs x
slice_get_in [] i x e = absurd (let l = slice_get_within [] i x e in omega (arith, l))
slice_get_in (y ∷ ys) zero x e = subst (Contains (y ∷ ys)) (same_some e) (in_first y ys)
slice_get_in (y ∷ ys) (suc i) x e = in_rest y ys x (slice_get_in ys i x e)

-- the table has the rows of the properties that refer to shapes
not_row : Contains table (row property.Not value.Shape false false)
unfolding table
not_row = (24, lit< tt, refl)

node_row : Contains table (row property.Node value.Shape false false)
unfolding table
node_row = (25, lit< tt, refl)

property_row : Contains table (row property.Property value.Shape false false)
unfolding table
property_row = (26, lit< tt, refl)

and_row : Contains table (row property.And value.ListOfShapes false false)
unfolding table
and_row = (28, lit< tt, refl)

or_row : Contains table (row property.Or value.ListOfShapes false false)
unfolding table
or_row = (29, lit< tt, refl)

xone_row : Contains table (row property.Xone value.ListOfShapes false false)
unfolding table
xone_row = (30, lit< tt, refl)

module _ (s : Graph) where
  abbrev IsShapeNumber : ℕ → Type 0
  IsShapeNumber n = n < length (shape_terms s)

  abbrev AreShapes : List Term → Type 0
  AreShapes ts = (t : Term) → Contains ts t → has_term (shape_nodes s) t ≡ true

  number_within : (x : Term) → has_term (shape_nodes s) x ≡ true → IsShapeNumber (shape_number s x)
  unfolding shape_number
  number_within x h =
      let place = place_of_term (shape_nodes s) x h in
      subst IsShapeNumber (place_there (shape_nodes s) x place.0 place.1) (slice_get_within (shape_terms s) place.0 x place.1)

  numbers_within : (ts : List Term) → AreShapes ts → (n : ℕ) → Contains (shape_numbers s ts) n → IsShapeNumber n
  numbers_within ts h n c = let m = map_in (shape_number s) ts n c in subst IsShapeNumber m.2 (number_within m.0 (h m.0 m.1))

  own_value : (x p y : Term) → Contains (values s x p) y → InGraph s x p y
  own_value x p y c = (IsListOf-objects s x p y).0 c

  first_in : (ys : List Term) (y : Term) → first_of ys ≡ Some y → Contains ys y
  first_in [] y e = absurd (not_missing y e)
  first_in (z ∷ zs) y e = subst (Contains (z ∷ zs)) (same_some e) (in_first z zs)

  module _ (n : ℕ) (k : Kind) (c : Contains (shapes_of_kind k) n) where
    own : (k0 : Kind) → Some k0 ≡ Some k → Contains (shapes_of_kind k0) n
    own k0 e = subst (λ (u : Kind). Contains (shapes_of_kind u) n) (sym (same_some e)) c

    names_none : (k0 : Kind) → shapes_of_kind k0 ≡ [] → Some k0 ≡ Some k → IsShapeNumber n
    names_none k0 z e = absurd (in_none n (subst (λ (ns : List ℕ). Contains ns n) z (own k0 e)))

    names_one : (y : Term) → has_term (shape_nodes s) y ≡ true → Contains (shape_number s y ∷ []) n → IsShapeNumber n
    names_one y h d = at (in_cases (shape_number s y) [] n d)
      where
        at : (shape_number s y ≡ n) ⊎ Contains [] n → IsShapeNumber n
        at (inl e) = subst IsShapeNumber e (number_within y h)
        at (inr z) = absurd (in_none n z)

    qualified : (x : Term) (o : Option Term) → value_of s x sh.qualified_value_shape ≡ o → (make : ℕ → Kind) → ((u : ℕ) → shapes_of_kind (make u) ≡ u ∷ sibling_numbers s x)
        → option_map make (option_map (shape_number s) o) ≡ Some k → IsShapeNumber n
    qualified x None f make is e = absurd (not_missing k e)
    qualified x (Some y) f make is e = at (in_cases (shape_number s y) (sibling_numbers s x) n (subst (λ (ns : List ℕ). Contains ns n) (is (shape_number s y)) (own (make (shape_number s y)) e)))
      where
        there : InGraph s x sh.qualified_value_shape y
        there = own_value x sh.qualified_value_shape y (first_in (values s x sh.qualified_value_shape) y f)

        at : (shape_number s y ≡ n) ⊎ Contains (sibling_numbers s x) n → IsShapeNumber n
        at (inl g) = subst IsShapeNumber g (number_within y (shape_of_value s qualified_shape_row x y y qualified_shape_there there (in_first y [])))
        at (inr d) = numbers_within (siblings s x) (λ t l. sibling_shape s x t l) n d

    kind_within : (x o : Term) (p : Property) → InGraph s x (iri_of p) o → kind_of s x o p ≡ Some k → IsShapeNumber n
    kind_within x o property.Class g e = names_none (kind.Class o) refl e
    kind_within x o property.Datatype g e = names_none (kind.Datatype o) refl e
    kind_within x o property.NodeKind g e = names_none (kind.NodeKind o) refl e
    kind_within x o property.MinExclusive g e = names_none (kind.MinExclusive o) refl e
    kind_within x o property.MinInclusive g e = names_none (kind.MinInclusive o) refl e
    kind_within x o property.MaxExclusive g e = names_none (kind.MaxExclusive o) refl e
    kind_within x o property.MaxInclusive g e = names_none (kind.MaxInclusive o) refl e
    kind_within x o property.MinLength g e = names_none (kind.MinLength (count o)) refl e
    kind_within x o property.MaxLength g e = names_none (kind.MaxLength (count o)) refl e
    kind_within x o property.LanguageIn g e = names_none (kind.LanguageIn (members_or_none s o)) refl e
    kind_within x o property.In g e = names_none (kind.In (members_or_none s o)) refl e
    kind_within x o property.Closed g e = names_none (kind.Closed (is_true_literal o) (allowed s x)) refl e
    kind_within x o property.Disjoint g e = names_none (kind.Disjoint (text_of o)) refl e
    kind_within x o property.Equals g e = names_none (kind.Equals (text_of o)) refl e
    kind_within x o property.HasValue g e = names_none (kind.HasValue o) refl e
    kind_within x o property.UniqueLang g e = names_none (kind.UniqueLang (is_true_literal o)) refl e
    kind_within x o property.MinCount g e = names_none (kind.MinCount (count o)) refl e
    kind_within x o property.MaxCount g e = names_none (kind.MaxCount (count o)) refl e
    kind_within x o property.Not g e = names_one o (shape_of_value s (row property.Not value.Shape false false) x o o not_row g (in_first o [])) (own (kind.Not (shape_number s o)) e)
    kind_within x o property.Node g e = names_one o (shape_of_value s (row property.Node value.Shape false false) x o o node_row g (in_first o [])) (own (kind.Node (shape_number s o)) e)
    kind_within x o property.Property g e = names_one o (shape_of_value s (row property.Property value.Shape false false) x o o property_row g (in_first o [])) (own (kind.Property (shape_number s o)) e)
    kind_within x o property.And g e = numbers_within (members_or_none s o) (λ t l. shape_of_value s (row property.And value.ListOfShapes false false) x o t and_row g l) n (own (kind.And (shape_numbers s (members_or_none s o))) e)
    kind_within x o property.Or g e = numbers_within (members_or_none s o) (λ t l. shape_of_value s (row property.Or value.ListOfShapes false false) x o t or_row g l) n (own (kind.Or (shape_numbers s (members_or_none s o))) e)
    kind_within x o property.Xone g e = numbers_within (distinct (members_or_none s o)) (λ t l. shape_of_value s (row property.Xone value.ListOfShapes false false) x o t xone_row g ((nodes_of_list_is (members_or_none s o) t).0 ((terms_is (nodes_of_list (members_or_none s o)) t).1 l))) n (own (kind.Xone (shape_numbers s (distinct (members_or_none s o)))) e)
    kind_within x o property.QualifiedMinCount g e = qualified x (value_of s x sh.qualified_value_shape) refl (λ u. kind.QualifiedMinCount (count o) u (sibling_numbers s x)) (λ u. refl) e
    kind_within x o property.QualifiedMaxCount g e = qualified x (value_of s x sh.qualified_value_shape) refl (λ u. kind.QualifiedMaxCount (count o) u (sibling_numbers s x)) (λ u. refl) e
    kind_within x o property.Severity g e = absurd (not_missing k e)
    kind_within x o property.QualifiedValueShapesDisjoint g e = absurd (not_missing k e)
    kind_within x o property.Deactivated g e = absurd (not_missing k e)
    kind_within x o property.IgnoredProperties g e = absurd (not_missing k e)
    kind_within x o property.QualifiedValueShape g e = absurd (not_missing k e)
    kind_within x o property.Path g e = absurd (not_missing k e)
    kind_within x o property.TargetNode g e = absurd (not_missing k e)
    kind_within x o property.TargetClass g e = absurd (not_missing k e)
    kind_within x o property.TargetSubjectsOf g e = absurd (not_missing k e)
    kind_within x o property.TargetObjectsOf g e = absurd (not_missing k e)

  kind_states : (x o : Term) (p : Property) (k : Kind) → kind_of s x o p ≡ Some k → is_parameter p ≡ true
  kind_states x o property.Class k e = refl
  kind_states x o property.Datatype k e = refl
  kind_states x o property.NodeKind k e = refl
  kind_states x o property.MinExclusive k e = refl
  kind_states x o property.MinInclusive k e = refl
  kind_states x o property.MaxExclusive k e = refl
  kind_states x o property.MaxInclusive k e = refl
  kind_states x o property.MinLength k e = refl
  kind_states x o property.MaxLength k e = refl
  kind_states x o property.LanguageIn k e = refl
  kind_states x o property.In k e = refl
  kind_states x o property.Closed k e = refl
  kind_states x o property.Disjoint k e = refl
  kind_states x o property.Equals k e = refl
  kind_states x o property.HasValue k e = refl
  kind_states x o property.UniqueLang k e = refl
  kind_states x o property.MinCount k e = refl
  kind_states x o property.MaxCount k e = refl
  kind_states x o property.Not k e = refl
  kind_states x o property.Node k e = refl
  kind_states x o property.Property k e = refl
  kind_states x o property.And k e = refl
  kind_states x o property.Or k e = refl
  kind_states x o property.Xone k e = refl
  kind_states x o property.QualifiedMinCount k e = refl
  kind_states x o property.QualifiedMaxCount k e = refl
  kind_states x o property.Severity k e = absurd (not_missing k e)
  kind_states x o property.QualifiedValueShapesDisjoint k e = refl
  kind_states x o property.Deactivated k e = absurd (not_missing k e)
  kind_states x o property.IgnoredProperties k e = refl
  kind_states x o property.QualifiedValueShape k e = refl
  kind_states x o property.Path k e = absurd (not_missing k e)
  kind_states x o property.TargetNode k e = absurd (not_missing k e)
  kind_states x o property.TargetClass k e = absurd (not_missing k e)
  kind_states x o property.TargetSubjectsOf k e = absurd (not_missing k e)
  kind_states x o property.TargetObjectsOf k e = absurd (not_missing k e)

  or_right : (a b : Bool) → b ≡ true → (a || b) ≡ true
  or_right true b e = refl
  or_right false b e = e

  -- the subject of a parameter is a shape
  subject_shape : (t : Statement) (r : Row) → Contains (triples s) t → row_of t.predicate ≡ Some r → is_parameter r.property ≡ true → has_term (shape_nodes s) t.subject ≡ true
  unfolding shape_nodes
  subject_shape t r listed e h =
      let first : Contains (cond (is_target r.property || is_parameter r.property) (t.subject ∷ []) []) t.subject =
      subst (λ (b : Bool). Contains (cond b (t.subject ∷ []) []) t.subject) (sym (or_right (is_target r.property) (is_parameter r.property) h)) (in_first t.subject []) in
      let by_row : Contains (shapes_by s t (Some r)) t.subject = Contains-append_left (cond (is_target r.property || is_parameter r.property) (t.subject ∷ []) []) _ t.subject first in
      let by_triple : Contains (shapes_of s t) t.subject = subst (λ (o : Option Row). Contains (shapes_by s t o) t.subject) (sym e) by_row in
      (nodes_of_list_is (declared_subjects s ++ flat_map (shapes_of s) (triples s)) t.subject).1
      (Contains-append_right (declared_subjects s) (flat_map (shapes_of s) (triples s)) t.subject (in_flat_map (shapes_of s) (triples s) t t.subject listed by_triple))

  stated_within : (t : Statement) → Contains (triples s) t → (c : Constraint) → constraint_of s t ≡ Some c → (n : ℕ) → Contains (shapes_of_constraint c) n → IsShapeNumber n
  unfolding constraint_of
  stated_within t listed c e n d = by_row (row_of t.predicate) refl e
    where
      by_kind : (r : Row) → row_of t.predicate ≡ Some r → (o : Option Kind) → kind_of s t.subject t.object r.property ≡ o
          → option_map (λ (k : Kind). record { shape = shape_number s t.subject; kind = k }) o ≡ Some c → IsShapeNumber n
      by_kind r f None g e = absurd (not_missing c e)
      by_kind r f (Some k) g e = at (in_cases (shape_number s t.subject) (shapes_of_kind k) n (subst (λ (u : Constraint). Contains (shapes_of_constraint u) n) (sym (same_some e)) d))
        where
          there : InGraph s t.subject (iri_of r.property) t.object
          there = subst (λ (p : Term). InGraph s t.subject p t.object) (row_there t.predicate r f).1 (has_listed s t listed)

          at : (shape_number s t.subject ≡ n) ⊎ Contains (shapes_of_kind k) n → IsShapeNumber n
          at (inl h) = subst IsShapeNumber h (number_within t.subject (subject_shape t r listed f (kind_states t.subject t.object r.property k g)))
          at (inr h) = kind_within n k h t.subject t.object r.property there g

      by_row : (o : Option Row) → row_of t.predicate ≡ o
          → option_map (λ (k : Kind). record { shape = shape_number s t.subject; kind = k }) (option_and_then (kind_of s t.subject t.object) (option_map (λ (r : Row). r.property) o)) ≡ Some c
          → IsShapeNumber n
      by_row None f e = absurd (not_missing c e)
      by_row (Some r) f e = by_kind r f (kind_of s t.subject t.object r.property) refl e

  pub constraint_within : (i : ℕ) (c : Constraint) → constraint_at s i ≡ Some c → (n : ℕ) → Contains (shapes_of_constraint c) n → IsShapeNumber n
  unfolding constraint_at
  constraint_within i c e n d = at (slice_get (triples s) i) refl e
    where
      at : (o : Option Statement) → slice_get (triples s) i ≡ o → option_and_then (constraint_of s) o ≡ Some c → IsShapeNumber n
      at None f e = absurd (not_missing c e)
      at (Some t) f e = stated_within t (slice_get_in (triples s) i t f) c e n d

pub copied_within : (s : Graph) (i : ℕ) (r : Option (Bor Constraint)) → option_copied r ≡ constraint_at s i
    → IfSome r (λ c. (n : ℕ) → Contains (shapes_of_constraint c.now) n → n < length (shape_terms s))
copied_within s i None e = tt
copied_within s i (Some b) e = λ n d. constraint_within s i b.now (sym e) n d
