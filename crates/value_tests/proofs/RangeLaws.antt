-- Range constraints by the triples that state them.
use Rattle.std.proofs.Common.{◌≡◌, ◌≢◌, ℕ, ◌<◌, Bool, true, false, ◌||◌, cond, List, [], ◌∷◌, ◌++◌, length, get_or, Contains, Option, Some, None, slice_get, refl, sym, ap, subst, ◌∙◌}
use Rattle.std.specs.Prelude.{is_none, option_map, option_and_then, flat_map}
use Rattle.std.specs.Option.{option_map_or}
use Rattle.std.proofs.lemmas.Bool.{false≢true}
use Rattle.std.proofs.lemmas.List.Elements.{Contains-append_right}
use Rattle.std.proofs.lemmas.Option.{slice_get_within, slice_get-get_or}
use Rattle.rdf_terms.specs.declared.term.Term.{Term}
use Rattle.rdf_terms.specs.declared.term.Term.TheVariants.{Iri}
use Rattle.rdf_terms.specs.Statement.{Statement}
use Rattle.rdf_terms.specs.Graph.{Graph, triples, ArePlacesOfObject}
use Rattle.rdf_terms.specs.Members.{InGraph}
use Rattle.rdf_terms.specs.Vocab.Sh as sh
use Rattle.rdf_terms.specs.Nodes.{has_term}
use Rattle.rdf_terms.proofs.GraphLaws.{has_at, listed_of_has, place_of_has}
use Rattle.rdf_terms.proofs.Members.{in_first, in_flat_map}
use Rattle.rdf_terms.proofs.NodesLaws.{nodes_of_list_is, place_of_term}
use Rattle.rdf_terms.proofs.Orders.{term_tied, same_term as same_is}
use Rattle.rdf_navigation.specs.Values.{same_term}
use Rattle.rdf_navigation.proofs.PropertyLaws.{same_some, not_missing}
use Rattle.shapes_profile.specs.declared.properties.Property.{Property}
use Rattle.shapes_profile.specs.declared.properties.Property.TheVariants as property
use Rattle.shapes_profile.specs.declared.properties.Row.{Row}
use Rattle.shapes_profile.specs.Properties.{row_of, is_target, is_parameter}
use Rattle.shapes_profile.specs.Shapes.{shapes_in, shapes_by, shapes_of, declared_subjects, shape_nodes, shape_terms, shape_at, shape_number}
use Rattle.shapes_profile.specs.Profile.{IsInProfile}
use Rattle.shapes_graph.specs.declared.constraints.Kind.{Kind}
use Rattle.shapes_graph.specs.declared.constraints.Constraint.{Constraint}
use Rattle.shapes_graph.specs.declared.paths.PathForm.{PathForm}
use Rattle.shapes_graph.specs.declared.paths.PathForm.TheVariants.{Predicate, Inverse, Sequence, Alternative, ZeroOrMore, OneOrMore, ZeroOrOne}
use Rattle.shapes_graph.specs.Constraints.{kind_of, constraint_of, constraint_at}
use Rattle.shapes_graph.specs.OrderLiterals.{is_range, HasRange, path_form_of, ComparesAll}
use Rattle.shapes_graph.proofs.NumberLaws.{place_there}
use Rattle.value_tests.proofs.PathLaws.{path_value}
use Rattle.value_tests.specs.RangePlaces.{HasNoneAt, range_shape, predicate_of, compares_all_at, has_path, compares_values_at, ComparesValuesOfTerm}

parameter : (s : Graph) (x o : Term) (p : Property) (k : Kind) → kind_of s x o p ≡ Some k → is_parameter p ≡ true
parameter s x o property.Class k e = refl
parameter s x o property.Equals k e = refl
parameter s x o property.Disjoint k e = refl
parameter s x o property.Datatype k e = refl
parameter s x o property.Severity k e = absurd (not_missing k e)
parameter s x o property.NodeKind k e = refl
parameter s x o property.MinCount k e = refl
parameter s x o property.MaxCount k e = refl
parameter s x o property.QualifiedMinCount k e = refl
parameter s x o property.QualifiedMaxCount k e = refl
parameter s x o property.MinLength k e = refl
parameter s x o property.MaxLength k e = refl
parameter s x o property.MinExclusive k e = refl
parameter s x o property.MinInclusive k e = refl
parameter s x o property.MaxExclusive k e = refl
parameter s x o property.MaxInclusive k e = refl
parameter s x o property.UniqueLang k e = refl
parameter s x o property.QualifiedValueShapesDisjoint k e = refl
parameter s x o property.Closed k e = refl
parameter s x o property.Deactivated k e = absurd (not_missing k e)
parameter s x o property.LanguageIn k e = refl
parameter s x o property.IgnoredProperties k e = refl
parameter s x o property.In k e = refl
parameter s x o property.HasValue k e = refl
parameter s x o property.Not k e = refl
parameter s x o property.Node k e = refl
parameter s x o property.Property k e = refl
parameter s x o property.QualifiedValueShape k e = refl
parameter s x o property.And k e = refl
parameter s x o property.Or k e = refl
parameter s x o property.Xone k e = refl
parameter s x o property.Path k e = absurd (not_missing k e)
parameter s x o property.TargetNode k e = absurd (not_missing k e)
parameter s x o property.TargetClass k e = absurd (not_missing k e)
parameter s x o property.TargetSubjectsOf k e = absurd (not_missing k e)
parameter s x o property.TargetObjectsOf k e = absurd (not_missing k e)

-- the subject of a parameter is a shape
subject_shape : (s : Graph) (t : Statement) (r : Row) → Contains (triples s) t → row_of t.predicate ≡ Some r → is_parameter r.property ≡ true → has_term (shape_nodes s) t.subject ≡ true
unfolding shape_nodes
subject_shape s t r l f p =
    let first : Contains (shapes_of s t) t.subject = subst (λ (o : Option Row). Contains (shapes_by s t o) t.subject) (sym f) (chosen (is_target r.property) (is_parameter r.property) p) in
    (nodes_of_list_is (declared_subjects s ++ flat_map (shapes_of s) (triples s)) t.subject).1
    (Contains-append_right (declared_subjects s) (flat_map (shapes_of s) (triples s)) t.subject (in_flat_map (shapes_of s) (triples s) t t.subject l first))
  where
    chosen : (a b : Bool) → b ≡ true → Contains (cond (a || b) (t.subject ∷ []) [] ++ shapes_in s r.value t.object) t.subject
    chosen true b e = in_first t.subject (shapes_in s r.value t.object)
    chosen false true e = in_first t.subject (shapes_in s r.value t.object)
    chosen false false e = absurd (false≢true e)

number_at : (s : Graph) (x : Term) → has_term (shape_nodes s) x ≡ true → shape_at s (shape_number s x) ≡ Some x
unfolding shape_number
number_at s x h = let p = place_of_term (shape_nodes s) x h in subst (λ (m : ℕ). shape_at s m ≡ Some x) (place_there (shape_nodes s) x p.0 p.1) p.1

-- a constraint is of the shape that is its subject
abbrev IsOfSubject : Graph → ℕ → Constraint → Type 0
IsOfSubject s i c = (t : Statement) × (slice_get (triples s) i ≡ Some t) × (shape_at s c.shape ≡ Some t.subject)

own_subject : (s : Graph) (i : ℕ) (c : Constraint) → constraint_at s i ≡ Some c → IsOfSubject s i c
unfolding constraint_at constraint_of
own_subject s i c e = by_triple (slice_get (triples s) i) refl e
  where
    of_subject : Term → Kind → Constraint
    of_subject x k = record { shape = shape_number s x; kind = k }

    by_kind : (t : Statement) → slice_get (triples s) i ≡ Some t → (r : Row) → row_of t.predicate ≡ Some r
        → (k : Option Kind) → kind_of s t.subject t.object r.property ≡ k → option_map (of_subject t.subject) k ≡ Some c → IsOfSubject s i c
    by_kind t l r f None g h = absurd (not_missing c h)
    by_kind t l r f (Some k) g h =
        let own : shape_number s t.subject ≡ c.shape = ap (λ (d : Constraint). d.shape) (same_some h) in
        let listed = listed_of_has s t (has_at s t i l) in
        (t, l, subst (λ (m : ℕ). shape_at s m ≡ Some t.subject) own (number_at s t.subject (subject_shape s t r listed f (parameter s t.subject t.object r.property k g))))

    by_row : (t : Statement) → slice_get (triples s) i ≡ Some t → (r : Option Row) → row_of t.predicate ≡ r
        → option_map (of_subject t.subject) (option_and_then (kind_of s t.subject t.object) (option_map (λ (r : Row). r.property) r)) ≡ Some c → IsOfSubject s i c
    by_row t l None f h = absurd (not_missing c h)
    by_row t l (Some r) f h = by_kind t l r f (kind_of s t.subject t.object r.property) refl h

    by_triple : (o : Option Statement) → slice_get (triples s) i ≡ o → option_and_then (constraint_of s) o ≡ Some c → IsOfSubject s i c
    by_triple None f h = absurd (not_missing c h)
    by_triple (Some t) f h = by_row t f (row_of t.predicate) refl h

pub own_shape : (s : Graph) (i : ℕ) (c : Constraint) → constraint_at s i ≡ Some c → c.shape < length (shape_terms s)
own_shape s i c e = let o = own_subject s i c e in slice_get_within (shape_terms s) c.shape o.0.subject o.2

place_within : (s : Graph) (i : ℕ) (c : Constraint) → constraint_at s i ≡ Some c → i < length (triples s)
unfolding constraint_at
place_within s i c e = by (slice_get (triples s) i) refl e
  where
    by : (o : Option Statement) → slice_get (triples s) i ≡ o → option_and_then (constraint_of s) o ≡ Some c → i < length (triples s)
    by None f h = absurd (not_missing c h)
    by (Some t) f h = slice_get_within (triples s) i t f

stated : (s : Graph) (i n : ℕ) → range_shape s i ≡ Some n → HasRange s n
stated s i n e = by (constraint_at s i) refl e
  where
    at : (c : Constraint) → constraint_at s i ≡ Some c → (b : Bool) → is_range c.kind ≡ b → cond b (Some c.shape) None ≡ Some n → HasRange s n
    at c f true k g = record { place = i; constraint = c; there = f; own = same_some g; range = k }
    at c f false k g = absurd (not_missing n g)

    by : (o : Option Constraint) → constraint_at s i ≡ o → option_and_then (λ (c : Constraint). cond (is_range c.kind) (Some c.shape) None) o ≡ Some n → HasRange s n
    by None f g = absurd (not_missing n g)
    by (Some c) f g = at c f (is_range c.kind) refl g

placed : (s : Graph) (n : ℕ) (r : HasRange s n) → range_shape s r.place ≡ Some n
placed s n r =
    ap (option_and_then (λ (c : Constraint). cond (is_range c.kind) (Some c.shape) None)) r.there
    ∙ ap (λ (b : Bool). cond b (Some r.constraint.shape) None) r.range ∙ ap Some r.own

has_predicate : (o : Option PathForm) (q : List ℕ) → predicate_of o ≡ Some q → o ≡ Some (Predicate q)
has_predicate None q e = absurd (not_missing q e)
has_predicate (Some (Predicate p)) q e = ap (λ (r : List ℕ). Some (Predicate r)) (same_some e)
has_predicate (Some (Inverse a)) q e = absurd (not_missing q e)
has_predicate (Some (Sequence a b)) q e = absurd (not_missing q e)
has_predicate (Some (Alternative ms)) q e = absurd (not_missing q e)
has_predicate (Some (ZeroOrMore a)) q e = absurd (not_missing q e)
has_predicate (Some (OneOrMore a)) q e = absurd (not_missing q e)
has_predicate (Some (ZeroOrOne a)) q e = absurd (not_missing q e)

no_predicate : (o : Option PathForm) → ((q : List ℕ) → o ≢ Some (Predicate q)) → predicate_of o ≡ None
no_predicate None h = refl
no_predicate (Some (Predicate p)) h = absurd (h p refl)
no_predicate (Some (Inverse a)) h = refl
no_predicate (Some (Sequence a b)) h = refl
no_predicate (Some (Alternative ms)) h = refl
no_predicate (Some (ZeroOrMore a)) h = refl
no_predicate (Some (OneOrMore a)) h = refl
no_predicate (Some (ZeroOrOne a)) h = refl

pub all_from : (s : Graph) (i : ℕ) → compares_all_at s i ≡ true → ComparesAll s
all_from s i e = by (range_shape s i) refl e
  where
    of_shape : (n : ℕ) → range_shape s i ≡ Some n → (p : Option (List ℕ)) → predicate_of (path_form_of s n) ≡ p → is_none p ≡ true → ComparesAll s
    of_shape n f None g k = (n, stated s i n f, λ q h. not_missing q (sym g ∙ ap predicate_of h))
    of_shape n f (Some q) g k = absurd (false≢true k)

    by : (o : Option ℕ) → range_shape s i ≡ o → option_map_or (λ (n : ℕ). is_none (predicate_of (path_form_of s n))) o false ≡ true → ComparesAll s
    by None f k = absurd (false≢true k)
    by (Some n) f k = of_shape n f (predicate_of (path_form_of s n)) refl k

pub all_to : (s : Graph) → ComparesAll s → (i : ℕ) × (compares_all_at s i ≡ true) × (i < length (triples s))
all_to s h =
    let r = h.1 in (
      r.place,
      ap (λ (o : Option ℕ). option_map_or (λ (n : ℕ). is_none (predicate_of (path_form_of s n))) o false) (placed s h.0 r) ∙ ap is_none (no_predicate (path_form_of s h.0) h.2),
      place_within s r.place r.constraint r.there,
    )

pub values_from : (s : Graph) (p : Term) (i : ℕ) → compares_values_at s p i ≡ true → ComparesValuesOfTerm s p
values_from s p i e = by (range_shape s i) refl e
  where
    of_shape : (n : ℕ) → range_shape s i ≡ Some n → (o : Option (List ℕ)) → predicate_of (path_form_of s n) ≡ o → option_map_or (λ (q : List ℕ). same_term p (Iri q)) o false ≡ true → ComparesValuesOfTerm s p
    of_shape n f None g k = absurd (false≢true k)
    of_shape n f (Some q) g k = (q, same_is p (Iri q) k, (n, stated s i n f, has_predicate (path_form_of s n) q g))

    by : (o : Option ℕ) → range_shape s i ≡ o → option_map_or (has_path s p) o false ≡ true → ComparesValuesOfTerm s p
    by None f k = absurd (false≢true k)
    by (Some n) f k = of_shape n f (predicate_of (path_form_of s n)) refl k

-- a triple that states such a constraint, and the path of its subject
values_to : (s : Graph) (p : Term) → IsInProfile s → ComparesValuesOfTerm s p
    → (i : ℕ) × (compares_values_at s p i ≡ true) × ((t : Statement) × (slice_get (triples s) i ≡ Some t) × InGraph s t.subject sh.path p)
values_to s p h v =
    let r = v.2.1 in
    let o = own_subject s r.place r.constraint r.there in
    let shape : shape_at s v.2.0 ≡ Some o.0.subject = subst (λ (m : ℕ). shape_at s m ≡ Some o.0.subject) r.own o.2 in (
      r.place,
      ap (λ (o : Option ℕ). option_map_or (has_path s p) o false) (placed s v.2.0 r)
          ∙ ap (λ (o : Option PathForm). option_map_or (λ (q : List ℕ). same_term p (Iri q)) (predicate_of o) false) v.2.2
          ∙ ap (λ (z : Term). same_term z (Iri v.0)) v.1 ∙ term_tied (Iri v.0),
      (o.0, o.1, subst (InGraph s o.0.subject sh.path) (sym v.1) (path_value s h v.2.0 o.0.subject v.0 shape v.2.2)),
    )

-- none where no subject of a triple with the predicate as its object has one
pub none_left : (s : Graph) (p : Term) → IsInProfile s → (places : List ℕ) → ArePlacesOfObject (triples s) p places
    → ((k : ℕ) → k < length places → HasNoneAt s p (get_or places k 0)) → ComparesValuesOfTerm s p → ⊥
none_left s p h places are none v =
    let f = values_to s p h v in
    let t = f.2.0 in
    let w : Statement = record { subject = t.subject; predicate = sh.path; object = p } in
    let i = place_of_has s w f.2.2 in
    let c = (are.exact i.0).1 (ap (option_map (λ (u : Statement). u.object)) i.1) in
    let same : get_or places c.0 0 ≡ i.0 = same_some (sym (slice_get-get_or places c.0 0 c.1) ∙ slice_get-get_or places c.0 i.0 c.1) ∙ c.2 in
    let there : slice_get (triples s) (get_or places c.0 0) ≡ Some w = ap (slice_get (triples s)) same ∙ i.1 in
    false≢true (sym (none c.0 c.1 w there f.0 t f.2.1 refl) ∙ f.1)
