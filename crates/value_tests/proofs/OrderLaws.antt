-- The literals that are compared and out of reach, by the triples that they stand in.
use Rattle.std.proofs.Common.{◌≡◌, ℕ, ◌↔◌, ◌⊎◌, inl, inr, true, false, List, Contains, Option, Some, None, refl, sym, ap, subst, ◌∙◌}
use Rattle.std.specs.Prelude.{IsTrue}
use Rattle.std.specs.Option.{option_copied, IfSome, IfNone}
use Rattle.std.proofs.lemmas.Bool.{false≢true}
use denote.Ref.{Bor}
use Rattle.rdf_terms.specs.declared.term.Term.{Term}
use Rattle.rdf_terms.specs.declared.term.Term.TheVariants.{Iri, Blank, Literal}
use Rattle.rdf_terms.specs.Statement.{Statement, is_node}
use Rattle.rdf_terms.specs.Graph.{Graph, triples}
use Rattle.rdf_terms.specs.Nodes.{IsNodeOf}
use Rattle.rdf_terms.specs.Members.{InGraph}
use Rattle.rdf_terms.specs.Vocab.Sh as sh
use Rattle.rdf_terms.proofs.GraphLaws.{has_listed, listed_of_has}
use Rattle.rdf_navigation.specs.Values.{same_term}
use Rattle.rdf_terms.proofs.Orders.{same_term as same_is}
use Rattle.shapes_graph.specs.OrderLiterals.{ComparesAll, ComparesValuesOf, IsTargetNode, IsCompared, is_out_of_reach, IsOrderLiteral}
use Rattle.value_tests.specs.FirstTerms.{IsFirstWith, first_of_two}
use Rattle.value_tests.proofs.FirstLaws.{first_one, first_alike, first_of_both}
use Rattle.value_tests.specs.RangePlaces.{ComparesValuesOfTerm, IsOrderTerm, IsOrderTermIn, IsOrderTarget, IsOrderTargetIn}

-- only a literal is out of reach
pub no_node : (x : Term) → is_node x ≡ true → is_out_of_reach x ≡ true → ⊥
no_node (Iri i) n r = false≢true r
no_node (Blank c l) n r = false≢true r
no_node (Literal l d t) n r = false≢true n

-- a triple is of nodes and has one literal at most
module _ (s : Graph) (t : Statement) (node : is_node t.subject ≡ true) where
  abbrev IsComparedHere : Type 0
  IsComparedHere = ComparesAll s ⊎ ComparesValuesOfTerm s t.predicate

  object_is : (y : Term) → IsOrderTerm s t y → (y ≡ t.object) × IsComparedHere
  object_is y h = by h.1
    where
      far : (y ≡ t.subject) → ⊥
      far e = no_node t.subject node (ap is_out_of_reach (sym e) ∙ h.0)

      of_all : ComparesAll s → (y ≡ t.subject) ⊎ (y ≡ t.object) → (y ≡ t.object) × IsComparedHere
      of_all all (inl e) = absurd (far e)
      of_all all (inr e) = (e, inl all)

      by : (ComparesAll s × ((y ≡ t.subject) ⊎ (y ≡ t.object))) ⊎ (ComparesValuesOfTerm s t.predicate × (y ≡ t.object)) → (y ≡ t.object) × IsComparedHere
      by (inl k) = of_all k.0 k.1
      by (inr k) = (k.1, inr k.0)

  object_found : (x : Term) → t.object ≡ x → IsTrue (is_out_of_reach x) → IsComparedHere → IsOrderTerm s t x
  object_found x e r (inl all) = (r, inl (all, inr (sym e)))
  object_found x e r (inr v) = (r, inr (v, sym e))

  pub object_first : (x : Term) → t.object ≡ x → IsTrue (is_out_of_reach x) → IsComparedHere → IsFirstWith (IsOrderTerm s t) (Some x)
  object_first x e r k = first_one (IsOrderTerm s t) x (object_found x e r k) (λ y h. (object_is y h).0 ∙ e)

  pub object_near : is_out_of_reach t.object ≡ false → IsFirstWith (IsOrderTerm s t) None
  object_near e y h = false≢true (sym e ∙ ap is_out_of_reach (sym (object_is y h).0) ∙ h.0)

  pub not_compared : ¬ IsComparedHere → IsFirstWith (IsOrderTerm s t) None
  not_compared none y h = none (object_is y h).1

pub target_first : (t : Statement) (p x : Term) → t.predicate ≡ p → t.object ≡ x → same_term p sh.target_node ≡ true → IsTrue (is_out_of_reach x) → IsFirstWith (IsOrderTarget t) (Some x)
target_first t p x e f k r = first_one (IsOrderTarget t) x (r, e ∙ same_is p sh.target_node k, sym f) (λ y h. h.2 ∙ f)

-- compared and out of reach
abbrev pub IsFar : Graph → Graph → Graph → Term → Type 0
IsFar s g o y = IsCompared s g o y × IsTrue (is_out_of_reach y)

there : (g : Graph) (t : Statement) (p y : Term) → Contains (triples g) t → t.predicate ≡ p → y ≡ t.object → InGraph g t.subject p y
there g t p y c e f = subst (λ (q : Term). InGraph g t.subject q y) e (subst (λ (z : Term). InGraph g t.subject t.predicate z) (sym f) (has_listed g t c))

listed : (g : Graph) (x p y : Term) → InGraph g x p y → Contains (triples g) (record { subject = x; predicate = p; object = y })
listed g x p y h = listed_of_has g (record { subject = x; predicate = p; object = y }) h

module _ (s g o : Graph) where
  abbrev pub IsPresent : Term → Type 0
  IsPresent y = IsOrderTermIn s (triples g) y

  abbrev pub IsOffered : Term → Type 0
  IsOffered y = IsOrderTermIn s (triples o) y

  abbrev pub IsTarget : Term → Type 0
  IsTarget y = IsOrderTargetIn (triples s) y

  far_present : (y : Term) → IsPresent y → IsFar s g o y
  far_present y e = (by e.2.1, e.2.0)
    where
      by : (ComparesAll s × ((y ≡ e.0.subject) ⊎ (y ≡ e.0.object))) ⊎ (ComparesValuesOfTerm s e.0.predicate × (y ≡ e.0.object)) → IsCompared s g o y
      by (inl k) = inl (k.0, inl (e.0, has_listed g e.0 e.1, k.1))
      by (inr k) = let v = k.0 in inr (v.0, e.0.subject, v.2, inl (there g e.0 (Iri v.0) y e.1 v.1 k.1))

  far_offered : (y : Term) → IsOffered y → IsFar s g o y
  far_offered y e = (by e.2.1, e.2.0)
    where
      by : (ComparesAll s × ((y ≡ e.0.subject) ⊎ (y ≡ e.0.object))) ⊎ (ComparesValuesOfTerm s e.0.predicate × (y ≡ e.0.object)) → IsCompared s g o y
      by (inl k) = inl (k.0, inr (inl (e.0, has_listed o e.0 e.1, k.1)))
      by (inr k) = let v = k.0 in inr (v.0, e.0.subject, v.2, inr (there o e.0 (Iri v.0) y e.1 v.1 k.1))

  far_target : ComparesAll s → (y : Term) → IsTarget y → IsFar s g o y
  far_target all y e = (inl (all, inr (inr (e.0.subject, there s e.0 sh.target_node y e.1 e.2.1 e.2.2))), e.2.0)

  far_to : (y : Term) → IsFar s g o y → (IsPresent y ⊎ IsOffered y) ⊎ (ComparesAll s × IsTarget y)
  far_to y f = by f.0
    where
      far : IsTrue (is_out_of_reach y)
      far = f.1

      node : (h : Graph) → ComparesAll s → IsNodeOf h y → IsOrderTermIn s (triples h) y
      node h all n = (n.0, listed_of_has h n.0 n.1, (far, inl (all, n.2)))

      value : (h : Graph) (x : Term) (q : List ℕ) → ComparesValuesOf s q → InGraph h x (Iri q) y → IsOrderTermIn s (triples h) y
      value h x q v n = (record { subject = x; predicate = Iri q; object = y }, listed h x (Iri q) y n, (far, inr ((q, refl, v), refl)))

      of_all : ComparesAll s → IsNodeOf g y ⊎ IsNodeOf o y ⊎ IsTargetNode s y → (IsPresent y ⊎ IsOffered y) ⊎ (ComparesAll s × IsTarget y)
      of_all all (inl n) = inl (inl (node g all n))
      of_all all (inr (inl n)) = inl (inr (node o all n))
      of_all all (inr (inr n)) = inr (all, (record { subject = n.0; predicate = sh.target_node; object = y }, listed s n.0 sh.target_node y n.1, (far, refl, refl)))

      of_value : (q : List ℕ) (x : Term) → ComparesValuesOf s q → InGraph g x (Iri q) y ⊎ InGraph o x (Iri q) y → (IsPresent y ⊎ IsOffered y) ⊎ (ComparesAll s × IsTarget y)
      of_value q x v (inl n) = inl (inl (value g x q v n))
      of_value q x v (inr n) = inl (inr (value o x q v n))

      by : IsCompared s g o y → (IsPresent y ⊎ IsOffered y) ⊎ (ComparesAll s × IsTarget y)
      by (inl k) = of_all k.0 k.1
      by (inr k) = of_value k.0 k.1 k.2 k.3

  pub all_far : ComparesAll s → (y : Term) → ((IsPresent y ⊎ IsOffered y) ⊎ IsTarget y) ↔ IsFar s g o y
  all_far all y = (λ e. to e, λ f. from (far_to y f))
    where
      to : (IsPresent y ⊎ IsOffered y) ⊎ IsTarget y → IsFar s g o y
      to (inl (inl e)) = far_present y e
      to (inl (inr e)) = far_offered y e
      to (inr e) = far_target all y e

      from : (IsPresent y ⊎ IsOffered y) ⊎ (ComparesAll s × IsTarget y) → (IsPresent y ⊎ IsOffered y) ⊎ IsTarget y
      from (inl e) = inl e
      from (inr e) = inr e.1

  pub some_far : ¬ (ComparesAll s) → (y : Term) → (IsPresent y ⊎ IsOffered y) ↔ IsFar s g o y
  some_far none y = (λ e. to e, λ f. from (far_to y f))
    where
      to : IsPresent y ⊎ IsOffered y → IsFar s g o y
      to (inl e) = far_present y e
      to (inr e) = far_offered y e

      from : (IsPresent y ⊎ IsOffered y) ⊎ (ComparesAll s × IsTarget y) → IsPresent y ⊎ IsOffered y
      from (inl e) = e
      from (inr e) = absurd (none e.0)

  pub far_some : (r : Option (Bor Term)) → IsFirstWith (IsFar s g o) (option_copied r) → IfSome r (λ y. IsOrderLiteral s g o y.now)
  far_some None h = tt
  far_some (Some x) h = record { compared = h.0.0; out_of_reach = h.0.1; first = λ z c r. h.1 z (c, r) }

  pub far_none : (r : Option (Bor Term)) → IsFirstWith (IsFar s g o) (option_copied r) → IfNone r ((y : Term) → IsCompared s g o y → ¬ (IsTrue (is_out_of_reach y)))
  far_none None h = λ y c r. h y (c, r)
  far_none (Some x) h = tt

module _ (s g o : Graph) (ts us : List Statement) (present : ts ≡ triples g) (offered : us ≡ triples o) (a b p : Option Term) (first : IsFirstWith (IsOrderTermIn s ts) a) (second : IsFirstWith (IsOrderTermIn s us) b) (both : p ≡ first_of_two a b) where
  in_graphs : IsFirstWith (λ (y : Term). IsPresent s g o y ⊎ IsOffered s g o y) p
  in_graphs =
      subst (IsFirstWith (λ (y : Term). IsPresent s g o y ⊎ IsOffered s g o y)) (sym both)
      (first_of_both (IsPresent s g o) (IsOffered s g o) a b
      (subst (λ (vs : List Statement). IsFirstWith (IsOrderTermIn s vs) a) present first)
      (subst (λ (vs : List Statement). IsFirstWith (IsOrderTermIn s vs) b) offered second))

  pub first_some : ¬ (ComparesAll s) → IsFirstWith (IsFar s g o) p
  first_some none = first_alike (λ (y : Term). IsPresent s g o y ⊎ IsOffered s g o y) (IsFar s g o) p (some_far s g o none) in_graphs

  pub first_all : ComparesAll s → (vs : List Statement) → vs ≡ triples s → (c q : Option Term) → IsFirstWith (IsOrderTargetIn vs) c → q ≡ first_of_two p c → IsFirstWith (IsFar s g o) q
  first_all all vs own c q third is =
      first_alike (λ (y : Term). (IsPresent s g o y ⊎ IsOffered s g o y) ⊎ IsTarget s g o y) (IsFar s g o) q (all_far s g o all)
      (subst (IsFirstWith (λ (y : Term). (IsPresent s g o y ⊎ IsOffered s g o y) ⊎ IsTarget s g o y)) (sym is)
      (first_of_both (λ (y : Term). IsPresent s g o y ⊎ IsOffered s g o y) (IsTarget s g o) p c in_graphs
      (subst (λ (ws : List Statement). IsFirstWith (IsOrderTargetIn ws) c) own third)))
