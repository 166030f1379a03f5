-- Lists of the numbers of selected nodes.
use Rattle.std.proofs.Common.{◌≡◌, ◌↔◌, ◌⊎◌, inl, inr, ℕ, ◌+◌, ◌<◌, IsTrue, List, [], ◌∷◌, ◌++◌, take, length, get_or, Contains, flat_map, Option, Some, None, option_map, slice_get, refl, sym, ap, ◌∙◌, subst}
use Rattle.std.proofs.lemmas.List.{map-append}
use Rattle.std.proofs.lemmas.List.Elements.{Contains-append_cases, Contains-append_left, Contains-append_right}
use Rattle.rdf_terms.specs.declared.term.Term.{Term}
use Rattle.rdf_terms.specs.Graph.{Graph, empty}
use Rattle.rdf_terms.specs.Members.{IsListOf}
use Rattle.rdf_terms.specs.Nodes.{Nodes, terms, has_term, nodes_of, IsNodeOf}
use Rattle.rdf_terms.proofs.Members.{in_first, in_map, map_in, take_next}
use Rattle.rdf_terms.proofs.NodesLaws.{has_term_at, nodes_of_is}
use Rattle.rdf_navigation.specs.Numbers.{term_at}
use Rattle.rdf_navigation.proofs.NumberLaws.{at_place}
use Rattle.rdf_navigation.proofs.PropertyLaws.{same_some}
use Rattle.shapes_profile.specs.Logic.{SomeOf}
use Rattle.shapes_profile.specs.Profile.{IsInProfile}
use Rattle.shapes_profile.specs.Shapes.{shape_at}
use Rattle.shapes_graph.specs.declared.targets.Target.{Target}
use Rattle.shapes_graph.specs.Targets.{targets, IsFocus, IsFocusOf}
use Rattle.path_eval.specs.Numbered.{terms_at, AreNumbers}
use Rattle.path_eval.proofs.VisitLaws.{in_one}
use Rattle.targets.specs.Selection.{IsSelected, named_nodes}
use Rattle.targets.proofs.TargetLaws.{some_append, some_there, focus_is}
use Rattle.targets.proofs.ValueLaws.{subjects_iri, objects_iri}

pub one_node : (n : Nodes) (k : ℕ) (node : Term) → slice_get (terms n) k ≡ Some node → IsListOf (λ x. IsTrue (has_term n x) × (node ≡ x)) (terms_at n (k ∷ []))
one_node n k node at y = (
  λ c. let e = sym own ∙ in_one (term_at n k) y c in (subst (λ (x : Term). IsTrue (has_term n x)) e (has_term_at n node k at), e),
  λ h. subst (Contains (term_at n k ∷ [])) (own ∙ h.1) (in_first (term_at n k) []),
)
  where
    own : term_at n k ≡ node
    own = at_place n k node at

pub numbers_append : (n : Nodes) (xs ys : List ℕ) → AreNumbers n xs → AreNumbers n ys → AreNumbers n (xs ++ ys)
numbers_append n xs ys a b i c = at (Contains-append_cases xs ys i c)
  where
    at : Contains xs i ⊎ Contains ys i → i < length (terms n)
    at (inl d) = a i d
    at (inr d) = b i d

-- the nodes that one target more selects
pub selected_more : (g : Graph) (n : Nodes) (ks : List Target) (i : ℕ) (k : Target) (found more new : List ℕ) → i < length ks → k ≡ get_or ks i k → new ≡ found ++ more
    → IsListOf (λ x. IsTrue (has_term n x) × SomeOf (IsSelected g x) (take i ks)) (terms_at n found) → IsListOf (λ x. IsTrue (has_term n x) × IsSelected g x k) (terms_at n more)
    → IsListOf (λ x. IsTrue (has_term n x) × SomeOf (IsSelected g x) (take (i + 1) ks)) (terms_at n new)
selected_more g n ks i k found more new l at e a b y = (
  λ c. to (Contains-append_cases (terms_at n found) (terms_at n more) y (subst (λ us. Contains us y) listed c)),
  λ h. subst (λ us. Contains us y) (sym listed) (from h.0 ((some_append (IsSelected g y) (take i ks) (k ∷ [])).0 (subst (SomeOf (IsSelected g y)) next h.1))),
)
  where
    next : take (i + 1) ks ≡ take i ks ++ k ∷ []
    next = take_next ks i k l at

    listed : terms_at n new ≡ terms_at n found ++ terms_at n more
    listed = ap (terms_at n) e ∙ map-append (term_at n) found more

    some : SomeOf (IsSelected g y) (take i ks) ⊎ SomeOf (IsSelected g y) (k ∷ []) → SomeOf (IsSelected g y) (take (i + 1) ks)
    some s = subst (SomeOf (IsSelected g y)) (sym next) ((some_append (IsSelected g y) (take i ks) (k ∷ [])).1 s)

    to : Contains (terms_at n found) y ⊎ Contains (terms_at n more) y → IsTrue (has_term n y) × SomeOf (IsSelected g y) (take (i + 1) ks)
    to (inl c) = let h = (a y).0 c in (h.0, some (inl h.1))
    to (inr c) = let h = (b y).0 c in (h.0, some (inr (inl h.1)))

    from : IsTrue (has_term n y) → SomeOf (IsSelected g y) (take i ks) ⊎ SomeOf (IsSelected g y) (k ∷ []) → Contains (terms_at n found ++ terms_at n more) y
    from t (inl s) = Contains-append_left (terms_at n found) (terms_at n more) y ((a y).1 (t, s))
    from t (inr (inl s)) = Contains-append_right (terms_at n found) (terms_at n more) y ((b y).1 (t, s))
    from t (inr (inr s)) = absurd s

-- the same numbers are those of the same terms
pub same_members : (n : Nodes) (P : Term → Type 0) (xs zs : List ℕ) → ((i : ℕ) → Contains zs i ↔ Contains xs i) → IsListOf P (terms_at n xs) → IsListOf P (terms_at n zs)
same_members n P xs zs same all y = (
  λ c. let m = map_in (term_at n) zs y c in (all y).0 (subst (Contains (terms_at n xs)) m.2 (in_map (term_at n) xs m.0 ((same m.0).0 m.1))),
  λ p. let m = map_in (term_at n) xs y ((all y).1 p) in subst (Contains (terms_at n zs)) m.2 (in_map (term_at n) zs m.0 ((same m.0).1 m.1)),
)

-- what some target of a shape selects, by the number of the shape
pub focus_some : (s : Graph) → IsInProfile s → (m : ℕ) (ks : List Target) → option_map (targets s) (shape_at s m) ≡ Some ks → (g : Graph) (x : Term) → SomeOf (IsSelected g x) ks ↔ IsFocus s m g x
unfolding IsFocus
focus_some s profile m ks e g x = at (shape_at s m) refl e
  where
    at : (o : Option Term) → shape_at s m ≡ o → option_map (targets s) o ≡ Some ks → SomeOf (IsSelected g x) ks ↔ ((shape : Term) × (shape_at s m ≡ Some shape) × IsFocusOf s shape g x)
    at None q h = absurd (let z : None ≡ Some ks = h in cc)
    at (Some shape) q h = (
      λ r. (shape, q, is.0 (subst (SomeOf (IsSelected g x)) (sym own) r)),
      λ f. let z : shape ≡ f.0 = same_some (sym q ∙ f.1) in subst (SomeOf (IsSelected g x)) own (is.1 (subst (λ (u : Term). IsFocusOf s u g x) (sym z) f.2)),
    )
      where
        own : targets s shape ≡ ks
        own = cc

        is : SomeOf (IsSelected g x) (targets s shape) ↔ IsFocusOf s shape g x
        is = focus_is s shape g x (subjects_iri s profile m shape q) (objects_iri s profile m shape q)

-- the set of the nodes of the graph and of those that targets name has all focus nodes
pub focus_there : (s : Graph) → IsInProfile s → (m : ℕ) (ks : List Target) → option_map (targets s) (shape_at s m) ≡ Some ks → (g : Graph) (x : Term) → IsFocus s m g x → IsTrue (has_term (nodes_of g empty (flat_map named_nodes ks)) x)
focus_there s profile m ks e g x f = (nodes_of_is g empty (flat_map named_nodes ks) x).1 (at (some_there g x ks ((focus_some s profile m ks e g x).1 f)))
  where
    at : IsNodeOf g x ⊎ Contains (flat_map named_nodes ks) x → (IsNodeOf g x ⊎ IsNodeOf empty x) ⊎ Contains (flat_map named_nodes ks) x
    at (inl h) = inl (inl h)
    at (inr c) = inr c
