-- What is in a set of terms, as the nodes of two graphs, and that such a set is what is in it.
use Rattle.std.proofs.Common.{◌≡◌, ◌↔◌, ℕ, Bool, ◌<◌, true, ◌||◌, IsTrue, List, [], ◌∷◌, ◌++◌, Some, slice_get, Contains, sym, ap, ◌∙◌, ◌⊎◌, inl, inr}
use Rattle.std.specs.declared.cmp.Ordering.TheVariants.{Less}
use Rattle.std.specs.Ordering.{eq_by_cmp}
use Rattle.std.specs.List.{list_any}
use Rattle.std.proofs.lemmas.Cmp.{eq_by_cmp_equiv}
use Rattle.std.proofs.lemmas.Map.Views.{list_any-from_Contains, Contains-from_any}
use Rattle.std.proofs.lemmas.List.Folds.{list_any-append}
use Rattle.rdf_terms.specs.Term.{term_cmp}
use Rattle.rdf_terms.specs.declared.term.Term.{Term}
use Rattle.rdf_terms.specs.Statement.{Statement, statement_cmp}
use Rattle.rdf_terms.specs.Graph.{Graph, triples, has}
use Rattle.rdf_terms.specs.Nodes.{Nodes, terms, has_term, with, nodes_of_list, ends, nodes_of, IsNodeOf}
use Rattle.rdf_terms.specs.TermOrder.{term_cmp_total, term_cmp-IsAntisymmetric}
use Rattle.rdf_terms.proofs.Bools.{either_left, either_right, either_of}
use Rattle.rdf_terms.proofs.Orders.{term_tied, same_term, statement_tied, same_statement}
use Rattle.rdf_terms.proofs.Membership as sets
use Rattle.rdf_terms.proofs.GraphLaws.{has-triples}

pub has_term-with : (n : Nodes) (s t : Term) → has_term (with n s) t ≡ (eq_by_cmp term_cmp t s || has_term n t)
has_term-with n s t = sets.has-with term_cmp_total n s t

pub has_term-terms : (n : Nodes) (t : Term) → has_term n t ≡ list_any (eq_by_cmp term_cmp t) (terms n)
has_term-terms n t = sets.has-items n t

pub has_term-nodes_of_list : (ts : List Term) (t : Term) → has_term (nodes_of_list ts) t ≡ list_any (eq_by_cmp term_cmp t) ts
has_term-nodes_of_list ts t = sets.has-of_list term_cmp_total ts t

-- two sets are equal where they have the same terms
pub same_nodes : (a b : Nodes) → ((t : Term) → has_term a t ≡ has_term b t) → a ≡ b
same_nodes a b is = sets.same_set term_cmp_total term_cmp-IsAntisymmetric a b is

pub same_nodes_within : (a b : Nodes) → ((t : Term) → IsTrue (has_term a t) → IsTrue (has_term b t)) → ((t : Term) → IsTrue (has_term b t) → IsTrue (has_term a t)) → a ≡ b
same_nodes_within a b there back = sets.same_within term_cmp_total term_cmp-IsAntisymmetric a b there back

-- the set of a list has exactly its terms
pub nodes_of_list_is : (ts : List Term) (t : Term) → IsTrue (has_term (nodes_of_list ts) t) ↔ Contains ts t
nodes_of_list_is ts t = (sets.item_of_has_list term_cmp_total term_cmp-IsAntisymmetric ts t, sets.has_of_list_item term_cmp_total ts t)

pub terms_is : (n : Nodes) (t : Term) → IsTrue (has_term n t) ↔ Contains (terms n) t
terms_is n t = (sets.item_of_has term_cmp_total term_cmp-IsAntisymmetric n t, sets.has_item term_cmp_total term_cmp-IsAntisymmetric n t)

pub term_listed : (n : Nodes) (t : Term) → has_term n t ≡ true → Contains (terms n) t
term_listed n t h = sets.item_of_has term_cmp_total term_cmp-IsAntisymmetric n t h

pub has_term_listed : (n : Nodes) (t : Term) → Contains (terms n) t → has_term n t ≡ true
has_term_listed n t h = sets.has_item term_cmp_total term_cmp-IsAntisymmetric n t h

pub has_term_at : (n : Nodes) (t : Term) (i : ℕ) → slice_get (terms n) i ≡ Some t → has_term n t ≡ true
has_term_at n t i h = sets.has_at term_cmp_total term_cmp-IsAntisymmetric n t i h

pub place_of_term : (n : Nodes) (t : Term) → has_term n t ≡ true → (i : ℕ) × (slice_get (terms n) i ≡ Some t)
place_of_term n t h = sets.place_of_has term_cmp_total term_cmp-IsAntisymmetric n t h

-- the terms at two places are in order, so no term has two places
pub terms_rise_at : (n : Nodes) (s t : Term) (i j : ℕ) → slice_get (terms n) i ≡ Some s → slice_get (terms n) j ≡ Some t → i < j → term_cmp s t ≡ Less
terms_rise_at n s t i j h k lt = sets.rises_at term_cmp_total term_cmp-IsAntisymmetric n s t i j h k lt

pub one_place_of_term : (n : Nodes) (t : Term) (i j : ℕ) → slice_get (terms n) i ≡ Some t → slice_get (terms n) j ≡ Some t → i ≡ j
one_place_of_term n t i j h k = sets.one_place term_cmp_total term_cmp-IsAntisymmetric n t i j h k

pub has_term-nodes_of : (g h : Graph) (more : List Term) (x : Term)
    → has_term (nodes_of g h more) x ≡ ((list_any (eq_by_cmp term_cmp x) (ends (triples g)) || list_any (eq_by_cmp term_cmp x) (ends (triples h))) || list_any (eq_by_cmp term_cmp x) more)
has_term-nodes_of g h more x =
    has_term-nodes_of_list ((ends (triples g) ++ ends (triples h)) ++ more) x
    ∙ list_any-append (eq_by_cmp term_cmp x) (ends (triples g) ++ ends (triples h)) more
    ∙ ap (λ b. b || list_any (eq_by_cmp term_cmp x) more) (list_any-append (eq_by_cmp term_cmp x) (ends (triples g)) (ends (triples h)))

-- the ends of a triple are among the ends of a list that has it
pub ends_there : (ts : List Statement) (t : Statement) → list_any (eq_by_cmp statement_cmp t) ts ≡ true
    → (list_any (eq_by_cmp term_cmp t.subject) (ends ts) ≡ true) × (list_any (eq_by_cmp term_cmp t.object) (ends ts) ≡ true)
ends_there [] t h = cc
ends_there (u ∷ us) t h = at (ends_there us t) (either_of _ _ h)
  where
    at : (list_any (eq_by_cmp statement_cmp t) us ≡ true → (list_any (eq_by_cmp term_cmp t.subject) (ends us) ≡ true) × (list_any (eq_by_cmp term_cmp t.object) (ends us) ≡ true))
        → (eq_by_cmp statement_cmp t u ≡ true) ⊎ (list_any (eq_by_cmp statement_cmp t) us ≡ true)
        → (list_any (eq_by_cmp term_cmp t.subject) (ends (u ∷ us)) ≡ true) × (list_any (eq_by_cmp term_cmp t.object) (ends (u ∷ us)) ≡ true)
    at more (inl e) =
        let same = same_statement t u e in (
          either_left _ _ (ap (λ (v : Statement). eq_by_cmp term_cmp t.subject v.subject) (sym same) ∙ term_tied t.subject),
          either_right _ _ (either_left _ _ (ap (λ (v : Statement). eq_by_cmp term_cmp t.object v.object) (sym same) ∙ term_tied t.object)),
        )
    at more (inr e) =
        let rest = more e in
        (either_right _ _ (either_right _ _ rest.0), either_right _ _ (either_right _ _ rest.1))

-- each of the ends is the subject or the object of a triple of the list
pub end_of_some : (ts : List Statement) (x : Term) → list_any (eq_by_cmp term_cmp x) (ends ts) ≡ true
    → (t : Statement) × (list_any (eq_by_cmp statement_cmp t) ts ≡ true) × ((x ≡ t.subject) ⊎ (x ≡ t.object))
end_of_some [] x h = cc
end_of_some (u ∷ us) x h = at (λ e. later (end_of_some us x e)) (either_of _ _ h)
  where
    here : list_any (eq_by_cmp statement_cmp u) (u ∷ us) ≡ true
    here = either_left _ _ (statement_tied u)

    later : (t : Statement) × (list_any (eq_by_cmp statement_cmp t) us ≡ true) × ((x ≡ t.subject) ⊎ (x ≡ t.object))
        → (t : Statement) × (list_any (eq_by_cmp statement_cmp t) (u ∷ us) ≡ true) × ((x ≡ t.subject) ⊎ (x ≡ t.object))
    later r = (r.0, either_right _ _ r.1, r.2)

    second : (list_any (eq_by_cmp term_cmp x) (ends us) ≡ true → (t : Statement) × (list_any (eq_by_cmp statement_cmp t) (u ∷ us) ≡ true) × ((x ≡ t.subject) ⊎ (x ≡ t.object)))
        → (eq_by_cmp term_cmp x u.object ≡ true) ⊎ (list_any (eq_by_cmp term_cmp x) (ends us) ≡ true)
        → (t : Statement) × (list_any (eq_by_cmp statement_cmp t) (u ∷ us) ≡ true) × ((x ≡ t.subject) ⊎ (x ≡ t.object))
    second more (inl e) = (u, here, inr (same_term x u.object e))
    second more (inr e) = more e

    at : (list_any (eq_by_cmp term_cmp x) (ends us) ≡ true → (t : Statement) × (list_any (eq_by_cmp statement_cmp t) (u ∷ us) ≡ true) × ((x ≡ t.subject) ⊎ (x ≡ t.object)))
        → (eq_by_cmp term_cmp x u.subject ≡ true) ⊎ ((eq_by_cmp term_cmp x u.object || list_any (eq_by_cmp term_cmp x) (ends us)) ≡ true)
        → (t : Statement) × (list_any (eq_by_cmp statement_cmp t) (u ∷ us) ≡ true) × ((x ≡ t.subject) ⊎ (x ≡ t.object))
    at more (inl e) = (u, here, inl (same_term x u.subject e))
    at more (inr e) = second more (either_of _ _ e)

-- the ends of each triple of either graph are nodes, and so is each of the other terms
pub nodes_of_first : (g h : Graph) (more : List Term) (t : Statement) → has g t ≡ true → (has_term (nodes_of g h more) t.subject ≡ true) × (has_term (nodes_of g h more) t.object ≡ true)
nodes_of_first g h more t e =
    let at = ends_there (triples g) t (sym (has-triples g t) ∙ e) in
    (has_term-nodes_of g h more t.subject ∙ either_left _ _ (either_left _ _ at.0), has_term-nodes_of g h more t.object ∙ either_left _ _ (either_left _ _ at.1))

pub nodes_of_second : (g h : Graph) (more : List Term) (t : Statement) → has h t ≡ true → (has_term (nodes_of g h more) t.subject ≡ true) × (has_term (nodes_of g h more) t.object ≡ true)
nodes_of_second g h more t e =
    let at = ends_there (triples h) t (sym (has-triples h t) ∙ e) in
    (has_term-nodes_of g h more t.subject ∙ either_left _ _ (either_right _ _ at.0), has_term-nodes_of g h more t.object ∙ either_left _ _ (either_right _ _ at.1))

pub nodes_of_more : (g h : Graph) (more : List Term) (x : Term) → list_any (eq_by_cmp term_cmp x) more ≡ true → has_term (nodes_of g h more) x ≡ true
nodes_of_more g h more x e = has_term-nodes_of g h more x ∙ either_right _ _ e

-- exactly the subjects and objects of both graphs, and the other terms
pub nodes_of_is : (g h : Graph) (more : List Term) (x : Term) → IsTrue (has_term (nodes_of g h more) x) ↔ ((IsNodeOf g x ⊎ IsNodeOf h x) ⊎ Contains more x)
nodes_of_is g h more x = (λ e. there (either_of _ _ (sym (has_term-nodes_of g h more x) ∙ e)), back)
  where
    among : Graph → Bool
    among k = list_any (eq_by_cmp term_cmp x) (ends (triples k))

    listed : Bool
    listed = list_any (eq_by_cmp term_cmp x) more

    node : (k : Graph) → among k ≡ true → IsNodeOf k x
    node k e = let r = end_of_some (triples k) x e in (r.0, has-triples k r.0 ∙ r.1, r.2)

    end : (k : Graph) → IsNodeOf k x → among k ≡ true
    end k n = by n.2
      where
        both : (list_any (eq_by_cmp term_cmp n.0.subject) (ends (triples k)) ≡ true) × (list_any (eq_by_cmp term_cmp n.0.object) (ends (triples k)) ≡ true)
        both = ends_there (triples k) n.0 (sym (has-triples k n.0) ∙ n.1)

        by : (x ≡ n.0.subject) ⊎ (x ≡ n.0.object) → among k ≡ true
        by (inl e) = ap (λ y. list_any (eq_by_cmp term_cmp y) (ends (triples k))) e ∙ both.0
        by (inr e) = ap (λ y. list_any (eq_by_cmp term_cmp y) (ends (triples k))) e ∙ both.1

    there : ((among g || among h) ≡ true) ⊎ (listed ≡ true) → (IsNodeOf g x ⊎ IsNodeOf h x) ⊎ Contains more x
    there (inl e) = inl (of (either_of (among g) (among h) e))
      where
        of : (among g ≡ true) ⊎ (among h ≡ true) → IsNodeOf g x ⊎ IsNodeOf h x
        of (inl e) = inl (node g e)
        of (inr e) = inr (node h e)
    there (inr e) = inr (Contains-from_any (λ a b t. same_term a b t) x more e)

    back : (IsNodeOf g x ⊎ IsNodeOf h x) ⊎ Contains more x → has_term (nodes_of g h more) x ≡ true
    back (inl (inl n)) = has_term-nodes_of g h more x ∙ either_left (among g || among h) listed (either_left (among g) (among h) (end g n))
    back (inl (inr n)) = has_term-nodes_of g h more x ∙ either_left (among g || among h) listed (either_right (among g) (among h) (end h n))
    back (inr c) = has_term-nodes_of g h more x ∙ either_right (among g || among h) listed (list_any-from_Contains (eq_by_cmp_equiv term_cmp_total) x more c)
