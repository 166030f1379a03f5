-- The numbers of focus nodes.
use Rattle.std.proofs.Common.{◌≡◌, ◌⊎◌, inl, inr, ℕ, ◌+◌, ◌<◌, ◌≤◌, IsTrue, List, ◌++◌, take, length, get_or, Contains, flat_map, Some, option_map, sym, ap, ◌∙◌, subst, arith}
use Rattle.std.proofs.lemmas.Bool.{cases_lt}
use Rattle.std.proofs.lemmas.List.{flat_map_more}
use Rattle.std.proofs.lemmas.List.Elements.{Contains-append_left, Contains-append_right}
use Rattle.std.proofs.lemmas.Option.{slice_get_within}
use Rattle.rdf_terms.specs.declared.term.Term.{Term}
use Rattle.rdf_terms.specs.Graph.{Graph, empty}
use Rattle.rdf_terms.specs.Nodes.{has_term, nodes_of, IsNodeOf}
use Rattle.rdf_terms.proofs.Members.{take_next}
use Rattle.rdf_terms.proofs.NodesLaws.{nodes_of_is}
use Rattle.rdf_navigation.proofs.PropertyLaws.{same_some}
use Rattle.shapes_profile.specs.Profile.{IsInProfile}
use Rattle.shapes_profile.specs.Shapes.{shape_at, shape_terms}
use Rattle.shapes_graph.specs.declared.targets.Target.{Target}
use Rattle.shapes_graph.specs.Targets.{targets, IsFocus}
use Rattle.targets.specs.Selection.{named_nodes}
use Rattle.targets.proofs.SelectionLaws.{focus_some}
use Rattle.targets.proofs.TargetLaws.{some_there}
use Rattle.core_constraints.specs.NumberLists.{IsNamed}

-- the nodes that one target more names
pub named_more : (old now new : List Term) (ks : List Target) (i : ℕ) (k : Target) → i < length ks → k ≡ get_or ks i k → now ≡ old ++ flat_map named_nodes (take i ks) → new ≡ now ++ named_nodes k → new ≡ old ++ flat_map named_nodes (take (i + 1) ks)
named_more old now new ks i k l at all pushed =
    pushed ∙ (ap (λ us. us ++ named_nodes k) all ∙ (flat_map_more named_nodes old (take i ks) k ∙ ap (λ us. old ++ flat_map named_nodes us) (sym (take_next ks i k l at))))

-- the nodes that targets of the first shapes name
abbrev pub HasNamed : Graph → ℕ → List Term → Type 0
HasNamed s count ts = (n : ℕ) (x : Term) → n < count → IsNamed s n x → Contains ts x

pub has_named_more : (s : Graph) (count : ℕ) (ks : List Target) (old new : List Term) → option_map (targets s) (shape_at s count) ≡ Some ks → new ≡ old ++ flat_map named_nodes ks → HasNamed s count old → HasNamed s (count + 1) new
has_named_more s count ks old new own pushed all n x l h = subst (λ us. Contains us x) (sym pushed) (at (cases_lt n count))
  where
    at : (n < count) ⊎ (count ≤ n) → Contains (old ++ flat_map named_nodes ks) x
    at (inl m) = Contains-append_left old (flat_map named_nodes ks) x (all n x m h)
    at (inr m) =
        let e : n ≡ count = omega (arith, l, m) in
        let same : targets s h.0 ≡ ks = same_some (sym (ap (option_map (targets s)) h.1) ∙ (ap (λ k. option_map (targets s) (shape_at s k)) e ∙ own)) in
        Contains-append_right old (flat_map named_nodes ks) x (subst (λ us. Contains (flat_map named_nodes us) x) same h.2)

pub has_named_all : (s : Graph) (count : ℕ) (ts : List Term) → length (shape_terms s) ≤ count → HasNamed s count ts → (n : ℕ) (x : Term) → IsNamed s n x → Contains ts x
has_named_all s count ts le all n x h = all n x (let l = slice_get_within (shape_terms s) n h.0 h.1 in omega (arith, l, le)) h

-- the set of the nodes of the graph and of those that targets name has all focus nodes
pub focus_numbered : (s : Graph) → IsInProfile s → (g : Graph) (named : List Term) → ((n : ℕ) (x : Term) → IsNamed s n x → Contains named x) → (n : ℕ) (x : Term) → IsFocus s n g x → IsTrue (has_term (nodes_of g empty named) x)
unfolding IsFocus
focus_numbered s profile g named all n x f =
    (nodes_of_is g empty named x).1 (at (some_there g x (targets s f.0) ((focus_some s profile n (targets s f.0) (ap (option_map (targets s)) f.1) g x).1 f)))
  where
    at : IsNodeOf g x ⊎ Contains (flat_map named_nodes (targets s f.0)) x → (IsNodeOf g x ⊎ IsNodeOf empty x) ⊎ Contains named x
    at (inl h) = inl (inl h)
    at (inr c) = inr (all n x (f.0, f.1, c))
