-- Nodes by their numbers, and which nodes paths lead to.
use Rattle.std.proofs.Common.{◌≡◌, ◌↔◌, ◌⊎◌, inl, inr, ℕ, ◌<◌, Bool, true, false, ◌&&◌, ◌||◌, List, [], length, get_or, Contains, Some, None, slice_get, refl, sym, ap, ◌∙◌, subst}
use Rattle.std.proofs.lemmas.Bool.{false≢true}
use Rattle.std.proofs.lemmas.Option.{slice_get-get_or, slice_get_within, get_or_from_slice_get}
use Rattle.rdf_terms.specs.declared.term.Term.{Term}
use Rattle.rdf_terms.specs.declared.term.Term.TheVariants.{Literal}
use Rattle.rdf_terms.specs.Statement.{Statement}
use Rattle.rdf_terms.specs.Graph.{Graph, has, empty}
use Rattle.rdf_terms.specs.Nodes.{Nodes, terms, has_term, nodes_of, IsNodeOf}
use Rattle.rdf_terms.proofs.GraphLaws.{has-empty}
use Rattle.rdf_terms.proofs.NodesLaws.{nodes_of_first, nodes_of_second, place_of_term, one_place_of_term, term_listed, has_term_listed, same_nodes_within, nodes_of_is}
use Rattle.rdf_navigation.specs.Numbers.{term_at}
use Rattle.repair_problem.specs.Setting.{Setting, OfNode, nodes, node, full, target_nodes}
use Rattle.repair_problem.proofs.Pairs.{has-whole}
use Rattle.path_levels.specs.PossibleNodes.{node_count}

module _ (s : Setting) where
  -- a number is of the node that stands there
  pub node_there : (x : ℕ) → x < node_count s → slice_get (terms (nodes s)) x ≡ Some (node s x)
  node_there x l = slice_get-get_or (terms (nodes s)) x (Literal [] [] None) l

  pub node_is : (x : ℕ) (a : Term) → slice_get (terms (nodes s)) x ≡ Some a → node s x ≡ a
  node_is x a e = get_or_from_slice_get (terms (nodes s)) x a (Literal [] [] None) e

  -- no node has two numbers
  pub one_number : (x y : ℕ) → x < node_count s → y < node_count s → node s x ≡ node s y → x ≡ y
  one_number x y l m e = one_place_of_term (nodes s) (node s y) x y (node_there x l ∙ ap Some e) (node_there y m)

  -- the term is a node
  abbrev pub IsNode : Term → Type 0
  IsNode a = (x : ℕ) × (x < node_count s) × (node s x ≡ a)

  numbered : (a : Term) → has_term (nodes s) a ≡ true → IsNode a
  numbered a e = let r = place_of_term (nodes s) a e in (r.0, slice_get_within (terms (nodes s)) r.0 a r.1, node_is r.0 a r.1)

  or_split : (a b : Bool) → (a || b) ≡ true → (a ≡ true) ⊎ (b ≡ true)
  or_split true b e = inl refl
  or_split false b e = inr e

  ends_in : (t : Statement) → (has s.present t ≡ true) ⊎ (has s.offers t ≡ true) → (has_term (nodes s) t.subject ≡ true) × (has_term (nodes s) t.object ≡ true)
  ends_in t (inl e) = nodes_of_first s.present s.offers (target_nodes s.shapes) t e
  ends_in t (inr e) = nodes_of_second s.present s.offers (target_nodes s.shapes) t e

  there : (t : Statement) → has (full s) t ≡ true → (has_term (nodes s) t.subject ≡ true) × (has_term (nodes s) t.object ≡ true)
  there t e = ends_in t (or_split (has s.present t) (has s.offers t) (sym (has-whole s.present s.offers t) ∙ e))

  -- the ends of each triple are nodes
  pub ends_are_nodes : (t : Statement) → has (full s) t ≡ true → IsNode t.subject × IsNode t.object
  ends_are_nodes t e = let r = there t e in (numbered t.subject r.0, numbered t.object r.1)

  pub ends_listed : (t : Statement) → has (full s) t ≡ true → Contains (terms (nodes s)) t.subject × Contains (terms (nodes s)) t.object
  ends_listed t e = let r = there t e in (term_listed (nodes s) t.subject r.0, term_listed (nodes s) t.object r.1)

  -- numbered anew, the full graph has the same nodes
  pub nodes_again : nodes_of (full s) empty (terms (nodes s)) ≡ nodes s
  nodes_again =
      same_nodes_within (nodes_of (full s) empty (terms (nodes s))) (nodes s)
      (λ x h. at x ((nodes_of_is (full s) empty (terms (nodes s)) x).0 h))
      (λ x h. (nodes_of_is (full s) empty (terms (nodes s)) x).1 (inr (term_listed (nodes s) x h)))
    where
      end : (x : Term) (t : Statement) → has (full s) t ≡ true → (x ≡ t.subject) ⊎ (x ≡ t.object) → has_term (nodes s) x ≡ true
      end x t h (inl e) = ap (has_term (nodes s)) e ∙ (there t h).0
      end x t h (inr e) = ap (has_term (nodes s)) e ∙ (there t h).1

      at : (x : Term) → (IsNodeOf (full s) x ⊎ IsNodeOf empty x) ⊎ Contains (terms (nodes s)) x → has_term (nodes s) x ≡ true
      at x (inl (inl n)) = end x n.0 n.1 n.2
      at x (inl (inr n)) = absurd (false≢true (sym (has-empty n.0) ∙ n.1))
      at x (inr c) = has_term_listed (nodes s) x c

  pub node_listed : (x : ℕ) → x < node_count s → Contains (terms (nodes s)) (node s x)
  node_listed x l = (x, l, get_or_from_slice_get (terms (nodes s)) x (node s x) (node s x) (node_there x l))

  -- what is said of the node of a number
  pub of_node : (x : ℕ) (P : Term → Type 0) → x < node_count s → OfNode s x P ↔ P (node s x)
  of_node x P l = (λ h. subst P (sym (node_is x h.0 h.1)) h.2, λ h. (node s x, node_there x l, h))
