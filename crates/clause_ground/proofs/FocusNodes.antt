-- The focus nodes of edited graphs have numbers.
use Rattle.std.proofs.Common.{◌≡◌, ◌⊎◌, inl, inr, ℕ, ◌<◌, Bool, true, false, cond, IsTrue, List, [], ◌∷◌, Contains, Some, length, slice_get, refl, sym, ap, ◌∙◌, subst}
use Rattle.std.proofs.lemmas.Bool.{lt-ltb}
use Rattle.std.proofs.lemmas.Option.{slice_get-get_or, slice_get_within}
use Rattle.rdf_terms.specs.declared.term.Term.{Term}
use Rattle.rdf_terms.specs.Graph.{Graph, has, triples}
use Rattle.rdf_terms.specs.Members.{InGraph}
use Rattle.rdf_terms.specs.Nodes.{terms, has_term}
use Rattle.rdf_terms.specs.Statement.{Statement}
use Rattle.rdf_terms.specs.Vocab.Sh as sh
use Rattle.rdf_terms.proofs.GraphLaws.{listed_of_has}
use Rattle.rdf_terms.proofs.Members.{in_first, in_flat_map}
use Rattle.rdf_terms.proofs.NodesLaws.{nodes_of_is, term_listed}
use Rattle.rdf_navigation.specs.Instances.{IsInstance}
use Rattle.rdf_navigation.specs.Values.{same_term}
use Rattle.shapes_profile.specs.Shapes.{shape_at, shape_terms}
use Rattle.shapes_graph.specs.Targets.{IsFocusOf, IsFocus}
use Rattle.repair_problem.specs.Setting.{Setting, IsEdit, full, node, nodes, target_node_of, target_nodes}
use Rattle.path_levels.specs.PossibleNodes.{node_count}
use Rattle.path_levels.proofs.NodeLaws.{IsNode, node_is, ends_are_nodes}
use Rattle.atom_parts.specs.PartsTable.{is_shape}
use Rattle.atom_parts.proofs.Facts.{tied}

named_target : (s : Setting) (shape x : Term) → InGraph s.shapes shape sh.target_node x → Contains (target_nodes s.shapes) x
named_target s shape x h = in_flat_map target_node_of (triples s.shapes) t x (listed_of_has s.shapes t h) (at (same_term sh.target_node sh.target_node) (tied sh.target_node sh.target_node refl))
  where
    t : Statement
    t = record { subject = shape; predicate = sh.target_node; object = x }

    at : (b : Bool) → b ≡ true → Contains (cond b (x ∷ []) []) x
    at b e = subst (λ c. Contains (cond c (x ∷ []) []) x) (sym e) (in_first x [])

named_node : (s : Setting) (x : Term) → Contains (target_nodes s.shapes) x → IsNode s x
named_node s x h =
    let c = term_listed (nodes s) x ((nodes_of_is s.present s.offers (target_nodes s.shapes) x).1 (inr h)) in
    (c.0, c.1, node_is s c.0 x (slice_get-get_or (terms (nodes s)) c.0 x c.1 ∙ ap Some c.2))

module _ (s : Setting) (g : Graph) (within : IsEdit s g) where
  ends : (a p b : Term) → InGraph g a p b → IsNode s a × IsNode s b
  ends a p b h = ends_are_nodes s (record { subject = a; predicate = p; object = b }) (within (record { subject = a; predicate = p; object = b }) h)

  instance_node : (x c : Term) → IsInstance g x c → IsNode s x
  instance_node x c h = (ends x _ h.0 h.1).0

  of_shape : (shape x : Term) → IsFocusOf s.shapes shape g x → IsNode s x
  of_shape shape x (inl h) = named_node s x (named_target s shape x h)
  of_shape shape x (inr (inl h)) = instance_node x h.0 h.2
  of_shape shape x (inr (inr (inl h))) = instance_node x shape h.1
  of_shape shape x (inr (inr (inr (inl h)))) = (ends x h.0 h.1 h.3).0
  of_shape shape x (inr (inr (inr (inr h)))) = (ends h.1 h.0 x h.3).1

  pub focus_node : (n : ℕ) (x : Term) → IsFocus s.shapes n g x → (is_shape s n ≡ true) × IsNode s x
  unfolding IsFocus
  focus_node n x h = (lt-ltb n (length (shape_terms s.shapes)) (slice_get_within (shape_terms s.shapes) n h.0 h.1), of_shape h.0 x h.2)
