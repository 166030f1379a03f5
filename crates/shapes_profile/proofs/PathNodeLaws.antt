-- The path nodes are what is reached from the sh:path values of shapes.
use Rattle.std.proofs.Common.{◌≡◌, ◌↔◌, ℕ, zero, suc, ◌<◌, ◌⊎◌, inl, inr, true, List, [], ◌∷◌, length, Contains, refl, sym, subst, arith}
use Rattle.std.specs.Prelude.{Option, Some, None, flat_map, unwrap_or, option_map, min, slice_get, false}
use Rattle.rdf_terms.specs.declared.term.Term.{Term}
use Rattle.rdf_terms.specs.Graph.{Graph}
use Rattle.rdf_terms.specs.Nodes.{Nodes, terms, has_term, nodes_of_list}
use Rattle.rdf_terms.specs.Members.{IsSetOf}
use Rattle.rdf_terms.specs.Vocab.Sh as sh
use Rattle.rdf_terms.proofs.Orders.{same_term as equal_terms, term_tied}
use Rattle.rdf_terms.proofs.NodesLaws.{same_nodes_within, nodes_of_list_is, term_listed, has_term_at}
use Rattle.rdf_terms.proofs.Members.{in_none, in_first, in_rest, in_cases, in_flat_map, flat_map_in}
use Rattle.rdf_terms.proofs.Values.{IsListOf-objects}
use Rattle.digraph.specs.Walk.{IsWalk}
use Rattle.digraph.specs.Reach.{IsSuccessor, IsReached}
use Rattle.digraph.proofs.WalkLaws.{walk_keeps, reached_next}
use Rattle.digraph.proofs.ShortWalks.{short_walk, walk_visits}
use Rattle.rdf_navigation.specs.Values.{same_term, values}
use Rattle.shapes_profile.specs.Shapes.{shape_terms}
use Rattle.property_paths.specs.Paths.{path_parts, graph_nodes, node_count, nodes_in, path_depth}
use Rattle.shapes_profile.specs.PathNodes.{path_nodes}
use Rattle.property_paths.specs.PathTable.{listed_depth}
use Rattle.shapes_profile.specs.RankTable.{is_too_deep}
use Rattle.shapes_profile.specs.Profile.{IsPathTooDeep}
use Rattle.shapes_profile.proofs.RankLaws.{deep_is, deep_not}
use Rattle.property_paths.proofs.PartLaws.{object_node, part_node, listed_is}

module _ (s : Graph) where
  abbrev IsPart : Term → Term → Type 0
  IsPart x y = IsSuccessor (path_parts s) x y

  abbrev IsNode : Term → Type 0
  IsNode x = has_term (graph_nodes s) x ≡ true

  part_listed : (x y : Term) → IsPart x y → Contains (unwrap_or (path_parts s x) []) y
  part_listed x y p = subst (λ (o : Option (List Term)). Contains (unwrap_or o []) y) (sym p.1) p.2

  listed_part : (x y : Term) → Contains (unwrap_or (path_parts s x) []) y → IsPart x y
  listed_part x y c = at (path_parts s x) refl c
    where
      at : (o : Option (List Term)) → path_parts s x ≡ o → Contains (unwrap_or o []) y → IsPart x y
      at None e c = absurd (in_none y c)
      at (Some ts) e c = (ts, e, c)

  -- what a node is made of is reached from it
  made_walk : (k : ℕ) (x y : Term) → Contains (nodes_in k s x) y → (w : List Term) × IsWalk IsPart w x y
  made_walk zero x y c = absurd (in_none y c)
  made_walk (suc k) x y c = at (in_cases x (flat_map (λ z. nodes_in k s z) (unwrap_or (path_parts s x) [])) y c) (λ z d. made_walk k z y d)
    where
      at : (x ≡ y) ⊎ Contains (flat_map (λ z. nodes_in k s z) (unwrap_or (path_parts s x) [])) y
          → ((z : Term) → Contains (nodes_in k s z) y → (w : List Term) × IsWalk IsPart w z y) → (w : List Term) × IsWalk IsPart w x y
      at (inl e) more = ([], e)
      at (inr d) more =
          let m = flat_map_in (λ z. nodes_in k s z) (unwrap_or (path_parts s x) []) y d in
          let w = more m.0 m.2 in
          (m.0 ∷ w.0, (listed_part x m.0 m.1, w.1))

  walk_made : (k : ℕ) (w : List Term) (x y : Term) → length w < k → IsWalk IsPart w x y → Contains (nodes_in k s x) y
  walk_made zero w x y l h = absurd (omega (arith, l))
  walk_made (suc k) [] x y l h = subst (Contains (nodes_in (suc k) s x)) h (in_first x _)
  walk_made (suc k) (z ∷ zs) x y l h =
      in_rest x _ y (in_flat_map (λ u. nodes_in k s u) (unwrap_or (path_parts s x) []) z y (part_listed x z h.0) (walk_made k zs z y (omega (arith, l)) h.1))

  kept : (x y : Term) → IsNode x → IsPart x y → IsNode y
  kept x y n p = part_node s x p.0 p.1 y p.2

  -- and a walk without repeats has fewer steps than the graph has nodes
  reached_made : (w : List Term) (x y : Term) → IsNode x → IsWalk IsPart w x y → Contains (nodes_in (node_count s) s x) y
  reached_made w x y n h =
      let v = short_walk same_term (λ a b e. equal_terms a b e) (λ a. term_tied a) IsPart (terms (graph_nodes s)) w x y h
      (λ u c. term_listed (graph_nodes s) u (walk_visits IsPart IsNode kept w x y h n u c)) in
      walk_made (node_count s) v.0 x y v.2 v.1

  -- the sh:path values of shapes
  abbrev pub path_values : List Term
  path_values = flat_map (λ x. values s x sh.path) (shape_terms s)

  pub path_value_node : (p : Term) → Contains path_values p → IsNode p
  path_value_node p c =
      let m = flat_map_in (λ x. values s x sh.path) (shape_terms s) p c in
      object_node s m.0 sh.path p ((IsListOf-objects s m.0 sh.path p).0 m.2)

  pub reached_node : (y : Term) → IsReached (path_parts s) path_values y → IsNode y
  reached_node y r = walk_keeps IsPart IsNode kept r.2.0 r.0 y r.2.1 (path_value_node r.0 r.1)

  abbrev made_of_values : List Term
  made_of_values = flat_map (λ x. flat_map (λ p. nodes_in (node_count s) s p) (values s x sh.path)) (shape_terms s)

  made_is : (y : Term) → Contains made_of_values y ↔ IsReached (path_parts s) path_values y
  made_is y = (to, from)
    where
      to : Contains made_of_values y → IsReached (path_parts s) path_values y
      to c =
          let x = flat_map_in (λ x. flat_map (λ p. nodes_in (node_count s) s p) (values s x sh.path)) (shape_terms s) y c in
          let p = flat_map_in (λ p. nodes_in (node_count s) s p) (values s x.0 sh.path) y x.2 in
          (p.0, in_flat_map (λ x. values s x sh.path) (shape_terms s) x.0 p.0 x.1 p.1, made_walk (node_count s) p.0 y p.2)

      from : IsReached (path_parts s) path_values y → Contains made_of_values y
      from r =
          let x = flat_map_in (λ x. values s x sh.path) (shape_terms s) r.0 r.1 in
          in_flat_map (λ x. flat_map (λ p. nodes_in (node_count s) s p) (values s x sh.path)) (shape_terms s) x.0 y x.1
          (in_flat_map (λ p. nodes_in (node_count s) s p) (values s x.0 sh.path) r.0 y x.2 (reached_made r.2.0 r.0 y (path_value_node r.0 r.1) r.2.1))

  pub path_nodes_are : (n : Nodes) → IsSetOf (IsReached (path_parts s) path_values) n → n ≡ path_nodes s
  unfolding path_nodes
  path_nodes_are n all =
      same_nodes_within n (nodes_of_list made_of_values) (λ t h. (nodes_of_list_is made_of_values t).1 ((made_is t).1 ((all t).0 h))) (λ t h. (all t).1 ((made_is t).0 ((nodes_of_list_is made_of_values t).0 h)))

  pub path_node_node : (y : Term) → has_term (path_nodes s) y ≡ true → IsNode y
  unfolding path_nodes
  path_node_node y h = reached_node y ((made_is y).0 ((nodes_of_list_is made_of_values y).0 h))

  own_depth : (x : Term) (i : ℕ) → slice_get (terms (path_nodes s)) i ≡ Some x → listed_depth s x ≡ path_depth s x
  own_depth x i e = listed_is s x (path_node_node x (has_term_at (path_nodes s) x i e))

  -- what the test of a path node says
  pub deep_path : (x : Term) (i : ℕ) → slice_get (terms (path_nodes s)) i ≡ Some x → is_too_deep 33 (option_map (min 33) (listed_depth s x)) ≡ true → IsPathTooDeep s x
  deep_path x i e h =
      deep_is 32 (path_depth s x) (subst (λ (d : Option ℕ). is_too_deep 33 (option_map (min 33) d) ≡ true) (own_depth x i e) h)

  pub shallow_path : (x : Term) (i : ℕ) → slice_get (terms (path_nodes s)) i ≡ Some x → is_too_deep 33 (option_map (min 33) (listed_depth s x)) ≡ false → ¬ (IsPathTooDeep s x)
  shallow_path x i e h =
      deep_not 32 (path_depth s x) (subst (λ (d : Option ℕ). is_too_deep 33 (option_map (min 33) d) ≡ false) (own_depth x i e) h)

  -- the parts of a path node are path nodes
  pub path_part : (x y : Term) → has_term (path_nodes s) x ≡ true → IsPart x y → has_term (path_nodes s) y ≡ true
  unfolding path_nodes
  path_part x y h p =
      (nodes_of_list_is made_of_values y).1 ((made_is y).1 (reached_next (path_parts s) path_values x y ((made_is x).0 ((nodes_of_list_is made_of_values x).0 h)) p))
