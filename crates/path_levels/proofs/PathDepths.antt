-- In the profile no path of a shapes graph nests deeper than 32.
use Rattle.std.proofs.Common.{◌≡◌, ◌⊎◌, inl, inr, ℕ, zero, suc, ◌+◌, ◌<◌, ◌≤◌, true, List, [], ◌∷◌, map, length, Contains, Option, Some, None, slice_get, refl, sym, ap, ◌∙◌, subst, arith}
use Rattle.std.specs.Prelude.{option_map, option_and_then, filter_map}
use Rattle.std.specs.List.{cons_option}
use Rattle.std.proofs.lemmas.Option.{slice_get_within, slice_get-get_or}
use Rattle.rdf_terms.specs.declared.term.Term.{Term}
use Rattle.rdf_terms.specs.declared.term.Term.TheVariants.{Literal}
use Rattle.rdf_terms.specs.Graph.{Graph}
use Rattle.rdf_terms.specs.Nodes.{terms, has_term}
use Rattle.rdf_terms.specs.Vocab.Rdf as rdf
use Rattle.rdf_terms.specs.Vocab.Rdfs as rdfs
use Rattle.rdf_terms.proofs.Members.{in_first, in_rest}
use Rattle.rdf_terms.proofs.NodesLaws.{has_term_at, place_of_term}
use Rattle.rdf_navigation.proofs.PropertyLaws.{same_some, not_missing}
use Rattle.rdf_navigation.specs.Numbers.{term_at}
use Rattle.digraph.specs.Depth.{depth_in, depth_over}
use Rattle.digraph.specs.Reach.{IsSuccessor}
use Rattle.digraph.proofs.DepthLaws.{successor_depth}
use Rattle.property_paths.specs.declared.paths.PathNode.{PathNode}
use Rattle.property_paths.specs.declared.paths.PathNode.TheVariants as node
use Rattle.property_paths.specs.Paths.{parts_of, path_node, path_parts, node_count, path_depth}
use Rattle.shapes_profile.specs.Logic.{EachOf}
use Rattle.shapes_profile.specs.PathNodes.{path_nodes}
use Rattle.shapes_profile.specs.Profile.{IsPathTooDeep, IsInProfile}
use Rattle.shapes_profile.proofs.PathNodeLaws.{path_part}
use Rattle.shapes_graph.specs.declared.paths.PathForm.{PathForm}
use Rattle.shapes_graph.specs.declared.paths.PathForm.TheVariants.{Predicate, Sequence, ZeroOrMore}
use Rattle.shapes_graph.specs.PathForms.{path_number, numbered, text_of, class_paths, paths}
use Rattle.shapes_graph.specs.Reach.{path_levels}
use Rattle.shapes_graph.proofs.NumberLaws.{place_there}
use Rattle.shapes_graph.proofs.PathRowLaws.{path_count}
use Rattle.path_levels.proofs.OpenedPaths.{NamesBy, NestsIn}

-- where each item has a value, the values stand at the places of the items
kept_at : {X Y : Type 0} (f : X → Option Y) (xs : List X) → ((i : ℕ) (x : X) → slice_get xs i ≡ Some x → (y : Y) × (f x ≡ Some y)) → (i : ℕ) (x : X) → slice_get xs i ≡ Some x → slice_get (filter_map f xs) i ≡ f x
kept_at f [] all i x e = absurd (not_missing x e)
kept_at f (z ∷ zs) all zero x e =
    let w = all 0 z refl in
    ap (λ o. slice_get (cons_option o (filter_map f zs)) 0) w.1 ∙ (sym w.1 ∙ ap f (same_some e))
kept_at f (z ∷ zs) all (suc i) x e =
    let w = all 0 z refl in
    ap (λ o. slice_get (cons_option o (filter_map f zs)) (suc i)) w.1 ∙ kept_at f zs (λ j y d. all (suc j) y d) i x e

-- a number with a depth up to the bound
within_bound : (n : ℕ) (o : Option ℕ) → ¬ ((q : ℕ) → o ≡ Some q → n < q) → (d : ℕ) × (o ≡ Some d) × (d ≤ n)
within_bound n None over = absurd (over (λ q e. absurd (not_missing q e)))
within_bound n (Some d) over = at (split d n)
  where
    split : (d n : ℕ) → (d ≤ n) ⊎ (n < d)
    split d n = grind arith

    at : (d ≤ n) ⊎ (n < d) → (e : ℕ) × (Some d ≡ Some e) × (e ≤ n)
    at (inl l) = (d, refl, l)
    at (inr l) = absurd (over (λ q e. subst (λ m. n < m) (same_some e) l))

module _ (s : Graph) (h : IsInProfile s) where
  deep : (i : ℕ) (x : Term) → slice_get (terms (path_nodes s)) i ≡ Some x → (d : ℕ) × (path_depth s x ≡ Some d) × (d ≤ 32)
  deep i x e = within_bound 32 (path_depth s x) (h.paths_fit i x e)

  abbrev form_of_node : Term → Option PathForm
  form_of_node x = option_map (numbered (path_number s)) (path_node s x)

  -- a node with a depth is of a form
  formed : (k : ℕ) (x : Term) (d : ℕ) → depth_in (path_parts s) k x ≡ Some d → (n : PathNode) × (path_node s x ≡ Some n)
  formed zero x d e = absurd (not_missing d e)
  formed (suc k) x d e = at (path_node s x) refl
    where
      at : (o : Option PathNode) → path_node s x ≡ o → (n : PathNode) × (path_node s x ≡ Some n)
      at None f = absurd (not_missing d (sym (ap (λ (o : Option PathNode). option_and_then (λ (ys : List Term). depth_over (λ (y : Term). depth_in (path_parts s) k y) ys) (option_map parts_of o)) f) ∙ e))
      at (Some n) f = (n, f)

  all_formed : (i : ℕ) (x : Term) → slice_get (terms (path_nodes s)) i ≡ Some x → (f : PathForm) × (form_of_node x ≡ Some f)
  unfolding path_depth
  all_formed i x e =
      let d = deep i x e in
      let n = formed (node_count s) x d.0 d.1 in
      (numbered (path_number s) n.0, ap (option_map (numbered (path_number s))) n.1)

  after_four : (rest : List PathForm) (a b c d : PathForm) (i : ℕ) → slice_get (a ∷ b ∷ c ∷ d ∷ rest) (4 + i) ≡ slice_get rest i
  after_four rest a b c d i = let e : 4 + i ≡ suc (suc (suc (suc i))) = omega arith in ap (slice_get (a ∷ b ∷ c ∷ d ∷ rest)) e

  form_at_place : (i : ℕ) (x : Term) → slice_get (terms (path_nodes s)) i ≡ Some x → slice_get (paths s) (4 + i) ≡ form_of_node x
  unfolding paths class_paths
  form_at_place i x e = after_four (filter_map form_of_node (terms (path_nodes s))) (Predicate (text_of rdf.type_)) (Predicate (text_of rdfs.sub_class_of)) (ZeroOrMore 1) (Sequence 0 2) i ∙ kept_at form_of_node (terms (path_nodes s)) all_formed i x e

  number_is : (i : ℕ) (x : Term) → slice_get (terms (path_nodes s)) i ≡ Some x → 4 + i ≡ path_number s x
  unfolding path_number
  number_is i x e = ap (λ j. 4 + j) (place_there (path_nodes s) x i e)

  each_number : (F : ℕ → Type 0) (ys : List Term) → ((y : Term) → Contains ys y → F (path_number s y)) → EachOf F (map (path_number s) ys)
  each_number F [] f = tt
  each_number F (y ∷ ys) f = (f y (in_first y ys), each_number F ys (λ z c. f z (in_rest y ys z c)))

  -- what is true of the numbers of the parts is true of those that the form names
  names_parts : (F : ℕ → Type 0) (n : PathNode) → ((y : Term) → Contains (parts_of n) y → F (path_number s y)) → NamesBy F (Some (numbered (path_number s) n))
  names_parts F (node.Predicate i) f = tt
  names_parts F (node.Inverse q) f = f q (in_first q [])
  names_parts F (node.Sequence a b) f = (f a (in_first a (b ∷ [])), f b (in_rest a (b ∷ []) b (in_first b [])))
  names_parts F (node.Alternative qs) f = each_number F qs f
  names_parts F (node.ZeroOrMore q) f = f q (in_first q [])
  names_parts F (node.OneOrMore q) f = f q (in_first q [])
  names_parts F (node.ZeroOrOne q) f = f q (in_first q [])

  -- a path node nests less deep than any number above its depth
  node_nests : (m k : ℕ) (x : Term) (d : ℕ) → has_term (path_nodes s) x ≡ true → depth_in (path_parts s) k x ≡ Some d → d < m → NestsIn m (paths s) (path_number s x)
  unfolding NestsIn
  node_nests zero k x d t e l = absurd (omega (arith, l))
  node_nests (suc m) zero x d t e l = absurd (not_missing d e)
  node_nests (suc m) (suc k) x d t e l =
      let n = formed (suc k) x d e in
      let place = place_of_term (path_nodes s) x t in
      let at : slice_get (paths s) (path_number s x) ≡ Some (numbered (path_number s) n.0) =
      ap (slice_get (paths s)) (sym (number_is place.0 x place.1)) ∙ (form_at_place place.0 x place.1 ∙ ap (option_map (numbered (path_number s))) n.1) in
      subst (NamesBy (λ q. NestsIn m (paths s) q)) (sym at)
      (names_parts (λ q. NestsIn m (paths s) q) n.0
      (λ y c.
      let part : IsSuccessor (path_parts s) x y = (parts_of n.0, ap (option_map parts_of) n.1, c) in
      let less = successor_depth (path_parts s) k x y d e part in
      let b = less.2 in
      node_nests m k y less.0 (path_part s x y t part) less.1 (omega (arith, b, l))))

  -- the path of a place
  place_nests : (i : ℕ) → i < length (terms (path_nodes s)) → NestsIn path_levels (paths s) (4 + i)
  unfolding path_depth
  place_nests i l =
      let x = term_at (path_nodes s) i in
      let e : slice_get (terms (path_nodes s)) i ≡ Some (term_at (path_nodes s) i) = slice_get-get_or (terms (path_nodes s)) i (Literal [] [] None) l in
      let d = deep i (term_at (path_nodes s) i) e in
      let b = d.2 in
      subst (NestsIn path_levels (paths s)) (sym (number_is i (term_at (path_nodes s) i) e))
      (node_nests path_levels (node_count s) (term_at (path_nodes s) i) d.0 (has_term_at (path_nodes s) (term_at (path_nodes s) i) i e) d.1 (omega (arith, b)))

  -- the four paths of types and subclasses
  class_nests : (d p : ℕ) → p < 4 → NestsIn (suc (suc (suc d))) (paths s) p
  unfolding NestsIn paths class_paths
  class_nests d zero l = tt
  class_nests d (suc zero) l = tt
  class_nests d (suc (suc zero)) l = tt
  class_nests d (suc (suc (suc zero))) l = (tt, tt)
  class_nests d (suc (suc (suc (suc p)))) l = absurd (omega (arith, l))

  no_form : (d p : ℕ) → slice_get (paths s) p ≡ None → NestsIn (suc d) (paths s) p
  unfolding NestsIn
  no_form d p e = subst (NamesBy (λ q. NestsIn d (paths s) q)) (sym e) tt

  pub paths_nest : (p : ℕ) → NestsIn path_levels (paths s) p
  paths_nest p = at (slice_get (paths s) p) refl
    where
      split : (p : ℕ) → (p < 4) ⊎ ((i : ℕ) × (4 + i ≡ p))
      split zero = inl (omega arith)
      split (suc zero) = inl (omega arith)
      split (suc (suc zero)) = inl (omega arith)
      split (suc (suc (suc zero))) = inl (omega arith)
      split (suc (suc (suc (suc i)))) = inr (i, omega arith)

      some : (f : PathForm) → slice_get (paths s) p ≡ Some f → (p < 4) ⊎ ((i : ℕ) × (4 + i ≡ p)) → NestsIn path_levels (paths s) p
      some f e (inl l) = class_nests 30 p l
      some f e (inr r) =
          let l = slice_get_within (paths s) p f e in
          let c = path_count s h in
          let same = r.1 in
          subst (NestsIn path_levels (paths s)) r.1 (place_nests r.0 (omega (arith, l, c, same)))

      at : (o : Option PathForm) → slice_get (paths s) p ≡ o → NestsIn path_levels (paths s) p
      at None e = no_form 32 p e
      at (Some f) e = some f e (split p)
