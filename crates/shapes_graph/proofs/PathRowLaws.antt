-- In the profile each path node has a form, so that the path of a shape stands in the table.
use Rattle.std.proofs.Common.{◌≡◌, ◌⊎◌, inl, inr, ℕ, zero, suc, ◌+◌, ◌<◌, true, List, [], ◌∷◌, map, length, Contains, Option, Some, None, slice_get, refl, sym, ap, subst, ◌∙◌, arith}
use Rattle.std.specs.Prelude.{IfSome, option_map, option_and_then, filter_map, flat_map}
use Rattle.std.specs.List.{cons_option}
use Rattle.std.proofs.lemmas.Option.{slice_get_within}
use Rattle.rdf_terms.specs.declared.term.Term.{Term}
use Rattle.rdf_terms.specs.Graph.{Graph, empty}
use Rattle.rdf_terms.specs.Nodes.{terms, has_term}
use Rattle.rdf_terms.specs.Vocab.Sh as sh
use Rattle.rdf_terms.specs.Vocab.Rdf as rdf
use Rattle.rdf_terms.specs.Vocab.Rdfs as rdfs
use Rattle.rdf_terms.proofs.Members.{in_none, in_first, in_rest, in_cases, in_flat_map, map_in}
use Rattle.rdf_terms.proofs.NodesLaws.{nodes_of_list_is, nodes_of_first, has_term_at, term_listed, place_of_term, terms_is}
use Rattle.rdf_terms.proofs.Values.{IsListOf-objects}
use Rattle.rdf_navigation.specs.Values.{values, first_of, value_of}
use Rattle.rdf_navigation.proofs.PropertyLaws.{same_some}
use Rattle.digraph.specs.Depth.{depth_over, depth_in}
use Rattle.property_paths.specs.declared.paths.PathNode.{PathNode}
use Rattle.property_paths.specs.declared.paths.PathNode.TheVariants as node
use Rattle.shapes_profile.specs.Shapes.{shape_nodes, shape_terms, shape_at, place_in}
use Rattle.property_paths.specs.Paths.{parts_of, path_node, path_parts, graph_nodes, node_count, path_depth, nodes_in}
use Rattle.shapes_profile.specs.PathNodes.{path_nodes}
use Rattle.shapes_profile.specs.Profile.{IsPathTooDeep, IsInProfile}
use Rattle.shapes_graph.specs.declared.paths.PathForm.{PathForm}
use Rattle.shapes_graph.specs.declared.paths.PathForm.TheVariants.{Predicate, Sequence, ZeroOrMore}
use Rattle.shapes_graph.specs.PathForms.{path_number, numbered, text_of, parts_of_form, class_paths, paths, path_of}
use Rattle.shapes_profile.proofs.PathNodeLaws.{path_part}
use Rattle.shapes_graph.proofs.NumberLaws.{place_there}

no_depth : {X : Type 0} (F : X → Option (List X)) (k : ℕ) (x : X) → F x ≡ None → depth_in F k x ≡ None
no_depth F zero x e = refl
no_depth {X} F (suc k) x e = ap (option_and_then (λ (ys : List X). depth_over (λ (y : X). depth_in F k y) ys)) e

too_deep : (s : Graph) (x : Term) → path_node s x ≡ None → IsPathTooDeep s x
unfolding path_depth
too_deep s x e q f = absurd (let z : None ≡ Some q = sym (no_depth (path_parts s) (node_count s) x (ap (option_map parts_of) e)) ∙ f in cc)

formed : (s : Graph) → IsInProfile s → (i : ℕ) (x : Term) → slice_get (terms (path_nodes s)) i ≡ Some x → (n : PathNode) × (path_node s x ≡ Some n)
formed s h i x e = by (path_node s x) refl
  where
    by : (o : Option PathNode) → path_node s x ≡ o → (n : PathNode) × (path_node s x ≡ Some n)
    by None f = absurd (h.paths_fit i x e (too_deep s x f))
    by (Some n) f = (n, f)

-- where each item has a value, none is left out
all_kept : {X Y : Type 0} (f : X → Option Y) (xs : List X) → ((i : ℕ) (x : X) → slice_get xs i ≡ Some x → (y : Y) × (f x ≡ Some y)) → length (filter_map f xs) ≡ length xs
all_kept f [] h = refl
all_kept {X} {Y} f (x ∷ xs) h =
    ap (λ (o : Option Y). length (cons_option o (filter_map f xs))) (h 0 x refl).1
    ∙ ap suc (all_kept f xs (λ i y e. h (suc i) y e))

four_more : (a b : ℕ) → a ≡ b → suc (suc (suc (suc a))) ≡ 4 + b
four_more a b e = omega (arith, e)

pub path_count : (s : Graph) → IsInProfile s → length (paths s) ≡ 4 + length (terms (path_nodes s))
unfolding paths class_paths
path_count s h = four_more _ _ (all_kept (λ (x : Term). option_map (numbered (path_number s)) (path_node s x)) (terms (path_nodes s)) form)
  where
    form : (i : ℕ) (x : Term) → slice_get (terms (path_nodes s)) i ≡ Some x → (f : PathForm) × (option_map (numbered (path_number s)) (path_node s x) ≡ Some f)
    form i x e = let n = formed s h i x e in (numbered (path_number s) n.0, ap (option_map (numbered (path_number s))) n.1)

first_in : (ys : List Term) (y : Term) → first_of ys ≡ Some y → Contains ys y
first_in [] y e = absurd (let z : None ≡ Some y = e in cc)
first_in (z ∷ zs) y e = subst (Contains (z ∷ zs)) (same_some e) (in_first z zs)

own_node : (k : ℕ) (s : Graph) (y : Term) → 0 < k → Contains (nodes_in k s y) y
own_node zero s y lt = absurd (omega (arith, lt))
own_node (suc k) s y lt = in_first y _

-- the path of a shape is one of the path nodes
path_listed : (s : Graph) (n : ℕ) (x y : Term) → shape_at s n ≡ Some x → value_of s x sh.path ≡ Some y → has_term (path_nodes s) y ≡ true
unfolding path_nodes
path_listed s n x y e f =
    let shape = term_listed (shape_nodes s) x (has_term_at (shape_nodes s) x n e) in
    let value = first_in (values s x sh.path) y f in
    let node = (nodes_of_first s empty [] (record { subject = x; predicate = sh.path; object = y }) ((IsListOf-objects s x sh.path y).0 value)).1 in
    let place = place_of_term (graph_nodes s) y node in
    let some : 0 < node_count s = omega (arith, slice_get_within (terms (graph_nodes s)) place.0 y place.1) in
    let within = in_flat_map (λ (p : Term). nodes_in (node_count s) s p) (values s x sh.path) y y value (own_node (node_count s) s y some) in
    (nodes_of_list_is (flat_map (λ (x : Term). flat_map (λ (p : Term). nodes_in (node_count s) s p) (values s x sh.path)) (shape_terms s)) y).1
    (in_flat_map (λ (x : Term). flat_map (λ (p : Term). nodes_in (node_count s) s p) (values s x sh.path)) (shape_terms s) x y shape within)

node_within : (s : Graph) → IsInProfile s → (y : Term) → has_term (path_nodes s) y ≡ true → path_number s y < length (paths s)
unfolding path_number
node_within s h y t =
    let place = place_of_term (path_nodes s) y t in
    let at = place_there (path_nodes s) y place.0 place.1 in
    let low = slice_get_within (terms (path_nodes s)) place.0 y place.1 in
    let low_number : place_in (terms (path_nodes s)) y < length (terms (path_nodes s)) = subst (λ (i : ℕ). i < length (terms (path_nodes s))) at low in
    omega (arith, low_number, path_count s h)

pub path_within : (s : Graph) → IsInProfile s → (n p : ℕ) → path_of s n ≡ Some p → p < length (paths s)
unfolding path_of
path_within s h n p e = by_shape (shape_at s n) refl e
  where
    by_value : (x : Term) → shape_at s n ≡ Some x → (v : Option Term) → value_of s x sh.path ≡ v → option_map (path_number s) v ≡ Some p → p < length (paths s)
    by_value x f None k g = absurd (let z : None ≡ Some p = g in cc)
    by_value x f (Some y) k g = subst (λ (i : ℕ). i < length (paths s)) (same_some g) (node_within s h y (path_listed s n x y f k))

    by_shape : (o : Option Term) → shape_at s n ≡ o → option_map (path_number s) (option_and_then (λ (x : Term). value_of s x sh.path) o) ≡ Some p → p < length (paths s)
    by_shape None f g = absurd (let z : None ≡ Some p = g in cc)
    by_shape (Some x) f g = by_value x f (value_of s x sh.path) refl g

pub bounded : (s : Graph) → IsInProfile s → (n : ℕ) (o : Option ℕ) → o ≡ path_of s n → IfSome o (λ p. p < length (paths s))
bounded s h n None e = tt
bounded s h n (Some p) e = path_within s h n p (sym e)

-- what is kept comes from an item
kept_from : {X Y : Type 0} (f : X → Option Y) (xs : List X) (i : ℕ) (y : Y) → slice_get (filter_map f xs) i ≡ Some y → (x : X) × Contains xs x × (f x ≡ Some y)
kept_from f [] i y e = absurd (let l = slice_get_within [] i y e in omega (arith, l))
kept_from {X} {Y} f (x ∷ xs) i y e = at (f x) refl i e (λ j d. kept_from f xs j y d)
  where
    at : (o : Option Y) → f x ≡ o → (i : ℕ) → slice_get (cons_option o (filter_map f xs)) i ≡ Some y
        → ((j : ℕ) → slice_get (filter_map f xs) j ≡ Some y → (x : X) × Contains xs x × (f x ≡ Some y)) → (z : X) × Contains (x ∷ xs) z × (f z ≡ Some y)
    at None g i e later = let r = later i e in (r.0, in_rest x xs r.0 r.1, r.2)
    at (Some z) g zero e later = (x, in_first x xs, g ∙ e)
    at (Some z) g (suc j) e later = let r = later j e in (r.0, in_rest x xs r.0 r.1, r.2)

parts_numbered : (k : Term → ℕ) (n : PathNode) → parts_of_form (numbered k n) ≡ map k (parts_of n)
parts_numbered k (node.Predicate i) = refl
parts_numbered k (node.Inverse q) = refl
parts_numbered k (node.Sequence a b) = refl
parts_numbered k (node.Alternative qs) = refl
parts_numbered k (node.ZeroOrMore q) = refl
parts_numbered k (node.OneOrMore q) = refl
parts_numbered k (node.ZeroOrOne q) = refl

form_number : {A : Type 0} (k : Term → ℕ) (o : Option PathNode) (f : PathForm) → option_map (numbered k) o ≡ Some f → ((n : PathNode) → o ≡ Some n → numbered k n ≡ f → A) → A
form_number k None f e use_it = absurd (let z : None ≡ Some f = e in cc)
form_number k (Some n) f e use_it = use_it n refl (same_some e)

-- the forms of path nodes name path nodes
node_parts : (s : Graph) → IsInProfile s → (x : Term) (f : PathForm) → Contains (terms (path_nodes s)) x → option_map (numbered (path_number s)) (path_node s x) ≡ Some f
    → (q : ℕ) → Contains (parts_of_form f) q → q < length (paths s)
node_parts s h x f listed e q c =
    form_number (path_number s) (path_node s x) f e
    (λ n is own.
    let d = subst (λ (qs : List ℕ). Contains qs q) (parts_numbered (path_number s) n) (subst (λ (g : PathForm). Contains (parts_of_form g) q) (sym own) c) in
    let m = map_in (path_number s) (parts_of n) q d in
    let part = path_part s x m.0 ((terms_is (path_nodes s) x).1 listed) (parts_of n, ap (option_map parts_of) is, m.1) in
    subst (λ (i : ℕ). i < length (paths s)) m.2 (node_within s h m.0 part))

-- the numbers in a form are of paths
pub parts_within : (s : Graph) → IsInProfile s → (p : ℕ) (f : PathForm) → slice_get (paths s) p ≡ Some f → (q : ℕ) → Contains (parts_of_form f) q → q < length (paths s)
unfolding paths class_paths
parts_within s h p f e q c = at p e
  where
    low : (r : ℕ) → r < 4 → q ≡ r → q < length (paths s)
    low r l k = omega (arith, path_count s h, l, k)

    none : Contains [] q → q < length (paths s)
    none d = absurd (in_none q d)

    one : (r : ℕ) → r < 4 → Contains (r ∷ []) q → q < length (paths s)
    one r l d = by (in_cases r [] q d)
      where
        by : (r ≡ q) ⊎ Contains [] q → q < length (paths s)
        by (inl k) = low r l (sym k)
        by (inr k) = none k

    two : Contains (0 ∷ 2 ∷ []) q → q < length (paths s)
    two d = by (in_cases 0 (2 ∷ []) q d)
      where
        by : (0 ≡ q) ⊎ Contains (2 ∷ []) q → q < length (paths s)
        by (inl k) = low 0 (omega arith) (sym k)
        by (inr k) = one 2 (omega arith) k

    own : (g : PathForm) → g ≡ f → Contains (parts_of_form g) q
    own g k = subst (λ (u : PathForm). Contains (parts_of_form u) q) (sym k) c

    at : (p : ℕ) → slice_get (paths s) p ≡ Some f → q < length (paths s)
    at zero e = none (own (Predicate (text_of rdf.type_)) (same_some e))
    at (suc zero) e = none (own (Predicate (text_of rdfs.sub_class_of)) (same_some e))
    at (suc (suc zero)) e = one 1 (omega arith) (own (ZeroOrMore 1) (same_some e))
    at (suc (suc (suc zero))) e = two (own (Sequence 0 2) (same_some e))
    at (suc (suc (suc (suc i)))) e =
        let k = kept_from (λ (x : Term). option_map (numbered (path_number s)) (path_node s x)) (terms (path_nodes s)) i f e in
        node_parts s h k.0 f k.1 k.2 q c
