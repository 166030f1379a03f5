-- A property shape whose path is a predicate has it as a value of sh:path.
use Rattle.std.proofs.Common.{◌≡◌, ℕ, zero, suc, ◌+◌, ◌<◌, Bool, true, false, cond, List, [], ◌∷◌, Contains, Option, Some, None, slice_get, refl, sym, ap, subst, ◌∙◌, arith}
use Rattle.std.specs.Prelude.{option_map, option_and_then, filter_map, flat_map}
use Rattle.std.specs.List.{cons_option}
use Rattle.std.proofs.lemmas.Bool.{false≢true}
use Rattle.std.proofs.lemmas.Option.{slice_get_within}
use Rattle.rdf_terms.specs.declared.term.Term.{Term}
use Rattle.rdf_terms.specs.declared.term.Term.TheVariants.{Iri, Blank, Literal}
use Rattle.rdf_terms.specs.Statement.{Statement}
use Rattle.rdf_terms.specs.Graph.{Graph, empty}
use Rattle.rdf_terms.specs.Nodes.{terms, has_term}
use Rattle.rdf_terms.specs.Members.{InGraph}
use Rattle.rdf_terms.specs.Vocab.Sh as sh
use Rattle.rdf_terms.specs.Vocab.Rdf as rdf
use Rattle.rdf_terms.proofs.Members.{in_first, in_flat_map}
use Rattle.rdf_terms.proofs.NodesLaws.{nodes_of_list_is, nodes_of_first, has_term_at, term_listed, place_of_term}
use Rattle.rdf_terms.proofs.Values.{IsListOf-objects}
use Rattle.rdf_navigation.specs.Values.{same_term, values, first_of, value_of, only_value}
use Rattle.rdf_navigation.specs.Lists.{members, blank_members}
use Rattle.rdf_navigation.proofs.PropertyLaws.{same_some, not_missing}
use Rattle.digraph.specs.Depth.{depth_over, depth_in}
use Rattle.property_paths.specs.declared.paths.PathNode.{PathNode}
use Rattle.property_paths.specs.declared.paths.PathNode.TheVariants as node
use Rattle.property_paths.specs.Paths.{parts_of, alternative_of, node_of_triple, node_of_triples, triples_about, sequence_of, node_of_blank, path_node, path_parts, graph_nodes, node_count, path_depth, nodes_in}
use Rattle.shapes_profile.specs.PathNodes.{path_nodes}
use Rattle.shapes_profile.specs.Profile.{IsPathTooDeep, IsInProfile}
use Rattle.shapes_profile.specs.Shapes.{shape_nodes, shape_terms, shape_at, place_in}
use Rattle.shapes_graph.specs.declared.paths.PathForm.{PathForm}
use Rattle.shapes_graph.specs.declared.paths.PathForm.TheVariants.{Predicate}
use Rattle.shapes_graph.specs.OrderLiterals.{path_form_of}
use Rattle.shapes_graph.specs.PathForms.{path_number, numbered, class_paths, paths, path_of}
use Rattle.shapes_graph.proofs.NumberLaws.{place_there}

-- a blank node is no predicate path
abbrev is_predicate : Option PathNode → Bool
is_predicate (Some (node.Predicate i)) = true
is_predicate _ = false

alternative : (o : Option (List Term)) → is_predicate (alternative_of o) ≡ false
alternative None = refl
alternative (Some []) = refl
alternative (Some (a ∷ [])) = refl
alternative (Some (a ∷ b ∷ qs)) = refl

of_cond : (b : Bool) (m n : Option PathNode) → is_predicate m ≡ false → is_predicate n ≡ false → is_predicate (cond b m n) ≡ false
of_cond true m n e f = e
of_cond false m n e f = f

of_triple : (s : Graph) (t : Statement) → is_predicate (node_of_triple s t) ≡ false
of_triple s t =
    of_cond (same_term t.predicate sh.alternative_path) _ _ (alternative (members s t.object))
    (of_cond (same_term t.predicate sh.inverse_path) _ _ refl
    (of_cond (same_term t.predicate sh.zero_or_more_path) _ _ refl
    (of_cond (same_term t.predicate sh.one_or_more_path) _ _ refl
    (of_cond (same_term t.predicate sh.zero_or_one_path) _ _ refl refl))))

of_triples : (s : Graph) (ts : List Statement) → is_predicate (node_of_triples s ts) ≡ false
of_triples s [] = refl
of_triples s (t ∷ []) = of_triple s t
of_triples s (t ∷ u ∷ ts) = refl

of_next : (a : Term) (o : Option Term) → is_predicate (option_map (λ (next : Term). node.Sequence a next) o) ≡ false
of_next a None = refl
of_next a (Some b) = refl

of_members : (s : Graph) (x : Term) (ms : List Term) → is_predicate (sequence_of s x ms) ≡ false
of_members s x [] = refl
of_members s x (a ∷ []) = refl
of_members s x (a ∷ b ∷ []) = refl
of_members s x (a ∷ b ∷ c ∷ ms) = of_next a (only_value s x rdf.rest)

of_blank : (s : Graph) (x : Term) (o : Option (List Term)) → is_predicate (node_of_blank s x o) ≡ false
of_blank s x None = of_triples s (triples_about s x)
of_blank s x (Some ms) = of_members s x ms

no_predicate : (k : Term → ℕ) (o : Option PathNode) (q : List ℕ) → is_predicate o ≡ false → option_map (numbered k) o ≡ Some (Predicate q) → ⊥
no_predicate k None q e f = not_missing (Predicate q) f
no_predicate k (Some (node.Predicate i)) q e f = false≢true (sym e)
no_predicate k (Some (node.Inverse a)) q e f = let h : numbered k (node.Inverse a) ≡ Predicate q = same_some f in cc
no_predicate k (Some (node.Sequence a b)) q e f = let h : numbered k (node.Sequence a b) ≡ Predicate q = same_some f in cc
no_predicate k (Some (node.Alternative ms)) q e f = let h : numbered k (node.Alternative ms) ≡ Predicate q = same_some f in cc
no_predicate k (Some (node.ZeroOrMore a)) q e f = let h : numbered k (node.ZeroOrMore a) ≡ Predicate q = same_some f in cc
no_predicate k (Some (node.OneOrMore a)) q e f = let h : numbered k (node.OneOrMore a) ≡ Predicate q = same_some f in cc
no_predicate k (Some (node.ZeroOrOne a)) q e f = let h : numbered k (node.ZeroOrOne a) ≡ Predicate q = same_some f in cc

only_iri : (s : Graph) (k : Term → ℕ) (v : Term) (q : List ℕ) → option_map (numbered k) (path_node s v) ≡ Some (Predicate q) → v ≡ Iri q
only_iri s k (Iri i) q e = let h : Predicate i ≡ Predicate q = same_some e in cc
only_iri s k (Blank c l) q e = absurd (no_predicate k (node_of_blank s (Blank c l) (blank_members s (Blank c l))) q (of_blank s (Blank c l) (blank_members s (Blank c l))) e)
only_iri s k (Literal l d t) q e = absurd (not_missing (Predicate q) e)

-- each path node has a form
no_depth : {X : Type 0} (F : X → Option (List X)) (k : ℕ) (x : X) → F x ≡ None → depth_in F k x ≡ None
no_depth F zero x e = refl
no_depth {X} F (suc k) x e = ap (option_and_then (λ (ys : List X). depth_over (λ (y : X). depth_in F k y) ys)) e

too_deep : (s : Graph) (x : Term) → path_node s x ≡ None → IsPathTooDeep s x
unfolding path_depth
too_deep s x e q f = absurd (not_missing q (sym (no_depth (path_parts s) (node_count s) x (ap (option_map parts_of) e)) ∙ f))

formed : (s : Graph) → IsInProfile s → (i : ℕ) (x : Term) → slice_get (terms (path_nodes s)) i ≡ Some x → (n : PathNode) × (path_node s x ≡ Some n)
formed s h i x e = by (path_node s x) refl
  where
    by : (o : Option PathNode) → path_node s x ≡ o → (n : PathNode) × (path_node s x ≡ Some n)
    by None f = absurd (h.paths_fit i x e (too_deep s x f))
    by (Some n) f = (n, f)

-- where each item has a value, it stands at the place of the item
kept_at : {X Y : Type 0} (f : X → Option Y) (xs : List X) → ((i : ℕ) (x : X) → slice_get xs i ≡ Some x → (y : Y) × (f x ≡ Some y))
    → (i : ℕ) (x : X) → slice_get xs i ≡ Some x → slice_get (filter_map f xs) i ≡ f x
kept_at f [] h i x e = absurd (let l = slice_get_within [] i x e in omega (arith, l))
kept_at {X} {Y} f (z ∷ zs) h zero x e =
    let y = h 0 z refl in
    ap (λ (o : Option Y). slice_get (cons_option o (filter_map f zs)) 0) y.1 ∙ sym y.1 ∙ ap f (same_some e)
kept_at {X} {Y} f (z ∷ zs) h (suc i) x e =
    ap (λ (o : Option Y). slice_get (cons_option o (filter_map f zs)) (suc i)) (h 0 z refl).1 ∙ kept_at f zs (λ j w g. h (suc j) w g) i x e

form_at : (s : Graph) → IsInProfile s → (v : Term) → has_term (path_nodes s) v ≡ true → slice_get (paths s) (path_number s v) ≡ option_map (numbered (path_number s)) (path_node s v)
unfolding paths class_paths path_number
form_at s h v t =
    let p = place_of_term (path_nodes s) v t in
    let at : 4 + place_in (terms (path_nodes s)) v ≡ suc (suc (suc (suc p.0))) = omega (arith, place_there (path_nodes s) v p.0 p.1) in
    ap (slice_get (paths s)) at ∙ kept_at (λ (x : Term). option_map (numbered (path_number s)) (path_node s x)) (terms (path_nodes s)) form p.0 v p.1
  where
    form : (i : ℕ) (x : Term) → slice_get (terms (path_nodes s)) i ≡ Some x → (f : PathForm) × (option_map (numbered (path_number s)) (path_node s x) ≡ Some f)
    form i x e = let n = formed s h i x e in (numbered (path_number s) n.0, ap (option_map (numbered (path_number s))) n.1)

-- the path of a shape is one of the path nodes
first_in : (ys : List Term) (y : Term) → first_of ys ≡ Some y → Contains ys y
first_in [] y e = absurd (not_missing y e)
first_in (z ∷ zs) y e = subst (Contains (z ∷ zs)) (same_some e) (in_first z zs)

own_node : (k : ℕ) (s : Graph) (y : Term) → 0 < k → Contains (nodes_in k s y) y
own_node zero s y lt = absurd (omega (arith, lt))
own_node (suc k) s y lt = in_first y _

path_listed : (s : Graph) (n : ℕ) (x y : Term) → shape_at s n ≡ Some x → value_of s x sh.path ≡ Some y → has_term (path_nodes s) y ≡ true
unfolding path_nodes
path_listed s n x y e f =
    let shape = term_listed (shape_nodes s) x (has_term_at (shape_nodes s) x n e) in
    let value = first_in (values s x sh.path) y f in
    let node = (nodes_of_first s empty [] (record { subject = x; predicate = sh.path; object = y }) ((IsListOf-objects s x sh.path y).0 value)).1 in
    let place = place_of_term (graph_nodes s) y node in
    let some : 0 < node_count s = omega (arith, slice_get_within (terms (graph_nodes s)) place.0 y place.1) in
    let within = in_flat_map (λ (p : Term). nodes_in (node_count s) s p) (values s x sh.path) y y value (own_node (node_count s) s y some) in
    (nodes_of_list_is (flat_map (λ (x : Term). flat_map (λ (p : Term). nodes_in (node_count s) s p) (values s x sh.path)) (shape_terms s)) y).1
    (in_flat_map (λ (x : Term). flat_map (λ (p : Term). nodes_in (node_count s) s p) (values s x sh.path)) (shape_terms s) x y shape within)

pub path_value : (s : Graph) → IsInProfile s → (n : ℕ) (x : Term) (q : List ℕ) → shape_at s n ≡ Some x → path_form_of s n ≡ Some (Predicate q) → InGraph s x sh.path (Iri q)
unfolding path_of
path_value s h n x q e f = by (value_of s x sh.path) refl (sym (ap (λ (o : Option Term). option_and_then (slice_get (paths s)) (option_map (path_number s) (option_and_then (λ (x : Term). value_of s x sh.path) o))) e) ∙ f)
  where
    by : (o : Option Term) → value_of s x sh.path ≡ o → option_and_then (slice_get (paths s)) (option_map (path_number s) o) ≡ Some (Predicate q) → InGraph s x sh.path (Iri q)
    by None g k = absurd (not_missing (Predicate q) k)
    by (Some v) g k =
        let is = only_iri s (path_number s) v q (sym (form_at s h v (path_listed s n x v e g)) ∙ k) in
        subst (InGraph s x sh.path) is ((IsListOf-objects s x sh.path v).0 (first_in (values s x sh.path) v g))
