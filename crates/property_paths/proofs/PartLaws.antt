-- The parts of a path node are nodes of the graph.
use Rattle.std.proofs.Common.{◌≡◌, ℕ, min, ◌⊎◌, inl, inr, Bool, true, false, cond, List, [], ◌∷◌, length, Contains, refl, sym, ap, subst, ◌∙◌}
use Rattle.std.specs.Prelude.{Option, Some, None, option_map, slice_get, filter}
use Rattle.rdf_terms.specs.declared.term.Term.{Term}
use Rattle.rdf_terms.specs.declared.term.Term.TheVariants.{Iri, Blank, Literal}
use Rattle.rdf_terms.specs.Statement.{Statement, is_node}
use Rattle.rdf_terms.specs.Graph.{Graph, triples, has, empty}
use Rattle.rdf_terms.specs.Nodes.{Nodes, terms, has_term}
use Rattle.rdf_terms.specs.Members.{InGraph}
use Rattle.rdf_terms.specs.Vocab.Rdf as rdf
use Rattle.rdf_terms.specs.Vocab.Sh as sh
use Rattle.rdf_terms.proofs.GraphLaws.{has_listed}
use Rattle.rdf_terms.proofs.NodesLaws.{nodes_of_first}
use Rattle.rdf_terms.proofs.Members.{in_none, in_first, in_cases}
use Rattle.digraph.specs.Digraph.{Digraph, successors_at, look}
use Rattle.digraph.specs.Depth.{depth_in}
use Rattle.rdf_navigation.specs.Values.{same_term, only_value}
use Rattle.rdf_navigation.specs.Lists.{IsListOf, is_blank, members, blank_members}
use Rattle.rdf_navigation.specs.Numbers.{term_at, IsNumbered}
use Rattle.rdf_navigation.proofs.ListLaws.{only_is, members_is}
use Rattle.rdf_navigation.proofs.NumberLaws.{at_place, place_within}
use Rattle.rdf_navigation.proofs.PropertyLaws.{same_some}
use Rattle.property_paths.specs.declared.paths.PathNode.{PathNode}
use Rattle.property_paths.specs.declared.paths.PathNode.TheVariants as node
use Rattle.property_paths.specs.Paths.{parts_of, alternative_of, node_of_triple, node_of_triples, node_of_blank, path_parts, graph_nodes, node_count, path_depth}
use Rattle.property_paths.specs.PathTable.{ArePathDepths, ArePathParts, listed_depth}
use Rattle.property_paths.proofs.PathLaws.{cell_of, filtered_in}
use Rattle.property_paths.proofs.NumberedWalks.{depth_there}

-- an object is a node
pub object_node : (s : Graph) (x p y : Term) → InGraph s x p y → has_term (graph_nodes s) y ≡ true
object_node s x p y h = (nodes_of_first s empty [] (record { subject = x; predicate = p; object = y }) h).1

-- so is a member of a list
member_node : (test : Term → Bool) (s : Graph) (cs ms : List Term) (x : Term) → IsListOf test s x cs ms → (y : Term) → Contains ms y → has_term (graph_nodes s) y ≡ true
member_node test s [] [] x h y c = absurd (in_none y c)
member_node test s [] (m ∷ ms) x h y c = absurd h
member_node test s (d ∷ cs) [] x h y c = absurd h
member_node test s (d ∷ cs) (m ∷ ms) x h y c = at (in_cases m ms y c) (λ k. member_node test s cs ms h.4.0 h.4.2 y k)
  where
    at : (m ≡ y) ⊎ Contains ms y → (Contains ms y → has_term (graph_nodes s) y ≡ true) → has_term (graph_nodes s) y ≡ true
    at (inl e) later = subst (λ (z : Term). has_term (graph_nodes s) z ≡ true) e (object_node s x rdf.first m (only_is s x rdf.first m h.3))
    at (inr k) later = later k

only_node : (s : Graph) (x p y : Term) → only_value s x p ≡ Some y → has_term (graph_nodes s) y ≡ true
only_node s x p y e = object_node s x p y (only_is s x p y e)

one_part : (s : Graph) (q t : Term) → has_term (graph_nodes s) q ≡ true → Contains (q ∷ []) t → has_term (graph_nodes s) t ≡ true
one_part s q t h c = at (in_cases q [] t c)
  where
    at : (q ≡ t) ⊎ Contains [] t → has_term (graph_nodes s) t ≡ true
    at (inl e) = subst (λ (z : Term). has_term (graph_nodes s) z ≡ true) e h
    at (inr d) = absurd (in_none t d)

two_parts : (s : Graph) (a b t : Term) → has_term (graph_nodes s) a ≡ true → has_term (graph_nodes s) b ≡ true → Contains (a ∷ b ∷ []) t → has_term (graph_nodes s) t ≡ true
two_parts s a b t h k c = at (in_cases a (b ∷ []) t c)
  where
    at : (a ≡ t) ⊎ Contains (b ∷ []) t → has_term (graph_nodes s) t ≡ true
    at (inl e) = subst (λ (z : Term). has_term (graph_nodes s) z ≡ true) e h
    at (inr d) = one_part s b t k d

-- what is made of has parts that are nodes
abbrev HasNodes : Graph → Option PathNode → Type 0
HasNodes s o = (n : PathNode) → o ≡ Some n → (t : Term) → Contains (parts_of n) t → has_term (graph_nodes s) t ≡ true

none_nodes : (s : Graph) → HasNodes s None
none_nodes s n e t c = absurd (let z : None ≡ Some n = e in cc)

some_nodes : (s : Graph) (m : PathNode) → ((t : Term) → Contains (parts_of m) t → has_term (graph_nodes s) t ≡ true) → HasNodes s (Some m)
some_nodes s m h n e t c = h t (subst (λ (k : PathNode). Contains (parts_of k) t) (sym (same_some e)) c)

alternative_nodes : (s : Graph) (x : Term) → HasNodes s (alternative_of (members s x))
alternative_nodes s x = at (members s x) (λ ms e. let l = (members_is is_node s x ms).0 e in member_node is_node s l.0 ms x l.1)
  where
    at : (o : Option (List Term)) → ((ms : List Term) → o ≡ Some ms → (t : Term) → Contains ms t → has_term (graph_nodes s) t ≡ true) → HasNodes s (alternative_of o)
    at None h = none_nodes s
    at (Some []) h = none_nodes s
    at (Some (a ∷ [])) h = none_nodes s
    at (Some (a ∷ b ∷ ms)) h = some_nodes s (node.Alternative (a ∷ b ∷ ms)) (h (a ∷ b ∷ ms) refl)

triple_nodes : (s : Graph) (u : Statement) → has s u ≡ true → HasNodes s (node_of_triple s u)
triple_nodes s u h = at (same_term u.predicate sh.alternative_path) (same_term u.predicate sh.inverse_path) (same_term u.predicate sh.zero_or_more_path) (same_term u.predicate sh.one_or_more_path) (same_term u.predicate sh.zero_or_one_path)
  where
    object : has_term (graph_nodes s) u.object ≡ true
    object = object_node s u.subject u.predicate u.object h

    at : (a b c d e : Bool) → HasNodes s (cond a (alternative_of (members s u.object)) (cond b (Some (node.Inverse u.object)) (cond c (Some (node.ZeroOrMore u.object)) (cond d (Some (node.OneOrMore u.object)) (cond e (Some (node.ZeroOrOne u.object)) None)))))
    at true b c d e = alternative_nodes s u.object
    at false true c d e = some_nodes s (node.Inverse u.object) (λ t k. one_part s u.object t object k)
    at false false true d e = some_nodes s (node.ZeroOrMore u.object) (λ t k. one_part s u.object t object k)
    at false false false true e = some_nodes s (node.OneOrMore u.object) (λ t k. one_part s u.object t object k)
    at false false false false true = some_nodes s (node.ZeroOrOne u.object) (λ t k. one_part s u.object t object k)
    at false false false false false = none_nodes s

triples_nodes : (s : Graph) (us : List Statement) → ((u : Statement) → Contains us u → has s u ≡ true) → HasNodes s (node_of_triples s us)
triples_nodes s [] h = none_nodes s
triples_nodes s (u ∷ []) h = triple_nodes s u (h u (in_first u []))
triples_nodes s (u ∷ v ∷ us) h = none_nodes s

blank_nodes : (s : Graph) (x : Term) → HasNodes s (node_of_blank s x (blank_members s x))
blank_nodes s x = at (blank_members s x) refl
  where
    long : (a : Term) → has_term (graph_nodes s) a ≡ true → (o : Option Term) → only_value s x rdf.rest ≡ o → HasNodes s (option_map (λ (next : Term). node.Sequence a next) o)
    long a h None e = none_nodes s
    long a h (Some r) e = some_nodes s (node.Sequence a r) (λ t k. two_parts s a r t h (only_node s x rdf.rest r e) k)

    at : (o : Option (List Term)) → blank_members s x ≡ o → HasNodes s (node_of_blank s x o)
    at None e = triples_nodes s (filter (λ (t : Statement). same_term t.subject x) (triples s)) (λ u c. has_listed s u (filtered_in (λ (t : Statement). same_term t.subject x) (triples s) u c))
    at (Some []) e = none_nodes s
    at (Some (a ∷ [])) e = none_nodes s
    at (Some (a ∷ b ∷ [])) e =
        let c = cell_of is_blank s x a (b ∷ []) e in
        let d = cell_of is_blank s c.1.0 b [] c.1.2 in
        some_nodes s (node.Sequence a b) (λ t k. two_parts s a b t (only_node s x rdf.first a c.0) (only_node s c.1.0 rdf.first b d.0) k)
    at (Some (a ∷ b ∷ c ∷ ms)) e = let d = cell_of is_blank s x a (b ∷ c ∷ ms) e in long a (only_node s x rdf.first a d.0) (only_value s x rdf.rest) refl

pub part_node : (s : Graph) (x : Term) (ts : List Term) → path_parts s x ≡ Some ts → (t : Term) → Contains ts t → has_term (graph_nodes s) t ≡ true
part_node s (Iri i) ts e t c = absurd (in_none t (subst (λ us. Contains us t) (sym (same_some e)) c))
part_node s (Literal l d g) ts e t c = absurd (let z : None ≡ Some ts = e in cc)
part_node s (Blank b l) ts e t c = at (node_of_blank s (Blank b l) (blank_members s (Blank b l))) refl e
  where
    at : (o : Option PathNode) → node_of_blank s (Blank b l) (blank_members s (Blank b l)) ≡ o → option_map parts_of o ≡ Some ts → has_term (graph_nodes s) t ≡ true
    at None q e = absurd (let z : None ≡ Some ts = e in cc)
    at (Some n) q e = blank_nodes s (Blank b l) n q t (subst (λ us. Contains us t) (sym (same_some e)) c)

-- the capped depths of the numbers are those of the nodes
pub path_depths_right : (s : Graph) (g : Digraph) (v : List (Option ℕ)) → length g ≡ length (terms (graph_nodes s)) → IsNumbered (path_parts s) (graph_nodes s) g → length v ≡ length g
    → ((i : ℕ) → look v i ≡ option_map (min 33) (depth_in (successors_at g) (length g) i)) → ArePathDepths s (graph_nodes s) v
unfolding path_depth
path_depths_right s g v len w size value = record { all = refl; size = size ∙ len; listed = listed }
  where
    listed : (i : ℕ) (x : Term) → slice_get (terms (graph_nodes s)) i ≡ Some x → look v i ≡ option_map (min 33) (depth_in (path_parts s) (node_count s) x)
    listed i x e =
        value i ∙ ap (option_map (min 33))
        (sym (depth_there (path_parts s) (graph_nodes s) g len w (length g) i (place_within (graph_nodes s) i x e))
        ∙ ap (λ k. depth_in (path_parts s) k (term_at (graph_nodes s) i)) len
        ∙ ap (λ (y : Term). depth_in (path_parts s) (node_count s) y) (at_place (graph_nodes s) i x e))

pub tables_right : (s : Graph) (n : Nodes) (g : Digraph) (v : List (Option ℕ)) → n ≡ graph_nodes s → length g ≡ length (terms (graph_nodes s)) → IsNumbered (path_parts s) (graph_nodes s) g
    → length v ≡ length g → ((i : ℕ) → look v i ≡ option_map (min 33) (depth_in (successors_at g) (length g) i)) → ArePathDepths s n v × ArePathParts s n g
tables_right s n g v e len w size value =
    subst (λ (m : Nodes). ArePathDepths s m v × ArePathParts s m g) (sym e) (path_depths_right s g v len w size value, record { size = len; numbered = w })

pub listed_is : (s : Graph) (x : Term) → has_term (graph_nodes s) x ≡ true → listed_depth s x ≡ path_depth s x
listed_is s x h = ap (λ (b : Bool). cond b (path_depth s x) None) h
