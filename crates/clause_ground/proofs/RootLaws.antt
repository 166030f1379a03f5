-- The nodes that can be focus nodes: those that are with all candidates in the graph.
use Rattle.std.proofs.Common.{◌≡◌, ◌≢◌, ◌↔◌, ◌⊎◌, inl, inr, ℕ, ◌<◌, Bool, true, false, cond, ◌&&◌, nat_lt, IsTrue, List, [], ◌∷◌, ◌++◌, map, flat_map, length, Contains, Option, Some, None, slice_get, refl, sym, ap, ◌∙◌, subst, arith}
use Rattle.std.specs.Prelude.{option_and_then}
use Rattle.std.proofs.lemmas.Bool.{ltb-true}
use Rattle.std.proofs.lemmas.Option.{slice_get_within}
use Rattle.rdf_terms.specs.declared.term.Term.{Term}
use Rattle.rdf_terms.specs.declared.term.Term.TheVariants.{Iri}
use Rattle.rdf_terms.specs.Graph.{Graph, has, is_of, triples}
use Rattle.rdf_terms.specs.Statement.{Statement}
use Rattle.shapes_profile.specs.Logic.{EachOf, SomeOf}
use Rattle.shapes_profile.specs.Profile.{IsInProfile}
use Rattle.shapes_profile.specs.Shapes.{shape_at, shape_terms}
use Rattle.shapes_graph.specs.declared.targets.Target.{Target}
use Rattle.shapes_graph.specs.declared.targets.Target.TheVariants as target
use Rattle.shapes_graph.specs.Targets.{targets, IsFocus}
use Rattle.repair_problem.specs.declared.atom.Atom.{Atom}
use Rattle.repair_problem.specs.declared.atom.Atom.TheVariants as atom
use Rattle.repair_problem.specs.declared.atom.Part.{Part}
use Rattle.repair_problem.specs.declared.atom.Part.TheVariants.{Fixed, Lit}
use Rattle.repair_problem.specs.declared.atom.Parts.{Parts}
use Rattle.repair_problem.specs.Setting.{Setting, IsEdit, full, node, nodes}
use Rattle.repair_problem.specs.Candidates.{candidates}
use Rattle.repair_problem.specs.Meaning.{Means}
use Rattle.repair_problem.specs.PartMeaning.{PartMeans, PartsMean}
use Rattle.path_levels.specs.PossibleNodes.{node_count}
use Rattle.path_levels.specs.PathParts.{literal, named, is_possible, path_part}
use Rattle.path_levels.proofs.NodeLaws.{of_node}
use Rattle.path_levels.proofs.Possibility.{has_is_possible}
use Rattle.core_constraints.proofs.Decided.{no_false}
use Rattle.atom_parts.specs.CandidateLists.{candidates_if, is_to}
use Rattle.atom_parts.specs.ValueParts.{node_number, instance_part, of_node_part}
use Rattle.atom_parts.specs.PartsTable.{any_of, parts_of, is_node, is_shape, target_list, target_parts, triple_parts}
use Rattle.atom_parts.specs.Fixing.{NoAtom, by_parts, fixing, MeansFixing}
use Rattle.atom_parts.proofs.Facts.{some_is, none_some}
use Rattle.atom_parts.proofs.Reached.{number_is, reach_means}
use Rattle.atom_parts.proofs.CandidateRows.{candidates_back}
use Rattle.atom_parts.proofs.CountLaw.{means_fixing}
use Rattle.atom_parts.proofs.Proper.{root_proper}
use Rattle.premise_rules.specs.declared.clause.Clause.TheVariants.{Literals}
use Rattle.clause_ground.specs.Needed.{root, clause_in, CanBeFocus}
use Rattle.clause_ground.specs.RootClauses.{root_literals}

-- the clause of a root
pub root_clause : (s : Setting) (n x : ℕ) → is_shape s n ≡ true → is_node s x ≡ true → clause_in s (root n x) ≡ Literals (root_literals n x)
root_clause s n x h k = rw (h, k) refl

abbrev Possible : List Part → Type 0
Possible ps = SomeOf (λ p. p ≢ Fixed false) ps

some_append : {X : Type 0} (P : X → Type 0) (xs ys : List X) → SomeOf P (xs ++ ys) → SomeOf P xs ⊎ SomeOf P ys
some_append P [] ys h = inr h
some_append P (x ∷ xs) ys (inl h) = inl (inl h)
some_append P (x ∷ xs) ys (inr h) = split (some_append P xs ys h)
  where
    split : SomeOf P xs ⊎ SomeOf P ys → (P x ⊎ SomeOf P xs) ⊎ SomeOf P ys
    split (inl g) = inl (inr g)
    split (inr g) = inr g

append_some : {X : Type 0} (P : X → Type 0) (xs ys : List X) → SomeOf P xs ⊎ SomeOf P ys → SomeOf P (xs ++ ys)
append_some P [] ys (inl h) = absurd h
append_some P [] ys (inr h) = h
append_some P (x ∷ xs) ys (inl (inl h)) = inl h
append_some P (x ∷ xs) ys (inl (inr h)) = inr (append_some P xs ys (inl h))
append_some P (x ∷ xs) ys (inr h) = inr (append_some P xs ys (inr h))

-- with all candidates in the graph
module _ (s : Setting) (whole : IsEdit s (full s)) (all : (t : ℕ) (c : Statement) → slice_get (candidates s) t ≡ Some c → has (full s) c ≡ true) where
  some_triple : (test : Statement → Bool) (ks : List ℕ) → ((k : ℕ) → Contains ks k → Contains (candidates_if s test) k) → Possible (triple_parts ks true) → SomeOf (PartMeans (Means s (full s))) (triple_parts ks true)
  some_triple test [] of h = absurd h
  some_triple test (k ∷ ks) of h = let r = candidates_back s test k (of k (Rattle.rdf_terms.proofs.Members.in_first k ks)) in inl (r.0, r.1, all k r.0 r.1)

  reach_true : (x z : ℕ) → x < node_count s → z < node_count s → (b : Bool) → is_possible s 3 x z ≡ b → named b (atom.Reach 3 x z) ≢ Fixed false → PartMeans (Means s (full s)) (named b (atom.Reach 3 x z))
  reach_true x z l m true e h =
      let r = has_is_possible s 3 x z e in
      subst (λ c. PartMeans (Means s (full s)) (named c (atom.Reach 3 x z))) e ((reach_means s (full s) whole 3 x z l m).0 r.2)
  reach_true x z l m false e h = absurd (h refl)

  instance_true : (x : ℕ) → x < node_count s → (o : Option ℕ) (c : Term) → node_number s c ≡ o → of_node_part s o (λ z. path_part s (atom.Reach 3 x z)) ≢ Fixed false → PartMeans (Means s (full s)) (of_node_part s o (λ z. path_part s (atom.Reach 3 x z)))
  instance_true x l None c e h = absurd (h refl)
  instance_true x l (Some z) c e h = reach_true x z l (number_is s c z e).0 (is_possible s 3 x z) refl h

  target_true : (x : ℕ) → x < node_count s → (k : Target) → Possible (target_list s x k) → SomeOf (PartMeans (Means s (full s))) (target_list s x k)
  target_true x l (target.Node a) (inl h) = inl (at (Rattle.rdf_navigation.specs.Values.same_term (node s x) a) h)
    where
      at : (b : Bool) → Fixed b ≢ Fixed false → IsTrue b
      at true h = refl
      at false h = absurd (h refl)
  target_true x l (target.Node a) (inr h) = absurd h
  target_true x l (target.Class c) (inl h) = inl (instance_true x l (node_number s c) c refl h)
  target_true x l (target.Class c) (inr h) = absurd h
  target_true x l (target.SubjectsOf q) h = some_triple (is_of (node s x) (Iri q)) (candidates_if s (is_of (node s x) (Iri q))) (λ k c. c) h
  target_true x l (target.ObjectsOf q) h = some_triple (is_to (node s x) (Iri q)) (candidates_if s (is_to (node s x) (Iri q))) (λ k c. c) h

  targets_true : (x : ℕ) → x < node_count s → (ks : List Target) → Possible (flat_map (target_list s x) ks) → SomeOf (PartMeans (Means s (full s))) (flat_map (target_list s x) ks)
  targets_true x l [] h = absurd h
  targets_true x l (k ∷ ks) h = split (some_append (λ p. p ≢ Fixed false) (target_list s x k) (flat_map (target_list s x) ks) h) (targets_true x l ks)
    where
      split : Possible (target_list s x k) ⊎ Possible (flat_map (target_list s x) ks) → (Possible (flat_map (target_list s x) ks) → SomeOf (PartMeans (Means s (full s))) (flat_map (target_list s x) ks)) → SomeOf (PartMeans (Means s (full s))) (target_list s x k ++ flat_map (target_list s x) ks)
      split (inl g) more = append_some (PartMeans (Means s (full s))) (target_list s x k) (flat_map (target_list s x) ks) (inl (target_true x l k g))
      split (inr g) more = append_some (PartMeans (Means s (full s))) (target_list s x k) (flat_map (target_list s x) ks) (inr (more g))

-- the parts of a target atom are of its targets, and any of them is enough
module _ (s : Setting) (profile : IsInProfile s.shapes) (n x : ℕ) where
  abbrev any_parts : List Target → Parts
  any_parts ks = record { every = false; list = flat_map (target_list s x) ks }

  parts_are : (parts : Parts) → parts_of s (atom.Target n x) ≡ Some parts → (x < node_count s) × ((ks : List Target) × (parts ≡ any_parts ks))
  parts_are parts e = go (is_node s x) (shape_at s.shapes n) refl e
    where
      go : (b : Bool) (o : Option Term) → is_node s x ≡ b → cond b (option_and_then (λ shape. any_of (flat_map (target_list s x) (targets s.shapes shape))) o) None ≡ Some parts → (x < node_count s) × ((ks : List Target) × (parts ≡ any_parts ks))
      go true (Some shape) h e = (ltb-true x (node_count s) h, (targets s.shapes shape, sym (some_is e)))
      go true None h e = absurd (none_some e)
      go false o h e = absurd (none_some e)

  law : (g : Graph) → IsEdit s g → (parts : Parts) → parts_of s (atom.Target n x) ≡ Some parts → Means s g (atom.Target n x) ↔ PartsMean (Means s g) parts
  law g within parts e = subst (λ o. MeansFixing (Means s g) (atom.Target n x) (by_parts o)) e (means_fixing s profile g within (atom.Target n x))

  some_possible : (g : Graph) (ps : List Part) → SomeOf (PartMeans (Means s g)) ps → Possible ps
  some_possible g [] h = absurd h
  some_possible g (p ∷ ps) (inl h) = inl (λ e. no_false false (subst (PartMeans (Means s g)) e h) refl)
  some_possible g (p ∷ ps) (inr h) = inr (some_possible g ps h)

  -- a focus node of an edited graph can be one
  pub focus_possible : (g : Graph) → IsEdit s g → is_shape s n ≡ true → is_node s x ≡ true → IsFocus s.shapes n g (node s x) → CanBeFocus s n x
  focus_possible g within h k focus = go (parts_of s (atom.Target n x)) refl
    where
      means : Means s g (atom.Target n x)
      means = (of_node s x (λ a. IsFocus s.shapes n g a) (ltb-true x (node_count s) k)).1 focus

      go : (o : Option Parts) → parts_of s (atom.Target n x) ≡ o → CanBeFocus s n x
      go None e = absurd ((root_proper s n x h k).0 (ap by_parts e))
      go (Some parts) e =
          let r = parts_are parts e in
          let m = (law g within parts e).0 means in
          let q : SomeOf (PartMeans (Means s g)) (flat_map (target_list s x) r.1.0) = subst (λ (ps : Parts). PartsMean (Means s g) ps) r.1.1 m in
          (parts, e, subst (λ (ps : Parts). Possible ps.list) (sym r.1.1) (some_possible g (flat_map (target_list s x) r.1.0) q))

  -- and what can be one is one with all candidates in the graph
  pub possible_focus : (whole : IsEdit s (full s)) → ((t : ℕ) (c : Statement) → slice_get (candidates s) t ≡ Some c → has (full s) c ≡ true) → CanBeFocus s n x → (x < node_count s) × IsFocus s.shapes n (full s) (node s x)
  possible_focus whole all h =
      let r = parts_are h.0 h.1 in
      let p : Possible (flat_map (target_list s x) r.1.0) = subst (λ (ps : Parts). Possible ps.list) r.1.1 h.2 in
      let q : PartsMean (Means s (full s)) h.0 = subst (λ (ps : Parts). PartsMean (Means s (full s)) ps) (sym r.1.1) (targets_true s whole all x r.0 r.1.0 p) in
      (r.0, (of_node s x (λ a. IsFocus s.shapes n (full s) a) r.0).0 ((law (full s) whole h.0 h.1).1 q))

-- what can be a focus node of a shape is a node, and there is such a shape
pub possible_shape : (s : Setting) (n x : ℕ) → CanBeFocus s n x → (n < length (shape_terms s.shapes)) × (x < node_count s)
possible_shape s n x h = go (is_node s x) (shape_at s.shapes n) refl refl h.1
  where
    go : (b : Bool) (o : Option Term) → is_node s x ≡ b → shape_at s.shapes n ≡ o → cond b (option_and_then (λ shape. any_of (flat_map (target_list s x) (targets s.shapes shape))) o) None ≡ Some h.0 → (n < length (shape_terms s.shapes)) × (x < node_count s)
    go true (Some shape) f g e = (slice_get_within (shape_terms s.shapes) n shape g, ltb-true x (node_count s) f)
    go true None f g e = absurd (none_some e)
    go false o f g e = absurd (none_some e)
