-- What paths in an edited graph lead to by the numbers of nodes, and the parts that say so.
use Rattle.std.proofs.Common.{◌≡◌, ◌↔◌, ◌⊎◌, inl, inr, ℕ, zero, suc, ◌<◌, Bool, true, false, cond, IsTrue, List, [], ◌∷◌, map, length, nat_eq, nat_lt, Contains, Option, Some, None, slice_get, is_some, IfSome, IfNone, refl, sym, ap, ◌∙◌, subst, arith}
use Rattle.std.specs.Prelude.{option_map}
use Rattle.std.specs.List.Sorted.{IsStrictlyIncreasing}
use Rattle.std.proofs.lemmas.Bool.{false≢true, eqb-true, eq-eqb}
use Rattle.std.proofs.lemmas.Option.{slice_get_within}
use Rattle.rdf_terms.specs.declared.term.Term.{Term}
use Rattle.rdf_terms.specs.declared.term.Term.TheVariants.{Iri}
use Rattle.rdf_terms.specs.Statement.{Statement}
use Rattle.rdf_terms.specs.Graph.{Graph, has}
use Rattle.rdf_terms.specs.Nodes.{Nodes, terms, has_term}
use Rattle.rdf_terms.specs.Members.{InGraph}
use Rattle.rdf_terms.proofs.NodesLaws.{has_term_at, one_place_of_term}
use Rattle.rdf_terms.proofs.Members.{in_none, in_first, in_cases}
use Rattle.rdf_terms.proofs.Orders.{same_term as equal_terms}
use Rattle.rdf_navigation.specs.Values.{same_term}
use Rattle.rdf_navigation.specs.Instances.{IsInstance}
use Rattle.rdf_navigation.proofs.PropertyLaws.{same_some, not_missing}
use Rattle.path_eval.proofs.InstancePath.{instance_is}
use Rattle.shapes_graph.specs.PathForms.{paths, path_of}
use Rattle.shapes_graph.specs.Reach.{Reaches, ReachIn, IsValue, IsValueBy, path_levels}
use Rattle.repair_problem.specs.declared.atom.Atom.TheVariants as atom
use Rattle.repair_problem.specs.declared.atom.Part.TheVariants.{Fixed, Lit}
use Rattle.repair_problem.specs.Setting.{Setting, OfNode, IsEdit, full, nodes, node}
use Rattle.repair_problem.specs.Candidates.{candidates, candidate_number}
use Rattle.repair_problem.specs.Meaning.{Leads, Means}
use Rattle.repair_problem.specs.PartMeaning.{PartMeans}
use Rattle.repair_problem.proofs.CandidateLaws.{place_found, place_none, full_listed}
use Rattle.path_levels.specs.PossibleNodes.{node_count, possible}
use Rattle.path_levels.specs.PathParts.{named, is_possible, path_part, triple_part, triple_part_at}
use Rattle.path_levels.proofs.Choices.{number_in, in_number}
use Rattle.path_levels.proofs.NodeLaws.{IsNode, node_is, node_there, one_number, ends_are_nodes, of_node}
use Rattle.path_levels.proofs.PathGrowth.{more, keeps}
use Rattle.path_levels.proofs.Possibility.{is_possible_has, possible_has, has_possible, possible_rises}
use Rattle.core_constraints.proofs.Decided.{Distinct, no_false}
use Rattle.core_constraints.proofs.ListedNumbers.{distinct_numbers, distinct_terms}
use Rattle.atom_parts.specs.CandidateLists.{is_linked}
use Rattle.atom_parts.specs.ValueParts.{place_among_terms, node_number, values_by, values_of, is_value, value_part_by, value_part, of_node_part, term_value_part, instance_part, link_part}
use Rattle.atom_parts.specs.Fixing.{IsPositive}
use Rattle.atom_parts.proofs.Facts.{tied, iff_same, iff_sym, iff_trans, never_iff}

-- the place of a term in a list
place_found_term : (ts : List Term) (a : Term) (i : ℕ) → place_among_terms ts a ≡ Some i → slice_get ts i ≡ Some a
place_found_term [] a i e = absurd (not_missing i e)
place_found_term (b ∷ bs) a i e = at (same_term b a) refl (place_among_terms bs a) refl e (λ j d. place_found_term bs a j d)
  where
    at : (c : Bool) → same_term b a ≡ c → (m : Option ℕ) → place_among_terms bs a ≡ m → cond c (Some 0) (option_map (λ j. suc j) m) ≡ Some i → ((j : ℕ) → place_among_terms bs a ≡ Some j → slice_get bs j ≡ Some a) → slice_get (b ∷ bs) i ≡ Some a
    at true d m f k more = subst (λ j. slice_get (b ∷ bs) j ≡ Some a) (same_some k) (ap Some (equal_terms b a d))
    at false d None f k more = absurd (not_missing i k)
    at false d (Some j) f k more = subst (λ j. slice_get (b ∷ bs) j ≡ Some a) (same_some k) (more j f)

place_there_term : (ts : List Term) (a : Term) (i : ℕ) → slice_get ts i ≡ Some a → (j : ℕ) × (place_among_terms ts a ≡ Some j)
place_there_term [] a i e = absurd (not_missing a e)
place_there_term (b ∷ bs) a zero e = (0, ap (λ c. cond c (Some 0) (option_map (λ j. suc j) (place_among_terms bs a))) (tied b a (same_some e)))
place_there_term (b ∷ bs) a (suc i) e = at (same_term b a) (place_there_term bs a i e)
  where
    at : (c : Bool) → (j : ℕ) × (place_among_terms bs a ≡ Some j) → (j : ℕ) × (cond c (Some 0) (option_map (λ j. suc j) (place_among_terms bs a)) ≡ Some j)
    at true r = (0, refl)
    at false r = (suc r.0, ap (option_map (λ j. suc j)) r.1)

module _ (s : Setting) where
  pub number_is : (a : Term) (z : ℕ) → node_number s a ≡ Some z → (z < node_count s) × (node s z ≡ a)
  number_is a z e = let h = place_found_term (terms (nodes s)) a z e in (slice_get_within (terms (nodes s)) z a h, node_is s z a h)

  pub number_none : (a : Term) → node_number s a ≡ None → ¬ (IsNode s a)
  number_none a e n =
      let l = n.1 in
      let r = place_there_term (terms (nodes s)) a n.0 (there n.0 n.1 ∙ ap Some n.2) in
      not_missing r.0 (sym e ∙ r.1)
    where
      there : (x : ℕ) → x < node_count s → slice_get (terms (nodes s)) x ≡ Some (node s x)
      there x l = node_there s x l

  -- value nodes by their numbers
  pub value_number : (n x y : ℕ) → Contains (values_of s n x) y → is_value s n x y ≡ true
  value_number n x y c = in_number (values_of s n x) y c

  pub number_value : (n x y : ℕ) → is_value s n x y ≡ true → Contains (values_of s n x) y
  number_value n x y e = number_in (values_of s n x) y e

  pub value_node : (n x y : ℕ) → x < node_count s → Contains (values_of s n x) y → y < node_count s
  value_node n x y l c = by_path (path_of s.shapes n) c
    where
      alone : (x ≡ y) ⊎ Contains [] y → y < node_count s
      alone (inl e) = subst (λ z. z < node_count s) e l
      alone (inr k) = absurd (in_none y k)

      by_path : (o : Option ℕ) → Contains (values_by s o x) y → y < node_count s
      by_path None c = alone (in_cases x [] y c)
      by_path (Some p) c = (has_possible s p x y c).1

  pub values_rise : (n x : ℕ) → IsStrictlyIncreasing (values_of s n x)
  values_rise n x = by_path (path_of s.shapes n)
    where
      one : IsStrictlyIncreasing (x ∷ [])
      one k l = absurd (omega arith)

      by_path : (o : Option ℕ) → IsStrictlyIncreasing (values_by s o x)
      by_path None = one
      by_path (Some p) = possible_rises s p x

  pub values_once : (n x : ℕ) → Distinct (values_of s n x)
  values_once n x = distinct_numbers (values_of s n x) (values_rise n x)

  pub value_terms_once : (n x : ℕ) → x < node_count s → Distinct (map (node s) (values_of s n x))
  value_terms_once n x l = distinct_terms (nodes s) (values_of s n x) (λ y c. value_node n x y l c) (values_rise n x)

  -- each of these parts is fixed or an atom itself
  pub path_positive : (p x y : ℕ) → IsPositive (path_part s (atom.Reach p x y))
  path_positive p x y = at (is_possible s p x y)
    where
      at : (b : Bool) → IsPositive (named b (atom.Reach p x y))
      at true = refl
      at false = tt

  pub value_positive : (n x y : ℕ) → IsPositive (value_part s n x y)
  value_positive n x y = at (path_of s.shapes n)
    where
      at : (o : Option ℕ) → IsPositive (value_part_by s o x y)
      at None = tt
      at (Some p) = path_positive p x y

  pub triple_positive : (t : Statement) → IsPositive (triple_part s t)
  triple_positive t = at (candidate_number s t)
    where
      at : (o : Option ℕ) → IsPositive (triple_part_at s o)
      at None = tt
      at (Some i) = refl

module _ (s : Setting) (g : Graph) (within : IsEdit s g) where
  widen : (p : ℕ) (a b : Term) → Leads s g p a b → Leads s (full s) p a b
  unfolding Reaches
  widen p a b r = more path_levels (paths s.shapes) g (full s) within p a b r

  -- what a path reaches from a node is a node
  kept : (p : ℕ) (a b : Term) → Leads s g p a b → IsNode s a → IsNode s b
  unfolding Reaches
  kept p a b r n = (keeps (IsNode s) (full s) (ends_are_nodes s) path_levels (paths s.shapes) p a b (more path_levels (paths s.shapes) g (full s) within p a b r)).0 n

  pub reach_means : (p x y : ℕ) → x < node_count s → y < node_count s → Leads s g p (node s x) (node s y) ↔ PartMeans (Means s g) (path_part s (atom.Reach p x y))
  reach_means p x y l m = at (is_possible s p x y) refl
    where
      two : OfNode s x (λ a. OfNode s y (λ b. Leads s g p a b)) ↔ Leads s g p (node s x) (node s y)
      two = iff_trans (of_node s x (λ a. OfNode s y (λ b. Leads s g p a b)) l) (of_node s y (λ b. Leads s g p (node s x) b) m)

      at : (b : Bool) → is_possible s p x y ≡ b → Leads s g p (node s x) (node s y) ↔ PartMeans (Means s g) (named b (atom.Reach p x y))
      at true e = iff_sym two
      at false e = never_iff (λ r. no_false (is_possible s p x y) (is_possible_has s p x y l m (widen p (node s x) (node s y) r)) e)

  pub value_means : (n x y : ℕ) → x < node_count s → y < node_count s → IsValue s.shapes n g (node s x) (node s y) ↔ PartMeans (Means s g) (value_part s n x y)
  value_means n x y l m = by_path (path_of s.shapes n)
    where
      by_path : (o : Option ℕ) → IsValueBy s.shapes o g (node s x) (node s y) ↔ PartMeans (Means s g) (value_part_by s o x y)
      by_path None = (λ e. eq-eqb x y (one_number s x y l m e), λ h. ap (node s) (eqb-true x y h))
      by_path (Some p) = reach_means p x y l m

  -- a value node is among the possible ones
  pub value_known : (n x : ℕ) (b : Term) → x < node_count s → IsValue s.shapes n g (node s x) b → (y : ℕ) × (y < node_count s) × (node s y ≡ b) × Contains (values_of s n x) y
  value_known n x b l v = by_path (path_of s.shapes n) v
    where
      by_path : (o : Option ℕ) → IsValueBy s.shapes o g (node s x) b → (y : ℕ) × (y < node_count s) × (node s y ≡ b) × Contains (values_by s o x) y
      by_path None e = (x, l, e, in_first x [])
      by_path (Some p) r =
          let k = kept p (node s x) b r (x, l, refl) in
          (k.0, k.1, k.2, possible_has s p x k.0 l k.1 (subst (Leads s (full s) p (node s x)) (sym k.2) (widen p (node s x) b r)))

  pub triple_means : (t : Statement) → (has g t ≡ true) ↔ PartMeans (Means s g) (triple_part s t)
  triple_means t = (λ h. to h (candidate_number s t) refl, λ k. from (candidate_number s t) refl k)
    where
      to : has g t ≡ true → (m : Option ℕ) → candidate_number s t ≡ m → PartMeans (Means s g) (triple_part_at s m)
      to h None e = absurd (false≢true (sym (place_none (candidates s) t e) ∙ full_listed s t (within t h)))
      to h (Some i) e = (t, place_found (candidates s) t i e, h)

      from : (m : Option ℕ) → candidate_number s t ≡ m → PartMeans (Means s g) (triple_part_at s m) → has g t ≡ true
      from None e k = absurd (false≢true k)
      from (Some i) e k = subst (λ u. has g u ≡ true) (same_some (sym k.1 ∙ place_found (candidates s) t i e)) k.2

  pub link_means : (q : List ℕ) (x y : ℕ) → InGraph g (node s x) (Iri q) (node s y) ↔ PartMeans (Means s g) (link_part s q x y)
  link_means q x y = triple_means (record { subject = node s x; predicate = Iri q; object = node s y })

  -- a triple of the graph is a candidate, and its ends are nodes
  pub linked : (q : List ℕ) (x y : ℕ) → InGraph g (node s x) (Iri q) (node s y) → is_linked s q x y ≡ true
  linked q x y h = at (candidate_number s t) refl
    where
      t : Statement
      t = record { subject = node s x; predicate = Iri q; object = node s y }

      at : (m : Option ℕ) → candidate_number s t ≡ m → is_some m ≡ true
      at None e = absurd (false≢true (sym (place_none (candidates s) t e) ∙ full_listed s t (within t h)))
      at (Some i) e = refl

  pub object_node : (a p b : Term) → InGraph g a p b → IsNode s b
  object_node a p b h = (ends_are_nodes s (record { subject = a; predicate = p; object = b }) (within (record { subject = a; predicate = p; object = b }) h)).1

  class_path : (a c : Term) → IsInstance g a c ↔ Leads s g 3 a c
  unfolding Reaches
  class_path a c = iff_sym (instance_is s.shapes g a c)

  pub instance_means : (y : ℕ) (c : Term) → y < node_count s → IsInstance g (node s y) c ↔ PartMeans (Means s g) (instance_part s y c)
  instance_means y c l = at (node_number s c) refl
    where
      at : (m : Option ℕ) → node_number s c ≡ m → IsInstance g (node s y) c ↔ PartMeans (Means s g) (of_node_part s m (λ z. path_part s (atom.Reach 3 y z)))
      at None e = never_iff (λ h. number_none s c e (kept 3 (node s y) c ((class_path (node s y) c).0 h) (y, l, refl)))
      at (Some z) e =
          let r = number_is s c z e in
          iff_trans (class_path (node s y) c)
          (subst (λ d. Leads s g 3 (node s y) d ↔ PartMeans (Means s g) (path_part s (atom.Reach 3 y z))) r.1 (reach_means 3 y z l r.0))

  pub term_value_means : (n x : ℕ) (o : Term) → x < node_count s → IsValue s.shapes n g (node s x) o ↔ PartMeans (Means s g) (term_value_part s n x o)
  term_value_means n x o l = at (node_number s o) refl
    where
      at : (m : Option ℕ) → node_number s o ≡ m → IsValue s.shapes n g (node s x) o ↔ PartMeans (Means s g) (of_node_part s m (λ y. value_part s n x y))
      at None e = never_iff (λ v. let k = value_known n x o l v in number_none s o e (k.0, k.1, k.2))
      at (Some y) e =
          let r = number_is s o y e in
          subst (λ d. IsValue s.shapes n g (node s x) d ↔ PartMeans (Means s g) (value_part s n x y)) r.1 (value_means n x y l r.0)

-- what a look-up in a set answers is the place among its terms
pub place_of_look_up : (n : Nodes) (a : Term) (o : Option ℕ) → IfSome o (λ i. slice_get (terms n) i ≡ Some a) → IfNone o (has_term n a ≡ false) → o ≡ place_among_terms (terms n) a
place_of_look_up n a o some none = at o (place_among_terms (terms n) a) refl some none
  where
    absent : (i : ℕ) → slice_get (terms n) i ≡ Some a → place_among_terms (terms n) a ≡ None → ⊥
    absent i h e = let r = place_there_term (terms n) a i h in not_missing r.0 (sym e ∙ r.1)

    at : (o m : Option ℕ) → place_among_terms (terms n) a ≡ m → IfSome o (λ i. slice_get (terms n) i ≡ Some a) → IfNone o (has_term n a ≡ false) → o ≡ m
    at None None e some none = refl
    at None (Some j) e some none = absurd (no_false (has_term n a) (has_term_at n a j (place_found_term (terms n) a j e)) none)
    at (Some i) None e some none = absurd (absent i some e)
    at (Some i) (Some j) e some none = ap Some (one_place_of_term n a i j some (place_found_term (terms n) a j e))
