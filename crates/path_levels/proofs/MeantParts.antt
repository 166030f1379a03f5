-- The parts of an atom of a path mean what the atom means, in each edited graph.
use Rattle.std.proofs.Common.{◌≡◌, ℕ, zero, suc, ◌+◌, ◌<◌, ◌⊎◌, ◌↔◌, inl, inr, Bool, true, false, cond, ◌&&◌, List, [], ◌∷◌, map, length, Option, Some, None, IfSome, nat_eq, nat_lt, refl, sym, subst}
use Rattle.std.proofs.lemmas.Bool.{false≢true}
use Rattle.rdf_terms.specs.declared.term.Term.{Term}
use Rattle.rdf_terms.specs.declared.term.Term.TheVariants.{Iri}
use Rattle.rdf_terms.specs.Statement.{Statement}
use Rattle.rdf_terms.specs.Graph.{Graph}
use Rattle.shapes_profile.specs.Logic.{EachOf, SomeOf}
use Rattle.shapes_graph.specs.declared.paths.PathForm.{PathForm}
use Rattle.shapes_graph.specs.declared.paths.PathForm.TheVariants.{Predicate, Inverse, Sequence, Alternative, ZeroOrMore, OneOrMore, ZeroOrOne}
use Rattle.shapes_graph.specs.PathForms.{paths}
use Rattle.shapes_graph.specs.Reach.{path_levels}
use Rattle.repair_problem.specs.declared.atom.Atom.{Atom}
use Rattle.repair_problem.specs.declared.atom.Atom.TheVariants as atom
use Rattle.repair_problem.specs.declared.atom.Part.{Part}
use Rattle.repair_problem.specs.declared.atom.Part.TheVariants.{Fixed, Lit}
use Rattle.repair_problem.specs.declared.atom.Parts.{Parts}
use Rattle.repair_problem.specs.Setting.{Setting, OfNode, IsEdit, node}
use Rattle.repair_problem.specs.Candidates.{candidate_number}
use Rattle.repair_problem.specs.Levels.{LevelBy, MiddleBy}
use Rattle.repair_problem.specs.Meaning.{Leads, Means}
use Rattle.repair_problem.specs.PartMeaning.{PartMeans, PartsMean}
use Rattle.path_levels.specs.PossibleNodes.{node_count, possible}
use Rattle.path_levels.specs.PathParts.{form_at, literal, named, is_start, is_possible, has_level, has_middle, is_path_atom, path_part, triple_part, triple_part_at, level_part, middle_parts, last_level, reach_list, next_list, level_list, middle_list, parts_by, path_parts}
use Rattle.path_levels.proofs.Choices.{both_left, both_right}
use Rattle.path_levels.proofs.LevelSteps.{iff_trans}
use Rattle.path_levels.proofs.NodeLaws.{of_node}
use Rattle.path_levels.proofs.OpenedPaths.{NestsIn}
use Rattle.path_levels.proofs.Possibility.{has_is_possible}
use Rattle.path_levels.proofs.PlainParts.{Plain, list_of, reach_mean, level_mean, middle_mean}

module _ (s : Setting) (g : Graph) where
  at_two : (x y : ℕ) (P : Term → Term → Type 0) → x < node_count s → y < node_count s → OfNode s x (λ a. OfNode s y (λ b. P a b)) ↔ P (node s x) (node s y)
  at_two x y P l m = iff_trans (of_node s x (λ a. OfNode s y (λ b. P a b)) l) (of_node s y (λ b. P (node s x) b) m)

  at_three : (x z y : ℕ) (P : Term → Term → Term → Type 0) → x < node_count s → z < node_count s → y < node_count s → OfNode s x (λ a. OfNode s z (λ c. OfNode s y (λ b. P a c b))) ↔ P (node s x) (node s z) (node s y)
  at_three x z y P l n m = iff_trans (of_node s x (λ a. OfNode s z (λ c. OfNode s y (λ b. P a c b))) l) (at_two z y (λ c b. P (node s x) c b) n m)

  -- the numbers of a middle are of nodes
  middle_nodes : (p k x z y : ℕ) (f : Option PathForm) → has_middle s f p k x z y ≡ true → (x < node_count s) × (z < node_count s) × (y < node_count s)
  middle_nodes p k x z y (Some (Sequence a b)) e =
      let j = both_right (nat_eq k 0) (is_possible s a x z && is_possible s b z y) e in
      let c = has_is_possible s a x z (both_left (is_possible s a x z) (is_possible s b z y) j) in
      let d = has_is_possible s b z y (both_right (is_possible s a x z) (is_possible s b z y) j) in
      (c.0, c.1, d.1)
  middle_nodes p k x z y (Some (ZeroOrMore q)) e =
      let j = both_right (nat_lt (k + 1) (length (possible s p x))) (is_possible s p x z && is_possible s q z y) e in
      let c = has_is_possible s p x z (both_left (is_possible s p x z) (is_possible s q z y) j) in
      let d = has_is_possible s q z y (both_right (is_possible s p x z) (is_possible s q z y) j) in
      (c.0, c.1, d.1)
  middle_nodes p k x z y (Some (OneOrMore q)) e =
      let j = both_right (nat_lt (k + 1) (length (possible s p x))) (is_possible s p x z && is_possible s q z y) e in
      let c = has_is_possible s p x z (both_left (is_possible s p x z) (is_possible s q z y) j) in
      let d = has_is_possible s q z y (both_right (is_possible s p x z) (is_possible s q z y) j) in
      (c.0, c.1, d.1)
  middle_nodes p k x z y None e = absurd (false≢true e)
  middle_nodes p k x z y (Some (Predicate i)) e = absurd (false≢true e)
  middle_nodes p k x z y (Some (Inverse q)) e = absurd (false≢true e)
  middle_nodes p k x z y (Some (Alternative qs)) e = absurd (false≢true e)
  middle_nodes p k x z y (Some (ZeroOrOne q)) e = absurd (false≢true e)

  -- an atom of a path means the same of the terms that its numbers are of
  means_plain : (a : Atom) → is_path_atom s a ≡ true → Means s g a ↔ Plain s g a
  means_plain (atom.Reach p x y) e =
      let h = has_is_possible s p x y e in
      at_two x y (λ a b. Leads s g p a b) h.0 h.1
  means_plain (atom.Level p k x y) e =
      let h = has_is_possible s p x y (both_left (is_possible s p x y) (has_level (form_at s p) k (length (possible s p x))) e) in
      at_two x y (λ a b. LevelBy (λ q u v. Leads s g q u v) (form_at s p) k a b) h.0 h.1
  means_plain (atom.Middle p k x z y) e =
      let h = middle_nodes p k x z y (form_at s p) e in
      at_three x z y (λ a c b. MiddleBy (λ q u v. Leads s g q u v) (form_at s p) k a c b) h.0 h.1 h.2
  means_plain (atom.Triple t) e = absurd (false≢true e)
  means_plain (atom.Good i y) e = absurd (false≢true e)
  means_plain (atom.Marked i x y) e = absurd (false≢true e)
  means_plain (atom.Count i x j m) e = absurd (false≢true e)
  means_plain (atom.Differ i x y) e = absurd (false≢true e)
  means_plain (atom.Twin i x y z) e = absurd (false≢true e)
  means_plain (atom.Holds i x) e = absurd (false≢true e)
  means_plain (atom.Conforms n x) e = absurd (false≢true e)
  means_plain (atom.Target n x) e = absurd (false≢true e)

  -- so do the parts
  abbrev Same : Part → Type 0
  Same part = PartMeans (Means s g) part ↔ PartMeans (Plain s g) part

  same_path : (a : Atom) → Same (path_part s a)
  same_path a = at (is_path_atom s a) (means_plain a)
    where
      at : (b : Bool) → (b ≡ true → Means s g a ↔ Plain s g a) → Same (named b a)
      at true f = f refl
      at false f = (λ h. h, λ h. h)

  same_triple : (t : Statement) → Same (triple_part s t)
  same_triple t = at (candidate_number s t)
    where
      at : (m : Option ℕ) → Same (triple_part_at s m)
      at None = (λ h. h, λ h. h)
      at (Some i) = (λ h. h, λ h. h)

  same_level : (f : Option PathForm) (p k x y : ℕ) → Same (level_part s f p k x y)
  same_level f p k x y = at (is_start f k)
    where
      at : (b : Bool) → Same (cond b (Fixed (nat_eq x y)) (path_part s (atom.Level p k x y)))
      at true = (λ h. h, λ h. h)
      at false = same_path (atom.Level p k x y)

  each_same : (f : ℕ → Part) → ((z : ℕ) → Same (f z)) → (zs : List ℕ) → EachOf Same (map f zs)
  each_same f h [] = tt
  each_same f h (z ∷ zs) = (h z, each_same f h zs)

  middles_same : (p k x y : ℕ) (zs : List ℕ) → EachOf Same (middle_parts s p k x y zs)
  middles_same p k x y zs = each_same (λ z. path_part s (atom.Middle p k x z y)) (λ z. same_path (atom.Middle p k x z y)) zs

  reach_same : (f : Option PathForm) (p x y : ℕ) → EachOf Same (reach_list s f p x y)
  reach_same None p x y = tt
  reach_same (Some (Predicate i)) p x y = (same_triple (record { subject = node s x; predicate = Iri i; object = node s y }), tt)
  reach_same (Some (Inverse q)) p x y = (same_path (atom.Reach q y x), tt)
  reach_same (Some (Sequence a b)) p x y = middles_same p 0 x y (possible s a x)
  reach_same (Some (Alternative qs)) p x y = each_same (λ q. path_part s (atom.Reach q x y)) (λ q. same_path (atom.Reach q x y)) qs
  reach_same (Some (ZeroOrMore q)) p x y = (same_level (Some (ZeroOrMore q)) p (last_level s p x) x y, tt)
  reach_same (Some (OneOrMore q)) p x y = (same_level (Some (OneOrMore q)) p (last_level s p x) x y, tt)
  reach_same (Some (ZeroOrOne q)) p x y = ((λ h. h, λ h. h), (same_path (atom.Reach q x y), tt))

  next_same : (f : Option PathForm) (p k x y : ℕ) → EachOf Same (next_list s f p k x y)
  next_same f p k x y = (same_level f p k x y, middles_same p k x y (possible s p x))

  level_same : (f : Option PathForm) (p k x y : ℕ) → EachOf Same (level_list s f p k x y)
  level_same None p k x y = tt
  level_same (Some (Predicate i)) p k x y = tt
  level_same (Some (Inverse q)) p k x y = tt
  level_same (Some (Sequence a b)) p k x y = tt
  level_same (Some (Alternative qs)) p k x y = tt
  level_same (Some (ZeroOrMore q)) p zero x y = tt
  level_same (Some (ZeroOrMore q)) p (suc k) x y = next_same (Some (ZeroOrMore q)) p k x y
  level_same (Some (OneOrMore q)) p zero x y = (same_path (atom.Reach q x y), tt)
  level_same (Some (OneOrMore q)) p (suc k) x y = next_same (Some (OneOrMore q)) p k x y
  level_same (Some (ZeroOrOne q)) p k x y = tt

  middle_same : (f : Option PathForm) (p k x z y : ℕ) → EachOf Same (middle_list s f p k x z y)
  middle_same None p k x z y = tt
  middle_same (Some (Predicate i)) p k x z y = tt
  middle_same (Some (Inverse q)) p k x z y = tt
  middle_same (Some (Sequence a b)) p k x z y = (same_path (atom.Reach a x z), (same_path (atom.Reach b z y), tt))
  middle_same (Some (Alternative qs)) p k x z y = tt
  middle_same (Some (ZeroOrMore q)) p k x z y = (same_level (Some (ZeroOrMore q)) p k x z, (same_path (atom.Reach q z y), tt))
  middle_same (Some (OneOrMore q)) p k x z y = (same_level (Some (OneOrMore q)) p k x z, (same_path (atom.Reach q z y), tt))
  middle_same (Some (ZeroOrOne q)) p k x z y = tt

  all_same : (ps : List Part) → EachOf Same ps → EachOf (λ part. PartMeans (Means s g) part) ps ↔ EachOf (λ part. PartMeans (Plain s g) part) ps
  all_same [] e = (λ h. h, λ h. h)
  all_same (p ∷ ps) e = let r = all_same ps e.1 in (λ h. (e.0.0 h.0, r.0 h.1), λ h. (e.0.1 h.0, r.1 h.1))

  any_same : (ps : List Part) → EachOf Same ps → SomeOf (λ part. PartMeans (Means s g) part) ps ↔ SomeOf (λ part. PartMeans (Plain s g) part) ps
  any_same [] e = (λ h. h, λ h. h)
  any_same (p ∷ ps) e = let r = any_same ps e.1 in (to r.0, from r.1)
    where
      to : (SomeOf (λ part. PartMeans (Means s g) part) ps → SomeOf (λ part. PartMeans (Plain s g) part) ps) → PartMeans (Means s g) p ⊎ SomeOf (λ part. PartMeans (Means s g) part) ps → PartMeans (Plain s g) p ⊎ SomeOf (λ part. PartMeans (Plain s g) part) ps
      to more (inl h) = inl (e.0.0 h)
      to more (inr k) = inr (more k)

      from : (SomeOf (λ part. PartMeans (Plain s g) part) ps → SomeOf (λ part. PartMeans (Means s g) part) ps) → PartMeans (Plain s g) p ⊎ SomeOf (λ part. PartMeans (Plain s g) part) ps → PartMeans (Means s g) p ⊎ SomeOf (λ part. PartMeans (Means s g) part) ps
      from more (inl h) = inl (e.0.1 h)
      from more (inr k) = inr (more k)

  turned : {A B : Type 0} → A ↔ B → B ↔ A
  turned f = (f.1, f.0)

  module _ (fits : (p : ℕ) → NestsIn path_levels (paths s.shapes) p) (within : IsEdit s g) where
    pub parts_mean : (a : Atom) → is_path_atom s a ≡ true → Means s g a ↔ PartsMean (Means s g) (parts_by s a)
    parts_mean (atom.Reach p x y) e =
        iff_trans (means_plain (atom.Reach p x y) e)
        (iff_trans (reach_mean s fits g within p x y e) (turned (any_same (list_of s (atom.Reach p x y)) (reach_same (form_at s p) p x y))))
    parts_mean (atom.Level p k x y) e =
        iff_trans (means_plain (atom.Level p k x y) e)
        (iff_trans (level_mean s fits g within p k x y e) (turned (any_same (list_of s (atom.Level p k x y)) (level_same (form_at s p) p k x y))))
    parts_mean (atom.Middle p k x z y) e =
        iff_trans (means_plain (atom.Middle p k x z y) e)
        (iff_trans (middle_mean s fits g within p k x z y e) (turned (all_same (list_of s (atom.Middle p k x z y)) (middle_same (form_at s p) p k x z y))))
    parts_mean (atom.Triple t) e = absurd (false≢true e)
    parts_mean (atom.Good i y) e = absurd (false≢true e)
    parts_mean (atom.Marked i x y) e = absurd (false≢true e)
    parts_mean (atom.Count i x j m) e = absurd (false≢true e)
    parts_mean (atom.Differ i x y) e = absurd (false≢true e)
    parts_mean (atom.Twin i x y z) e = absurd (false≢true e)
    parts_mean (atom.Holds i x) e = absurd (false≢true e)
    parts_mean (atom.Conforms n x) e = absurd (false≢true e)
    parts_mean (atom.Target n x) e = absurd (false≢true e)

-- what the parts that a call answers mean
abbrev pub Mean : Setting → Atom → Parts → Type 0
Mean s a parts = (g : Graph) → IsEdit s g → Means s g a ↔ PartsMean (Means s g) parts

pub parts_meant : (s : Setting) → ((p : ℕ) → NestsIn path_levels (paths s.shapes) p) → (a : Atom) (o : Option Parts) → o ≡ path_parts s a → IfSome o (λ parts. Mean s a parts)
parts_meant s fits a o e = subst (λ p. IfSome p (λ parts. Mean s a parts)) (sym e) (at (is_path_atom s a) refl)
  where
    at : (b : Bool) → is_path_atom s a ≡ b → IfSome (cond b (Some (parts_by s a)) None) (λ parts. Mean s a parts)
    at true f = λ g within. parts_mean s g fits within a f
    at false f = tt
