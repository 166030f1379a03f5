-- What the rows of the table come down to where a look-up has found something, or nothing.
use Rattle.std.proofs.Common.{◌≡◌, ℕ, ◌<◌, ◌≤◌, Bool, true, false, cond, List, [], ◌∷◌, ◌++◌, map, flat_map, get_or, length, nat_lt, All, Contains, Some, None, slice_get, refl, sym, ap, ◌∙◌, subst, arith}
use Rattle.std.specs.Prelude.{option_map, option_and_then}
use Rattle.std.specs.Option.{option_map_or}
use Rattle.std.proofs.lemmas.Bool.Decides.{nat_tests}
use Rattle.std.proofs.lemmas.Option.{slice_get_past}
use Rattle.std.proofs.lemmas.List.{map-append}
use Rattle.std.proofs.lemmas.List.Elements.{Contains-get_or}
use Rattle.rdf_terms.specs.declared.term.Term.{Term}
use Rattle.rdf_terms.specs.declared.term.Term.TheVariants.{Iri}
use Rattle.rdf_terms.specs.Graph.{Graph, triples, is_of}
use Rattle.shapes_profile.specs.Shapes.{shape_terms}
use Rattle.shapes_graph.specs.Constraints.{constraint_at, constraints_of, is_deactivated, place_of}
use Rattle.shapes_graph.specs.declared.constraints.Constraint.{Constraint}
use Rattle.shapes_graph.specs.Forms.{form_of}
use Rattle.shapes_graph.specs.declared.targets.Target.{Target}
use Rattle.shapes_graph.specs.declared.targets.Target.TheVariants as target
use Rattle.std.specs.List.{filter_map, enumerate_from}
use Rattle.repair_problem.specs.declared.atom.Atom.TheVariants as atom
use Rattle.repair_problem.specs.declared.atom.Part.TheVariants.{Fixed}
use Rattle.rdf_terms.specs.Nodes.{Nodes, terms}
use Rattle.value_tests.specs.GoodNodes.{passes, is_good}
use Rattle.repair_problem.specs.Setting.{Setting, nodes, node}
use Rattle.path_levels.specs.PossibleNodes.{node_count}
use Rattle.path_levels.specs.PathParts.{literal}
use Rattle.core_constraints.proofs.Stated.{places_there}
use Rattle.atom_parts.specs.CandidateLists.{candidates_if, is_to, is_open}
use Rattle.atom_parts.specs.ValueParts.{values_of}
use Rattle.atom_parts.specs.PartsTable.{all_of, good_part, conforms_parts, target_list, triple_parts}
use Rattle.path_levels.proofs.NodeLaws.{node_is}
use Rattle.atom_parts.proofs.KindForms.{IsOfTerms, terms_good}
use Rattle.atom_parts.proofs.Reached.{value_node}

-- tests
pub not_below : (n m : ℕ) → nat_lt n m ≡ false → m ≤ n
not_below n m e = grind (arith, nat_tests)

-- pairs as they are found, and what stands for them
map_map : {A B C : Type 0} (f : A → B) (g : B → C) (xs : List A) → map g (map f xs) ≡ map (λ x. g (f x)) xs
map_map f g [] = refl
map_map f g (x ∷ xs) = ap (λ us. g (f x) ∷ us) (map_map f g xs)

pub pairs_mapped : {X : Type 0} (g : ℕ × ℕ → X) (later : ℕ → List ℕ) (ys : List ℕ) → map g (flat_map (λ y. map (λ z. (y, z)) (later y)) ys) ≡ flat_map (λ y. map (λ z. g (y, z)) (later y)) ys
pairs_mapped g later [] = refl
pairs_mapped g later (y ∷ ys) =
    map-append g (map (λ z. (y, z)) (later y)) (flat_map (λ y. map (λ z. (y, z)) (later y)) ys)
    ∙ (ap (λ us. us ++ map g (flat_map (λ y. map (λ z. (y, z)) (later y)) ys)) (map_map (λ z. (y, z)) g (later y))
    ∙ ap (λ us. map (λ z. g (y, z)) (later y) ++ us) (pairs_mapped g later ys))

module _ (s : Setting) where
  -- what is a value node in some edited graph is a node
  pub values_within : (n x : ℕ) (ys : List ℕ) → x < node_count s → ys ≡ values_of s n x → All (λ y. y < node_count s) ys
  values_within n x ys l e = λ k d m. value_node s n x (get_or ys k d) l (subst (λ zs. Contains zs (get_or ys k d)) e (Contains-get_or ys k d m))

  -- what a shape asks
  pub conforms_gone : (n x : ℕ) → length (shape_terms s.shapes) ≤ n → conforms_parts s n x ≡ None
  unfolding constraints_of
  conforms_gone n x l =
      ap (λ o. option_and_then (λ is. all_of (cond (is_deactivated s.shapes n) [] (map (λ i. literal (atom.Holds i x) true) is))) (option_map (λ y. filter_map (place_of s.shapes y) (enumerate_from 0 (triples s.shapes))) o)) (slice_get_past (shape_terms s.shapes) n l)

  pub conforms_all : (n x : ℕ) → n < length (shape_terms s.shapes) → is_deactivated s.shapes n ≡ true → conforms_parts s n x ≡ Some (record { every = true; list = [] })
  conforms_all n x l e =
      let r = places_there s.shapes n l in
      ap (option_and_then (λ is. all_of (cond (is_deactivated s.shapes n) [] (map (λ i. literal (atom.Holds i x) true) is)))) r.1
      ∙ ap (λ b. all_of (cond b [] (map (λ i. literal (atom.Holds i x) true) r.0))) e

  -- the node that was read at its number
  pub node_read : (n : Nodes) (y : ℕ) (t : Term) → n ≡ nodes s → slice_get (terms n) y ≡ Some t → t ≡ node s y
  node_read n y t e h = sym (node_is s y t (subst (λ m. slice_get (terms m) y ≡ Some t) e h))

  -- a test of terms by themselves
  pub terms_row : (i y : ℕ) (c : Constraint) → constraint_at s.shapes i ≡ Some c → IsOfTerms c.kind → (g : Graph) (t : Term) (b : Bool) → g ≡ s.shapes → t ≡ node s y → b ≡ is_good g i t → Fixed b ≡ good_part s i y (form_of c.kind)
  terms_row i y c stated h g t b eg et e =
      ap Fixed
      (e
      ∙ (ap (λ k. is_good k i t) eg
      ∙ (ap (is_good s.shapes i) et ∙ ap (λ o. option_map_or (λ (d : Constraint). passes (form_of d.kind) (node s y)) o false) stated)))
      ∙ sym ((terms_good c.kind h).1 s i y)

  -- the candidates of a target of subjects, or of objects
  pub subjects_row : (x : ℕ) (t : Setting) (a : Term) (q p : List ℕ) (to : Target) → t ≡ s → a ≡ node s x → q ≡ p → to ≡ target.SubjectsOf p → triple_parts (candidates_if t (is_of a (Iri q))) true ≡ target_list s x to
  subjects_row x t a q p to e f g h =
      ap (λ (u : Setting). triple_parts (candidates_if u (is_of a (Iri q))) true) e
      ∙ (ap (λ (b : Term). triple_parts (candidates_if s (is_of b (Iri q))) true) f
      ∙ (ap (λ (r : List ℕ). triple_parts (candidates_if s (is_of (node s x) (Iri r))) true) g ∙ ap (target_list s x) (sym h)))

  pub objects_row : (x : ℕ) (t : Setting) (a : Term) (q p : List ℕ) (to : Target) → t ≡ s → a ≡ node s x → q ≡ p → to ≡ target.ObjectsOf p → triple_parts (candidates_if t (is_to a (Iri q))) true ≡ target_list s x to
  objects_row x t a q p to e f g h =
      ap (λ (u : Setting). triple_parts (candidates_if u (is_to a (Iri q))) true) e
      ∙ (ap (λ (b : Term). triple_parts (candidates_if s (is_to b (Iri q))) true) f
      ∙ (ap (λ (r : List ℕ). triple_parts (candidates_if s (is_to (node s x) (Iri r))) true) g ∙ ap (target_list s x) (sym h)))

  -- the candidates that a closed shape forbids
  pub closed_row : (y : ℕ) (t : Setting) (a : Term) (us vs : List Term) → t ≡ s → a ≡ node s y → us ≡ vs → triple_parts (candidates_if t (is_open us a)) false ≡ triple_parts (candidates_if s (is_open vs (node s y))) false
  closed_row y t a us vs e f g =
      ap (λ (u : Setting). triple_parts (candidates_if u (is_open us a)) false) e
      ∙ (ap (λ (b : Term). triple_parts (candidates_if s (is_open us b)) false) f
      ∙ ap (λ (ws : List Term). triple_parts (candidates_if s (is_open ws (node s y))) false) g)
