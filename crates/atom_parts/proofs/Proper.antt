-- Each part that isn't fixed is an atom.
use Rattle.std.proofs.Common.{◌≡◌, ◌≢◌, ◌⊎◌, inl, inr, ℕ, zero, suc, ◌+◌, ◌-◌, ◌<◌, ◌≤◌, Bool, true, false, cond, ◌&&◌, List, [], ◌∷◌, ◌++◌, map, flat_map, filter, length, Contains, Option, Some, None, IfSome, nat_eq, nat_le, nat_lt, slice_get, refl, sym, ap, ◌∙◌, subst, if◌then◌else◌, arith}
use Rattle.std.specs.Prelude.{option_and_then, unwrap_or}
use Rattle.std.specs.List.{range_with_len}
use Rattle.std.proofs.lemmas.Bool.{lt-ltb, ltb-true}
use Rattle.std.proofs.lemmas.Option.{slice_get_within}
use Rattle.rdf_terms.specs.declared.term.Term.{Term}
use Rattle.rdf_terms.specs.declared.term.Term.TheVariants.{Iri}
use Rattle.rdf_terms.specs.Statement.{Statement}
use Rattle.rdf_terms.specs.Graph.{Graph}
use Rattle.rdf_terms.proofs.Members.{in_none, in_first, in_rest, in_cases, filter_in}
use Rattle.shapes_profile.specs.Logic.{EachOf}
use Rattle.shapes_profile.specs.Shapes.{shape_at, shape_terms}
use Rattle.shapes_profile.specs.Profile.{IsInProfile}
use Rattle.shapes_graph.specs.declared.paths.PathForm.{PathForm}
use Rattle.shapes_graph.specs.declared.paths.PathForm.TheVariants.{Predicate, Inverse, Sequence, Alternative, ZeroOrMore, OneOrMore, ZeroOrOne}
use Rattle.shapes_graph.specs.declared.constraints.Constraint.{Constraint}
use Rattle.shapes_graph.specs.declared.targets.Target.{Target}
use Rattle.shapes_graph.specs.declared.targets.Target.TheVariants as target
use Rattle.shapes_graph.specs.PathForms.{paths, path_of}
use Rattle.shapes_graph.specs.Reach.{path_levels}
use Rattle.shapes_graph.specs.Constraints.{constraint_at, constraints_of, is_deactivated, shapes_of_kind}
use Rattle.shapes_graph.specs.Targets.{targets}
use Rattle.shapes_graph.specs.Forms.{Test, Anything, Passes, IsA, NotObject, Conforming, Failing, AllOf, SomeOfThese, OneOf, Counted, Form, Every, Nested, Closing, Least, Most, Having, Same, Unique, form_of}
use Rattle.repair_problem.specs.declared.atom.Atom.{Atom}
use Rattle.repair_problem.specs.declared.atom.Atom.TheVariants as atom
use Rattle.repair_problem.specs.declared.atom.Literal.{Literal}
use Rattle.repair_problem.specs.declared.atom.Part.{Part}
use Rattle.repair_problem.specs.declared.atom.Part.TheVariants.{Fixed, Lit}
use Rattle.repair_problem.specs.declared.atom.Parts.{Parts}
use Rattle.repair_problem.specs.Setting.{Setting, node}
use Rattle.repair_problem.specs.Candidates.{candidates, candidate_number}
use Rattle.path_levels.specs.PossibleNodes.{node_count, possible}
use Rattle.path_levels.specs.PathParts.{form_at, literal, named, is_start, is_path_atom, path_part, triple_part, triple_part_at, level_part, middle_parts, last_level, reach_list, next_list, level_list, middle_list, parts_by, path_parts}
use Rattle.path_levels.proofs.OpenedPaths.{NamesBy, NestsIn}
use Rattle.count_encode.specs.PartTruth.{negation}
use Rattle.count_encode.specs.Counts.{counted}
use Rattle.core_constraints.specs.Levels.{level, IsStated}
use Rattle.core_constraints.proofs.Decided.{in_at, each_at}
use Rattle.core_constraints.proofs.Opened.{IsRanked, test_references, references, references_of}
use Rattle.atom_parts.specs.CandidateLists.{candidates_if, is_linked, linked_nodes}
use Rattle.atom_parts.specs.ValueParts.{node_number, values_of, value_part_by, value_part, of_node_part, term_value_part, instance_part, link_part, is_value, same_tags, later_twins, twins}
use Rattle.atom_parts.specs.PartLiterals.{In, literals}
use Rattle.atom_parts.specs.PartsTable.{all_of, any_of, where_true, by_constraint, is_node, is_shape, conforming_parts, triple_parts, test_parts, good_parts, test_part, good_part, marked_parts, counted_parts, value_and, differ_parts, twin_parts, items, need, counted_item, item_part, all_counted, none_marked, none_differs, no_twins, holds_parts, conforms_parts, target_list, target_parts, parts_of}
use Rattle.atom_parts.specs.Fixing.{Fixing, NoAtom, Free, ByParts, ByCount, by_parts, by_item, by_count, fixing, lower, IsFounded, founded}
use Rattle.repair_problem.proofs.CandidateLaws.{place_found}
use Rattle.core_constraints.proofs.Ranked.{ranked}
use Rattle.core_constraints.proofs.Stated.{places_there}
use Rattle.path_levels.proofs.Possibility.{below_out}
use Rattle.atom_parts.proofs.ConstraintKinds.{IsCounting, least_kind}
use Rattle.atom_parts.proofs.CandidateRows.{candidates_back}
use Rattle.atom_parts.proofs.Facts.{both_true}
use Rattle.atom_parts.proofs.Reached.{value_node, value_number}
use Rattle.atom_parts.proofs.Founded.{Names, each_literal, each_mapped, each_joined, each_flat, names_negation, names_counted, in_option, in_where}

-- parts fix an atom
parts_are : (o : Option Parts) (ps : Parts) → o ≡ Some ps → by_parts o ≢ NoAtom
parts_are o ps e z = at (subst (λ p. by_parts p ≡ NoAtom) e z)
  where
    at : ByParts ps ≡ NoAtom → ⊥
    at q = cc

where_are : (b : Bool) (o : Option Parts) (ps : Parts) → b ≡ true → o ≡ Some ps → by_parts (where_true b o) ≢ NoAtom
where_are b o ps t e = parts_are (where_true b o) ps (ap (λ c. where_true c o) t ∙ e)

-- the shape of a number in range
shape_there : (s : Graph) (n : ℕ) → n < length (shape_terms s) → (x : Term) × (shape_at s n ≡ Some x)
shape_there s n l = there (shape_terms s) n l
  where
    there : (xs : List Term) (n : ℕ) → n < length xs → (x : Term) × (slice_get xs n ≡ Some x)
    there [] n l = absurd (omega (arith, l))
    there (x ∷ xs) zero l = (x, refl)
    there (x ∷ xs) (suc n) l = there xs n (omega (arith, l))

module _ (s : Setting) where
  abbrev pub Is : Atom → Type 0
  Is a = fixing s a ≢ NoAtom

  named_path : (a : Atom) → fixing s a ≡ by_parts (path_parts s a) → Names Is (path_part s a)
  named_path a e = at (is_path_atom s a) refl
    where
      at : (b : Bool) → is_path_atom s a ≡ b → Names Is (named b a)
      at true t = λ z. parts_are (path_parts s a) (parts_by s a) (ap (λ b. if b then Some (parts_by s a) else None) t) (sym e ∙ z)
      at false t = tt

  triple_is : (t : ℕ) → t < length (candidates s) → Is (atom.Triple t)
  triple_is t l z = at (subst (λ b. (if b then Free else NoAtom) ≡ NoAtom) (lt-ltb t (length (candidates s)) l) z)
    where
      at : Free ≡ NoAtom → ⊥
      at q = cc

  named_triple : (t : Statement) → Names Is (triple_part s t)
  named_triple t = at (candidate_number s t) refl
    where
      at : (o : Option ℕ) → candidate_number s t ≡ o → Names Is (triple_part_at s o)
      at None e = tt
      at (Some i) e = triple_is i (slice_get_within (candidates s) i t (place_found (candidates s) t i e))

  named_triples : (test : Statement → Bool) (p : Bool) → EachOf (Names Is) (triple_parts (candidates_if s test) p)
  named_triples test p = each_mapped Is (λ t. literal (atom.Triple t) p) (candidates_if s test) (λ t c. let r = candidates_back s test t c in triple_is t (slice_get_within (candidates s) t r.0 r.1))

  level_named : (f : Option PathForm) (p k x y : ℕ) → Names Is (level_part s f p k x y)
  level_named f p k x y = at (is_start f k)
    where
      at : (b : Bool) → Names Is (if b then Fixed (nat_eq x y) else path_part s (atom.Level p k x y))
      at true = tt
      at false = named_path (atom.Level p k x y) refl

  middles_named : (p k x y : ℕ) (zs : List ℕ) → EachOf (Names Is) (middle_parts s p k x y zs)
  middles_named p k x y zs = each_mapped Is (λ z. path_part s (atom.Middle p k x z y)) zs (λ z c. named_path (atom.Middle p k x z y) refl)

  reach_named : (f : Option PathForm) (p x y : ℕ) → EachOf (Names Is) (reach_list s f p x y)
  reach_named None p x y = tt
  reach_named (Some (Predicate i)) p x y = (named_triple (record { subject = node s x; predicate = Iri i; object = node s y }), tt)
  reach_named (Some (Inverse q)) p x y = (named_path (atom.Reach q y x) refl, tt)
  reach_named (Some (Sequence a b)) p x y = middles_named p 0 x y (possible s a x)
  reach_named (Some (Alternative qs)) p x y = each_mapped Is (λ q. path_part s (atom.Reach q x y)) qs (λ q c. named_path (atom.Reach q x y) refl)
  reach_named (Some (ZeroOrMore q)) p x y = (level_named (Some (ZeroOrMore q)) p (last_level s p x) x y, tt)
  reach_named (Some (OneOrMore q)) p x y = (level_named (Some (OneOrMore q)) p (last_level s p x) x y, tt)
  reach_named (Some (ZeroOrOne q)) p x y = (tt, (named_path (atom.Reach q x y) refl, tt))

  next_named : (f : Option PathForm) (p k x y : ℕ) → EachOf (Names Is) (next_list s f p k x y)
  next_named f p k x y = (level_named f p k x y, middles_named p k x y (possible s p x))

  levels_named : (f : Option PathForm) (p k x y : ℕ) → EachOf (Names Is) (level_list s f p k x y)
  levels_named (Some (ZeroOrMore q)) p zero x y = tt
  levels_named (Some (ZeroOrMore q)) p (suc k) x y = next_named (Some (ZeroOrMore q)) p k x y
  levels_named (Some (OneOrMore q)) p zero x y = (named_path (atom.Reach q x y) refl, tt)
  levels_named (Some (OneOrMore q)) p (suc k) x y = next_named (Some (OneOrMore q)) p k x y
  levels_named None p k x y = tt
  levels_named (Some (Predicate i)) p k x y = tt
  levels_named (Some (Inverse q)) p k x y = tt
  levels_named (Some (Sequence a b)) p k x y = tt
  levels_named (Some (Alternative qs)) p k x y = tt
  levels_named (Some (ZeroOrOne q)) p k x y = tt

  middle_named : (f : Option PathForm) (p k x z y : ℕ) → EachOf (Names Is) (middle_list s f p k x z y)
  middle_named (Some (Sequence a b)) p k x z y = (named_path (atom.Reach a x z) refl, (named_path (atom.Reach b z y) refl, tt))
  middle_named (Some (ZeroOrMore q)) p k x z y = (level_named (Some (ZeroOrMore q)) p k x z, (named_path (atom.Reach q z y) refl, tt))
  middle_named (Some (OneOrMore q)) p k x z y = (level_named (Some (OneOrMore q)) p k x z, (named_path (atom.Reach q z y) refl, tt))
  middle_named None p k x z y = tt
  middle_named (Some (Predicate i)) p k x z y = tt
  middle_named (Some (Inverse q)) p k x z y = tt
  middle_named (Some (Alternative qs)) p k x z y = tt
  middle_named (Some (ZeroOrOne q)) p k x z y = tt

  path_proper : (a : Atom) → EachOf (Names Is) ((parts_by s a).list) → IfSome (path_parts s a) (λ ps. EachOf (Names Is) ps.list)
  path_proper a h = at (is_path_atom s a)
    where
      at : (b : Bool) → IfSome (if b then Some (parts_by s a) else None) (λ ps. EachOf (Names Is) ps.list)
      at true = h
      at false = tt

  named_value : (n x y : ℕ) → Names Is (value_part s n x y)
  named_value n x y = at (path_of s.shapes n)
    where
      at : (o : Option ℕ) → Names Is (value_part_by s o x y)
      at None = tt
      at (Some p) = named_path (atom.Reach p x y) refl

  named_of_node : (o : Option ℕ) (f : ℕ → Part) → ((y : ℕ) → Names Is (f y)) → Names Is (of_node_part s o f)
  named_of_node None f h = tt
  named_of_node (Some y) f h = h y

  named_instance : (y : ℕ) (c : Term) → Names Is (instance_part s y c)
  named_instance y c = named_of_node (node_number s c) (λ z. path_part s (atom.Reach 3 y z)) (λ z. named_path (atom.Reach 3 y z) refl)

  named_link : (q : List ℕ) (x y : ℕ) → Names Is (link_part s q x y)
  named_link q x y = named_triple (record { subject = node s x; predicate = Iri q; object = node s y })

  -- where a test is passed
  in_test : (b : Bool) (o : Option Parts) → (b ≡ true → IfSome o (λ ps. EachOf (Names Is) ps.list)) → IfSome (where_true b o) (λ ps. EachOf (Names Is) ps.list)
  in_test true o h = h refl
  in_test false o h = tt

  conforms_is : (u y : ℕ) → is_node s y ≡ true → u < length (shape_terms s.shapes) → Is (atom.Conforms u y)
  conforms_is u y t l = let r = places_there s.shapes u l in where_are (is_node s y) (conforms_parts s u y) _ t (ap (option_and_then (λ is. all_of (if is_deactivated s.shapes u then [] else map (λ i. literal (atom.Holds i y) true) is))) r.1)

  target_is : (n x : ℕ) → is_node s x ≡ true → n < length (shape_terms s.shapes) → Is (atom.Target n x)
  target_is n x t l = let r = shape_there s.shapes n l in where_are (is_node s x) (target_parts s n x) _ t (ap (option_and_then (λ shape. any_of (flat_map (target_list s x) (targets s.shapes shape)))) r.1)

  module _ (i : ℕ) (c : Constraint) (f : Form) (e : constraint_at s.shapes i ≡ Some c) (k : form_of c.kind ≡ f) (low : (u : ℕ) → Contains (references f) u → u < length (shape_terms s.shapes)) where
    found : (parts : ℕ → Form → Option Parts) (ps : Parts) → parts c.shape f ≡ Some ps → by_constraint s i parts ≡ Some ps
    found parts ps q = ap (option_and_then (λ d. parts d.shape (form_of d.kind))) e ∙ (ap (parts c.shape) k ∙ q)

    conforming : (us : List ℕ) (y : ℕ) (p : Bool) → is_node s y ≡ true → ((u : ℕ) → Contains us u → u < length (shape_terms s.shapes)) → EachOf (Names Is) (conforming_parts us y p)
    conforming us y p t h = each_mapped Is (λ u. literal (atom.Conforms u y) p) us (λ u d. conforms_is u y t (h u d))

    -- a counter in range
    count_is : (x j m : ℕ) → is_node s x ≡ true → 1 ≤ m → m ≤ j → m ≤ need f → j ≤ length (items s c.shape x f) → Is (atom.Count i x j m)
    count_is x j m t least most needed within z = at (subst (λ o. unwrap_or (option_and_then (λ d. Some (by_count s i d.shape x j m (form_of d.kind))) o) NoAtom ≡ NoAtom) e z)
      where
        there : (ys : List ℕ) (n : ℕ) → n < length ys → (y : ℕ) × (slice_get ys n ≡ Some y)
        there [] n l = absurd (omega (arith, l))
        there (y ∷ ys) zero l = (y, refl)
        there (y ∷ ys) (suc n) l = there ys n (omega (arith, l))

        test : (is_node s x && (nat_le 1 m && (nat_le m j && nat_le m (need f)))) ≡ true
        test = ap (λ b. b && (nat_le 1 m && (nat_le m j && nat_le m (need f)))) t ∙ numbers
          where
            numbers : (nat_le 1 m && (nat_le m j && nat_le m (need f))) ≡ true
            numbers = grind (arith, least, most, needed)

        one : (y : ℕ) × (slice_get (items s c.shape x f) (j - 1) ≡ Some y)
        one = there (items s c.shape x f) (j - 1) (omega (arith, least, most, within))

        fixed : by_count s i c.shape x j m f ≡ ByCount i x j m (item_part s i c.shape x one.0 f)
        fixed = ap (λ b. if b then by_item s i c.shape x j m f (slice_get (items s c.shape x f) (j - 1)) else NoAtom) test ∙ ap (by_item s i c.shape x j m f) one.1

        at : by_count s i c.shape x j m (form_of c.kind) ≡ NoAtom → ⊥
        at q = no (sym fixed ∙ (ap (by_count s i c.shape x j m) (sym k) ∙ q))
          where
            no : ByCount i x j m (item_part s i c.shape x one.0 f) ≡ NoAtom → ⊥
            no r = cc

    named_count : (x j m : ℕ) → is_node s x ≡ true → m ≤ need f → j ≤ length (items s c.shape x f) → Names Is (counted i x j m)
    named_count x j m t needed within = at (nat_eq m 0) (nat_lt j m) refl refl
      where
        at : (b d : Bool) → nat_eq m 0 ≡ b → nat_lt j m ≡ d → Names Is (if b then Fixed true else (if d then Fixed false else Lit (record { atom = atom.Count i x j m; positive = true })))
        at true d q r = tt
        at false true q r = tt
        at false false q r = count_is x j m t (grind (arith, q)) (grind (arith, r)) needed within

    -- an atom of a test: what it comes down to is in the table
    good_is : (ps : Parts) (y : ℕ) → is_node s y ≡ true → good_parts s i y f ≡ Some ps → Is (atom.Good i y)
    good_is ps y t q = where_are (is_node s y) (by_constraint s i (λ n f. good_parts s i y f)) ps t (found (λ n f. good_parts s i y f) ps q)

    marked_is : (ps : Parts) (x y : ℕ) → is_node s x ≡ true → is_node s y ≡ true → is_value s c.shape x y ≡ true → marked_parts s i c.shape x y f ≡ Some ps → Is (atom.Marked i x y)
    marked_is ps x y t u v q =
        where_are (is_node s x && is_node s y) (by_constraint s i (λ n f. where_true (is_value s n x y) (marked_parts s i n x y f))) ps (ap (λ b. b && is_node s y) t ∙ u)
        (found (λ n f. where_true (is_value s n x y) (marked_parts s i n x y f)) ps (ap (λ b. where_true b (marked_parts s i c.shape x y f)) v ∙ q))

    holds_is : (ps : Parts) (x : ℕ) → is_node s x ≡ true → holds_parts s i c.shape x f ≡ Some ps → Is (atom.Holds i x)
    holds_is ps x t q = where_are (is_node s x) (by_constraint s i (λ n f. holds_parts s i n x f)) ps t (found (λ n f. holds_parts s i n x f) ps q)

    differ_is : (ps : Parts) (x y : ℕ) → is_node s x ≡ true → is_node s y ≡ true → differ_parts s c.shape x y f ≡ Some ps → Is (atom.Differ i x y)
    differ_is ps x y t u q = where_are (is_node s x && is_node s y) (by_constraint s i (λ n f. differ_parts s n x y f)) ps (ap (λ b. b && is_node s y) t ∙ u) (found (λ n f. differ_parts s n x y f) ps q)

    twin_is : (ps : Parts) (x y v : ℕ) → is_node s x ≡ true → is_node s y ≡ true → is_node s v ≡ true → twin_parts s c.shape x y v f ≡ Some ps → Is (atom.Twin i x y v)
    twin_is ps x y v t u w q = where_are (is_node s x && (is_node s y && is_node s v)) (by_constraint s i (λ n f. twin_parts s n x y v f)) ps (ap (λ b. b && (is_node s y && is_node s v)) t ∙ (ap (λ b. b && is_node s v) u ∙ w)) (found (λ n f. twin_parts s n x y v f) ps q)

    -- lists of parts of the constraint
    test_proper : (t : Test) (y : ℕ) → is_node s y ≡ true → ((u : ℕ) → Contains (test_references t) u → u < length (shape_terms s.shapes)) → ((us : List ℕ) → t ≡ OneOf us → (need f ≡ 2) × (items s c.shape y f ≡ us)) → IfSome (test_parts s i y t) (λ ps. EachOf (Names Is) ps.list)
    test_proper Anything y t h own = tt
    test_proper (Passes test) y t h own = tt
    test_proper (IsA d) y t h own = (named_instance y d, tt)
    test_proper (NotObject q) y t h own = tt
    test_proper (Conforming u) y t h own = conforming (u ∷ []) y true t h
    test_proper (Failing u) y t h own = conforming (u ∷ []) y false t h
    test_proper (AllOf us) y t h own = conforming us y true t h
    test_proper (SomeOfThese us) y t h own = conforming us y true t h
    test_proper (OneOf us) y t h own =
        let o = own us refl in
        let n = o.0 in
        let all : length us ≤ length (items s c.shape y f) = subst (λ vs. length us ≤ length vs) (sym o.1) (omega arith) in
        (named_count y (length us) 1 t (omega (arith, n)) all, (names_negation Is (counted i y (length us) 2) (named_count y (length us) 2 t (omega (arith, n)) all), tt))
    test_proper (Counted u us) y t h own = each_joined Is (conforming_parts (u ∷ []) y true) (conforming_parts us y false) (conforming (u ∷ []) y true t (λ v d. h v (one v d))) (conforming us y false t (λ v d. h v (in_rest u us v d)))
      where
        one : (v : ℕ) → Contains (u ∷ []) v → Contains (u ∷ us) v
        one v d = pick (in_cases u [] v d)
          where
            pick : (u ≡ v) ⊎ Contains [] v → Contains (u ∷ us) v
            pick (inl r) = subst (Contains (u ∷ us)) r (in_first u us)
            pick (inr r) = absurd (in_none v r)

    good_by : (t : Test) (ps : Parts) (y : ℕ) → is_node s y ≡ true → (Every t ≡ f) ⊎ ((n : ℕ) × ((Least n t ≡ f) ⊎ (Most n t ≡ f))) → test_parts s i y t ≡ Some ps → Is (atom.Good i y)
    good_by t ps y n (inl r) q = good_is ps y n (subst (λ g. good_parts s i y g ≡ Some ps) r q)
    good_by t ps y n (inr (m, inl r)) q = good_is ps y n (subst (λ g. good_parts s i y g ≡ Some ps) r q)
    good_by t ps y n (inr (m, inr r)) q = good_is ps y n (subst (λ g. good_parts s i y g ≡ Some ps) r q)

    -- a test that is told by a part names the atom where it is one
    named_test : (t : Test) (y : ℕ) → is_node s y ≡ true → (Every t ≡ f) ⊎ ((n : ℕ) × ((Least n t ≡ f) ⊎ (Most n t ≡ f))) → Names Is (test_part s i y t)
    named_test Anything y t k = tt
    named_test (Passes test) y t k = tt
    named_test (NotObject q) y t k = tt
    named_test (IsA d) y t k = good_by (IsA d) _ y t k refl
    named_test (Conforming u) y t k = good_by (Conforming u) _ y t k refl
    named_test (Failing u) y t k = good_by (Failing u) _ y t k refl
    named_test (AllOf us) y t k = good_by (AllOf us) _ y t k refl
    named_test (SomeOfThese us) y t k = good_by (SomeOfThese us) _ y t k refl
    named_test (OneOf us) y t k = good_by (OneOf us) _ y t k refl
    named_test (Counted u us) y t k = good_by (Counted u us) _ y t k refl

    values_in : (x : ℕ) → is_node s x ≡ true → (y : ℕ) → Contains (values_of s c.shape x) y → (is_node s y ≡ true) × (is_value s c.shape x y ≡ true)
    values_in x t y h = (lt-ltb y (node_count s) (value_node s c.shape x y (ltb-true x (node_count s) t) h), value_number s c.shape x y h)

    with_value : (x y : ℕ) (p : Part) → Names Is p → EachOf (Names Is) (value_part s c.shape x y ∷ p ∷ [])
    with_value x y p h = (named_value c.shape x y, (h, tt))

    good_form : (h : Form) (ps : Parts) (y : ℕ) → is_node s y ≡ true → h ≡ f → good_parts s i y h ≡ Some ps → Is (atom.Good i y)
    good_form h ps y t r q = good_is ps y t (subst (λ g. good_parts s i y g ≡ Some ps) r q)

    every_some : (x y : ℕ) (t : Test) → (ps : Parts) × (marked_parts s i c.shape x y (Every t) ≡ Some ps)
    every_some x y Anything = (_, refl)
    every_some x y (Passes test) = (_, refl)
    every_some x y (IsA d) = (_, refl)
    every_some x y (NotObject q) = (_, refl)
    every_some x y (Conforming u) = (_, refl)
    every_some x y (Failing u) = (_, refl)
    every_some x y (AllOf us) = (_, refl)
    every_some x y (SomeOfThese us) = (_, refl)
    every_some x y (OneOf us) = (_, refl)
    every_some x y (Counted u us) = (_, refl)

    marked_form : (h : Form) (ps : Parts) (x y : ℕ) → is_node s x ≡ true → Contains (values_of s c.shape x) y → h ≡ f → marked_parts s i c.shape x y h ≡ Some ps → Is (atom.Marked i x y)
    marked_form h ps x y t d r q = let v = values_in x t y d in marked_is ps x y t v.0 v.1 (subst (λ g. marked_parts s i c.shape x y g ≡ Some ps) r q)

    none_marked_proper : (h : Form) (x : ℕ) → is_node s x ≡ true → h ≡ f → ((y : ℕ) → (ps : Parts) × (marked_parts s i c.shape x y h ≡ Some ps)) → EachOf (Names Is) (none_marked s i c.shape x)
    none_marked_proper h x t r some = each_mapped Is (λ y. literal (atom.Marked i x y) false) (values_of s c.shape x) (λ y d. let m = some y in marked_form h m.0 x y t d r m.1)

    -- the items that a counter is over
    counting_item : (t : Test) (x y : ℕ) → is_node s x ≡ true → IsCounting t → (n : ℕ) → (Least n t ≡ f) ⊎ (Most n t ≡ f) → Contains (values_of s c.shape x) y → Names Is (counted_item s i c.shape x y t)
    counting_item Anything x y t h n r d = named_value c.shape x y
    counting_item (Counted u us) x y t h n (inl r) d = marked_form (Least n (Counted u us)) _ x y t d r refl
    counting_item (Counted u us) x y t h n (inr r) d = marked_form (Most n (Counted u us)) _ x y t d r refl
    counting_item (Passes test) x y t h n r d = absurd h
    counting_item (IsA e) x y t h n r d = absurd h
    counting_item (NotObject q) x y t h n r d = absurd h
    counting_item (Conforming u) x y t h n r d = absurd h
    counting_item (Failing u) x y t h n r d = absurd h
    counting_item (AllOf us) x y t h n r d = absurd h
    counting_item (SomeOfThese us) x y t h n r d = absurd h
    counting_item (OneOf us) x y t h n r d = absurd h

    -- what is asked of all value nodes
    differs_proper : (q : List ℕ) (x : ℕ) → is_node s x ≡ true → Same q ≡ f → EachOf (Names Is) (none_differs s i q x)
    differs_proper q x t r =
        each_mapped Is (λ y. literal (atom.Differ i x y) false) (linked_nodes s q x)
        (λ y d.
        let m = filter_in (is_linked s q x) (range_with_len 0 (node_count s)) y d in
        differ_is (record { every = true; list = negation (value_part s c.shape x y) ∷ link_part s q x y ∷ [] }) x y t (lt-ltb y (node_count s) (below_out (node_count s) y m.0)) (subst (λ g. differ_parts s c.shape x y g ≡ Some (record { every = true; list = negation (value_part s c.shape x y) ∷ link_part s q x y ∷ [] })) r (ap (λ b. where_true b (all_of (negation (value_part s c.shape x y) ∷ link_part s q x y ∷ []))) m.1)))

    twins_proper : (x : ℕ) → is_node s x ≡ true → Unique true ≡ f → EachOf (Names Is) (no_twins s i c.shape x)
    twins_proper x t r =
        each_flat Is (λ y. map (λ v. literal (atom.Twin i x y v) false) (later_twins s (values_of s c.shape x) y)) (values_of s c.shape x)
        (λ y d. each_mapped Is (λ v. literal (atom.Twin i x y v) false) (later_twins s (values_of s c.shape x) y)
        (λ v h.
        let m = filter_in (λ u. nat_lt y u && same_tags s y u) (values_of s c.shape x) v h in
        let b = both_true (nat_lt y v) (same_tags s y v) m.1 in
        let a = values_in x t y d in
        let z = values_in x t v m.0 in
        let test : (nat_lt y v && (same_tags s y v && (is_value s c.shape x y && is_value s c.shape x v))) ≡ true = ap (λ n. n && (same_tags s y v && (is_value s c.shape x y && is_value s c.shape x v))) b.0 ∙ (ap (λ n. n && (is_value s c.shape x y && is_value s c.shape x v)) b.1 ∙ (ap (λ n. n && is_value s c.shape x v) a.1 ∙ z.1)) in
        twin_is (record { every = true; list = value_part s c.shape x y ∷ value_part s c.shape x v ∷ [] }) x y v t a.0 z.0 (subst (λ g. twin_parts s c.shape x y v g ≡ Some (record { every = true; list = value_part s c.shape x y ∷ value_part s c.shape x v ∷ [] })) r (ap (λ n. where_true n (value_and s c.shape x y (value_part s c.shape x v))) test))))

    holds_proper : (h : Form) (x : ℕ) → is_node s x ≡ true → h ≡ f → IfSome (holds_parts s i c.shape x h) (λ ps. EachOf (Names Is) ps.list)
    holds_proper (Every g) x t r = none_marked_proper (Every g) x t r (λ y. every_some x y g)
    holds_proper (Nested u) x t r = none_marked_proper (Nested u) x t r (λ y. (_, refl))
    holds_proper (Closing on allowed) x t r = none_marked_proper (Closing on allowed) x t r (λ y. (_, refl))
    holds_proper (Least n g) x t r = (named_count x (length (values_of s c.shape x)) n t (subst (λ h. n ≤ need h) r (omega arith)) (subst (λ h. length (values_of s c.shape x) ≤ length (items s c.shape x h)) r (omega arith)), tt)
    holds_proper (Most n g) x t r = (names_negation Is (all_counted s i c.shape x (Most n g) (n + 1)) (named_count x (length (values_of s c.shape x)) (n + 1) t (subst (λ h. n + 1 ≤ need h) r (omega arith)) (subst (λ h. length (values_of s c.shape x) ≤ length (items s c.shape x h)) r (omega arith))), tt)
    holds_proper (Having o) x t r = (named_of_node (node_number s o) (λ y. value_part s c.shape x y) (λ y. named_value c.shape x y), tt)
    holds_proper (Same q) x t r = each_joined Is (none_marked s i c.shape x) (none_differs s i q x) (none_marked_proper (Same q) x t r (λ y. (_, refl))) (differs_proper q x t r)
    holds_proper (Unique true) x t r = twins_proper x t r
    holds_proper (Unique false) x t r = tt

    -- each constraint that holds is an atom
    holds_there : (x : ℕ) → is_node s x ≡ true → Is (atom.Holds i x)
    holds_there x t = let h = holds_some f in holds_is h.0 x t h.1
      where
        holds_some : (h : Form) → (ps : Parts) × (holds_parts s i c.shape x h ≡ Some ps)
        holds_some (Every g) = (_, refl)
        holds_some (Nested u) = (_, refl)
        holds_some (Closing on allowed) = (_, refl)
        holds_some (Least n g) = (_, refl)
        holds_some (Most n g) = (_, refl)
        holds_some (Having o) = (_, refl)
        holds_some (Same q) = (_, refl)
        holds_some (Unique true) = (_, refl)
        holds_some (Unique false) = (_, refl)

    good_proper : (h : Form) (y : ℕ) → is_node s y ≡ true → h ≡ f → ((n : ℕ) (t : Test) → (h ≡ Least n t) ⊎ (h ≡ Most n t) → IsCounting t) → IfSome (good_parts s i y h) (λ ps. EachOf (Names Is) ps.list)
    good_proper (Every g) y t r counts = test_proper g y t (λ u d. low u (subst (λ h. Contains (references h) u) r d)) (λ us q. (ap need (sym r ∙ ap Every q), ap (items s c.shape y) (sym r ∙ ap Every q)))
    good_proper (Nested u) y t r counts = conforming (u ∷ []) y true t (λ v d. low v (subst (λ h. Contains (references h) v) r d))
    good_proper (Closing true allowed) y t r counts = named_triples _ false
    good_proper (Closing false allowed) y t r counts = tt
    good_proper (Least n g) y t r counts = test_proper g y t (λ u d. low u (subst (λ h. Contains (references h) u) r d)) (λ us q. absurd (subst IsCounting q (counts n g (inl refl))))
    good_proper (Most n g) y t r counts = test_proper g y t (λ u d. low u (subst (λ h. Contains (references h) u) r d)) (λ us q. absurd (subst IsCounting q (counts n g (inr refl))))
    good_proper (Having o) y t r counts = tt
    good_proper (Same q) y t r counts = tt
    good_proper (Unique on) y t r counts = tt

    counted_proper : (g : Test) (x y : ℕ) → is_node s y ≡ true → (n : ℕ) → (Least n g ≡ f) ⊎ (Most n g ≡ f) → IfSome (counted_parts s i c.shape x y g) (λ ps. EachOf (Names Is) ps.list)
    counted_proper Anything x y t n r = tt
    counted_proper (Passes test) x y t n r = with_value x y (test_part s i y (Passes test)) (named_test (Passes test) y t (inr (n, r)))
    counted_proper (IsA d) x y t n r = with_value x y (test_part s i y (IsA d)) (named_test (IsA d) y t (inr (n, r)))
    counted_proper (NotObject q) x y t n r = with_value x y (test_part s i y (NotObject q)) (named_test (NotObject q) y t (inr (n, r)))
    counted_proper (Conforming u) x y t n r = with_value x y (test_part s i y (Conforming u)) (named_test (Conforming u) y t (inr (n, r)))
    counted_proper (Failing u) x y t n r = with_value x y (test_part s i y (Failing u)) (named_test (Failing u) y t (inr (n, r)))
    counted_proper (AllOf us) x y t n r = with_value x y (test_part s i y (AllOf us)) (named_test (AllOf us) y t (inr (n, r)))
    counted_proper (SomeOfThese us) x y t n r = with_value x y (test_part s i y (SomeOfThese us)) (named_test (SomeOfThese us) y t (inr (n, r)))
    counted_proper (OneOf us) x y t n r = with_value x y (test_part s i y (OneOf us)) (named_test (OneOf us) y t (inr (n, r)))
    counted_proper (Counted u us) x y t n r = with_value x y (test_part s i y (Counted u us)) (named_test (Counted u us) y t (inr (n, r)))

    not_test : (g : Test) (x y : ℕ) → is_node s y ≡ true → Every g ≡ f → EachOf (Names Is) (value_part s c.shape x y ∷ negation (test_part s i y g) ∷ [])
    not_test g x y t r = with_value x y (negation (test_part s i y g)) (names_negation Is (test_part s i y g) (named_test g y t (inl r)))

    marked_proper : (h : Form) (x y : ℕ) → is_node s y ≡ true → h ≡ f → IfSome (marked_parts s i c.shape x y h) (λ ps. EachOf (Names Is) ps.list)
    marked_proper (Every Anything) x y t r = not_test Anything x y t r
    marked_proper (Every (Passes test)) x y t r = not_test (Passes test) x y t r
    marked_proper (Every (IsA d)) x y t r = not_test (IsA d) x y t r
    marked_proper (Every (NotObject q)) x y t r = with_value x y (link_part s q x y) (named_link q x y)
    marked_proper (Every (Conforming u)) x y t r = not_test (Conforming u) x y t r
    marked_proper (Every (Failing u)) x y t r = not_test (Failing u) x y t r
    marked_proper (Every (AllOf us)) x y t r = not_test (AllOf us) x y t r
    marked_proper (Every (SomeOfThese us)) x y t r = not_test (SomeOfThese us) x y t r
    marked_proper (Every (OneOf us)) x y t r = not_test (OneOf us) x y t r
    marked_proper (Every (Counted u us)) x y t r = not_test (Counted u us) x y t r
    marked_proper (Nested u) x y t r = with_value x y (negation (literal (atom.Good i y) true)) (good_form (Nested u) _ y t r refl)
    marked_proper (Closing true allowed) x y t r = with_value x y (negation (literal (atom.Good i y) true)) (good_form (Closing true allowed) _ y t r refl)
    marked_proper (Closing false allowed) x y t r = with_value x y (Fixed false) tt
    marked_proper (Same q) x y t r = with_value x y (negation (link_part s q x y)) (names_negation Is (link_part s q x y) (named_link q x y))
    marked_proper (Least n g) x y t r = counted_proper g x y t n (inl r)
    marked_proper (Most n g) x y t r = counted_proper g x y t n (inr r)
    marked_proper (Having o) x y t r = tt
    marked_proper (Unique on) x y t r = tt

    differ_proper : (h : Form) (x y : ℕ) → IfSome (differ_parts s c.shape x y h) (λ ps. EachOf (Names Is) ps.list)
    differ_proper (Same q) x y = in_where Is (is_linked s q x y) (Some (record { every = true; list = negation (value_part s c.shape x y) ∷ link_part s q x y ∷ [] })) (names_negation Is (value_part s c.shape x y) (named_value c.shape x y), (named_link q x y, tt))
    differ_proper (Every g) x y = tt
    differ_proper (Nested u) x y = tt
    differ_proper (Closing on allowed) x y = tt
    differ_proper (Least n g) x y = tt
    differ_proper (Most n g) x y = tt
    differ_proper (Having o) x y = tt
    differ_proper (Unique on) x y = tt

    twin_proper : (h : Form) (x y v : ℕ) → IfSome (twin_parts s c.shape x y v h) (λ ps. EachOf (Names Is) ps.list)
    twin_proper (Unique true) x y v = in_where Is (nat_lt y v && (same_tags s y v && (is_value s c.shape x y && is_value s c.shape x v))) (value_and s c.shape x y (value_part s c.shape x v)) (with_value x y (value_part s c.shape x v) (named_value c.shape x v))
    twin_proper (Unique false) x y v = tt
    twin_proper (Every g) x y v = tt
    twin_proper (Nested u) x y v = tt
    twin_proper (Closing on allowed) x y v = tt
    twin_proper (Least n g) x y v = tt
    twin_proper (Most n g) x y v = tt
    twin_proper (Having o) x y v = tt
    twin_proper (Same q) x y v = tt

    -- the lower counters and the item of a counter
    item_proper : (h : Form) (x y : ℕ) → is_node s x ≡ true → h ≡ f → ((n : ℕ) (t : Test) → (h ≡ Least n t) ⊎ (h ≡ Most n t) → IsCounting t) → Contains (items s c.shape x h) y → Names Is (item_part s i c.shape x y h)
    item_proper (Every (OneOf us)) x y t r counts d = conforms_is y x t (low y (subst (λ h. Contains (references h) y) r d))
    item_proper (Every Anything) x y t r counts d = absurd (in_none y d)
    item_proper (Every (Passes test)) x y t r counts d = absurd (in_none y d)
    item_proper (Every (IsA e)) x y t r counts d = absurd (in_none y d)
    item_proper (Every (NotObject q)) x y t r counts d = absurd (in_none y d)
    item_proper (Every (Conforming u)) x y t r counts d = absurd (in_none y d)
    item_proper (Every (Failing u)) x y t r counts d = absurd (in_none y d)
    item_proper (Every (AllOf us)) x y t r counts d = absurd (in_none y d)
    item_proper (Every (SomeOfThese us)) x y t r counts d = absurd (in_none y d)
    item_proper (Every (Counted u us)) x y t r counts d = absurd (in_none y d)
    item_proper (Least n g) x y t r counts d = counting_item g x y t (counts n g (inl refl)) n (inl r) d
    item_proper (Most n g) x y t r counts d = counting_item g x y t (counts n g (inr refl)) n (inr r) d
    item_proper (Nested u) x y t r counts d = tt
    item_proper (Closing on allowed) x y t r counts d = tt
    item_proper (Having o) x y t r counts d = tt
    item_proper (Same q) x y t r counts d = tt
    item_proper (Unique on) x y t r counts d = tt

    count_proper : ((n : ℕ) (t : Test) → (f ≡ Least n t) ⊎ (f ≡ Most n t) → IsCounting t) → (x j m : ℕ) → EachOf (Names Is) (lower (by_count s i c.shape x j m f))
    count_proper counts x j m = guarded (is_node s x && (nat_le 1 m && (nat_le m j && nat_le m (need f)))) refl
      where
        at_item : is_node s x ≡ true → m ≤ need f → (o : Option ℕ) → slice_get (items s c.shape x f) (j - 1) ≡ o → EachOf (Names Is) (lower (by_item s i c.shape x j m f o))
        at_item t needed None q = tt
        at_item t needed (Some y) q =
            let b = slice_get_within (items s c.shape x f) (j - 1) y q in
            (named_count x (j - 1) m t needed (omega (arith, b)), (named_count x (j - 1) (m - 1) t (omega (arith, needed)) (omega (arith, b)), (item_proper f x y t refl counts (in_at (items s c.shape x f) (j - 1) y q), tt)))

        guarded : (b : Bool) → (is_node s x && (nat_le 1 m && (nat_le m j && nat_le m (need f)))) ≡ b → EachOf (Names Is) (lower (if b then by_item s i c.shape x j m f (slice_get (items s c.shape x f) (j - 1)) else NoAtom))
        guarded false r = tt
        guarded true r =
            let t = both_true (is_node s x) (nat_le 1 m && (nat_le m j && nat_le m (need f))) r in
            let u = both_true (nat_le 1 m) (nat_le m j && nat_le m (need f)) t.1 in
            let v = both_true (nat_le m j) (nat_le m (need f)) u.1 in
            let w : nat_le m (need f) ≡ true = v.1 in
            at_item t.0 (grind (arith, w)) (slice_get (items s c.shape x f) (j - 1)) refl

  module _ (profile : IsInProfile s.shapes) where
    low_of : (i : ℕ) (c : Constraint) → constraint_at s.shapes i ≡ Some c → (u : ℕ) → Contains (references (form_of c.kind)) u → u < length (shape_terms s.shapes)
    low_of i c e u d = (((ranked s.shapes profile).stated i c e).lower u (subst (λ us. Contains us u) (references_of c.kind) d)).0

    counts_of : (c : Constraint) (n : ℕ) (t : Test) → (form_of c.kind ≡ Least n t) ⊎ (form_of c.kind ≡ Most n t) → IsCounting t
    counts_of c n t h = least_kind c.kind n t h

    by_triple : (i : ℕ) (parts : ℕ → Form → Option Parts) → ((c : Constraint) → constraint_at s.shapes i ≡ Some c → IfSome (parts c.shape (form_of c.kind)) (λ ps. EachOf (Names Is) ps.list)) → IfSome (by_constraint s i parts) (λ ps. EachOf (Names Is) ps.list)
    by_triple i parts h = at (constraint_at s.shapes i) refl
      where
        at : (o : Option Constraint) → constraint_at s.shapes i ≡ o → IfSome (option_and_then (λ d. parts d.shape (form_of d.kind)) o) (λ ps. EachOf (Names Is) ps.list)
        at None e = tt
        at (Some c) e = h c e

    counted_below : (i x j m : ℕ) (o : Option Constraint) → constraint_at s.shapes i ≡ o → EachOf (Names Is) (lower (unwrap_or (option_and_then (λ d. Some (by_count s i d.shape x j m (form_of d.kind))) o) NoAtom))
    counted_below i x j m None e = tt
    counted_below i x j m (Some c) e = count_proper i c (form_of c.kind) e refl (low_of i c e) (counts_of c) x j m

    conforms_below : (n x : ℕ) → is_node s x ≡ true → (o : Option (List ℕ)) → constraints_of s.shapes n ≡ o → IfSome (option_and_then (λ is. all_of (if is_deactivated s.shapes n then [] else map (λ i. literal (atom.Holds i x) true) is)) o) (λ ps. EachOf (Names Is) ps.list)
    conforms_below n x t None e = tt
    conforms_below n x t (Some is) e = at (is_deactivated s.shapes n)
      where
        at : (b : Bool) → EachOf (Names Is) (if b then [] else map (λ i. literal (atom.Holds i x) true) is)
        at true = tt
        at false = each_mapped Is (λ i. literal (atom.Holds i x) true) is (λ i d. let r = (ranked s.shapes profile).own n i is e d in holds_there i r.0 (form_of r.0.kind) r.1 refl (low_of i r.0 r.1) x t)

    target_below : (x : ℕ) (o : Option Term) → IfSome (option_and_then (λ shape. any_of (flat_map (target_list s x) (targets s.shapes shape))) o) (λ ps. EachOf (Names Is) ps.list)
    target_below x None = tt
    target_below x (Some shape) = each_flat Is (target_list s x) (targets s.shapes shape) (λ k d. one k)
      where
        one : (k : Target) → EachOf (Names Is) (target_list s x k)
        one (target.Node a) = (tt, tt)
        one (target.Class c) = (named_instance x c, tt)
        one (target.SubjectsOf q) = named_triples _ true
        one (target.ObjectsOf q) = named_triples _ true

    below : (a : Atom) → EachOf (Names Is) (lower (fixing s a))
    below (atom.Triple t) = at (nat_lt t (length (candidates s)))
      where
        at : (b : Bool) → EachOf (Names Is) (lower (if b then Free else NoAtom))
        at true = tt
        at false = tt
    below (atom.Reach p x y) = in_option Is (path_parts s (atom.Reach p x y)) (path_proper (atom.Reach p x y) (reach_named (form_at s p) p x y))
    below (atom.Level p k x y) = in_option Is (path_parts s (atom.Level p k x y)) (path_proper (atom.Level p k x y) (levels_named (form_at s p) p k x y))
    below (atom.Middle p k x z y) = in_option Is (path_parts s (atom.Middle p k x z y)) (path_proper (atom.Middle p k x z y) (middle_named (form_at s p) p k x z y))
    below (atom.Count i x j m) = counted_below i x j m (constraint_at s.shapes i) refl
    below (atom.Good i y) = in_option Is (parts_of s (atom.Good i y)) (in_test (is_node s y) _ (λ t. by_triple i (λ n f. good_parts s i y f) (λ c e. good_proper i c (form_of c.kind) e refl (low_of i c e) (form_of c.kind) y t refl (counts_of c))))
    below (atom.Marked i x y) =
        in_option Is (parts_of s (atom.Marked i x y))
        (in_test (is_node s x && is_node s y) _ (λ t. by_triple i (λ n f. where_true (is_value s n x y) (marked_parts s i n x y f)) (λ c e. in_test (is_value s c.shape x y) _ (λ v. marked_proper i c (form_of c.kind) e refl (low_of i c e) (form_of c.kind) x y (both_true (is_node s x) (is_node s y) t).1 refl))))
    below (atom.Differ i x y) = in_option Is (parts_of s (atom.Differ i x y)) (in_test (is_node s x && is_node s y) _ (λ t. by_triple i (λ n f. differ_parts s n x y f) (λ c e. differ_proper i c (form_of c.kind) e refl (low_of i c e) (form_of c.kind) x y)))
    below (atom.Twin i x y z) = in_option Is (parts_of s (atom.Twin i x y z)) (in_test (is_node s x && (is_node s y && is_node s z)) _ (λ t. by_triple i (λ n f. twin_parts s n x y z f) (λ c e. twin_proper i c (form_of c.kind) e refl (low_of i c e) (form_of c.kind) x y z)))
    below (atom.Holds i x) = in_option Is (parts_of s (atom.Holds i x)) (in_test (is_node s x) _ (λ t. by_triple i (λ n f. holds_parts s i n x f) (λ c e. holds_proper i c (form_of c.kind) e refl (low_of i c e) (form_of c.kind) x t refl)))
    below (atom.Conforms n x) = in_option Is (parts_of s (atom.Conforms n x)) (in_test (is_node s x) _ (λ t. conforms_below n x t (constraints_of s.shapes n) refl))
    below (atom.Target n x) = in_option Is (parts_of s (atom.Target n x)) (in_test (is_node s x) _ (λ t. target_below x (shape_at s.shapes n)))

    pub all_proper : (a : Atom) (l : Literal) → In (literals (lower (fixing s a))) l → fixing s l.atom ≢ NoAtom
    all_proper a l h = each_literal Is (lower (fixing s a)) (below a) l h

  pub root_proper : (n x : ℕ) → is_shape s n ≡ true → is_node s x ≡ true → Is (atom.Target n x) × Is (atom.Conforms n x)
  root_proper n x h t = let l = ltb-true n (length (shape_terms s.shapes)) h in (target_is n x t l, conforms_is n x t l)
