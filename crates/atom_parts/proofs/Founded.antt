-- Each atom is founded: what fixes it stands below it. Paths stand above the paths in them, levels above lower levels, counters above those over one thing less,
-- and what is said of a shape above what is said of the shapes that it refers to.
use Rattle.std.proofs.Common.{◌≡◌, ◌⊎◌, inl, inr, ℕ, zero, suc, ◌+◌, ◌-◌, ◌<◌, ◌≤◌, Bool, true, false, cond, ◌&&◌, List, [], ◌∷◌, ◌++◌, map, flat_map, filter, length, Contains, Option, Some, None, IfSome, nat_eq, nat_le, nat_lt, slice_get, refl, sym, ap, ◌∙◌, subst, if◌then◌else◌, arith}
use Rattle.std.specs.Prelude.{option_and_then, unwrap_or}
use Rattle.rdf_terms.specs.declared.term.Term.{Term}
use Rattle.rdf_terms.specs.declared.term.Term.TheVariants.{Iri}
use Rattle.rdf_terms.specs.Statement.{Statement}
use Rattle.rdf_terms.proofs.Members.{in_none, in_first, in_rest, in_cases}
use Rattle.shapes_profile.specs.Logic.{EachOf}
use Rattle.shapes_profile.specs.Shapes.{shape_at}
use Rattle.shapes_graph.specs.declared.paths.PathForm.{PathForm}
use Rattle.shapes_graph.specs.declared.paths.PathForm.TheVariants.{Predicate, Inverse, Sequence, Alternative, ZeroOrMore, OneOrMore, ZeroOrOne}
use Rattle.shapes_graph.specs.declared.constraints.Constraint.{Constraint}
use Rattle.shapes_graph.specs.declared.targets.Target.{Target}
use Rattle.shapes_graph.specs.declared.targets.Target.TheVariants as target
use Rattle.shapes_graph.specs.PathForms.{paths, path_of}
use Rattle.shapes_graph.specs.Reach.{path_levels}
use Rattle.shapes_graph.specs.Constraints.{constraint_at, constraints_of, is_deactivated, shapes_of_kind}
use Rattle.shapes_graph.specs.Targets.{targets}
use Rattle.shapes_graph.specs.Forms.{Test, Anything, Passes, IsA, NotObject, Conforming, Failing, AllOf, SomeOfThese, OneOf, Counted, Form, Every, Nested, Closing, Least, Most, Having, Same, Unique, form_of}
use Rattle.repair_problem.specs.declared.atom.Atom.{Atom}
use Rattle.repair_problem.specs.declared.atom.Atom.TheVariants as atom
use Rattle.repair_problem.specs.declared.atom.Literal.{Literal}
use Rattle.repair_problem.specs.declared.atom.Part.{Part}
use Rattle.repair_problem.specs.declared.atom.Part.TheVariants.{Fixed, Lit}
use Rattle.repair_problem.specs.declared.atom.Parts.{Parts}
use Rattle.repair_problem.specs.Setting.{Setting, node}
use Rattle.repair_problem.specs.Candidates.{candidates, candidate_number}
use Rattle.path_levels.specs.PossibleNodes.{node_count, possible}
use Rattle.path_levels.specs.PathParts.{form_at, literal, named, is_start, is_path_atom, path_part, triple_part, triple_part_at, level_part, middle_parts, last_level, reach_list, next_list, level_list, middle_list, parts_by, path_parts}
use Rattle.path_levels.proofs.OpenedPaths.{NamesBy, NestsIn}
use Rattle.count_encode.specs.PartTruth.{negation}
use Rattle.count_encode.specs.Counts.{counted}
use Rattle.core_constraints.specs.Levels.{level, IsStated}
use Rattle.core_constraints.proofs.Decided.{in_at, each_at}
use Rattle.core_constraints.proofs.Opened.{IsRanked, test_references, references, references_of}
use Rattle.atom_parts.specs.CandidateLists.{candidates_if, is_linked, linked_nodes}
use Rattle.atom_parts.specs.ValueParts.{node_number, values_of, value_part_by, value_part, of_node_part, term_value_part, instance_part, link_part, is_value, same_tags, later_twins, twins}
use Rattle.atom_parts.specs.PartLiterals.{In, literals}
use Rattle.atom_parts.specs.PartsTable.{all_of, any_of, where_true, by_constraint, is_node, conforming_parts, triple_parts, test_parts, good_parts, test_part, good_part, marked_parts, counted_parts, value_and, differ_parts, twin_parts, items, need, counted_item, item_part, all_counted, none_marked, none_differs, no_twins, holds_parts, conforms_parts, target_list, target_parts, parts_of}
use Rattle.atom_parts.specs.Fixing.{Fixing, NoAtom, Free, ByParts, ByCount, by_parts, by_item, by_count, fixing, lower, IsFounded, founded}
use Rattle.atom_parts.proofs.ConstraintKinds.{IsCounting, least_kind}
use Rattle.atom_parts.proofs.Facts.{both_true}

-- the atom of a part has P
abbrev pub Names : (Atom → Type 0) → Part → Type 0
Names P (Fixed b) = Unit {0}
Names P (Lit l) = P l.atom

pub each_literal : (P : Atom → Type 0) (ps : List Part) → EachOf (Names P) ps → (l : Literal) → In (literals ps) l → P l.atom
each_literal P [] all l h = absurd h
each_literal P (Fixed b ∷ ps) all l h = each_literal P ps all.1 l h
each_literal P (Lit m ∷ ps) all l (inl e) = subst (λ (k : Literal). P k.atom) e all.0
each_literal P (Lit m ∷ ps) all l (inr h) = each_literal P ps all.1 l h

module _ (P : Atom → Type 0) where
  pub each_mapped : {X : Type 0} (f : X → Part) (xs : List X) → ((x : X) → Contains xs x → Names P (f x)) → EachOf (Names P) (map f xs)
  each_mapped f [] h = tt
  each_mapped f (x ∷ xs) h = (h x (in_first x xs), each_mapped f xs (λ y c. h y (in_rest x xs y c)))

  pub each_joined : (xs ys : List Part) → EachOf (Names P) xs → EachOf (Names P) ys → EachOf (Names P) (xs ++ ys)
  each_joined [] ys h k = k
  each_joined (x ∷ xs) ys h k = (h.0, each_joined xs ys h.1 k)

  pub each_flat : {X : Type 0} (f : X → List Part) (xs : List X) → ((x : X) → Contains xs x → EachOf (Names P) (f x)) → EachOf (Names P) (flat_map f xs)
  each_flat f [] h = tt
  each_flat f (x ∷ xs) h = each_joined (f x) (flat_map f xs) (h x (in_first x xs)) (each_flat f xs (λ y c. h y (in_rest x xs y c)))

  pub names_negation : (p : Part) → Names P p → Names P (negation p)
  names_negation (Fixed b) h = tt
  names_negation (Lit l) h = h

  pub names_counted : (i x j m : ℕ) → P (atom.Count i x j m) → Names P (counted i x j m)
  names_counted i x j m h = at (nat_eq m 0) (nat_lt j m)
    where
      at : (b c : Bool) → Names P (if b then Fixed true else (if c then Fixed false else Lit (record { atom = atom.Count i x j m; positive = true })))
      at true c = tt
      at false true = tt
      at false false = h

  -- of the parts of an atom, if there are any
  pub in_option : (o : Option Parts) → IfSome o (λ ps. EachOf (Names P) ps.list) → EachOf (Names P) (lower (by_parts o))
  in_option None h = tt
  in_option (Some ps) h = h

  pub in_where : (b : Bool) (o : Option Parts) → IfSome o (λ ps. EachOf (Names P) ps.list) → IfSome (where_true b o) (λ ps. EachOf (Names P) ps.list)
  in_where true o h = h
  in_where false o h = tt

module _ (s : Setting) where
  abbrev pub Fd : Atom → Type 0
  Fd a = IsFounded (fixing s) a

  founded_of : (a : Atom) → EachOf (Names Fd) (lower (fixing s a)) → Fd a
  founded_of a h = founded (each_literal Fd (lower (fixing s a)) h)

  founded_by : (a : Atom) (o : Option Parts) → fixing s a ≡ by_parts o → IfSome o (λ ps. EachOf (Names Fd) ps.list) → Fd a
  founded_by a o e h = founded_of a (subst (λ f. EachOf (Names Fd) (lower f)) (sym e) (in_option Fd o h))

  path_founded : (a : Atom) → fixing s a ≡ by_parts (path_parts s a) → EachOf (Names Fd) ((parts_by s a).list) → Fd a
  path_founded a e h = founded_by a (path_parts s a) e (at (is_path_atom s a))
    where
      at : (b : Bool) → IfSome (if b then Some (parts_by s a) else None) (λ ps. EachOf (Names Fd) ps.list)
      at true = h
      at false = tt

  named_path : (a : Atom) → Fd a → Names Fd (path_part s a)
  named_path a h = at (is_path_atom s a)
    where
      at : (b : Bool) → Names Fd (named b a)
      at true = h
      at false = tt

  triple_founded : (t : ℕ) → Fd (atom.Triple t)
  triple_founded t = founded_of (atom.Triple t) (at (nat_lt t (length (candidates s))))
    where
      at : (b : Bool) → EachOf (Names Fd) (lower (if b then Free else NoAtom))
      at true = tt
      at false = tt

  named_triple : (t : Statement) → Names Fd (triple_part s t)
  named_triple t = at (candidate_number s t)
    where
      at : (o : Option ℕ) → Names Fd (triple_part_at s o)
      at None = tt
      at (Some i) = triple_founded i

  -- a repeated path, whose inner one is founded
  module _ (p : ℕ) (f : Option PathForm) (e : form_at s p ≡ f) (q : ℕ) (inner : (x y : ℕ) → Fd (atom.Reach q x y)) where
    level_named : (k x y : ℕ) → Fd (atom.Level p k x y) → Names Fd (level_part s f p k x y)
    level_named k x y h = at (is_start f k)
      where
        at : (b : Bool) → Names Fd (if b then Fixed (nat_eq x y) else path_part s (atom.Level p k x y))
        at true = tt
        at false = named_path (atom.Level p k x y) h

    repeated_middle : (k x z y : ℕ) → middle_list s f p k x z y ≡ level_part s f p k x z ∷ path_part s (atom.Reach q z y) ∷ [] → Fd (atom.Level p k x z) → Fd (atom.Middle p k x z y)
    repeated_middle k x z y is h =
        path_founded (atom.Middle p k x z y) refl
        (subst (λ f. EachOf (Names Fd) (middle_list s f p k x z y)) (sym e)
        (subst (EachOf (Names Fd)) (sym is) (level_named k x z h, (named_path (atom.Reach q z y) (inner z y), tt))))

    next_level : (k : ℕ) → ((x z y : ℕ) → middle_list s f p k x z y ≡ level_part s f p k x z ∷ path_part s (atom.Reach q z y) ∷ []) → ((x y : ℕ) → level_list s f p (suc k) x y ≡ next_list s f p k x y) → ((x y : ℕ) → Fd (atom.Level p k x y)) → (x y : ℕ) → Fd (atom.Level p (suc k) x y)
    next_level k middles levels h x y =
        path_founded (atom.Level p (suc k) x y) refl
        (subst (λ f. EachOf (Names Fd) (level_list s f p (suc k) x y)) (sym e)
        (subst (EachOf (Names Fd)) (sym (levels x y))
        (level_named k x y (h x y), each_mapped Fd (λ z. path_part s (atom.Middle p k x z y)) (possible s p x) (λ z c. named_path (atom.Middle p k x z y) (repeated_middle k x z y (middles x z y) (h x z))))))

  star_level : (p q : ℕ) → form_at s p ≡ Some (ZeroOrMore q) → ((x y : ℕ) → Fd (atom.Reach q x y)) → (k x y : ℕ) → Fd (atom.Level p k x y)
  star_level p q e inner zero x y = path_founded (atom.Level p 0 x y) refl (subst (λ f. EachOf (Names Fd) (level_list s f p 0 x y)) (sym e) tt)
  star_level p q e inner (suc k) x y = next_level p (Some (ZeroOrMore q)) e q inner k (λ x z y. refl) (λ x y. refl) (star_level p q e inner k) x y

  plus_level : (p q : ℕ) → form_at s p ≡ Some (OneOrMore q) → ((x y : ℕ) → Fd (atom.Reach q x y)) → (k x y : ℕ) → Fd (atom.Level p k x y)
  plus_level p q e inner zero x y = path_founded (atom.Level p 0 x y) refl (subst (λ f. EachOf (Names Fd) (level_list s f p 0 x y)) (sym e) (named_path (atom.Reach q x y) (inner x y), tt))
  plus_level p q e inner (suc k) x y = next_level p (Some (OneOrMore q)) e q inner k (λ x z y. refl) (λ x y. refl) (plus_level p q e inner k) x y

  sequence_middle : (p a b : ℕ) → form_at s p ≡ Some (Sequence a b) → ((x y : ℕ) → Fd (atom.Reach a x y)) → ((x y : ℕ) → Fd (atom.Reach b x y)) → (k x z y : ℕ) → Fd (atom.Middle p k x z y)
  sequence_middle p a b e first second k x z y =
      path_founded (atom.Middle p k x z y) refl
      (subst (λ f. EachOf (Names Fd) (middle_list s f p k x z y)) (sym e) (named_path (atom.Reach a x z) (first x z), (named_path (atom.Reach b z y) (second z y), tt)))

  reach_by : (Inner : ℕ → Type 0) → ((q : ℕ) → Inner q → (x y : ℕ) → Fd (atom.Reach q x y)) → (p x y : ℕ) (f : Option PathForm) → form_at s p ≡ f → NamesBy Inner f → EachOf (Names Fd) (reach_list s f p x y)
  reach_by Inner on p x y None e h = tt
  reach_by Inner on p x y (Some (Predicate i)) e h = (named_triple (record { subject = node s x; predicate = Iri i; object = node s y }), tt)
  reach_by Inner on p x y (Some (Inverse q)) e h = (named_path (atom.Reach q y x) (on q h y x), tt)
  reach_by Inner on p x y (Some (Sequence a b)) e h = each_mapped Fd (λ z. path_part s (atom.Middle p 0 x z y)) (possible s a x) (λ z c. named_path (atom.Middle p 0 x z y) (sequence_middle p a b e (on a h.0) (on b h.1) 0 x z y))
  reach_by Inner on p x y (Some (Alternative qs)) e h = each_mapped Fd (λ q. path_part s (atom.Reach q x y)) qs (λ q c. named_path (atom.Reach q x y) (on q (each_at Inner qs q h c) x y))
  reach_by Inner on p x y (Some (ZeroOrMore q)) e h = (level_named p (Some (ZeroOrMore q)) e q (on q h) (last_level s p x) x y (star_level p q e (on q h) (last_level s p x) x y), tt)
  reach_by Inner on p x y (Some (OneOrMore q)) e h = (level_named p (Some (OneOrMore q)) e q (on q h) (last_level s p x) x y (plus_level p q e (on q h) (last_level s p x) x y), tt)
  reach_by Inner on p x y (Some (ZeroOrOne q)) e h = (tt, (named_path (atom.Reach q x y) (on q h x y), tt))

  reach_in : (d p : ℕ) → NestsIn d (paths s.shapes) p → (x y : ℕ) → Fd (atom.Reach p x y)
  unfolding NestsIn
  reach_in zero p h x y = absurd h
  reach_in (suc d) p h x y = path_founded (atom.Reach p x y) refl (reach_by (λ q. NestsIn d (paths s.shapes) q) (λ q k u v. reach_in d q k u v) p x y (form_at s p) refl h)

  module _ (nests : (p : ℕ) → NestsIn path_levels (paths s.shapes) p) where
    pub reach_founded : (p x y : ℕ) → Fd (atom.Reach p x y)
    reach_founded p x y = reach_in path_levels p (nests p) x y

    -- levels and middles of any path
    level_of : (d p : ℕ) (f : Option PathForm) → form_at s p ≡ f → (k x y : ℕ) → Fd (atom.Level p k x y)
    level_of d p (Some (ZeroOrMore q)) e k x y = star_level p q e (reach_founded q) k x y
    level_of d p (Some (OneOrMore q)) e k x y = plus_level p q e (reach_founded q) k x y
    level_of d p None e k x y = path_founded (atom.Level p k x y) refl (subst (λ f. EachOf (Names Fd) (level_list s f p k x y)) (sym e) tt)
    level_of d p (Some (Predicate i)) e k x y = path_founded (atom.Level p k x y) refl (subst (λ f. EachOf (Names Fd) (level_list s f p k x y)) (sym e) tt)
    level_of d p (Some (Inverse q)) e k x y = path_founded (atom.Level p k x y) refl (subst (λ f. EachOf (Names Fd) (level_list s f p k x y)) (sym e) tt)
    level_of d p (Some (Sequence a b)) e k x y = path_founded (atom.Level p k x y) refl (subst (λ f. EachOf (Names Fd) (level_list s f p k x y)) (sym e) tt)
    level_of d p (Some (Alternative qs)) e k x y = path_founded (atom.Level p k x y) refl (subst (λ f. EachOf (Names Fd) (level_list s f p k x y)) (sym e) tt)
    level_of d p (Some (ZeroOrOne q)) e k x y = path_founded (atom.Level p k x y) refl (subst (λ f. EachOf (Names Fd) (level_list s f p k x y)) (sym e) tt)

    pub level_founded : (p k x y : ℕ) → Fd (atom.Level p k x y)
    level_founded p k x y = level_of 0 p (form_at s p) refl k x y

    middle_of : (p : ℕ) (f : Option PathForm) → form_at s p ≡ f → (k x z y : ℕ) → Fd (atom.Middle p k x z y)
    middle_of p (Some (ZeroOrMore q)) e k x z y = repeated_middle p (Some (ZeroOrMore q)) e q (reach_founded q) k x z y refl (level_founded p k x z)
    middle_of p (Some (OneOrMore q)) e k x z y = repeated_middle p (Some (OneOrMore q)) e q (reach_founded q) k x z y refl (level_founded p k x z)
    middle_of p (Some (Sequence a b)) e k x z y = sequence_middle p a b e (reach_founded a) (reach_founded b) k x z y
    middle_of p None e k x z y = path_founded (atom.Middle p k x z y) refl (subst (λ f. EachOf (Names Fd) (middle_list s f p k x z y)) (sym e) tt)
    middle_of p (Some (Predicate i)) e k x z y = path_founded (atom.Middle p k x z y) refl (subst (λ f. EachOf (Names Fd) (middle_list s f p k x z y)) (sym e) tt)
    middle_of p (Some (Inverse q)) e k x z y = path_founded (atom.Middle p k x z y) refl (subst (λ f. EachOf (Names Fd) (middle_list s f p k x z y)) (sym e) tt)
    middle_of p (Some (Alternative qs)) e k x z y = path_founded (atom.Middle p k x z y) refl (subst (λ f. EachOf (Names Fd) (middle_list s f p k x z y)) (sym e) tt)
    middle_of p (Some (ZeroOrOne q)) e k x z y = path_founded (atom.Middle p k x z y) refl (subst (λ f. EachOf (Names Fd) (middle_list s f p k x z y)) (sym e) tt)

    pub middle_founded : (p k x z y : ℕ) → Fd (atom.Middle p k x z y)
    middle_founded p k x z y = middle_of p (form_at s p) refl k x z y

    -- parts about values
    named_value : (n x y : ℕ) → Names Fd (value_part s n x y)
    named_value n x y = at (path_of s.shapes n)
      where
        at : (o : Option ℕ) → Names Fd (value_part_by s o x y)
        at None = tt
        at (Some p) = named_path (atom.Reach p x y) (reach_founded p x y)

    named_of_node : (o : Option ℕ) (f : ℕ → Part) → ((y : ℕ) → Names Fd (f y)) → Names Fd (of_node_part s o f)
    named_of_node None f h = tt
    named_of_node (Some y) f h = h y

    named_instance : (y : ℕ) (c : Term) → Names Fd (instance_part s y c)
    named_instance y c = named_of_node (node_number s c) (λ z. path_part s (atom.Reach 3 y z)) (λ z. named_path (atom.Reach 3 y z) (reach_founded 3 y z))

    named_triples : (ts : List ℕ) (p : Bool) → EachOf (Names Fd) (triple_parts ts p)
    named_triples ts p = each_mapped Fd (λ t. literal (atom.Triple t) p) ts (λ t c. triple_founded t)

    -- atoms about constraint i, where what is said of the shapes that it refers to is founded
    module _ (i : ℕ) (c : Constraint) (e : constraint_at s.shapes i ≡ Some c) (low : (u : ℕ) → Contains (references (form_of c.kind)) u → (y : ℕ) → Fd (atom.Conforms u y)) where
      -- through the look-up of the constraint
      by_form : (o : Option Constraint) → o ≡ Some c → (parts : ℕ → Form → Option Parts) → IfSome (parts c.shape (form_of c.kind)) (λ ps. EachOf (Names Fd) ps.list) → IfSome (option_and_then (λ d. parts d.shape (form_of d.kind)) o) (λ ps. EachOf (Names Fd) ps.list)
      by_form o q parts h = subst (λ o. IfSome (option_and_then (λ d. parts d.shape (form_of d.kind)) o) (λ ps. EachOf (Names Fd) ps.list)) (sym q) h

      conforming : (us : List ℕ) (y : ℕ) (p : Bool) → ((u : ℕ) → Contains us u → Fd (atom.Conforms u y)) → EachOf (Names Fd) (conforming_parts us y p)
      conforming us y p h = each_mapped Fd (λ u. literal (atom.Conforms u y) p) us h

      -- counters, where the items are founded
      module _ (x : ℕ) (its : (y : ℕ) (f : Form) → form_of c.kind ≡ f → Contains (items s c.shape x f) y → Names Fd (item_part s i c.shape x y f)) where
        count_step : (j : ℕ) → ((k : ℕ) → j ≡ suc k → (m : ℕ) → Fd (atom.Count i x k m)) → (m : ℕ) → Fd (atom.Count i x j m)
        count_step j lower_ones m = founded_of (atom.Count i x j m) (at_constraint (constraint_at s.shapes i) e)
          where
            at_item : (f : Form) → form_of c.kind ≡ f → (o : Option ℕ) → slice_get (items s c.shape x f) (j - 1) ≡ o → 1 ≤ j → EachOf (Names Fd) (lower (by_item s i c.shape x j m f o))
            at_item f z None q least = tt
            at_item f z (Some y) q least =
                let t : j ≡ suc (j - 1) = omega (arith, least) in
                (names_counted Fd i x (j - 1) m (lower_ones (j - 1) t m), (names_counted Fd i x (j - 1) (m - 1) (lower_ones (j - 1) t (m - 1)), (its y f z (in_at (items s c.shape x f) (j - 1) y q), tt)))

            guarded : (b : Bool) → (is_node s x && (nat_le 1 m && (nat_le m j && nat_le m (need (form_of c.kind))))) ≡ b → EachOf (Names Fd) (lower (if b then by_item s i c.shape x j m (form_of c.kind) (slice_get (items s c.shape x (form_of c.kind)) (j - 1)) else NoAtom))
            guarded false r = tt
            guarded true r =
                let t = both_true (is_node s x) (nat_le 1 m && (nat_le m j && nat_le m (need (form_of c.kind)))) r in
                let u = both_true (nat_le 1 m) (nat_le m j && nat_le m (need (form_of c.kind))) t.1 in
                let v = both_true (nat_le m j) (nat_le m (need (form_of c.kind))) u.1 in
                let first : nat_le 1 m ≡ true = u.0 in
                let second : nat_le m j ≡ true = v.0 in
                at_item (form_of c.kind) refl (slice_get (items s c.shape x (form_of c.kind)) (j - 1)) refl (grind (arith, first, second))

            at_constraint : (o : Option Constraint) → o ≡ Some c → EachOf (Names Fd) (lower (unwrap_or (option_and_then (λ d. Some (by_count s i d.shape x j m (form_of d.kind))) o) NoAtom))
            at_constraint o q = subst (λ o. EachOf (Names Fd) (lower (unwrap_or (option_and_then (λ d. Some (by_count s i d.shape x j m (form_of d.kind))) o) NoAtom))) (sym q) (guarded (is_node s x && (nat_le 1 m && (nat_le m j && nat_le m (need (form_of c.kind))))) refl)

        count_in : (j m : ℕ) → Fd (atom.Count i x j m)
        count_in zero m = count_step 0 (λ k t. absurd (omega (arith, t))) m
        count_in (suc j) m = count_step (suc j) (λ k t n. let r : j ≡ k = omega (arith, t) in subst (λ (v : ℕ). Fd (atom.Count i x v n)) r (count_in j n)) m

      -- the items of xone are shapes that it refers to
      shape_items : (x y : ℕ) (us : List ℕ) (f : Form) → form_of c.kind ≡ Every (OneOf us) → form_of c.kind ≡ f → Contains (items s c.shape x f) y → Names Fd (item_part s i c.shape x y f)
      shape_items x y us f z w h = subst (λ f. Contains (items s c.shape x f) y → Names Fd (item_part s i c.shape x y f)) (sym z ∙ w) (λ k. low y (subst (λ f. Contains (references f) y) (sym z) k) x) h

      shape_count : (us : List ℕ) → form_of c.kind ≡ Every (OneOf us) → (x j m : ℕ) → Fd (atom.Count i x j m)
      shape_count us z x j m = count_in x (λ y f w h. shape_items x y us f z w h) j m

      -- what passes a test
      test_founded : (t : Test) (y : ℕ) → ((u : ℕ) → Contains (test_references t) u → Fd (atom.Conforms u y)) → ((us : List ℕ) → t ≡ OneOf us → (j m : ℕ) → Fd (atom.Count i y j m)) → IfSome (test_parts s i y t) (λ ps. EachOf (Names Fd) ps.list)
      test_founded Anything y h k = tt
      test_founded (Passes test) y h k = tt
      test_founded (IsA d) y h k = (named_instance y d, tt)
      test_founded (NotObject q) y h k = tt
      test_founded (Conforming u) y h k = conforming (u ∷ []) y true h
      test_founded (Failing u) y h k = conforming (u ∷ []) y false h
      test_founded (AllOf us) y h k = conforming us y true h
      test_founded (SomeOfThese us) y h k = conforming us y true h
      test_founded (OneOf us) y h k = (names_counted Fd i y (length us) 1 (k us refl (length us) 1), (names_negation Fd (counted i y (length us) 2) (names_counted Fd i y (length us) 2 (k us refl (length us) 2)), tt))
      test_founded (Counted u us) y h k = each_joined Fd (conforming_parts (u ∷ []) y true) (conforming_parts us y false) (conforming (u ∷ []) y true (λ v d. h v (one v d))) (conforming us y false (λ v d. h v (in_rest u us v d)))
        where
          one : (v : ℕ) → Contains (u ∷ []) v → Contains (u ∷ us) v
          one v d = subst (Contains (u ∷ us)) (only v d) (in_first u us)
            where
              only : (v : ℕ) → Contains (u ∷ []) v → u ≡ v
              only v d = pick (in_cases u [] v d)
                where
                  pick : (u ≡ v) ⊎ Contains [] v → u ≡ v
                  pick (inl r) = r
                  pick (inr r) = absurd (in_none v r)

      good_list : (f : Form) → form_of c.kind ≡ f → (y : ℕ) → IfSome (good_parts s i y f) (λ ps. EachOf (Names Fd) ps.list)
      good_list (Every t) z y = test_founded t y (λ u d. low u (subst (λ f. Contains (references f) u) (sym z) d) y) (λ us r j m. shape_count us (z ∙ ap Every r) y j m)
      good_list (Nested u) z y = conforming (u ∷ []) y true (λ v d. low v (subst (λ f. Contains (references f) v) (sym z) d) y)
      good_list (Closing true allowed) z y = named_triples _ false
      good_list (Closing false allowed) z y = tt
      good_list (Least n t) z y = test_founded t y (λ u d. low u (subst (λ f. Contains (references f) u) (sym z) d) y) (λ us r j m. count_of_counts us r y j m)
        where
          count_of_counts : (us : List ℕ) → t ≡ OneOf us → (y j m : ℕ) → Fd (atom.Count i y j m)
          count_of_counts us r y j m = absurd (subst IsCounting r (least_kind c.kind n t (inl z)))
      good_list (Most n t) z y = test_founded t y (λ u d. low u (subst (λ f. Contains (references f) u) (sym z) d) y) (λ us r j m. count_of_counts us r y j m)
        where
          count_of_counts : (us : List ℕ) → t ≡ OneOf us → (y j m : ℕ) → Fd (atom.Count i y j m)
          count_of_counts us r y j m = absurd (subst IsCounting r (least_kind c.kind n t (inr z)))
      good_list (Having o) z y = tt
      good_list (Same q) z y = tt
      good_list (Unique on) z y = tt

      good_founded : (y : ℕ) → Fd (atom.Good i y)
      good_founded y = founded_by (atom.Good i y) (parts_of s (atom.Good i y)) refl (in_where Fd (is_node s y) _ (by_form (constraint_at s.shapes i) e (λ n f. good_parts s i y f) (good_list (form_of c.kind) refl y)))

      named_test : (y : ℕ) (t : Test) → Names Fd (test_part s i y t)
      named_test y Anything = tt
      named_test y (Passes test) = tt
      named_test y (NotObject q) = tt
      named_test y (IsA d) = good_founded y
      named_test y (Conforming u) = good_founded y
      named_test y (Failing u) = good_founded y
      named_test y (AllOf us) = good_founded y
      named_test y (SomeOfThese us) = good_founded y
      named_test y (OneOf us) = good_founded y
      named_test y (Counted u us) = good_founded y

      with_value : (x y : ℕ) (p : Part) → Names Fd p → EachOf (Names Fd) (value_part s c.shape x y ∷ p ∷ [])
      with_value x y p h = (named_value c.shape x y, (h, tt))

      named_link : (q : List ℕ) (x y : ℕ) → Names Fd (link_part s q x y)
      named_link q x y = named_triple (record { subject = node s x; predicate = Iri q; object = node s y })

      counted_list : (x y : ℕ) (t : Test) → IfSome (counted_parts s i c.shape x y t) (λ ps. EachOf (Names Fd) ps.list)
      counted_list x y Anything = tt
      counted_list x y (Passes test) = with_value x y (test_part s i y (Passes test)) (named_test y (Passes test))
      counted_list x y (IsA d) = with_value x y (test_part s i y (IsA d)) (named_test y (IsA d))
      counted_list x y (NotObject q) = with_value x y (test_part s i y (NotObject q)) (named_test y (NotObject q))
      counted_list x y (Conforming u) = with_value x y (test_part s i y (Conforming u)) (named_test y (Conforming u))
      counted_list x y (Failing u) = with_value x y (test_part s i y (Failing u)) (named_test y (Failing u))
      counted_list x y (AllOf us) = with_value x y (test_part s i y (AllOf us)) (named_test y (AllOf us))
      counted_list x y (SomeOfThese us) = with_value x y (test_part s i y (SomeOfThese us)) (named_test y (SomeOfThese us))
      counted_list x y (OneOf us) = with_value x y (test_part s i y (OneOf us)) (named_test y (OneOf us))
      counted_list x y (Counted u us) = with_value x y (test_part s i y (Counted u us)) (named_test y (Counted u us))

      every_list : (x y : ℕ) (t : Test) → IfSome (marked_parts s i c.shape x y (Every t)) (λ ps. EachOf (Names Fd) ps.list)
      every_list x y (NotObject q) = with_value x y (link_part s q x y) (named_link q x y)
      every_list x y Anything = with_value x y (negation (test_part s i y Anything)) (names_negation Fd (test_part s i y Anything) (named_test y Anything))
      every_list x y (Passes test) = with_value x y (negation (test_part s i y (Passes test))) (names_negation Fd (test_part s i y (Passes test)) (named_test y (Passes test)))
      every_list x y (IsA d) = with_value x y (negation (test_part s i y (IsA d))) (names_negation Fd (test_part s i y (IsA d)) (named_test y (IsA d)))
      every_list x y (Conforming u) = with_value x y (negation (test_part s i y (Conforming u))) (names_negation Fd (test_part s i y (Conforming u)) (named_test y (Conforming u)))
      every_list x y (Failing u) = with_value x y (negation (test_part s i y (Failing u))) (names_negation Fd (test_part s i y (Failing u)) (named_test y (Failing u)))
      every_list x y (AllOf us) = with_value x y (negation (test_part s i y (AllOf us))) (names_negation Fd (test_part s i y (AllOf us)) (named_test y (AllOf us)))
      every_list x y (SomeOfThese us) = with_value x y (negation (test_part s i y (SomeOfThese us))) (names_negation Fd (test_part s i y (SomeOfThese us)) (named_test y (SomeOfThese us)))
      every_list x y (OneOf us) = with_value x y (negation (test_part s i y (OneOf us))) (names_negation Fd (test_part s i y (OneOf us)) (named_test y (OneOf us)))
      every_list x y (Counted u us) = with_value x y (negation (test_part s i y (Counted u us))) (names_negation Fd (test_part s i y (Counted u us)) (named_test y (Counted u us)))

      marked_list : (f : Form) (x y : ℕ) → IfSome (marked_parts s i c.shape x y f) (λ ps. EachOf (Names Fd) ps.list)
      marked_list (Every t) x y = every_list x y t
      marked_list (Nested u) x y = with_value x y (negation (literal (atom.Good i y) true)) (good_founded y)
      marked_list (Closing true allowed) x y = with_value x y (negation (literal (atom.Good i y) true)) (good_founded y)
      marked_list (Closing false allowed) x y = with_value x y (Fixed false) tt
      marked_list (Same q) x y = with_value x y (negation (link_part s q x y)) (names_negation Fd (link_part s q x y) (named_link q x y))
      marked_list (Least n t) x y = counted_list x y t
      marked_list (Most n t) x y = counted_list x y t
      marked_list (Having o) x y = tt
      marked_list (Unique on) x y = tt

      marked_founded : (x y : ℕ) → Fd (atom.Marked i x y)
      marked_founded x y =
          founded_by (atom.Marked i x y) (parts_of s (atom.Marked i x y)) refl
          (in_where Fd (is_node s x && is_node s y) _ (by_form (constraint_at s.shapes i) e (λ n f. where_true (is_value s n x y) (marked_parts s i n x y f)) (in_where Fd (is_value s c.shape x y) _ (marked_list (form_of c.kind) x y))))

      differ_list : (f : Form) (x y : ℕ) → IfSome (differ_parts s c.shape x y f) (λ ps. EachOf (Names Fd) ps.list)
      differ_list (Same q) x y = in_where Fd (is_linked s q x y) (Some (record { every = true; list = negation (value_part s c.shape x y) ∷ link_part s q x y ∷ [] })) (names_negation Fd (value_part s c.shape x y) (named_value c.shape x y), (named_link q x y, tt))
      differ_list (Every t) x y = tt
      differ_list (Nested u) x y = tt
      differ_list (Closing on allowed) x y = tt
      differ_list (Least n t) x y = tt
      differ_list (Most n t) x y = tt
      differ_list (Having o) x y = tt
      differ_list (Unique on) x y = tt

      differ_founded : (x y : ℕ) → Fd (atom.Differ i x y)
      differ_founded x y = founded_by (atom.Differ i x y) (parts_of s (atom.Differ i x y)) refl (in_where Fd (is_node s x && is_node s y) _ (by_form (constraint_at s.shapes i) e (λ n f. differ_parts s n x y f) (differ_list (form_of c.kind) x y)))

      twin_list : (f : Form) (x y v : ℕ) → IfSome (twin_parts s c.shape x y v f) (λ ps. EachOf (Names Fd) ps.list)
      twin_list (Unique true) x y v = in_where Fd (nat_lt y v && (same_tags s y v && (is_value s c.shape x y && is_value s c.shape x v))) (value_and s c.shape x y (value_part s c.shape x v)) (with_value x y (value_part s c.shape x v) (named_value c.shape x v))
      twin_list (Unique false) x y v = tt
      twin_list (Every t) x y v = tt
      twin_list (Nested u) x y v = tt
      twin_list (Closing on allowed) x y v = tt
      twin_list (Least n t) x y v = tt
      twin_list (Most n t) x y v = tt
      twin_list (Having o) x y v = tt
      twin_list (Same q) x y v = tt

      twin_founded : (x y v : ℕ) → Fd (atom.Twin i x y v)
      twin_founded x y v = founded_by (atom.Twin i x y v) (parts_of s (atom.Twin i x y v)) refl (in_where Fd (is_node s x && (is_node s y && is_node s v)) _ (by_form (constraint_at s.shapes i) e (λ n f. twin_parts s n x y v f) (twin_list (form_of c.kind) x y v)))

      -- the items of any counter
      named_item : (x y : ℕ) (f : Form) → form_of c.kind ≡ f → Contains (items s c.shape x f) y → Names Fd (item_part s i c.shape x y f)
      named_item x y (Every (OneOf us)) z h = shape_items x y us (Every (OneOf us)) z z h
      named_item x y (Every Anything) z h = absurd (in_none y h)
      named_item x y (Every (Passes test)) z h = absurd (in_none y h)
      named_item x y (Every (IsA d)) z h = absurd (in_none y h)
      named_item x y (Every (NotObject q)) z h = absurd (in_none y h)
      named_item x y (Every (Conforming u)) z h = absurd (in_none y h)
      named_item x y (Every (Failing u)) z h = absurd (in_none y h)
      named_item x y (Every (AllOf us)) z h = absurd (in_none y h)
      named_item x y (Every (SomeOfThese us)) z h = absurd (in_none y h)
      named_item x y (Every (Counted u us)) z h = absurd (in_none y h)
      named_item x y (Least n Anything) z h = named_value c.shape x y
      named_item x y (Least n (Passes test)) z h = marked_founded x y
      named_item x y (Least n (IsA d)) z h = marked_founded x y
      named_item x y (Least n (NotObject q)) z h = marked_founded x y
      named_item x y (Least n (Conforming u)) z h = marked_founded x y
      named_item x y (Least n (Failing u)) z h = marked_founded x y
      named_item x y (Least n (AllOf us)) z h = marked_founded x y
      named_item x y (Least n (SomeOfThese us)) z h = marked_founded x y
      named_item x y (Least n (OneOf us)) z h = marked_founded x y
      named_item x y (Least n (Counted u us)) z h = marked_founded x y
      named_item x y (Most n Anything) z h = named_value c.shape x y
      named_item x y (Most n (Passes test)) z h = marked_founded x y
      named_item x y (Most n (IsA d)) z h = marked_founded x y
      named_item x y (Most n (NotObject q)) z h = marked_founded x y
      named_item x y (Most n (Conforming u)) z h = marked_founded x y
      named_item x y (Most n (Failing u)) z h = marked_founded x y
      named_item x y (Most n (AllOf us)) z h = marked_founded x y
      named_item x y (Most n (SomeOfThese us)) z h = marked_founded x y
      named_item x y (Most n (OneOf us)) z h = marked_founded x y
      named_item x y (Most n (Counted u us)) z h = marked_founded x y
      named_item x y (Nested u) z h = tt
      named_item x y (Closing on allowed) z h = tt
      named_item x y (Having o) z h = tt
      named_item x y (Same q) z h = tt
      named_item x y (Unique on) z h = tt

      count_founded : (x j m : ℕ) → Fd (atom.Count i x j m)
      count_founded x j m = count_in x (λ y f z h. named_item x y f z h) j m

      none_marked_list : (x : ℕ) → EachOf (Names Fd) (none_marked s i c.shape x)
      none_marked_list x = each_mapped Fd (λ y. literal (atom.Marked i x y) false) (values_of s c.shape x) (λ y d. marked_founded x y)

      holds_list : (f : Form) (x : ℕ) → IfSome (holds_parts s i c.shape x f) (λ ps. EachOf (Names Fd) ps.list)
      holds_list (Least n t) x = (names_counted Fd i x _ n (count_founded x _ n), tt)
      holds_list (Most n t) x = (names_negation Fd (all_counted s i c.shape x (Most n t) (n + 1)) (names_counted Fd i x _ (n + 1) (count_founded x _ (n + 1))), tt)
      holds_list (Having o) x = (named_of_node (node_number s o) (λ y. value_part s c.shape x y) (λ y. named_value c.shape x y), tt)
      holds_list (Same q) x = each_joined Fd (none_marked s i c.shape x) (none_differs s i q x) (none_marked_list x) (each_mapped Fd (λ y. literal (atom.Differ i x y) false) (linked_nodes s q x) (λ y d. differ_founded x y))
      holds_list (Unique true) x = each_flat Fd (λ y. map (λ v. literal (atom.Twin i x y v) false) (later_twins s (values_of s c.shape x) y)) (values_of s c.shape x) (λ y d. each_mapped Fd (λ v. literal (atom.Twin i x y v) false) (later_twins s (values_of s c.shape x) y) (λ v g. twin_founded x y v))
      holds_list (Unique false) x = tt
      holds_list (Every t) x = none_marked_list x
      holds_list (Nested u) x = none_marked_list x
      holds_list (Closing on allowed) x = none_marked_list x

      holds_founded : (x : ℕ) → Fd (atom.Holds i x)
      holds_founded x = founded_by (atom.Holds i x) (parts_of s (atom.Holds i x)) refl (in_where Fd (is_node s x) _ (by_form (constraint_at s.shapes i) e (λ n f. holds_parts s i n x f) (holds_list (form_of c.kind) x)))

    module _ (ranked : IsRanked s.shapes) where
      conforms_in : (d n : ℕ) → level s.shapes n < d → (x : ℕ) → Fd (atom.Conforms n x)
      conforms_in zero n l x = absurd (omega (arith, l))
      conforms_in (suc d) n l x = founded_by (atom.Conforms n x) (parts_of s (atom.Conforms n x)) refl (in_where Fd (is_node s x) _ (go (λ u k y. conforms_in d u k y) (constraints_of s.shapes n) refl))
        where
          one : ((u : ℕ) → level s.shapes u < d → (y : ℕ) → Fd (atom.Conforms u y)) → (is : List ℕ) → constraints_of s.shapes n ≡ Some is → (i : ℕ) → Contains is i → Fd (atom.Holds i x)
          one lower_ones is q i k =
              let r = ranked.own n i is q k in
              let st = ranked.stated i r.0 r.1 in
              holds_founded i r.0 r.1
              (λ u h y.
              let b = (st.lower u (subst (λ us. Contains us u) (references_of r.0.kind) h)).1 in
              let t : level s.shapes r.0.shape ≡ level s.shapes n = ap (level s.shapes) r.2 in
              lower_ones u (omega (arith, b, t, l)) y) x

          listed : ((i : ℕ) → Contains [] i → Fd (atom.Holds i x)) → (off : Bool) (is : List ℕ) → ((i : ℕ) → Contains is i → Fd (atom.Holds i x)) → EachOf (Names Fd) (if off then [] else map (λ i. literal (atom.Holds i x) true) is)
          listed none true is h = tt
          listed none false is h = each_mapped Fd (λ i. literal (atom.Holds i x) true) is h

          go : ((u : ℕ) → level s.shapes u < d → (y : ℕ) → Fd (atom.Conforms u y)) → (o : Option (List ℕ)) → constraints_of s.shapes n ≡ o → IfSome (option_and_then (λ is. all_of (if is_deactivated s.shapes n then [] else map (λ i. literal (atom.Holds i x) true) is)) o) (λ ps. EachOf (Names Fd) ps.list)
          go lower_ones None q = tt
          go lower_ones (Some is) q = listed (λ i k. absurd (in_none i k)) (is_deactivated s.shapes n) is (one lower_ones is q)

      conforms_founded : (n x : ℕ) → Fd (atom.Conforms n x)
      conforms_founded n x = conforms_in 129 n (ranked.shallow n) x

      target_founded : (n x : ℕ) → Fd (atom.Target n x)
      target_founded n x = founded_by (atom.Target n x) (parts_of s (atom.Target n x)) refl (in_where Fd (is_node s x) _ (go (shape_at s.shapes n)))
        where
          one : (k : Target) → EachOf (Names Fd) (target_list s x k)
          one (target.Node a) = (tt, tt)
          one (target.Class c) = (named_instance x c, tt)
          one (target.SubjectsOf q) = named_triples _ true
          one (target.ObjectsOf q) = named_triples _ true

          go : (o : Option Term) → IfSome (option_and_then (λ shape. any_of (flat_map (target_list s x) (targets s.shapes shape))) o) (λ ps. EachOf (Names Fd) ps.list)
          go None = tt
          go (Some shape) = each_flat Fd (target_list s x) (targets s.shapes shape) (λ k d. one k)

      -- of a constraint, or of a triple that states none
      of_triple : (a : Atom) (i : ℕ) → ((c : Constraint) → constraint_at s.shapes i ≡ Some c → Fd a) → (constraint_at s.shapes i ≡ None → Fd a) → Fd a
      of_triple a i some none = at (constraint_at s.shapes i) refl
        where
          at : (o : Option Constraint) → constraint_at s.shapes i ≡ o → Fd a
          at None e = none e
          at (Some c) e = some c e

      low_of : (i : ℕ) (c : Constraint) → constraint_at s.shapes i ≡ Some c → (u : ℕ) → Contains (references (form_of c.kind)) u → (y : ℕ) → Fd (atom.Conforms u y)
      low_of i c e u h y = conforms_founded u y

      nothing : (b : Bool) (o : Option Constraint) → o ≡ None → (parts : ℕ → Form → Option Parts) → IfSome (where_true b (option_and_then (λ d. parts d.shape (form_of d.kind)) o)) (λ ps. EachOf (Names Fd) ps.list)
      nothing b o q parts = in_where Fd b _ (subst (λ o. IfSome (option_and_then (λ d. parts d.shape (form_of d.kind)) o) (λ ps. EachOf (Names Fd) ps.list)) (sym q) tt)

      no_count : (o : Option Constraint) (i x j m : ℕ) → o ≡ None → EachOf (Names Fd) (lower (unwrap_or (option_and_then (λ d. Some (by_count s i d.shape x j m (form_of d.kind))) o) NoAtom))
      no_count o i x j m q = subst (λ o. EachOf (Names Fd) (lower (unwrap_or (option_and_then (λ d. Some (by_count s i d.shape x j m (form_of d.kind))) o) NoAtom))) (sym q) tt

      pub all_founded : (a : Atom) → Fd a
      all_founded (atom.Triple t) = triple_founded t
      all_founded (atom.Reach p x y) = reach_founded p x y
      all_founded (atom.Level p k x y) = level_founded p k x y
      all_founded (atom.Middle p k x z y) = middle_founded p k x z y
      all_founded (atom.Good i y) = of_triple (atom.Good i y) i (λ c e. good_founded i c e (low_of i c e) y) (λ e. founded_by (atom.Good i y) (parts_of s (atom.Good i y)) refl (nothing (is_node s y) (constraint_at s.shapes i) e (λ n f. good_parts s i y f)))
      all_founded (atom.Marked i x y) = of_triple (atom.Marked i x y) i (λ c e. marked_founded i c e (low_of i c e) x y) (λ e. founded_by (atom.Marked i x y) (parts_of s (atom.Marked i x y)) refl (nothing (is_node s x && is_node s y) (constraint_at s.shapes i) e (λ n f. where_true (is_value s n x y) (marked_parts s i n x y f))))
      all_founded (atom.Count i x j m) = of_triple (atom.Count i x j m) i (λ c e. count_founded i c e (low_of i c e) x j m) (λ e. founded_of (atom.Count i x j m) (no_count (constraint_at s.shapes i) i x j m e))
      all_founded (atom.Differ i x y) = of_triple (atom.Differ i x y) i (λ c e. differ_founded i c e (low_of i c e) x y) (λ e. founded_by (atom.Differ i x y) (parts_of s (atom.Differ i x y)) refl (nothing (is_node s x && is_node s y) (constraint_at s.shapes i) e (λ n f. differ_parts s n x y f)))
      all_founded (atom.Twin i x y z) = of_triple (atom.Twin i x y z) i (λ c e. twin_founded i c e (low_of i c e) x y z) (λ e. founded_by (atom.Twin i x y z) (parts_of s (atom.Twin i x y z)) refl (nothing (is_node s x && (is_node s y && is_node s z)) (constraint_at s.shapes i) e (λ n f. twin_parts s n x y z f)))
      all_founded (atom.Holds i x) = of_triple (atom.Holds i x) i (λ c e. holds_founded i c e (low_of i c e) x) (λ e. founded_by (atom.Holds i x) (parts_of s (atom.Holds i x)) refl (nothing (is_node s x) (constraint_at s.shapes i) e (λ n f. holds_parts s i n x f)))
      all_founded (atom.Conforms n x) = conforms_founded n x
      all_founded (atom.Target n x) = target_founded n x
