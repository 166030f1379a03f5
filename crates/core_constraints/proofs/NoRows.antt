-- A data graph that conforms has no results, and where a focus node doesn't conform there are some.
use Rattle.std.proofs.Common.{◌≡◌, ℕ, zero, suc, ◌<◌, ◌≤◌, ◌↔◌, true, false, List, [], ◌∷◌, length, Contains, Option, Some, None, refl, sym, ap, subst, ◌⊎◌, inl, inr, arith}
use Rattle.std.specs.Prelude.{option_map}
use Rattle.std.specs.List.{enumerate_from}
use Rattle.std.specs.Prelude.{filter_map}
use Rattle.std.proofs.lemmas.Bool.{cases_lt}
use Rattle.std.proofs.lemmas.Option.{slice_get-get_or, slice_get_within}
use Rattle.rdf_terms.specs.Graph.{Graph, triples}
use Rattle.rdf_terms.specs.Members.{InGraph}
use Rattle.rdf_terms.specs.declared.term.Term.{Term}
use Rattle.rdf_terms.specs.declared.term.Term.TheVariants.{Iri}
use Rattle.rdf_terms.proofs.Members.{in_first, in_rest}
use Rattle.shapes_profile.specs.Logic.{EachOf, Unless}
use Rattle.shapes_profile.specs.Shapes.{shape_terms, shape_at}
use Rattle.shapes_profile.specs.Profile.{IsInProfile}
use Rattle.shapes_graph.specs.declared.constraints.Constraint.{Constraint}
use Rattle.shapes_graph.specs.Constraints.{constraint_at, constraints_of, is_deactivated, place_of}
use Rattle.shapes_graph.specs.Forms.{Form, Every, Nested, Closing, Least, Most, Having, Same, Unique, form_of}
use Rattle.shapes_graph.specs.Reach.{IsValue}
use Rattle.shapes_graph.specs.Targets.{IsFocus}
use Rattle.shapes_graph.specs.Conformance.{HoldsBy, OfConstraint, HoldsIn, ConformsBy, ConformsTo, Conforms, shape_levels}
use Rattle.shapes_graph.specs.Results.{ResultRow, Frame, row, row_of_triple, IsAlone, IsRowBy, frame_of, IsRowOf, IsRowIn, IsResult, HasNoResult}
use Rattle.core_constraints.specs.Levels.{level}
use Rattle.core_constraints.proofs.Decided.{true_or_false, each_at}
use Rattle.core_constraints.proofs.Opened.{IsRanked, references, references_of, opened}
use Rattle.core_constraints.proofs.Ranked.{ranked}

module _ (g : Graph) (C : ℕ → Term → Type 0) (N : ℕ → Term → ResultRow → Type 0) where
  -- what holds has no results
  clean_form : (V : Term → Type 0) (x : Term) (fr : Frame) (f : Form) → ((u : ℕ) → Contains (references f) u → (y : Term) → C u y → (r : ResultRow) → ¬ (N u y r)) → HoldsBy g C V x f → (r : ResultRow) → ¬ (IsRowBy g C N V x fr f r)
  clean_form V x fr (Every t) e h r w = h (w.0, w.1, w.2)
  clean_form V x fr (Nested u) e h r w = h (w.0, w.1, λ c. e u (in_first u []) w.0 c r w.2)
  clean_form V x fr (Closing on allowed) e h r w = h w.0 (w.1.0, w.1.1)
  clean_form V x fr (Least n t) e h r w = w.0 h
  clean_form V x fr (Most n t) e h r w = w.0 h
  clean_form V x fr (Having o) e h r w = w.0 h
  clean_form V x fr (Same q) e h r w = pick w.1
    where
      pick : IsAlone V (InGraph g x (Iri q)) w.0 → ⊥
      pick (inl k) = h.no_value_alone (w.0, k.0, k.1)
      pick (inr k) = h.no_object_alone (w.0, k.0, k.1)
  clean_form V x fr (Unique on) e h r w = h w.0 (w.1.0, w.1.1, w.1.2, w.1.3)

  -- what has no results can't fail
  no_rows_form : (V : Term → Type 0) (x : Term) (fr : Frame) (f : Form) → ((u : ℕ) → Contains (references f) u → (y : Term) → ((r : ResultRow) → ¬ (N u y r)) → ¬ ¬ (C u y)) → ((r : ResultRow) → ¬ (IsRowBy g C N V x fr f r)) → ¬ ¬ (HoldsBy g C V x f)
  no_rows_form V x fr (Every t) e h k = k (λ bad. h (row fr (Some bad.0) None) (bad.0, bad.1, bad.2, refl))
  no_rows_form V x fr (Nested u) e h k = k (λ bad. e u (in_first u []) bad.0 (λ r w. h r (bad.0, bad.1, w)) bad.2)
  no_rows_form V x fr (Closing on allowed) e h k = k (λ o bad. h (row_of_triple fr bad.0) (o, (bad.0, bad.1, refl)))
  no_rows_form V x fr (Least n t) e h k = h (row fr None None) (k, refl)
  no_rows_form V x fr (Most n t) e h k = h (row fr None None) (k, refl)
  no_rows_form V x fr (Having o) e h k = h (row fr None None) (k, refl)
  no_rows_form V x fr (Same q) e h k = k (record { no_value_alone = λ bad. h (row fr (Some bad.0) None) (bad.0, inl (bad.1, bad.2), refl); no_object_alone = λ bad. h (row fr (Some bad.0) None) (bad.0, inr (bad.1, bad.2), refl) })
  no_rows_form V x fr (Unique on) e h k = k (λ o bad. h (row fr None (Some bad.2)) (o, (bad.0, bad.1, bad.2, bad.3, refl)))

-- not not each, where not not of every one
each_not_not : {X : Type 0} (P : X → Type 0) (xs : List X) → ((x : X) → Contains xs x → ¬ ¬ (P x)) → ¬ ¬ (EachOf P xs)
each_not_not P [] h k = k tt
each_not_not P (x ∷ xs) h k = h x (in_first x xs) (λ p. each_not_not P xs (λ y m. h y (in_rest x xs y m)) (λ ps. k (p, ps)))

-- each shape has its list of constraints
module _ (s : Graph) where
  listed_at : (n : ℕ) (x : Term) → shape_at s n ≡ Some x → (is : List ℕ) × (constraints_of s n ≡ Some is)
  unfolding constraints_of
  listed_at n x e = (filter_map (place_of s x) (enumerate_from 0 (triples s)), ap (option_map (λ y. filter_map (place_of s y) (enumerate_from 0 (triples s)))) e)

  listed : (n : ℕ) → n < length (shape_terms s) → (is : List ℕ) × (constraints_of s n ≡ Some is)
  listed n l = listed_at n _ (slice_get-get_or (shape_terms s) n (Iri []) l)

  listed_focus : (g : Graph) (n : ℕ) (x : Term) → IsFocus s n g x → (is : List ℕ) × (constraints_of s n ≡ Some is)
  unfolding IsFocus
  listed_focus g n x f = listed_at n f.0 f.1

module _ (s g : Graph) (rank : IsRanked s) where
  abbrev H : ℕ → Term → Option Constraint → Type 0
  H i x o = OfConstraint o (λ c. HoldsBy g (λ u y. ConformsTo s g u y) (IsValue s c.shape g x) x (form_of c.kind))

  abbrev W : (ℕ → Term → ResultRow → Type 0) → ℕ → ℕ → Term → ResultRow → Option Constraint → Type 0
  W N n i x r o = OfConstraint o (λ c. IsRowBy g (λ u y. ConformsTo s g u y) N (IsValue s c.shape g x) x (frame_of s n i x) (form_of c.kind) r)

  -- the shapes that a constraint of shape n refers to are of lower levels
  below : (n i u : ℕ) (c : Constraint) → constraint_at s i ≡ Some c → c.shape ≡ n → Contains (references (form_of c.kind)) u → (u < length (shape_terms s)) × (level s u < level s n)
  below n i u c e own m =
      let l = (rank.stated i c e).lower u (subst (λ us. Contains us u) (references_of c.kind) m) in
      (l.0, subst (λ a. level s u < level s a) own l.1)

  clean : (d n : ℕ) (x : Term) → level s n < d → ConformsTo s g n x → (r : ResultRow) → ¬ (IsRowIn d s g n x r)
  unfolding IsRowIn
  clean zero n x l h r w = w
  clean (suc d) n x l h r w = go (constraints_of s n) refl ((opened s g rank n x).0 h) w (λ u y lt k q. clean d u y (omega arith) k q)
    where
      N : ℕ → Term → ResultRow → Type 0
      N u y q = IsRowIn d s g u y q

      go : (o : Option (List ℕ)) → constraints_of s n ≡ o → ConformsBy s g (λ u y. ConformsTo s g u y) n x o → IsRowOf s g N n x r o → ((u : ℕ) (y : Term) → level s u < level s n → ConformsTo s g u y → (q : ResultRow) → ¬ (N u y q)) → ⊥
      go None e h w lower = w
      go (Some is) e h w lower =
          let i = w.1.0 in
          let c = rank.own n i is e w.1.1 in
          let each = subst (λ b. Unless b (EachOf (HoldsIn s g (λ u y. ConformsTo s g u y) x) is)) w.0 h in
          let holds = subst (λ o. H i x o) c.1 (each_at (HoldsIn s g (λ u y. ConformsTo s g u y) x) is i each w.1.1) in
          clean_form g (λ u y. ConformsTo s g u y) N (IsValue s c.0.shape g x) x (frame_of s n i x) (form_of c.0.kind) (λ u m y k q. lower u y (below n i u c.0 c.1 c.2 m).1 k q) holds r (subst (λ o. W N n i x r o) c.1 w.1.2)

  no_rows : (d n : ℕ) (x : Term) → level s n < d → (is : List ℕ) → constraints_of s n ≡ Some is → ((r : ResultRow) → ¬ (IsRowIn d s g n x r)) → ¬ ¬ (ConformsTo s g n x)
  unfolding IsRowIn
  no_rows zero n x l is e h k = absurd (omega arith)
  no_rows (suc d) n x l is e h k = off (true_or_false (is_deactivated s n)) (λ u y lt us f none. no_rows d u y (omega arith) us f none)
    where
      N : ℕ → Term → ResultRow → Type 0
      N u y q = IsRowIn d s g u y q

      back : ConformsBy s g (λ u y. ConformsTo s g u y) n x (Some is) → ⊥
      back m = k ((opened s g rank n x).1 (subst (λ o. ConformsBy s g (λ u y. ConformsTo s g u y) n x o) (sym e) m))

      off : (is_deactivated s n ≡ true) ⊎ (is_deactivated s n ≡ false) → ((u : ℕ) (y : Term) → level s u < level s n → (us : List ℕ) → constraints_of s u ≡ Some us → ((q : ResultRow) → ¬ (N u y q)) → ¬ ¬ (ConformsTo s g u y)) → ⊥
      off (inl on) lower = back (subst (λ b. Unless b (EachOf (HoldsIn s g (λ u y. ConformsTo s g u y) x) is)) (sym on) tt)
      off (inr no_off) lower =
          each_not_not (HoldsIn s g (λ u y. ConformsTo s g u y) x) is
          (λ i m. let c = rank.own n i is e m in subst (λ o. ¬ ¬ (H i x o)) (sym c.1)
          (no_rows_form g (λ u y. ConformsTo s g u y) N (IsValue s c.0.shape g x) x (frame_of s n i x) (form_of c.0.kind)
          (λ u q y none. let b = below n i u c.0 c.1 c.2 q in let t = listed s u b.0 in lower u y b.1 t.0 t.1 none)
          (λ r w. h r (subst (λ o. IsRowOf s g N n x r o) (sym e) (no_off, (i, m, subst (λ o. W N n i x r o) (sym c.1) w))))))
          (λ all. back (subst (λ b. Unless b (EachOf (HoldsIn s g (λ u y. ConformsTo s g u y) x) is)) (sym no_off) all))

  all_clean : Conforms s g → HasNoResult s g
  unfolding Conforms IsResult
  all_clean all r = let w = r.1 in clean shape_levels w.0 w.1 (rank.shallow w.0) (all w.0 w.1 w.2) r.0 w.3

  focus_clean : HasNoResult s g → (n : ℕ) (x : Term) → IsFocus s n g x → ¬ ¬ (ConformsTo s g n x)
  unfolding IsResult
  focus_clean none n x f = let c = listed_focus s g n x f in no_rows shape_levels n x (rank.shallow n) c.0 c.1 (λ r w. none (r, (n, x, f, w)))

-- what can't fail below a count
all_below : (P : ℕ → Type 0) (m : ℕ) → ((n : ℕ) → ¬ ¬ (P n)) → ¬ ¬ ((n : ℕ) → n < m → P n)
all_below P zero h k = k (λ n l. absurd (omega arith))
all_below P (suc m) h k = h m (λ p. all_below P m h (λ all. k (λ n l. pick n p all (cases_lt n m) l)))
  where
    pick : (n : ℕ) → P m → ((n : ℕ) → n < m → P n) → (n < m) ⊎ (m ≤ n) → n < suc m → P n
    pick n p all (inl lt) l = all n lt
    pick n p all (inr le) l = let e : m ≡ n = omega arith in subst P e p

-- what can't fail where F is so
not_not_where : (F C : Type 0) → (F → ¬ ¬ C) → ¬ ¬ (F → C)
not_not_where F C h k = k (λ f. absurd (h f (λ c. k (λ _. c))))

focus_within : (s g : Graph) (n : ℕ) (x : Term) → IsFocus s n g x → n < length (shape_terms s)
unfolding IsFocus
focus_within s g n x f = slice_get_within (shape_terms s) n f.0 f.1

pub conforms_is : (s g : Graph) → Conforms s g ↔ ((n : ℕ) (x : Term) → IsFocus s n g x → ConformsTo s g n x)
unfolding Conforms
conforms_is s g = (λ h. h, λ h. h)

-- where all focus nodes of all shapes conform
pub conforms_of : (s g : Graph) → ((n : ℕ) → n < length (shape_terms s) → (x : Term) → IsFocus s n g x → ConformsTo s g n x) → Conforms s g
conforms_of s g h = (conforms_is s g).1 (λ n x f. h n (focus_within s g n x f) x f)

-- a data graph that conforms has no results
pub conforming_none : (s g : Graph) → IsInProfile s → Conforms s g → HasNoResult s g
conforming_none s g profile h = all_clean s g (ranked s profile) h

-- where there are no results, the data graph can't fail to conform
pub none_conforming : (s g : Graph) → IsInProfile s → (nodes : List Term) → ((n : ℕ) (x : Term) → IsFocus s n g x → Contains nodes x) → HasNoResult s g → ¬ (Conforms s g) → ⊥
none_conforming s g profile nodes covers none not = all_below (λ n. (x : Term) → IsFocus s n g x → ConformsTo s g n x) (length (shape_terms s)) of_shape (λ all. not (conforms_of s g all))
  where
    of_shape : (n : ℕ) → ¬ ¬ ((x : Term) → IsFocus s n g x → ConformsTo s g n x)
    of_shape n k =
        each_not_not (λ x. IsFocus s n g x → ConformsTo s g n x) nodes
        (λ x m. not_not_where (IsFocus s n g x) (ConformsTo s g n x) (focus_clean s g (ranked s profile) none n x))
        (λ all. k (λ x f. each_at (λ x. IsFocus s n g x → ConformsTo s g n x) nodes x all (covers n x f) f))
