-- How lists of validations and of rows grow, and what a worklist of validations has found.
use Rattle.std.proofs.Common.{◌≡◌, ◌↔◌, ◌⊎◌, inl, inr, ℕ, zero, suc, ◌+◌, ◌*◌, ◌<◌, ◌≤◌, Bool, true, false, cond, IsTrue, List, [], ◌∷◌, ◌++◌, take, map, length, get_or, Contains, Option, Some, None, option_map, slice_get, refl, sym, ap, ◌∙◌, subst, arith}
use Rattle.std.specs.Prelude.{option_and_then, unwrap_or}
use Rattle.std.specs.List.{list_any, IsDistinct}
use Rattle.std.specs.Cmp.{IsEquivalence}
use Rattle.std.proofs.lemmas.Bool.{cases_lt, false≢true}
use Rattle.std.proofs.lemmas.List.{length-append, length-map}
use Rattle.std.proofs.lemmas.List.Elements.{Contains-append_cases, Contains-append_left, Contains-append_right}
use Rattle.std.proofs.lemmas.Map.Views.{Contains-from_any, list_any-from_Contains}
use Rattle.std.proofs.lemmas.Map.Made.{length-le_from_is_member}
use Rattle.std.proofs.lemmas.Option.{slice_get-map, slice_get_within}
use Rattle.rdf_terms.specs.declared.term.Term.{Term}
use Rattle.rdf_terms.specs.declared.term.Term.TheVariants.{Iri}
use Rattle.rdf_terms.specs.Graph.{Graph}
use Rattle.rdf_terms.specs.Members.{IsListOf}
use Rattle.rdf_terms.specs.Nodes.{terms, has_term}
use Rattle.rdf_terms.specs.Vocab.Sh as sh
use Rattle.rdf_terms.proofs.Members.{in_none, in_first, in_rest, in_map, map_in, take_next}
use Rattle.rdf_navigation.specs.Values.{value_of}
use Rattle.rdf_navigation.proofs.PropertyLaws.{same_some}
use Rattle.path_eval.specs.Numbered.{terms_at, AreNumbers}
use Rattle.path_eval.proofs.VisitLaws.{slice_get_left, in_one}
use Rattle.path_eval.proofs.Searches.{IsFound, IsSearch, place_of, search_start, search_next, search_end}
use Rattle.shapes_profile.specs.Shapes.{shape_terms, shape_at}
use Rattle.shapes_graph.specs.declared.constraints.Constraint.{Constraint}
use Rattle.shapes_graph.specs.declared.constraints.Kind.TheVariants as kind
use Rattle.shapes_graph.specs.PathForms.{text_of}
use Rattle.shapes_graph.specs.Constraints.{constraint_at, constraints_of, shapes_of_kind, component_of, is_deactivated, severity_of}
use Rattle.shapes_graph.specs.Conformance.{OfConstraint, ConformsTo}
use Rattle.shapes_graph.specs.Forms.{form_of}
use Rattle.shapes_graph.specs.Reach.{IsValue}
use Rattle.shapes_graph.specs.Results as results
use Rattle.shapes_graph.specs.Results.{IsRowBy, IsRowOf, IsResult, frame_of}
use Rattle.shapes_graph.specs.Targets.{IsFocus}
use Rattle.shapes_graph.proofs.NamedShapes.{constraint_within}
use Rattle.core_constraints.specs.declared.input.Input.{Input}
use Rattle.core_constraints.specs.declared.memo.Validation.{Validation}
use Rattle.core_constraints.specs.declared.result_rows.ResultRow.{ResultRow}
use Rattle.core_constraints.specs.Findings.{shapes_of, data_of, term_of, HasFocusNodes, AreValueNodes}
use Rattle.core_constraints.specs.RowLists.{IsNoRow, IsOwnRow, IsOwnRowBy}
use Rattle.core_constraints.specs.Rows.{result_of, AreRowsOf}
use Rattle.core_constraints.specs.RowLists.{Gains, frame_for}
use Rattle.core_constraints.specs.Validations.{pair_of, pairs_of, AreValidations, Adds, AreOfFocusNodes, IsNested, Leads, Follows, IsRowAt}
use Rattle.core_constraints.proofs.Decided.{in_at}
use Rattle.core_constraints.proofs.Opened.{IsRanked}
use Rattle.core_constraints.proofs.ResultWalks.{IsOwn, IsFocused, result_walks}

-- growth of what has A by what has P
module _ {X : Type 0} where
  abbrev pub Grows : (X → Type 0) → (X → Type 0) → (X → Type 0) → Type 0
  Grows A P B = (x : X) → B x ↔ (A x ⊎ P x)

  pub grows_then : (A B C P Q : X → Type 0) → Grows A P B → Grows B Q C → Grows A (λ x. P x ⊎ Q x) C
  grows_then A B C P Q a b x = (λ h. to ((b x).0 h), back)
    where
      first : A x ⊎ P x → A x ⊎ (P x ⊎ Q x)
      first (inl h) = inl h
      first (inr h) = inr (inl h)

      to : B x ⊎ Q x → A x ⊎ (P x ⊎ Q x)
      to (inl h) = first ((a x).0 h)
      to (inr h) = inr (inr h)

      back : A x ⊎ (P x ⊎ Q x) → C x
      back (inl h) = (b x).1 (inl ((a x).1 (inl h)))
      back (inr (inl h)) = (b x).1 (inl ((a x).1 (inr h)))
      back (inr (inr h)) = (b x).1 (inr h)

  pub grows_same : (A B P Q : X → Type 0) → ((x : X) → P x ↔ Q x) → Grows A P B → Grows A Q B
  grows_same A B P Q is a x = (λ h. to ((a x).0 h), λ h. (a x).1 (back h))
    where
      to : A x ⊎ P x → A x ⊎ Q x
      to (inl h) = inl h
      to (inr h) = inr ((is x).0 h)

      back : A x ⊎ Q x → A x ⊎ P x
      back (inl h) = inl h
      back (inr h) = inr ((is x).1 h)

  pub grows_none : (A P : X → Type 0) → ((x : X) → P x → ⊥) → Grows A P A
  grows_none A P never x = (λ h. inl h, back)
    where
      back : A x ⊎ P x → A x
      back (inl h) = h
      back (inr h) = absurd (never x h)

-- for some number of the list
abbrev pub OfSome : List ℕ → (ℕ → Type 0) → Type 0
OfSome ps F = (p : ℕ) × Contains ps p × F p

pub of_none : (ps : List ℕ) (F : ℕ → Type 0) → OfSome (take 0 ps) F → ⊥
of_none [] F h = in_none h.0 h.1
of_none (p ∷ ps) F h = in_none h.0 h.1

-- one number more
pub some_more : (F : ℕ → Type 0) (ps : List ℕ) (k p : ℕ) → k < length ps → p ≡ get_or ps k p → (OfSome (take k ps) F ⊎ F p) ↔ OfSome (take (k + 1) ps) F
some_more F ps k p l is = (to, λ h. back h (Contains-append_cases (take k ps) (p ∷ []) h.0 (subst (λ us. Contains us h.0) more h.1)))
  where
    more : take (k + 1) ps ≡ take k ps ++ p ∷ []
    more = take_next ps k p l is

    to : OfSome (take k ps) F ⊎ F p → OfSome (take (k + 1) ps) F
    to (inl h) = (h.0, subst (λ us. Contains us h.0) (sym more) (Contains-append_left (take k ps) (p ∷ []) h.0 h.1), h.2)
    to (inr h) = (p, subst (λ us. Contains us p) (sym more) (Contains-append_right (take k ps) (p ∷ []) p (in_first p [])), h)

    back : (h : OfSome (take (k + 1) ps) F) → Contains (take k ps) h.0 ⊎ Contains (p ∷ []) h.0 → OfSome (take k ps) F ⊎ F p
    back h (inl c) = inl (h.0, c, h.2)
    back h (inr c) = inr (subst F (sym (in_one p h.0 c)) h.2)

pub gains_none : (rows : List ResultRow) (P : results.ResultRow → Type 0) → ((r : results.ResultRow) → P r → ⊥) → Gains rows P rows
gains_none rows P never = grows_none (Contains (map result_of rows)) P never

-- the loop's step over numbers
pub gains_more : (old mid new : List ResultRow) (F : ℕ → results.ResultRow → Type 0) (ps : List ℕ) (k p : ℕ) → k < length ps → p ≡ get_or ps k p
    → Gains old (λ r. OfSome (take k ps) (λ q. F q r)) mid → Gains mid (F p) new → Gains old (λ r. OfSome (take (k + 1) ps) (λ q. F q r)) new
gains_more old mid new F ps k p l is a b =
    grows_same (Contains (map result_of old)) (Contains (map result_of new)) (λ r. OfSome (take k ps) (λ q. F q r) ⊎ F p r) (λ r. OfSome (take (k + 1) ps) (λ q. F q r)) (λ r. some_more (λ q. F q r) ps k p l is)
    (grows_then (Contains (map result_of old)) (Contains (map result_of mid)) (Contains (map result_of new)) (λ r. OfSome (take k ps) (λ q. F q r)) (F p) a b)

-- validations
pub adds_same : (old new : List Validation) (P Q : Validation → Type 0) → ((v : Validation) → P v ↔ Q v) → Adds old new P → Adds old new Q
adds_same old new P Q is a = record { kept = a.kept; exact = grows_same (Contains old) (Contains new) P Q is a.exact }

pub adds_none : (vs : List Validation) (P : Validation → Type 0) → ((v : Validation) → P v → ⊥) → Adds vs vs P
adds_none vs P never = record { kept = λ k l. refl; exact = grows_none (Contains vs) P never }

kept_longer : {X : Type 0} (old new : List X) → ((i : ℕ) → i < length old → slice_get new i ≡ slice_get old i) → length old ≤ length new
kept_longer [] new k = omega arith
kept_longer (x ∷ xs) [] k = absurd (let z : None ≡ Some x = k 0 (omega arith) in cc)
kept_longer (x ∷ xs) (y ∷ ys) k = let l = kept_longer xs ys (λ i l. k (suc i) (omega (arith, l))) in omega (arith, l)

pub adds_then : (us vs ws : List Validation) (P Q : Validation → Type 0) → Adds us vs P → Adds vs ws Q → Adds us ws (λ v. P v ⊎ Q v)
adds_then us vs ws P Q a b = record {
  kept = λ k l. b.kept k (let m = kept_longer us vs a.kept in omega (arith, l, m)) ∙ a.kept k l;
  exact = grows_then (Contains us) (Contains vs) (Contains ws) P Q a.exact b.exact;
}

-- an insert, where equal validations are the same
pub adds_insert : (eq : Validation → Validation → Bool) → ((x y : Validation) → eq x y ≡ true → x ≡ y) → (vs new : List Validation) (v : Validation) → new ≡ cond (list_any (eq v) vs) vs (vs ++ v ∷ []) → Adds vs new (λ u. v ≡ u)
adds_insert eq same vs new v is = subst (λ ns. Adds vs ns (λ u. v ≡ u)) (sym is) (at (list_any (eq v) vs) refl)
  where
    at : (b : Bool) → list_any (eq v) vs ≡ b → Adds vs (cond b vs (vs ++ v ∷ [])) (λ u. v ≡ u)
    at true e = record { kept = λ k l. refl; exact = λ u. (λ c. inl c, there u) }
      where
        there : (u : Validation) → Contains vs u ⊎ (v ≡ u) → Contains vs u
        there u (inl c) = c
        there u (inr h) = subst (Contains vs) h (Contains-from_any same v vs e)
    at false e = record { kept = λ k l. slice_get_left vs (v ∷ []) k l; exact = λ u. (λ c. to u (Contains-append_cases vs (v ∷ []) u c), back u) }
      where
        to : (u : Validation) → Contains vs u ⊎ Contains (v ∷ []) u → Contains vs u ⊎ (v ≡ u)
        to u (inl c) = inl c
        to u (inr c) = inr (in_one v u c)

        back : (u : Validation) → Contains vs u ⊎ (v ≡ u) → Contains (vs ++ v ∷ []) u
        back u (inl c) = Contains-append_left vs (v ∷ []) u c
        back u (inr h) = Contains-append_right vs (v ∷ []) u (subst (Contains (v ∷ [])) h (in_first v []))

-- the loop's step over nodes, and that over places
pub adds_node : (old mid new : List Validation) (shape : ℕ) (nodes : List ℕ) (k node : ℕ) → k < length nodes → node ≡ get_or nodes k node
    → Adds old mid (λ v. (shape ≡ v.shape) × Contains (take k nodes) v.node) → Adds mid new (λ v. record { shape = shape; node = node } ≡ v)
    → Adds old new (λ v. (shape ≡ v.shape) × Contains (take (k + 1) nodes) v.node)
adds_node old mid new shape nodes k node l is a b = adds_same old new (λ v. P v ⊎ (here ≡ v)) (λ v. (shape ≡ v.shape) × Contains (take (k + 1) nodes) v.node) same (adds_then old mid new P (λ v. here ≡ v) a b)
  where
    here : Validation
    here = record { shape = shape; node = node }

    P : Validation → Type 0
    P v = (shape ≡ v.shape) × Contains (take k nodes) v.node

    more : take (k + 1) nodes ≡ take k nodes ++ node ∷ []
    more = take_next nodes k node l is

    same : (v : Validation) → (((shape ≡ v.shape) × Contains (take k nodes) v.node) ⊎ (record { shape = shape; node = node } ≡ v)) ↔ ((shape ≡ v.shape) × Contains (take (k + 1) nodes) v.node)
    same v = (to, λ h. back h (Contains-append_cases (take k nodes) (node ∷ []) v.node (subst (λ ns. Contains ns v.node) more h.1)))
      where
        to : ((shape ≡ v.shape) × Contains (take k nodes) v.node) ⊎ (record { shape = shape; node = node } ≡ v) → (shape ≡ v.shape) × Contains (take (k + 1) nodes) v.node
        to (inl h) = (h.0, subst (λ ns. Contains ns v.node) (sym more) (Contains-append_left (take k nodes) (node ∷ []) v.node h.1))
        to (inr h) = (ap (λ (u : Validation). u.shape) h, subst (λ ns. Contains ns v.node) (sym more) (Contains-append_right (take k nodes) (node ∷ []) v.node (subst (Contains (node ∷ [])) (ap (λ (u : Validation). u.node) h) (in_first node []))))

        back : (shape ≡ v.shape) × Contains (take (k + 1) nodes) v.node → Contains (take k nodes) v.node ⊎ Contains (node ∷ []) v.node → ((shape ≡ v.shape) × Contains (take k nodes) v.node) ⊎ (record { shape = shape; node = node } ≡ v)
        back h (inl c) = inl (h.0, c)
        back h (inr c) = inr (λ j. record { shape = h.0 j; node = in_one node v.node c j })

pub adds_more : (old mid new : List Validation) (F : ℕ → Validation → Type 0) (ps : List ℕ) (k p : ℕ) → k < length ps → p ≡ get_or ps k p
    → Adds old mid (λ v. OfSome (take k ps) (λ q. F q v)) → Adds mid new (F p) → Adds old new (λ v. OfSome (take (k + 1) ps) (λ q. F q v))
adds_more old mid new F ps k p l is a b =
    adds_same old new (λ v. OfSome (take k ps) (λ q. F q v) ⊎ F p v) (λ v. OfSome (take (k + 1) ps) (λ q. F q v)) (λ v. some_more (λ q. F q v) ps k p l is)
    (adds_then old mid new (λ v. OfSome (take k ps) (λ q. F q v)) (F p) a b)

-- a constraint that there is
pub of_constraint : (o : Option Constraint) (P : Constraint → Type 0) → OfConstraint o P → (c : Constraint) × (o ≡ Some c) × P c
of_constraint None P h = absurd h
of_constraint (Some c) P h = (c, refl, h)

-- so many validations there are at most: each pair of a shape below the one bound and a node below the other
abbrev row : ℕ → ℕ → List Validation
row s zero = []
row s (suc n) = record { shape = s; node = n } ∷ row s n

abbrev grid : ℕ → ℕ → List Validation
grid zero n = []
grid (suc s) n = row s n ++ grid s n

length-row : (s n : ℕ) → length (row s n) ≡ n
length-row s zero = refl
length-row s (suc n) = ap suc (length-row s n)

length-grid : (s n : ℕ) → length (grid s n) ≡ s * n
length-grid zero n = omega arith
length-grid (suc s) n = length-append (row s n) (grid s n) ∙ ((λ i. length-row s n i + length-grid s n i) ∙ omega arith)

in_row : (s n : ℕ) (v : Validation) → v.shape ≡ s → v.node < n → Contains (row s n) v
in_row s zero v e l = absurd (omega (arith, l))
in_row s (suc n) v e l = at (cases_lt v.node n) (λ m. in_row s n v e m)
  where
    at : (v.node < n) ⊎ (n ≤ v.node) → (v.node < n → Contains (row s n) v) → Contains (row s (suc n)) v
    at (inl m) more = in_rest _ (row s n) v (more m)
    at (inr m) more =
        let same : n ≡ v.node = omega (arith, m, l) in
        let is : record { shape = s; node = n } ≡ v = λ j. record { shape = sym e j; node = same j } in
        subst (λ u. Contains (u ∷ row s n) v) (sym is) (in_first v (row s n))

in_grid : (s n : ℕ) (v : Validation) → v.shape < s → v.node < n → Contains (grid s n) v
in_grid zero n v k l = absurd (omega (arith, k))
in_grid (suc s) n v k l = at (cases_lt v.shape s) (λ m. in_grid s n v m l)
  where
    at : (v.shape < s) ⊎ (s ≤ v.shape) → (v.shape < s → Contains (grid s n) v) → Contains (grid (suc s) n) v
    at (inl m) more = Contains-append_right (row s n) (grid s n) v (more m)
    at (inr m) more = Contains-append_left (row s n) (grid s n) v (in_row s n v (omega (arith, m, k)) l)

module _ (i : Input) where
  abbrev pub shape_count : ℕ
  shape_count = length (shape_terms (shapes_of i))

  abbrev pub node_count : ℕ
  node_count = length (terms i.graph.nodes)

  pub validations_bound : (eq : Validation → Validation → Bool) (laws : IsEquivalence eq) → ((x y : Validation) → eq x y ≡ true → x ≡ y) → (vs : List Validation) → IsDistinct eq vs → AreValidations i vs → length vs ≤ shape_count * node_count
  validations_bound eq laws same vs d w =
      let l = length-le_from_is_member laws vs (grid shape_count node_count) d (λ q m. list_any-from_Contains laws q (grid shape_count node_count) (let b = w q (Contains-from_any same q vs m) in in_grid shape_count node_count q b.0 b.1)) in
      let e = length-grid shape_count node_count in
      omega (arith, l, e)

  -- what is appended, said of shapes and nodes
  pairs_grow : (old new : List Validation) (P : Validation → Type 0) (T : ℕ × Term → Type 0) → Adds old new P → ((v : Validation) → P v → T (pair_of i v)) → ((p : ℕ × Term) → T p → (v : Validation) × P v × (pair_of i v ≡ p))
      → (p : ℕ × Term) → Contains (pairs_of i new) p ↔ (Contains (pairs_of i old) p ⊎ T p)
  pairs_grow old new P T a sound whole p = (to, from)
    where
      to : Contains (pairs_of i new) p → Contains (pairs_of i old) p ⊎ T p
      to c = at ((a.exact m.0).0 m.1)
        where
          m : (v : Validation) × Contains new v × (pair_of i v ≡ p)
          m = map_in (pair_of i) new p c

          at : Contains old m.0 ⊎ P m.0 → Contains (pairs_of i old) p ⊎ T p
          at (inl d) = inl (subst (Contains (pairs_of i old)) m.2 (in_map (pair_of i) old m.0 d))
          at (inr h) = inr (subst T m.2 (sound m.0 h))

      from : Contains (pairs_of i old) p ⊎ T p → Contains (pairs_of i new) p
      from (inl c) = let m = map_in (pair_of i) old p c in subst (Contains (pairs_of i new)) m.2 (in_map (pair_of i) new m.0 ((a.exact m.0).1 (inl m.1)))
      from (inr t) = let w = whole p t in subst (Contains (pairs_of i new)) w.2 (in_map (pair_of i) new w.0 ((a.exact w.0).1 (inr w.1)))

  pairs_kept : (old new : List Validation) → ((k : ℕ) → k < length old → slice_get new k ≡ slice_get old k) → (k : ℕ) → k < length (pairs_of i old) → slice_get (pairs_of i new) k ≡ slice_get (pairs_of i old) k
  pairs_kept old new kept k l = slice_get-map (pair_of i) new k ∙ (ap (option_map (pair_of i)) (kept k (let e = length-map old (pair_of i) in omega (arith, l, e))) ∙ sym (slice_get-map (pair_of i) old k))

  -- what a place states
  pub row_at : (p : ℕ) (x : Term) (c : Constraint) (old new : List ResultRow) → constraint_at (shapes_of i) p ≡ Some c → Gains old (IsOwnRowBy i (IsValue (shapes_of i) c.shape (data_of i) x) x (frame_for (shapes_of i) c x) (form_of c.kind)) new → Gains old (IsRowAt i p x) new
  row_at p x c old new e a = subst (λ o. Gains old (λ r. OfConstraint o (λ c. IsOwnRowBy i (IsValue (shapes_of i) c.shape (data_of i) x) x (frame_for (shapes_of i) c x) (form_of c.kind) r)) new) (sym e) a

  pub row_at_none : (p : ℕ) (x : Term) → constraint_at (shapes_of i) p ≡ None → (r : results.ResultRow) → IsRowAt i p x r → ⊥
  row_at_none p x e r h = subst (λ o. OfConstraint o (λ c. IsOwnRowBy i (IsValue (shapes_of i) c.shape (data_of i) x) x (frame_for (shapes_of i) c x) (form_of c.kind) r)) e h

  pub row_at_nested : (p u : ℕ) (x : Term) (c : Constraint) → constraint_at (shapes_of i) p ≡ Some c → c.kind ≡ kind.Property u → (r : results.ResultRow) → IsRowAt i p x r → ⊥
  row_at_nested p u x c e k r h =
      let row : IsOwnRowBy i (IsValue (shapes_of i) c.shape (data_of i) x) x (frame_for (shapes_of i) c x) (form_of c.kind) r = subst (λ o. OfConstraint o (λ c. IsOwnRowBy i (IsValue (shapes_of i) c.shape (data_of i) x) x (frame_for (shapes_of i) c x) (form_of c.kind) r)) e h in
      (subst (λ f. IsOwnRowBy i (IsValue (shapes_of i) c.shape (data_of i) x) x (frame_for (shapes_of i) c x) (form_of f) r) k row).2

  nested_kind : (p v : ℕ) (c : Constraint) → constraint_at (shapes_of i) p ≡ Some c → IsNested (shapes_of i) p v → c.kind ≡ kind.Property v
  nested_kind p v c e h = subst (λ o. OfConstraint o (λ c. c.kind ≡ kind.Property v)) e h

  pub nested_at : (p u : ℕ) (c : Constraint) → constraint_at (shapes_of i) p ≡ Some c → c.kind ≡ kind.Property u → (values : List ℕ) (v : Validation) → ((u ≡ v.shape) × Contains values v.node) ↔ (IsNested (shapes_of i) p v.shape × Contains values v.node)
  nested_at p u c e k values v = (
    λ h. (subst (λ o. OfConstraint o (λ c. c.kind ≡ kind.Property v.shape)) (sym e) (k ∙ ap kind.Property h.0), h.1),
    λ h. (same_shape (sym k ∙ nested_kind p v.shape c e h.0), h.1),
  )
    where
      same_shape : kind.Property u ≡ kind.Property v.shape → u ≡ v.shape
      same_shape d = cc

  pub nested_none : (p : ℕ) → constraint_at (shapes_of i) p ≡ None → (values : List ℕ) (v : Validation) → IsNested (shapes_of i) p v.shape × Contains values v.node → ⊥
  nested_none p e values v h = subst (λ o. OfConstraint o (λ c. c.kind ≡ kind.Property v.shape)) e h.0

  pub nested_other : (p : ℕ) (c : Constraint) → constraint_at (shapes_of i) p ≡ Some c → ((u : ℕ) → c.kind ≡ kind.Property u → ⊥) → (values : List ℕ) (v : Validation) → IsNested (shapes_of i) p v.shape × Contains values v.node → ⊥
  nested_other p c e never values v h = never v.shape (nested_kind p v.shape c e h.0)

  -- value nodes of a shape are those of each of its constraints
  pub values_at : IsRanked (shapes_of i) → (n x p : ℕ) (ps values : List ℕ) → constraints_of (shapes_of i) n ≡ Some ps → Contains ps p → AreValueNodes i n x values → (c : Constraint) → constraint_at (shapes_of i) p ≡ Some c → AreValueNodes i c.shape x values
  values_at ranked n x p ps values e m a c d =
      let o = ranked.own n p ps e m in
      subst (λ k. AreValueNodes i k x values) (sym o.2 ∙ ap (λ (k : Constraint). k.shape) (same_some (sym o.1 ∙ d))) a

  -- said of the input's own graphs
  pub focus_numbered : (s g : Graph) → i.shapes.now ≡ s → i.graph.graph ≡ g → ((n : ℕ) (x : Term) → IsFocus s n g x → IsTrue (has_term i.graph.nodes x)) → HasFocusNodes i
  focus_numbered s g e d h n x f = h n x (subst (λ t. IsFocus t n g x) e (subst (λ t. IsFocus (shapes_of i) n t x) d f))

  -- the focus nodes of the shapes before one
  pub record AreFocusedBefore (n : ℕ) (vs : List Validation) : Type 0 where
    pub within : AreValidations i vs
    pub exact : (p : ℕ × Term) → Contains (pairs_of i vs) p ↔ ((p.0 < n) × IsFocused (shapes_of i) (data_of i) p)

  pub focus_start : AreFocusedBefore 0 []
  focus_start = record { within = λ v c. absurd (in_none v c); exact = λ p. (λ c. absurd (in_none p c), λ h. let l = h.0 in absurd (omega (arith, l))) }

  pub focus_more : (n : ℕ) (old new : List Validation) (nodes : List ℕ) → HasFocusNodes i → n < shape_count → AreNumbers i.graph.nodes nodes
      → IsListOf (λ x. IsTrue (has_term i.graph.nodes x) × IsFocus (shapes_of i) n (data_of i) x) (terms_at i.graph.nodes nodes)
      → AreFocusedBefore n old → Adds old new (λ v. (n ≡ v.shape) × Contains nodes v.node) → AreFocusedBefore (n + 1) new
  focus_more n old new nodes numbered l numbers list before a = record { within = λ v c. within v ((a.exact v).0 c); exact = λ p. (λ c. to p ((grown p).0 c), λ h. (grown p).1 (back p (cases_lt p.0 n) h)) }
    where
      T : ℕ × Term → Type 0
      T p = (n ≡ p.0) × IsFocus (shapes_of i) p.0 (data_of i) p.1

      grown : (p : ℕ × Term) → Contains (pairs_of i new) p ↔ (Contains (pairs_of i old) p ⊎ ((n ≡ p.0) × IsFocus (shapes_of i) p.0 (data_of i) p.1))
      grown = pairs_grow old new (λ v. (n ≡ v.shape) × Contains nodes v.node) (λ p. (n ≡ p.0) × IsFocus (shapes_of i) p.0 (data_of i) p.1) a sound whole
        where
          sound : (v : Validation) → (n ≡ v.shape) × Contains nodes v.node → (n ≡ v.shape) × IsFocus (shapes_of i) v.shape (data_of i) (term_of i v.node)
          sound v h = (h.0, subst (λ m. IsFocus (shapes_of i) m (data_of i) (term_of i v.node)) h.0 ((list (term_of i v.node)).0 (in_map (term_of i) nodes v.node h.1)).1)

          whole : (p : ℕ × Term) → (n ≡ p.0) × IsFocus (shapes_of i) p.0 (data_of i) p.1 → (v : Validation) × ((n ≡ v.shape) × Contains nodes v.node) × (pair_of i v ≡ p)
          whole p h =
              let m = map_in (term_of i) nodes p.1 ((list p.1).1 (numbered p.0 p.1 h.1, subst (λ m. IsFocus (shapes_of i) m (data_of i) p.1) (sym h.0) h.1)) in
              (record { shape = n; node = m.0 }, (refl, m.1), λ j. (h.0 j, m.2 j))

      within : (v : Validation) → Contains old v ⊎ ((n ≡ v.shape) × Contains nodes v.node) → (v.shape < shape_count) × (v.node < node_count)
      within v (inl c) = before.within v c
      within v (inr h) = (subst (λ m. m < shape_count) h.0 l, numbers v.node h.1)

      to : (p : ℕ × Term) → Contains (pairs_of i old) p ⊎ ((n ≡ p.0) × IsFocus (shapes_of i) p.0 (data_of i) p.1) → (p.0 < n + 1) × IsFocused (shapes_of i) (data_of i) p
      to p (inl c) = let h = (before.exact p).0 c in (let k = h.0 in omega (arith, k), h.1)
      to p (inr h) = (let e = h.0 in omega (arith, e), h.1)

      back : (p : ℕ × Term) → (p.0 < n) ⊎ (n ≤ p.0) → (p.0 < n + 1) × IsFocused (shapes_of i) (data_of i) p → Contains (pairs_of i old) p ⊎ ((n ≡ p.0) × IsFocus (shapes_of i) p.0 (data_of i) p.1)
      back p (inl k) h = inl ((before.exact p).1 (k, h.1))
      back p (inr k) h = let m = h.0 in inr (omega (arith, k, m), h.1)

  focus_shape : (n : ℕ) (x : Term) → IsFocus (shapes_of i) n (data_of i) x → n < shape_count
  unfolding IsFocus
  focus_shape n x h = slice_get_within (shape_terms (shapes_of i)) n h.0 h.1

  pub focus_end : (n : ℕ) (vs : List Validation) → shape_count ≤ n → AreFocusedBefore n vs → AreOfFocusNodes i vs
  focus_end n vs l a = record { within = a.within; exact = λ p. (λ c. ((a.exact p).0 c).1, λ h. (a.exact p).1 (let m = focus_shape p.0 p.1 h in omega (arith, l, m), h)) }

  -- the validations to which one leads
  pub follow_all : (from : Validation) (old new : List Validation) (ps values : List ℕ) → constraints_of (shapes_of i) from.shape ≡ Some ps → is_deactivated (shapes_of i) from.shape ≡ false
      → AreValueNodes i from.shape from.node values → Adds old new (λ v. OfSome ps (λ q. IsNested (shapes_of i) q v.shape × Contains values v.node)) → Follows i from old new
  follow_all from old new ps values e on nodes a = record { kept = a.kept; within = λ all v c. within all v ((a.exact v).0 c); exact = pairs_grow old new P (Leads (shapes_of i) (data_of i) (pair_of i from)) a sound whole }
    where
      P : Validation → Type 0
      P v = OfSome ps (λ q. IsNested (shapes_of i) q v.shape × Contains values v.node)

      shape_within : (q u : ℕ) → IsNested (shapes_of i) q u → u < shape_count
      shape_within q u h =
          let c = of_constraint (constraint_at (shapes_of i) q) (λ c. c.kind ≡ kind.Property u) h in
          constraint_within (shapes_of i) q c.0 c.1 u (in_rest c.0.shape (shapes_of_kind c.0.kind) u (subst (λ k. Contains (shapes_of_kind k) u) (sym c.2) (in_first u [])))

      within : AreValidations i old → (v : Validation) → Contains old v ⊎ OfSome ps (λ q. IsNested (shapes_of i) q v.shape × Contains values v.node) → (v.shape < shape_count) × (v.node < node_count)
      within all v (inl c) = all v c
      within all v (inr h) = (shape_within h.0 v.shape h.2.0, nodes.within v.node h.2.1)

      sound : (v : Validation) → OfSome ps (λ q. IsNested (shapes_of i) q v.shape × Contains values v.node) → Leads (shapes_of i) (data_of i) (pair_of i from) (pair_of i v)
      sound v h = record { active = on; place = h.0; own = (ps, e, h.1); nested = h.2.0; value = (nodes.exact (term_of i v.node)).0 (in_map (term_of i) values v.node h.2.1) }

      whole : (p : ℕ × Term) → Leads (shapes_of i) (data_of i) (pair_of i from) p → (v : Validation) × OfSome ps (λ q. IsNested (shapes_of i) q v.shape × Contains values v.node) × (pair_of i v ≡ p)
      whole p l =
          let m = map_in (term_of i) values p.1 ((nodes.exact p.1).1 l.value) in
          let same : l.own.0 ≡ ps = same_some (sym l.own.1 ∙ e) in
          (record { shape = p.0; node = m.0 }, (l.place, subst (λ us. Contains us l.place) same l.own.2, (l.nested, m.1)), λ j. (p.0, m.2 j))

  pub follow_none : (from : Validation) (vs : List Validation) → is_deactivated (shapes_of i) from.shape ≡ true → Follows i from vs vs
  follow_none from vs off = record { kept = λ k l. refl; within = λ all. all; exact = grows_none (Contains (pairs_of i vs)) (Leads (shapes_of i) (data_of i) (pair_of i from)) (λ p l. false≢true (sym l.active ∙ off)) }

  -- the rows of a shape
  own_none : (n : ℕ) (x : Term) (r : results.ResultRow) (o : Option (List ℕ)) → is_deactivated (shapes_of i) n ≡ true → IsRowOf (shapes_of i) (data_of i) IsNoRow n x r o → ⊥
  own_none n x r None off h = h
  own_none n x r (Some ps) off h = false≢true (sym h.0 ∙ off)

  pub own_rows_none : (n : ℕ) (x : Term) (rows : List ResultRow) → is_deactivated (shapes_of i) n ≡ true → Gains rows (IsOwnRow i n x) rows
  own_rows_none n x rows off = gains_none rows (IsOwnRow i n x) (λ r h. own_none n x r (constraints_of (shapes_of i) n) off h)

  same_frame : (n q : ℕ) (x : Term) (c : Constraint) → constraint_at (shapes_of i) q ≡ Some c → c.shape ≡ n → frame_for (shapes_of i) c x ≡ frame_of (shapes_of i) n q x
  same_frame n q x c e d = λ j. record {
    focus = x;
    shape = unwrap_or (shape_at (shapes_of i) (d j)) (Iri []);
    component = unwrap_or (option_map text_of (option_and_then (λ (c : Constraint). component_of c.kind) (sym e j))) [];
    path = option_and_then (λ t. value_of (shapes_of i) t sh.path) (shape_at (shapes_of i) (d j));
    severity = severity_of (shapes_of i) (d j);
  }

  abbrev RowBy : Term → results.Frame → Constraint → results.ResultRow → Type 0
  RowBy x f c r = IsRowBy (data_of i) (λ u y. ConformsTo (shapes_of i) (data_of i) u y) IsNoRow (IsValue (shapes_of i) c.shape (data_of i) x) x f (form_of c.kind) r

  pub own_rows : IsRanked (shapes_of i) → (n : ℕ) (x : Term) (old new : List ResultRow) (ps : List ℕ) → constraints_of (shapes_of i) n ≡ Some ps → is_deactivated (shapes_of i) n ≡ false
      → Gains old (λ r. OfSome ps (λ q. IsRowAt i q x r)) new → Gains old (IsOwnRow i n x) new
  own_rows ranked n x old new ps e on a = grows_same (Contains (map result_of old)) (Contains (map result_of new)) (λ r. OfSome ps (λ q. IsRowAt i q x r)) (IsOwnRow i n x) (λ r. (to r, λ h. from r (subst (λ o. IsRowOf (shapes_of i) (data_of i) IsNoRow n x r o) e h))) a
    where
      to : (r : results.ResultRow) → OfSome ps (λ q. IsRowAt i q x r) → IsOwnRow i n x r
      to r h =
          let c = ranked.own n h.0 ps e h.1 in
          let row : RowBy x (frame_for (shapes_of i) c.0 x) c.0 r = subst (λ o. OfConstraint o (λ c. RowBy x (frame_for (shapes_of i) c x) c r)) c.1 h.2 in
          subst (λ o. IsRowOf (shapes_of i) (data_of i) IsNoRow n x r o) (sym e) (on, (h.0, h.1, subst (λ o. OfConstraint o (λ c. RowBy x (frame_of (shapes_of i) n h.0 x) c r)) (sym c.1) (subst (λ f. RowBy x f c.0 r) (same_frame n h.0 x c.0 c.1 c.2) row)))

      from : (r : results.ResultRow) → IsRowOf (shapes_of i) (data_of i) IsNoRow n x r (Some ps) → OfSome ps (λ q. IsRowAt i q x r)
      from r h =
          let c = ranked.own n h.1.0 ps e h.1.1 in
          let row : RowBy x (frame_of (shapes_of i) n h.1.0 x) c.0 r = subst (λ o. OfConstraint o (λ c. RowBy x (frame_of (shapes_of i) n h.1.0 x) c r)) c.1 h.1.2 in
          (h.1.0, h.1.1, subst (λ o. OfConstraint o (λ c. RowBy x (frame_for (shapes_of i) c x) c r)) (sym c.1) (subst (λ f. RowBy x f c.0 r) (sym (same_frame n h.1.0 x c.0 c.1 c.2)) row))

  -- r is an own row of one of the first validations
  abbrev pub IsFoundRow : List Validation → ℕ → results.ResultRow → Type 0
  IsFoundRow vs next r = (k : ℕ) × (p : ℕ × Term) × (k < next) × (slice_get (pairs_of i vs) k ≡ Some p) × IsOwn (shapes_of i) (data_of i) p r

  -- how far the worklist has come
  pub record IsValidated (vs : List Validation) (rows : List ResultRow) (next : ℕ) : Type 0 where
    pub within : AreValidations i vs
    pub searched : IsSearch (Leads (shapes_of i) (data_of i)) (IsFocused (shapes_of i) (data_of i)) (pairs_of i vs) next
    pub rows_found : Gains [] (IsFoundRow vs next) rows

  pub validated_start : (vs : List Validation) → AreOfFocusNodes i vs → IsValidated vs [] 0
  validated_start vs a = record {
    within = a.within;
    searched = search_start (Leads (shapes_of i) (data_of i)) (IsFocused (shapes_of i) (data_of i)) (pairs_of i vs) a.exact;
    rows_found = gains_none [] (IsFoundRow vs 0) (λ r h. let l = h.2 in omega (arith, l));
  }

  pub validated_next : (here : Validation) (old new : List Validation) (rows more : List ResultRow) (next : ℕ) → IsValidated old rows next → slice_get old next ≡ Some here → Follows i here old new
      → Gains rows (IsOwnRow i here.shape (term_of i here.node)) more → IsValidated new more (next + 1)
  validated_next here old new rows more next v at f g = record {
    within = f.within v.within;
    searched = search_next (Leads (shapes_of i) (data_of i)) (IsFocused (shapes_of i) (data_of i)) (pairs_of i old) (pairs_of i new) next (pair_of i here) v.searched at_pair kept f.exact;
    rows_found = grows_same (Contains (map result_of [])) (Contains (map result_of more)) (λ r. IsFoundRow old next r ⊎ IsOwn (shapes_of i) (data_of i) (pair_of i here) r) (IsFoundRow new (next + 1)) (λ r. (to r, λ h. from r h (cases_lt h.0 next)))
        (grows_then (Contains (map result_of [])) (Contains (map result_of rows)) (Contains (map result_of more)) (IsFoundRow old next) (IsOwn (shapes_of i) (data_of i) (pair_of i here)) v.rows_found g);
  }
    where
      at_pair : slice_get (pairs_of i old) next ≡ Some (pair_of i here)
      at_pair = slice_get-map (pair_of i) old next ∙ ap (option_map (pair_of i)) at

      kept : (k : ℕ) → k < length (pairs_of i old) → slice_get (pairs_of i new) k ≡ slice_get (pairs_of i old) k
      kept = pairs_kept old new f.kept

      there : next < length (pairs_of i old)
      there = slice_get_within (pairs_of i old) next (pair_of i here) at_pair

      to : (r : results.ResultRow) → IsFoundRow old next r ⊎ IsOwn (shapes_of i) (data_of i) (pair_of i here) r → IsFoundRow new (next + 1) r
      to r (inl h) = let l = h.2 in (h.0, h.1, omega (arith, l), kept h.0 (omega (arith, l, there)) ∙ h.3, h.4)
      to r (inr h) = (next, pair_of i here, omega arith, kept next there ∙ at_pair, h)

      from : (r : results.ResultRow) → (h : IsFoundRow new (next + 1) r) → (h.0 < next) ⊎ (next ≤ h.0) → IsFoundRow old next r ⊎ IsOwn (shapes_of i) (data_of i) (pair_of i here) r
      from r h (inl l) = inl (h.0, h.1, l, sym (kept h.0 (omega (arith, l, there))) ∙ h.3, h.4)
      from r h (inr l) =
          let m = h.2 in
          let same : h.0 ≡ next = omega (arith, l, m) in
          let is : pair_of i here ≡ h.1 = same_some (sym at_pair ∙ (sym (kept next there) ∙ (ap (slice_get (pairs_of i new)) (sym same) ∙ h.3))) in
          inr (subst (λ (p : ℕ × Term). IsOwn (shapes_of i) (data_of i) p r) (sym is) h.4)

  pub validated_end : IsRanked (shapes_of i) → (vs : List Validation) (rows : List ResultRow) (next : ℕ) → IsValidated vs rows next → length vs ≤ next → AreRowsOf (IsResult (shapes_of i) (data_of i)) rows
  validated_end ranked vs rows next v l r = (λ c. (result_walks (shapes_of i) (data_of i) ranked r).1 (to ((v.rows_found r).0 c)), λ h. (v.rows_found r).1 (inr (from ((result_walks (shapes_of i) (data_of i) ranked r).0 h))))
    where
      short : length (pairs_of i vs) ≤ next
      short = let m = length-map vs (pair_of i) in omega (arith, l, m)

      found : (p : ℕ × Term) → Contains (pairs_of i vs) p ↔ IsFound (Leads (shapes_of i) (data_of i)) (IsFocused (shapes_of i) (data_of i)) p
      found p = search_end (Leads (shapes_of i) (data_of i)) (IsFocused (shapes_of i) (data_of i)) (pairs_of i vs) next v.searched short p

      to : Contains (map result_of []) r ⊎ IsFoundRow vs next r → (q : ℕ × Term) × IsFound (Leads (shapes_of i) (data_of i)) (IsFocused (shapes_of i) (data_of i)) q × IsOwn (shapes_of i) (data_of i) q r
      to (inl c) = absurd (in_none r c)
      to (inr h) = (h.1, (found h.1).0 (in_at (pairs_of i vs) h.0 h.1 h.3), h.4)

      from : (q : ℕ × Term) × IsFound (Leads (shapes_of i) (data_of i)) (IsFocused (shapes_of i) (data_of i)) q × IsOwn (shapes_of i) (data_of i) q r → IsFoundRow vs next r
      from h =
          let p = place_of (pairs_of i vs) h.0 ((found h.0).1 h.1) in
          let k = p.1 in
          (p.0, h.0, omega (arith, k, short), p.2, h.2)
