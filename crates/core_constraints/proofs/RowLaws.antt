-- Rows that are appended, and which rows the forms of constraints have.
use Rattle.std.proofs.Common.{◌≡◌, ◌⊎◌, inl, inr, ℕ, suc, ◌+◌, ◌≤◌, ◌↔◌, Bool, true, false, List, [], ◌∷◌, ◌++◌, length, map, take, Contains, Some, None, slice_get, refl, sym, ap, ◌∙◌, subst, arith}
use Rattle.std.specs.Prelude.{IsTrue, IsFalse, Result, OnOk}
use mathlib.Core.Bool.{beq}
use Rattle.rdf_terms.specs.Statement.{Statement}
use Rattle.rdf_terms.specs.Graph.{Graph, has}
use Rattle.rdf_terms.specs.Nodes.{Nodes}
use Rattle.rdf_terms.specs.Members.{InGraph}
use Rattle.rdf_terms.specs.declared.term.Term.{Term}
use Rattle.rdf_terms.specs.declared.term.Term.TheVariants.{Iri}
use Rattle.rdf_terms.proofs.Members.{in_map, map_in}
use Rattle.rdf_navigation.specs.Numbers.{term_at}
use Rattle.rdf_navigation.specs.Values.{among}
use Rattle.shapes_graph.specs.Forms.{Test, NotObject, Form, Every, Nested, Closing, Least, Most, Having, Same, Unique}
use Rattle.shapes_graph.specs.Conformance.{IsGood, HoldsBy, IsOpen, AreTwins}
use Rattle.shapes_graph.specs.Results as results
use Rattle.shapes_graph.specs.Results.{Frame, IsAlone, IsRowBy, row, row_of_triple}
use Rattle.path_eval.specs.Numbered.{terms_at}
use Rattle.path_eval.proofs.LinkLaws.{in_push}
use Rattle.path_eval.proofs.GrowthLaws.{on_ok}
use Rattle.core_constraints.specs.declared.result_rows.ResultRow.{ResultRow}
use Rattle.core_constraints.specs.Decisions.{Says}
use Rattle.core_constraints.specs.NumberLists.{AreNumbersOf}
use Rattle.core_constraints.specs.Rows.{result_of}
use Rattle.core_constraints.specs.RowLists.{Gains}
use Rattle.core_constraints.specs.FrameRows.{has_one_row}
use Rattle.core_constraints.specs.Tests.{asks_nodes}
use Rattle.core_constraints.proofs.Decided.{same, take_whole, in_take_more, in_take_next, in_take_this, in_take_none}
use Rattle.core_constraints.proofs.Tested.{good_alone}
use Rattle.core_constraints.proofs.ValueLaws.{number_in, in_or_not}

pub gains_then : (a b c : List ResultRow) (P Q : results.ResultRow → Type 0) → Gains a P b → Gains b Q c → Gains a (λ r. P r ⊎ Q r) c
gains_then a b c P Q f g r = (λ h. to ((g r).0 h), λ h. (g r).1 (back h))
  where
    left : Contains (map result_of a) r ⊎ P r → Contains (map result_of a) r ⊎ (P r ⊎ Q r)
    left (inl h) = inl h
    left (inr h) = inr (inl h)

    to : Contains (map result_of b) r ⊎ Q r → Contains (map result_of a) r ⊎ (P r ⊎ Q r)
    to (inl h) = left ((f r).0 h)
    to (inr h) = inr (inr h)

    back : Contains (map result_of a) r ⊎ (P r ⊎ Q r) → Contains (map result_of b) r ⊎ Q r
    back (inl h) = inl ((f r).1 (inl h))
    back (inr (inl h)) = inl ((f r).1 (inr h))
    back (inr (inr h)) = inr h

pub gains_iff : (a b : List ResultRow) (P Q : results.ResultRow → Type 0) → ((r : results.ResultRow) → P r ↔ Q r) → Gains a P b → Gains a Q b
gains_iff a b P Q e f r = (λ h. to ((f r).0 h), λ h. (f r).1 (back h))
  where
    to : Contains (map result_of a) r ⊎ P r → Contains (map result_of a) r ⊎ Q r
    to (inl h) = inl h
    to (inr h) = inr ((e r).0 h)

    back : Contains (map result_of a) r ⊎ Q r → Contains (map result_of a) r ⊎ P r
    back (inl h) = inl h
    back (inr h) = inr ((e r).1 h)

pub gains_none : (a : List ResultRow) (P : results.ResultRow → Type 0) → ((r : results.ResultRow) → ¬ (P r)) → Gains a P a
gains_none a P none r = (λ h. inl h, back)
  where
    back : Contains (map result_of a) r ⊎ P r → Contains (map result_of a) r
    back (inl h) = h
    back (inr h) = absurd (none r h)

-- one row is appended, and it is the only one with P
pub gains_push : (a b : List ResultRow) (q : ResultRow) (P : results.ResultRow → Type 0) → b ≡ a ++ q ∷ [] → P (result_of q) → ((r : results.ResultRow) → P r → result_of q ≡ r) → Gains a P b
gains_push a b q P e p only = subst (Gains a P) (sym e) pushed
  where
    pushed : Gains a P (a ++ q ∷ [])
    pushed r = (λ h. let w = map_in result_of (a ++ q ∷ []) r h in to w.0 w.2 ((in_push a q w.0).0 w.1), back)
      where
        to : (w : ResultRow) → result_of w ≡ r → Contains a w ⊎ (q ≡ w) → Contains (map result_of a) r ⊎ P r
        to w d (inl h) = inl (subst (λ z. Contains (map result_of a) z) d (in_map result_of a w h))
        to w d (inr f) = inr (subst P (ap result_of f ∙ d) p)

        later : Contains (map result_of a) r → Contains (map result_of (a ++ q ∷ [])) r
        later h = let w = map_in result_of a r h in subst (λ z. Contains (map result_of (a ++ q ∷ [])) z) w.2 (in_map result_of (a ++ q ∷ []) w.0 ((in_push a q w.0).1 (inl w.1)))

        back : Contains (map result_of a) r ⊎ P r → Contains (map result_of (a ++ q ∷ [])) r
        back (inl h) = later h
        back (inr h) = subst (λ z. Contains (map result_of (a ++ q ∷ [])) z) (only r h) (in_map result_of (a ++ q ∷ []) q ((in_push a q q).1 (inr refl)))

pub gains_pushed : {E : Type 0} (result : Result (Unit {0}) E) (a b : List ResultRow) (q : ResultRow) (P : results.ResultRow → Type 0) → OnOk result (b ≡ a ++ q ∷ []) → P (result_of q) → ((r : results.ResultRow) → P r → result_of q ≡ r) → OnOk result (Gains a P b)
gains_pushed result a b q P h p only = on_ok result (b ≡ a ++ q ∷ []) (Gains a P b) h (λ e. gains_push a b q P e p only)

pub same_answer : (b a : Bool) (P : Type 0) → Says b P → IsTrue (beq b a) ↔ Says a P
same_answer true true P h = (λ e. h, λ p. refl)
same_answer true false P h = (λ e. cc, λ n. absurd (n h))
same_answer false true P h = (λ e. cc, λ p. absurd (h p))
same_answer false false P h = (λ e. h, λ n. refl)

-- of the triples of a value node
pub open_rows : (g : Graph) (x : Term) (f : Frame) (allowed : List Term) (ts : List Statement) → ((t : Statement) → Contains ts t ↔ (IsTrue (has g t) × (t.subject ≡ x))) → (r : results.ResultRow)
    → ((t : Statement) × Contains ts t × (IsFalse (among allowed t.predicate) × (r ≡ row_of_triple f t))) ↔ ((t : Statement) × IsOpen allowed g (λ y. y ≡ x) t × (r ≡ row_of_triple f t))
open_rows g x f allowed ts is r = (
  λ w. let h = (is w.0).0 w.1 in (w.0, record { there = h.0; subject = h.1; other = w.2.0 }, w.2.1),
  λ w. (w.0, (is w.0).1 (w.1.there, w.1.subject), (w.1.other, w.2)),
)

-- F: the rows of each item. r is a row of one of the first j items
abbrev pub IsRowOfFirst : {X : Type 0} → (X → results.ResultRow → Type 0) → List X → ℕ → results.ResultRow → Type 0
IsRowOfFirst {X} F xs j r = (x : X) × Contains (take j xs) x × F x r

module _ {X : Type 0} (F : X → results.ResultRow → Type 0) (xs : List X) where
  pub gains_start : (a : List ResultRow) → Gains a (IsRowOfFirst F xs 0) a
  gains_start a = gains_none a (IsRowOfFirst F xs 0) (λ r h. in_take_none xs h.0 h.1)

  pub gains_next : (a b c : List ResultRow) (j : ℕ) (x : X) → slice_get xs j ≡ Some x → Gains a (IsRowOfFirst F xs j) b → Gains b (F x) c → Gains a (IsRowOfFirst F xs (j + 1)) c
  gains_next a b c j x e f g =
      let p : suc j ≡ j + 1 = omega arith in
      subst (λ m. Gains a (IsRowOfFirst F xs m) c) p
      (gains_iff a c (λ r. IsRowOfFirst F xs j r ⊎ F x r) (IsRowOfFirst F xs (suc j)) (λ r. (to r, λ h. back r h.0 h.2 (in_take_next xs j x h.0 e h.1)))
      (gains_then a b c (IsRowOfFirst F xs j) (F x) f g))
    where
      to : (r : results.ResultRow) → IsRowOfFirst F xs j r ⊎ F x r → IsRowOfFirst F xs (suc j) r
      to r (inl h) = (h.0, in_take_more xs j h.0 h.1, h.2)
      to r (inr h) = (x, in_take_this xs j x e, h)

      back : (r : results.ResultRow) (y : X) → F y r → (x ≡ y) ⊎ Contains (take j xs) y → IsRowOfFirst F xs j r ⊎ F x r
      back r y h (inl d) = inr (subst (λ z. F z r) (sym d) h)
      back r y h (inr k) = inl (y, k, h)

  pub gains_whole : (a b : List ResultRow) (j : ℕ) → length xs ≤ j → Gains a (IsRowOfFirst F xs j) b → Gains a (λ r. (x : X) × Contains xs x × F x r) b
  gains_whole a b j le h = subst (λ ys. Gains a (λ r. (x : X) × Contains ys x × F x r) b) (take_whole xs j le) h

-- of all value nodes together
pub one_row : (g : Graph) (C : ℕ → Term → Type 0) (N : ℕ → Term → results.ResultRow → Type 0) (V : Term → Type 0) (x : Term) (f : Frame) (form : Form) → IsTrue (has_one_row form) → (r : results.ResultRow)
    → ((¬ (HoldsBy g C V x form)) × (r ≡ row f None None)) ↔ IsRowBy g C N V x f form r
one_row g C N V x f (Every t) h r = cc
one_row g C N V x f (Nested u) h r = cc
one_row g C N V x f (Closing on allowed) h r = cc
one_row g C N V x f (Least n t) h r = same
one_row g C N V x f (Most n t) h r = same
one_row g C N V x f (Having o) h r = same
one_row g C N V x f (Same q) h r = cc
one_row g C N V x f (Unique on) h r = cc

module _ (g : Graph) (C : ℕ → Term → Type 0) (N : ℕ → Term → results.ResultRow → Type 0) (x : Term) (f : Frame) (n : Nodes) (V : Term → Type 0) (vs : List ℕ) (v : AreNumbersOf n V vs) where
  value_of_number : (a : ℕ) → Contains vs a → V (term_at n a)
  value_of_number a h = (v.exact (term_at n a)).0 (in_map (term_at n) vs a h)

  number_of_value : (y : Term) → V y → (a : ℕ) × Contains vs a × (term_at n a ≡ y)
  number_of_value y h = map_in (term_at n) vs y ((v.exact y).1 h)

  -- of value nodes that fail a test
  pub every_rows : (t : Test) → IsTrue (asks_nodes t) → (r : results.ResultRow)
      → ((a : ℕ) × Contains vs a × ((¬ (IsGood g C (term_at n a) t (term_at n a))) × (r ≡ row f (Some (term_at n a)) None))) ↔ IsRowBy g C N V x f (Every t) r
  every_rows t alone r = (
    λ w. (term_at n w.0, value_of_number w.0 w.1, λ p. w.2.0 ((good_alone g C x (term_at n w.0) t alone (term_at n w.0)).0 p), w.2.1),
    λ w. let a = number_of_value w.0 w.1 in (a.0, a.1, (λ p. w.2 ((good_alone g C (term_at n a.0) x t alone w.0).0 (subst (λ y. IsGood g C (term_at n a.0) t y) a.2 p)), w.3 ∙ ap (λ y. row f (Some y) None) (sym a.2))),
  )

  -- of triples that aren't allowed
  pub closing_rows : (allowed : List Term) (r : results.ResultRow)
      → ((a : ℕ) × Contains vs a × ((t : Statement) × IsOpen allowed g (λ y. y ≡ term_at n a) t × (r ≡ row_of_triple f t))) ↔ IsRowBy g C N V x f (Closing true allowed) r
  closing_rows allowed r = (to, back)
    where
      to : (a : ℕ) × Contains vs a × ((t : Statement) × IsOpen allowed g (λ y. y ≡ term_at n a) t × (r ≡ row_of_triple f t)) → IsRowBy g C N V x f (Closing true allowed) r
      to w = (refl, (w.2.0, record { there = w.2.1.there; subject = subst V (sym w.2.1.subject) (value_of_number w.0 w.1); other = w.2.1.other }, w.2.2))

      back : IsRowBy g C N V x f (Closing true allowed) r → (a : ℕ) × Contains vs a × ((t : Statement) × IsOpen allowed g (λ y. y ≡ term_at n a) t × (r ≡ row_of_triple f t))
      back w = let a = number_of_value w.1.0.subject w.1.1.subject in (a.0, a.1, (w.1.0, record { there = w.1.1.there; subject = sym a.2; other = w.1.1.other }, w.1.2))

  -- of tags that come twice
  pub tag_rows : (tags : List (List ℕ)) → ((tag : List ℕ) → Contains tags tag ↔ ((y : Term) × (z : Term) × AreTwins (Contains (terms_at n vs)) y z tag)) → (r : results.ResultRow)
      → ((tag : List ℕ) × Contains tags tag × (r ≡ row f None (Some tag))) ↔ IsRowBy g C N V x f (Unique true) r
  tag_rows tags is r = (to, back)
    where
      to : (tag : List ℕ) × Contains tags tag × (r ≡ row f None (Some tag)) → IsRowBy g C N V x f (Unique true) r
      to w =
          let t = (is w.0).0 w.1 in
          (refl, (t.0, t.1, w.0, record { differ = t.2.differ; first = (v.exact t.0).0 t.2.first; second = (v.exact t.1).0 t.2.second; first_tag = t.2.first_tag; second_tag = t.2.second_tag }, w.2))

      back : IsRowBy g C N V x f (Unique true) r → (tag : List ℕ) × Contains tags tag × (r ≡ row f None (Some tag))
      back w =
          let t = w.1.3 in
          (w.1.2, (is w.1.2).1 (w.1.0, w.1.1, record { differ = t.differ; first = (v.exact w.1.0).1 t.first; second = (v.exact w.1.1).1 t.second; first_tag = t.first_tag; second_tag = t.second_tag }), w.1.4)

  module _ (q : List ℕ) (os : List ℕ) (w : AreNumbersOf n (InGraph g x (Iri q)) os) where
    -- of value nodes that are objects too
    pub common_rows : (r : results.ResultRow) → ((a : ℕ) × Contains vs a × (Contains os a × (r ≡ row f (Some (term_at n a)) None))) ↔ IsRowBy g C N V x f (Every (NotObject q)) r
    common_rows r = (λ k. (term_at n k.0, value_of_number k.0 k.1, λ never. never ((w.exact (term_at n k.0)).0 (in_map (term_at n) os k.0 k.2.0)), k.2.1), back)
      where
        sure : (a : ℕ) → Contains os a ⊎ (¬ (Contains os a)) → ¬ (¬ (Contains os a)) → Contains os a
        sure a (inl h) d = h
        sure a (inr never) d = absurd (d never)

        back : IsRowBy g C N V x f (Every (NotObject q)) r → (a : ℕ) × Contains vs a × (Contains os a × (r ≡ row f (Some (term_at n a)) None))
        back k =
            let a = number_of_value k.0 k.1 in
            (a.0, a.1, (sure a.0 (in_or_not os a.0) (λ never. k.2 (λ h. never (number_in n os a.0 w.within (v.within a.0 a.1) (subst (λ y. Contains (terms_at n os) y) (sym a.2) ((w.exact k.0).1 h))))), k.3 ∙ ap (λ y. row f (Some y) None) (sym a.2)))

    -- of those that are in one of the two lists alone
    pub alone_rows : (r : results.ResultRow)
        → (((a : ℕ) × Contains vs a × ((¬ (Contains os a)) × (r ≡ row f (Some (term_at n a)) None))) ⊎ ((a : ℕ) × Contains os a × ((¬ (Contains vs a)) × (r ≡ row f (Some (term_at n a)) None)))) ↔ IsRowBy g C N V x f (Same q) r
    alone_rows r = (to, λ k. back k.0 k.2 k.1)
      where
        to : ((a : ℕ) × Contains vs a × ((¬ (Contains os a)) × (r ≡ row f (Some (term_at n a)) None))) ⊎ ((a : ℕ) × Contains os a × ((¬ (Contains vs a)) × (r ≡ row f (Some (term_at n a)) None))) → IsRowBy g C N V x f (Same q) r
        to (inl k) = (term_at n k.0, inl (value_of_number k.0 k.1, λ h. k.2.0 (number_in n os k.0 w.within (v.within k.0 k.1) ((w.exact (term_at n k.0)).1 h))), k.2.1)
        to (inr k) =
            (term_at n k.0, inr ((w.exact (term_at n k.0)).0 (in_map (term_at n) os k.0 k.1), λ h. k.2.0 (number_in n vs k.0 v.within (w.within k.0 k.1) ((v.exact (term_at n k.0)).1 h))), k.2.1)

        back : (y : Term) → r ≡ row f (Some y) None → IsAlone V (InGraph g x (Iri q)) y
            → ((a : ℕ) × Contains vs a × ((¬ (Contains os a)) × (r ≡ row f (Some (term_at n a)) None))) ⊎ ((a : ℕ) × Contains os a × ((¬ (Contains vs a)) × (r ≡ row f (Some (term_at n a)) None)))
        back y e (inl k) =
            let a = number_of_value y k.0 in
            inl (a.0, a.1, (λ h. k.1 (subst (InGraph g x (Iri q)) a.2 ((w.exact (term_at n a.0)).0 (in_map (term_at n) os a.0 h))), e ∙ ap (λ y. row f (Some y) None) (sym a.2)))
        back y e (inr k) =
            let a = map_in (term_at n) os y ((w.exact y).1 k.0) in
            inr (a.0, a.1, (λ h. k.1 (subst V a.2 (value_of_number a.0 h)), e ∙ ap (λ y. row f (Some y) None) (sym a.2)))
