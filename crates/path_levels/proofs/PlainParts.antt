-- The parts of an atom of a path mean what the atom means, in each edited graph; here with nodes by their numbers, whatever the numbers.
use Rattle.std.proofs.Common.{◌≡◌, ℕ, zero, suc, ◌+◌, ◌-◌, ◌<◌, ◌≤◌, ◌⊎◌, ◌↔◌, inl, inr, Bool, true, false, cond, ◌&&◌, ◌||◌, IsTrue, List, [], ◌∷◌, ◌++◌, map, length, Contains, Option, Some, None, slice_get, nat_eq, nat_lt, refl, sym, ap, ◌∙◌, subst, arith}
use Rattle.std.proofs.lemmas.Bool.{false≢true, eqb-true, eq-eqb, ltb-true, lt-ltb}
use Rattle.std.proofs.lemmas.List.{length-map}
use Rattle.rdf_terms.specs.declared.term.Term.{Term}
use Rattle.rdf_terms.specs.declared.term.Term.TheVariants.{Iri}
use Rattle.rdf_terms.specs.Statement.{Statement}
use Rattle.rdf_terms.specs.Graph.{Graph, has}
use Rattle.rdf_terms.proofs.Orders.{term_tied, same_term as equal_terms}
use Rattle.rdf_terms.proofs.Members.{in_map, map_in}
use Rattle.rdf_navigation.specs.Values.{same_term}
use Rattle.digraph.specs.Walk.{IsWalk}
use Rattle.digraph.proofs.WalkLaws.{walk_more}
use Rattle.digraph.proofs.ShortWalks.{walk_visits, short_walk}
use Rattle.shapes_profile.specs.Logic.{EachOf, SomeOf}
use Rattle.shapes_graph.specs.declared.paths.PathForm.{PathForm}
use Rattle.shapes_graph.specs.declared.paths.PathForm.TheVariants.{Predicate, Inverse, Sequence, Alternative, ZeroOrMore, OneOrMore, ZeroOrOne}
use Rattle.shapes_graph.specs.PathForms.{paths}
use Rattle.shapes_graph.specs.Reach.{ReachBy, ReachIn, Reaches, path_levels}
use Rattle.repair_problem.specs.Repair.{Within}
use Rattle.repair_problem.specs.declared.atom.Atom.{Atom}
use Rattle.repair_problem.specs.declared.atom.Atom.TheVariants as atom
use Rattle.repair_problem.specs.declared.atom.Part.{Part}
use Rattle.repair_problem.specs.declared.atom.Part.TheVariants.{Fixed, Lit}
use Rattle.repair_problem.specs.Setting.{Setting, node, nodes, full}
use Rattle.repair_problem.specs.Candidates.{candidates, place_among, candidate_number}
use Rattle.repair_problem.specs.Levels.{LevelBy, MiddleBy}
use Rattle.repair_problem.specs.Meaning.{Leads}
use Rattle.repair_problem.specs.PartMeaning.{PartMeans}
use Rattle.repair_problem.proofs.CandidateLaws.{place_found, place_none, full_listed}
use Rattle.path_levels.specs.PossibleNodes.{node_count, possible}
use Rattle.path_levels.specs.PathParts.{form_at, is_possible, has_level, has_middle, is_path_atom, path_part, triple_part, triple_part_at, level_part, reach_list, next_list, level_list, middle_list}
use Rattle.path_levels.proofs.Choices.{both_left, both_right, both, some_in, some_out, some_map, some_weaker}
use Rattle.path_levels.proofs.LevelSteps.{iff_trans, star_step, plus_step, one_step}
use Rattle.path_levels.proofs.NodeLaws.{IsNode, one_number, ends_are_nodes}
use Rattle.path_levels.proofs.OpenedPaths.{NestsIn, opened}
use Rattle.path_levels.proofs.PathGrowth.{more, keeps}
use Rattle.path_levels.proofs.Possibility.{is_possible_has, has_is_possible, possible_has, has_possible}

-- what an atom of a path or of a triple means, where each number stands for a term
abbrev pub Plain : Setting → Graph → Atom → Type 0
Plain s g (atom.Triple t) = (c : Statement) × (slice_get (candidates s) t ≡ Some c) × IsTrue (has g c)
Plain s g (atom.Reach p x y) = Leads s g p (node s x) (node s y)
Plain s g (atom.Level p k x y) = LevelBy (λ q a b. Leads s g q a b) (form_at s p) k (node s x) (node s y)
Plain s g (atom.Middle p k x z y) = MiddleBy (λ q a b. Leads s g q a b) (form_at s p) k (node s x) (node s z) (node s y)
Plain s g _ = ⊥

-- the parts of an atom
abbrev pub list_of : Setting → Atom → List Part
list_of s (atom.Reach p x y) = reach_list s (form_at s p) p x y
list_of s (atom.Level p k x y) = level_list s (form_at s p) p k x y
list_of s (atom.Middle p k x z y) = middle_list s (form_at s p) p k x z y
list_of s _ = []

opened_path : (s : Setting) (h : Graph) (p : ℕ) → NestsIn path_levels (paths s.shapes) p → (a b : Term) → Leads s h p a b ≡ ReachBy (λ q u v. Leads s h q u v) (form_at s p) h a b
unfolding Reaches
opened_path s h p f a b = opened path_levels (paths s.shapes) h p f a b

more_path : (s : Setting) (g : Graph) → Within g (full s) → (p : ℕ) (a b : Term) → Leads s g p a b → Leads s (full s) p a b
unfolding Reaches
more_path s g within p a b r = more path_levels (paths s.shapes) g (full s) within p a b r

kept_path : (s : Setting) (p : ℕ) (a b : Term) → Leads s (full s) p a b → IsNode s a → IsNode s b
unfolding Reaches
kept_path s p a b r n = (keeps (IsNode s) (full s) (ends_are_nodes s) path_levels (paths s.shapes) p a b r).0 n

module _ (s : Setting) (fits : (p : ℕ) → NestsIn path_levels (paths s.shapes) p) (g : Graph) (within : Within g (full s)) where
  abbrev N : ℕ
  N = node_count s

  abbrev R : ℕ → Term → Term → Type 0
  R = λ q a b. Leads s g q a b

  abbrev F : ℕ → Term → Term → Type 0
  F = λ q a b. Leads s (full s) q a b

  abbrev M : Atom → Type 0
  M = λ a. Plain s g a

  open_form : (p : ℕ) (f : Option PathForm) → form_at s p ≡ f → (h : Graph) (a b : Term) → Leads s h p a b ≡ ReachBy (λ q u v. Leads s h q u v) f h a b
  open_form p f e h a b = opened_path s h p (fits p) a b ∙ ap (λ k. ReachBy (λ q u v. Leads s h q u v) k h a b) e

  widen : (p : ℕ) (a b : Term) → Leads s g p a b → Leads s (full s) p a b
  widen p a b r = more_path s g within p a b r

  can_reach : (p x y : ℕ) → x < N → y < N → Leads s (full s) p (node s x) (node s y) → is_possible s p x y ≡ true
  can_reach p x y l m r = is_possible_has s p x y l m r

  start_of : (p x y : ℕ) → is_possible s p x y ≡ true → x < N
  start_of p x y c = (has_is_possible s p x y c).0

  end_of : (p x y : ℕ) → is_possible s p x y ≡ true → y < N
  end_of p x y c = (has_is_possible s p x y c).1

  -- what a path reaches from a node is a node
  numbered : (p x : ℕ) (b : Term) → x < N → Leads s (full s) p (node s x) b → (y : ℕ) × (y < N) × (node s y ≡ b) × (is_possible s p x y ≡ true)
  numbered p x b l r =
      let n = kept_path s p (node s x) b r (x, l, refl) in
      (n.0, n.1, n.2, can_reach p x n.0 l n.1 (subst (Leads s (full s) p (node s x)) (sym n.2) r))

  part_iff : (a : Atom) → (M a → is_path_atom s a ≡ true) → M a ↔ PartMeans M (path_part s a)
  part_iff a h = (λ m. subst (λ b. PartMeans M (cond b (Lit (record { atom = a; positive = true })) (Fixed false))) (sym (h m)) m, λ k. at (is_path_atom s a) k)
    where
      at : (b : Bool) → PartMeans M (cond b (Lit (record { atom = a; positive = true })) (Fixed false)) → M a
      at true k = k
      at false k = absurd (false≢true k)

  fixed_iff : (x y : ℕ) → x < N → y < N → (node s x ≡ node s y) ↔ PartMeans M (Fixed (nat_eq x y))
  fixed_iff x y l m = (λ e. eq-eqb x y (one_number s x y l m e), λ k. ap (node s) (eqb-true x y k))

  reach_iff : (p x y : ℕ) → x < N → y < N → Leads s g p (node s x) (node s y) ↔ PartMeans M (path_part s (atom.Reach p x y))
  reach_iff p x y l m = part_iff (atom.Reach p x y) (λ r. can_reach p x y l m (widen p (node s x) (node s y) r))

  triple_iff : (t : Statement) → (has g t ≡ true) ↔ PartMeans M (triple_part s t)
  triple_iff t = (λ h. to h (candidate_number s t) refl, λ k. from (candidate_number s t) refl k)
    where
      to : has g t ≡ true → (m : Option ℕ) → candidate_number s t ≡ m → PartMeans M (triple_part_at s m)
      to h None e = absurd (false≢true (sym (place_none (candidates s) t e) ∙ full_listed s t (within t h)))
      to h (Some i) e = (t, place_found (candidates s) t i e, h)

      from : (m : Option ℕ) → candidate_number s t ≡ m → PartMeans M (triple_part_at s m) → has g t ≡ true
      from None e k = absurd (false≢true k)
      from (Some i) e k =
          let f : Some k.0 ≡ Some t = sym k.1 ∙ place_found (candidates s) t i e in
          let c : k.0 ≡ t = cc in
          subst (λ u. has g u ≡ true) c k.2

  single : {A B : Type 0} → A ↔ B → A ↔ (B ⊎ ⊥)
  single f = (λ a. inl (f.0 a), back f.1)
    where
      back : {A B : Type 0} → (B → A) → B ⊎ ⊥ → A
      back f (inl b) = f b
      back f (inr b) = absurd b

  of_equal : {A B C : Type 0} → A ≡ B → A ↔ C → B ↔ C
  of_equal {C = C} e f = subst (λ (T : Type 0). T ↔ C) e f

  some_at : (zs : List ℕ) (z : ℕ) → Contains zs z → 0 < length zs
  some_at zs z c = let l = c.1 in omega arith

  some_possible : (p x y : ℕ) → is_possible s p x y ≡ true → 0 < length (possible s p x)
  some_possible p x y c = let h = has_is_possible s p x y c in some_at (possible s p x) y (possible_has s p x y h.0 h.1 h.2)

  open_star : (p q : ℕ) → form_at s p ≡ Some (ZeroOrMore q) → (h : Graph) (a b : Term) → Leads s h p a b → (w : List Term) × IsWalk (λ u v. Leads s h q u v) w a b
  open_star p q e h a b r = subst (λ T. T) (open_form p (Some (ZeroOrMore q)) e h a b) r

  close_star : (p q : ℕ) → form_at s p ≡ Some (ZeroOrMore q) → (h : Graph) (a b : Term) → (w : List Term) × IsWalk (λ u v. Leads s h q u v) w a b → Leads s h p a b
  close_star p q e h a b r = subst (λ T. T) (sym (open_form p (Some (ZeroOrMore q)) e h a b)) r

  open_plus : (p q : ℕ) → form_at s p ≡ Some (OneOrMore q) → (h : Graph) (a b : Term) → Leads s h p a b → (w : List Term) × (0 < length w) × IsWalk (λ u v. Leads s h q u v) w a b
  open_plus p q e h a b r = subst (λ T. T) (open_form p (Some (OneOrMore q)) e h a b) r

  close_plus : (p q : ℕ) → form_at s p ≡ Some (OneOrMore q) → (h : Graph) (a b : Term) → (w : List Term) × (0 < length w) × IsWalk (λ u v. Leads s h q u v) w a b → Leads s h p a b
  close_plus p q e h a b r = subst (λ T. T) (sym (open_form p (Some (OneOrMore q)) e h a b)) r

  -- the possible nodes as terms
  abbrev terms_of : ℕ → ℕ → List Term
  terms_of p x = map (node s) (possible s p x)

  led_listed : (p x : ℕ) (b : Term) → x < N → Leads s (full s) p (node s x) b → Contains (terms_of p x) b
  led_listed p x b l r =
      let n = numbered p x b l r in
      let h = has_is_possible s p x n.0 n.3 in
      subst (Contains (terms_of p x)) n.2 (in_map (node s) (possible s p x) n.0 (possible_has s p x n.0 h.0 h.1 h.2))

  listed_led : (p x : ℕ) (b : Term) → Contains (terms_of p x) b → Leads s (full s) p (node s x) b
  listed_led p x b c =
      let n = map_in (node s) (possible s p x) b c in
      subst (Leads s (full s) p (node s x)) n.2 (has_possible s p x n.0 n.1).2

  star_bound : (p q x : ℕ) (b : Term) → x < N → form_at s p ≡ Some (ZeroOrMore q) → (w : List Term) × IsWalk (R q) w (node s x) b
      → (w : List Term) × (length w ≤ length (possible s p x) - 1) × IsWalk (R q) w (node s x) b
  star_bound p q x b l e h =
      let r = short_walk same_term equal_terms term_tied (R q) (terms_of p x) h.0 (node s x) b h.1 (walk_visits (R q) (Contains (terms_of p x)) keep h.0 (node s x) b h.1 start) in
      let m = r.2 in
      let n = length-map (possible s p x) (node s) in
      (r.0, omega arith, r.1)
    where
      start : Contains (terms_of p x) (node s x)
      start = led_listed p x (node s x) l (close_star p q e (full s) (node s x) (node s x) ([], refl))

      keep : (u v : Term) → Contains (terms_of p x) u → R q u v → Contains (terms_of p x) v
      keep u v h r =
          let k = open_star p q e (full s) (node s x) u (listed_led p x u h) in
          led_listed p x v l (close_star p q e (full s) (node s x) v (k.0 ++ v ∷ [], walk_more (F q) k.0 (node s x) u v k.1 (widen q u v r)))

  plus_bound : (p q x : ℕ) (b : Term) → x < N → form_at s p ≡ Some (OneOrMore q) → (w : List Term) × (0 < length w) × IsWalk (R q) w (node s x) b
      → (w : List Term) × (0 < length w) × (length w ≤ (length (possible s p x) - 1) + 1) × IsWalk (R q) w (node s x) b
  plus_bound p q x b l e h = at h.0 h.1 h.2
    where
      keep : (u v : Term) → Contains (terms_of p x) u → R q u v → Contains (terms_of p x) v
      keep u v h r =
          let k = open_plus p q e (full s) (node s x) u (listed_led p x u h) in
          led_listed p x v l (close_plus p q e (full s) (node s x) v (k.0 ++ v ∷ [], longer k.0, walk_more (F q) k.0 (node s x) u v k.2 (widen q u v r)))
        where
          longer : (w : List Term) → 0 < length (w ++ v ∷ [])
          longer [] = omega arith
          longer (z ∷ zs) = omega arith

      at : (w : List Term) → 0 < length w → IsWalk (R q) w (node s x) b → (w : List Term) × (0 < length w) × (length w ≤ (length (possible s p x) - 1) + 1) × IsWalk (R q) w (node s x) b
      at [] m h = absurd (omega (arith, m))
      at (z ∷ zs) m h =
          let start : Contains (terms_of p x) z = led_listed p x z l (close_plus p q e (full s) (node s x) z (z ∷ [], omega arith, (widen q (node s x) z h.0, refl))) in
          let r = short_walk same_term equal_terms term_tied (R q) (terms_of p x) zs z b h.1 (walk_visits (R q) (Contains (terms_of p x)) keep zs z b h.1 start) in
          let k = r.2 in
          let n = length-map (possible s p x) (node s) in
          (z ∷ r.0, omega arith, omega arith, (h.0, r.1))

  -- a level of a repeated path, and its part
  star_level : (p q k x y : ℕ) → form_at s p ≡ Some (ZeroOrMore q) → x < N → y < N → k < length (possible s p x)
      → LevelBy R (Some (ZeroOrMore q)) k (node s x) (node s y) ↔ PartMeans M (level_part s (Some (ZeroOrMore q)) p k x y)
  star_level p q zero x y e l m n = iff_trans (λ h. none h.0 h.1 h.2, λ k. ([], omega arith, k)) (fixed_iff x y l m)
    where
      none : (w : List Term) → length w ≤ 0 → IsWalk (R q) w (node s x) (node s y) → node s x ≡ node s y
      none [] l h = h
      none (z ∷ zs) l h = absurd (omega arith)
  star_level p q (suc k) x y e l m n =
      of_equal (ap (λ f. LevelBy R f (suc k) (node s x) (node s y)) e) (part_iff (atom.Level p (suc k) x y) is)
    where
      is : M (atom.Level p (suc k) x y) → is_path_atom s (atom.Level p (suc k) x y) ≡ true
      is h =
          let w = subst (λ f. LevelBy R f (suc k) (node s x) (node s y)) e h in
          both _ _ (can_reach p x y l m (widen p (node s x) (node s y) (close_star p q e g (node s x) (node s y) (w.0, w.2))))
          (subst (λ f. has_level f (suc k) (length (possible s p x)) ≡ true) (sym e) (both _ _ (lt-ltb 0 (suc k) (omega arith)) (lt-ltb (suc k) (length (possible s p x)) n)))

  plus_level : (p q k x y : ℕ) → form_at s p ≡ Some (OneOrMore q) → x < N → y < N → k < length (possible s p x)
      → LevelBy R (Some (OneOrMore q)) k (node s x) (node s y) ↔ PartMeans M (level_part s (Some (OneOrMore q)) p k x y)
  plus_level p q k x y e l m n =
      of_equal (ap (λ f. LevelBy R f k (node s x) (node s y)) e) (part_iff (atom.Level p k x y) is)
    where
      is : M (atom.Level p k x y) → is_path_atom s (atom.Level p k x y) ≡ true
      is h =
          let w = subst (λ f. LevelBy R f k (node s x) (node s y)) e h in
          both _ _ (can_reach p x y l m (widen p (node s x) (node s y) (close_plus p q e g (node s x) (node s y) (w.0, w.1, w.3))))
          (subst (λ f. has_level f k (length (possible s p x)) ≡ true) (sym e) (lt-ltb k (length (possible s p x)) n))

  -- the level below and a step from there, for both repeated paths
  module _ (p q x : ℕ) (f : Option PathForm) (l : x < N) (W : ℕ → Term → Term → Type 0)
      (leads : (k : ℕ) (b : Term) → W k (node s x) b → Leads s g p (node s x) b)
      (level : (k y : ℕ) → y < N → k < length (possible s p x) → W k (node s x) (node s y) ↔ PartMeans M (level_part s f p k x y))
      (middle : (k z y : ℕ) → M (atom.Middle p k x z y) ≡ (W k (node s x) (node s z) × R q (node s z) (node s y)))
      (named : (k z y : ℕ) → is_path_atom s (atom.Middle p k x z y) ≡ (nat_lt (k + 1) (length (possible s p x)) && (is_possible s p x z && is_possible s q z y)))
    where
      middle_iff : (k z y : ℕ) → y < N → k + 1 < length (possible s p x) → is_possible s p x z ≡ true
          → (W k (node s x) (node s z) × R q (node s z) (node s y)) ↔ PartMeans M (path_part s (atom.Middle p k x z y))
      middle_iff k z y m n c = of_equal (middle k z y) (part_iff (atom.Middle p k x z y) is)
        where
          is : M (atom.Middle p k x z y) → is_path_atom s (atom.Middle p k x z y) ≡ true
          is h =
              let w = subst (λ T. T) (middle k z y) h in
              named k z y ∙ both _ _ (lt-ltb (k + 1) (length (possible s p x)) n) (both _ _ c (can_reach q z y (end_of p x z c) m (widen q (node s z) (node s y) w.1)))

      below_iff : (k y : ℕ) → y < N → k + 1 < length (possible s p x)
          → (W k (node s x) (node s y) ⊎ ((z : Term) × W k (node s x) z × R q z (node s y))) ↔ SomeOf (λ part. PartMeans M part) (next_list s f p k x y)
      below_iff k y m n = (to, from)
        where
          H : ℕ → Type 0
          H z = PartMeans M (path_part s (atom.Middle p k x z y))

          to : W k (node s x) (node s y) ⊎ ((z : Term) × W k (node s x) z × R q z (node s y)) → SomeOf (λ part. PartMeans M part) (next_list s f p k x y)
          to (inl h) = inl ((level k y m (omega arith)).0 h)
          to (inr h) =
              let j = numbered p x h.0 l (widen p (node s x) h.0 (leads k h.0 h.1)) in
              inr ((some_map (λ part. PartMeans M part) (λ z. path_part s (atom.Middle p k x z y)) (possible s p x)).0
              (some_in (λ z. PartMeans M (path_part s (atom.Middle p k x z y))) (possible s p x) j.0 j.3
              ((middle_iff k j.0 y m n j.3).0 (subst (W k (node s x)) (sym j.2) h.1, subst (λ u. R q u (node s y)) (sym j.2) h.2))))

          from : SomeOf (λ part. PartMeans M part) (next_list s f p k x y) → W k (node s x) (node s y) ⊎ ((z : Term) × W k (node s x) z × R q z (node s y))
          from (inl h) = inl ((level k y m (omega arith)).1 h)
          from (inr h) =
              let r = some_out (λ z. PartMeans M (path_part s (atom.Middle p k x z y))) (possible s p x) ((some_map (λ part. PartMeans M part) (λ z. path_part s (atom.Middle p k x z y)) (possible s p x)).1 h) in
              let t = (middle_iff k r.0 y m n r.1).1 r.2 in
              inr (node s r.0, t.0, t.1)

  -- the theorem, for each kind of atom
  pub reach_mean : (p x y : ℕ) → is_possible s p x y ≡ true → M (atom.Reach p x y) ↔ SomeOf (λ part. PartMeans M part) (list_of s (atom.Reach p x y))
  reach_mean p x y c = at (form_at s p) refl
    where
      l : x < N
      l = start_of p x y c

      m : y < N
      m = end_of p x y c

      n : 0 < length (possible s p x)
      n = some_possible p x y c

      by_form : (f : Option PathForm) → form_at s p ≡ f → ReachBy R f g (node s x) (node s y) ↔ SomeOf (λ part. PartMeans M part) (reach_list s f p x y)
      by_form None e = (λ h. h, λ h. h)
      by_form (Some (Predicate i)) e = single (triple_iff (record { subject = node s x; predicate = Iri i; object = node s y }))
      by_form (Some (Inverse q)) e = single (reach_iff q y x m l)
      by_form (Some (Sequence a b)) e = (to, from)
        where
          middle : (z : ℕ) → is_possible s a x z ≡ true → (R a (node s x) (node s z) × R b (node s z) (node s y)) ↔ PartMeans M (path_part s (atom.Middle p 0 x z y))
          middle z k = of_equal same (part_iff (atom.Middle p 0 x z y) is)
            where
              same : M (atom.Middle p 0 x z y) ≡ (R a (node s x) (node s z) × R b (node s z) (node s y))
              same = ap (λ f. MiddleBy R f 0 (node s x) (node s z) (node s y)) e

              is : M (atom.Middle p 0 x z y) → is_path_atom s (atom.Middle p 0 x z y) ≡ true
              is h =
                  let w = subst (λ T. T) same h in
                  subst (λ f. has_middle s f p 0 x z y ≡ true) (sym e) (both _ _ k (can_reach b z y (end_of a x z k) m (widen b (node s z) (node s y) w.1)))

          to : (z : Term) × R a (node s x) z × R b z (node s y) → SomeOf (λ part. PartMeans M part) (map (λ z. path_part s (atom.Middle p 0 x z y)) ((possible s a x)))
          to h =
              let j = numbered a x h.0 l (widen a (node s x) h.0 h.1) in
              (some_map (λ part. PartMeans M part) (λ z. path_part s (atom.Middle p 0 x z y)) ((possible s a x))).0
              (some_in (λ z. PartMeans M (path_part s (atom.Middle p 0 x z y))) ((possible s a x)) j.0 j.3
              ((middle j.0 j.3).0 (subst (R a (node s x)) (sym j.2) h.1, subst (λ u. R b u (node s y)) (sym j.2) h.2)))

          from : SomeOf (λ part. PartMeans M part) (map (λ z. path_part s (atom.Middle p 0 x z y)) ((possible s a x))) → (z : Term) × R a (node s x) z × R b z (node s y)
          from h =
              let r = some_out (λ z. PartMeans M (path_part s (atom.Middle p 0 x z y))) ((possible s a x)) ((some_map (λ part. PartMeans M part) (λ z. path_part s (atom.Middle p 0 x z y)) ((possible s a x))).1 h) in
              let t = (middle r.0 r.1).1 r.2 in
              (node s r.0, t.0, t.1)
      by_form (Some (Alternative qs)) e =
          iff_trans
          (some_weaker (λ q. R q (node s x) (node s y)) (λ q. PartMeans M (path_part s (atom.Reach q x y))) (λ q. (reach_iff q x y l m).0) qs, some_weaker (λ q. PartMeans M (path_part s (atom.Reach q x y))) (λ q. R q (node s x) (node s y)) (λ q. (reach_iff q x y l m).1) qs)
          (some_map (λ part. PartMeans M part) (λ q. path_part s (atom.Reach q x y)) qs)
      by_form (Some (ZeroOrMore q)) e =
          single (iff_trans (star_bound p q x (node s y) l e, λ h. (h.0, h.2)) (star_level p q (length (possible s p x) - 1) x y e l m (omega (arith, n))))
      by_form (Some (OneOrMore q)) e =
          single (iff_trans (plus_bound p q x (node s y) l e, λ h. (h.0, h.1, h.3)) (plus_level p q (length (possible s p x) - 1) x y e l m (omega (arith, n))))
      by_form (Some (ZeroOrOne q)) e = (to, from)
        where
          to : (node s x ≡ node s y) ⊎ R q (node s x) (node s y) → SomeOf (λ part. PartMeans M part) (reach_list s (Some (ZeroOrOne q)) p x y)
          to (inl h) = inl ((fixed_iff x y l m).0 h)
          to (inr h) = inr (inl ((reach_iff q x y l m).0 h))

          from : SomeOf (λ part. PartMeans M part) (reach_list s (Some (ZeroOrOne q)) p x y) → (node s x ≡ node s y) ⊎ R q (node s x) (node s y)
          from (inl h) = inl ((fixed_iff x y l m).1 h)
          from (inr (inl h)) = inr ((reach_iff q x y l m).1 h)
          from (inr (inr h)) = absurd h

      at : (f : Option PathForm) → form_at s p ≡ f → M (atom.Reach p x y) ↔ SomeOf (λ part. PartMeans M part) (list_of s (atom.Reach p x y))
      at f e = subst (λ k. M (atom.Reach p x y) ↔ SomeOf (λ part. PartMeans M part) (reach_list s k p x y)) (sym e) (of_equal (sym (open_form p f e g (node s x) (node s y))) (by_form f e))

  pub level_mean : (p k x y : ℕ) → is_path_atom s (atom.Level p k x y) ≡ true → M (atom.Level p k x y) ↔ SomeOf (λ part. PartMeans M part) (list_of s (atom.Level p k x y))
  level_mean p k x y a = at (form_at s p) refl
    where
      c : is_possible s p x y ≡ true
      c = both_left (is_possible s p x y) (has_level (form_at s p) k (length (possible s p x))) a

      l : x < N
      l = start_of p x y c

      m : y < N
      m = end_of p x y c

      by_form : (f : Option PathForm) → form_at s p ≡ f → (k : ℕ) → has_level f k (length (possible s p x)) ≡ true → LevelBy R f k (node s x) (node s y) ↔ SomeOf (λ part. PartMeans M part) (level_list s f p k x y)
      by_form None e k i = absurd (false≢true i)
      by_form (Some (Predicate j)) e k i = absurd (false≢true i)
      by_form (Some (Inverse q)) e k i = absurd (false≢true i)
      by_form (Some (Sequence a b)) e k i = absurd (false≢true i)
      by_form (Some (Alternative qs)) e k i = absurd (false≢true i)
      by_form (Some (ZeroOrMore q)) e zero i = absurd (false≢true i)
      by_form (Some (ZeroOrMore q)) e (suc k) i =
          let n = ltb-true (suc k) (length (possible s p x)) (both_right (nat_lt 0 (suc k)) (nat_lt (suc k) (length (possible s p x))) i) in
          iff_trans (star_step (R q) k (node s x) (node s y))
          (below_iff p q x (Some (ZeroOrMore q)) l (LevelBy R (Some (ZeroOrMore q))) (λ k b h. close_star p q e g (node s x) b (h.0, h.2))
          (λ k y m n. star_level p q k x y e l m n)
          (λ k z y. ap (λ f. MiddleBy R f k (node s x) (node s z) (node s y)) e)
          (λ k z y. ap (λ f. has_middle s f p k x z y) e)
          k y m (omega arith))
      by_form (Some (OneOrMore q)) e zero i = iff_trans (one_step (R q) (node s x) (node s y)) (single (reach_iff q x y l m))
      by_form (Some (OneOrMore q)) e (suc k) i =
          let n = ltb-true (suc k) (length (possible s p x)) i in
          iff_trans (plus_step (R q) k (node s x) (node s y))
          (below_iff p q x (Some (OneOrMore q)) l (LevelBy R (Some (OneOrMore q))) (λ k b h. close_plus p q e g (node s x) b (h.0, h.1, h.3))
          (λ k y m n. plus_level p q k x y e l m n)
          (λ k z y. ap (λ f. MiddleBy R f k (node s x) (node s z) (node s y)) e)
          (λ k z y. ap (λ f. has_middle s f p k x z y) e)
          k y m (omega arith))
      by_form (Some (ZeroOrOne q)) e k i = absurd (false≢true i)

      at : (f : Option PathForm) → form_at s p ≡ f → M (atom.Level p k x y) ↔ SomeOf (λ part. PartMeans M part) (list_of s (atom.Level p k x y))
      at f e = subst (λ h. LevelBy R h k (node s x) (node s y) ↔ SomeOf (λ part. PartMeans M part) (level_list s h p k x y)) (sym e) (by_form f e k (subst (λ h. has_level h k (length (possible s p x)) ≡ true) e (both_right (is_possible s p x y) (has_level (form_at s p) k (length (possible s p x))) a)))

  pair : {A B P Q : Type 0} → A ↔ P → B ↔ Q → (A × B) ↔ (P × (Q × Unit {0}))
  pair f h = (λ t. (f.0 t.0, (h.0 t.1, tt)), λ t. (f.1 t.0, h.1 t.1.0))

  pub middle_mean : (p k x z y : ℕ) → is_path_atom s (atom.Middle p k x z y) ≡ true → M (atom.Middle p k x z y) ↔ EachOf (λ part. PartMeans M part) (list_of s (atom.Middle p k x z y))
  middle_mean p k x z y a = at (form_at s p) refl
    where
      by_form : (f : Option PathForm) → form_at s p ≡ f → has_middle s f p k x z y ≡ true → MiddleBy R f k (node s x) (node s z) (node s y) ↔ EachOf (λ part. PartMeans M part) (middle_list s f p k x z y)
      by_form None e i = absurd (false≢true i)
      by_form (Some (Predicate j)) e i = absurd (false≢true i)
      by_form (Some (Inverse q)) e i = absurd (false≢true i)
      by_form (Some (Sequence u v)) e i =
          let j = both_right _ _ i in
          let c = both_left _ _ j in
          let d = both_right _ _ j in
          pair (reach_iff u x z (start_of u x z c) (end_of u x z c)) (reach_iff v z y (start_of v z y d) (end_of v z y d))
      by_form (Some (Alternative qs)) e i = absurd (false≢true i)
      by_form (Some (ZeroOrMore q)) e i =
          let n = ltb-true (k + 1) (length (possible s p x)) (both_left (nat_lt (k + 1) (length (possible s p x))) (is_possible s p x z && is_possible s q z y) i) in
          let j = both_right (nat_lt (k + 1) (length (possible s p x))) (is_possible s p x z && is_possible s q z y) i in
          let c = both_left (is_possible s p x z) (is_possible s q z y) j in
          let d = both_right (is_possible s p x z) (is_possible s q z y) j in
          pair (star_level p q k x z e (start_of p x z c) (end_of p x z c) (omega arith)) (reach_iff q z y (start_of q z y d) (end_of q z y d))
      by_form (Some (OneOrMore q)) e i =
          let n = ltb-true (k + 1) (length (possible s p x)) (both_left (nat_lt (k + 1) (length (possible s p x))) (is_possible s p x z && is_possible s q z y) i) in
          let j = both_right (nat_lt (k + 1) (length (possible s p x))) (is_possible s p x z && is_possible s q z y) i in
          let c = both_left (is_possible s p x z) (is_possible s q z y) j in
          let d = both_right (is_possible s p x z) (is_possible s q z y) j in
          pair (plus_level p q k x z e (start_of p x z c) (end_of p x z c) (omega arith)) (reach_iff q z y (start_of q z y d) (end_of q z y d))
      by_form (Some (ZeroOrOne q)) e i = absurd (false≢true i)

      at : (f : Option PathForm) → form_at s p ≡ f → M (atom.Middle p k x z y) ↔ EachOf (λ part. PartMeans M part) (list_of s (atom.Middle p k x z y))
      at f e = subst (λ h. MiddleBy R h k (node s x) (node s z) (node s y) ↔ EachOf (λ part. PartMeans M part) (middle_list s h p k x z y)) (sym e) (by_form f e (subst (λ h. has_middle s h p k x z y ≡ true) e a))
