-- The roots of a shape, by the list of its focus nodes with all candidates in the graph.
use Rattle.std.proofs.Common.{◌≡◌, ◌↔◌, ◌⊎◌, inl, inr, ℕ, ◌+◌, ◌<◌, ◌≤◌, Bool, true, false, ◌&&◌, ◌||◌, not, nat_eq, nat_lt, IsTrue, List, [], ◌∷◌, length, get_or, Contains, Some, slice_get, refl, sym, ap, ◌∙◌, subst, eqb-true, arith}
use Rattle.std.proofs.lemmas.Bool.{lt-ltb}
use Rattle.std.proofs.lemmas.Option.{slice_get-get_or, slice_get_within, get_or_from_slice_get}
use Rattle.rdf_terms.specs.declared.term.Term.{Term}
use Rattle.rdf_terms.specs.Graph.{Graph, has, triples, empty}
use Rattle.rdf_terms.specs.Members.{IsListOf}
use Rattle.rdf_terms.specs.Nodes.{Nodes, terms, has_term}
use Rattle.rdf_terms.specs.Statement.{Statement}
use Rattle.rdf_terms.proofs.GraphLaws.{has-edited, has-empty, has_at}
use Rattle.rdf_terms.proofs.Members.{in_map, map_in}
use Rattle.rdf_terms.proofs.NodesLaws.{has_term_listed}
use Rattle.rdf_navigation.specs.Numbers.{term_at}
use Rattle.shapes_profile.specs.Profile.{IsInProfile}
use Rattle.shapes_profile.specs.Shapes.{shape_terms}
use Rattle.shapes_graph.specs.Targets.{IsFocus}
use Rattle.path_eval.specs.Numbered.{terms_at, AreNumbers}
use Rattle.repair_problem.specs.Setting.{Setting, IsEdit, full, node, nodes}
use Rattle.repair_problem.specs.Candidates.{candidates}
use Rattle.repair_problem.proofs.CandidateLaws.{candidate_low, candidate_high}
use Rattle.repair_problem.proofs.ChangeLaws.{kind_of, added_high, high}
use Rattle.proof_lines.specs.declared.rule.Rule.{Rule}
use Rattle.path_levels.specs.PossibleNodes.{node_count}
use Rattle.path_levels.proofs.NodeLaws.{one_number, node_listed}
use Rattle.atom_parts.specs.PartLiterals.{In}
use Rattle.atom_parts.specs.PartsTable.{is_node, is_shape}
use Rattle.atom_parts.proofs.Facts.{some_is}
use Rattle.clause_ground.specs.Needed.{root, CanBeFocus}
use Rattle.clause_ground.specs.Growth.{Found, found, Adds, Grows, IsSound}
use Rattle.clause_ground.specs.Premises.{rules_of}
use Rattle.clause_ground.specs.RootClauses.{root_literals, RootsOf, RootsBelow}
use Rattle.clause_ground.proofs.RootLaws.{root_clause, focus_possible, possible_focus}
use Rattle.clause_ground.proofs.Working.{sound_adds, premise_there}

pub full_edit : (s : Setting) → IsEdit s (full s)
full_edit s t h = h

-- each candidate is in the full graph
pub candidate_full : (s : Setting) (t : ℕ) (c : Statement) → slice_get (candidates s) t ≡ Some c → has (full s) c ≡ true
candidate_full s t c e = at (kind_of s t (slice_get_within (candidates s) t c e))
  where
    left : (a b d : Bool) → a ≡ true → b ≡ false → ((a && not b) || d) ≡ true
    left true false d p q = refl
    left true true d p q = absurd (Rattle.core_constraints.proofs.Decided.no_false true refl q)
    left false b d p q = absurd (Rattle.core_constraints.proofs.Decided.no_false false p refl)

    right : (a d : Bool) → d ≡ true → (a || d) ≡ true
    right true d p = refl
    right false d p = p

    at : ((u : Statement) × (Rattle.repair_problem.specs.Candidates.deletion_at s t ≡ Some u)) ⊎ ((u : Statement) × (Rattle.repair_problem.specs.Candidates.addition_at s t ≡ Some u)) → has (full s) c ≡ true
    at (inl r) =
        let f : r.0 ≡ c = some_is (sym (candidate_low s t r.0 r.1) ∙ e) in
        has-edited s.present s.offers empty c ∙ left (has s.present c) (has empty c) (has s.offers c) (subst (λ u. has s.present u ≡ true) f (has_at s.present r.0 t r.1)) (has-empty c)
    at (inr r) =
        let a = added_high s t r.0 r.1 in
        let f : r.0 ≡ c = some_is (sym (candidate_high s t r.0 (high s t a.0) a.1) ∙ e) in
        has-edited s.present s.offers empty c ∙ right (has s.present c && not (has empty c)) (has s.offers c) (subst (λ u. has s.offers u ≡ true) f (has_at s.offers r.0 _ a.1))

abbrev pub AreFocus : Graph → ℕ → Nodes → Graph → List ℕ → Type 0
AreFocus sh n ns g xs = IsListOf (λ a. IsTrue (has_term ns a) × IsFocus sh n g a) (terms_at ns xs)

pub moved : (s : Setting) (n : ℕ) (sh g : Graph) (ns : Nodes) (xs ys : List ℕ) → sh ≡ s.shapes → ns ≡ nodes s → g ≡ full s → ys ≡ xs → AreNumbers ns xs → AreFocus sh n ns g xs → AreNumbers (nodes s) ys × AreFocus s.shapes n (nodes s) (full s) ys
moved s n sh g ns xs ys e f h k within exact = (
  subst (AreNumbers (nodes s)) (sym k) (subst (λ m. AreNumbers m xs) f within),
  subst (AreFocus s.shapes n (nodes s) (full s)) (sym k) (subst (λ x. AreFocus s.shapes n (nodes s) x xs) h (subst (λ m. AreFocus s.shapes n m g xs) f (subst (λ x. AreFocus x n ns g xs) e exact))),
)

module _ (s : Setting) (profile : IsInProfile s.shapes) (n : ℕ) (shape : n < length (shape_terms s.shapes)) (xs : List ℕ) (within : AreNumbers (nodes s) xs) (exact : AreFocus s.shapes n (nodes s) (full s) xs) where
  is_there : is_shape s n ≡ true
  is_there = lt-ltb n (length (shape_terms s.shapes)) shape

  listed : (i : ℕ) → i < length xs → Contains xs (get_or xs i 0)
  listed i lt = (i, lt, get_or_from_slice_get xs i (get_or xs i 0) (get_or xs i 0) (slice_get-get_or xs i 0 lt))

  number : (i : ℕ) → i < length xs → get_or xs i 0 < node_count s
  number i lt = within (get_or xs i 0) (listed i lt)

  possible : (i : ℕ) → i < length xs → CanBeFocus s n (get_or xs i 0)
  possible i lt = focus_possible s profile n (get_or xs i 0) (full s) (full_edit s) is_there (lt-ltb (get_or xs i 0) (node_count s) (number i lt)) ((exact (node s (get_or xs i 0))).0 (in_map (term_at (nodes s)) xs (get_or xs i 0) (listed i lt))).1

  -- the next node has its premise
  pub root_grows : (old new : Found) (i : ℕ) → i < length xs → IsSound s old → Adds old (root n (get_or xs i 0)) (root_literals n (get_or xs i 0)) new → Grows s old new
  root_grows old new i lt sound h = sound_adds s old new (root n (get_or xs i 0)) (root_literals n (get_or xs i 0)) sound (0, (n, get_or xs i 0, possible i lt, refl)) (root_clause s n (get_or xs i 0) is_there (lt-ltb (get_or xs i 0) (node_count s) (number i lt))) h

  pub roots_next : (old new : Found) (i : ℕ) → Adds old (root n (get_or xs i 0)) (root_literals n (get_or xs i 0)) new → Grows s old new → ((k : ℕ) → k < i → In (rules_of old.premises) (root n (get_or xs k 0))) → (k : ℕ) → k < i + 1 → In (rules_of new.premises) (root n (get_or xs k 0))
  roots_next old new i h g below k lt = pick (nat_eq k i) refl
    where
      pick : (b : Bool) → nat_eq k i ≡ b → In (rules_of new.premises) (root n (get_or xs k 0))
      pick true e = subst (λ j. In (rules_of new.premises) (root n (get_or xs j 0))) (sym (eqb-true k i e)) (premise_there s old new (root n (get_or xs i 0)) (root_literals n (get_or xs i 0)) h)
      pick false e = g.rules (root n (get_or xs k 0)) (below k (grind (arith, e, lt)))

  -- all nodes have theirs
  pub roots_whole : (rs : List Rule) (i : ℕ) → length xs ≤ i → ((k : ℕ) → k < i → In rs (root n (get_or xs k 0))) → RootsOf s n rs
  roots_whole rs i le made x h =
      let r = possible_focus s profile n x (full_edit s) (candidate_full s) h in
      let c = (exact (node s x)).1 (node_has x r.0, r.1) in
      let m = map_in (term_at (nodes s)) xs (node s x) c in
      let same : m.0 ≡ x = one_number s m.0 x (within m.0 m.1) r.0 m.2 in
      let i0 = m.1 in
      let lt = i0.1 in
      let read : get_or xs i0.0 0 ≡ m.0 = get_or_from_slice_get xs i0.0 m.0 0 (slice_get-get_or xs i0.0 m.0 i0.1 ∙ ap Some i0.2) in
      subst (λ y. In rs (root n y)) (read ∙ same) (made i0.0 (omega (arith, lt, le)))
    where
      node_has : (x : ℕ) → x < node_count s → IsTrue (has_term (nodes s) (node s x))
      node_has x l = has_term_listed (nodes s) (node s x) (node_listed s x l)

-- the roots of one shape more
pub shapes_next : (s : Setting) (n : ℕ) (old new : Found) → Grows s old new → RootsBelow s n (rules_of old.premises) → RootsOf s n (rules_of new.premises) → RootsBelow s (n + 1) (rules_of new.premises)
shapes_next s n old new g below here m lt x h = pick (nat_eq m n) refl
  where
    pick : (b : Bool) → nat_eq m n ≡ b → In (rules_of new.premises) (root m x)
    pick true e = let f = eqb-true m n e in subst (λ k. In (rules_of new.premises) (root k x)) (sym f) (here x (subst (λ k. CanBeFocus s k x) f h))
    pick false e = g.rules (root m x) (below m (grind (arith, e, lt)) x h)
