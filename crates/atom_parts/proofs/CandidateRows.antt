-- Lists of candidates by a test.
use Rattle.std.proofs.Common.{◌≡◌, ◌↔◌, ◌⊎◌, inl, inr, ℕ, zero, suc, ◌+◌, ◌<◌, Bool, true, false, not, cond, IsTrue, IsFalse, ◌&&◌, List, [], ◌∷◌, ◌++◌, map, length, Contains, Option, Some, None, slice_get, refl, sym, ap, ◌∙◌, subst, arith, if◌then◌else◌}
use Rattle.std.specs.Prelude.{filter_map}
use Rattle.std.specs.List.{enumerate_from, cons_option}
use Rattle.rdf_terms.specs.Statement.{Statement}
use Rattle.rdf_terms.specs.Graph.{Graph, has}
use Rattle.rdf_terms.proofs.Members.{in_none, in_first, in_rest, in_cases}
use Rattle.rdf_navigation.proofs.PropertyLaws.{same_some, not_missing}
use Rattle.shapes_profile.specs.Logic.{EachOf, SomeOf}
use Rattle.core_constraints.proofs.Decided.{each_at, each_of, some_at, no_false}
use Rattle.repair_problem.specs.declared.atom.Atom.TheVariants as atom
use Rattle.repair_problem.specs.Setting.{Setting, IsEdit}
use Rattle.repair_problem.specs.Candidates.{candidates, candidate_number}
use Rattle.repair_problem.specs.Meaning.{Means}
use Rattle.repair_problem.specs.PartMeaning.{PartMeans}
use Rattle.repair_problem.proofs.CandidateLaws.{place_found, place_none, full_listed}
use Rattle.std.proofs.lemmas.Bool.{false≢true}
use Rattle.path_levels.specs.PathParts.{literal}
use Rattle.atom_parts.specs.CandidateLists.{number_if, places_from, candidates_if}
use Rattle.atom_parts.specs.PartsTable.{triple_parts}
use Rattle.atom_parts.proofs.Facts.{iff_trans, each_map, some_map}

-- the triple at a place that passes the test
abbrev pub PassesAt : (Statement → Bool) → List Statement → ℕ → Type 0
PassesAt test ts i = (c : Statement) × (slice_get ts i ≡ Some c) × (test c ≡ true)

-- the places are those of the triples that pass the test
places_to : (n : ℕ) (test : Statement → Bool) (ts : List Statement) (i : ℕ) → PassesAt test ts i → Contains (places_from n test ts) (n + i)
places_to n test [] i h = absurd (not_missing h.0 h.1)
places_to n test (t ∷ ts) zero h =
    let e : t ≡ h.0 = same_some h.1 in
    let p : test t ≡ true = ap test e ∙ h.2 in
    let z : n ≡ n + 0 = omega arith in
    subst (λ b. Contains (cons_option (cond b (Some n) None) (places_from (n + 1) test ts)) (n + 0)) (sym p)
    (subst (λ k. Contains (n ∷ places_from (n + 1) test ts) k) z (in_first n (places_from (n + 1) test ts)))
places_to n test (t ∷ ts) (suc i) h = at (test t) (let z : n + 1 + i ≡ n + suc i = omega arith in subst (Contains (places_from (n + 1) test ts)) z (places_to (n + 1) test ts i (h.0, h.1, h.2)))
  where
    at : (b : Bool) → Contains (places_from (n + 1) test ts) (n + suc i) → Contains (cons_option (if b then Some n else None) (places_from (n + 1) test ts)) (n + suc i)
    at true on = in_rest n (places_from (n + 1) test ts) (n + suc i) on
    at false on = on

places_back : (n : ℕ) (test : Statement → Bool) (ts : List Statement) (k : ℕ) → Contains (places_from n test ts) k → (i : ℕ) × (n + i ≡ k) × PassesAt test ts i
places_back n test [] k h = absurd (in_none k h)
places_back n test (t ∷ ts) k h = at (test t) refl h (λ g. places_back (n + 1) test ts k g)
  where
    further : (i : ℕ) × (n + 1 + i ≡ k) × PassesAt test ts i → (i : ℕ) × (n + i ≡ k) × PassesAt test (t ∷ ts) i
    further r = let e = r.1 in (suc r.0, omega (arith, e), r.2)

    first : test t ≡ true → (n ≡ k) ⊎ Contains (places_from (n + 1) test ts) k → (Contains (places_from (n + 1) test ts) k → (i : ℕ) × (n + 1 + i ≡ k) × PassesAt test ts i) → (i : ℕ) × (n + i ≡ k) × PassesAt test (t ∷ ts) i
    first p (inl e) more = (0, omega (arith, e), (t, refl, p))
    first p (inr g) more = further (more g)

    at : (b : Bool) → test t ≡ b → Contains (cons_option (cond b (Some n) None) (places_from (n + 1) test ts)) k → (Contains (places_from (n + 1) test ts) k → (i : ℕ) × (n + 1 + i ≡ k) × PassesAt test ts i) → (i : ℕ) × (n + i ≡ k) × PassesAt test (t ∷ ts) i
    at true p c more = first p (in_cases n (places_from (n + 1) test ts) k c) more
    at false p c more = further (more c)

-- so a candidate is listed where it passes
pub candidates_to : (s : Setting) (test : Statement → Bool) (i : ℕ) → PassesAt test (candidates s) i → Contains (candidates_if s test) i
candidates_to s test i h = let z : 0 + i ≡ i = omega arith in subst (Contains (candidates_if s test)) z (places_to 0 test (candidates s) i h)

pub candidates_back : (s : Setting) (test : Statement → Bool) (i : ℕ) → Contains (candidates_if s test) i → PassesAt test (candidates s) i
candidates_back s test i h = let r = places_back 0 test (candidates s) i h in let e = r.1 in let z : r.0 ≡ i = omega (arith, e) in subst (PassesAt test (candidates s)) z r.2

module _ (s : Setting) (g : Graph) (within : IsEdit s g) (test : Statement → Bool) where
  -- some candidate of the list is in the graph where a triple of the graph passes the test
  some_there : ((t : Statement) × (has g t ≡ true) × (test t ≡ true)) → SomeOf (λ t. Means s g (atom.Triple t)) (candidates_if s test)
  some_there h = at (candidate_number s h.0) refl
    where
      at : (m : Option ℕ) → candidate_number s h.0 ≡ m → SomeOf (λ t. Means s g (atom.Triple t)) (candidates_if s test)
      at None e = absurd (false≢true (sym (place_none (candidates s) h.0 e) ∙ full_listed s h.0 (within h.0 h.1)))
      at (Some i) e =
          let f = place_found (candidates s) h.0 i e in
          some_at (λ t. Means s g (atom.Triple t)) (candidates_if s test) i (candidates_to s test i (h.0, f, h.2)) (h.0, f, h.1)

  there_some : (ks : List ℕ) → ((k : ℕ) → Contains ks k → Contains (candidates_if s test) k) → SomeOf (λ t. Means s g (atom.Triple t)) ks → (t : Statement) × (has g t ≡ true) × (test t ≡ true)
  there_some [] all h = absurd h
  there_some (k ∷ ks) all (inl h) =
      let r = candidates_back s test k (all k (in_first k ks)) in
      let e : r.0 ≡ h.0 = same_some (sym r.1 ∙ h.1) in
      (h.0, h.2, sym (ap test e) ∙ r.2)
  there_some (k ∷ ks) all (inr h) = there_some ks (λ j c. all j (in_rest k ks j c)) h

  pub some_triple : ((t : Statement) × (has g t ≡ true) × (test t ≡ true)) ↔ SomeOf (PartMeans (Means s g)) (triple_parts (candidates_if s test) true)
  some_triple = iff_trans (some_there, there_some (candidates_if s test) (λ k c. c)) (some_map (PartMeans (Means s g)) (λ t. literal (atom.Triple t) true) (candidates_if s test))

  pub no_triple : (¬ ((t : Statement) × (has g t ≡ true) × (test t ≡ true))) ↔ EachOf (PartMeans (Means s g)) (triple_parts (candidates_if s test) false)
  no_triple =
      iff_trans (
        λ none. each_of (λ t. ¬ (Means s g (atom.Triple t))) (candidates_if s test) (λ k c m. none (there_some (k ∷ []) (λ j d. one k j c d) (inl m))),
        λ all bad. let r = at_number bad in each_at (λ t. ¬ (Means s g (atom.Triple t))) (candidates_if s test) r.0 all r.1 r.2,
      )
      (each_map (PartMeans (Means s g)) (λ t. literal (atom.Triple t) false) (candidates_if s test))
    where
      one : (k j : ℕ) → Contains (candidates_if s test) k → Contains (k ∷ []) j → Contains (candidates_if s test) j
      one k j c d = pick (in_cases k [] j d)
        where
          pick : (k ≡ j) ⊎ Contains [] j → Contains (candidates_if s test) j
          pick (inl e) = subst (Contains (candidates_if s test)) e c
          pick (inr e) = absurd (in_none j e)

      at_number : ((t : Statement) × (has g t ≡ true) × (test t ≡ true)) → (k : ℕ) × Contains (candidates_if s test) k × Means s g (atom.Triple k)
      at_number h = at (candidate_number s h.0) refl
        where
          at : (m : Option ℕ) → candidate_number s h.0 ≡ m → (k : ℕ) × Contains (candidates_if s test) k × Means s g (atom.Triple k)
          at None e = absurd (false≢true (sym (place_none (candidates s) h.0 e) ∙ full_listed s h.0 (within h.0 h.1)))
          at (Some i) e =
              let f = place_found (candidates s) h.0 i e in
              (i, candidates_to s test i (h.0, f, h.2), (h.0, f, h.1))
