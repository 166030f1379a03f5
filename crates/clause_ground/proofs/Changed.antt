-- The graph that is edited by the candidates whose value isn't whether they are in the data.
use Rattle.std.proofs.Common.{◌≡◌, ◌≢◌, ◌↔◌, ◌⊎◌, inl, inr, ℕ, zero, suc, ◌+◌, ◌-◌, ◌<◌, Bool, true, false, not, ◌&&◌, ◌||◌, cond, nat_lt, IsTrue, List, [], ◌∷◌, ◌++◌, length, get_or, Contains, Some, None, slice_get, All, refl, sym, ap, ◌∙◌, subst, arith}
use Rattle.std.proofs.lemmas.Bool.{ltb-true}
use Rattle.std.proofs.lemmas.Option.{slice_get-get_or, slice_get_within, get_or_from_slice_get}
use Rattle.std.proofs.lemmas.List.Elements.{Contains-append_left, Contains-append_right, Contains-append_cases}
use Rattle.rdf_terms.specs.Statement.{Statement}
use Rattle.rdf_terms.specs.Graph.{Graph, triples, has}
use Rattle.rdf_terms.proofs.GraphLaws.{has-edited, has_at}
use Rattle.rdf_terms.proofs.Members.{in_none, in_first, in_cases}
use Rattle.repair_problem.specs.declared.atom.Atom.{Atom}
use Rattle.repair_problem.specs.declared.atom.Atom.TheVariants as atom
use Rattle.repair_problem.specs.Repair.{Apart}
use Rattle.repair_problem.specs.Setting.{Setting}
use Rattle.repair_problem.specs.Candidates.{candidates, in_data, deletion_at, addition_at, additions, deletions, edited_by}
use Rattle.repair_problem.specs.Changes.{AreCandidates}
use Rattle.repair_problem.specs.Meaning.{Means}
use Rattle.repair_problem.specs.PartMeaning.{HoldsIf}
use Rattle.repair_problem.proofs.CandidateLaws.{candidate_low, candidate_high}
use Rattle.repair_problem.proofs.ChangeLaws.{added_is, deleted_is, kind_of, deleted_low, added_high, high, one_deletion, one_addition, additions_within}
use Rattle.count_encode.specs.PartTruth.{signed}
use Rattle.core_constraints.proofs.Decided.{no_false, false_of, true_or_false}
use Rattle.atom_parts.specs.Fixing.{NoAtom, Free, fixing}
use Rattle.atom_parts.proofs.Facts.{some_is, none_some}
use Rattle.atom_numbers.specs.Numbers.{AreApart}
use Rattle.clause_ground.specs.Models.{changed_at, changed_from, changed}

-- Members of the change.
-- an atom of the candidate stands there, with the other value
abbrev pub Turned : Setting → (ℕ → Bool) → ℕ → List Atom → ℕ → Type 0
Turned s v k ats t = (n : ℕ) × (slice_get ats n ≡ Some (atom.Triple t)) × (signed (in_data s t) (v (k + n)) ≡ false)

module _ (s : Setting) (v : ℕ → Bool) where
  at_back : (k : ℕ) (a : Atom) (t : ℕ) → Contains (changed_at s v k a) t → (a ≡ atom.Triple t) × (signed (in_data s t) (v k) ≡ false)
  at_back k (atom.Triple u) t c = go (signed (in_data s u) (v k)) refl c
    where
      one : signed (in_data s u) (v k) ≡ false → (u ≡ t) ⊎ Contains [] t → (atom.Triple u ≡ atom.Triple t) × (signed (in_data s t) (v k) ≡ false)
      one e (inl f) = (ap atom.Triple f, subst (λ w. signed (in_data s w) (v k) ≡ false) f e)
      one e (inr c) = absurd (in_none t c)

      go : (b : Bool) → signed (in_data s u) (v k) ≡ b → Contains (cond b [] (u ∷ [])) t → (atom.Triple u ≡ atom.Triple t) × (signed (in_data s t) (v k) ≡ false)
      go true e c = absurd (in_none t c)
      go false e c = one e (in_cases u [] t c)
  at_back k (atom.Reach p x y) t c = absurd (in_none t c)
  at_back k (atom.Level p l x y) t c = absurd (in_none t c)
  at_back k (atom.Middle p l x z y) t c = absurd (in_none t c)
  at_back k (atom.Good i y) t c = absurd (in_none t c)
  at_back k (atom.Marked i x y) t c = absurd (in_none t c)
  at_back k (atom.Count i x j m) t c = absurd (in_none t c)
  at_back k (atom.Differ i x y) t c = absurd (in_none t c)
  at_back k (atom.Twin i x y z) t c = absurd (in_none t c)
  at_back k (atom.Holds i x) t c = absurd (in_none t c)
  at_back k (atom.Conforms n x) t c = absurd (in_none t c)
  at_back k (atom.Target n x) t c = absurd (in_none t c)

  pub turned_back : (k : ℕ) (ats : List Atom) (t : ℕ) → Contains (changed_from s v k ats) t → Turned s v k ats t
  turned_back k [] t c = absurd (in_none t c)
  turned_back k (a ∷ ats) t c = split (Contains-append_cases (changed_at s v k a) (changed_from s v (suc k) ats) t c) (turned_back (suc k) ats t)
    where
      split : Contains (changed_at s v k a) t ⊎ Contains (changed_from s v (suc k) ats) t → (Contains (changed_from s v (suc k) ats) t → Turned s v (suc k) ats t) → Turned s v k (a ∷ ats) t
      split (inl h) more =
          let r = at_back k a t h in
          let z : k ≡ k + 0 = omega arith in
          (0, ap Some r.0, subst (λ n. signed (in_data s t) (v n) ≡ false) z r.1)
      split (inr h) more =
          let r = more h in
          let z : suc k + r.0 ≡ k + suc r.0 = omega arith in
          (suc r.0, r.1, subst (λ n. signed (in_data s t) (v n) ≡ false) z r.2)

  pub turned_there : (k : ℕ) (ats : List Atom) (t n : ℕ) → slice_get ats n ≡ Some (atom.Triple t) → signed (in_data s t) (v (k + n)) ≡ false → Contains (changed_from s v k ats) t
  turned_there k [] t n e f = absurd (none_some e)
  turned_there k (a ∷ ats) t zero e f =
      let z : k + 0 ≡ k = omega arith in
      let g : signed (in_data s t) (v k) ≡ false = subst (λ n. signed (in_data s t) (v n) ≡ false) z f in
      let own : Contains (changed_at s v k (atom.Triple t)) t = subst (λ b. Contains (cond b [] (t ∷ [])) t) (sym g) (in_first t []) in
      Contains-append_left (changed_at s v k a) (changed_from s v (suc k) ats) t (subst (λ b. Contains (changed_at s v k b) t) (sym (some_is e)) own)
  turned_there k (a ∷ ats) t (suc n) e f =
      let z : k + suc n ≡ suc k + n = omega arith in
      Contains-append_right (changed_at s v k a) (changed_from s v (suc k) ats) t (turned_there (suc k) ats t n e (subst (λ m. signed (in_data s t) (v m) ≡ false) z f))

-- The edited graph has a candidate where it is in the change and not in the data, or the other way round.
module _ (s : Setting) (apart : Apart s.present s.offers) (change : List ℕ) where
  abbrev E : Graph
  E = edited_by s change

  has_edited : (u : Statement) → has E u ≡ ((has s.present u && not (has (deletions s change) u)) || has (additions s change) u)
  has_edited u = has-edited s.present (additions s change) (deletions s change) u

  value_of : (u : Statement) (a b c : Bool) → has s.present u ≡ a → has (deletions s change) u ≡ b → has (additions s change) u ≡ c → has E u ≡ ((a && not b) || c)
  value_of u a b c e f g = has_edited u ∙ (λ i. (e i && not (f i)) || g i)

  -- what is in the data is no addition
  not_added : (u : Statement) → has s.present u ≡ true → has (additions s change) u ≡ false
  not_added u h = false_of (has (additions s change) u) (λ k. no_false (has s.present u) h (apart u (additions_within s change u k)))

  stays : (t : ℕ) → t < length (candidates s) → ¬ (Contains change t) → HoldsIf (in_data s t) (Means s E (atom.Triple t))
  stays t l out = at (kind_of s t l)
    where
      at : ((u : Statement) × (deletion_at s t ≡ Some u)) ⊎ ((u : Statement) × (addition_at s t ≡ Some u)) → HoldsIf (in_data s t) (Means s E (atom.Triple t))
      at (inl r) =
          let there = has_at s.present r.0 t r.1 in
          let gone : has (deletions s change) r.0 ≡ false = false_of (has (deletions s change) r.0) (λ h. let q = (deleted_is s change r.0).0 h in out (subst (Contains change) (sym (one_deletion s t q.0 r.0 r.1 q.2)) q.1)) in
          subst (λ b. HoldsIf b (Means s E (atom.Triple t))) (sym (deleted_low s t r.0 r.1)) (r.0, candidate_low s t r.0 r.1, value_of r.0 true false false there gone (not_added r.0 there))
      at (inr r) =
          let a = added_high s t r.0 r.1 in
          let offered : has s.offers r.0 ≡ true = has_at s.offers r.0 _ a.1 in
          let missing : has (additions s change) r.0 ≡ false = false_of (has (additions s change) r.0) (λ h. let q = (added_is s change r.0).0 h in out (subst (Contains change) (sym (one_addition s t q.0 r.0 r.1 q.2)) q.1)) in
          let e : slice_get (candidates s) t ≡ Some r.0 = candidate_high s t r.0 (high s t a.0) a.1 in
          let no : has E r.0 ≡ false = value_of r.0 false (has (deletions s change) r.0) false (apart r.0 offered) refl missing in
          subst (λ b. HoldsIf b (Means s E (atom.Triple t))) (sym a.0) (λ m. no_false (has E r.0) (subst (λ u. has E u ≡ true) (some_is (sym m.1 ∙ e)) m.2) no)

  turns : (t : ℕ) → t < length (candidates s) → Contains change t → HoldsIf (not (in_data s t)) (Means s E (atom.Triple t))
  turns t l inside = at (kind_of s t l)
    where
      at : ((u : Statement) × (deletion_at s t ≡ Some u)) ⊎ ((u : Statement) × (addition_at s t ≡ Some u)) → HoldsIf (not (in_data s t)) (Means s E (atom.Triple t))
      at (inl r) =
          let there = has_at s.present r.0 t r.1 in
          let gone : has (deletions s change) r.0 ≡ true = (deleted_is s change r.0).1 (t, inside, r.1) in
          let e : slice_get (candidates s) t ≡ Some r.0 = candidate_low s t r.0 r.1 in
          let no : has E r.0 ≡ false = value_of r.0 true true false there gone (not_added r.0 there) in
          subst (λ b. HoldsIf (not b) (Means s E (atom.Triple t))) (sym (deleted_low s t r.0 r.1)) (λ m. no_false (has E r.0) (subst (λ u. has E u ≡ true) (some_is (sym m.1 ∙ e)) m.2) no)
      at (inr r) =
          let a = added_high s t r.0 r.1 in
          let offered : has s.offers r.0 ≡ true = has_at s.offers r.0 _ a.1 in
          let there : has (additions s change) r.0 ≡ true = (added_is s change r.0).1 (t, inside, r.1) in
          let e : slice_get (candidates s) t ≡ Some r.0 = candidate_high s t r.0 (high s t a.0) a.1 in
          subst (λ b. HoldsIf (not b) (Means s E (atom.Triple t))) (sym a.0) (r.0, e, value_of r.0 false (has (deletions s change) r.0) true (apart r.0 offered) refl there)

-- candidates alone are atoms of candidates
below_atom : (b : Bool) → cond b Free NoAtom ≢ NoAtom → b ≡ true
below_atom true h = refl
below_atom false h = absurd (h refl)

pub triple_below : (s : Setting) (t : ℕ) → fixing s (atom.Triple t) ≢ NoAtom → t < length (candidates s)
triple_below s t h = ltb-true t (length (candidates s)) (below_atom (nat_lt t (length (candidates s))) h)

module _ (s : Setting) (disjoint : Apart s.present s.offers) (v : ℕ → Bool) (ats : List Atom) (apart : AreApart ats) (below : (n t : ℕ) → slice_get ats n ≡ Some (atom.Triple t) → t < length (candidates s)) where
  -- the values are those of the edited graph
  pub changed_agrees : (n t : ℕ) → slice_get ats n ≡ Some (atom.Triple t) → HoldsIf (v n) (Means s (edited_by s (changed s v ats)) (atom.Triple t))
  changed_agrees n t e = pick (signed (in_data s t) (v n)) refl
    where
      l : t < length (candidates s)
      l = below n t e

      same : (a b : Bool) → signed a b ≡ true → b ≡ a
      same true true h = refl
      same true false h = absurd (no_false false h refl)
      same false true h = absurd (no_false false h refl)
      same false false h = refl

      other : (a b : Bool) → signed a b ≡ false → b ≡ not a
      other true true h = absurd (no_false true refl h)
      other true false h = refl
      other false true h = refl
      other false false h = absurd (no_false true refl h)

      out : signed (in_data s t) (v n) ≡ true → ¬ (Contains (changed s v ats) t)
      out h c =
          let r = turned_back s v 0 ats t c in
          let m : r.0 ≡ n = apart r.0 n (atom.Triple t) r.1 e in
          let z : 0 + r.0 ≡ n = omega (arith, m) in
          no_false (signed (in_data s t) (v n)) h (subst (λ i. signed (in_data s t) (v i) ≡ false) z r.2)

      pick : (b : Bool) → signed (in_data s t) (v n) ≡ b → HoldsIf (v n) (Means s (edited_by s (changed s v ats)) (atom.Triple t))
      pick true h = subst (λ b. HoldsIf b (Means s (edited_by s (changed s v ats)) (atom.Triple t))) (sym (same (in_data s t) (v n) h)) (stays s disjoint (changed s v ats) t l (out h))
      pick false h =
          let z : n ≡ 0 + n = omega arith in
          subst (λ b. HoldsIf b (Means s (edited_by s (changed s v ats)) (atom.Triple t))) (sym (other (in_data s t) (v n) h)) (turns s disjoint (changed s v ats) t l (turned_there s v 0 ats t n e (subst (λ i. signed (in_data s t) (v i) ≡ false) z h)))

  pub changed_candidates : AreCandidates s (changed s v ats)
  changed_candidates i d lt =
      let r = turned_back s v 0 ats (get_or (changed s v ats) i d) (i, lt, get_or_from_slice_get (changed s v ats) i (get_or (changed s v ats) i d) (get_or (changed s v ats) i d) (slice_get-get_or (changed s v ats) i d lt)) in
      below r.0 (get_or (changed s v ats) i d) r.1
