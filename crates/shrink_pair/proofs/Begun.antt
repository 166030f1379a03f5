-- How a session begins: with the candidates that stand in a clause, and the premises of the problem.
use Rattle.std.proofs.Common.{◌≡◌, ◌≢◌, ◌⊎◌, inl, inr, ℕ, zero, suc, ◌+◌, ◌<◌, ◌≤◌, Bool, true, false, not, ◌&&◌, nat_lt, nat_eq, IsTrue, List, [], ◌∷◌, ◌++◌, map, length, Contains, Option, Some, None, slice_get, refl, sym, ap, ◌∙◌, subst, eqb-true, arith}
use Rattle.std.proofs.lemmas.Bool.{lt-ltb, ltb-true}
use Rattle.std.proofs.lemmas.List.{map-append}
use Rattle.std.proofs.lemmas.List.Elements.{Contains-append_left, Contains-append_right, Contains-append_cases}
use Rattle.rdf_terms.proofs.Members.{in_none, in_first, in_rest, in_cases, in_map, map_in}
use Rattle.shapes_profile.specs.Profile.{IsInProfile}
use Rattle.shapes_profile.specs.Shapes.{shape_terms}
use Rattle.clause_store.specs.declared.lit.Lit.{Lit}
use Rattle.clause_store.specs.Clauses.{is_clause, is_within, are_within}
use Rattle.repair_problem.specs.declared.atom.Atom.{Atom}
use Rattle.repair_problem.specs.declared.atom.Atom.TheVariants as atom
use Rattle.repair_problem.specs.declared.atom.Literal.{Literal}
use Rattle.repair_problem.specs.Repair.{Apart}
use Rattle.repair_problem.specs.Setting.{Setting, full}
use Rattle.repair_problem.specs.Candidates.{candidates, in_data}
use Rattle.proof_lines.specs.declared.rule.Rule.{Rule}
use Rattle.proof_lines.specs.declared.rule.RuleName.{RuleName}
use Rattle.proof_lines.specs.declared.rule.RuleName.TheVariants as rule
use Rattle.path_levels.specs.PossibleNodes.{node_count}
use Rattle.atom_parts.specs.PartLiterals.{In}
use Rattle.atom_parts.specs.Fixing.{NoAtom, fixing}
use Rattle.premise_rules.specs.declared.clause.Clause.TheVariants.{Literals}
use Rattle.premise_rules.specs.RuleClauses.{rule_clause}
use Rattle.premise_rules.specs.Documents.{Lines, no_lines, Leads, IsFreshStep}
use Rattle.premise_rules.proofs.PremiseLaws.{premise as premise_holds}
use Rattle.atom_numbers.specs.Numbers.{clause_of, AreApart, AreOnce}
use Rattle.atom_numbers.proofs.Clauses.{once_clause}
use Rattle.certificates.proofs.Kept.{rule_once}
use Rattle.certificates.proofs.Sound.{some_is, none_some}
use Rattle.clause_ground.specs.declared.premise.Premise.{Premise}
use Rattle.clause_ground.specs.Premises.{rules_of, clauses_of}
use Rattle.clause_ground.specs.Needed.{root, rule_at, clause_in, NeededIn, IsNeeded, IsInNumbers, AreNeeded}
use Rattle.clause_ground.specs.RootClauses.{root_literals}
use Rattle.clause_ground.proofs.Finished.{literals_are}
use Rattle.clause_ground.proofs.RootLaws.{root_clause, possible_shape}
use Rattle.clause_ground.proofs.RootLists.{full_edit}
use Rattle.shrink_pair.specs.declared.candidates.Candidate.{Candidate}
use Rattle.shrink_pair.specs.Sessions.{numbers, unchanged_lits, Rises, IsNumbered, IsCandidateAt, AreNumbered, AreProper, IsSession, started, with_premises, rule_lines}
use Rattle.shrink_pair.proofs.LeadsLaws.{leads_rules, rules_count, rules_pairs, rules_writable}
use Rattle.shrink_pair.proofs.Listed.{length_end}
use Rattle.shrink_pair.proofs.PairLaws.{contains_in}

-- The clauses of needed rules.
module _ (s : Setting) (profile : IsInProfile s.shapes) (disjoint : Apart s.present s.offers) where
  -- a rule of an atom has no empty clause, since its clause is true of each edited graph
  rule_full : (a : Atom) (k : ℕ) (q : Rule) → rule_at a k ≡ Some q → clause_in s q ≢ Literals []
  rule_full (atom.Triple t) k q e f = none_some e
  rule_full (atom.Reach p x y) k q e f = premise_holds s profile disjoint [] (λ pair j n. absurd (none_some n)) rule.Reach (p ∷ x ∷ y ∷ k ∷ []) [] (subst (λ (r : Rule). clause_in s r ≡ Literals []) (sym (some_is e)) f) (full s) (full_edit s) tt
  rule_full (atom.Level p l x y) k q e f = premise_holds s profile disjoint [] (λ pair j n. absurd (none_some n)) rule.Level (p ∷ l ∷ x ∷ y ∷ k ∷ []) [] (subst (λ (r : Rule). clause_in s r ≡ Literals []) (sym (some_is e)) f) (full s) (full_edit s) tt
  rule_full (atom.Middle p l x z y) k q e f = premise_holds s profile disjoint [] (λ pair j n. absurd (none_some n)) rule.Middle (p ∷ l ∷ x ∷ z ∷ y ∷ k ∷ []) [] (subst (λ (r : Rule). clause_in s r ≡ Literals []) (sym (some_is e)) f) (full s) (full_edit s) tt
  rule_full (atom.Good i y) k q e f = premise_holds s profile disjoint [] (λ pair j n. absurd (none_some n)) rule.Good (i ∷ y ∷ k ∷ []) [] (subst (λ (r : Rule). clause_in s r ≡ Literals []) (sym (some_is e)) f) (full s) (full_edit s) tt
  rule_full (atom.Marked i x y) k q e f = premise_holds s profile disjoint [] (λ pair j n. absurd (none_some n)) rule.Marked (i ∷ x ∷ y ∷ k ∷ []) [] (subst (λ (r : Rule). clause_in s r ≡ Literals []) (sym (some_is e)) f) (full s) (full_edit s) tt
  rule_full (atom.Count i x j m) k q e f = premise_holds s profile disjoint [] (λ pair j n. absurd (none_some n)) rule.Count (i ∷ x ∷ j ∷ m ∷ k ∷ []) [] (subst (λ (r : Rule). clause_in s r ≡ Literals []) (sym (some_is e)) f) (full s) (full_edit s) tt
  rule_full (atom.Differ i x y) k q e f = premise_holds s profile disjoint [] (λ pair j n. absurd (none_some n)) rule.Differ (i ∷ x ∷ y ∷ k ∷ []) [] (subst (λ (r : Rule). clause_in s r ≡ Literals []) (sym (some_is e)) f) (full s) (full_edit s) tt
  rule_full (atom.Twin i x y z) k q e f = premise_holds s profile disjoint [] (λ pair j n. absurd (none_some n)) rule.Twin (i ∷ x ∷ y ∷ z ∷ k ∷ []) [] (subst (λ (r : Rule). clause_in s r ≡ Literals []) (sym (some_is e)) f) (full s) (full_edit s) tt
  rule_full (atom.Holds i x) k q e f = premise_holds s profile disjoint [] (λ pair j n. absurd (none_some n)) rule.Holds (i ∷ x ∷ k ∷ []) [] (subst (λ (r : Rule). clause_in s r ≡ Literals []) (sym (some_is e)) f) (full s) (full_edit s) tt
  rule_full (atom.Conforms n x) k q e f = premise_holds s profile disjoint [] (λ pair j n. absurd (none_some n)) rule.Conforms (n ∷ x ∷ k ∷ []) [] (subst (λ (r : Rule). clause_in s r ≡ Literals []) (sym (some_is e)) f) (full s) (full_edit s) tt
  rule_full (atom.Target n x) k q e f = premise_holds s profile disjoint [] (λ pair j n. absurd (none_some n)) rule.Target (n ∷ x ∷ k ∷ []) [] (subst (λ (r : Rule). clause_in s r ≡ Literals []) (sym (some_is e)) f) (full s) (full_edit s) tt

  needed_full : (n : ℕ) (q : Rule) → NeededIn s n q → clause_in s q ≢ Literals []
  needed_full zero q h e =
      let l = possible_shape s h.0 h.1 h.2 in
      let own : clause_in s q ≡ Literals (root_literals h.0 h.1) = ap (clause_in s) h.3 ∙ root_clause s h.0 h.1 (lt-ltb h.0 (length (shape_terms s.shapes)) l.0) (lt-ltb h.1 (node_count s) l.1) in
      some_literal (literals_are (sym own ∙ e))
    where
      some_literal : {l : Literal} {ls : List Literal} → l ∷ ls ≡ [] → ⊥
      some_literal f = cc
  needed_full (suc n) q (inl h) e = needed_full n q h e
  needed_full (suc n) q (inr h) e = rule_full h.1 h.4.0 q h.4.2 e

  module _ (ats : List Atom) (ps : List Premise) (needed : AreNeeded s ps ats) where
    in_numbers : (p : Premise) → Contains ps p → IsInNumbers s ats p
    in_numbers p k = needed.numbered p (contains_in ps p k)

    -- the clauses have a literal each, and no variable twice
    pub proper : AreProper ps
    proper p k =
        let n = in_numbers p k in
        let own : AreOnce (clause_of ats p.lits) = rule_once s [] p.rule.name p.rule.numbers (clause_of ats p.lits) n.0 in
        let r = ((needed.needed p.rule).0 (contains_in (rules_of ps) p.rule (in_map (λ (x : Premise). x.rule) ps p k))).0 in
        (λ e. needed_full r.0 p.rule r.1 (n.0 ∙ ap (λ c. Literals (clause_of ats c)) e), once_clause ats p.lits own)

all_within : (s : Setting) (ats : List Atom) (ps : List Premise) → ((p : Premise) → Contains ps p → IsInNumbers s ats p) → are_within (length ats) (clauses_of ps) ≡ true
all_within s ats [] h = refl
all_within s ats (p ∷ ps) h = both (is_within (length ats) p.lits) (are_within (length ats) (clauses_of ps)) (h p (in_first p ps)).1 (all_within s ats ps (λ q k. h q (in_rest p ps q k)))
  where
    both : (a b : Bool) → a ≡ true → b ≡ true → (a && b) ≡ true
    both true b e g = g
    both false b e g = e

-- what holds the premises is a session
pub begun : (s : Setting) (ats : List Atom) (ps : List Premise) → AreNeeded s ps ats → (cs : List Candidate) → AreNumbered s ats (length (candidates s)) cs → IsSession s ats ps (with_premises (started cs) ps)
begun s ats ps needed cs h =
    record {
      chain = [];
      leads = leads_rules s IsFreshStep [] ats [] ps (λ p k. (needed.numbered p (contains_in ps p k)).0);
      within = all_within s ats ps (λ p k. needed.numbered p (contains_in ps p k));
      grounded = λ c k. k;
      numbered = h.numbered;
      rises = h.rises;
      settled = λ c k. inl (h.all c.unchanged.var c.number k.atom k.below);
      last = λ lt. absurd (omega (arith, lt));
      undone = λ lt. absurd (omega (arith, lt));
      count = refl;
      pairs = rules_pairs ps;
      few = let f = h.few in omega (arith, f);
      steps = rules_count ps;
      writable = rules_writable ps;
    }

-- The candidates that stand in a clause, one after another.
pub none_numbered : (s : Setting) (ats : List Atom) (cs : List Candidate) → cs ≡ [] → AreNumbered s ats 0 cs
none_numbered s ats cs e =
    subst (AreNumbered s ats 0) (sym e) (record {
      numbered = λ c k. absurd (in_none c k);
      below = λ c k. absurd (in_none c k);
      rises = tt;
      all = λ v t g lt. absurd (omega (arith, lt));
      few = omega arith;
    })

rises_end : (cs : List Candidate) (c : Candidate) → Rises (numbers cs) → ((d : Candidate) → Contains cs d → d.number < c.number) → Rises (numbers (cs ++ c ∷ []))
rises_end [] c r f = (λ m k. absurd (in_none m k), tt)
rises_end (d ∷ cs) c r f = (less, rises_end cs c r.1 (λ e k. f e (in_rest d cs e k)))
  where
    less : (m : ℕ) → Contains (numbers (cs ++ c ∷ [])) m → d.number < m
    less m k =
        let x = map_in (λ (y : Candidate). y.number) (cs ++ c ∷ []) m k in
        subst (λ n. d.number < n) x.2 (at x.0 (Contains-append_cases cs (c ∷ []) x.0 x.1))
      where
        at : (x : Candidate) → Contains cs x ⊎ Contains (c ∷ []) x → d.number < x.number
        at x (inl h) = r.0 x.number (in_map (λ (y : Candidate). y.number) cs x h)
        at x (inr h) = one (in_cases c [] x h)
          where
            one : (c ≡ x) ⊎ Contains [] x → d.number < x.number
            one (inl e) = subst (λ (y : Candidate). d.number < y.number) e (f d (in_first d cs))
            one (inr g) = absurd (in_none x g)

last_number : (t k : ℕ) → t < k + 1 → (t < k) ⊎ (t ≡ k)
last_number t k lt = at (nat_lt t k) refl
  where
    at : (b : Bool) → nat_lt t k ≡ b → (t < k) ⊎ (t ≡ k)
    at true e = inl (ltb-true t k e)
    at false e = inr (grind (arith, lt, e))

pub numbered_more : (s : Setting) (ats : List Atom) (k : ℕ) (cs new : List Candidate) (c : Candidate) → AreNumbered s ats k cs → IsCandidateAt s ats k (Some c) → new ≡ cs ++ c ∷ [] → AreNumbered s ats (k + 1) new
numbered_more s ats k cs new c h own e =
    subst (AreNumbered s ats (k + 1)) (sym e) (record {
      numbered = λ d m. pick d (IsNumbered s ats d) (Contains-append_cases cs (c ∷ []) d m) (λ n. h.numbered d n) (λ g. subst (IsNumbered s ats) g own.1);
      below = λ d m. pick d (d.number < k + 1) (Contains-append_cases cs (c ∷ []) d m) (λ n. let l = h.below d n in omega (arith, l)) (λ g. let f : d.number ≡ k = ap (λ (x : Candidate). x.number) (sym g) ∙ own.0 in omega (arith, f));
      rises = rises_end cs c h.rises (λ d m. let l = h.below d m in let f = own.0 in omega (arith, l, f));
      all = λ v t g lt. there v t g (last_number t k lt);
      few = let n = length_end cs c in let f = h.few in omega (arith, n, f);
    })
  where
    pick : (d : Candidate) (P : Type 0) → Contains cs d ⊎ Contains (c ∷ []) d → (Contains cs d → P) → (c ≡ d → P) → P
    pick d P (inl m) f g = f m
    pick d P (inr m) f g = one (in_cases c [] d m)
      where
        one : (c ≡ d) ⊎ Contains [] d → P
        one (inl i) = g i
        one (inr n) = absurd (in_none d n)

    numbers_end : numbers (cs ++ c ∷ []) ≡ numbers cs ++ c.number ∷ []
    numbers_end = map-append (λ (x : Candidate). x.number) cs (c ∷ [])

    there : (v t : ℕ) → slice_get ats v ≡ Some (atom.Triple t) → (t < k) ⊎ (t ≡ k) → Contains (numbers (cs ++ c ∷ [])) t
    there v t g (inl l) = subst (λ ns. Contains ns t) (sym numbers_end) (Contains-append_left (numbers cs) (c.number ∷ []) t (h.all v t g l))
    there v t g (inr f) = subst (λ ns. Contains ns t) (sym numbers_end) (Contains-append_right (numbers cs) (c.number ∷ []) t (subst (Contains (c.number ∷ [])) (own.0 ∙ sym f) (in_first c.number [])))

pub numbered_same : (s : Setting) (ats : List Atom) (k : ℕ) (cs : List Candidate) → AreNumbered s ats k cs → IsCandidateAt s ats k None → AreNumbered s ats (k + 1) cs
numbered_same s ats k cs h none =
    record {
      numbered = h.numbered;
      below = λ c m. let l = h.below c m in omega (arith, l);
      rises = h.rises;
      all = λ v t g lt. there v t g (last_number t k lt);
      few = let f = h.few in omega (arith, f);
    }
  where
    there : (v t : ℕ) → slice_get ats v ≡ Some (atom.Triple t) → (t < k) ⊎ (t ≡ k) → Contains (numbers cs) t
    there v t g (inl l) = h.all v t g l
    there v t g (inr f) = absurd (none v (g ∙ ap (λ n. Some (atom.Triple n)) f))

-- all of them
pub numbered_whole : (s : Setting) (ats : List Atom) (k n : ℕ) (cs : List Candidate) → k ≡ n → AreNumbered s ats k cs → AreNumbered s ats n cs
numbered_whole s ats k n cs e h = subst (λ m. AreNumbered s ats m cs) e h
