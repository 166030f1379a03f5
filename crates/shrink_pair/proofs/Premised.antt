-- The premises that a session tells: their clauses are those of their rules.
use Rattle.std.proofs.Common.{◌≡◌, ◌≢◌, ◌⊎◌, inl, inr, ℕ, zero, suc, ◌+◌, ◌<◌, ◌≤◌, Bool, true, false, not, ◌&&◌, ◌||◌, cond, nat_eq, nat_lt, List, [], ◌∷◌, ◌++◌, map, length, get_or, Contains, Option, Some, None, slice_get, refl, sym, ap, ◌∙◌, subst, eqb-true, arith}
use Rattle.std.specs.Prelude.{option_and_then, if◌then◌else◌}
use Rattle.std.specs.List.{list_any, filter}
use Rattle.std.proofs.lemmas.Bool.{lt-ltb}
use Rattle.std.proofs.lemmas.Option.{get_or_from_slice_get}
use Rattle.rdf_terms.proofs.Members.{in_none, in_first, in_rest, in_cases, in_map, map_in, in_filter, filter_in}
use Rattle.clause_store.specs.declared.lit.Lit.{Lit}
use Rattle.clause_store.specs.Clauses.{mentions, is_clause, is_within}
use Rattle.clause_store.proofs.Sets.{never, true_or_false, or_cases}
use Rattle.repair_problem.specs.declared.atom.Atom.{Atom}
use Rattle.repair_problem.specs.declared.atom.Atom.TheVariants.{Triple}
use Rattle.repair_problem.specs.declared.atom.Literal.{Literal}
use Rattle.repair_problem.specs.declared.atom.Part.{Part}
use Rattle.repair_problem.specs.Setting.{Setting}
use Rattle.repair_problem.specs.Candidates.{candidates, in_data}
use Rattle.proof_lines.specs.declared.rule.RuleName.TheVariants.{Outside, Undo}
use Rattle.count_encode.specs.PartTruth.{signed, is_true}
use Rattle.atom_parts.specs.PartLiterals.{literals}
use Rattle.premise_rules.specs.declared.clause.Clause.{Clause}
use Rattle.premise_rules.specs.declared.clause.Clause.TheVariants.{Literals, Tautology}
use Rattle.premise_rules.specs.Literals.{same_literal, distinct, is_tautology, finished}
use Rattle.premise_rules.specs.RuleClauses.{unchanged, outside_parts, undo_parts, rule_parts, rule_clause}
use Rattle.premise_rules.proofs.SameLiterals.{same_is}
use Rattle.atom_numbers.specs.Numbers.{literal_of, clause_of, AreApart}
use Rattle.atom_numbers.proofs.Clauses.{lit_same, mention_in, unmentioned}
use Rattle.certificates.proofs.Sound.{some_is, none_some}
use Rattle.clause_ground.proofs.PartValues.{tautology_value}
use Rattle.shrink_pair.specs.declared.candidates.Candidate.{Candidate}
use Rattle.shrink_pair.specs.Sessions.{numbers, unchanged_lits, Rises, IsNumbered}

module _ (s : Setting) where
  -- the candidate as it is in the data
  abbrev as_in_data : ℕ → Literal
  as_in_data t = record { atom = Triple t; positive = in_data s t }

  abbrev undoing : List ℕ → List Literal
  undoing pair = map as_in_data pair

  -- each candidate against the data
  abbrev against : Atom → Bool
  against (Triple t) = not (in_data s t)
  against _ = true

  literals_are : (pair : List ℕ) → literals (map (unchanged s) pair) ≡ undoing pair
  literals_are [] = refl
  literals_are (t ∷ ts) = ap (λ ls. as_in_data t ∷ ls) (literals_are ts)

  all_false : (pair : List ℕ) → is_true against (map (unchanged s) pair) ≡ false
  all_false [] = refl
  all_false (t ∷ ts) = ap (λ b. b || is_true against (map (unchanged s) ts)) (at (in_data s t)) ∙ all_false ts
    where
      at : (b : Bool) → signed b (not b) ≡ false
      at true = refl
      at false = refl

  other : (t u : ℕ) → t < u → same_literal (as_in_data t) (as_in_data u) ≡ false
  other t u lt = go (same_literal (as_in_data t) (as_in_data u)) refl
    where
      number : {a b : ℕ} → Triple a ≡ Triple b → a ≡ b
      number e = cc

      go : (b : Bool) → same_literal (as_in_data t) (as_in_data u) ≡ b → b ≡ false
      go true e = let n : t ≡ u = number (ap (λ (l : Literal). l.atom) (same_is (as_in_data t) (as_in_data u) e)) in absurd (omega (arith, lt, n))
      go false e = refl

  kept_all : (t : ℕ) (ts : List ℕ) → ((u : ℕ) → Contains ts u → t < u) → filter (λ m. not (same_literal (as_in_data t) m)) (undoing ts) ≡ undoing ts
  kept_all t [] h = refl
  kept_all t (u ∷ us) h = rw (other t u (h u (in_first u us))) (ap (λ ls. as_in_data u ∷ ls) (kept_all t us (λ v k. h v (in_rest u us v k))))

  distinct_are : (pair : List ℕ) → Rises pair → distinct (undoing pair) ≡ undoing pair
  distinct_are [] r = refl
  distinct_are (t ∷ ts) r = ap (λ ls. as_in_data t ∷ filter (λ m. not (same_literal (as_in_data t) m)) ls) (distinct_are ts r.1) ∙ ap (λ ls. as_in_data t ∷ ls) (kept_all t ts r.0)

  -- of ascending candidates
  finished_are : (pair : List ℕ) → Rises pair → finished (Some (map (unchanged s) pair)) ≡ Literals (undoing pair)
  finished_are pair r = cases (is_tautology (map (unchanged s) pair)) refl
    where
      cases : (b : Bool) → is_tautology (map (unchanged s) pair) ≡ b → cond (is_tautology (map (unchanged s) pair)) Tautology (Literals (distinct (literals (map (unchanged s) pair)))) ≡ Literals (undoing pair)
      cases true e = never (tautology_value against (map (unchanged s) pair) (rw e refl)) (all_false pair)
      cases false e = rw e (ap (λ ls. Literals ls) (ap distinct (literals_are pair) ∙ distinct_are pair r))

  undo_shown : (chain : List (List ℕ)) (j : ℕ) (pair : List ℕ) → slice_get chain j ≡ Some pair → Rises pair → rule_clause s chain Undo (j ∷ []) ≡ Literals (undoing pair)
  undo_shown chain j pair e r = ap (λ o. finished (option_and_then (λ p. Some (undo_parts s p)) o)) e ∙ finished_are pair r

  outside_shown : (chain : List (List ℕ)) (j t : ℕ) (pair : List ℕ) → slice_get chain j ≡ Some pair → t < length (candidates s) → ¬ (Contains pair t) → rule_clause s chain Outside (j ∷ t ∷ []) ≡ Literals (undoing (t ∷ []))
  outside_shown chain j t pair e lt out =
      ap (λ o. finished (option_and_then (outside_parts s t) o)) e
      ∙ (ap finished (parts (nat_lt t (length (candidates s))) (list_any (λ u. nat_eq t u) pair) (lt-ltb t (length (candidates s)) lt) (none pair out)) ∙ finished_are (t ∷ []) (λ m h. absurd (in_none m h), tt))
    where
      parts : (a b : Bool) → a ≡ true → b ≡ false → cond (a && not b) (Some (unchanged s t ∷ [])) None ≡ Some (unchanged s t ∷ [])
      parts true false f g = refl
      parts true true f g = never refl g
      parts false b f g = never f refl

      none : (ns : List ℕ) → ¬ (Contains ns t) → list_any (λ u. nat_eq t u) ns ≡ false
      none [] h = refl
      none (n ∷ ns) h = go (nat_eq t n) refl (none ns (λ k. h (in_rest n ns t k)))
        where
          go : (b : Bool) → nat_eq t n ≡ b → list_any (λ u. nat_eq t u) ns ≡ false → (b || list_any (λ u. nat_eq t u) ns) ≡ false
          go true f k = absurd (h (subst (Contains (n ∷ ns)) (sym (eqb-true t n f)) (in_first n ns)))
          go false f k = k

module _ (s : Setting) (ats : List Atom) where
  literal_is : (c : Candidate) → IsNumbered s ats c → literal_of ats c.unchanged ≡ as_in_data s c.number
  literal_is c h =
      let e : get_or ats c.unchanged.var (Triple 0) ≡ Triple c.number = get_or_from_slice_get ats c.unchanged.var (Triple c.number) (Triple 0) h.atom in
      let f : c.unchanged.positive ≡ in_data s c.number = h.sign in
      λ i. record { atom = e i; positive = f i }

  -- the clause that some candidate is as in the data
  pub unchanged_clause : (cs : List Candidate) → ((c : Candidate) → Contains cs c → IsNumbered s ats c) → clause_of ats (unchanged_lits cs) ≡ undoing s (numbers cs)
  unchanged_clause [] h = refl
  unchanged_clause (c ∷ cs) h =
      let e = literal_is c (h c (in_first c cs)) in
      let f = unchanged_clause cs (λ d k. h d (in_rest c cs d k)) in
      λ i. e i ∷ f i

  pub undo_clause : (chain : List (List ℕ)) (j : ℕ) (cs : List Candidate) → slice_get chain j ≡ Some (numbers cs) → Rises (numbers cs) → ((c : Candidate) → Contains cs c → IsNumbered s ats c) → rule_clause s chain Undo (j ∷ []) ≡ Literals (clause_of ats (unchanged_lits cs))
  undo_clause chain j cs e r h = undo_shown s chain j (numbers cs) e r ∙ ap (λ ls. Literals ls) (sym (unchanged_clause cs h))

  pub outside_clause : (chain : List (List ℕ)) (j : ℕ) (pair : List ℕ) (c : Candidate) → slice_get chain j ≡ Some pair → IsNumbered s ats c → ¬ (Contains pair c.number) → rule_clause s chain Outside (j ∷ c.number ∷ []) ≡ Literals (clause_of ats (c.unchanged ∷ []))
  outside_clause chain j pair c e h out = outside_shown s chain j c.number pair e h.below out ∙ ap (λ ls. Literals ls) (sym (unchanged_clause (c ∷ []) (λ d k. subst (IsNumbered s ats) (only d k) h)))
    where
      only : (d : Candidate) → Contains (c ∷ []) d → c ≡ d
      only d k = at (in_cases c [] d k)
        where
          at : (c ≡ d) ⊎ Contains [] d → c ≡ d
          at (inl f) = f
          at (inr g) = absurd (in_none d g)

  -- a candidate has one number as an atom, and its literal is one
  pub one_candidate : AreApart ats → (c d : Candidate) → IsNumbered s ats c → IsNumbered s ats d → c.number ≡ d.number → c.unchanged ≡ d.unchanged
  one_candidate apart c d h g e = lit_same c.unchanged d.unchanged (apart c.unchanged.var d.unchanged.var (Triple d.number) (subst (λ t. slice_get ats c.unchanged.var ≡ Some (Triple t)) e h.atom) g.atom) (h.sign ∙ (ap (in_data s) e ∙ sym g.sign))

  -- no variable stands twice in the literals of ascending candidates
  pub unchanged_once : (cs : List Candidate) → ((c : Candidate) → Contains cs c → IsNumbered s ats c) → Rises (numbers cs) → is_clause (unchanged_lits cs) ≡ true
  unchanged_once [] h r = refl
  unchanged_once (c ∷ cs) h r = both (true_or_false (mentions (unchanged_lits cs) c.unchanged.var)) (unchanged_once cs (λ d k. h d (in_rest c cs d k)) r.1)
    where
      number : {a b : ℕ} → Triple a ≡ Triple b → a ≡ b
      number e = cc

      twice : (l : Lit) → Contains (unchanged_lits cs) l → l.var ≡ c.unchanged.var → ⊥
      twice l k v =
          let d = map_in (λ (x : Candidate). x.unchanged) cs l k in
          let own = (h c (in_first c cs)).atom in
          let there = (h d.0 (in_rest c cs d.0 d.1)).atom in
          let e : d.0.number ≡ c.number = number (some_is (sym there ∙ (ap (λ n. slice_get ats n) (ap (λ (x : Lit). x.var) d.2 ∙ v) ∙ own))) in
          let lt = r.0 d.0.number (in_map (λ (x : Candidate). x.number) cs d.0 d.1) in
          absurd (omega (arith, e, lt))

      both : (mentions (unchanged_lits cs) c.unchanged.var ≡ true) ⊎ (mentions (unchanged_lits cs) c.unchanged.var ≡ false) → is_clause (unchanged_lits cs) ≡ true → (not (mentions (unchanged_lits cs) c.unchanged.var) && is_clause (unchanged_lits cs)) ≡ true
      both (inl e) f = let m = mention_in (unchanged_lits cs) c.unchanged.var e in absurd (twice m.0 m.1 m.2)
      both (inr e) f = ap (λ b. not b && is_clause (unchanged_lits cs)) e ∙ f

-- what is picked of ascending candidates ascends
pub rises_filter : (p : Candidate → Bool) (cs : List Candidate) → Rises (numbers cs) → Rises (numbers (filter p cs))
rises_filter p [] r = tt
rises_filter p (c ∷ cs) r = go (p c) (rises_filter p cs r.1)
  where
    less : (m : ℕ) → Contains (numbers (filter p cs)) m → c.number < m
    less m k =
        let d = map_in (λ (x : Candidate). x.number) (filter p cs) m k in
        subst (λ n. c.number < n) d.2 (r.0 d.0.number (in_map (λ (x : Candidate). x.number) cs d.0 (filter_in p cs d.0 d.1).0))

    go : (b : Bool) → Rises (numbers (filter p cs)) → Rises (numbers (cond b (c ∷ filter p cs) (filter p cs)))
    go true h = (less, h)
    go false h = h
