-- Lines that lead on: rules of premises, and steps that a solver has learned.
use Rattle.std.proofs.Common.{◌≡◌, ◌≢◌, ◌⊎◌, inl, inr, ℕ, zero, suc, ◌+◌, ◌<◌, ◌≤◌, Bool, true, false, ◌&&◌, List, [], ◌∷◌, ◌++◌, map, length, drop, Contains, Some, slice_get, refl, sym, ap, ◌∙◌, subst, append_assoc, append-nil, arith}
use Rattle.std.proofs.lemmas.List.{map-append}
use Rattle.std.proofs.lemmas.List.Elements.{Contains-append_left, Contains-append_right, Contains-append_cases}
use Rattle.rdf_terms.proofs.Members.{in_none, in_first, in_rest, in_cases, in_map}
use Rattle.clause_store.specs.declared.lit.Lit.{Lit}
use Rattle.clause_store.specs.Clauses.{is_clause, are_clauses, is_within, are_within}
use Rattle.clause_store.proofs.Sets.{and_left, and_right, are_within-push}
use Rattle.sat_core.specs.declared.trail.LogStep.{LogStep}
use Rattle.sat_core.specs.Assignments.{IsFresh}
use Rattle.sat_core.specs.Solving.{HasEmpty, AreLearned}
use Rattle.repair_problem.specs.declared.atom.Atom.{Atom}
use Rattle.repair_problem.specs.declared.atom.Literal.{Literal}
use Rattle.repair_problem.specs.Setting.{Setting}
use Rattle.proof_lines.specs.declared.proof.ProofLine.{ProofLine}
use Rattle.proof_lines.specs.declared.proof.ProofLine.TheVariants as line
use Rattle.premise_rules.specs.declared.clause.Clause.TheVariants.{Literals}
use Rattle.premise_rules.specs.RuleClauses.{rule_clause}
use Rattle.premise_rules.specs.Documents.{Lines, with_pair, with_clause, Leads, AnyStep, IsFreshStep}
use Rattle.atom_numbers.specs.Numbers.{clause_of, lines_of, AreApart}
use Rattle.atom_numbers.proofs.Clauses.{chained_there, chained_within}
use Rattle.certificates.specs.Steps.{step_count}
use Rattle.certificates.specs.Writing.{IsWritable}
use Rattle.clause_ground.specs.declared.premise.Premise.{Premise}
use Rattle.clause_ground.specs.Premises.{clauses_of}
use Rattle.shrink_pair.specs.Explanations.{pair_count}
use Rattle.shrink_pair.specs.Sessions.{rule_lines, step_lines}
use Rattle.shrink_pair.proofs.Listed.{place_of}
use Rattle.shrink_pair.proofs.FreshSteps.{fresh_there}

lines_end : (chain : List (List ℕ)) (ats : List Atom) (cs : List (List Lit)) (c : List Lit) → with_clause (lines_of chain ats cs) (clause_of ats c) ≡ lines_of chain ats (cs ++ c ∷ [])
lines_end chain ats cs c = let e = sym (map-append (clause_of ats) cs (c ∷ [])) in λ i. record { chain = chain; clauses = e i }

lines_again : (chain : List (List ℕ)) (ats : List Atom) (cs ds : List (List Lit)) → cs ≡ ds → lines_of chain ats cs ≡ lines_of chain ats ds
lines_again chain ats cs ds e = ap (lines_of chain ats) e

module _ (s : Setting) (Step : List (List Literal) → List Literal → Type 0) (chain : List (List ℕ)) (ats : List Atom) where
  -- the clause of each premise is that of its rule
  abbrev pub AreOfRules : List Premise → Type 0
  AreOfRules ps = (p : Premise) → Contains ps p → rule_clause s chain p.rule.name p.rule.numbers ≡ Literals (clause_of ats p.lits)

  pub leads_rules : (cs : List (List Lit)) (ps : List Premise) → AreOfRules ps → Leads s Step (lines_of chain ats cs) (rule_lines ps) (lines_of chain ats (cs ++ clauses_of ps))
  leads_rules cs [] h = lines_again chain ats cs (cs ++ []) (sym (append-nil cs))
  leads_rules cs (p ∷ ps) h = (
    clause_of ats p.lits,
    h p (in_first p ps),
    subst (λ (x : Lines). Leads s Step x (rule_lines ps) (lines_of chain ats (cs ++ clauses_of (p ∷ ps)))) (sym (lines_end chain ats cs p.lits))
        (subst (λ ds. Leads s Step (lines_of chain ats (cs ++ p.lits ∷ [])) (rule_lines ps) (lines_of chain ats ds)) (append_assoc cs (p.lits ∷ []) (clauses_of ps)) (leads_rules (cs ++ p.lits ∷ []) ps (λ q k. h q (in_rest p ps q k)))),
  )

first_clauses : (cs ds : List (List Lit)) → are_clauses (cs ++ ds) ≡ true → are_clauses cs ≡ true
first_clauses [] ds h = refl
first_clauses (c ∷ cs) ds h = both (is_clause c) (are_clauses cs) (and_left (is_clause c) (are_clauses (cs ++ ds)) h) (first_clauses cs ds (and_right (is_clause c) (are_clauses (cs ++ ds)) h))
  where
    both : (a b : Bool) → a ≡ true → b ≡ true → (a && b) ≡ true
    both true b e g = g
    both false b e g = e

-- the clauses before are among those behind, in front
pub learned_front : (cs : List (List Lit)) (steps : List LogStep) (ends : List (List Lit)) → AreLearned cs steps ends → (more : List (List Lit)) × (ends ≡ cs ++ more)
learned_front cs [] ends h = ([], sym h ∙ sym (append-nil cs))
learned_front cs (x ∷ steps) ends h =
    let r = learned_front (cs ++ h.0 ∷ []) steps ends h.4 in
    (h.0 ∷ r.0, r.1 ∙ append_assoc cs (h.0 ∷ []) r.0)

pub learned_within : (n : ℕ) (cs : List (List Lit)) (steps : List LogStep) (ends : List (List Lit)) → are_within n cs ≡ true → AreLearned cs steps ends → are_within n ends ≡ true
learned_within n cs [] ends w h = subst (λ x. are_within n x ≡ true) h w
learned_within n cs (x ∷ steps) ends w h = learned_within n (cs ++ h.0 ∷ []) steps ends (are_within-push n cs h.0 w (chained_within n cs x.ids h.0 w h.2)) h.4

module _ (s : Setting) (Step : List (List Literal) → List Literal → Type 0) (chain : List (List ℕ)) (ats : List Atom) (apart : AreApart ats) where
  -- what is asked of the steps
  abbrev IsAsked : List (List Lit) → Type 0
  IsAsked ends = (cs : List (List Lit)) (c : List Lit) → are_within (length ats) cs ≡ true → is_within (length ats) c ≡ true → Contains ends c → (c ≢ [] → IsFresh cs c) → Step (map (clause_of ats) cs) (clause_of ats c)

  leads_steps : (cs : List (List Lit)) (steps : List LogStep) (ends : List (List Lit)) → are_within (length ats) cs ≡ true → are_clauses ends ≡ true → AreLearned cs steps ends → IsAsked ends → Leads s Step (lines_of chain ats cs) (step_lines steps) (lines_of chain ats ends)
  leads_steps cs [] ends w once h asked = lines_again chain ats cs ends h
  leads_steps cs (x ∷ steps) ends w once h asked =
      let front = learned_front (cs ++ h.0 ∷ []) steps ends h.4 in
      let all : ends ≡ cs ++ (h.0 ∷ front.0) = front.1 ∙ append_assoc cs (h.0 ∷ []) front.0 in
      let inside = chained_within (length ats) cs x.ids h.0 w h.2 in (
        clause_of ats h.0,
        chained_there ats apart cs w (first_clauses cs (h.0 ∷ front.0) (subst (λ ds. are_clauses ds ≡ true) all once)) x.ids h.0 h.2,
        asked cs h.0 w inside (subst (λ ds. Contains ds h.0) (sym all) (Contains-append_right cs (h.0 ∷ front.0) h.0 (in_first h.0 front.0))) h.3,
        subst (λ (y : Lines). Leads s Step y (step_lines steps) (lines_of chain ats ends)) (sym (lines_end chain ats cs h.0)) (leads_steps (cs ++ h.0 ∷ []) steps ends (are_within-push (length ats) cs h.0 w inside) once h.4 asked),
      )

pub steps_lead : (s : Setting) (chain : List (List ℕ)) (ats : List Atom) → AreApart ats → (cs : List (List Lit)) (steps : List LogStep) (ends : List (List Lit)) → are_within (length ats) cs ≡ true → are_clauses ends ≡ true → AreLearned cs steps ends → Leads s AnyStep (lines_of chain ats cs) (step_lines steps) (lines_of chain ats ends)
steps_lead s chain ats apart cs steps ends w once h = leads_steps s AnyStep chain ats apart cs steps ends w once h (λ ds c wd wc k f. tt)

-- where none of the clauses is empty, the steps are fresh
pub fresh_lead : (s : Setting) (chain : List (List ℕ)) (ats : List Atom) → AreApart ats → (cs : List (List Lit)) (steps : List LogStep) (ends : List (List Lit)) → are_within (length ats) cs ≡ true → are_clauses ends ≡ true → ¬ (HasEmpty ends) → AreLearned cs steps ends → Leads s IsFreshStep (lines_of chain ats cs) (step_lines steps) (lines_of chain ats ends)
fresh_lead s chain ats apart cs steps ends w once full h = leads_steps s IsFreshStep chain ats apart cs steps ends w once h (λ ds c wd wc k f. fresh_there ats apart ds wd c wc (f (λ e. empty c k e)))
  where
    empty : (c : List Lit) → Contains ends c → c ≡ [] → ⊥
    empty c k e = let i = place_of ends c k in full (i.0, i.1 ∙ ap Some e)

-- whatever the steps are
pub leads_any : (s : Setting) (above : Lines) (ls : List ProofLine) (end : Lines) → Leads s IsFreshStep above ls end → Leads s AnyStep above ls end
leads_any s above [] end h = h
leads_any s above (line.Chain pair ∷ ls) end h = (h.0, leads_any s (with_pair above pair) ls end h.1)
leads_any s above (line.Rule q ∷ ls) end h = (h.0, h.1, leads_any s (with_clause above h.0) ls end h.2)
leads_any s above (line.Step ids ∷ ls) end h = (h.0, h.1, tt, leads_any s (with_clause above h.0) ls end h.3)

-- How many lines of each kind there are.
pub count_more : (ls ms : List ProofLine) → step_count (ls ++ ms) ≡ step_count ls + step_count ms
count_more [] ms = omega arith
count_more (line.Chain pair ∷ ls) ms = count_more ls ms
count_more (line.Rule q ∷ ls) ms = count_more ls ms
count_more (line.Step ids ∷ ls) ms = let r = count_more ls ms in omega (arith, r)

pub pairs_more : (ls ms : List ProofLine) → pair_count (ls ++ ms) ≡ pair_count ls + pair_count ms
pairs_more [] ms = omega arith
pairs_more (line.Chain pair ∷ ls) ms = let r = pairs_more ls ms in omega (arith, r)
pairs_more (line.Rule q ∷ ls) ms = pairs_more ls ms
pairs_more (line.Step ids ∷ ls) ms = pairs_more ls ms

pub pairs_few : (ls : List ProofLine) → pair_count ls ≤ length ls
pairs_few [] = omega arith
pairs_few (line.Chain pair ∷ ls) = let r = pairs_few ls in omega (arith, r)
pairs_few (line.Rule q ∷ ls) = let r = pairs_few ls in omega (arith, r)
pairs_few (line.Step ids ∷ ls) = let r = pairs_few ls in omega (arith, r)

pub rules_count : (ps : List Premise) → step_count (rule_lines ps) ≡ 0
rules_count [] = refl
rules_count (p ∷ ps) = rules_count ps

pub rules_pairs : (ps : List Premise) → pair_count (rule_lines ps) ≡ 0
rules_pairs [] = refl
rules_pairs (p ∷ ps) = rules_pairs ps

pub steps_count : (steps : List LogStep) → step_count (step_lines steps) ≡ length steps
steps_count [] = refl
steps_count (x ∷ steps) = ap suc (steps_count steps)

pub steps_pairs : (steps : List LogStep) → pair_count (step_lines steps) ≡ 0
steps_pairs [] = refl
steps_pairs (x ∷ steps) = steps_pairs steps

-- Lines that can be written.
abbrev pub AreWritable : List ProofLine → Type 0
AreWritable ls = (l : ProofLine) → Contains ls l → IsWritable l

pub writable_more : (ls ms : List ProofLine) → AreWritable ls → AreWritable ms → AreWritable (ls ++ ms)
writable_more ls ms f g l h = split (Contains-append_cases ls ms l h)
  where
    split : Contains ls l ⊎ Contains ms l → IsWritable l
    split (inl k) = f l k
    split (inr k) = g l k

pub rules_writable : (ps : List Premise) → AreWritable (rule_lines ps)
rules_writable [] l h = absurd (in_none l h)
rules_writable (p ∷ ps) l h = split (in_cases (line.Rule p.rule) (rule_lines ps) l h) (rules_writable ps l)
  where
    split : (line.Rule p.rule ≡ l) ⊎ Contains (rule_lines ps) l → (Contains (rule_lines ps) l → IsWritable l) → IsWritable l
    split (inl e) on = subst IsWritable e tt
    split (inr k) on = on k

pub steps_writable : (cs : List (List Lit)) (steps : List LogStep) (ends : List (List Lit)) → AreLearned cs steps ends → AreWritable (step_lines steps)
steps_writable cs [] ends h l k = absurd (in_none l k)
steps_writable cs (x ∷ steps) ends h l k = split (in_cases (line.Step x.ids) (step_lines steps) l k) (steps_writable (cs ++ h.0 ∷ []) steps ends h.4 l)
  where
    split : (line.Step x.ids ≡ l) ⊎ Contains (step_lines steps) l → (Contains (step_lines steps) l → IsWritable l) → IsWritable l
    split (inl e) on = subst IsWritable e h.2.0
    split (inr r) on = on r
