-- What a session keeps: behind the steps of a search, and behind a pair.
use Rattle.std.proofs.Common.{◌≡◌, ◌≢◌, ◌⊎◌, inl, inr, ℕ, zero, suc, ◌+◌, ◌<◌, ◌≤◌, Bool, true, false, not, ◌&&◌, nat_lt, IsTrue, List, [], ◌∷◌, ◌++◌, map, length, Contains, Some, slice_get, refl, sym, ap, ◌∙◌, subst, append_assoc, append-nil, arith}
use Rattle.std.proofs.lemmas.Bool.{lt-ltb}
use Rattle.std.proofs.lemmas.Option.{slice_get_within}
use Rattle.std.proofs.lemmas.List.Elements.{Contains-append_left, Contains-append_right, Contains-append_cases}
use Rattle.rdf_terms.proofs.Members.{in_none, in_first, in_rest, in_cases, in_map, map_in, in_filter, filter_in}
use Rattle.shapes_graph.specs.Conformance.{Conforms}
use Rattle.clause_store.specs.declared.lit.Lit.{Lit}
use Rattle.clause_store.specs.Clauses.{has, mentions, is_clause, are_clauses, is_within, are_within}
use Rattle.clause_store.proofs.Sets.{never, true_or_false, are_within-push}
use Rattle.sat_core.specs.declared.trail.LogStep.{LogStep}
use Rattle.sat_core.specs.Solving.{Solving, assigned, HasEmpty, AreLearned, IsModel}
use Rattle.repair_problem.specs.declared.atom.Atom.{Atom}
use Rattle.repair_problem.specs.Setting.{Setting}
use Rattle.repair_problem.specs.Candidates.{candidates, in_data}
use Rattle.proof_lines.specs.declared.proof.ProofLine.{ProofLine}
use Rattle.proof_lines.specs.declared.proof.ProofLine.TheVariants as line
use Rattle.proof_documents.specs.Document.{ascends}
use Rattle.premise_rules.specs.declared.clause.Clause.TheVariants.{Literals}
use Rattle.premise_rules.specs.RuleClauses.{rule_clause}
use Rattle.premise_rules.specs.Documents.{Lines, no_lines, IsLast, IsNextPair, Leads, IsFreshStep}
use Rattle.atom_numbers.specs.Numbers.{clause_of, lines_of, AreApart}
use Rattle.certificates.specs.Steps.{step_count}
use Rattle.certificates.specs.Writing.{IsWritable}
use Rattle.certificates.proofs.Standing.{leads_more}
use Rattle.clause_ground.specs.declared.premise.Premise.{Premise}
use Rattle.clause_ground.specs.Premises.{clauses_of}
use Rattle.clause_ground.specs.Needed.{AreNeeded}
use Rattle.clause_ground.specs.Models.{AreOfExplanations}
use Rattle.shrink_pair.specs.declared.candidates.Candidate.{Candidate}
use Rattle.shrink_pair.specs.Explanations.{pair_count}
use Rattle.shrink_pair.specs.Sessions.{numbers, unchanged_lits, Rises, IsNumbered, State, is_changed, changed_of, left_of, awaited, IsSession, IsSearched, with_pair, with_premises, with_steps, rule_lines, step_lines, outside_rule, undo_rule, outside_premise, outside_premises, undo_premise, descended}
use Rattle.shrink_pair.proofs.Listed.{last_at, length_end}
use Rattle.shrink_pair.proofs.LeadsLaws.{AreOfRules, leads_rules, fresh_lead, learned_front, learned_within, count_more, pairs_more, rules_count, rules_pairs, steps_count, steps_pairs, writable_more, rules_writable, steps_writable}
use Rattle.shrink_pair.proofs.Premised.{undo_clause, outside_clause, one_candidate, unchanged_once, rises_filter}
use Rattle.shrink_pair.proofs.PairLaws.{pair_explains, pair_below, pair_smaller, left_outside}

is_last : (chain : List (List ℕ)) (pair : List ℕ) → IsLast (chain ++ pair ∷ []) pair
is_last [] pair = refl
is_last (p ∷ []) pair = refl
is_last (p ∷ q ∷ rest) pair = is_last (q ∷ rest) pair

ascending : (ns : List ℕ) → Rises ns → ascends ns ≡ true
ascending [] r = refl
ascending (n ∷ []) r = refl
ascending (n ∷ m ∷ ns) r = both (nat_lt n m) (ascends (m ∷ ns)) (lt-ltb n m (r.0 m (in_first m ns))) (ascending (m ∷ ns) r.1)
  where
    both : (a b : Bool) → a ≡ true → b ≡ true → (a && b) ≡ true
    both true b e g = g
    both false b e g = e

module _ (s : Setting) (ats : List Atom) (ps : List Premise) (apart : AreApart ats) where
  -- behind steps none of which is of the empty clause
  pub steps_go_on : (t : State) (steps : List LogStep) (ends : List (List Lit)) → IsSession s ats ps t → AreLearned t.clauses steps ends → are_clauses ends ≡ true → ¬ (HasEmpty ends) → IsSession s ats ps (with_steps t steps ends)
  steps_go_on t steps ends h learned once full =
      record {
        chain = h.chain;
        leads = leads_more s IsFreshStep no_lines (lines_of h.chain ats t.clauses) t.lines (step_lines steps) (lines_of h.chain ats ends) h.leads (fresh_lead s h.chain ats apart t.clauses steps ends h.within once full learned);
        within = learned_within (length ats) t.clauses steps ends h.within learned;
        grounded = λ c k. kept c (h.grounded c k);
        numbered = h.numbered;
        rises = h.rises;
        settled = λ c k. side c (h.settled c k);
        last = h.last;
        undone = λ lt. kept (unchanged_lits t.changeable) (h.undone lt);
        count = h.count;
        pairs = let a = pairs_more t.lines (step_lines steps) in let b = steps_pairs steps in let c = h.pairs in omega (arith, a, b, c);
        few = h.few;
        steps = let a = count_more t.lines (step_lines steps) in let b = steps_count steps in let c = h.steps in let d = append_length t.log steps in omega (arith, a, b, c, d);
        writable = writable_more t.lines (step_lines steps) h.writable (steps_writable t.clauses steps ends learned);
      }
    where
      front : (more : List (List Lit)) × (ends ≡ t.clauses ++ more)
      front = learned_front t.clauses steps ends learned

      kept : (c : List Lit) → Contains t.clauses c → Contains ends c
      kept c k = subst (λ cs. Contains cs c) (sym front.1) (Contains-append_left t.clauses front.0 c k)

      side : (c : Candidate) → Contains (numbers t.changeable) c.number ⊎ Contains t.clauses (c.unchanged ∷ []) → Contains (numbers t.changeable) c.number ⊎ Contains ends (c.unchanged ∷ [])
      side c (inl k) = inl k
      side c (inr k) = inr (kept (c.unchanged ∷ []) k)

      append_length : (xs ys : List LogStep) → length (xs ++ ys) ≡ length xs + length ys
      append_length [] ys = omega arith
      append_length (x ∷ xs) ys = let r = append_length xs ys in omega (arith, r)

  module _ (needed : AreNeeded s ps ats) (facts : AreOfExplanations s (clauses_of ps) ats) (t : State) (h : IsSession s ats ps t) (sv : Solving) (same : sv.clauses ≡ t.clauses) (model : IsModel sv) where
    abbrev trail : List Lit
    trail = assigned sv

    abbrev now : List Candidate
    now = changed_of trail t.changeable

    abbrev left : List Candidate
    left = left_of trail t.changeable

    abbrev pair : List ℕ
    pair = numbers now

    abbrev outs : List Premise
    outs = outside_premises t.pairs left

    abbrev undo : Premise
    undo = undo_premise t.pairs now

    abbrev chain : List (List ℕ)
    chain = h.chain ++ pair ∷ []

    left_in : (c : Candidate) → Contains left c → Contains t.changeable c × (is_changed trail c ≡ false)
    left_in c k = let r = filter_in (λ (d : Candidate). not (is_changed trail d)) t.changeable c k in (r.0, turn (is_changed trail c) r.1)
      where
        turn : (b : Bool) → not b ≡ true → b ≡ false
        turn true e = sym e
        turn false e = refl

    now_numbered : (c : Candidate) → Contains now c → IsNumbered s ats c
    now_numbered c k = h.numbered c (filter_in (is_changed trail) t.changeable c k).0

    now_rises : Rises pair
    now_rises = rises_filter (is_changed trail) t.changeable h.rises

    -- the literals of the pair are a clause
    pub now_once : IsTrue (is_clause (unchanged_lits now))
    now_once = unchanged_once s ats now now_numbered now_rises

    pub next_pair : IsNextPair s h.chain pair
    next_pair =
        record {
          below = pair_below s ats ps apart needed t h sv same model;
          explains = pair_explains s ats ps apart needed t h sv same model facts;
        }

    at_pair : slice_get chain t.pairs ≡ Some pair
    at_pair = subst (λ n. slice_get chain n ≡ Some pair) h.count (last_at h.chain pair)

    outs_hold : AreOfRules s IsFreshStep chain ats outs
    outs_hold p k =
        let r = map_in (outside_premise t.pairs) left p k in
        let c = r.0 in
        let l = left_in c r.1 in
        subst (λ (x : Premise). rule_clause s chain x.rule.name x.rule.numbers ≡ Literals (clause_of ats x.lits)) r.2
        (outside_clause s ats chain t.pairs pair c at_pair (h.numbered c l.0) (left_outside s ats ps apart needed t h sv same model c l.0 l.1))

    undo_holds : AreOfRules s IsFreshStep chain ats (undo ∷ [])
    undo_holds p k = at (in_cases undo [] p k)
      where
        at : (undo ≡ p) ⊎ Contains [] p → rule_clause s chain p.rule.name p.rule.numbers ≡ Literals (clause_of ats p.lits)
        at (inl e) = subst (λ (x : Premise). rule_clause s chain x.rule.name x.rule.numbers ≡ Literals (clause_of ats x.lits)) e (undo_clause s ats chain t.pairs now at_pair now_rises now_numbered)
        at (inr g) = absurd (in_none p g)

    abbrev next : State
    next = descended t trail

    lead : Leads s IsFreshStep no_lines next.lines (lines_of chain ats next.clauses)
    lead =
        leads_more s IsFreshStep no_lines (lines_of chain ats (t.clauses ++ clauses_of outs)) ((t.lines ++ line.Chain pair ∷ []) ++ rule_lines outs) (rule_lines (undo ∷ [])) (lines_of chain ats next.clauses)
        (leads_more s IsFreshStep no_lines (lines_of chain ats t.clauses) (t.lines ++ line.Chain pair ∷ []) (rule_lines outs) (lines_of chain ats (t.clauses ++ clauses_of outs))
        (leads_more s IsFreshStep no_lines (lines_of h.chain ats t.clauses) t.lines (line.Chain pair ∷ []) (lines_of chain ats t.clauses) h.leads (next_pair, refl))
        (leads_rules s IsFreshStep chain ats t.clauses outs outs_hold))
        (leads_rules s IsFreshStep chain ats (t.clauses ++ clauses_of outs) (undo ∷ []) undo_holds)

    kept : (c : List Lit) → Contains t.clauses c → Contains next.clauses c
    kept c k = Contains-append_left (t.clauses ++ clauses_of outs) (unchanged_lits now ∷ []) c (Contains-append_left t.clauses (clauses_of outs) c k)

    lits_within : (cs : List Candidate) → ((c : Candidate) → Contains cs c → IsNumbered s ats c) → is_within (length ats) (unchanged_lits cs) ≡ true
    lits_within [] f = refl
    lits_within (c ∷ cs) f = both (nat_lt c.unchanged.var (length ats)) (is_within (length ats) (unchanged_lits cs)) (lt-ltb c.unchanged.var (length ats) (slice_get_within ats c.unchanged.var _ (f c (in_first c cs)).atom)) (lits_within cs (λ d k. f d (in_rest c cs d k)))
      where
        both : (a b : Bool) → a ≡ true → b ≡ true → (a && b) ≡ true
        both true b e g = g
        both false b e g = e

    within_more : (cs : List (List Lit)) (ds : List Candidate) → are_within (length ats) cs ≡ true → ((c : Candidate) → Contains ds c → IsNumbered s ats c) → are_within (length ats) (cs ++ clauses_of (outside_premises t.pairs ds)) ≡ true
    within_more cs [] w f = subst (λ x. are_within (length ats) x ≡ true) (sym (append-nil cs)) w
    within_more cs (c ∷ ds) w f =
        subst (λ x. are_within (length ats) x ≡ true) (append_assoc cs ((c.unchanged ∷ []) ∷ []) (clauses_of (outside_premises t.pairs ds)))
        (within_more (cs ++ (c.unchanged ∷ []) ∷ []) ds (are_within-push (length ats) cs (c.unchanged ∷ []) w (lits_within (c ∷ []) (λ d k. f d (one d k)))) (λ d k. f d (in_rest c ds d k)))
      where
        one : (d : Candidate) → Contains (c ∷ []) d → Contains (c ∷ ds) d
        one d k = at (in_cases c [] d k)
          where
            at : (c ≡ d) ⊎ Contains [] d → Contains (c ∷ ds) d
            at (inl e) = subst (Contains (c ∷ ds)) e (in_first c ds)
            at (inr g) = absurd (in_none d g)

    left_clause : (c : Candidate) → Contains left c → Contains next.clauses (c.unchanged ∷ [])
    left_clause c k = Contains-append_left (t.clauses ++ clauses_of outs) (unchanged_lits now ∷ []) (c.unchanged ∷ []) (Contains-append_right t.clauses (clauses_of outs) (c.unchanged ∷ []) (in_map (λ (p : Premise). p.lits) outs (outside_premise t.pairs c) (in_map (outside_premise t.pairs) left c k)))

    settles : (c : Candidate) → IsNumbered s ats c → Contains pair c.number ⊎ Contains next.clauses (c.unchanged ∷ [])
    settles c num = side (h.settled c num)
      where
        pick : (d : Candidate) → Contains t.changeable d → d.number ≡ c.number → (is_changed trail d ≡ true) ⊎ (is_changed trail d ≡ false) → Contains pair c.number ⊎ Contains next.clauses (c.unchanged ∷ [])
        pick d k e (inl g) = inl (subst (Contains pair) e (in_map (λ (x : Candidate). x.number) now d (in_filter (is_changed trail) t.changeable d k g)))
        pick d k e (inr g) = inr (subst (λ l. Contains next.clauses (l ∷ [])) (one_candidate s ats apart d c (h.numbered d k) num e) (left_clause d (in_filter (λ (x : Candidate). not (is_changed trail x)) t.changeable d k (ap not g))))

        side : Contains (numbers t.changeable) c.number ⊎ Contains t.clauses (c.unchanged ∷ []) → Contains pair c.number ⊎ Contains next.clauses (c.unchanged ∷ [])
        side (inl k) = let d = map_in (λ (x : Candidate). x.number) t.changeable c.number k in pick d.0 d.1 d.2 (true_or_false (is_changed trail d.0))
        side (inr k) = inr (kept (c.unchanged ∷ []) k)

    chain_writable : (l : ProofLine) → Contains (line.Chain pair ∷ []) l → IsWritable l
    chain_writable l k = at (in_cases (line.Chain pair) [] l k)
      where
        at : (line.Chain pair ≡ l) ⊎ Contains [] l → IsWritable l
        at (inl e) = subst IsWritable e (ascending pair now_rises)
        at (inr g) = absurd (in_none l g)

    -- behind a pair
    pub pair_goes_on : IsSession s ats ps (descended t trail)
    pair_goes_on =
        record {
          chain = chain;
          leads = lead;
          within = are_within-push (length ats) (t.clauses ++ clauses_of outs) (unchanged_lits now) (within_more t.clauses left h.within (λ c k. h.numbered c (left_in c k).0)) (lits_within now now_numbered);
          grounded = λ c k. kept c (h.grounded c k);
          numbered = now_numbered;
          rises = now_rises;
          settled = settles;
          last = λ lt. is_last h.chain pair;
          undone = λ lt. Contains-append_right (t.clauses ++ clauses_of outs) (unchanged_lits now ∷ []) (unchanged_lits now) (in_first (unchanged_lits now) []);
          count = length_end h.chain pair ∙ ap suc h.count;
          pairs =
              let a = pairs_more ((t.lines ++ line.Chain pair ∷ []) ++ rule_lines outs) (rule_lines (undo ∷ [])) in
              let b = pairs_more (t.lines ++ line.Chain pair ∷ []) (rule_lines outs) in
              let c = pairs_more t.lines (line.Chain pair ∷ []) in
              let d = rules_pairs outs in
              let e = h.pairs in
              omega (arith, a, b, c, d, e);
          few = let a = pair_smaller s ats ps apart needed t h sv same model in let b = h.few in omega (arith, a, b);
          steps =
              let a = count_more ((t.lines ++ line.Chain pair ∷ []) ++ rule_lines outs) (rule_lines (undo ∷ [])) in
              let b = count_more (t.lines ++ line.Chain pair ∷ []) (rule_lines outs) in
              let c = count_more t.lines (line.Chain pair ∷ []) in
              let d = rules_count outs in
              let e = h.steps in
              omega (arith, a, b, c, d, e);
          writable =
              writable_more ((t.lines ++ line.Chain pair ∷ []) ++ rule_lines outs) (rule_lines (undo ∷ []))
              (writable_more (t.lines ++ line.Chain pair ∷ []) (rule_lines outs) (writable_more t.lines (line.Chain pair ∷ []) h.writable chain_writable) (rules_writable outs))
              (rules_writable (undo ∷ []));
        }
