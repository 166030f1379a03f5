-- The ends of a search: a refutation, or a budget that is used up.
use Rattle.std.proofs.Common.{◌≡◌, ◌≢◌, ◌⊎◌, inl, inr, ℕ, zero, suc, ◌+◌, ◌-◌, ◌<◌, ◌≤◌, ◌^◌, Bool, true, false, not, nat_lt, IsTrue, List, [], ◌∷◌, ◌++◌, map, length, take, get_or, Contains, Option, Some, None, slice_get, refl, sym, ap, ◌∙◌, subst, arith}
use Rattle.std.specs.List.{All}
use Rattle.std.proofs.lemmas.List.{map-append}
use Rattle.std.proofs.lemmas.List.Elements.{Contains-get_or}
use Rattle.rdf_terms.specs.Graph.{Graph, triples, of_list}
use Rattle.rdf_terms.specs.Statement.{Statement}
use Rattle.rdf_terms.specs.Graph.{has as has_triple}
use Rattle.rdf_terms.proofs.GraphLaws.{same_graph, has_at, place_of_has, item_of_has_list, has_of_list_item}
use Rattle.clause_store.specs.declared.lit.Lit.{Lit}
use Rattle.clause_store.specs.Clauses.{are_clauses}
use Rattle.sat_core.specs.declared.trail.LogStep.{LogStep}
use Rattle.sat_core.specs.Solving.{HasEmpty, AreLearned}
use Rattle.repair_problem.specs.declared.atom.Atom.{Atom}
use Rattle.repair_problem.specs.Repair.{Within, NoneExplains}
use Rattle.shapes_graph.specs.Conformance.{Conforms}
use Rattle.repair_problem.specs.Setting.{Setting}
use Rattle.repair_problem.specs.Candidates.{candidates, additions, deletions}
use Rattle.repair_problem.proofs.ChangeLaws.{additions_within, deletions_within}
use Rattle.proof_lines.specs.declared.proof.Claim.{Claim}
use Rattle.proof_lines.specs.declared.proof.Claim.TheVariants as claim
use Rattle.proof_lines.specs.declared.proof.ProofLine.{ProofLine}
use Rattle.proof_lines.specs.declared.proof.ProofLine.TheVariants as line
use Rattle.proof_lines.specs.declared.proof.Proof.{Proof}
use Rattle.premise_rules.specs.Documents.{Lines, no_lines, IsLast, IsRefuted, IsClaimed, Leads, AnyStep, IsFreshStep, IsFresh, IsAccepted, with_pair, with_clause}
use Rattle.atom_numbers.specs.Numbers.{clause_of, lines_of, AreApart}
use Rattle.certificates.specs.Checks.{IsAcceptedDocument}
use Rattle.certificates.specs.Shown.{IsTrueClaim, AreAllShown}
use Rattle.certificates.specs.Steps.{step_count, AreRuleAtomsIn, AreAllBounded}
use Rattle.certificates.specs.Writing.{document_of, pair_behind, pair_of, claimed_pair, added_of, deleted_of, IsWritable}
use Rattle.certificates.proofs.Sound.{some_is}
use Rattle.certificates.proofs.Standing.{leads_more}
use Rattle.clause_ground.specs.declared.premise.Premise.{Premise}
use Rattle.shrink_pair.specs.Explanations.{pair_count, IsUsedUp, IsExplanation}
use Rattle.shrink_pair.specs.Sessions.{numbers, State, awaited, IsSession, with_steps, step_lines, claim_refuted}
use Rattle.shrink_pair.proofs.Listed.{place_of, at_in}
use Rattle.shrink_pair.proofs.LeadsLaws.{AreWritable, steps_lead, leads_any, count_more, pairs_more, steps_count, steps_pairs, writable_more, steps_writable}

-- a graph is that of the list of its triples
same_bool : (a b : Bool) → (a ≡ true → b ≡ true) → (b ≡ true → a ≡ true) → a ≡ b
same_bool true b f g = sym (f refl)
same_bool false true f g = g refl
same_bool false false f g = refl

of_triples : (g : Graph) → of_list (triples g) ≡ g
of_triples g = same_graph (of_list (triples g)) g (λ u. same_bool (has_triple (of_list (triples g)) u) (has_triple g u) (to u) (from u))
  where
    to : (u : Statement) → has_triple (of_list (triples g)) u ≡ true → has_triple g u ≡ true
    to u h = let i = place_of (triples g) u (item_of_has_list (triples g) u h) in has_at g u i.0 i.1

    from : (u : Statement) → has_triple g u ≡ true → has_triple (of_list (triples g)) u ≡ true
    from u h = let r = place_of_has g u h in has_of_list_item (triples g) u (at_in (triples g) r.0 u r.1)

-- The pair that is claimed is the last of the chain.
abbrev IsBehind : List (List ℕ) → Option (List ℕ) → Type 0
IsBehind chain None = chain ≡ []
IsBehind chain (Some p) = IsLast chain p

last_push : (chain : List (List ℕ)) (pair : List ℕ) → IsLast (chain ++ pair ∷ []) pair
last_push [] pair = refl
last_push (p ∷ []) pair = refl
last_push (p ∷ q ∷ rest) pair = last_push (q ∷ rest) pair

behind : (s : Setting) (above : Lines) (ls : List ProofLine) (end : Lines) (before : Option (List ℕ)) → Leads s AnyStep above ls end → IsBehind above.chain before → IsBehind end.chain (pair_behind before ls)
behind s above [] end before h b = subst (λ (x : Lines). IsBehind x.chain before) h b
behind s above (line.Chain p ∷ ls) end before h b = behind s (with_pair above p) ls end (Some p) h.1 (last_push above.chain p)
behind s above (line.Rule q ∷ ls) end before h b = behind s (with_clause above h.0) ls end before h.2 b
behind s above (line.Step ids ∷ ls) end before h b = behind s (with_clause above h.0) ls end before h.3 b

all_from : {X : Type 0} (P : X → Type 0) (xs : List X) → ((x : X) → Contains xs x → P x) → All P xs
all_from P xs f k d lt = f (get_or xs k d) (Contains-get_or xs k d lt)

some_last : (chain : List (List ℕ)) (n : ℕ) → length chain ≡ suc n → chain ≢ []
some_last [] n e f = absurd (omega (arith, e))
some_last (p ∷ chain) n e f = cc

none_first : (chain : List (List ℕ)) → length chain ≡ 0 → chain ≡ []
none_first [] e = refl
none_first (p ∷ chain) e = absurd (omega (arith, e))

-- a clause at the last place is the last one
last_place : {X : Type 0} (xs : List X) (x : X) → slice_get xs (length xs - 1) ≡ Some x → 0 < length xs → (ys : List X) × (xs ≡ ys ++ x ∷ [])
last_place [] x e lt = absurd (omega (arith, lt))
last_place (y ∷ []) x e lt = ([], ap (λ z. z ∷ []) (some_is e))
last_place (y ∷ z ∷ xs) x e lt =
    let n : length (y ∷ z ∷ xs) - 1 ≡ suc (length (z ∷ xs) - 1) = omega arith in
    let r = last_place (z ∷ xs) x (subst (λ k. slice_get (y ∷ z ∷ xs) k ≡ Some x) n e) (omega arith) in
    (y ∷ r.0, ap (λ ws. y ∷ ws) r.1)

pairs_bound : (s : Setting) (ats : List Atom) (ps : List Premise) (t : State) → IsSession s ats ps t → pair_count t.lines ≤ suc (length (candidates s))
pairs_bound s ats ps t h = let p = h.pairs in let f = h.few in omega (arith, p, f)

-- a proof of a pair is none of that no pair explains
pair_or_none : (s : Setting) (adds deletes : Graph) (c : Claim) → IsTrueClaim s adds deletes c → NoneExplains (Conforms s.shapes) s.present s.offers → (c ≡ claim.NoPair) ⊎ (c ≡ claim.Spent)
pair_or_none s adds deletes claim.Pair m none = absurd (none adds deletes m.explains)
pair_or_none s adds deletes claim.NoPair m none = inl refl
pair_or_none s adds deletes claim.Spent m none = inr refl

module _ (s : Setting) (shown : AreAllShown s) (ats : List Atom) (ps : List Premise) (apart : AreApart ats) (budget : ℕ) (t : State) (h : IsSession s ats ps t) (steps : List LogStep) (ends : List (List Lit)) (learned : AreLearned t.clauses steps ends) (once : are_clauses ends ≡ true) (bound : length (t.log ++ steps) ≤ budget) where
  abbrev lines : List ProofLine
  lines = t.lines ++ step_lines steps

  abbrev end : Lines
  end = lines_of h.chain ats ends

  leads : Leads s AnyStep no_lines lines end
  leads = leads_more s AnyStep no_lines (lines_of h.chain ats t.clauses) t.lines (step_lines steps) end (leads_any s no_lines t.lines (lines_of h.chain ats t.clauses) h.leads) (steps_lead s h.chain ats apart t.clauses steps ends h.within once learned)

  writable : All IsWritable lines
  writable = all_from IsWritable lines (writable_more t.lines (step_lines steps) h.writable (steps_writable t.clauses steps ends learned))

  append_length : (xs ys : List LogStep) → length (xs ++ ys) ≡ length xs + length ys
  append_length [] ys = omega arith
  append_length (x ∷ xs) ys = let r = append_length xs ys in omega (arith, r)

  counted : step_count lines ≡ length (t.log ++ steps)
  counted = let a = count_more t.lines (step_lines steps) in let b = steps_count steps in let c = h.steps in let d = append_length t.log steps in omega (arith, a, b, c, d)

  few : pair_count lines ≤ suc (length (candidates s))
  few = let a = pairs_more t.lines (step_lines steps) in let b = steps_pairs steps in let c = pairs_bound s ats ps t h in omega (arith, a, b, c)

  -- where the last clause is empty
  module _ (empty : slice_get ends (length ends - 1) ≡ Some []) (some : 0 < length ends) where
    refuted : IsRefuted end
    refuted = let r = last_place ends [] empty some in (map (clause_of ats) r.0, ap (map (clause_of ats)) r.1 ∙ map-append (clause_of ats) r.0 ([] ∷ []))

    accepted_none : h.chain ≡ [] → IsAcceptedDocument s (document_of s (record { claim = claim.NoPair; lines = lines }))
    accepted_none none = record { end = end; leads = leads; shows = (none, refuted) }

    accepted_pair : (p : List ℕ) → IsLast h.chain p → IsAcceptedDocument s (document_of s (record { claim = claim.Pair; lines = lines }))
    accepted_pair p last = at (pair_behind None lines) refl (behind s no_lines lines end None leads refl)
      where
        doc : Option (List ℕ) → Type 0
        doc o = IsAccepted s (of_list (added_of s o)) (of_list (deleted_of s o)) (record { claim = claim.Pair; lines = lines })

        none_last : (chain : List (List ℕ)) → chain ≡ [] → IsLast chain p → ⊥
        none_last [] e k = k
        none_last (q ∷ chain) e k = cc

        at : (o : Option (List ℕ)) → pair_behind None lines ≡ o → IsBehind h.chain (pair_behind None lines) → IsAcceptedDocument s (document_of s (record { claim = claim.Pair; lines = lines }))
        at None e b = absurd (none_last h.chain (subst (IsBehind h.chain) e b) last)
        at (Some q) e b = subst (λ o. IsAccepted s (of_list (added_of s o)) (of_list (deleted_of s o)) (record { claim = claim.Pair; lines = lines })) (sym e) (record {
          end = end;
          leads = leads;
          shows = (
            subst (λ g. Within g s.offers) (sym (of_triples (additions s q))) (additions_within s q),
            subst (λ g. Within g s.present) (sym (of_triples (deletions s q))) (deletions_within s q),
            record { pair = q; last = subst (IsBehind h.chain) e b; added = sym (of_triples (additions s q)); deleted = sym (of_triples (deletions s q)) },
            refuted,
          );
        })

    explained : (n : ℕ) → n ≡ t.pairs → IsExplanation s budget (record { claim = claim_refuted n; lines = lines })
    explained zero e =
        record {
          accepted = accepted_none (none_first h.chain (h.count ∙ sym e));
          shown = shown _ _ (record { claim = claim.NoPair; lines = lines }) (accepted_none (none_first h.chain (h.count ∙ sym e)));
          writable = writable;
          steps = let c = counted in omega (arith, c, bound);
          pairs = few;
          spent = λ g. cc;
          none = λ none. inl refl;
        }
    explained (suc n) e =
        record {
          accepted = accepted_pair (numbers t.changeable) (h.last (let f = e in omega (arith, f)));
          shown = shown _ _ (record { claim = claim.Pair; lines = lines }) (accepted_pair (numbers t.changeable) (h.last (let f = e in omega (arith, f))));
          writable = writable;
          steps = let c = counted in omega (arith, c, bound);
          pairs = few;
          spent = λ g. cc;
          none = λ none. pair_or_none s _ _ claim.Pair (shown _ _ (record { claim = claim.Pair; lines = lines }) (accepted_pair (numbers t.changeable) (h.last (let f = e in omega (arith, f))))).claim none;
        }

    pub refuted_explained : (proof : Proof) → proof.claim ≡ claim_refuted t.pairs → proof.lines ≡ lines → IsExplanation s budget proof
    refuted_explained proof e f = subst (IsExplanation s budget) (sym (proof_is proof (claim_refuted t.pairs) e f)) (explained t.pairs refl)
      where
        proof_is : (proof : Proof) (c : Claim) → proof.claim ≡ c → proof.lines ≡ lines → proof ≡ record { claim = c; lines = lines }
        proof_is proof c e f = λ i. record { claim = e i; lines = f i }

-- where the budget is used up
pub spent_explained : (s : Setting) → AreAllShown s → (ats : List Atom) (ps : List Premise) (budget : ℕ) (t : State) → AreAllBounded s → IsSession s ats ps t → length t.log ≡ budget → (proof : Proof) → proof.claim ≡ claim.Spent → proof.lines ≡ t.lines → IsExplanation s budget proof
spent_explained s shown ats ps budget t bounded h is proof e f =
    subst (IsExplanation s budget) (sym (λ i. record { claim = e i; lines = f i })) (record {
      accepted = accepted;
      shown = shown _ _ own accepted;
      writable = all_from IsWritable t.lines h.writable;
      steps = let c = h.steps in omega (arith, c, is);
      pairs = pairs_bound s ats ps t h;
      spent = λ g. used;
      none = λ none. inr refl;
    })
  where
    own : Proof
    own = record { claim = claim.Spent; lines = t.lines }

    accepted : IsAcceptedDocument s (document_of s own)
    accepted = record { end = lines_of h.chain ats t.clauses; leads = leads_any s no_lines t.lines (lines_of h.chain ats t.clauses) h.leads; shows = tt }

    steps_are : step_count t.lines ≡ budget
    steps_are = h.steps ∙ is

    fresh : IsFresh s own
    fresh = record { end = lines_of h.chain ats t.clauses; leads = h.leads }

    used : IsUsedUp s budget own
    used = record { steps = steps_are; fresh = fresh; bound = λ atoms k. subst (λ n. n ≤ 3 ^ length atoms) steps_are (bounded atoms own k fresh) }
