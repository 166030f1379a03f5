-- What a search gives: the session behind it, or the proof that ends it.
use Rattle.std.proofs.Common.{◌≡◌, ℕ, ◌-◌, ◌<◌, ◌≤◌, IsTrue, List, [], ◌++◌, length, Some, slice_get, sym, ap, ◌∙◌, subst}
use Rattle.clause_store.specs.declared.lit.Lit.{Lit}
use Rattle.clause_store.specs.Clauses.{is_clause}
use Rattle.sat_core.specs.declared.outcome.Outcome.{Outcome}
use Rattle.sat_core.specs.declared.outcome.Outcome.TheVariants.{Model, Refuted, Spent}
use Rattle.sat_core.specs.declared.trail.LogStep.{LogStep}
use Rattle.sat_core.specs.Solving.{Solving, assigned, HasEmpty, IsModel, Ends}
use Rattle.repair_problem.specs.declared.atom.Atom.{Atom}
use Rattle.repair_problem.specs.Setting.{Setting}
use Rattle.proof_lines.specs.declared.proof.Claim.TheVariants as claim
use Rattle.proof_lines.specs.declared.proof.Proof.{Proof}
use Rattle.atom_numbers.specs.Numbers.{AreApart}
use Rattle.certificates.specs.Shown.{AreAllShown}
use Rattle.certificates.specs.Steps.{AreAllBounded}
use Rattle.clause_ground.specs.declared.premise.Premise.{Premise}
use Rattle.clause_ground.specs.Premises.{clauses_of}
use Rattle.clause_ground.specs.Needed.{AreNeeded}
use Rattle.clause_ground.specs.Models.{AreOfExplanations}
use Rattle.shrink_pair.specs.Explanations.{IsExplanation}
use Rattle.shrink_pair.specs.Sessions.{State, awaited, unchanged_lits, changed_of, AreAssigned, IsSession, IsSearched, with_steps, step_lines, claim_refuted, descended}
use Rattle.shrink_pair.proofs.LeadsLaws.{pairs_few}
use Rattle.shrink_pair.proofs.Values.{model_full}
use Rattle.shrink_pair.proofs.PairLaws.{changeable_assigned, pair_smaller}
use Rattle.shrink_pair.proofs.SessionLaws.{steps_go_on, now_once, pair_goes_on}
use Rattle.shrink_pair.proofs.Ends.{refuted_explained, spent_explained}

module _ (s : Setting) (shown : AreAllShown s) (ats : List Atom) (ps : List Premise) (apart : AreApart ats) (budget : ℕ) (old new : State) (sv : Solving) (h : IsSession s ats ps old) where
  -- where no clause is empty
  searched : (o : Outcome) → IsSearched budget old new sv o → ¬ (HasEmpty new.clauses) → IsSession s ats ps new
  searched o r full = subst (IsSession s ats ps) (sym r.state) (steps_go_on s ats ps apart old r.steps new.clauses h r.learned r.once full)

  -- where a model was found
  module _ (needed : AreNeeded s ps ats) (o : Outcome) (is : o ≡ Model) (r : IsSearched budget old new sv o) (same : sv.clauses ≡ new.clauses) where
    model : IsModel sv
    model = subst (Ends budget sv) is r.ends

    pub full_there : ¬ (HasEmpty new.clauses)
    full_there = subst (λ cs. ¬ (HasEmpty cs)) same (model_full sv model)

    behind : IsSession s ats ps new
    behind = searched o r full_there

    pub assigned_there : AreAssigned (assigned sv) new.changeable
    assigned_there = changeable_assigned s ats ps apart needed new behind sv same model

    pub few_pairs : new.pairs ≤ length new.lines
    few_pairs = subst (λ n. n ≤ length new.lines) behind.pairs (pairs_few new.lines)

    pub smaller_there : (next : State) → next ≡ descended new (assigned sv) → awaited next < awaited old
    smaller_there next e =
        let same_awaited : awaited new ≡ awaited old = ap awaited r.state in
        subst (λ n. awaited next < n) same_awaited (subst (λ (t : State). awaited t < awaited new) (sym e) (smaller new behind sv same model))
      where
        smaller : (t : State) → IsSession s ats ps t → (sv : Solving) → sv.clauses ≡ t.clauses → IsModel sv → awaited (descended t (assigned sv)) < awaited t
        smaller t k sv q m = pair_smaller s ats ps apart needed t k sv q m

    module _ (facts : AreOfExplanations s (clauses_of ps) ats) where
      pub once_there : IsTrue (is_clause (unchanged_lits (changed_of (assigned sv) new.changeable)))
      once_there = now_once s ats ps apart needed facts new behind sv same model

      pub next_there : (next : State) → next ≡ descended new (assigned sv) → IsSession s ats ps next
      next_there next e = subst (IsSession s ats ps) (sym e) (pair_goes_on s ats ps apart needed facts new behind sv same model)

  -- where the last clause is empty
  pub refuted_there : (o : Outcome) → o ≡ Refuted → IsSearched budget old new sv o → sv.clauses ≡ new.clauses → (proof : Proof) → proof.claim ≡ claim_refuted new.pairs → proof.lines ≡ new.lines → IsExplanation s budget proof
  refuted_there o is r same proof e f =
      let end : (slice_get sv.clauses (length sv.clauses - 1) ≡ Some []) × (0 < length sv.clauses) = subst (Ends budget sv) is r.ends in
      refuted_explained s shown ats ps apart budget old h r.steps new.clauses r.learned r.once
      (subst (λ n. n ≤ budget) (ap (λ (t : State). length t.log) r.state) r.bound)
      (subst (λ cs. slice_get cs (length cs - 1) ≡ Some []) same end.0)
      (subst (λ cs. 0 < length cs) same end.1)
      proof (e ∙ ap (λ (t : State). claim_refuted t.pairs) r.state) (f ∙ ap (λ (t : State). t.lines) r.state)

  -- where the budget is used up
  pub spent_there : AreAllBounded s → (o : Outcome) → o ≡ Spent → IsSearched budget old new sv o → sv.clauses ≡ new.clauses → sv.log ≡ new.log → (proof : Proof) → proof.claim ≡ claim.Spent → proof.lines ≡ new.lines → IsExplanation s budget proof
  spent_there bounded o is r same logged proof e f =
      let end : Ends budget sv Spent = subst (Ends budget sv) is r.ends in
      spent_explained s shown ats ps budget new bounded (searched o r (subst (λ cs. ¬ (HasEmpty cs)) same end.1)) (ap length (sym logged) ∙ end.0) proof e f
