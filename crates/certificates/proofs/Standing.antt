-- Lines of a proof one after another, and why a rejected document is not accepted.
use Rattle.std.proofs.Common.{◌≡◌, ◌⊎◌, inl, inr, ℕ, zero, suc, ◌+◌, List, [], ◌∷◌, ◌++◌, take, Contains, Some, slice_get, refl, sym, ap, ◌∙◌, subst}
use Rattle.rdf_terms.specs.Graph.{of_list}
use Rattle.rdf_terms.proofs.Members.{in_none, in_first}
use Rattle.repair_problem.specs.declared.atom.Literal.{Literal}
use Rattle.repair_problem.specs.Setting.{Setting}
use Rattle.proof_lines.specs.declared.proof.Claim.{Claim}
use Rattle.proof_lines.specs.declared.proof.Claim.TheVariants as claim
use Rattle.proof_lines.specs.declared.proof.ProofLine.{ProofLine}
use Rattle.proof_lines.specs.declared.proof.ProofLine.TheVariants as line
use Rattle.proof_documents.specs.Document.{Document}
use Rattle.proof_documents.specs.Applying.{Change}
use Rattle.premise_rules.specs.declared.clause.Clause.{Clause}
use Rattle.premise_rules.specs.declared.clause.Clause.TheVariants.{Literals}
use Rattle.premise_rules.specs.RuleClauses.{rule_clause}
use Rattle.premise_rules.specs.Chains.{Clash, IsResolvent, AreSame, ChainsFrom, IsChained}
use Rattle.premise_rules.specs.Documents.{Lines, no_lines, with_pair, with_clause, IsLast, Leads, AnyStep, IsRefuted, IsClaimed, Shows}
use Rattle.count_encode.specs.PartTruth.{opposite}
use Rattle.certificates.specs.declared.refusal.CheckRefusal.{CheckRefusal}
use Rattle.certificates.specs.declared.refusal.CheckRefusal.TheVariants as refusal
use Rattle.certificates.specs.Checks.{IsAcceptedDocument, IsThere, claimed_changes, AreChangesThere, IsOutside, IsNotBelow, IsNotConforming, IsBadRule, IsBadStep, FailsAt, FitsClaim, IsDone, FailsInAll, IsRejection, IsNotAccepted}
use Rattle.certificates.proofs.Claimed.{there_within, within_there, not_outside}
use Rattle.certificates.proofs.Sound.{some_is, none_some}

module _ (s : Setting) (Step : List (List Literal) → List Literal → Type 0) where
  pub leads_more : (above mid : Lines) (ls ms : List ProofLine) (end : Lines) → Leads s Step above ls mid → Leads s Step mid ms end → Leads s Step above (ls ++ ms) end
  leads_more above mid [] ms end h g = subst (λ (x : Lines). Leads s Step x ms end) (sym h) g
  leads_more above mid (line.Chain pair ∷ ls) ms end h g = (h.0, leads_more (with_pair above pair) mid ls ms end h.1 g)
  leads_more above mid (line.Rule r ∷ ls) ms end h g = (h.0, h.1, leads_more (with_clause above h.0) mid ls ms end h.2 g)
  leads_more above mid (line.Step ids ∷ ls) ms end h g = (h.0, h.1, h.2, leads_more (with_clause above h.0) mid ls ms end h.3 g)

  pub leads_split : (above : Lines) (ls ms : List ProofLine) (end : Lines) → Leads s Step above (ls ++ ms) end → (mid : Lines) × Leads s Step above ls mid × Leads s Step mid ms end
  leads_split above [] ms end h = (above, refl, h)
  leads_split above (line.Chain pair ∷ ls) ms end h = let r = leads_split (with_pair above pair) ls ms end h.1 in (r.0, (h.0, r.1), r.2)
  leads_split above (line.Rule x ∷ ls) ms end h = let r = leads_split (with_clause above h.0) ls ms end h.2 in (r.0, (h.0, h.1, r.1), r.2)
  leads_split above (line.Step ids ∷ ls) ms end h = let r = leads_split (with_clause above h.0) ls ms end h.3 in (r.0, (h.0, h.1, h.2, r.1), r.2)

pub rest_at : {X : Type 0} (xs : List X) (k : ℕ) (x : X) → slice_get xs k ≡ Some x → (rest : List X) × (xs ≡ take k xs ++ x ∷ rest)
rest_at [] k x e = absurd (none_some e)
rest_at (y ∷ xs) zero x e = (xs, ap (λ z. z ∷ xs) (some_is e))
rest_at (y ∷ xs) (suc k) x e = let r = rest_at xs k x e in (r.0, ap (λ zs. y ∷ zs) r.1)

-- Clauses with the same literals, one by one.
abbrev pub SameClauses : List (List Literal) → List (List Literal) → Type 0
SameClauses [] [] = Unit {0}
SameClauses [] (d ∷ ds) = ⊥
SameClauses (c ∷ cs) [] = ⊥
SameClauses (c ∷ cs) (d ∷ ds) = AreSame c d × SameClauses cs ds

same_more : (cs ds : List (List Literal)) (c d : List Literal) → SameClauses cs ds → AreSame c d → SameClauses (cs ++ c ∷ []) (ds ++ d ∷ [])
same_more [] [] c d h e = (e, tt)
same_more [] (x ∷ ds) c d h e = absurd h
same_more (x ∷ cs) [] c d h e = absurd h
same_more (x ∷ cs) (y ∷ ds) c d h e = (h.0, same_more cs ds c d h.1 e)

same_at : (cs ds : List (List Literal)) (i : ℕ) (d : List Literal) → SameClauses cs ds → slice_get ds i ≡ Some d → (c : List Literal) × (slice_get cs i ≡ Some c) × AreSame c d
same_at [] [] i d h e = absurd (none_some e)
same_at [] (y ∷ ds) i d h e = absurd h
same_at (x ∷ cs) [] i d h e = absurd h
same_at (x ∷ cs) (y ∷ ds) zero d h e = (x, refl, subst (AreSame x) (some_is e) h.0)
same_at (x ∷ cs) (y ∷ ds) (suc i) d h e = same_at cs ds i d h.1 e

turned : (c d : List Literal) → AreSame c d → AreSame d c
turned c d e l = ((e l).1, (e l).0)

joined : (c d e : List Literal) → AreSame c d → AreSame d e → AreSame c e
joined c d e f g l = (λ k. (g l).0 ((f l).0 k), λ k. (f l).1 ((g l).1 k))

clash_moved : (c c' d d' : List Literal) (l : Literal) → AreSame c c' → AreSame d d' → Clash c' d' l → Clash c d l
clash_moved c c' d d' l e f k = ((e l).1 k.0, (f (opposite l)).1 k.1)

resolvent_moved : (c c' d d' r : List Literal) → AreSame c c' → AreSame d d' → IsResolvent c' d' r → IsResolvent c d r
resolvent_moved c c' d d' r e f h =
    record {
      pivot = h.pivot;
      clash = clash_moved c c' d d' h.pivot e f h.clash;
      only = λ l k. h.only l (clash_moved c' c d' d l (turned c c' e) (turned d d' f) k);
      exact = λ l. (λ k. let r = (h.exact l).0 k in (back l r.0, r.1), λ k. (h.exact l).1 (to l k.0, k.1));
    }
  where
    back : (l : Literal) → Contains c' l ⊎ Contains d' l → Contains c l ⊎ Contains d l
    back l (inl k) = inl ((e l).1 k)
    back l (inr k) = inr ((f l).1 k)

    to : (l : Literal) → Contains c l ⊎ Contains d l → Contains c' l ⊎ Contains d' l
    to l (inl k) = inl ((e l).0 k)
    to l (inr k) = inr ((f l).0 k)

chain_moved : (cs ds : List (List Literal)) (ids : List ℕ) (c c' last : List Literal) → SameClauses cs ds → AreSame c c' → ChainsFrom ds c' ids last → ChainsFrom cs c ids last
chain_moved cs ds [] c c' last h e g = joined c c' last e g
chain_moved cs ds (i ∷ ids) c c' last h e g =
    let d = same_at cs ds i g.0 h g.1 in
    (d.0, d.1, g.2, resolvent_moved c c' d.0 g.0 g.2 e d.2 g.3, chain_moved cs ds ids g.2 g.2 last h (λ l. (λ k. k, λ k. k)) g.4)

pub chained_moved : (cs ds : List (List Literal)) (ids : List ℕ) (last : List Literal) → SameClauses cs ds → IsChained ds ids last → IsChained cs ids last
chained_moved cs ds [] last h g = absurd g
chained_moved cs ds (i ∷ []) last h g = absurd g
chained_moved cs ds (i ∷ j ∷ ids) last h g = let d = same_at cs ds i g.0 h g.1 in (d.0, d.1, chain_moved cs ds (j ∷ ids) d.0 g.0 last h d.2 g.2)

-- a resolvent is determined by its clauses
one_resolvent : (c d r r' : List Literal) → IsResolvent c d r → IsResolvent c d r' → AreSame r r'
one_resolvent c d r r' h g l = (λ k. let x = (h.exact l).0 k in (g.exact l).1 (x.0, λ e. x.1 (e ∙ p)), λ k. let x = (g.exact l).0 k in (h.exact l).1 (x.0, λ e. x.1 (e ∙ sym p)))
  where
    p : g.pivot.atom ≡ h.pivot.atom
    p = ap (λ (x : Literal). x.atom) (h.only g.pivot g.clash)

one_chain : (cs : List (List Literal)) (ids : List ℕ) (c c' x y : List Literal) → AreSame c c' → ChainsFrom cs c ids x → ChainsFrom cs c' ids y → AreSame x y
one_chain cs [] c c' x y e h g = joined x c y (turned c x h) (joined c c' y e g)
one_chain cs (i ∷ ids) c c' x y e h g =
    let d : h.0 ≡ g.0 = some_is (sym h.1 ∙ g.1) in
    let m = resolvent_moved c c' g.0 g.0 g.2 e (λ l. (λ k. k, λ k. k)) g.3 in
    one_chain cs ids h.2 g.2 x y (one_resolvent c g.0 h.2 g.2 (subst (λ z. IsResolvent c z h.2) d h.3) m) h.4 g.4

one_chained : (cs : List (List Literal)) (ids : List ℕ) (x y : List Literal) → IsChained cs ids x → IsChained cs ids y → AreSame x y
one_chained cs [] x y h g = absurd h
one_chained cs (i ∷ []) x y h g = absurd h
one_chained cs (i ∷ j ∷ ids) x y h g =
    let d : h.0 ≡ g.0 = some_is (sym h.1 ∙ g.1) in
    one_chain cs (j ∷ ids) h.0 g.0 x y (λ l. (subst (λ z. Contains z l) d, subst (λ z. Contains z l) (sym d))) h.2 g.2

-- what stands below the same lines is the same
pub record SameLines (a b : Lines) : Type 0 where
  pub chain : a.chain ≡ b.chain
  pub clauses : SameClauses a.clauses b.clauses

module _ (s : Setting) where
  one_rule : (a b : Lines) (c d : List Literal) (o : List (List ℕ) → Clause) → a.chain ≡ b.chain → o a.chain ≡ Literals c → o b.chain ≡ Literals d → c ≡ d
  one_rule a b c d o e h g = let f : Literals c ≡ Literals d = sym h ∙ (ap o e ∙ g) in cc

  leads_same : (a b : Lines) (ls : List ProofLine) (m n : Lines) → SameLines a b → Leads s AnyStep a ls m → Leads s AnyStep b ls n → SameLines m n
  leads_same a b [] m n e h g = subst (λ (x : Lines). SameLines x n) h (subst (λ (x : Lines). SameLines a x) g e)
  leads_same a b (line.Chain pair ∷ ls) m n e h g = leads_same (with_pair a pair) (with_pair b pair) ls m n (record { chain = ap (λ c. c ++ pair ∷ []) e.chain; clauses = e.clauses }) h.1 g.1
  leads_same a b (line.Rule r ∷ ls) m n e h g =
      let c = one_rule a b h.0 g.0 (λ chain. rule_clause s chain r.name r.numbers) e.chain h.1 g.1 in
      leads_same (with_clause a h.0) (with_clause b g.0) ls m n (record { chain = e.chain; clauses = same_more a.clauses b.clauses h.0 g.0 e.clauses (λ l. (subst (λ z. Contains z l) c, subst (λ z. Contains z l) (sym c))) }) h.2 g.2
  leads_same a b (line.Step ids ∷ ls) m n e h g =
      leads_same (with_clause a h.0) (with_clause b g.0) ls m n (record { chain = e.chain; clauses = same_more a.clauses b.clauses h.0 g.0 e.clauses (one_chained a.clauses ids h.0 g.0 h.1 (chained_moved a.clauses b.clauses ids g.0 e.clauses g.1)) }) h.3 g.3

  -- a line that fails can't stand there
  stands_not_outside : (above mid : Lines) (l : ProofLine) (ls : List ProofLine) (end : Lines) → SameLines above mid → IsOutside s above l → ¬ (Leads s AnyStep mid (l ∷ ls) end)
  stands_not_outside above mid (line.Chain pair) ls end e f h = f h.0.explains.within
  stands_not_outside above mid (line.Rule r) ls end e f h = f
  stands_not_outside above mid (line.Step ids) ls end e f h = f

  stands_not_below : (above mid : Lines) (l : ProofLine) (ls : List ProofLine) (end : Lines) → SameLines above mid → IsNotBelow s above l → ¬ (Leads s AnyStep mid (l ∷ ls) end)
  stands_not_below above mid (line.Chain pair) ls end e f h = f.1 (λ before last. h.0.below before (subst (λ c. IsLast c before) e.chain last))
  stands_not_below above mid (line.Rule r) ls end e f h = f
  stands_not_below above mid (line.Step ids) ls end e f h = f

  stands_not_conforming : (above mid : Lines) (l : ProofLine) (ls : List ProofLine) (end : Lines) → SameLines above mid → IsNotConforming s above l → ¬ (Leads s AnyStep mid (l ∷ ls) end)
  stands_not_conforming above mid (line.Chain pair) ls end e f h = f.2 h.0.explains.conforms
  stands_not_conforming above mid (line.Rule r) ls end e f h = f
  stands_not_conforming above mid (line.Step ids) ls end e f h = f

  stands_not_rule : (above mid : Lines) (l : ProofLine) (ls : List ProofLine) (end : Lines) → SameLines above mid → IsBadRule s above l → ¬ (Leads s AnyStep mid (l ∷ ls) end)
  stands_not_rule above mid (line.Chain pair) ls end e f h = f
  stands_not_rule above mid (line.Rule r) ls end e f h = f h.0 (ap (λ c. rule_clause s c r.name r.numbers) e.chain ∙ h.1)
  stands_not_rule above mid (line.Step ids) ls end e f h = f

  stands_not_step : (above mid : Lines) (l : ProofLine) (ls : List ProofLine) (end : Lines) → SameLines above mid → IsBadStep s above l → ¬ (Leads s AnyStep mid (l ∷ ls) end)
  stands_not_step above mid (line.Chain pair) ls end e f h = f
  stands_not_step above mid (line.Rule r) ls end e f h = f
  stands_not_step above mid (line.Step ids) ls end e f h = f h.0 (chained_moved above.clauses mid.clauses ids h.0 e.clauses h.1)

  module _ (d : Document) (a : IsAcceptedDocument s d) where
    fails_not : (Fails : Lines → ProofLine → Type 0) → ((above mid : Lines) (l : ProofLine) (ls : List ProofLine) (end : Lines) → SameLines above mid → Fails above l → ¬ (Leads s AnyStep mid (l ∷ ls) end)) → (n : ℕ) → ¬ (FailsAt Fails s d n)
    fails_not Fails none n f =
        let r = rest_at d.proof.lines f.place f.own f.here in
        let m = leads_split s AnyStep no_lines (take f.place d.proof.lines) (f.own ∷ r.0) a.end (subst (λ ls. Leads s AnyStep no_lines ls a.end) r.1 a.leads) in
        none f.above m.0 f.own r.0 a.end (leads_same no_lines no_lines (take f.place d.proof.lines) f.above m.0 (record { chain = refl; clauses = tt }) f.leads m.1) f.fails m.2

    ends_same : (end : Lines) → Leads s AnyStep no_lines d.proof.lines end → SameLines end a.end
    ends_same end h = leads_same no_lines no_lines d.proof.lines end a.end (record { chain = refl; clauses = tt }) h a.leads

    fits_claim : (c : Claim) (chain : List (List ℕ)) → chain ≡ a.end.chain → Shows s (of_list d.adds) (of_list d.deletes) c a.end → FitsClaim s d c chain
    fits_claim claim.Pair chain e h = subst (IsClaimed s (of_list d.adds) (of_list d.deletes)) (sym e) h.2
    fits_claim claim.NoPair chain e h = e ∙ h.0
    fits_claim claim.Spent chain e h = tt

    empty_end : (cs ds : List (List Literal)) → SameClauses cs (ds ++ [] ∷ []) → (es : List (List Literal)) × (cs ≡ es ++ [] ∷ [])
    empty_end [] [] h = absurd h
    empty_end ([] ∷ []) [] h = ([], refl)
    empty_end ((l ∷ c) ∷ []) [] h = absurd (in_none l ((h.0 l).0 (in_first l c)))
    empty_end (c ∷ c' ∷ cs) [] h = absurd h.1
    empty_end [] (x ∷ ds) h = absurd h
    empty_end (c ∷ cs) (x ∷ ds) h = let r = empty_end cs ds h.1 in (c ∷ r.0, ap (λ zs. c ∷ zs) r.1)

    refuted : (end : Lines) → SameLines end a.end → IsRefuted a.end → IsRefuted end
    refuted end e h = empty_end end.clauses h.0 (subst (SameClauses end.clauses) h.1 e.clauses)

    done : (c : Claim) (end : Lines) → SameLines end a.end → Shows s (of_list d.adds) (of_list d.deletes) c a.end → IsDone c end
    done claim.Pair end e h = refuted end e h.3
    done claim.NoPair end e h = refuted end e h.1
    done claim.Spent end e h = tt

    wrong_not : ¬ (FailsInAll (λ end. ¬ (FitsClaim s d d.proof.claim end.chain)) s d)
    wrong_not f = f.fails (fits_claim d.proof.claim f.end.chain (ends_same f.end f.leads).chain a.shows)

    left_not : ¬ (FailsInAll (λ end. FitsClaim s d d.proof.claim end.chain × ¬ (IsDone d.proof.claim end)) s d)
    left_not f = f.fails.1 (done d.proof.claim f.end (ends_same f.end f.leads) a.shows)

    there : (x : Change) → Contains (claimed_changes d) x → IsThere s x
    there = within_there s d d.proof.claim (λ e. let h = subst (λ c. Shows s (of_list d.adds) (of_list d.deletes) c a.end) e a.shows in (h.0, h.1))

  -- a rejected document is not accepted
  pub rejected : (d : Document) (e : CheckRefusal) → IsRejection s d e → IsNotAccepted s d e
  rejected d (refusal.PairOutside n) (inl h) = λ a. not_outside s d n (there d a) h
  rejected d (refusal.PairOutside n) (inr h) = λ a. fails_not d a (IsOutside s) stands_not_outside n h
  rejected d (refusal.NotBelow n) h = λ a. fails_not d a (IsNotBelow s) stands_not_below n h
  rejected d (refusal.NotConforming n) h = λ a. fails_not d a (IsNotConforming s) stands_not_conforming n h
  rejected d (refusal.BadRule n) h = λ a. fails_not d a (IsBadRule s) stands_not_rule n h
  rejected d (refusal.BadStep n) h = λ a. fails_not d a (IsBadStep s) stands_not_step n h
  rejected d refusal.WrongClaim h = λ a. wrong_not d a h
  rejected d refusal.NotEmpty h = λ a. left_not d a h
  rejected d refusal.OutOfMemory h = tt

  -- and what passes all of the check is
  shown : (d : Document) (c : Claim) → d.proof.claim ≡ c → AreChangesThere s d → (end : Lines) → FitsClaim s d c end.chain → IsDone c end → Shows s (of_list d.adds) (of_list d.deletes) c end
  shown d claim.Pair e h end f g = let w = there_within s d e h in (w.0, w.1, f, g)
  shown d claim.NoPair e h end f g = (f, g)
  shown d claim.Spent e h end f g = tt

  pub accepted : (d : Document) → AreChangesThere s d → (end : Lines) → Leads s AnyStep no_lines d.proof.lines end → FitsClaim s d d.proof.claim end.chain → IsDone d.proof.claim end → IsAcceptedDocument s d
  accepted d h end l f g = record { end = end; leads = l; shows = shown d d.proof.claim refl h end f g }
