-- What the functions of the checker answer, from what the functions that they call do.
use Rattle.std.proofs.Common.{◌≡◌, ◌≢◌, ◌↔◌, ◌⊎◌, inl, inr, ℕ, ◌-◌, ◌<◌, Bool, true, false, not, ◌&&◌, ◌||◌, nat_eq, IsTrue, List, [], ◌∷◌, ◌++◌, length, Contains, Some, None, Result, Ok, Err, IfOk, IfErr, OnOk, slice_get, refl, sym, ◌∙◌, subst, eqb-true, eq-eqb}
use Rattle.std.specs.List.{All, list_any, list_all}
use Rattle.rdf_terms.specs.declared.memory.OutOfMemory.{OutOfMemory}
use Rattle.rdf_terms.specs.Graph.{Graph}
use Rattle.rdf_terms.proofs.Members.{in_none, in_first, in_rest, in_cases}
use Rattle.shapes_graph.specs.Conformance.{Conforms}
use Rattle.clause_store.specs.declared.lit.Lit.{Lit}
use Rattle.clause_store.proofs.Sets.{never, or_cases, or_first, or_second, and_left, and_right}
use Rattle.refute_check.specs.declared.refusal.StepRefusal.{StepRefusal}
use Rattle.refute_check.specs.declared.refusal.StepRefusal.TheVariants as step_refusal
use Rattle.refute_check.specs.Refusals.{IsRefusal}
use Rattle.repair_problem.specs.declared.atom.Atom.{Atom}
use Rattle.repair_problem.specs.declared.atom.Literal.{Literal}
use Rattle.repair_problem.specs.Setting.{Setting}
use Rattle.repair_problem.specs.Candidates.{additions, deletions, edited_by}
use Rattle.repair_problem.specs.Changes.{AreCandidates, ChangeBelow}
use Rattle.proof_lines.specs.declared.rule.Rule.{Rule}
use Rattle.proof_lines.specs.declared.proof.Claim.{Claim}
use Rattle.proof_lines.specs.declared.proof.Claim.TheVariants as claim
use Rattle.proof_lines.specs.declared.proof.ProofLine.TheVariants as line
use Rattle.proof_documents.specs.Document.{Document}
use Rattle.premise_rules.specs.declared.clause.Clause.TheVariants.{Literals, OutOfRange, Tautology}
use Rattle.premise_rules.specs.declared.refusal.RuleRefusal.{RuleRefusal}
use Rattle.premise_rules.specs.declared.refusal.RuleRefusal.TheVariants as rule_refusal
use Rattle.premise_rules.specs.RuleClauses.{rule_clause, Answers}
use Rattle.premise_rules.specs.Documents.{Lines, with_clause, IsClaimed}
use Rattle.certificates.specs.declared.refusal.CheckRefusal.{CheckRefusal}
use Rattle.certificates.specs.declared.refusal.LineRefusal.{LineRefusal}
use Rattle.certificates.specs.declared.refusal.LineRefusal.TheVariants as refusal
use Rattle.certificates.specs.Checks.{IsBelowLast, FitsClaim}
use Rattle.certificates.specs.Members.{AreAmong}
use Rattle.atom_numbers.specs.Numbers.{lines_of}
use Rattle.certificates.specs.Checker.{IsReady, IsLineRefusal, IsChecked, IsEnded, IsClaimChecked, IsPairRefusal, pair_answer, kept_or_memory, rule_refused, step_refused, claim_answer}
use Rattle.certificates.proofs.Kept.{step_bad, pair_ready}
use Rattle.certificates.proofs.Ended.{last_at, no_last, one_last, below_none, claimed_is, claimed_not, last_candidates, refuted_is, ended_done, done_ended}

-- Lists of numbers as sets.
any_in : (xs : List ℕ) (t : ℕ) → list_any (nat_eq t) xs ≡ true → Contains xs t
any_in [] t h = never h refl
any_in (x ∷ xs) t h = split (or_cases (nat_eq t x) (list_any (nat_eq t) xs) h) (any_in xs t)
  where
    split : (nat_eq t x ≡ true) ⊎ (list_any (nat_eq t) xs ≡ true) → (list_any (nat_eq t) xs ≡ true → Contains xs t) → Contains (x ∷ xs) t
    split (inl e) on = subst (Contains (x ∷ xs)) (sym (eqb-true t x e)) (in_first x xs)
    split (inr e) on = in_rest x xs t (on e)

in_any : (xs : List ℕ) (t : ℕ) → Contains xs t → list_any (nat_eq t) xs ≡ true
in_any [] t h = absurd (in_none t h)
in_any (x ∷ xs) t h = split (in_cases x xs t h) (in_any xs t)
  where
    split : (x ≡ t) ⊎ Contains xs t → (Contains xs t → list_any (nat_eq t) xs ≡ true) → (nat_eq t x || list_any (nat_eq t) xs) ≡ true
    split (inl e) on = or_first (nat_eq t x) (list_any (nat_eq t) xs) (eq-eqb t x (sym e))
    split (inr k) on = or_second (nat_eq t x) (list_any (nat_eq t) xs) (on k)

all_in : (p : ℕ → Bool) (xs : List ℕ) → list_all p xs ≡ true → (t : ℕ) → Contains xs t → p t ≡ true
all_in p [] h t k = absurd (in_none t k)
all_in p (x ∷ xs) h t k = split (in_cases x xs t k) (all_in p xs (and_right (p x) (list_all p xs) h) t)
  where
    split : (x ≡ t) ⊎ Contains xs t → (Contains xs t → p t ≡ true) → p t ≡ true
    split (inl e) on = subst (λ y. p y ≡ true) e (and_left (p x) (list_all p xs) h)
    split (inr r) on = on r

in_all : (p : ℕ → Bool) (xs : List ℕ) → ((t : ℕ) → Contains xs t → p t ≡ true) → list_all p xs ≡ true
in_all p [] h = refl
in_all p (x ∷ xs) h = both (p x) (list_all p xs) (h x (in_first x xs)) (in_all p xs (λ t k. h t (in_rest x xs t k)))
  where
    both : (a b : Bool) → a ≡ true → b ≡ true → (a && b) ≡ true
    both true b e f = f
    both false b e f = e

pub among_is : (less list : List ℕ) (p : ℕ → Bool) (b : Bool) → ((t : ℕ) → p t ≡ list_any (nat_eq t) list) → b ≡ list_all p less → IsTrue b ↔ AreAmong less list
among_is less list p b h e = (
  λ k t c. any_in list t (sym (h t) ∙ all_in p less (sym e ∙ k) t c),
  λ k. e ∙ in_all p less (λ t c. h t ∙ in_any list t (k t c)),
)

-- Pairs below others.
pub below_test : (pair before : List ℕ) (a b x : Bool) → IsTrue a ↔ AreAmong pair before → IsTrue b ↔ AreAmong before pair → x ≡ (a && not b) → IsTrue x ↔ ChangeBelow pair before
below_test pair before a b x f g e = (
  λ h. let r = both a b (sym e ∙ h) in record { within = f.0 r.0; differs = λ k. never (g.1 k) r.1 },
  λ h. e ∙ join a b (f.1 h.within) (λ k. h.differs (g.0 k)),
)
  where
    both : (a b : Bool) → (a && not b) ≡ true → (a ≡ true) × (b ≡ false)
    both true true h = cc
    both true false h = (refl, refl)
    both false b h = cc

    join : (a b : Bool) → a ≡ true → ¬ (b ≡ true) → (a && not b) ≡ true
    join true true h k = absurd (k refl)
    join true false h k = refl
    join false b h k = h

pub below_last_result : (chain : List (List ℕ)) (pair last before : List ℕ) (r : Result Bool OutOfMemory) → Some last ≡ slice_get chain (length chain - 1) → before ≡ last → IfOk r (λ b. IsTrue b ↔ ChangeBelow pair before) → IfOk r (λ b. IsTrue b ↔ IsBelowLast chain pair)
below_last_result chain pair last before (Err e) h f g = tt
below_last_result chain pair last before (Ok b) h f g = (
  λ k q own. subst (ChangeBelow pair) (f ∙ one_last chain last q (last_at chain last (sym h)) own) (g.0 k),
  λ k. g.1 (subst (ChangeBelow pair) (sym f) (k last (last_at chain last (sym h)))),
)

pub below_none_result : (chain : List (List ℕ)) (pair : List ℕ) → None ≡ slice_get chain (length chain - 1) → IsTrue true ↔ IsBelowLast chain pair
below_none_result chain pair h = (λ k. below_none chain pair (no_last chain h), λ k. refl)

-- Refused lines.
pub no_test : (b : Bool) → IsTrue b → b ≡ false → ⊥
no_test b h e = never h e

pub premise_refused : (s : Setting) (chain : List (List ℕ)) (rule : Rule) (e : RuleRefusal) (r : LineRefusal) → Answers (rule_clause s chain rule.name rule.numbers) (Err e) → r ≡ rule_refused e → IsLineRefusal s (lines_of chain [] []) (line.Rule rule) r
premise_refused s chain rule e r h f = subst (IsLineRefusal s (lines_of chain [] []) (line.Rule rule)) (sym f) (at e h)
  where
    at : (e : RuleRefusal) → Answers (rule_clause s chain rule.name rule.numbers) (Err e) → IsLineRefusal s (lines_of chain [] []) (line.Rule rule) (rule_refused e)
    at rule_refusal.OutOfRange g = λ ls k. let z : OutOfRange ≡ Literals ls = sym g ∙ k in cc
    at rule_refusal.Tautology g = λ ls k. let z : Tautology ≡ Literals ls = sym g ∙ k in cc
    at rule_refusal.OutOfMemory g = tt

pub rule_moved : (s : Setting) (chain : List (List ℕ)) (ats : List Atom) (cs : List (List Lit)) (rule : Rule) (e : LineRefusal) → IsLineRefusal s (lines_of chain [] []) (line.Rule rule) e → IsLineRefusal s (lines_of chain ats cs) (line.Rule rule) e
rule_moved s chain ats cs rule refusal.PairOutside h = h
rule_moved s chain ats cs rule refusal.NotBelow h = h
rule_moved s chain ats cs rule refusal.NotConforming h = h
rule_moved s chain ats cs rule refusal.BadRule h = h
rule_moved s chain ats cs rule refusal.BadStep h = h
rule_moved s chain ats cs rule refusal.OutOfMemory h = h

pub pair_moved : (s t : Setting) (chain other : List (List ℕ)) (ats : List Atom) (cs : List (List Lit)) (pair : List ℕ) (e : LineRefusal) → t ≡ s → other ≡ chain → IsPairRefusal t other pair e → IsLineRefusal s (lines_of chain ats cs) (line.Chain pair) e
pair_moved s t chain other ats cs pair e f g h = at e (subst (λ (u : Setting). IsPairRefusal u chain pair e) f (subst (λ c. IsPairRefusal t c pair e) g h))
  where
    at : (e : LineRefusal) → IsPairRefusal s chain pair e → IsLineRefusal s (lines_of chain ats cs) (line.Chain pair) e
    at refusal.PairOutside h = h
    at refusal.NotBelow h = h
    at refusal.NotConforming h = h
    at refusal.BadRule h = h
    at refusal.BadStep h = h
    at refusal.OutOfMemory h = h

pub pair_judged_ok : (s : Setting) (chain : List (List ℕ)) (pair : List ℕ) (b c : Bool) (x : Result (Unit {0}) LineRefusal) → AreCandidates s pair → IsTrue b ↔ IsBelowLast chain pair → IsTrue c ↔ Conforms s.shapes (edited_by s pair) → x ≡ pair_answer b c
    → OnOk x (AreCandidates s pair × IsBelowLast chain pair × Conforms s.shapes (edited_by s pair))
pair_judged_ok s chain pair b c x own f g e = subst (λ y. OnOk y (AreCandidates s pair × IsBelowLast chain pair × Conforms s.shapes (edited_by s pair))) (sym e) (at b c f g)
  where
    at : (b c : Bool) → IsTrue b ↔ IsBelowLast chain pair → IsTrue c ↔ Conforms s.shapes (edited_by s pair) → OnOk (pair_answer b c) (AreCandidates s pair × IsBelowLast chain pair × Conforms s.shapes (edited_by s pair))
    at false c f g = tt
    at true false f g = tt
    at true true f g = (own, f.0 refl, g.0 refl)

pub pair_judged_err : (s : Setting) (chain : List (List ℕ)) (pair : List ℕ) (b c : Bool) (x : Result (Unit {0}) LineRefusal) → AreCandidates s pair → IsTrue b ↔ IsBelowLast chain pair → IsTrue c ↔ Conforms s.shapes (edited_by s pair) → x ≡ pair_answer b c
    → IfErr x (λ e. IsPairRefusal s chain pair e)
pair_judged_err s chain pair b c x own f g e = subst (λ y. IfErr y (λ r. IsPairRefusal s chain pair r)) (sym e) (at b c f g)
  where
    at : (b c : Bool) → IsTrue b ↔ IsBelowLast chain pair → IsTrue c ↔ Conforms s.shapes (edited_by s pair) → IfErr (pair_answer b c) (λ r. IsPairRefusal s chain pair r)
    at false c f g = (own, λ h. never (f.1 h) refl)
    at true false f g = (own, f.0 refl, λ h. never (g.1 h) refl)
    at true true f g = tt

pub step_refused_line : (s : Setting) (chain : List (List ℕ)) (ats : List Atom) (cs : List (List Lit)) (room : ℕ) (ids : List ℕ) (e : StepRefusal) (r : LineRefusal) → IsReady s chain ats cs room → IsRefusal cs ids e → r ≡ step_refused e → IsLineRefusal s (lines_of chain ats cs) (line.Step ids) r
step_refused_line s chain ats cs room ids e r ready h f = subst (IsLineRefusal s (lines_of chain ats cs) (line.Step ids)) (sym f) (at e h)
  where
    at : (e : StepRefusal) → IsRefusal cs ids e → IsLineRefusal s (lines_of chain ats cs) (line.Step ids) (step_refused e)
    at (step_refusal.UnknownId k) g = step_bad s chain ats cs room ids ready g.1
    at (step_refusal.NoSingleClash k) g = step_bad s chain ats cs room ids ready g.1
    at step_refusal.OutOfMemory g = tt

-- Lines that were kept.
pub kept_ok : (P : Type 0) (r : Result (Unit {0}) OutOfMemory) (x : Result (Unit {0}) LineRefusal) → x ≡ kept_or_memory r → OnOk r P → OnOk x P
kept_ok P r x f h = subst (λ y. OnOk y P) (sym f) (at r h)
  where
    at : (r : Result (Unit {0}) OutOfMemory) → OnOk r P → OnOk (kept_or_memory r) P
    at (Ok u) g = g
    at (Err e) g = tt

pub rule_checked : (s : Setting) (chain : List (List ℕ)) (ats : List Atom) (cs : List (List Lit)) (below : Lines) (rule : Rule) (ls : List Literal) (r : Result (Unit {0}) OutOfMemory) (x : Result (Unit {0}) LineRefusal)
    → rule_clause s chain rule.name rule.numbers ≡ Literals ls → OnOk r (below ≡ with_clause (lines_of chain ats cs) ls) → x ≡ kept_or_memory r → IsChecked s (lines_of chain ats cs) (line.Rule rule) below x
rule_checked s chain ats cs below rule ls r x e h f = subst (IsChecked s (lines_of chain ats cs) (line.Rule rule) below) (sym f) (at r h)
  where
    at : (r : Result (Unit {0}) OutOfMemory) → OnOk r (below ≡ with_clause (lines_of chain ats cs) ls) → IsChecked s (lines_of chain ats cs) (line.Rule rule) below (kept_or_memory r)
    at (Ok u) g = (ls, e, sym g)
    at (Err m) g = tt

module _ (s t : Setting) (chain other more : List (List ℕ)) (ats : List Atom) (cs : List (List Lit)) (pair : List ℕ) (f : t ≡ s) (g : other ≡ chain) (r : Result (Unit {0}) OutOfMemory) (x : Result (Unit {0}) LineRefusal) (e : x ≡ kept_or_memory r) (h : OnOk r (more ≡ chain ++ pair ∷ [])) where
  pub pair_checked : AreCandidates t pair × IsBelowLast other pair × Conforms t.shapes (edited_by t pair) → IsChecked s (lines_of chain ats cs) (line.Chain pair) (lines_of more ats cs) x
  pair_checked k = subst (IsChecked s (lines_of chain ats cs) (line.Chain pair) (lines_of more ats cs)) (sym e) (at r h)
    where
      at : (r : Result (Unit {0}) OutOfMemory) → OnOk r (more ≡ chain ++ pair ∷ []) → IsChecked s (lines_of chain ats cs) (line.Chain pair) (lines_of more ats cs) (kept_or_memory r)
      at (Ok u) n = (
        record {
          below = subst (λ c. IsBelowLast c pair) g k.1;
          explains = record { within = subst (λ (u : Setting). AreCandidates u pair) f k.0; conforms = subst (λ (u : Setting). Conforms u.shapes (edited_by u pair)) f k.2 };
        },
        (λ i. lines_of (sym n i) ats cs),
      )
      at (Err m) n = tt

  pub pair_kept : (room : ℕ) → IsReady s chain ats cs room → AreCandidates t pair → OnOk x (IsReady s more ats cs room)
  pair_kept room ready own = subst (λ y. OnOk y (IsReady s more ats cs room)) (sym e) (at r h)
    where
      at : (r : Result (Unit {0}) OutOfMemory) → OnOk r (more ≡ chain ++ pair ∷ []) → OnOk (kept_or_memory r) (IsReady s more ats cs room)
      at (Ok u) n = pair_ready s chain more pair ats cs room ready (subst (λ (u : Setting). AreCandidates u pair) f own) n
      at (Err m) n = tt

-- The same of another problem and another chain, which are the same.
pub candidates_moved : (s t : Setting) (chain other : List (List ℕ)) → t ≡ s → other ≡ chain → All (AreCandidates s) chain → All (AreCandidates t) other
candidates_moved s t chain other f g h = subst (λ (u : Setting). All (AreCandidates u) other) (sym f) (subst (All (AreCandidates s)) (sym g) h)

pub ready_moved : (s t : Setting) (chain : List (List ℕ)) (ats : List Atom) (cs : List (List Lit)) (room : ℕ) → t ≡ s → IsReady s chain ats cs room → IsReady t chain ats cs room
ready_moved s t chain ats cs room f h = subst (λ (u : Setting). IsReady u chain ats cs room) (sym f) h

-- The claim.
pub claimed_result : (s : Setting) (adds deletes : Graph) (chain : List (List ℕ)) (pair : List ℕ) (r : Result Bool OutOfMemory) → Some pair ≡ slice_get chain (length chain - 1) → IfOk r (λ b. IsTrue b ↔ ((additions s pair ≡ adds) × (deletions s pair ≡ deletes))) → IfOk r (λ b. IsTrue b ↔ IsClaimed s adds deletes chain)
claimed_result s adds deletes chain pair (Err e) h g = tt
claimed_result s adds deletes chain pair (Ok b) h g =
    let k = claimed_is s adds deletes chain pair (last_at chain pair (sym h)) in
    (λ t. k.1 (g.0 t), λ c. g.1 (k.0 c))

pub not_claimed_result : (s : Setting) (adds deletes : Graph) (chain : List (List ℕ)) → None ≡ slice_get chain (length chain - 1) → IsTrue false ↔ IsClaimed s adds deletes chain
not_claimed_result s adds deletes chain h = (λ k. never k refl, λ c. absurd (claimed_not s adds deletes chain (no_last chain h) c))

pub pair_candidates : (s : Setting) (chain : List (List ℕ)) (pair : List ℕ) → All (AreCandidates s) chain → Some pair ≡ slice_get chain (length chain - 1) → AreCandidates s pair
pair_candidates s chain pair all h = last_candidates s chain pair all (last_at chain pair (sym h))

pub ended_iff : (c : Claim) (cs : List (List Lit)) (b : Bool) → c ≢ claim.Spent → IsTrue b ↔ ((0 < length cs) × (slice_get cs (length cs - 1) ≡ Some [])) → IsTrue b ↔ IsEnded c cs
ended_iff claim.Pair cs b n h = (λ k. (refuted_is cs).0 (h.0 k), λ k. h.1 ((refuted_is cs).1 k))
ended_iff claim.NoPair cs b n h = (λ k. (refuted_is cs).0 (h.0 k), λ k. h.1 ((refuted_is cs).1 k))
ended_iff claim.Spent cs b n h = absurd (n refl)

pub claim_checked : (s t : Setting) (d : Document) (chain other : List (List ℕ)) (ats : List Atom) (cs : List (List Lit)) (fits done : Bool) (x : Result (Unit {0}) CheckRefusal) → t ≡ s → other ≡ chain → IsTrue fits ↔ FitsClaim t d d.proof.claim other → IsTrue done ↔ IsEnded d.proof.claim cs → x ≡ claim_answer fits done → IsClaimChecked s d (lines_of chain ats cs) x
claim_checked s t d chain other ats cs fits done x e g h k f = subst (IsClaimChecked s d (lines_of chain ats cs)) (sym f) (at fits done (subst (λ (u : Setting). IsTrue fits ↔ FitsClaim u d d.proof.claim chain) e (subst (λ c. IsTrue fits ↔ FitsClaim t d d.proof.claim c) g h)) k)
  where
    at : (fits done : Bool) → IsTrue fits ↔ FitsClaim s d d.proof.claim chain → IsTrue done ↔ IsEnded d.proof.claim cs → IsClaimChecked s d (lines_of chain ats cs) (claim_answer fits done)
    at false done p q = λ n. never (p.1 n) refl
    at true false p q = (p.0 refl, λ n. never (q.1 (done_ended chain ats d.proof.claim cs n)) refl)
    at true true p q = (p.0 refl, ended_done chain ats d.proof.claim cs (q.0 refl))
