-- What the checker keeps, where it goes on by a line.
use Rattle.std.proofs.Common.{◌≡◌, ◌⊎◌, inl, inr, ℕ, ◌<◌, ◌≤◌, Bool, true, false, not, cond, List, [], ◌∷◌, ◌++◌, map, length, Contains, Option, Some, None, refl, sym, subst, arith}
use Rattle.std.specs.List.{All, filter}
use Rattle.std.proofs.lemmas.List.Elements.{All-append, All-cons, All-nil}
use Rattle.rdf_terms.proofs.Members.{in_first, in_rest, filter_in}
use Rattle.clause_store.specs.declared.lit.Lit.{Lit}
use Rattle.clause_store.specs.Clauses.{are_clauses, is_within, are_within}
use Rattle.clause_store.specs.Chained.{IsChained as IsChainedNumbers}
use Rattle.clause_store.proofs.Sets.{never, are_within-push}
use Rattle.refute_check.specs.Refusals.{IsChainedToNone}
use Rattle.repair_problem.specs.declared.atom.Atom.{Atom}
use Rattle.repair_problem.specs.declared.atom.Literal.{Literal}
use Rattle.repair_problem.specs.declared.atom.Part.{Part}
use Rattle.repair_problem.specs.Setting.{Setting}
use Rattle.repair_problem.specs.Changes.{AreCandidates}
use Rattle.proof_lines.specs.declared.rule.RuleName.{RuleName}
use Rattle.proof_lines.specs.declared.proof.ProofLine.TheVariants as line
use Rattle.count_encode.specs.PartTruth.{opposite}
use Rattle.atom_parts.specs.PartLiterals.{literals}
use Rattle.premise_rules.specs.declared.clause.Clause.TheVariants.{Literals}
use Rattle.premise_rules.specs.Literals.{same_literal, distinct, finished}
use Rattle.premise_rules.specs.RuleClauses.{rule_parts, rule_clause}
use Rattle.premise_rules.specs.Chains.{IsChained}
use Rattle.premise_rules.specs.Documents.{Leads, AnyStep}
use Rattle.premise_rules.proofs.AnsweredLiterals.{finished_as}
use Rattle.premise_rules.proofs.SameLiterals.{same_itself}
use Rattle.atom_numbers.specs.Numbers.{clause_of, lines_of, AreApart, AreOnce, IsGrown}
use Rattle.atom_numbers.proofs.NumberLaws.{grown_length, are_within_more}
use Rattle.atom_numbers.proofs.Clauses.{chained_there, chained_back, chained_within, lines_pushed}
use Rattle.certificates.specs.Checker.{IsReady}
use Rattle.certificates.proofs.Sound.{same_or_opposite}
use Rattle.certificates.proofs.Law.{rule_plain}

-- The clause of a rule has each atom once.
NoRepeat : List Literal → Type 0
NoRepeat [] = Unit {0}
NoRepeat (l ∷ ls) = ¬ (Contains ls l) × NoRepeat ls

no_repeat_filter : (p : Literal → Bool) (ls : List Literal) → NoRepeat ls → NoRepeat (filter p ls)
unfolding NoRepeat
no_repeat_filter p [] h = tt
no_repeat_filter p (l ∷ ls) h = go (p l) (no_repeat_filter p ls h.1)
  where
    go : (b : Bool) → NoRepeat (filter p ls) → NoRepeat (cond b (l ∷ filter p ls) (filter p ls))
    go true r = (λ k. h.0 (filter_in p ls l k).0, r)
    go false r = r

no_repeat_distinct : (ls : List Literal) → NoRepeat (distinct ls)
unfolding NoRepeat
no_repeat_distinct [] = tt
no_repeat_distinct (l ∷ ls) = (
  λ k. out (filter_in (λ m. not (same_literal l m)) (distinct ls) l k).1,
  no_repeat_filter (λ m. not (same_literal l m)) (distinct ls) (no_repeat_distinct ls),
)
  where
    out : not (same_literal l l) ≡ true → ⊥
    out e = never {b = not true} (subst (λ b. not b ≡ true) (same_itself l) e) refl

once_of : (all ls : List Literal) → ((l : Literal) → Contains ls l → Contains all l) → ((l : Literal) → Contains all l → ¬ (Contains all (opposite l))) → NoRepeat ls → AreOnce ls
unfolding NoRepeat
once_of all [] inside plain h = tt
once_of all (l ∷ ls) inside plain h = (λ m k e. split m k (same_or_opposite m l e), once_of all ls (λ m k. inside m (in_rest l ls m k)) plain h.1)
  where
    split : (m : Literal) → Contains ls m → (m ≡ l) ⊎ (m ≡ opposite l) → ⊥
    split m k (inl e) = h.0 (subst (Contains ls) e k)
    split m k (inr e) = plain l (inside l (in_first l ls)) (subst (Contains all) e (inside m (in_rest l ls m k)))

pub rule_once : (s : Setting) (chain : List (List ℕ)) (name : RuleName) (numbers : List ℕ) (ls : List Literal) → rule_clause s chain name numbers ≡ Literals ls → AreOnce ls
rule_once s chain name numbers ls e = once_of ls ls (λ l k. k) (rule_plain s chain name numbers ls e) (at (rule_parts s chain name numbers) e)
  where
    at : (o : Option (List Part)) → finished o ≡ Literals ls → NoRepeat ls
    at None g = cc
    at (Some ps) g = subst NoRepeat (finished_as ps ls g).same (no_repeat_distinct (literals ps))

-- What is kept behind a premise.
pub ready_pushed : (s : Setting) (chain : List (List ℕ)) (old new : List Atom) (cs ds : List (List Lit)) (c : List Lit) (room more : ℕ) → IsReady s chain old cs room → IsGrown old new → AreApart new → is_within (length new) c ≡ true → length new ≤ more → ds ≡ cs ++ c ∷ [] → IsReady s chain new ds more
ready_pushed s chain old new cs ds c room more r g apart w le f =
    record {
      candidates = r.candidates;
      apart = apart;
      within = subst (λ xs. are_within (length new) xs ≡ true) (sym f) (are_within-push (length new) cs c (are_within_more (length old) (length new) cs (grown_length old new g) r.within) w);
      has_room = le;
    }

-- What is kept behind a step.
pub room_for : (s : Setting) (chain : List (List ℕ)) (ats : List Atom) (cs : List (List Lit)) (room : ℕ) → IsReady s chain ats cs room → are_within room cs ≡ true
room_for s chain ats cs room r = are_within_more (length ats) room cs r.has_room r.within

pub step_leads : (s : Setting) (chain : List (List ℕ)) (ats : List Atom) (cs ds : List (List Lit)) (room : ℕ) (ids : List ℕ) → IsReady s chain ats cs room → are_clauses cs ≡ true → (c : List Lit) × IsChainedNumbers cs ids c × (ds ≡ cs ++ c ∷ []) → Leads s AnyStep (lines_of chain ats cs) (line.Step ids ∷ []) (lines_of chain ats ds)
step_leads s chain ats cs ds room ids r once h = (
  clause_of ats h.0,
  chained_there ats r.apart cs r.within once ids h.0 h.1,
  tt,
  sym (lines_pushed chain ats ats cs ds h.0 (clause_of ats h.0) (λ i a e. e) r.within refl h.2),
)

pub step_ready : (s : Setting) (chain : List (List ℕ)) (ats : List Atom) (cs ds : List (List Lit)) (room : ℕ) (ids : List ℕ) → IsReady s chain ats cs room → (c : List Lit) × IsChainedNumbers cs ids c × (ds ≡ cs ++ c ∷ []) → IsReady s chain ats ds room
step_ready s chain ats cs ds room ids r h = ready_pushed s chain ats ats cs ds h.0 room room r (λ i a e. e) r.apart (chained_within (length ats) cs ids h.0 r.within h.1) r.has_room h.2

pub step_bad : (s : Setting) (chain : List (List ℕ)) (ats : List Atom) (cs : List (List Lit)) (room : ℕ) (ids : List ℕ) → IsReady s chain ats cs room → IsChainedToNone cs ids → (c : List Literal) → ¬ (IsChained (map (clause_of ats) cs) ids c)
step_bad s chain ats cs room ids r none c h = let b = chained_back ats r.apart cs r.within ids c h in none b.0 b.1

pub step_short : (clauses : List (List Literal)) (ids : List ℕ) → length ids < 2 → (c : List Literal) → ¬ (IsChained clauses ids c)
step_short clauses [] lt c h = h
step_short clauses (i ∷ []) lt c h = h
step_short clauses (i ∷ j ∷ ids) lt c h = absurd (omega (arith, lt))

-- What is kept behind a pair.
pub pair_ready : (s : Setting) (chain more : List (List ℕ)) (pair : List ℕ) (ats : List Atom) (cs : List (List Lit)) (room : ℕ) → IsReady s chain ats cs room → AreCandidates s pair → more ≡ chain ++ pair ∷ [] → IsReady s more ats cs room
pair_ready s chain more pair ats cs room r own e =
    record {
      candidates = subst (All (AreCandidates s)) (sym e) (All-append (AreCandidates s) chain (pair ∷ []) r.candidates (All-cons (AreCandidates s) pair [] own (All-nil (AreCandidates s))));
      apart = r.apart;
      within = r.within;
      has_room = r.has_room;
    }
