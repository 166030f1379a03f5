-- Lists that grow at their end, and what a session tells with them.
use Rattle.std.proofs.Common.{◌≡◌, ◌≢◌, ◌⊎◌, inl, inr, ℕ, zero, suc, ◌+◌, ◌<◌, ◌≤◌, Bool, true, false, not, cond, List, [], ◌∷◌, ◌++◌, map, length, take, get_or, Contains, Some, None, slice_get, refl, sym, ap, ◌∙◌, subst, append_assoc, append-nil, arith}
use Rattle.std.proofs.lemmas.List.{map-append}
use Rattle.std.proofs.lemmas.List.Elements.{Contains-append_left, Contains-append_right, Contains-append_cases}
use Rattle.std.proofs.lemmas.Option.{slice_get-get_or, get_or_from_slice_get}
use Rattle.std.specs.List.{filter}
use Rattle.rdf_terms.proofs.Members.{in_none, in_first, in_rest, in_cases, in_map, map_in, in_filter, filter_in}
use Rattle.clause_store.specs.declared.lit.Lit.{Lit}
use Rattle.sat_core.specs.Solving.{HasEmpty}
use Rattle.proof_lines.specs.declared.proof.ProofLine.TheVariants as line
use Rattle.proof_lines.specs.declared.rule.Rule.{Rule}
use Rattle.certificates.proofs.Sound.{some_is, none_some}
use Rattle.clause_ground.specs.declared.premise.Premise.{Premise}
use Rattle.clause_ground.specs.Premises.{rules_of, clauses_of}
use Rattle.shrink_pair.specs.declared.candidates.Candidate.{Candidate}
use Rattle.shrink_pair.specs.Sessions.{State, premise, rule_lines, with_premises, outside_rule, outside_premise, outside_premises}

module _ {X : Type 0} where
  pub take_none : (xs : List X) → take 0 xs ≡ []
  take_none [] = refl
  take_none (x ∷ xs) = refl

  pub take_more : (xs : List X) (k : ℕ) (x : X) → slice_get xs k ≡ Some x → take (k + 1) xs ≡ take k xs ++ x ∷ []
  take_more [] k x e = absurd (none_some e)
  take_more (y ∷ ys) zero x e = ap (λ z. z ∷ []) (some_is e)
  take_more (y ∷ ys) (suc k) x e = let n : suc k + 1 ≡ suc (k + 1) = omega arith in rw n (ap (λ zs. y ∷ zs) (take_more ys k x e))

  pub take_whole : (xs : List X) (k : ℕ) → length xs ≤ k → take k xs ≡ xs
  take_whole [] zero le = refl
  take_whole [] (suc k) le = refl
  take_whole (x ∷ xs) zero le = absurd (omega (arith, le))
  take_whole (x ∷ xs) (suc k) le = ap (λ ys. x ∷ ys) (take_whole xs k (omega (arith, le)))

  pub at_end : (xs : List X) (x y : X) (i : ℕ) → slice_get (xs ++ x ∷ []) i ≡ Some y → (slice_get xs i ≡ Some y) ⊎ (x ≡ y)
  at_end [] x y zero e = inr (some_is e)
  at_end [] x y (suc i) e = absurd (none_some e)
  at_end (z ∷ xs) x y zero e = inl e
  at_end (z ∷ xs) x y (suc i) e = at_end xs x y i e

  pub place_of : (xs : List X) (x : X) → Contains xs x → (i : ℕ) × (slice_get xs i ≡ Some x)
  place_of xs x h = (h.0, slice_get-get_or xs h.0 x h.1 ∙ ap Some h.2)

  pub at_in : (xs : List X) (i : ℕ) (x : X) → slice_get xs i ≡ Some x → Contains xs x
  at_in [] i x e = absurd (none_some e)
  at_in (y ∷ xs) zero x e = subst (Contains (y ∷ xs)) (some_is e) (in_first y xs)
  at_in (y ∷ xs) (suc i) x e = in_rest y xs x (at_in xs i x e)

  pub last_at : (xs : List X) (x : X) → slice_get (xs ++ x ∷ []) (length xs) ≡ Some x
  last_at [] x = refl
  last_at (y ∷ xs) x = last_at xs x

  pub low_at : (xs ys : List X) (x : X) (i : ℕ) → slice_get xs i ≡ Some x → slice_get (xs ++ ys) i ≡ Some x
  low_at [] ys x i e = absurd (none_some e)
  low_at (y ∷ xs) ys x zero e = e
  low_at (y ∷ xs) ys x (suc i) e = low_at xs ys x i e

  pub length_end : (xs : List X) (x : X) → length (xs ++ x ∷ []) ≡ suc (length xs)
  length_end [] x = refl
  length_end (y ∷ xs) x = ap suc (length_end xs x)

-- Clauses none of which is empty.
pub full_more : (cs : List (List Lit)) (c : List Lit) → ¬ (HasEmpty cs) → c ≢ [] → ¬ (HasEmpty (cs ++ c ∷ []))
full_more cs c full own h = split (at_end cs c [] h.0 h.1)
  where
    split : (slice_get cs h.0 ≡ Some []) ⊎ (c ≡ []) → ⊥
    split (inl e) = full (h.0, e)
    split (inr e) = own e

pub full_first : (cs ds : List (List Lit)) → ¬ (HasEmpty (cs ++ ds)) → ¬ (HasEmpty cs)
full_first cs ds full h = full (h.0, low_at cs ds [] h.0 h.1)

-- What a session holds.
pub premises_none : (t : State) → t ≡ with_premises t []
premises_none t =
    let e = sym (append-nil t.lines) in
    let f = sym (append-nil t.clauses) in
    λ i. record { lines = e i; clauses = f i; log = t.log; changeable = t.changeable; pairs = t.pairs }

rules_more : (ps qs : List Premise) → rule_lines (ps ++ qs) ≡ rule_lines ps ++ rule_lines qs
rules_more ps qs = map-append (λ (p : Premise). line.Rule p.rule) ps qs

pub clauses_more : (ps qs : List Premise) → clauses_of (ps ++ qs) ≡ clauses_of ps ++ clauses_of qs
clauses_more ps qs = map-append (λ (p : Premise). p.lits) ps qs

pub premises_more : (t : State) (ps qs : List Premise) → with_premises (with_premises t ps) qs ≡ with_premises t (ps ++ qs)
premises_more t ps qs =
    let e = append_assoc t.lines (rule_lines ps) (rule_lines qs) ∙ ap (λ ls. t.lines ++ ls) (sym (rules_more ps qs)) in
    let f = append_assoc t.clauses (clauses_of ps) (clauses_of qs) ∙ ap (λ cs. t.clauses ++ cs) (sym (clauses_more ps qs)) in
    λ i. record { lines = e i; clauses = f i; log = t.log; changeable = t.changeable; pairs = t.pairs }

pub premise_at : (ps : List Premise) (k : ℕ) (q : Rule) (c : List Lit) → slice_get (rules_of ps) k ≡ Some q → slice_get (clauses_of ps) k ≡ Some c → slice_get ps k ≡ Some (premise q c)
premise_at [] k q c e f = absurd (none_some e)
premise_at (p ∷ ps) zero q c e f = let g = some_is e in let h = some_is f in ap Some (λ i. record { rule = g i; lits = h i })
premise_at (p ∷ ps) (suc k) q c e f = premise_at ps k q c e f

-- one premise more of a list
pub premises_next : (t old new : State) (ps : List Premise) (k : ℕ) (q : Rule) (c : List Lit) → slice_get (rules_of ps) k ≡ Some q → slice_get (clauses_of ps) k ≡ Some c → old ≡ with_premises t (take k ps) → new ≡ with_premises old (premise q c ∷ []) → new ≡ with_premises t (take (k + 1) ps)
premises_next t old new ps k q c e f g h =
    h ∙ (ap (λ x. with_premises x (premise q c ∷ [])) g ∙ (premises_more t (take k ps) (premise q c ∷ []) ∙ ap (with_premises t) (sym (take_more ps k (premise q c) (premise_at ps k q c e f)))))

pub outside_next : (t old new : State) (j : ℕ) (cs : List Candidate) (k : ℕ) (d : Candidate) (q : Rule) → k < length cs → old ≡ with_premises t (outside_premises j (take k cs)) → q ≡ outside_rule j (get_or cs k d).number → new ≡ with_premises old (premise q ((get_or cs k d).unchanged ∷ []) ∷ []) → new ≡ with_premises t (outside_premises j (take (k + 1) cs))
outside_next t old new j cs k d q lt g r h =
    let c = get_or cs k d in
    let more : take (k + 1) cs ≡ take k cs ++ c ∷ [] = take_more cs k c (slice_get-get_or cs k d lt) in
    h ∙ (ap (λ x. with_premises old (premise x (c.unchanged ∷ []) ∷ [])) r ∙ (ap (λ x. with_premises x (outside_premise j c ∷ [])) g ∙ (premises_more t (outside_premises j (take k cs)) (outside_premise j c ∷ []) ∙ ap (with_premises t) (sym (ap (outside_premises j) more ∙ map-append (outside_premise j) (take k cs) (c ∷ []))))))

pub premise_full : (old new : State) (q : Rule) (l : Lit) → ¬ (HasEmpty old.clauses) → new ≡ with_premises old (premise q (l ∷ []) ∷ []) → ¬ (HasEmpty new.clauses)
premise_full old new q l full h = subst (λ (t : State). ¬ (HasEmpty t.clauses)) (sym h) (full_more old.clauses (l ∷ []) full some)
  where
    some : l ∷ [] ≢ []
    some e = cc
