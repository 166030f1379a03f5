-- A proof whose steps are fresh has at most 3^a of them, where the clauses of its rules have a atoms.
use Rattle.std.proofs.Common.{◌≡◌, ℕ, zero, suc, ◌+◌, ◌*◌, ◌<◌, ◌≤◌, Bool, true, false, nat_eq, List, [], ◌∷◌, ◌++◌, length, Contains, Some, slice_get, refl, sym, ap, ◌∙◌, subst, ◌⊎◌, inl, inr, eqb-true, arith}
use Rattle.std.specs.Prelude.{◌^◌}
use native.Mathlib.Numerals.{unary_clauses}
use Rattle.std.specs.List.{list_any, IsDistinct, AllByRecursion}
use Rattle.std.proofs.lemmas.Map.Steps.{length-le_from_distinct_below}
use Rattle.std.proofs.lemmas.Option.{slice_get-get_or}
use Rattle.std.proofs.lemmas.List.Elements.{Contains-append_left, Contains-push, Contains-push_cases}
use Rattle.rdf_terms.proofs.Members.{in_none, in_first, in_rest, in_cases}
use Rattle.clause_store.proofs.Sets.{never, or_cases, or_first, or_second}
use Rattle.repair_problem.specs.declared.atom.Atom.{Atom}
use Rattle.repair_problem.specs.declared.atom.Literal.{Literal}
use Rattle.repair_problem.specs.Setting.{Setting}
use Rattle.proof_lines.specs.declared.proof.ProofLine.{ProofLine}
use Rattle.proof_lines.specs.declared.proof.ProofLine.TheVariants as line
use Rattle.proof_lines.specs.declared.proof.Proof.{Proof}
use Rattle.count_encode.specs.PartTruth.{opposite}
use Rattle.premise_rules.specs.Literals.{same_literal, among}
use Rattle.premise_rules.specs.Chains.{ChainsFrom, IsChained}
use Rattle.premise_rules.specs.Documents.{Lines, no_lines, with_pair, with_clause, Leads, IsAssignment, IsUnit, IsFreshStep, IsFresh}
use Rattle.premise_rules.proofs.SameLiterals.{same_is, same_itself}
use Rattle.certificates.specs.Steps.{step_count, AreAtomsIn, AreRuleAtomsIn}
use Rattle.certificates.proofs.Sound.{some_is, at_place}

among_in : (ls : List Literal) (l : Literal) → among ls l ≡ true → Contains ls l
among_in [] l h = never h refl
among_in (m ∷ ls) l h = split (or_cases (same_literal l m) (among ls l) h) (among_in ls l)
  where
    split : (same_literal l m ≡ true) ⊎ (among ls l ≡ true) → (among ls l ≡ true → Contains ls l) → Contains (m ∷ ls) l
    split (inl e) on = subst (Contains (m ∷ ls)) (sym (same_is l m e)) (in_first m ls)
    split (inr e) on = in_rest m ls l (on e)

in_among : (ls : List Literal) (l : Literal) → Contains ls l → among ls l ≡ true
in_among [] l h = absurd (in_none l h)
in_among (m ∷ ls) l h = split (in_cases m ls l h) (in_among ls l)
  where
    split : (m ≡ l) ⊎ Contains ls l → (Contains ls l → among ls l ≡ true) → among (m ∷ ls) l ≡ true
    split (inl e) on = or_first (same_literal l m) (among ls l) (subst (λ x. same_literal l x ≡ true) (sym e) (same_itself l))
    split (inr k) on = or_second (same_literal l m) (among ls l) (on k)

abbrev lit : Atom → Bool → Literal
lit a p = record { atom = a; positive = p }

-- what an assignment gives an atom: nothing, true or false
abbrev by_signs : Bool → Bool → ℕ
by_signs true c = 1
by_signs false true = 2
by_signs false false = 0

abbrev digit : List Literal → Atom → ℕ
digit p a = by_signs (among p (lit a true)) (among p (lit a false))

abbrev code : List Atom → List Literal → ℕ
code [] p = 0
code (a ∷ ats) p = 3 * code ats p + digit p a

abbrev power : ℕ → ℕ
power zero = 1
power (suc a) = power a * 3

power_is : (a : ℕ) → power a ≡ 3 ^ a
power_is zero = refl
power_is (suc a) = ap (λ x. x * 3) (power_is a) ∙ sym (simp unary_clauses refl)

by_signs_below : (b c : Bool) → by_signs b c < 3
by_signs_below true c = omega arith
by_signs_below false true = omega arith
by_signs_below false false = omega arith

digit_below : (p : List Literal) (a : Atom) → digit p a < 3
digit_below p a = by_signs_below (among p (lit a true)) (among p (lit a false))

code_below : (ats : List Atom) (p : List Literal) → code ats p < power (length ats)
code_below [] p = omega arith
code_below (a ∷ ats) p = let d = digit_below p a in let r = code_below ats p in omega (arith, d, r)

top : (x y d f : ℕ) → 3 * x + d ≡ 3 * y + f → d < 3 → f < 3 → d ≡ f
top x y d f e g h = omega (arith, e, g, h)

rest : (x y d f : ℕ) → 3 * x + d ≡ 3 * y + f → d < 3 → f < 3 → x ≡ y
rest x y d f e g h = omega (arith, e, g, h)

same_digits : (ats : List Atom) (p q : List Literal) → code ats p ≡ code ats q → (a : Atom) → Contains ats a → digit p a ≡ digit q a
same_digits [] p q e a k = absurd (in_none a k)
same_digits (b ∷ ats) p q e a k = split (in_cases b ats a k) (same_digits ats p q (rest (code ats p) (code ats q) (digit p b) (digit q b) e (digit_below p b) (digit_below q b)) a)
  where
    split : (b ≡ a) ⊎ Contains ats a → (Contains ats a → digit p a ≡ digit q a) → digit p a ≡ digit q a
    split (inl g) on = subst (λ x. digit p x ≡ digit q x) g (top (code ats p) (code ats q) (digit p b) (digit q b) e (digit_below p b) (digit_below q b))
    split (inr r) on = on r

-- with no atom in both signs, the digit tells both literals
signs_of : (b c d e : Bool) → (b ≡ true → c ≡ true → ⊥) → (d ≡ true → e ≡ true → ⊥) → by_signs b c ≡ by_signs d e → (b ≡ d) × (c ≡ e)
signs_of true true d e p q h = absurd (p refl refl)
signs_of b c true true p q h = absurd (q refl refl)
signs_of true false true false p q h = (refl, refl)
signs_of true false false true p q h = absurd (omega (arith, h))
signs_of true false false false p q h = absurd (omega (arith, h))
signs_of false true true false p q h = absurd (omega (arith, h))
signs_of false true false true p q h = (refl, refl)
signs_of false true false false p q h = absurd (omega (arith, h))
signs_of false false true false p q h = absurd (omega (arith, h))
signs_of false false false true p q h = absurd (omega (arith, h))
signs_of false false false false p q h = (refl, refl)

not_both : (p : List Literal) → IsAssignment p → (a : Atom) → among p (lit a true) ≡ true → among p (lit a false) ≡ true → ⊥
not_both p one a h g = apart (among_in p (lit a true) h) (among_in p (lit a false) g)
  where
    apart : Contains p (lit a true) → Contains p (lit a false) → ⊥
    apart k m =
        let e = slice_get-get_or p k.0 (lit a true) k.1 ∙ ap Some k.2 in
        let f = slice_get-get_or p m.0 (lit a false) m.1 ∙ ap Some m.2 in
        let i = one k.0 m.0 (lit a true) (lit a false) e f refl in
        let same = some_is (sym e ∙ (ap (slice_get p) i ∙ f)) in
        never {b = true} refl (ap (λ (l : Literal). l.positive) same)

same_among : (ats : List Atom) (p q : List Literal) → IsAssignment p → IsAssignment q → code ats p ≡ code ats q → (l : Literal) → Contains ats l.atom → among p l ≡ among q l
same_among ats p q op oq e l k = pick l.positive
  where
    both : (among p (lit l.atom true) ≡ among q (lit l.atom true)) × (among p (lit l.atom false) ≡ among q (lit l.atom false))
    both = signs_of (among p (lit l.atom true)) (among p (lit l.atom false)) (among q (lit l.atom true)) (among q (lit l.atom false)) (not_both p op l.atom) (not_both q oq l.atom) (same_digits ats p q e l.atom k)

    pick : (s : Bool) → among p (lit l.atom s) ≡ among q (lit l.atom s)
    pick true = both.0
    pick false = both.1

-- a clause over these atoms is a unit under both or neither
unit_same : (ats : List Atom) (p q c : List Literal) (l : Literal) → IsAssignment p → IsAssignment q → code ats p ≡ code ats q → AreAtomsIn ats c → IsUnit p c l → IsUnit q c l
unit_same ats p q c l op oq e small u =
    record {
      own = u.own;
      not_true = λ k. u.not_true (among_in p l (same_among ats p q op oq e l (small l u.own) ∙ in_among q l k));
      not_false = λ k. u.not_false (among_in p (opposite l) (same_among ats p q op oq e (opposite l) (small l u.own) ∙ in_among q (opposite l) k));
      others = λ m k. turn m k (u.others m k);
    }
  where
    turn : (m : Literal) → Contains c m → (m ≡ l) ⊎ Contains p (opposite m) → (m ≡ l) ⊎ Contains q (opposite m)
    turn m k (inl g) = inl g
    turn m k (inr g) = inr (among_in q (opposite m) (sym (same_among ats p q op oq e (opposite m) (small m k)) ∙ in_among p (opposite m) g))

-- Steps have no atoms but those of the clauses above them.
abbrev AreAllIn : List Atom → List (List Literal) → Type 0
AreAllIn ats clauses = (c : List Literal) → Contains clauses c → AreAtomsIn ats c

all_more : (ats : List Atom) (clauses : List (List Literal)) (c : List Literal) → AreAllIn ats clauses → AreAtomsIn ats c → AreAllIn ats (clauses ++ c ∷ [])
all_more ats clauses c all own d k = split (Contains-push_cases clauses c d k)
  where
    split : Contains clauses d ⊎ (c ≡ d) → AreAtomsIn ats d
    split (inl h) = all d h
    split (inr e) = subst (AreAtomsIn ats) e own

chain_atoms : (ats : List Atom) (clauses : List (List Literal)) (ids : List ℕ) (c last : List Literal) → AreAllIn ats clauses → AreAtomsIn ats c → ChainsFrom clauses c ids last → AreAtomsIn ats last
chain_atoms ats clauses [] c last all own h l k = own l ((h l).1 k)
chain_atoms ats clauses (id ∷ ids) c last all own h m n = chain_atoms ats clauses ids h.2 last all (λ l k. side l ((h.3.exact l).0 k).0) h.4 m n
  where
    side : (l : Literal) → Contains c l ⊎ Contains h.0 l → Contains ats l.atom
    side l (inl g) = own l g
    side l (inr g) = all h.0 (at_place clauses id h.0 h.1) l g

chained_atoms : (ats : List Atom) (clauses : List (List Literal)) (ids : List ℕ) (last : List Literal) → AreAllIn ats clauses → IsChained clauses ids last → AreAtomsIn ats last
chained_atoms ats clauses [] last all h = absurd h
chained_atoms ats clauses (first ∷ []) last all h = absurd h
chained_atoms ats clauses (first ∷ second ∷ ids) last all h = chain_atoms ats clauses (second ∷ ids) h.0 last all (all h.0 (at_place clauses first h.0 h.1)) h.2

module _ (s : Setting) (ats : List Atom) where
  -- the codes of the assignments of the steps
  abbrev codes : (above : Lines) (lines : List ProofLine) (end : Lines) → Leads s IsFreshStep above lines end → List ℕ
  codes above [] end h = []
  codes above (line.Chain pair ∷ ls) end h = codes (with_pair above pair) ls end h.1
  codes above (line.Rule r ∷ ls) end h = codes (with_clause above h.0) ls end h.2
  codes above (line.Step ids ∷ ls) end h = code ats h.2.trail ∷ codes (with_clause above h.0) ls end h.3

  length-codes : (above : Lines) (lines : List ProofLine) (end : Lines) (h : Leads s IsFreshStep above lines end) → length (codes above lines end h) ≡ step_count lines
  length-codes above [] end h = refl
  length-codes above (line.Chain pair ∷ ls) end h = length-codes (with_pair above pair) ls end h.1
  length-codes above (line.Rule r ∷ ls) end h = length-codes (with_clause above h.0) ls end h.2
  length-codes above (line.Step ids ∷ ls) end h = ap suc (length-codes (with_clause above h.0) ls end h.3)

  codes_below : (above : Lines) (lines : List ProofLine) (end : Lines) (h : Leads s IsFreshStep above lines end) (q : ℕ) → list_any (nat_eq q) (codes above lines end h) ≡ true → q < power (length ats)
  codes_below above [] end h q e = never e refl
  codes_below above (line.Chain pair ∷ ls) end h q e = codes_below (with_pair above pair) ls end h.1 q e
  codes_below above (line.Rule r ∷ ls) end h q e = codes_below (with_clause above h.0) ls end h.2 q e
  codes_below above (line.Step ids ∷ ls) end h q e = split (or_cases (nat_eq q (code ats h.2.trail)) (list_any (nat_eq q) (codes (with_clause above h.0) ls end h.3)) e) (codes_below (with_clause above h.0) ls end h.3 q)
    where
      split : (nat_eq q (code ats h.2.trail) ≡ true) ⊎ (list_any (nat_eq q) (codes (with_clause above h.0) ls end h.3) ≡ true) → (list_any (nat_eq q) (codes (with_clause above h.0) ls end h.3) ≡ true → q < power (length ats)) → q < power (length ats)
      split (inl g) more = subst (λ x. x < power (length ats)) (sym (eqb-true q (code ats h.2.trail) g)) (code_below ats h.2.trail)
      split (inr g) more = more g

  -- an assignment that makes a clause a unit has another code than those of the steps below the clause
  module _ (c p : List Literal) (l : Literal) (small : AreAtomsIn ats c) (assigned : IsAssignment p) (unit : IsUnit p c l) where
    later : (above : Lines) (lines : List ProofLine) (end : Lines) (h : Leads s IsFreshStep above lines end) → Contains above.clauses c → AllByRecursion (λ y. nat_eq (code ats p) y ≡ false) (codes above lines end h)
    later above [] end h k = tt
    later above (line.Chain pair ∷ ls) end h k = later (with_pair above pair) ls end h.1 k
    later above (line.Rule r ∷ ls) end h k = later (with_clause above h.0) ls end h.2 (Contains-append_left above.clauses (h.0 ∷ []) c k)
    later above (line.Step ids ∷ ls) end h k = (differ (nat_eq (code ats p) (code ats h.2.trail)) refl, later (with_clause above h.0) ls end h.3 (Contains-append_left above.clauses (h.0 ∷ []) c k))
      where
        differ : (b : Bool) → nat_eq (code ats p) (code ats h.2.trail) ≡ b → b ≡ false
        differ true e = absurd (h.2.none_unit c l k (unit_same ats p h.2.trail c l assigned h.2.assigned (eqb-true (code ats p) (code ats h.2.trail) e) small unit))
        differ false e = refl

  codes_apart : (above : Lines) (lines : List ProofLine) (end : Lines) (h : Leads s IsFreshStep above lines end) → AreAllIn ats above.clauses → AreRuleAtomsIn s ats above.chain lines → IsDistinct nat_eq (codes above lines end h)
  unfolding IsDistinct
  codes_apart above [] end h all r = tt
  codes_apart above (line.Chain pair ∷ ls) end h all r = codes_apart (with_pair above pair) ls end h.1 all r
  codes_apart above (line.Rule x ∷ ls) end h all r = codes_apart (with_clause above h.0) ls end h.2 (all_more ats above.clauses h.0 all (r.0 h.0 h.1)) r.1
  codes_apart above (line.Step ids ∷ ls) end h all r =
      let small = chained_atoms ats above.clauses ids h.0 all h.1 in (
        later h.0 h.2.trail h.2.left small h.2.assigned h.2.one_left (with_clause above h.0) ls end h.3 (Contains-push above.clauses h.0),
        codes_apart (with_clause above h.0) ls end h.3 (all_more ats above.clauses h.0 all small) r,
      )

-- at most 3^a steps
pub steps_bound : (s : Setting) (ats : List Atom) (proof : Proof) → AreRuleAtomsIn s ats [] proof.lines → IsFresh s proof → step_count proof.lines ≤ 3 ^ length ats
steps_bound s ats proof r f =
    let h = f.leads in
    subst (λ n. step_count proof.lines ≤ n) (power_is (length ats))
    (subst (λ n. n ≤ power (length ats)) (length-codes s ats no_lines proof.lines f.end f.leads)
    (length-le_from_distinct_below (codes s ats no_lines proof.lines f.end f.leads) (power (length ats)) (codes_apart s ats no_lines proof.lines f.end f.leads (λ c k. absurd (in_none c k)) r) (codes_below s ats no_lines proof.lines f.end f.leads)))
