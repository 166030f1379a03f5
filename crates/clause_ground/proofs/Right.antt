-- Values of atoms that make the clauses of all needed rules true, and have the candidates as they are in an edited
-- graph, are what the atoms mean there.
use Rattle.std.proofs.Common.{◌≡◌, ◌≢◌, ◌↔◌, ◌⊎◌, inl, inr, ℕ, zero, suc, ◌-◌, ◌<◌, ◌≤◌, Bool, true, false, not, ◌&&◌, ◌||◌, nat_eq, nat_le, cond, List, [], ◌∷◌, map, length, Option, Some, None, slice_get, refl, sym, ap, ◌∙◌, subst, arith}
use Rattle.std.specs.List.{list_any}
use Rattle.std.proofs.lemmas.Option.{slice_get_within}
use Rattle.shapes_profile.specs.Logic.{EachOf, SomeOf}
use Rattle.repair_problem.specs.declared.atom.Atom.{Atom}
use Rattle.repair_problem.specs.declared.atom.Atom.TheVariants.{Count}
use Rattle.repair_problem.specs.declared.atom.Literal.{Literal}
use Rattle.repair_problem.specs.declared.atom.Part.{Part}
use Rattle.repair_problem.specs.declared.atom.Part.TheVariants.{Fixed, Lit}
use Rattle.repair_problem.specs.Setting.{Setting}
use Rattle.repair_problem.specs.PartMeaning.{HoldsIf, PartMeans, PartsMean}
use Rattle.proof_lines.specs.declared.rule.Rule.{Rule}
use Rattle.path_levels.specs.PathParts.{literal}
use Rattle.count_encode.specs.PartTruth.{negation, literal_value, part_value, is_true, list_value}
use Rattle.count_encode.specs.Counts.{counted, count_parts}
use Rattle.count_encode.proofs.Counters.{negation_value}
use Rattle.atom_parts.specs.PartLiterals.{In, literals}
use Rattle.atom_parts.specs.Fixing.{Fixing, NoAtom, Free, ByParts, ByCount, fixing, lower, IsOfAtom, MeansFixing, IsFounded, founded, IsOrdered}
use Rattle.atom_parts.proofs.Facts.{some_is, none_some, iff_sym}
use Rattle.premise_rules.specs.declared.clause.Clause.{Clause}
use Rattle.premise_rules.specs.declared.clause.Clause.TheVariants.{Literals, Tautology, OutOfRange}
use Rattle.premise_rules.specs.Literals.{finished}
use Rattle.premise_rules.specs.PlaceClauses.{part_clause, place_clause, clause_at, places}
use Rattle.clause_ground.specs.Needed.{rule_at, clause_in, IsRuleOf, StandsIn, Occurs}
use Rattle.clause_ground.specs.Growth.{IsKept}
use Rattle.clause_ground.proofs.AtomRules.{rule_clause_at, place_rule}
use Rattle.clause_ground.proofs.Lower.{counted_own, lower_shown}
use Rattle.clause_ground.proofs.PartValues.{place_fixes, finished_value, tautology_value, iff_holds, Agrees, part_agrees, value_agrees, fixed_or, or_holds}

pub by_order : (fix : Atom → Fixing) (P : Atom → Type 0) → ((a : Atom) → ((l : Literal) → In (literals (lower (fix a))) l → P l.atom) → P a) → (a : Atom) → IsFounded fix a → P a
by_order fix P step a (founded below) = step a (λ l h. by_order fix P step l.atom (below l h))

place_within : (f : Atom) (every : Bool) (ps : List Part) (k : ℕ) (c : List Part) → place_clause f every ps k ≡ Some c → k < suc (length ps)
place_within f true ps k c e = cases (nat_eq k (length ps)) (slice_get ps k) refl refl e
  where
    cases : (b : Bool) (o : Option Part) → nat_eq k (length ps) ≡ b → slice_get ps k ≡ o → cond b (Some (literal f true ∷ map negation ps)) (part_clause f true o) ≡ Some c → k < suc (length ps)
    cases true o h g e = grind (arith, h)
    cases false None h g e = absurd (none_some e)
    cases false (Some p) h g e = let lt = slice_get_within ps k p g in omega (arith, lt)
place_within f false ps k c e = cases (nat_eq k (length ps)) (slice_get ps k) refl refl e
  where
    cases : (b : Bool) (o : Option Part) → nat_eq k (length ps) ≡ b → slice_get ps k ≡ o → cond b (Some (literal f false ∷ ps)) (part_clause f false o) ≡ Some c → k < suc (length ps)
    cases true o h g e = grind (arith, h)
    cases false None h g e = absurd (none_some e)
    cases false (Some p) h g e = let lt = slice_get_within ps k p g in omega (arith, lt)

below_four : (n : ℕ) → n ≤ 3 → n < 4
below_four n h = omega (arith, h)

count_place : (a : Atom) (i x j m : ℕ) (item : Part) (n : ℕ) → n ≤ 3 → clause_at a (ByCount i x j m item) n ≡ Some (count_parts i x j m item n)
count_place a i x j m item n h = let small : nat_le n 3 ≡ true = grind (arith, h) in rw small refl

-- rules each of which has a clause, and with each atom that stands in one all rules of the atom
module _ (s : Setting) (order : IsOrdered (fixing s)) (rs : List Rule)
    (given : (q : Rule) → In rs q → (ls : List Literal) × (clause_in s q ≡ Literals ls))
    (made : (a : Atom) → Occurs s rs a → (q : Rule) → IsRuleOf s a q → IsKept s rs q) where
  -- what stands below an atom that occurs, occurs
  pub lower_occurs : (a : Atom) → Occurs s rs a → (l : Literal) → In (literals (lower (fixing s a))) l → Occurs s rs l.atom
  lower_occurs a occ l h =
      let r = lower_shown (fixing s) order a l h in
      let q = place_rule s a r.0 r.1 in
      let e : clause_in s q.0 ≡ Literals r.4.0 = rule_clause_at s a r.0 q.0 q.1 ∙ (ap finished r.3 ∙ r.4.1) in
      kept q.0 (record { literals = r.4.0; here = e; stands = r.4.2 }) (made a occ q.0 (r.0, r.1, q.1))
    where
      kept : (q : Rule) → StandsIn s q l.atom → IsKept s rs q → Occurs s rs l.atom
      kept q t (inl e) = let f : Tautology ≡ Literals t.literals = sym e ∙ t.here in absurd (cc)
      kept q t (inr g) = (q, g, t)

  module _ (M : Atom → Type 0) (law : (a : Atom) → MeansFixing M a (fixing s a)) (v : Atom → Bool)
      (truth : (q : Rule) (ls : List Literal) → In rs q → clause_in s q ≡ Literals ls → list_any (literal_value v) ls ≡ true)
      (free : (a : Atom) → Occurs s rs a → fixing s a ≡ Free → HoldsIf (v a) (M a))
      (proper : (a : Atom) → Occurs s rs a → fixing s a ≢ NoAtom) where
    place_value : (a : Atom) → Occurs s rs a → (k : ℕ) (c : List Part) → k < places (fixing s a) → clause_at a (fixing s a) k ≡ Some c → is_true v c ≡ true
    place_value a occ k c lt e =
        let q = place_rule s a k lt in
        go q.0 (rule_clause_at s a k q.0 q.1 ∙ ap finished e) (made a occ q.0 (k, lt, q.1))
      where
        go : (q : Rule) → clause_in s q ≡ finished (Some c) → IsKept s rs q → is_true v c ≡ true
        go q f (inl g) = tautology_value v c (sym f ∙ g)
        go q f (inr g) = let l = given q g in finished_value v c l.0 (sym f ∙ l.1) (truth q l.0 g l.1)

    each_agrees : (ps : List Part) → ((l : Literal) → In (literals ps) l → HoldsIf (v l.atom) (M l.atom)) → EachOf (Agrees M v) ps
    each_agrees [] all = tt
    each_agrees (Fixed b ∷ ps) all = (tt, each_agrees ps all)
    each_agrees (Lit l ∷ ps) all = (all l (inl refl), each_agrees ps (λ n h. all n (inr h)))

    by_fixing : (a : Atom) (f : Fixing) → fixing s a ≡ f → Occurs s rs a → IsOfAtom a f → MeansFixing M a f → EachOf (Agrees M v) (lower f) → HoldsIf (v a) (M a)
    by_fixing a NoAtom e occ k iff each = absurd (proper a occ e)
    by_fixing a Free e occ k iff each = free a occ e
    by_fixing a (ByParts ps) e occ k iff each =
        let same : v a ≡ list_value v ps.every ps.list = place_fixes v a ps.every ps.list (λ k c h. place_value a occ k c (subst (λ x. k < places x) (sym e) (place_within a ps.every ps.list k c h)) (ap (λ x. clause_at a x k) e ∙ h)) in
        iff_holds (v a) (PartsMean M ps) (M a) (iff_sym iff) (subst (λ b. HoldsIf b (PartsMean M ps)) (sym same) (value_agrees M v ps.every ps.list each))
    by_fixing a (ByCount i x j m item) e occ k iff each =
        let own : part_value v (counted i x j m) ≡ v a = ap (part_value v) (counted_own i x j m k.1 k.2) ∙ ap v (sym k.0) in
        let not_own : part_value v (negation (counted i x j m)) ≡ not (v a) = negation_value v (counted i x j m) ∙ ap not own in
        let at : (n : ℕ) → n ≤ 3 → is_true v (count_parts i x j m item n) ≡ true = λ n h.
        place_value a occ n (count_parts i x j m item n) (subst (λ y. n < places y) (sym e) (below_four n h)) (ap (λ x. clause_at a x n) e ∙ count_place a i x j m item n h) in
        let same : v a ≡ (part_value v (counted i x (j - 1) m) || (part_value v (counted i x (j - 1) (m - 1)) && part_value v item)) =
        fixed_or (v a) (part_value v (counted i x (j - 1) m)) (part_value v (counted i x (j - 1) (m - 1))) (part_value v item)
        (rw (own, negation_value v (counted i x (j - 1) m)) at (at 0 (omega arith)))
        (rw (own, negation_value v (counted i x (j - 1) (m - 1)), negation_value v item) at (at 1 (omega arith)))
        (rw not_own at (at 2 (omega arith)))
        (rw not_own at (at 3 (omega arith))) in
        subst (λ b. HoldsIf b (M a)) (sym same)
        (or_holds (part_value v (counted i x (j - 1) m)) (part_value v (counted i x (j - 1) (m - 1))) (part_value v item)
        (PartMeans M (counted i x (j - 1) m)) (PartMeans M (counted i x (j - 1) (m - 1))) (PartMeans M item) (M a)
        (part_agrees M v (counted i x (j - 1) m) each.0) (part_agrees M v (counted i x (j - 1) (m - 1)) each.1.0) (part_agrees M v item each.1.1.0) iff)

    -- each atom that occurs has its value
    pub right : (a : Atom) → Occurs s rs a → HoldsIf (v a) (M a)
    right a = by_order (fixing s) (λ a. Occurs s rs a → HoldsIf (v a) (M a))
        (λ a below occ. by_fixing a (fixing s a) refl occ (order.own a) (law a) (each_agrees (lower (fixing s a)) (λ l h. below l h (lower_occurs a occ l h)))) a (order.well a)
