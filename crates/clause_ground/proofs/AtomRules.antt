-- The rules of an atom, by the places of its clauses.
use Rattle.std.proofs.Common.{◌≡◌, ℕ, suc, ◌<◌, Bool, true, false, cond, nat_lt, List, [], ◌∷◌, length, Option, Some, None, refl, sym, ap, ◌∙◌, subst, arith}
use Rattle.repair_problem.specs.declared.atom.Atom.{Atom}
use Rattle.repair_problem.specs.declared.atom.Atom.TheVariants as atom
use Rattle.repair_problem.specs.declared.atom.Part.{Part}
use Rattle.repair_problem.specs.Setting.{Setting}
use Rattle.repair_problem.specs.Candidates.{candidates}
use Rattle.proof_lines.specs.declared.rule.Rule.{Rule}
use Rattle.proof_lines.specs.declared.rule.RuleName.TheVariants as rule
use Rattle.atom_parts.specs.Fixing.{Fixing, NoAtom, Free, fixing}
use Rattle.atom_parts.proofs.Facts.{some_is, none_some}
use Rattle.premise_rules.specs.declared.clause.Clause.{Clause}
use Rattle.premise_rules.specs.Literals.{finished}
use Rattle.premise_rules.specs.PlaceClauses.{clause_at, places}
use Rattle.clause_ground.specs.Needed.{rule_at, clause_in}

-- the clause of the rule of a place is that of the place
pub rule_clause_at : (s : Setting) (a : Atom) (k : ℕ) (q : Rule) → rule_at a k ≡ Some q → clause_in s q ≡ finished (clause_at a (fixing s a) k)
rule_clause_at s (atom.Triple t) k q e = absurd (none_some e)
rule_clause_at s (atom.Reach p x y) k q e = ap (clause_in s) (sym (some_is e))
rule_clause_at s (atom.Level p l x y) k q e = ap (clause_in s) (sym (some_is e))
rule_clause_at s (atom.Middle p l x z y) k q e = ap (clause_in s) (sym (some_is e))
rule_clause_at s (atom.Good i y) k q e = ap (clause_in s) (sym (some_is e))
rule_clause_at s (atom.Marked i x y) k q e = ap (clause_in s) (sym (some_is e))
rule_clause_at s (atom.Count i x j m) k q e = ap (clause_in s) (sym (some_is e))
rule_clause_at s (atom.Differ i x y) k q e = ap (clause_in s) (sym (some_is e))
rule_clause_at s (atom.Twin i x y z) k q e = ap (clause_in s) (sym (some_is e))
rule_clause_at s (atom.Holds i x) k q e = ap (clause_in s) (sym (some_is e))
rule_clause_at s (atom.Conforms n x) k q e = ap (clause_in s) (sym (some_is e))
rule_clause_at s (atom.Target n x) k q e = ap (clause_in s) (sym (some_is e))

-- candidates have no places
no_places : (b : Bool) (k : ℕ) → k < places (cond b Free NoAtom) → ⊥
no_places true k lt = omega (arith, lt)
no_places false k lt = omega (arith, lt)

-- each place has a rule
pub place_rule : (s : Setting) (a : Atom) (k : ℕ) → k < places (fixing s a) → (q : Rule) × (rule_at a k ≡ Some q)
place_rule s (atom.Triple t) k lt = absurd (no_places (nat_lt t (length (candidates s))) k lt)
place_rule s (atom.Reach p x y) k lt = (record { name = rule.Reach; numbers = p ∷ x ∷ y ∷ k ∷ [] }, refl)
place_rule s (atom.Level p l x y) k lt = (record { name = rule.Level; numbers = p ∷ l ∷ x ∷ y ∷ k ∷ [] }, refl)
place_rule s (atom.Middle p l x z y) k lt = (record { name = rule.Middle; numbers = p ∷ l ∷ x ∷ z ∷ y ∷ k ∷ [] }, refl)
place_rule s (atom.Good i y) k lt = (record { name = rule.Good; numbers = i ∷ y ∷ k ∷ [] }, refl)
place_rule s (atom.Marked i x y) k lt = (record { name = rule.Marked; numbers = i ∷ x ∷ y ∷ k ∷ [] }, refl)
place_rule s (atom.Count i x j m) k lt = (record { name = rule.Count; numbers = i ∷ x ∷ j ∷ m ∷ k ∷ [] }, refl)
place_rule s (atom.Differ i x y) k lt = (record { name = rule.Differ; numbers = i ∷ x ∷ y ∷ k ∷ [] }, refl)
place_rule s (atom.Twin i x y z) k lt = (record { name = rule.Twin; numbers = i ∷ x ∷ y ∷ z ∷ k ∷ [] }, refl)
place_rule s (atom.Holds i x) k lt = (record { name = rule.Holds; numbers = i ∷ x ∷ k ∷ [] }, refl)
place_rule s (atom.Conforms n x) k lt = (record { name = rule.Conforms; numbers = n ∷ x ∷ k ∷ [] }, refl)
place_rule s (atom.Target n x) k lt = (record { name = rule.Target; numbers = n ∷ x ∷ k ∷ [] }, refl)
