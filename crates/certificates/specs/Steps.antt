-- How many steps of resolution a proof has, and the atoms of the clauses of its rules.
use Rattle.std.specs.Prelude.{◌≡◌, ◌≤◌, ◌^◌, ℕ, suc, List, [], ◌∷◌, ◌++◌, length, Contains}
use Rattle.repair_problem.specs.declared.atom.Atom.{Atom}
use Rattle.repair_problem.specs.declared.atom.Literal.{Literal}
use Rattle.repair_problem.specs.Setting.{Setting}
use Rattle.proof_lines.specs.declared.proof.ProofLine.{ProofLine}
use Rattle.proof_lines.specs.declared.proof.ProofLine.TheVariants as line
use Rattle.premise_rules.specs.declared.clause.Clause.TheVariants.{Literals}
use Rattle.proof_lines.specs.declared.proof.Proof.{Proof}
use Rattle.premise_rules.specs.RuleClauses.{rule_clause}
use Rattle.premise_rules.specs.Documents.{IsFresh}

abbrev pub step_count : List ProofLine → ℕ
step_count [] = 0
step_count (line.Chain pair ∷ rest) = step_count rest
step_count (line.Rule rule ∷ rest) = step_count rest
step_count (line.Step ids ∷ rest) = suc (step_count rest)

-- the atoms of the clause are in the list
abbrev pub AreAtomsIn : List Atom → List Literal → Type 0
AreAtomsIn atoms c = (l : Literal) → Contains c l → Contains atoms l.atom

-- the atoms of the clauses of all rules are in the list; chain: the pairs above the lines
abbrev pub AreRuleAtomsIn : Setting → List Atom → List (List ℕ) → List ProofLine → Type 0
AreRuleAtomsIn s atoms chain [] = Unit {0}
AreRuleAtomsIn s atoms chain (line.Chain pair ∷ rest) = AreRuleAtomsIn s atoms (chain ++ pair ∷ []) rest
AreRuleAtomsIn s atoms chain (line.Rule rule ∷ rest) =
    ((c : List Literal) → rule_clause s chain rule.name rule.numbers ≡ Literals c → AreAtomsIn atoms c)
    × AreRuleAtomsIn s atoms chain rest
AreRuleAtomsIn s atoms chain (line.Step ids ∷ rest) = AreRuleAtomsIn s atoms chain rest

-- a fresh proof has at most 3^a steps, where the clauses of its rules have no other atoms than those of a list of a
abbrev pub AreAllBounded : Setting → Type 0
AreAllBounded s =
    (atoms : List Atom) (proof : Proof) → AreRuleAtomsIn s atoms [] proof.lines → IsFresh s proof
    → step_count proof.lines ≤ 3 ^ length atoms
