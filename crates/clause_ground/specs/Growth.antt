-- Grounds that grow by premises. Private functions cite it.
use Rattle.std.specs.Prelude.{◌≡◌, ◌⊎◌, ℕ, IsTrue, List, [], ◌∷◌, ◌++◌, length, Option, Some, None, slice_get, ◌<◌}
use Rattle.clause_store.specs.declared.lit.Lit.{Lit}
use Rattle.clause_store.specs.Clauses.{is_within}
use Rattle.repair_problem.specs.declared.atom.Atom.{Atom}
use Rattle.repair_problem.specs.declared.atom.Literal.{Literal}
use Rattle.repair_problem.specs.Setting.{Setting}
use Rattle.proof_lines.specs.declared.rule.Rule.{Rule}
use Rattle.atom_parts.specs.PartLiterals.{In}
use Rattle.premise_rules.specs.declared.clause.Clause.{Clause}
use Rattle.premise_rules.specs.declared.clause.Clause.TheVariants.{Literals, Tautology, OutOfRange}
use Rattle.clause_ground.specs.declared.premise.Premise.{Premise}
use Rattle.atom_numbers.specs.Numbers.{clause_of, IsGrown, ComeFrom, joined, joined_all}
use Rattle.clause_ground.specs.Premises.{rules_of, literals_of}
use Rattle.clause_ground.specs.Needed.{clause_in, IsInNumbers, IsNeeded, IsRuleOf, Occurs}

-- premises, and the atoms by their numbers
pub record Found : Type 0 where
  pub premises : List Premise
  pub atoms : List Atom

abbrev pub found : List Premise → List Atom → Found
found premises atoms = record { premises = premises; atoms = atoms }

-- one premise more: the rule, and the clause in numbers
pub record Adds (old : Found) (q : Rule) (ls : List Literal) (new : Found) : Type 0 where
  pub lits : List Lit
  pub pushed : new.premises ≡ old.premises ++ (record { rule = q; lits = lits }) ∷ []
  pub value : clause_of new.atoms lits ≡ ls
  pub within : IsTrue (is_within (length new.atoms) lits)
  pub order : new.atoms ≡ joined old.atoms ls
  pub grown : IsGrown old.atoms new.atoms
  pub only : ComeFrom old.atoms ls new.atoms

-- what is added of a rule and its clause: nothing where it is a tautology
abbrev pub AddsClause : Found → Option Rule → Clause → Found → Type 0
AddsClause old (Some q) (Literals ls) new = Adds old q ls new
AddsClause old o c new = new ≡ old

module _ (s : Setting) where
  -- all that is found is needed, and in numbers
  pub record IsSound (f : Found) : Type 0 where
    pub numbered : (p : Premise) → In f.premises p → IsInNumbers s f.atoms p
    pub needed : (q : Rule) → In (rules_of f.premises) q → IsNeeded s q
    pub occur : (a : Atom) → In f.atoms a → Occurs s (rules_of f.premises) a
    pub order : f.atoms ≡ joined_all [] (literals_of f.atoms f.premises)

  -- the rule is there, or its clause is a tautology
  abbrev pub IsKept : List Rule → Rule → Type 0
  IsKept rs q = (clause_in s q ≡ Tautology) ⊎ In rs q

  -- what was found stays, and all is needed
  pub record Grows (old new : Found) : Type 0 where
    pub sound : IsSound new
    pub rules : (q : Rule) → In (rules_of old.premises) q → In (rules_of new.premises) q
    pub atoms : IsGrown old.atoms new.atoms

  -- the atom of this number has all its rules
  abbrev pub IsMade : List Atom → ℕ → List Rule → Type 0
  IsMade atoms v rs = (a : Atom) → slice_get atoms v ≡ Some a → (q : Rule) → IsRuleOf s a q → IsKept rs q

  -- so have the atoms of all numbers below n
  abbrev pub IsClosedTo : ℕ → Found → Type 0
  IsClosedTo n f = (v : ℕ) → v < n → IsMade f.atoms v (rules_of f.premises)
