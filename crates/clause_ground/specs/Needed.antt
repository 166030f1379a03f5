-- The premises that a problem needs: those of its roots, and of each atom that stands in a needed one.
use Rattle.std.specs.Prelude.{◌≡◌, ◌≢◌, ◌⊎◌, ◌↔◌, ◌<◌, ℕ, zero, suc, false, IsTrue, List, [], ◌∷◌, length}
use Rattle.std.specs.Prelude.{Option, Some, None}
use Rattle.shapes_profile.specs.Logic.{SomeOf}
use Rattle.clause_store.specs.Clauses.{is_within}
use Rattle.repair_problem.specs.declared.atom.Atom.{Atom}
use Rattle.repair_problem.specs.declared.atom.Atom.TheVariants as atom
use Rattle.repair_problem.specs.declared.atom.Literal.{Literal}
use Rattle.repair_problem.specs.declared.atom.Part.TheVariants.{Fixed}
use Rattle.repair_problem.specs.declared.atom.Parts.{Parts}
use Rattle.repair_problem.specs.Setting.{Setting}
use Rattle.proof_lines.specs.declared.rule.Rule.{Rule}
use Rattle.proof_lines.specs.declared.rule.RuleName.TheVariants as rule
use Rattle.atom_parts.specs.PartLiterals.{In, literals}
use Rattle.atom_parts.specs.PartsTable.{parts_of}
use Rattle.atom_parts.specs.Fixing.{fixing, lower}
use Rattle.premise_rules.specs.declared.clause.Clause.{Clause}
use Rattle.premise_rules.specs.declared.clause.Clause.TheVariants.{Literals, Tautology}
use Rattle.premise_rules.specs.PlaceClauses.{places}
use Rattle.premise_rules.specs.RuleClauses.{rule_clause}
use Rattle.clause_ground.specs.declared.premise.Premise.{Premise}
use Rattle.atom_numbers.specs.Numbers.{Stands, clause_of, joined_all}
use Rattle.clause_ground.specs.Premises.{rules_of, literals_of}

-- the rule of the clause of an atom at a place; candidates have none
abbrev pub rule_at : Atom → ℕ → Option Rule
rule_at (atom.Triple t) k = None
rule_at (atom.Reach p x y) k = Some (record { name = rule.Reach; numbers = p ∷ x ∷ y ∷ k ∷ [] })
rule_at (atom.Level p l x y) k = Some (record { name = rule.Level; numbers = p ∷ l ∷ x ∷ y ∷ k ∷ [] })
rule_at (atom.Middle p l x z y) k = Some (record { name = rule.Middle; numbers = p ∷ l ∷ x ∷ z ∷ y ∷ k ∷ [] })
rule_at (atom.Good i y) k = Some (record { name = rule.Good; numbers = i ∷ y ∷ k ∷ [] })
rule_at (atom.Marked i x y) k = Some (record { name = rule.Marked; numbers = i ∷ x ∷ y ∷ k ∷ [] })
rule_at (atom.Count i x j m) k = Some (record { name = rule.Count; numbers = i ∷ x ∷ j ∷ m ∷ k ∷ [] })
rule_at (atom.Differ i x y) k = Some (record { name = rule.Differ; numbers = i ∷ x ∷ y ∷ k ∷ [] })
rule_at (atom.Twin i x y z) k = Some (record { name = rule.Twin; numbers = i ∷ x ∷ y ∷ z ∷ k ∷ [] })
rule_at (atom.Holds i x) k = Some (record { name = rule.Holds; numbers = i ∷ x ∷ k ∷ [] })
rule_at (atom.Conforms n x) k = Some (record { name = rule.Conforms; numbers = n ∷ x ∷ k ∷ [] })
rule_at (atom.Target n x) k = Some (record { name = rule.Target; numbers = n ∷ x ∷ k ∷ [] })

-- the rule that a focus node of the shape conforms to it
abbrev pub root : ℕ → ℕ → Rule
root n x = record { name = rule.Root; numbers = n ∷ x ∷ [] }

module _ (s : Setting) where
  -- the clause of a rule, where no pair was found yet
  abbrev pub clause_in : Rule → Clause
  clause_in q = rule_clause s [] q.name q.numbers

  -- the rule is of a clause of the atom
  abbrev pub IsRuleOf : Atom → Rule → Type 0
  IsRuleOf a q = (k : ℕ) × (k < places (fixing s a)) × (rule_at a k ≡ Some q)

  -- some part of it that the node is a focus node of the shape isn't fixed false
  abbrev pub CanBeFocus : ℕ → ℕ → Type 0
  CanBeFocus n x =
      (parts : Parts) × (parts_of s (atom.Target n x) ≡ Some parts) × SomeOf (λ p. p ≢ Fixed false) parts.list

  abbrev pub IsRoot : Rule → Type 0
  IsRoot q = (n : ℕ) × (x : ℕ) × CanBeFocus n x × (q ≡ root n x)

  -- the atom stands in the clause of the rule, which is no tautology
  pub record StandsIn (q : Rule) (a : Atom) : Type 0 where
    pub literals : List Literal
    pub here : clause_in q ≡ Literals literals
    pub stands : Stands literals a

  -- the roots, and by one step more the rules of the atoms that stand in needed rules
  abbrev pub NeededIn : ℕ → Rule → Type 0
  NeededIn zero q = IsRoot q
  NeededIn (suc n) q =
      NeededIn n q ⊎ ((p : Rule) × (a : Atom) × NeededIn n p × StandsIn p a × IsRuleOf a q)

  abbrev pub IsNeeded : Rule → Type 0
  IsNeeded q = (n : ℕ) × NeededIn n q

  -- the atoms of roots, and by one step more those of the parts that fix them
  abbrev pub NeededAtomIn : ℕ → Atom → Type 0
  NeededAtomIn zero a =
      (n : ℕ) × (x : ℕ) × CanBeFocus n x × ((a ≡ atom.Target n x) ⊎ (a ≡ atom.Conforms n x))
  NeededAtomIn (suc n) a =
      NeededAtomIn n a
      ⊎ ((b : Atom) × (l : Literal) × NeededAtomIn n b × In (literals (lower (fixing s b))) l × (l.atom ≡ a))

  abbrev pub IsNeededAtom : Atom → Type 0
  IsNeededAtom a = (n : ℕ) × NeededAtomIn n a

  -- the atom stands in the clause of one of the rules
  abbrev pub Occurs : List Rule → Atom → Type 0
  Occurs rs a = (q : Rule) × In rs q × StandsIn q a

  -- the clause of the premise is that of its rule, in the numbers of the atoms
  abbrev pub IsInNumbers : List Atom → Premise → Type 0
  IsInNumbers atoms p =
      (clause_in p.rule ≡ Literals (clause_of atoms p.lits)) × IsTrue (is_within (length atoms) p.lits)

  -- the premises are those of the needed rules whose clause is no tautology, in the numbers of the atoms that stand in
  -- them and of no other atom; an atom that stands there first takes the next number
  pub record AreNeeded (premises : List Premise) (atoms : List Atom) : Type 0 where
    pub numbered : (p : Premise) → In premises p → IsInNumbers atoms p
    pub needed : (q : Rule) → In (rules_of premises) q ↔ (IsNeeded q × (clause_in q ≢ Tautology))
    pub occur : (a : Atom) → In atoms a ↔ Occurs (rules_of premises) a
    pub order : atoms ≡ joined_all [] (literals_of atoms premises)
