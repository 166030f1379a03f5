-- Premises: rules, and their clauses in numbers.
use Rattle.std.specs.Prelude.{List, map}
use Rattle.clause_store.specs.declared.lit.Lit.{Lit}
use Rattle.repair_problem.specs.declared.atom.Atom.{Atom}
use Rattle.repair_problem.specs.declared.atom.Literal.{Literal}
use Rattle.proof_lines.specs.declared.rule.Rule.{Rule}
use Rattle.clause_ground.specs.declared.premise.Premise.{Premise}
use Rattle.atom_numbers.specs.Numbers.{clause_of}

abbrev pub rules_of : List Premise → List Rule
rules_of ps = map (λ p. p.rule) ps

abbrev pub clauses_of : List Premise → List (List Lit)
clauses_of ps = map (λ p. p.lits) ps

-- their clauses as literals, where the atoms have these numbers
abbrev pub literals_of : List Atom → List Premise → List (List Literal)
literals_of atoms ps = map (λ p. clause_of atoms p.lits) ps
