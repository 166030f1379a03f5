-- Literals and clauses. A clause is a list of literals, some of which is true; the clause of a list of parts is that of
-- its literals.
use Rattle.std.specs.Prelude.{ℕ, Bool, false, not, ◌&&◌, ◌||◌, nat_eq, List, [], ◌∷◌, Option, Some, None}
use Rattle.std.specs.Prelude.{if◌then◌else◌}
use Rattle.std.specs.List.{list_any, filter}
use Rattle.std.specs.Cmp.Lexicographic.{pointwise}
use Rattle.repair_problem.specs.declared.atom.Atom.{Atom}
use Rattle.repair_problem.specs.declared.atom.Atom.TheVariants as atom
use Rattle.repair_problem.specs.declared.atom.Literal.{Literal}
use Rattle.repair_problem.specs.declared.atom.Part.{Part}
use Rattle.repair_problem.specs.declared.atom.Part.TheVariants.{Fixed, Lit}
use Rattle.count_encode.specs.PartTruth.{signed, opposite}
use Rattle.atom_parts.specs.PartLiterals.{literals}
use Rattle.premise_rules.specs.declared.clause.Clause.{Clause}
use Rattle.premise_rules.specs.declared.clause.Clause.TheVariants.{Literals, Tautology, OutOfRange}

-- the kind and the numbers of an atom
abbrev pub key : Atom → List ℕ
key (atom.Triple t) = 0 ∷ t ∷ []
key (atom.Reach p x y) = 1 ∷ p ∷ x ∷ y ∷ []
key (atom.Level p k x y) = 2 ∷ p ∷ k ∷ x ∷ y ∷ []
key (atom.Middle p k x z y) = 3 ∷ p ∷ k ∷ x ∷ z ∷ y ∷ []
key (atom.Good i y) = 4 ∷ i ∷ y ∷ []
key (atom.Marked i x y) = 5 ∷ i ∷ x ∷ y ∷ []
key (atom.Count i x j m) = 6 ∷ i ∷ x ∷ j ∷ m ∷ []
key (atom.Differ i x y) = 7 ∷ i ∷ x ∷ y ∷ []
key (atom.Twin i x y z) = 8 ∷ i ∷ x ∷ y ∷ z ∷ []
key (atom.Holds i x) = 9 ∷ i ∷ x ∷ []
key (atom.Conforms n x) = 10 ∷ n ∷ x ∷ []
key (atom.Target n x) = 11 ∷ n ∷ x ∷ []

abbrev pub same_atom : Atom → Atom → Bool
same_atom a b = pointwise nat_eq (key a) (key b)

abbrev pub same_literal : Literal → Literal → Bool
same_literal l m = signed l.positive m.positive && same_atom l.atom m.atom

abbrev pub among : List Literal → Literal → Bool
among ls l = list_any (same_literal l) ls

abbrev pub is_fixed_true : Part → Bool
is_fixed_true (Fixed b) = b
is_fixed_true (Lit l) = false

-- whether some atom stands there in both signs
abbrev pub has_both_signs : List Literal → Bool
has_both_signs ls = list_any (λ l. among ls (opposite l)) ls

-- whether the clause is true whatever the atoms are
abbrev pub is_tautology : List Part → Bool
is_tautology parts = list_any is_fixed_true parts || has_both_signs (literals parts)

-- each literal where it stands first
abbrev pub distinct : List Literal → List Literal
distinct [] = []
distinct (l ∷ ls) = l ∷ filter (λ m. not (same_literal l m)) (distinct ls)

-- the clause of the parts of a rule, if there are such
abbrev pub finished : Option (List Part) → Clause
finished None = OutOfRange
finished (Some parts) = if is_tautology parts then Tautology else Literals (distinct (literals parts))
