-- Clauses over numbered variables and over the atoms that the variables stand for.
use Rattle.std.specs.Prelude.{◌≡◌, ◌≢◌, ◌⊎◌, ℕ, List, [], ◌∷◌, ◌++◌, map, Some, slice_get, slice_index_or}
use Rattle.std.specs.Prelude.{if◌then◌else◌, Contains}
use Rattle.std.specs.List.{list_any}
use Rattle.shapes_profile.specs.Logic.{SomeOf}
use Rattle.clause_store.specs.declared.lit.Lit.{Lit}
use Rattle.repair_problem.specs.declared.atom.Atom.{Atom}
use Rattle.repair_problem.specs.declared.atom.Atom.TheVariants.{Triple}
use Rattle.repair_problem.specs.declared.atom.Literal.{Literal}
use Rattle.atom_parts.specs.PartLiterals.{In}
use Rattle.premise_rules.specs.Literals.{same_atom}
use Rattle.premise_rules.specs.Documents.{Lines}

-- the number of an atom is its place in a list
abbrev pub literal_of : List Atom → Lit → Literal
literal_of atoms l = record { atom = slice_index_or atoms l.var (Triple 0); positive = l.positive }

abbrev pub clause_of : List Atom → List Lit → List Literal
clause_of atoms c = map (literal_of atoms) c

abbrev pub lines_of : List (List ℕ) → List Atom → List (List Lit) → Lines
lines_of chain atoms clauses = record { chain = chain; clauses = map (clause_of atoms) clauses }

-- no atom has two numbers
abbrev pub AreApart : List Atom → Type 0
AreApart atoms = (i j : ℕ) (a : Atom) → slice_get atoms i ≡ Some a → slice_get atoms j ≡ Some a → i ≡ j

-- no atom stands in two of the literals
abbrev pub AreOnce : List Literal → Type 0
AreOnce [] = Unit {0}
AreOnce (l ∷ ls) = ((m : Literal) → Contains ls m → m.atom ≢ l.atom) × AreOnce ls

-- each atom keeps its number
abbrev pub IsGrown : List Atom → List Atom → Type 0
IsGrown old new = (i : ℕ) (a : Atom) → slice_get old i ≡ Some a → slice_get new i ≡ Some a

-- the atom stands in the clause
abbrev pub Stands : List Literal → Atom → Type 0
Stands ls a = SomeOf (λ l. l.atom ≡ a) ls

-- the new atoms are of these literals
abbrev pub ComeFrom : List Atom → List Literal → List Atom → Type 0
ComeFrom old ls new = (a : Atom) → In new a → In old a ⊎ Stands ls a

-- a new atom takes the next number
abbrev pub with_atom : List Atom → Atom → List Atom
with_atom atoms a = if list_any (same_atom a) atoms then atoms else atoms ++ a ∷ []

-- so do those of the literals, in their order
abbrev pub joined : List Atom → List Literal → List Atom
joined atoms [] = atoms
joined atoms (l ∷ ls) = joined (with_atom atoms l.atom) ls

abbrev pub joined_all : List Atom → List (List Literal) → List Atom
joined_all atoms [] = atoms
joined_all atoms (c ∷ cs) = joined_all (joined atoms c) cs
