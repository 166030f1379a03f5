-- The truth of literals and parts, where atoms have these truth values.
use Rattle.std.specs.Prelude.{Bool, true, false, not, List}
use Rattle.std.specs.List.{list_any, list_all}
use Rattle.repair_problem.specs.declared.atom.Atom.{Atom}
use Rattle.repair_problem.specs.declared.atom.Literal.{Literal}
use Rattle.repair_problem.specs.declared.atom.Part.{Part}
use Rattle.repair_problem.specs.declared.atom.Part.TheVariants.{Fixed, Lit}

-- the truth value, or the other one
abbrev pub signed : Bool → Bool → Bool
signed true b = b
signed false b = not b

-- the same atom in the other sign
abbrev pub opposite : Literal → Literal
opposite l = record { atom = l.atom; positive = not l.positive }

-- that the part is false, as a part
abbrev pub negation : Part → Part
negation (Fixed b) = Fixed (not b)
negation (Lit l) = Lit (opposite l)

abbrev pub literal_value : (Atom → Bool) → Literal → Bool
literal_value a l = signed l.positive (a l.atom)

abbrev pub part_value : (Atom → Bool) → Part → Bool
part_value a (Fixed b) = b
part_value a (Lit l) = literal_value a l

-- a clause is true where one of its parts is
abbrev pub is_true : (Atom → Bool) → List Part → Bool
is_true a parts = list_any (part_value a) parts

-- all of the parts, or any of them
abbrev pub list_value : (Atom → Bool) → Bool → List Part → Bool
list_value a true parts = list_all (part_value a) parts
list_value a false parts = list_any (part_value a) parts
