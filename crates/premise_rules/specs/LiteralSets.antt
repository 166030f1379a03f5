-- Literals, each once, with the signs of their atoms beside them. Private functions cite it.
use Rattle.std.specs.Prelude.{◌≡◌, ◌++◌, Bool, false, not, List, [], ◌∷◌, Option, Some, None, if◌then◌else◌}
use Rattle.repair_problem.specs.declared.atom.Atom.{Atom}
use Rattle.repair_problem.specs.declared.atom.Literal.{Literal}
use Rattle.repair_problem.specs.declared.atom.Part.{Part}
use Rattle.repair_problem.specs.declared.atom.Part.TheVariants.{Fixed, Lit}
use Rattle.count_encode.specs.PartTruth.{signed, opposite}
use Rattle.premise_rules.specs.Literals.{among}

-- whether this sign is the one that was found
abbrev pub is_found : Option Bool → Bool → Bool
is_found None positive = false
is_found (Some sign) positive = signed sign positive

-- a literal is in the list exactly where its sign is the one that is found of its atom
abbrev pub AreSigns : List Literal → (Atom → Option Bool) → Type 0
AreSigns ls found = (l : Literal) → among ls l ≡ is_found (found l.atom) l.positive

-- the list with the literal, unless it is there
abbrev pub added : List Literal → Literal → List Literal
added ls l = if among ls l then ls else ls ++ l ∷ []

-- the list with the literal of the part, if it is one
abbrev pub with_part : List Literal → Part → List Literal
with_part ls (Fixed b) = ls
with_part ls (Lit l) = added ls l

-- the part is not fixed true, nor the opposite of a literal that is there
abbrev pub fits : List Literal → Part → Bool
fits ls (Fixed b) = not b
fits ls (Lit l) = not (among ls (opposite l))
