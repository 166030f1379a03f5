-- The literals among parts.
use Rattle.std.specs.Prelude.{◌≡◌, List, [], ◌∷◌}
use Rattle.shapes_profile.specs.Logic.{SomeOf}
use Rattle.repair_problem.specs.declared.atom.Literal.{Literal}
use Rattle.repair_problem.specs.declared.atom.Part.{Part}
use Rattle.repair_problem.specs.declared.atom.Part.TheVariants.{Fixed, Lit}

-- the item is in the list
abbrev pub In : {X : Type 0} → List X → X → Type 0
In xs y = SomeOf (λ x. x ≡ y) xs

-- those of the parts that aren't fixed
abbrev pub literals : List Part → List Literal
literals [] = []
literals (Fixed b ∷ parts) = literals parts
literals (Lit l ∷ parts) = l ∷ literals parts
