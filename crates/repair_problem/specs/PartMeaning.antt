-- The truth of literals and parts, by that of atoms.
use Rattle.std.specs.Prelude.{Bool, true, false, IsTrue, List}
use Rattle.shapes_profile.specs.Logic.{EachOf, SomeOf}
use Rattle.repair_problem.specs.declared.atom.Atom.{Atom}
use Rattle.repair_problem.specs.declared.atom.Literal.{Literal}
use Rattle.repair_problem.specs.declared.atom.Part.{Part}
use Rattle.repair_problem.specs.declared.atom.Part.TheVariants.{Fixed, Lit}
use Rattle.repair_problem.specs.declared.atom.Parts.{Parts}

-- the fact, or that it is false
abbrev pub HoldsIf : Bool → Type 0 → Type 0
HoldsIf true A = A
HoldsIf false A = ¬ A

-- M: what atoms mean
module _ (M : Atom → Type 0) where
  abbrev pub LiteralMeans : Literal → Type 0
  LiteralMeans l = HoldsIf l.positive (M l.atom)

  abbrev pub PartMeans : Part → Type 0
  PartMeans (Fixed b) = IsTrue b
  PartMeans (Lit l) = LiteralMeans l

  -- each of the parts, or some of them
  abbrev pub ListMeans : Bool → List Part → Type 0
  ListMeans true list = EachOf PartMeans list
  ListMeans false list = SomeOf PartMeans list

  abbrev pub PartsMean : Parts → Type 0
  PartsMean parts = ListMeans parts.every parts.list
