-- The premises of roots. Private functions cite it.
use Rattle.std.specs.Prelude.{◌<◌, ℕ, true, false, List, [], ◌∷◌}
use Rattle.repair_problem.specs.declared.atom.Atom.TheVariants as atom
use Rattle.repair_problem.specs.declared.atom.Literal.{Literal}
use Rattle.repair_problem.specs.Setting.{Setting}
use Rattle.proof_lines.specs.declared.rule.Rule.{Rule}
use Rattle.atom_parts.specs.PartLiterals.{In}
use Rattle.clause_ground.specs.Needed.{root, CanBeFocus}

-- the node is no focus node of the shape, or conforms to it
abbrev pub root_literals : ℕ → ℕ → List Literal
root_literals n x =
    record { atom = atom.Target n x; positive = false } ∷ record { atom = atom.Conforms n x; positive = true } ∷ []

module _ (s : Setting) where
  -- all nodes that can be focus nodes of the shape have their rule
  abbrev pub RootsOf : ℕ → List Rule → Type 0
  RootsOf n rs = (x : ℕ) → CanBeFocus s n x → In rs (root n x)

  abbrev pub RootsBelow : ℕ → List Rule → Type 0
  RootsBelow m rs = (n : ℕ) → n < m → RootsOf n rs
