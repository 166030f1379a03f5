-- A literal that moves from a set to a list. Private functions cite it.
use Rattle.std.specs.Prelude.{◌≡◌, Bool, true, false, List, [], ◌∷◌, ◌++◌}
use Rattle.clause_store.specs.declared.lit.Lit.{Lit}
use Rattle.clause_store.specs.Chained.{LitSet, without}

-- where the literal is in the first set, it leaves the set, with its variable, and ends the list; else both stay
abbrev pub Moves : Bool → LitSet → LitSet → List Lit → List Lit → Lit → Type 0
Moves true a b c d l = (b ≡ without a l.var) × (d ≡ c ++ l ∷ [])
Moves false a b c d l = (b ≡ a) × (d ≡ c)
