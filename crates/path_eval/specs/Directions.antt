-- A relation followed forwards or backwards.
use Rattle.std.specs.Prelude.{ℕ}
use Rattle.path_eval.specs.declared.direction.Direction.{Direction}
use Rattle.path_eval.specs.declared.direction.Direction.TheVariants.{Forward, Backward}

-- the relation, or the relation turned round
abbrev pub Towards : {X : Type 0} → Direction → (X → X → Type 0) → X → X → Type 0
Towards Forward R x y = R x y
Towards Backward R x y = R y x

abbrev pub turned : Direction → Direction
turned Forward = Backward
turned Backward = Forward

-- two things in the order in which they are met
abbrev pub ordered : Direction → ℕ → ℕ → ℕ × ℕ
ordered Forward a b = (a, b)
ordered Backward a b = (b, a)
