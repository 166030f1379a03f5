-- Lists of numbers as sets. Private functions cite it.
use Rattle.std.specs.Prelude.{ℕ, List, Contains}

-- each number of the first list is in the second
abbrev pub AreAmong : List ℕ → List ℕ → Type 0
AreAmong less list = (t : ℕ) → Contains less t → Contains list t
