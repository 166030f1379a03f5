-- Why a step is refused.
use Rattle.std.specs.Prelude.{◌≡◌, ℕ, ◌<◌, List, take, Some, None, slice_get}
use Rattle.clause_store.specs.declared.lit.Lit.{Lit}
use Rattle.clause_store.specs.Clauses.{has}
use Rattle.clause_store.specs.Chained.{LitSet, ClashesOnce, Derives, IsChained}
use Rattle.refute_check.specs.declared.refusal.StepRefusal.{StepRefusal}
use Rattle.refute_check.specs.declared.refusal.StepRefusal.TheVariants.{UnknownId, NoSingleClash, OutOfMemory}

-- the id at that position is no place in the list of clauses, and all before it is in order
abbrev pub IsUnknownAt : List (List Lit) → List ℕ → ℕ → Type 0
IsUnknownAt cs ids k =
    (i : ℕ) × (c : LitSet) × (slice_get ids k ≡ Some i) × (slice_get cs i ≡ None) × Derives cs (take k ids) c

-- the resolution with the clause of the id at that position doesn't clash in exactly one literal, and all before it
-- is in order
abbrev pub HasNoSingleClashAt : List (List Lit) → List ℕ → ℕ → Type 0
HasNoSingleClashAt cs ids k =
    (i : ℕ) × (c : LitSet) × (b : List Lit) × (0 < k) × (slice_get ids k ≡ Some i) × (slice_get cs i ≡ Some b)
    × Derives cs (take k ids) c × ¬ ((v : ℕ) × ClashesOnce c (has b) v)

abbrev pub IsChainedToNone : List (List Lit) → List ℕ → Type 0
IsChainedToNone cs ids = (c : List Lit) → ¬ (IsChained cs ids c)

-- what fails is the first that does, and the ids are chained to no clause; want of memory says nothing
abbrev pub IsRefusal : List (List Lit) → List ℕ → StepRefusal → Type 0
IsRefusal cs ids (UnknownId k) = IsUnknownAt cs ids k × IsChainedToNone cs ids
IsRefusal cs ids (NoSingleClash k) = HasNoSingleClashAt cs ids k × IsChainedToNone cs ids
IsRefusal cs ids OutOfMemory = Unit {0}
