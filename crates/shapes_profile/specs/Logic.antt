-- What is true of each thing of a list, of some, of none, of the first, or of so many things.
use Rattle.std.specs.Prelude.{◌≡◌, ◌⊎◌, ℕ, ◌<◌, ◌≤◌, Bool, true, false, IsTrue, List, [], ◌∷◌, length, Some, slice_get}
use Rattle.std.specs.declared.cmp.Ordering.{Ordering}
use Rattle.rdf_terms.specs.Set.{Set, items, has}

abbrev pub EachOf : {X : Type 0} → (X → Type 0) → List X → Type 0
EachOf P [] = Unit {0}
EachOf P (x ∷ xs) = P x × EachOf P xs

abbrev pub SomeOf : {X : Type 0} → (X → Type 0) → List X → Type 0
SomeOf P [] = ⊥
SomeOf P (x ∷ xs) = P x ⊎ SomeOf P xs

-- nothing of the list has P
abbrev pub NoneOf : {X : Type 0} → (X → Type 0) → List X → Type 0
NoneOf {X} P xs = (i : ℕ) (x : X) → slice_get xs i ≡ Some x → ¬ (P x)

-- the first of the list with P
pub record IsFirst {X : Type 0} (P : X → Type 0) (xs : List X) (x : X) : Type 0 where
  pub place : ℕ
  pub there : slice_get xs place ≡ Some x
  pub own : P x
  pub before : (j : ℕ) (y : X) → j < place → slice_get xs j ≡ Some y → ¬ (P y)

-- nothing with V fails G
abbrev pub NoneFails : {X : Type 0} → (X → Type 0) → (X → Type 0) → Type 0
NoneFails {X} V G = ¬ ((y : X) × V y × ¬ (G y))

-- asked only where b is false
abbrev pub Unless : Bool → Type 0 → Type 0
Unless true P = Unit {0}
Unless false P = P

-- at least n things have P: there is a set of so many. At most n have it where not at least n + 1 do
pub record AtLeast {K : Type 0} (R : K → K → Ordering) (P : K → Type 0) (n : ℕ) : Type 0 where
  pub members : Set R
  pub all : (y : K) → IsTrue (has members y) → P y
  pub enough : n ≤ length (items members)
