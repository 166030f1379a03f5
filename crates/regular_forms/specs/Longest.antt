-- The longest text of some forms at the front of a text.
use Rattle.std.specs.Prelude.{◌≡◌, ℕ, ◌≤◌, List, [], ◌∷◌, ◌++◌, length, Option, Some, None, option_and_then}
use Rattle.regular_forms.specs.Regular.{Regular, Has}

-- a text of the form of this kind alone stands before the rest, and no text of any of the forms that stands at the
-- front is longer
pub record Longest {K : Type 0} (form : K → Regular) (cs : List ℕ) (kind : K) (rest : List ℕ) : Type 0 where
  pub front : List ℕ
  pub parts : cs ≡ front ++ rest
  pub has : Has (form kind) front
  pub one_kind : (j : K) → Has (form j) front → j ≡ kind
  pub longest : (j : K) (other after : List ℕ) → cs ≡ other ++ after → Has (form j) other → length other ≤ length front

-- no text of any of the forms stands at the front
abbrev pub NoneAt : {K : Type 0} → (K → Regular) → List ℕ → Type 0
NoneAt {K} form cs = (j : K) (other after : List ℕ) → cs ≡ other ++ after → Has (form j) other → ⊥

abbrev pub IsLongest : {K : Type 0} → (K → Regular) → List ℕ → Option (K × List ℕ) → Type 0
IsLongest form cs None = NoneAt form cs
IsLongest form cs (Some x) = Longest form cs x.0 x.1

-- ---- a machine: `step` goes on by a character, `out` says of which kind what was read is

-- the kind and the rest from further on, or else from here
abbrev pub or_here : {K : Type 0} → Option (K × List ℕ) → Option K → List ℕ → Option (K × List ℕ)
or_here (Some x) o cs = Some x
or_here None (Some k) cs = Some (k, cs)
or_here None None cs = None

-- what the machine reads at the front: up to the last place where it has a kind
abbrev pub munch : {Q K : Type 0} → (Q → ℕ → Option Q) → (Q → Option K) → Q → List ℕ → Option (K × List ℕ)
munch step out q [] = or_here None (out q) []
munch step out q (c ∷ cs) = or_here (option_and_then (λ r. munch step out r cs) (step q c)) (out q) (c ∷ cs)
