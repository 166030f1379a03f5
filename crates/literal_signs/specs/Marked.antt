-- A set of literals, kept as a sign for each variable.
use Rattle.std.specs.Prelude.{◌≡◌, ℕ, ◌+◌, Bool, true, false, not, cond, List, [], ◌∷◌, slice_index_or}
use Rattle.std.specs.List.{flat_map}
use Rattle.clause_store.specs.declared.lit.Lit.{Lit}
use Rattle.clause_store.specs.Clauses.{has}
use Rattle.clause_store.specs.Chained.{LitSet, Clashes}
use Rattle.literal_signs.specs.declared.sign.Sign.{Sign}
use Rattle.literal_signs.specs.declared.sign.Sign.TheVariants.{Absent, Positive, Negative}

-- the literal of that polarity stands in the set, by the sign of its variable
abbrev pub sign_marks : Sign → Bool → Bool
sign_marks Absent p = false
sign_marks Positive p = p
sign_marks Negative p = not p

abbrev pub is_absent : Sign → Bool
is_absent Absent = true
is_absent Positive = false
is_absent Negative = false

-- how many signs are absent
abbrev pub absents : List Sign → ℕ
absents [] = 0
absents (s ∷ signs) = cond (is_absent s) 1 0 + absents signs

abbrev pub sign_for : Bool → Sign
sign_for true = Positive
sign_for false = Negative

abbrev pub marked_set : List Sign → LitSet
marked_set signs l = sign_marks (slice_index_or signs l.var Absent) l.positive

-- no literal of the second set has its opposite in the first
abbrev pub AreApart : LitSet → LitSet → Type 0
AreApart a b = (m : Lit) → ¬ (Clashes a b m)

-- each literal of the set stands in the list
abbrev pub AreListed : LitSet → List Lit → Type 0
AreListed a c = (m : Lit) → a m ≡ true → has c m ≡ true

-- the literals of the clauses of the ids; an id that is no place has none
abbrev pub lits_at : List (List Lit) → List ℕ → List Lit
lits_at cs = flat_map (λ i. slice_index_or cs i [])
