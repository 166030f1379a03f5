-- Clauses, as lists of literals.
use Rattle.std.specs.Prelude.{ℕ, Bool, true, false, not, ◌&&◌, nat_eq, nat_lt, List, [], ◌∷◌}
use Rattle.std.specs.List.{list_all, list_any}
use Rattle.clause_store.specs.declared.lit.Lit.{Lit}

abbrev pub sign_eq : Bool → Bool → Bool
sign_eq true b = b
sign_eq false b = not b

abbrev pub lit_eq : Lit → Lit → Bool
lit_eq l m = nat_eq l.var m.var && sign_eq l.positive m.positive

-- the literal of the same variable and the other sign
abbrev pub opposite : Lit → Lit
opposite l = record { var = l.var; positive = not l.positive }

-- the literal stands in the list
abbrev pub has : List Lit → Lit → Bool
has c m = list_any (λ l. lit_eq l m) c

-- a literal of the variable stands in the list
abbrev pub mentions : List Lit → ℕ → Bool
mentions c v = list_any (λ l. nat_eq l.var v) c

-- no variable stands twice in the list
abbrev pub is_clause : List Lit → Bool
is_clause [] = true
is_clause (l ∷ ls) = not (mentions ls l.var) && is_clause ls

abbrev pub are_clauses : List (List Lit) → Bool
are_clauses = list_all is_clause

-- each variable of the list is below n
abbrev pub is_within : ℕ → List Lit → Bool
is_within n = list_all (λ l. nat_lt l.var n)

abbrev pub are_within : ℕ → List (List Lit) → Bool
are_within n = list_all (is_within n)
