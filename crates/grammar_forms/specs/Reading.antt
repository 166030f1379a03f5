-- Reading forms from the left: a function for each operator of a grammar. `Exact` ties them to the forms.
use Rattle.std.specs.Prelude.{◌≡◌, true, ◌++◌, ℕ, ◌-◌, take, zero, suc, ◌==◌, Bool, cond, List, [], ◌∷◌, length, Option, Some, None, option_and_then, encode_utf8_all}
use Rattle.std.specs.List.{list_all}
use Rattle.grammar_forms.specs.Forms.{first_of, second_of, nothing, is_nonempty}

-- a value and the symbols after it
abbrev pub Read : Type 0 → Type 0 → Type 0
Read S A = Option (A × List S)

abbrev pub char_at : {S : Type 0} → List S → Read S S
char_at [] = None
char_at (c ∷ cs) = Some (c, cs)

abbrev pub one_at : {S : Type 0} → (S → Bool) → List S → Read S S
one_at p [] = None
one_at p (c ∷ cs) = cond (p c) (Some (c, cs)) None

abbrev pub terminal_at : List ℕ → List ℕ → Read ℕ (Unit {0})
terminal_at [] cs = Some (tt, cs)
terminal_at (x ∷ xs) [] = None
terminal_at (x ∷ xs) (c ∷ cs) = cond (c == x) (terminal_at xs cs) None

abbrev pub then_at : {S A B : Type 0} → (List S → Read S A) → (List S → Read S B) → List S → Read S (A × B)
then_at r s cs = option_and_then (λ x. option_and_then (λ y. Some ((x.0, y.0), y.1)) (s x.1)) (r cs)

abbrev pub made_at : {S A B : Type 0} → (A → B) → (List S → Read S A) → List S → Read S B
made_at f r cs = option_and_then (λ x. Some (f x.0, x.1)) (r cs)

abbrev pub such_at : {S A : Type 0} → (A → Bool) → (List S → Read S A) → List S → Read S A
such_at p r cs = option_and_then (λ x. cond (p x.0) (Some x) None) (r cs)

abbrev pub verbatim_at : {S A : Type 0} → (List S → Read S A) → List S → Read S (List S)
verbatim_at r cs = option_and_then (λ x. Some (take (length cs - length x.1) cs, x.1)) (r cs)

abbrev pub or_else : {A : Type 0} → Option A → Option A → Option A
or_else (Some x) o = Some x
or_else None o = o

abbrev pub either_at : {S A : Type 0} → (List S → Read S A) → (List S → Read S A) → List S → Read S A
either_at r s cs = or_else (r cs) (s cs)

abbrev pub optional_next : {S A : Type 0} → List S → Read S A → Read S (Option A)
optional_next cs None = Some (None, cs)
optional_next cs (Some x) = Some (Some x.0, x.1)

abbrev pub optional_at : {S A : Type 0} → (List S → Read S A) → List S → Read S (Option A)
optional_at r cs = optional_next cs (r cs)

abbrev pub many_next : {S A : Type 0} → (List S → List A × List S) → List S → Read S A → List A × List S
many_next go cs None = ([], cs)
many_next go cs (Some x) = (x.0 ∷ (go x.1).0, (go x.1).1)

-- as many as there are, at most so many
abbrev pub many_at : {S A : Type 0} → (List S → Read S A) → ℕ → List S → List A × List S
many_at r zero cs = ([], cs)
many_at r (suc n) cs = many_next (many_at r n) cs (r cs)

abbrev pub all_at : {S A : Type 0} → (List S → Read S A) → List S → Read S (List A)
all_at r cs = Some (many_at r (length cs) cs)

abbrev pub some_at : {S A : Type 0} → (List S → Read S A) → List S → Read S (List A)
some_at r = such_at is_nonempty (all_at r)

-- both, and what the second means
abbrev pub over : {S A B : Type 0} → (List S → Read S A) → (List S → Read S B) → List S → Read S B
over r s = made_at second_of (then_at r s)

-- both, and what the first means
abbrev pub left : {S A B : Type 0} → (List S → Read S A) → (List S → Read S B) → List S → Read S A
left r s = made_at first_of (then_at r s)

-- what stands behind these characters, or before them
abbrev pub behind : List ℕ → {A : Type 0} → (List ℕ → Read ℕ A) → List ℕ → Read ℕ A
behind w r = over (terminal_at w) r

abbrev pub before : List ℕ → {A : Type 0} → (List ℕ → Read ℕ A) → List ℕ → Read ℕ A
before w r = left r (terminal_at w)

abbrev pub silent_at : {S A : Type 0} → (List S → Read S A) → List S → Read S (Unit {0})
silent_at r = made_at nothing r

-- all symbols of a class at the front, and the same where there is one at least
abbrev pub skip_at : {S : Type 0} → (S → Bool) → List S → Read S (Unit {0})
skip_at p = silent_at (all_at (one_at p))

abbrev pub skip_some_at : {S : Type 0} → (S → Bool) → List S → Read S (Unit {0})
skip_some_at p = silent_at (some_at (one_at p))

-- all symbols of a class stand before the rest, and none of it stands there
pub record Skips {S : Type 0} (p : S → Bool) (cs rest : List S) : Type 0 where
  pub run : List S
  pub parts : cs ≡ run ++ rest
  pub each : list_all p run ≡ true
  pub stops : one_at p rest ≡ None

abbrev pub written_at : {S : Type 0} → (List S → Read S (List ℕ)) → List S → Read S (List ℕ)
written_at r = made_at encode_utf8_all r

abbrev pub only_whole : {S A : Type 0} → A → List S → Option A
only_whole v [] = Some v
only_whole v (c ∷ cs) = None

-- a value of all the symbols
abbrev pub whole : {S A : Type 0} → (List S → Read S A) → List S → Option A
whole r cs = option_and_then (λ x. only_whole x.0 x.1) (r cs)
