-- Regular forms over code points, and which texts a form has.
use Rattle.std.specs.Prelude.{◌≡◌, ℕ, zero, suc, ◌==◌, Bool, true, false, not, ◌||◌, List, [], ◌∷◌, ◌++◌, ◌⊎◌}

-- no text, the empty text, one character of a class, one form and then another, either of two, any number of times
pub data Regular : Type 0 where
  none : Regular
  empty : Regular
  one : (ℕ → Bool) → Regular
  seq : Regular → Regular → Regular
  alt : Regular → Regular → Regular
  star : Regular → Regular

pub record OneOf (p : ℕ → Bool) (text : List ℕ) : Type 0 where
  pub char : ℕ
  pub spelled : text ≡ char ∷ []
  pub passes : p char ≡ true

pub record Both (P Q : List ℕ → Type 0) (text : List ℕ) : Type 0 where
  pub front : List ℕ
  pub back : List ℕ
  pub parts : text ≡ front ++ back
  pub first : P front
  pub second : Q back

abbrev pub Times : (List ℕ → Type 0) → ℕ → List ℕ → Type 0
Times P zero text = text ≡ []
Times P (suc n) text = Both P (λ t. Times P n t) text

-- the form has the text
abbrev pub Has : Regular → List ℕ → Type 0
Has none text = ⊥
Has empty text = text ≡ []
Has (one p) text = OneOf p text
Has (seq r s) text = Both (λ t. Has r t) (λ t. Has s t) text
Has (alt r s) text = Has r text ⊎ Has s text
Has (star r) text = (n : ℕ) × Times (λ t. Has r t) n text

-- ---- in the way of productions

infixr 6 ◌⨾◌
abbrev pub ◌⨾◌ : Regular → Regular → Regular
r ⨾ s = seq r s

infixr 4 ◌∣◌
abbrev pub ◌∣◌ : Regular → Regular → Regular
r ∣ s = alt r s

-- at most once, and at least once
abbrev pub maybe : Regular → Regular
maybe r = r ∣ empty

abbrev pub some : Regular → Regular
some r = r ⨾ star r

-- n + 1 times
abbrev pub repeated : ℕ → Regular → Regular
repeated zero r = r
repeated (suc n) r = r ⨾ repeated n r

-- one of these characters, and any but these
abbrev pub is_in : List ℕ → ℕ → Bool
is_in [] c = false
is_in (d ∷ ds) c = (c == d) || is_in ds c

abbrev pub is_not_in : List ℕ → ℕ → Bool
is_not_in ds c = not (is_in ds c)

-- these characters one after another, as they stand in quotes in a production
abbrev pub is_char : ℕ → ℕ → Bool
is_char d c = c == d

abbrev pub literal : List ℕ → Regular
literal [] = empty
literal (c ∷ []) = one (is_char c)
literal (c ∷ d ∷ cs) = one (is_char c) ⨾ literal (d ∷ cs)
