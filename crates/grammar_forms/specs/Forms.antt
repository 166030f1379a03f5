-- Forms: which texts, as lists of symbols, have what meaning. Each production of a grammar is a form.
use Rattle.std.specs.Prelude.{◌≡◌, ℕ, Bool, true, false, List, [], ◌∷◌, ◌++◌, Option, Some, None, ◌⊎◌, encode_utf8_all}

abbrev pub Form : Type 0 → Type 0 → Type 1
Form S V = List S → V → Type 0

-- one symbol of a class, which means itself
pub record One {S : Type 0} (p : S → Bool) (text : List S) (c : S) : Type 0 where
  pub spelled : text ≡ c ∷ []
  pub passes : p c ≡ true

-- these symbols, as they stand in quotes in a production
abbrev pub terminal : {S : Type 0} → List S → Form S (Unit {0})
terminal w text v = text ≡ w

-- one form and then another
pub record Then {S A B : Type 0} (P : Form S A) (Q : Form S B) (text : List S) (v : A × B) : Type 0 where
  pub front : List S
  pub back : List S
  pub parts : text ≡ front ++ back
  pub first : P front v.0
  pub second : Q back v.1

-- any number of times, one after another
abbrev pub many : {S A : Type 0} → Form S A → Form S (List A)
many P text [] = text ≡ []
many P text (v ∷ vs) = Then P (λ t (u : Unit {0}). many P t vs) text (v, tt)

-- the first or the second
abbrev pub either : {S A : Type 0} → Form S A → Form S A → Form S A
either P Q text v = P text v ⊎ Q text v

-- at most once
abbrev pub optional : {S A : Type 0} → Form S A → Form S (Option A)
optional P text None = text ≡ []
optional P text (Some v) = P text v

-- with a meaning made of the form's own
pub record Made {S A B : Type 0} (f : A → B) (P : Form S A) (text : List S) (w : B) : Type 0 where
  pub own : A
  pub spelled : P text own
  pub means : w ≡ f own

-- where the meaning passes a test
pub record Such {S A : Type 0} (p : A → Bool) (P : Form S A) (text : List S) (v : A) : Type 0 where
  pub spelled : P text v
  pub passes : p v ≡ true

-- where the meaning has a property
pub record Where {S A : Type 0} (Q : A → Type 0) (P : Form S A) (text : List S) (v : A) : Type 0 where
  pub spelled : P text v
  pub has : Q v

-- which means the text itself
pub record Verbatim {S A : Type 0} (P : Form S A) (text v : List S) : Type 0 where
  pub own : A
  pub spelled : P text own
  pub means : v ≡ text

abbrev pub is_nonempty : {A : Type 0} → List A → Bool
is_nonempty [] = false
is_nonempty (v ∷ vs) = true

-- at least once
abbrev pub some : {S A : Type 0} → Form S A → Form S (List A)
some P = Such is_nonempty (many P)

-- one after another: the meanings of both, of the second, of the first
infixr 6 ◌⨾◌
abbrev pub ◌⨾◌ : {S A B : Type 0} → Form S A → Form S B → Form S (A × B)
P ⨾ Q = Then P Q

abbrev pub first_of : {A B : Type 0} → A × B → A
first_of v = v.0

abbrev pub second_of : {A B : Type 0} → A × B → B
second_of v = v.1

infixr 6 ◌▹◌
abbrev pub ◌▹◌ : {S A B : Type 0} → Form S A → Form S B → Form S B
P ▹ Q = Made second_of (Then P Q)

infixr 6 ◌◃◌
abbrev pub ◌◃◌ : {S A B : Type 0} → Form S A → Form S B → Form S A
P ◃ Q = Made first_of (Then P Q)

infixr 4 ◌∣◌
abbrev pub ◌∣◌ : {S A : Type 0} → Form S A → Form S A → Form S A
P ∣ Q = either P Q

-- the same texts, with no meaning
abbrev pub nothing : {A : Type 0} → A → Unit {0}
nothing v = tt

abbrev pub silent : {S A : Type 0} → Form S A → Form S (Unit {0})
silent P = Made nothing P

-- characters, which mean their UTF-8
abbrev pub written : {S : Type 0} → Form S (List ℕ) → Form S (List ℕ)
written P = Made encode_utf8_all P
