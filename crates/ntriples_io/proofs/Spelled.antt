-- Bytes that spell a form with a meaning, with no line break among them, and how such bytes are put together.
use Rattle.std.proofs.Common.{◌≡◌, ℕ, Bool, true, List, [], ◌∷◌, ◌++◌, None, Some, refl, subst, ◌∙◌, inl, inr}
use Rattle.std.specs.Prelude.{encode_utf8_all}
use Rattle.std.specs.List.{list_all}
use Rattle.std.specs.Str.{all_scalars}
use Rattle.std.specs.Char.{IsScalar}
use Rattle.std.proofs.lemmas.List.Folds.{list_all-append}
use Rattle.std.proofs.lemmas.Str.{encodes-append}
use Rattle.grammar_forms.specs.Forms.{Form, terminal, Then, either, optional, Made, Such, Where, first_of, second_of, ◌▹◌, ◌◃◌}
use Rattle.ntriples_io.specs.Cutting.{is_plain}
use Rattle.ntriples_io.proofs.CuttingLemmas.{and_both}

pub record Spelled {V : Type 0} (P : Form ℕ V) (bytes : List ℕ) (v : V) : Type 0 where
  pub characters : List ℕ
  pub are_scalars : all_scalars characters ≡ true
  pub are_plain : list_all is_plain characters ≡ true
  pub spell : encode_utf8_all characters ≡ bytes
  pub spelled : P characters v

pub scalars-append : (xs ys : List ℕ) → all_scalars xs ≡ true → all_scalars ys ≡ true → all_scalars (xs ++ ys) ≡ true
scalars-append [] ys h k = k
scalars-append (x ∷ xs) ys h k = let both = and_both _ (all_scalars xs) h in rw (both.0, scalars-append xs ys both.1 k) refl

pub plain-append : (xs ys : List ℕ) → list_all is_plain xs ≡ true → list_all is_plain ys ≡ true → list_all is_plain (xs ++ ys) ≡ true
plain-append xs ys h k = list_all-append is_plain xs ys ∙ rw (h, k) refl

-- characters of a class with no surrogate and no line break
pub record IsPlainClass (p : ℕ → Bool) : Type 0 where
  pub scalar : (c : ℕ) → p c ≡ true → IsScalar c
  pub plain : (c : ℕ) → p c ≡ true → is_plain c ≡ true

pub class_scalars : (p : ℕ → Bool) → IsPlainClass p → (cs : List ℕ) → list_all p cs ≡ true → all_scalars cs ≡ true
class_scalars p k [] h = refl
class_scalars p k (c ∷ cs) h = let both = and_both (p c) (list_all p cs) h in rw (k.scalar c both.0, class_scalars p k cs both.1) refl

pub class_plain : (p : ℕ → Bool) → IsPlainClass p → (cs : List ℕ) → list_all p cs ≡ true → list_all is_plain cs ≡ true
class_plain p k [] h = refl
class_plain p k (c ∷ cs) h = let both = and_both (p c) (list_all p cs) h in rw (k.plain c both.0, class_plain p k cs both.1) refl

-- ---- words of forms

pub spelled_terminal : (w : List ℕ) → all_scalars w ≡ true → list_all is_plain w ≡ true → encode_utf8_all w ≡ w → Spelled (terminal w) w tt
spelled_terminal w h k e = record { characters = w; are_scalars = h; are_plain = k; spell = e; spelled = refl }

pub spelled_then : {A B : Type 0} {P : Form ℕ A} {Q : Form ℕ B} {a b : List ℕ} {v : A} {w : B} → Spelled P a v → Spelled Q b w → Spelled (Then P Q) (a ++ b) (v, w)
spelled_then h k = record {
  characters = h.characters ++ k.characters;
  are_scalars = scalars-append h.characters k.characters h.are_scalars k.are_scalars;
  are_plain = plain-append h.characters k.characters h.are_plain k.are_plain;
  spell = encodes-append h.characters k.characters ∙ rw (h.spell, k.spell) refl;
  spelled = record { front = h.characters; back = k.characters; parts = refl; first = h.spelled; second = k.spelled };
}

pub spelled_made : {A B : Type 0} (f : A → B) {P : Form ℕ A} {a : List ℕ} {v : A} → Spelled P a v → Spelled (Made f P) a (f v)
spelled_made f {v} h = record { characters = h.characters; are_scalars = h.are_scalars; are_plain = h.are_plain; spell = h.spell; spelled = record { own = v; spelled = h.spelled; means = refl } }

pub spelled_such : {A : Type 0} (p : A → Bool) {P : Form ℕ A} {a : List ℕ} {v : A} → Spelled P a v → p v ≡ true → Spelled (Such p P) a v
spelled_such p h k = record { characters = h.characters; are_scalars = h.are_scalars; are_plain = h.are_plain; spell = h.spell; spelled = record { spelled = h.spelled; passes = k } }

pub spelled_where : {A : Type 0} (Q : A → Type 0) {P : Form ℕ A} {a : List ℕ} {v : A} → Spelled P a v → Q v → Spelled (Where Q P) a v
spelled_where Q h k = record { characters = h.characters; are_scalars = h.are_scalars; are_plain = h.are_plain; spell = h.spell; spelled = record { spelled = h.spelled; has = k } }

pub spelled_over : {A B : Type 0} {P : Form ℕ A} {Q : Form ℕ B} {a b : List ℕ} {v : A} {w : B} → Spelled P a v → Spelled Q b w → Spelled (P ▹ Q) (a ++ b) w
spelled_over h k = spelled_made second_of (spelled_then h k)

pub spelled_left : {A B : Type 0} {P : Form ℕ A} {Q : Form ℕ B} {a b : List ℕ} {v : A} {w : B} → Spelled P a v → Spelled Q b w → Spelled (P ◃ Q) (a ++ b) v
spelled_left h k = spelled_made first_of (spelled_then h k)

pub spelled_first : {A : Type 0} {P : Form ℕ A} (Q : Form ℕ A) {a : List ℕ} {v : A} → Spelled P a v → Spelled (either P Q) a v
spelled_first Q h = record { characters = h.characters; are_scalars = h.are_scalars; are_plain = h.are_plain; spell = h.spell; spelled = inl h.spelled }

pub spelled_second : {A : Type 0} (P : Form ℕ A) {Q : Form ℕ A} {a : List ℕ} {v : A} → Spelled Q a v → Spelled (either P Q) a v
spelled_second P h = record { characters = h.characters; are_scalars = h.are_scalars; are_plain = h.are_plain; spell = h.spell; spelled = inr h.spelled }

pub spelled_some : {A : Type 0} {P : Form ℕ A} {a : List ℕ} {v : A} → Spelled P a v → Spelled (optional P) a (Some v)
spelled_some h = record { characters = h.characters; are_scalars = h.are_scalars; are_plain = h.are_plain; spell = h.spell; spelled = h.spelled }

pub spelled_none : {A : Type 0} (P : Form ℕ A) → Spelled (optional P) [] None
spelled_none P = record { characters = []; are_scalars = refl; are_plain = refl; spell = refl; spelled = refl }

pub same_bytes : {A : Type 0} {P : Form ℕ A} {a b : List ℕ} {v : A} → a ≡ b → Spelled P a v → Spelled P b v
same_bytes {P} {v} e h = subst (λ (t : List ℕ). Spelled P t v) e h

pub same_meaning : {A : Type 0} {P : Form ℕ A} {a : List ℕ} {v w : A} → v ≡ w → Spelled P a v → Spelled P a w
same_meaning {P} {a} e h = subst (Spelled P a) e h
