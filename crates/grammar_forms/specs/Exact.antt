-- What it means that a function reads exactly a form.
use Rattle.std.specs.Prelude.{◌≡◌, ◌<◌, Some, List, ◌++◌, length}
use Rattle.grammar_forms.specs.Forms.{Form}
use Rattle.grammar_forms.specs.Reading.{Read}

-- What is read is in the form. What is in the form is read, whatever of F follows.
pub record Exact {S V : Type 0} (P : Form S V) (F : List S → Type 0) (r : List S → Read S V) : Type 0 where
  pub sound : (cs : List S) (x : V × List S) → r cs ≡ Some x → (a : List S) × P a x.0 × (cs ≡ a ++ x.1)
  pub full : (a rest : List S) (v : V) → P a v → F rest → r (a ++ rest) ≡ Some (v, rest)

abbrev pub anything : {S : Type 0} → List S → Type 0
anything rest = Unit {0}

-- no text of the form is empty
abbrev pub IsNonempty : {S A : Type 0} → Form S A → Type 0
IsNonempty {S} {A} P = (a : List S) (v : A) → P a v → 0 < length a
