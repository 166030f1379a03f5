-- What a function of the code answers that reads all of a text, over a form.
use Rattle.std.specs.Prelude.{◌≡◌, ℕ, List, Result, Ok, Err}
use Rattle.grammar_forms.specs.Forms.{Form}
use Rattle.rdf_grammar.specs.declared.parse_error.ParseError.{ParseError}
use Rattle.rdf_grammar.specs.declared.parse_error.ParseError.TheVariants.{OutOfMemory, NoMatch}

-- want of memory says nothing of the text
abbrev pub HasNoMeaning : {B : Type 0} → ParseError → Form ℕ B → List ℕ → Type 0
HasNoMeaning OutOfMemory P text = Unit {0}
HasNoMeaning {B} NoMatch P text = (v : B) → P text v → ⊥

-- what the text means, or that it has no meaning
abbrev pub Means : {A B : Type 0} → (A → B) → Result A ParseError → Form ℕ B → List ℕ → Type 0
Means f (Ok x) P text = P text (f x)
Means f (Err e) P text = HasNoMeaning e P text

-- each text means one thing at most
abbrev pub GivesOneMeaning : {B : Type 0} → Form ℕ B → Type 0
GivesOneMeaning {B} P = (text : List ℕ) (v w : B) → P text v → P text w → v ≡ w
