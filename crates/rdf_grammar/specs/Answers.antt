-- What a function of the code answers, over a reading function of the characters of a text.
use Rattle.std.specs.Prelude.{◌≡◌, ℕ, Bool, true, encode_utf8_all, List, ◌++◌, Option, Some, None, Result, Ok, Err}
use Rattle.std.specs.List.{list_all}
use Rattle.std.specs.Str.{chars}
use Rattle.std.specs.Borrow.{Bor}
use Rattle.grammar_forms.specs.Reading.{Read, Skips}
use Rattle.rdf_grammar.specs.declared.parse_error.ParseError.{ParseError}
use Rattle.rdf_grammar.specs.declared.parse_error.ParseError.TheVariants.{OutOfMemory, NoMatch}

-- characters of a class stand before the rest
abbrev pub StandBefore : (ℕ → Bool) → List ℕ → List ℕ → Type 0
StandBefore p cs rest = (run : List ℕ) × (cs ≡ run ++ rest) × (list_all p run ≡ true)

-- the characters end with this rest
abbrev pub IsRest : List ℕ → List ℕ → Type 0
IsRest rest cs = (front : List ℕ) × (cs ≡ front ++ rest)

-- a value that stands for what is read, and the rest; `None` where nothing is read
abbrev pub Gives : {A B : Type 0} → (A → B) → Option (A × Bor (List ℕ)) → Read ℕ B → Type 0
Gives f None r = r ≡ None
Gives f (Some x) r = r ≡ Some (f x.0, chars x.1.now)

-- the rest alone
abbrev pub GivesRest : Option (Bor (List ℕ)) → Read ℕ (Unit {0}) → Type 0
GivesRest None r = r ≡ None
GivesRest (Some s) r = r ≡ Some (tt, chars s.now)

-- want of memory says nothing of the text
abbrev pub Misses : {B : Type 0} → ParseError → Option B → Type 0
Misses OutOfMemory r = Unit {0}
Misses NoMatch r = r ≡ None

-- as `Gives`, where memory is taken
abbrev pub GivesOr : {A B : Type 0} → (A → B) → Result (A × Bor (List ℕ)) ParseError → Read ℕ B → Type 0
GivesOr f (Ok x) r = r ≡ Some (f x.0, chars x.1.now)
GivesOr f (Err e) r = Misses e r

-- of a function that reads all of a text
abbrev pub GivesAll : {A B : Type 0} → (A → B) → Result A ParseError → Option B → Type 0
GivesAll f (Ok x) r = r ≡ Some (f x)
GivesAll f (Err e) r = Misses e r

-- the characters of a class before the rest, put behind what was there
pub record PushesRun (p : ℕ → Bool) (cs rest old new : List ℕ) : Type 0 where
  pub skips : Skips p cs rest
  pub bytes : new ≡ old ++ encode_utf8_all skips.run
