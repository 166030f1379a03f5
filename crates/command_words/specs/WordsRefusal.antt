-- What a refusal says of the words.
use Rattle.std.specs.Prelude.{◌≡◌, ℕ, Result, Err}
use Rattle.command_words.specs.declared.words.WordsRefusal.{WordsRefusal}
use Rattle.command_words.specs.declared.words.WordsRefusal.TheVariants.{Word, OutOfMemory}

-- a wrong word is the first one; memory may run out whatever the words are
abbrev pub IsRefusedFor : {Value : Type 0} → Result Value ℕ → WordsRefusal → Type 0
IsRefusedFor r (Word position) = r ≡ Err position
IsRefusedFor r OutOfMemory = Unit {0}
