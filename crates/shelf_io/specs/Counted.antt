-- The counts that a shelf over files keeps, two for each word of the command line.
use Rattle.std.specs.Prelude.{ℕ, ◌-◌, ◌^◌, Bool, cond, List, Option, Some, None, nat_eq, option_map}
use Rattle.std.specs.List.{find}
use Rattle.std.specs.Cmp.Lexicographic.{pointwise}
use Rattle.shelf_io.specs.Causes.{raised}
use Rattle.shelf_io.specs.Named.{ChangesOnly}

-- a word, how many pulls of that name were made, and how many of them have failed
pub record Counted : Type 0 where
  pub word : List ℕ
  pub pulls : ℕ
  pub faults : ℕ

-- a word that was not pulled
abbrev pub unasked : List ℕ → Counted
unasked word = record { word = word; pulls = 0; faults = 0 }

-- one more pull, which failed or not
abbrev pub after_pull : Bool → Counted → Counted
after_pull failed c = record { word = c.word; pulls = raised c.pulls; faults = cond failed (raised c.faults) c.faults }

-- what is kept for the name: the counts of the first word that equals it
abbrev pub counted_at : List Counted → List ℕ → Option Counted
counted_at counts name = find (λ counted. pointwise nat_eq counted.word name) counts

-- the counts of a name that is no word stand at their end
abbrev pub faults_of : Option Counted → ℕ
faults_of None = 2 ^ 64 - 1
faults_of (Some counted) = counted.faults

abbrev pub pulls_of : Option Counted → ℕ
pulls_of None = 2 ^ 64 - 1
pulls_of (Some counted) = counted.pulls

abbrev pub faults_at : List Counted → List ℕ → ℕ
faults_at counts name = faults_of (counted_at counts name)

abbrev pub pulls_at : List Counted → List ℕ → ℕ
pulls_at counts name = pulls_of (counted_at counts name)

-- a pull of the name was counted, if it is a word, and nothing else has changed
abbrev pub CountsPull : Bool → List Counted → List Counted → List ℕ → Type 0
CountsPull failed old new name =
    ChangesOnly (counted_at old) (counted_at new) name (option_map (after_pull failed) (counted_at old name))
