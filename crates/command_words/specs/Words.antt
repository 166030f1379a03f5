-- The words of the command line, after the program's name.
use Rattle.std.specs.Prelude.{ℕ, ◌-◌, ◌<◌, ◌^◌, List, [], ◌∷◌, Option, Some, None, Result, Ok, Err, ◌&&◌, codes}
use Rattle.std.specs.Prelude.{decimal, nat_eq, nat_lt, if◌then◌else◌}
use Rattle.std.specs.Cmp.Lexicographic.{pointwise}
use Rattle.std.specs.Str.{bytes_eq}
use Rattle.std.specs.Str.Parse.{digits_value}
use Rattle.command_words.specs.declared.words.Command.{Command}
use Rattle.command_words.specs.declared.words.Command.TheVariants.{Validate, Explain, Apply, Check}

-- the command of the words after "validate", or the position of the first wrong word; where a word
-- is missing that is the number of words
abbrev pub validate_of : List (List ℕ) → Result Command ℕ
validate_of [] = Err 1
validate_of (shapes ∷ []) = Err 2
validate_of (shapes ∷ present ∷ []) = Ok (Validate shapes present)
validate_of (shapes ∷ present ∷ word ∷ words) = Err 3

-- a budget of search steps is from 1 to 2^63 - 1
abbrev pub IsBudget : ℕ → Type 0
IsBudget n = (0 < n) × (n < 2 ^ 63)

-- the budget where none is named
abbrev pub default_budget : ℕ
default_budget = 2 ^ 63 - 1

-- the number, if the text spells it in decimal digits, without a leading zero, and it is a budget
abbrev pub spelled_budget : List ℕ → ℕ → Option ℕ
spelled_budget text n = if bytes_eq text (decimal n) && nat_lt 0 n && nat_lt n (2 ^ 63) then Some n else None

-- the budget that a text spells, if it spells one
abbrev pub budget_of : List ℕ → Option ℕ
budget_of text = spelled_budget text (digits_value 10 text)

-- the budget, which is the last word
abbrev pub last_budget : Option ℕ → List (List ℕ) → Result ℕ ℕ
last_budget None words = Err 5
last_budget (Some n) [] = Ok n
last_budget (Some n) (word ∷ words) = Err 6

-- the budget by the words after "--conflicts", or the position of the first wrong one
abbrev pub named_budget : List (List ℕ) → Result ℕ ℕ
named_budget [] = Err 5
named_budget (budget ∷ words) = last_budget (budget_of budget) words

-- the same by the words after the three documents of "explain"
abbrev pub conflicts_of : List (List ℕ) → Result ℕ ℕ
conflicts_of [] = Ok default_budget
conflicts_of (word ∷ words) = if pointwise nat_eq word (codes "--conflicts") then named_budget words else Err 4

abbrev pub explain_with : List ℕ → List ℕ → List ℕ → Result ℕ ℕ → Result Command ℕ
explain_with shapes present offered (Ok conflicts) = Ok (Explain shapes present offered conflicts)
explain_with shapes present offered (Err position) = Err position

-- the same of the words after "explain"
abbrev pub explain_of : List (List ℕ) → Result Command ℕ
explain_of [] = Err 1
explain_of (shapes ∷ []) = Err 2
explain_of (shapes ∷ present ∷ []) = Err 3
explain_of (shapes ∷ present ∷ offered ∷ options) = explain_with shapes present offered (conflicts_of options)

-- the same of the words after "apply"
abbrev pub apply_of : List (List ℕ) → Result Command ℕ
apply_of [] = Err 1
apply_of (present ∷ []) = Err 2
apply_of (present ∷ document ∷ []) = Ok (Apply present document)
apply_of (present ∷ document ∷ word ∷ words) = Err 3

-- the same of the words after "check"
abbrev pub check_of : List (List ℕ) → Result Command ℕ
check_of [] = Err 1
check_of (shapes ∷ []) = Err 2
check_of (shapes ∷ present ∷ []) = Err 3
check_of (shapes ∷ present ∷ offered ∷ []) = Err 4
check_of (shapes ∷ present ∷ offered ∷ document ∷ []) = Ok (Check shapes present offered document)
check_of (shapes ∷ present ∷ offered ∷ document ∷ word ∷ words) = Err 5

-- the command of the words, or the position of the first wrong one, counted from 0
abbrev pub words_of : List (List ℕ) → Result Command ℕ
words_of [] = Err 0
words_of (word ∷ words) =
    if pointwise nat_eq word (codes "validate") then validate_of words else
    if pointwise nat_eq word (codes "explain") then explain_of words else
    if pointwise nat_eq word (codes "apply") then apply_of words else
    if pointwise nat_eq word (codes "check") then check_of words else
    Err 0

-- a command that searches has a budget
abbrev pub HasBudget : Command → Type 0
HasBudget (Validate shapes present) = Unit {0}
HasBudget (Explain shapes present offered conflicts) = IsBudget conflicts
HasBudget (Apply present document) = Unit {0}
HasBudget (Check shapes present offered document) = Unit {0}
