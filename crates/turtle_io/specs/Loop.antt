-- Reading the statements of a text one after another. Private functions cite it.
use Rattle.std.specs.Prelude.{◌≡◌, ℕ, Bool, true, List, [], Result, Ok, Err, ◌++◌, encode_utf8_all}
use Rattle.std.specs.Str.{chars, StartsWithNoChar}
use Rattle.turtle_tokens.specs.Places.{Place, PlacedToken, AreTokens}
use Rattle.turtle_tokens.specs.Faults.{first_fault}
use Rattle.turtle_tokens.specs.Fronts.{place_of, IsEnd}
use Rattle.turtle_statements.specs.declared.role.Role.{Role}
use Rattle.turtle_statements.specs.declared.context.Context.{Context}
use Rattle.turtle_statements.specs.declared.output.Output.{Output}
use Rattle.turtle_statements.specs.Names.{names_of}
use Rattle.turtle_io.specs.declared.refusal.TurtleRefusal.{TurtleRefusal}
use Rattle.turtle_io.specs.declared.refusal.TurtleRefusal.TheVariants.{Syntax, TooDeep, ReservedLabel, OutOfMemory}
use Rattle.turtle_io.specs.Documents.{State, start, Accepts, Statements, IsRefusal}

-- what the code keeps
abbrev pub state_of : Context → Output → State
state_of context out = record { names = names_of context; said = out }

-- bytes are left, whatever stands behind the text
abbrev pub HasMore : Bool → List ℕ → Type 0
HasMore at_end text = (bad : List ℕ) → IsEnd at_end bad → encode_utf8_all (chars text) ++ bad ≡ [] → ⊥

-- none are
pub record HasNoMore (at_end : Bool) (text : List ℕ) : Type 0 where
  pub empty : text ≡ []
  pub ends : at_end ≡ true

-- want of memory says nothing of the tokens
abbrev pub IsRefusedFor : State → ℕ → List PlacedToken → TurtleRefusal → Type 0
IsRefusedFor before at tokens OutOfMemory = Unit {0}
IsRefusedFor before at tokens (Syntax n) = IsRefusal before at tokens (first_fault 0 tokens) (Syntax n)
IsRefusedFor before at tokens (TooDeep n) = IsRefusal before at tokens (first_fault 0 tokens) (TooDeep n)
IsRefusedFor before at tokens (ReservedLabel n) = IsRefusal before at tokens (first_fault 0 tokens) (ReservedLabel n)

-- one statement is accepted, or why it is refused
abbrev pub AcceptsOr : State → ℕ → List PlacedToken → Result (Unit {0}) TurtleRefusal → State → Type 0
AcceptsOr before at tokens (Ok u) after = Accepts before tokens after
AcceptsOr before at tokens (Err r) after = IsRefusedFor before at tokens r

-- accepted statements from a place on to the end of the bytes
pub record Whole (here : Place) (before : State) (out : Output) : Type 0 where
  pub states : List State
  pub last : Place
  pub left : State
  pub statements : Statements here before states last left
  pub ends : last.bytes ≡ []
  pub said : left.said ≡ out

-- or to one that is refused
pub record Broken (here : Place) (before : State) (r : TurtleRefusal) : Type 0 where
  pub states : List State
  pub bad : Place
  pub left : State
  pub statements : Statements here before states bad left
  pub some : bad.bytes ≡ [] → ⊥
  pub tokens : List PlacedToken
  pub next : Place
  pub cut : AreTokens [] bad tokens next
  pub refusal : IsRefusal left bad.at tokens (first_fault 0 tokens) r

-- whatever stands behind the text
abbrev pub IsRead : Bool → ℕ → List ℕ → Role → Result Output TurtleRefusal → Type 0
IsRead at_end at text role (Ok out) =
    (bad : List ℕ) → StartsWithNoChar bad → IsEnd at_end bad → Whole (place_of at (chars text) bad) (start role) out
IsRead at_end at text role (Err OutOfMemory) = Unit {0}
IsRead at_end at text role (Err r) =
    (bad : List ℕ) → StartsWithNoChar bad → IsEnd at_end bad → Broken (place_of at (chars text) bad) (start role) r
