-- What the tokens of one statement do to what the statements before it leave.
use Rattle.std.specs.Prelude.{◌≡◌, List, Result, Ok, Err}
use Rattle.rdf_grammar.specs.declared.parse_error.ParseError.{ParseError}
use Rattle.rdf_grammar.specs.declared.parse_error.ParseError.TheVariants.{OutOfMemory, NoMatch}
use Rattle.turtle_tokens.specs.Places.{PlacedToken}
use Rattle.turtle_statements.specs.declared.output.Output.{Output}
use Rattle.turtle_statements.specs.Names.{Names}
use Rattle.turtle_statements.specs.Grammar.{statement}

-- the tokens are a statement that has a meaning under the names before it, and behind it the names are these and this
-- has been said
pub record IsStatement
    (before : Names) (said_before : Output) (tokens : List PlacedToken) (after : Names) (said : Output) : Type 0 where
  pub meaning : Names × (Output → Output)
  pub spelled : statement before tokens meaning
  pub names : after ≡ meaning.0
  pub output : said ≡ meaning.1 said_before

-- want of memory says nothing of the tokens
abbrev pub IsRefused : ParseError → Names → List PlacedToken → Type 0
IsRefused OutOfMemory names tokens = Unit {0}
IsRefused NoMatch names tokens = (v : Names × (Output → Output)) → statement names tokens v → ⊥

-- they are such a statement, or they are none that has a meaning under these names
abbrev pub IsAccepted : Result (Unit {0}) ParseError → Names → Output → List PlacedToken → Names → Output → Type 0
IsAccepted (Ok u) before said_before tokens after said = IsStatement before said_before tokens after said
IsAccepted (Err e) before said_before tokens after said = IsRefused e before tokens
