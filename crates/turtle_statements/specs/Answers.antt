-- What a function of the code answers that reads tokens from the left. Private functions cite it, and the contract of
-- `read_statement` its `tokens_of`.
use Rattle.std.specs.Prelude.{◌≡◌, List, Option, Some, None, Result, Ok, Err, map}
use Rattle.std.specs.Borrow.{Bor}
use Rattle.grammar_forms.specs.Reading.{Read}
use Rattle.rdf_grammar.specs.declared.parse_error.ParseError.{ParseError}
use Rattle.rdf_grammar.specs.Answers.{Misses}
use Rattle.turtle_tokens.specs.declared.statement.Token.{Token}
use Rattle.turtle_tokens.specs.Places.{PlacedToken}
use Rattle.turtle_tokens.specs.Cuts.{placed}
use Rattle.turtle_statements.specs.declared.output.Output.{Output}
use Rattle.turtle_statements.specs.Names.{Names}

abbrev pub tokens_of : List Token → List PlacedToken
tokens_of ts = map placed ts

-- the tokens that are left, if any are answered
abbrev pub LeavesTokens : Option (Bor (List Token)) → Option (List PlacedToken) → Type 0
LeavesTokens None r = r ≡ None
LeavesTokens (Some rest) r = r ≡ Some (tokens_of rest.now)

-- the first token and those behind it
abbrev pub SplitsTokens : Option (Bor Token × Bor (List Token)) → Read PlacedToken PlacedToken → Type 0
SplitsTokens None r = r ≡ None
SplitsTokens (Some x) r = r ≡ Some (placed x.0.now, tokens_of x.1.now)

-- a value that stands for what is read, and the tokens that are left
abbrev pub GivesTokens :
    {A B : Type 0} → (A → B) → Result (A × Bor (List Token)) ParseError → Read PlacedToken B → Type 0
GivesTokens f (Ok x) r = r ≡ Some (f x.0, tokens_of x.1.now)
GivesTokens f (Err e) r = Misses e r

-- the same, and what is said behind it
abbrev pub Runs :
    {A B : Type 0} → (A → B) → Result (A × Bor (List Token)) ParseError → Output → Read PlacedToken (B × Output)
    → Type 0
Runs f (Ok x) new r = r ≡ Some ((f x.0, new), tokens_of x.1.now)
Runs f (Err e) new r = Misses e r

-- the same without a value
abbrev pub RunsRest : Result (Bor (List Token)) ParseError → Output → Read PlacedToken Output → Type 0
RunsRest (Ok rest) new r = r ≡ Some (new, tokens_of rest.now)
RunsRest (Err e) new r = Misses e r

-- one token, which leaves none behind
abbrev pub RunsOne : {A B : Type 0} → (A → B) → Result A ParseError → Output → Option (B × Output) → Type 0
RunsOne f (Ok x) new r = r ≡ Some (f x, new)
RunsOne f (Err e) new r = Misses e r

-- the names behind a directive
abbrev pub LeavesNames : Result (Bor (List Token)) ParseError → Names → Read PlacedToken Names → Type 0
LeavesNames (Ok rest) new r = r ≡ Some (new, tokens_of rest.now)
LeavesNames (Err e) new r = Misses e r

-- the names and what is said behind a statement
abbrev pub LeavesState :
    Result (Bor (List Token)) ParseError → Names → Output → Read PlacedToken (Names × Output) → Type 0
LeavesState (Ok rest) names said r = r ≡ Some ((names, said), tokens_of rest.now)
LeavesState (Err e) names said r = Misses e r
