-- Documents of Turtle: RDF 1.1 Turtle, sections 6 and 7. Statements stand one after another, and each is read under
-- what the statements before it leave. The first that is not accepted is told by its refusal.
use Rattle.std.specs.Prelude.{◌≡◌, ℕ, Bool, true, false, IsTrue, List, [], ◌∷◌, Option, Some, None, Result, Ok, Err}
use Rattle.rdf_terms.specs.declared.term.Scope.{Scope}
use Rattle.rdf_terms.specs.Answers.{IsMeant, IsOnlyMeant}
use Rattle.rdf_terms.specs.Graph.{Graph, of_list}
use Rattle.turtle_tokens.specs.declared.faults.TokenFault.{TokenFault}
use Rattle.turtle_tokens.specs.declared.faults.TokenFault.TheVariants as fault
use Rattle.turtle_tokens.specs.Places.{Place, PlacedToken, SkipsFilling, AreTokens}
use Rattle.turtle_tokens.specs.Faults.{first_fault}
use Rattle.turtle_statements.specs.declared.role.Role.{Role}
use Rattle.turtle_statements.specs.declared.output.Output.{Output}
use Rattle.turtle_statements.specs.Names.{Names, no_names}
use Rattle.turtle_statements.specs.Meaning.{nothing_said}
use Rattle.turtle_statements.specs.Grammar.{statement}
use Rattle.turtle_statements.specs.Statements.{IsStatement}
use Rattle.turtle_io.specs.declared.refusal.TurtleRefusal.{TurtleRefusal}
use Rattle.turtle_io.specs.declared.refusal.TurtleRefusal.TheVariants.{Syntax, TooDeep, ReservedLabel, OutOfMemory}

-- what the statements before a place leave: the base and the prefixes, and what was said
pub record State : Type 0 where
  pub names : Names
  pub said : Output

-- at the beginning
abbrev pub start : Role → State
start role = record { names = no_names role; said = nothing_said }

-- the tokens of a statement are accepted: none has a fault by itself, and they are a statement with a meaning
pub record Accepts (before : State) (tokens : List PlacedToken) (after : State) : Type 0 where
  pub no_fault : first_fault 0 tokens ≡ None
  pub means : IsStatement before.names before.said tokens after.names after.said

-- accepted statements stand one after another from here on, and these are the states behind each of them
abbrev pub Statements : Place → State → List State → Place → State → Type 0
Statements here before [] there after = (there ≡ here) × (after ≡ before)
Statements here before (between ∷ more) there after =
    (tokens : List PlacedToken) × (next : Place) × AreTokens [] here tokens next × Accepts before tokens between
    × Statements next between more there after

-- a document from its beginning, behind the first filling, to a place
pub record ReadTo (bytes : List ℕ) (role : Role) (there : Place) (left : State) : Type 0 where
  pub first : Place
  pub skips : SkipsFilling (record { at = 0; bytes = bytes }) first
  pub states : List State
  pub statements : Statements first (start role) states there left

-- all of the document is accepted statements, and the graph is the set of all their triples
pub record TurtleText (bytes : List ℕ) (role : Role) (g : Graph) : Type 0 where
  pub last : Place
  pub left : State
  pub read : ReadTo bytes role last left
  pub ends : last.bytes ≡ []
  pub is_set : g ≡ of_list left.said.triples

-- what is told of a fault that a token has by itself
abbrev pub refusal_of : TokenFault → TurtleRefusal
refusal_of (fault.TooDeep at) = TooDeep at
refusal_of (fault.ReservedLabel at) = ReservedLabel at

-- the refusal of a statement that begins at this place: the first fault that a token has by itself, in the order of the
-- text, and where there is none, that the tokens are no statement with a meaning
abbrev pub IsRefusal : State → ℕ → List PlacedToken → Option TokenFault → TurtleRefusal → Type 0
IsRefusal before at tokens (Some f) r = r ≡ refusal_of f
IsRefusal before at tokens None r =
    (r ≡ Syntax at) × ((v : Names × (Output → Output)) → statement before.names tokens v → ⊥)

-- the first statement of the document that is not accepted is refused so
pub record TurtleFault (bytes : List ℕ) (role : Role) (r : TurtleRefusal) : Type 0 where
  pub bad : Place
  pub left : State
  pub read : ReadTo bytes role bad left
  pub some : bad.bytes ≡ [] → ⊥
  pub tokens : List PlacedToken
  pub next : Place
  pub cut : AreTokens [] bad tokens next
  pub refusal : IsRefusal left bad.at tokens (first_fault 0 tokens) r

-- what the reading of a document answers: its graph, or its first refusal
abbrev pub DocumentMeans : List ℕ → Role → Result Graph TurtleRefusal → Type 0
DocumentMeans bytes role (Ok g) = TurtleText bytes role g
DocumentMeans bytes role (Err OutOfMemory) = ⊥
DocumentMeans bytes role (Err r) = TurtleFault bytes role r

abbrev pub is_memory : TurtleRefusal → Bool
is_memory OutOfMemory = true
is_memory r = false

abbrev pub IsAnswer : List ℕ → Role → Result Graph TurtleRefusal → Type 0
IsAnswer bytes role result = IsMeant is_memory (DocumentMeans bytes role) result

-- the document means no other graph and has no other first refusal
abbrev pub IsOnlyAnswer : List ℕ → Role → Result Graph TurtleRefusal → Type 0
IsOnlyAnswer bytes role result = IsOnlyMeant is_memory (DocumentMeans bytes role) result
