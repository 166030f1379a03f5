-- What a text of N-Triples means, and which line is the first that is none.
use Rattle.std.specs.Prelude.{◌≡◌, ℕ, Bool, true, false, IsTrue, List, [], ◌∷◌, ◌++◌, Option, Some, None, Result, Ok, Err}
use Rattle.rdf_terms.specs.declared.term.Scope.{Scope}
use Rattle.rdf_terms.specs.Statement.{Statement}
use Rattle.rdf_terms.specs.Answers.{IsMeant, IsOnlyMeant}
use Rattle.rdf_terms.specs.Graph.{Graph, has, of_list}
use Rattle.rdf_grammar.specs.Lawful.{IsLawfulTriple}
use Rattle.ntriples_io.specs.declared.refusal.NtRefusal.{NtRefusal}
use Rattle.ntriples_io.specs.declared.refusal.NtRefusal.TheVariants.{Syntax, OutOfMemory}
use Rattle.ntriples_io.specs.Cutting.{Line, lines_of, IsNumbered}
use Rattle.ntriples_io.specs.Lines.{IsLine}

abbrev pub listed : Option Statement → List Statement
listed None = []
listed (Some t) = t ∷ []

-- a line with this meaning, and the triples of the lines behind it
pub record Behind (scope : Scope) (R : List Statement → Type 0) (piece : List ℕ) (ts : List Statement) : Type 0 where
  pub meaning : Option Statement
  pub later : List Statement
  pub is_line : IsLine scope piece meaning
  pub rest : R later
  pub parts : ts ≡ listed meaning ++ later

-- each piece is a line, and these are the triples on them, in order
abbrev pub AreLines : Scope → List Line → List Statement → Type 0
AreLines scope [] ts = ts ≡ []
AreLines scope (l ∷ ls) ts = Behind scope (λ later. AreLines scope ls later) l.piece ts

-- the first piece that is no line has this number
pub record IsFirstBad (scope : Scope) (ls : List Line) (n : ℕ) : Type 0 where
  pub before : List Line
  pub bad : List ℕ
  pub after : List Line
  pub parts : ls ≡ before ++ record { number = n; piece = bad } ∷ after
  pub triples : List Statement
  pub lines : AreLines scope before triples
  pub no_line : (v : Option Statement) → ¬ (IsLine scope bad v)

-- every line of the text is one of N-Triples, and the graph is the set of the triples on them
pub record NtText (bytes : List ℕ) (scope : Scope) (g : Graph) : Type 0 where
  pub triples : List Statement
  pub lines : AreLines scope (lines_of bytes) triples
  pub is_set : g ≡ of_list triples

-- the first line of the text that is none of N-Triples has this number
pub record BadLine (bytes : List ℕ) (scope : Scope) (n : ℕ) : Type 0 where
  pub first : IsFirstBad scope (lines_of bytes) n
  pub number : IsNumbered bytes first.bad n

-- what the reading of a text answers: its graph, or its first line that is none of N-Triples
abbrev pub TextMeans : List ℕ → Scope → Result Graph NtRefusal → Type 0
TextMeans bytes scope (Ok g) = NtText bytes scope g
TextMeans bytes scope (Err (Syntax n)) = BadLine bytes scope n
TextMeans bytes scope (Err OutOfMemory) = ⊥

abbrev pub is_memory : NtRefusal → Bool
is_memory (Syntax n) = false
is_memory OutOfMemory = true

abbrev pub IsAnswer : List ℕ → Scope → Result Graph NtRefusal → Type 0
IsAnswer bytes scope result = IsMeant is_memory (TextMeans bytes scope) result

-- the text means no other graph and has no other first bad line
abbrev pub IsOnlyAnswer : List ℕ → Scope → Result Graph NtRefusal → Type 0
IsOnlyAnswer bytes scope result = IsOnlyMeant is_memory (TextMeans bytes scope) result

-- pieces one after another
abbrev pub pieces_text : List (List ℕ) → List ℕ
pieces_text [] = []
pieces_text (piece ∷ pieces) = piece ++ pieces_text pieces

-- each triple of the graph has lawful terms
abbrev pub AreLawful : Graph → Type 0
AreLawful g = (t : Statement) → IsTrue (has g t) → IsLawfulTriple t

-- the line with this number was read, and its triple was put behind the others
abbrev pub ReadsLine : Scope → ℕ → List ℕ → List Statement → List Statement → Result (Unit {0}) NtRefusal → Type 0
ReadsLine scope n piece old new (Ok u) = (v : Option Statement) × IsLine scope piece v × (new ≡ old ++ listed v)
ReadsLine scope n piece old new (Err (Syntax m)) = (m ≡ n) × ((v : Option Statement) → ¬ (IsLine scope piece v))
ReadsLine scope n piece old new (Err OutOfMemory) = Unit {0}
