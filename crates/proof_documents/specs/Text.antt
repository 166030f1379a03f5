-- Which bytes are a document, and which line is the first that can't stand where it stands.
use Rattle.std.specs.Prelude.{◌≡◌, ℕ, ◌+◌, ◌⊎◌, Bool, true, false, not, ◌==◌, IsTrue, List, ◌++◌, length, flat_map, Result, Ok, Err}
use Rattle.std.specs.List.{All, list_all}
use Rattle.rdf_terms.specs.Answers.{IsMeant, IsOnlyMeant}
use Rattle.proof_documents.specs.declared.refusal.DocRefusal.{DocRefusal}
use Rattle.proof_documents.specs.declared.refusal.DocRefusal.TheVariants.{Line, OutOfMemory}
use Rattle.proof_documents.specs.Document.{Document, IsWellFormed}
use Rattle.proof_documents.specs.DocumentText.{line, document_text}

-- the bytes are the text of this document
pub record IsDocument (bytes : List ℕ) (d : Document) : Type 0 where
  pub well_formed : IsWellFormed d
  pub text : bytes ≡ document_text d

-- some document begins with this text
pub record BeginsDocument (text : List ℕ) : Type 0 where
  pub rest : List ℕ
  pub document : Document
  pub whole : IsDocument (text ++ rest) document

-- there is no LF within
abbrev pub IsPlain : List ℕ → Type 0
IsPlain text = IsTrue (list_all (λ b. not (b == 10)) text)

-- the lines, each with its LF
abbrev pub lines_text : List (List ℕ) → List ℕ
lines_text lines = flat_map line lines

-- with one more line, no document begins so
pub record HasBadLine (before after : List ℕ) : Type 0 where
  pub bad : List ℕ
  pub later : List ℕ
  pub parts : after ≡ line bad ++ later
  pub plain : IsPlain bad
  pub no_document : ¬ (BeginsDocument (before ++ line bad))

-- no line is left, and the whole is no document: its end is missing, or bytes follow its last LF
pub record EndsTooEarly (before after : List ℕ) : Type 0 where
  pub plain : IsPlain after
  pub no_document : (d : Document) → ¬ (IsDocument (before ++ after) d)

-- Some document begins with the lines before this number, and the line with this number can't stand behind
-- them. Lines are counted from 1.
pub record IsFirstBad (bytes : List ℕ) (number : ℕ) : Type 0 where
  pub before : List (List ℕ)
  pub after : List ℕ
  pub parts : bytes ≡ lines_text before ++ after
  pub plain : All IsPlain before
  pub begins : BeginsDocument (lines_text before)
  pub count : number ≡ length before + 1
  pub fails : HasBadLine (lines_text before) after ⊎ EndsTooEarly (lines_text before) after

-- what the reading of a text answers: its document, or its first line that can't stand there
abbrev pub TextMeans : List ℕ → Result Document DocRefusal → Type 0
TextMeans bytes (Ok d) = IsDocument bytes d
TextMeans bytes (Err (Line number)) = IsFirstBad bytes number
TextMeans bytes (Err OutOfMemory) = ⊥

abbrev pub is_memory : DocRefusal → Bool
is_memory (Line number) = false
is_memory OutOfMemory = true

abbrev pub IsAnswer : List ℕ → Result Document DocRefusal → Type 0
IsAnswer bytes result = IsMeant is_memory (TextMeans bytes) result

-- the text is no other document and has no other first bad line
abbrev pub IsOnlyAnswer : List ℕ → Result Document DocRefusal → Type 0
IsOnlyAnswer bytes result = IsOnlyMeant is_memory (TextMeans bytes) result
