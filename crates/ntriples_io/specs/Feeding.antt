-- What a reader has read so far.
use Rattle.std.specs.Prelude.{◌≡◌, ℕ, Bool, List, length, Option, Some, None, Result, Ok, Err}
use Rattle.rdf_terms.specs.declared.term.Scope.{Scope}
use Rattle.rdf_terms.specs.Statement.{Statement}
use Rattle.ntriples_io.specs.declared.so_far.LinesSoFar.{LinesSoFar}
use Rattle.ntriples_io.specs.declared.refusal.NtRefusal.{NtRefusal}
use Rattle.ntriples_io.specs.declared.refusal.NtRefusal.TheVariants.{Syntax, OutOfMemory}
use Rattle.ntriples_io.specs.Cutting.{Line, cut, ended_of, ends_in_cr}
use Rattle.ntriples_io.specs.Text.{AreLines, IsFirstBad}

-- a reader of N-Triples, as contracts see it
pub record Progress : Type 0 where
  pub scope : Scope  -- that of the blank nodes
  pub triples : List Statement  -- on the lines that ended
  pub rest : List ℕ  -- the bytes of the line that has not ended
  pub line : ℕ  -- the number of that line
  pub after_cr : Bool  -- whether the last byte was a CR
  pub taken : ℕ  -- how many bytes were taken
  pub refusal : Option NtRefusal  -- what was refused, and is refused to every later call

-- what the fields of a reader stand for
abbrev pub progress_of : LinesSoFar → Progress
progress_of r = record {
  scope = r.scope;
  triples = r.triples;
  rest = r.rest.items;
  line = r.line;
  after_cr = r.after_cr;
  taken = r.taken;
  refusal = r.refusal;
}

-- nothing is refused: all lines that ended are lines, with these triples
pub record IsReading (scope : Scope) (bytes rest : List ℕ) (line : ℕ) (after_cr : Bool) (taken : ℕ)
    (triples : List Statement) : Type 0 where
  pub ended : List Line
  pub cuts : cut 1 bytes ≡ record { ended = ended; last = record { number = line; piece = rest } }
  pub lines : AreLines scope ended triples
  pub at_cr : after_cr ≡ ends_in_cr bytes
  pub count : taken ≡ length bytes

abbrev pub HasReadBy : Option NtRefusal → Progress → List ℕ → Type 0
HasReadBy None r bytes = IsReading r.scope bytes r.rest r.line r.after_cr r.taken r.triples
HasReadBy (Some (Syntax n)) r bytes = IsFirstBad r.scope (ended_of bytes) n
HasReadBy (Some OutOfMemory) r bytes = Unit {0}

-- The reader has read these bytes. A refusal that it keeps names the first line that is none among those that ended.
abbrev pub HasRead : Progress → List ℕ → Type 0
HasRead r bytes = HasReadBy r.refusal r bytes

abbrev pub refusal_in : Result (Unit {0}) NtRefusal → Option NtRefusal
refusal_in (Ok u) = None
refusal_in (Err e) = Some e

-- of a call that doesn't keep its refusal yet
abbrev pub HasReadOr : Result (Unit {0}) NtRefusal → Progress → List ℕ → Type 0
HasReadOr result r bytes = HasReadBy (refusal_in result) r bytes
