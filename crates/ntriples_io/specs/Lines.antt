-- Which bytes are a line of N-Triples, and what it means.
use Rattle.std.specs.Prelude.{◌≡◌, ℕ, true, List, Option, encode_utf8_all}
use Rattle.std.specs.Str.{all_scalars}
use Rattle.rdf_terms.specs.declared.term.Scope.{Scope}
use Rattle.rdf_terms.specs.Statement.{Statement}
use Rattle.ntriples_io.specs.NTriples.{line}

-- the bytes are the UTF-8 of a line, whose blank nodes have this scope
pub record IsLine (scope : Scope) (bytes : List ℕ) (v : Option Statement) : Type 0 where
  pub characters : List ℕ
  pub are_scalars : all_scalars characters ≡ true
  pub spell : encode_utf8_all characters ≡ bytes
  pub spelled : line scope characters v
