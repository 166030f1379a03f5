-- What the functions say that take lines of some kinds. Private functions alone cite this module.
use Rattle.std.specs.Prelude.{◌≡◌, Result, Ok, Err}
use Rattle.rdf_grammar.specs.declared.parse_error.ParseError.{ParseError}
use Rattle.rdf_grammar.specs.declared.parse_error.ParseError.TheVariants.{OutOfMemory, NoMatch}
use Rattle.proof_documents.specs.declared.draft.Draft.{Draft}

-- The line was taken, and Takes says what was read with it. Or it is of none of these kinds, and what was
-- read is as before.
abbrev pub Took : Result (Unit {0}) ParseError → (Draft → Type 0) → Draft → Draft → Type 0
Took (Ok u) Takes old new = Takes new
Took (Err NoMatch) Takes old new = ((t : Draft) → ¬ (Takes t)) × (new ≡ old)
Took (Err OutOfMemory) Takes old new = Unit {0}
