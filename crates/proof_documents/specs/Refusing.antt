-- What it says of a line that it was not taken. Private functions alone cite this module.
use Rattle.std.specs.Prelude.{ℕ, List}
use Rattle.rdf_grammar.specs.declared.parse_error.ParseError.{ParseError}
use Rattle.rdf_grammar.specs.declared.parse_error.ParseError.TheVariants.{OutOfMemory, NoMatch}
use Rattle.proof_documents.specs.declared.draft.Draft.{Draft}
use Rattle.proof_documents.specs.Stages.{Takes}

abbrev pub IsRefused : ParseError → Draft → List ℕ → Type 0
IsRefused OutOfMemory s text = Unit {0}
IsRefused NoMatch s text = (t : Draft) → ¬ (Takes s text t)
