-- The IRI that an IRIREF token stands for: RDF 1.1 Turtle, section 6.3.
use Rattle.std.specs.Prelude.{◌≡◌, ℕ, List, Option, Some, None, cond}
use Rattle.rdf_grammar.specs.Productions.{iriref}
use Rattle.rdf_grammar.specs.Reading.{has_scheme}
use Rattle.iri_references.specs.Resolution.{resolved}

-- the reference itself where it begins with a scheme, and else what it stands for under the base, where there is one.
-- `has_scheme` is true exactly where a text begins with a scheme
abbrev pub iri_under : Option (List ℕ) → List ℕ → Option (List ℕ)
iri_under (Some base) reference = Some (resolved base reference)
iri_under None reference = cond (has_scheme reference) (Some reference) None

-- the token spells a reference that stands for the IRI
pub record Refers (base : Option (List ℕ)) (text iri : List ℕ) : Type 0 where
  pub reference : List ℕ
  pub spelled : iriref text reference
  pub stands : iri_under base reference ≡ Some iri
