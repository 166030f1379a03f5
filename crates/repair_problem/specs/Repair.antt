-- Pairs of additions and deletions, and which of them explain why data does not conform. After
-- Ahmetaj et al., Reasoning about Explanations for Non-Validation in SHACL, KR 2021. That focus
-- nodes are sought in the edited graph, and that pairs are compared componentwise, is this
-- project's choice.
use Rattle.std.specs.Prelude.{◌≡◌, IsTrue, false}
use Rattle.rdf_terms.specs.Statement.{Statement}
use Rattle.rdf_terms.specs.Graph.{Graph, has, edited}

-- each triple of a is in b
abbrev pub Within : Graph → Graph → Type 0
Within a b = (t : Statement) → IsTrue (has a t) → IsTrue (has b t)

-- no triple of b is in a
abbrev pub Apart : Graph → Graph → Type 0
Apart a b = (t : Statement) → IsTrue (has b t) → has a t ≡ false

-- the additions are among the offers h, the deletions among the data g, and the edited graph
-- conforms; Conforming says which graphs do
pub record Explains (Conforming : Graph → Type 0) (g h adds deletes : Graph) : Type 0 where
  pub added : Within adds h
  pub deleted : Within deletes g
  pub conforms : Conforming (edited g adds deletes)

-- the first pair is within the second one, and they are not the same
pub record Below (less_adds less_deletes adds deletes : Graph) : Type 0 where
  pub added : Within less_adds adds
  pub deleted : Within less_deletes deletes
  pub differs : ¬ ((less_adds ≡ adds) × (less_deletes ≡ deletes))

-- the pair explains, and no pair below it does
pub record Minimal (Conforming : Graph → Type 0) (g h adds deletes : Graph) : Type 0 where
  pub explains : Explains Conforming g h adds deletes
  pub least : (less_adds less_deletes : Graph) → Below less_adds less_deletes adds deletes
      → ¬ (Explains Conforming g h less_adds less_deletes)

-- no pair explains
abbrev pub NoneExplains : (Graph → Type 0) → Graph → Graph → Type 0
NoneExplains Conforming g h = (adds deletes : Graph) → ¬ (Explains Conforming g h adds deletes)
