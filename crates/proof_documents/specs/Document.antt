-- A document: a claim, the triples of a claimed pair, and the proof. The format is the project's own.
use Rattle.std.specs.Prelude.{◌≡◌, ℕ, ◌<◌, ◌≤◌, ◌^◌, IsTrue, Bool, true, ◌&&◌, List, [], ◌∷◌, length, ltb}
use Rattle.std.specs.List.{All}
use Rattle.rdf_terms.specs.declared.term.Scope.TheVariants.{Data}
use Rattle.rdf_terms.specs.Statement.{Statement}
use Rattle.rdf_terms.specs.Graph.{is_rising}
use Rattle.ntriples_io.specs.CanonicalText.{line_text}
use Rattle.ntriples_io.specs.RoundTrip.{IsLineOf}
use Rattle.proof_lines.specs.declared.proof.Claim.{Claim}
use Rattle.proof_lines.specs.declared.proof.Claim.TheVariants.{Pair, NoPair, Spent}
use Rattle.proof_lines.specs.declared.proof.Proof.{Proof}
use Rattle.proof_lines.specs.declared.proof.ProofLine.{ProofLine}
use Rattle.proof_lines.specs.declared.proof.ProofLine.TheVariants.{Chain, Rule, Step}

pub record Document : Type 0 where
  pub adds : List Statement
  pub deletes : List Statement
  pub proof : Proof

-- only a claimed pair has triples
abbrev pub HasTriplesFor : Claim → List Statement → List Statement → Type 0
HasTriplesFor Pair adds deletes = Unit {0}
HasTriplesFor NoPair adds deletes = (adds ≡ []) × (deletes ≡ [])
HasTriplesFor Spent adds deletes = (adds ≡ []) × (deletes ≡ [])

-- the canonical line of the triple is a line of N-Triples that means it, its blank nodes those of the data
abbrev pub IsSpelled : Statement → Type 0
IsSpelled t = IsLineOf Data (line_text t) t

-- each number is below the next
abbrev pub ascends : List ℕ → Bool
ascends [] = true
ascends (n ∷ []) = true
ascends (n ∷ m ∷ ns) = ltb n m && ascends (m ∷ ns)

-- numbers of at most 64 bits
abbrev pub AreShort : List ℕ → Type 0
AreShort ns = All (λ n. n < 2 ^ 64) ns

-- the places of a chain line ascend, and a step has at least two ids
abbrev pub IsLawfulLine : ProofLine → Type 0
IsLawfulLine (Chain places) = AreShort places × IsTrue (ascends places)
IsLawfulLine (Rule rule) = AreShort rule.numbers
IsLawfulLine (Step ids) = AreShort ids × (2 ≤ length ids)

-- a document that can be written: each kind of triples in the order of triples, each once
pub record IsWellFormed (d : Document) : Type 0 where
  pub claimed : HasTriplesFor d.proof.claim d.adds d.deletes
  pub adds_rise : IsTrue (is_rising d.adds)
  pub deletes_rise : IsTrue (is_rising d.deletes)
  pub adds_spelled : All IsSpelled d.adds
  pub deletes_spelled : All IsSpelled d.deletes
  pub lines_lawful : All IsLawfulLine d.proof.lines
