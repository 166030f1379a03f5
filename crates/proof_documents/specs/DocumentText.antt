-- The text of a document, as UTF-8. A document has one text.
use Rattle.std.specs.Prelude.{ℕ, List, [], ◌∷◌, ◌++◌, codes, decimal, flat_map}
use Rattle.rdf_terms.specs.Statement.{Statement}
use Rattle.ntriples_io.specs.CanonicalText.{line_text}
use Rattle.proof_lines.specs.declared.proof.Claim.{Claim}
use Rattle.proof_lines.specs.declared.proof.Claim.TheVariants.{Pair, NoPair, Spent}
use Rattle.proof_lines.specs.declared.proof.ProofLine.{ProofLine}
use Rattle.proof_lines.specs.declared.proof.ProofLine.TheVariants.{Chain, Rule, Step}
use Rattle.proof_lines.specs.declared.rule.RuleName.{RuleName}
use Rattle.proof_lines.specs.declared.rule.RuleName.TheVariants.{Reach, Level, Middle, Good, Marked, Count, Differ, Twin, Holds, Conforms, Target, Root, Outside, Undo}
use Rattle.proof_documents.specs.Document.{Document}

-- a text as a line, which ends with LF
abbrev pub line : List ℕ → List ℕ
line text = text ++ 10 ∷ []

abbrev pub version_text : List ℕ
version_text = codes "explanation 1"

abbrev pub claim_text : Claim → List ℕ
claim_text Pair = codes "claim pair"
claim_text NoPair = codes "claim none"
claim_text Spent = codes "claim spent"

-- the prefix of an addition and that of a deletion, before the canonical line of the triple
abbrev pub add_prefix : List ℕ
add_prefix = codes "add "

abbrev pub delete_prefix : List ℕ
delete_prefix = codes "delete "

-- the canonical line of each triple, with the prefix before it
abbrev pub lines_with : List ℕ → List Statement → List ℕ
lines_with prefix statements = flat_map (λ t. prefix ++ line_text t) statements

abbrev pub rule_text : RuleName → List ℕ
rule_text Reach = codes "reach"
rule_text Level = codes "level"
rule_text Middle = codes "middle"
rule_text Good = codes "good"
rule_text Marked = codes "marked"
rule_text Count = codes "count"
rule_text Differ = codes "differ"
rule_text Twin = codes "twin"
rule_text Holds = codes "holds"
rule_text Conforms = codes "conforms"
rule_text Target = codes "target"
rule_text Root = codes "root"
rule_text Outside = codes "outside"
rule_text Undo = codes "undo"

-- a space before each number, which has neither sign nor leading zero
abbrev pub numbers_text : List ℕ → List ℕ
numbers_text numbers = flat_map (λ n. codes " " ++ decimal n) numbers

abbrev pub proof_line_text : ProofLine → List ℕ
proof_line_text (Chain places) = codes "chain" ++ numbers_text places
proof_line_text (Rule rule) = (codes "rule " ++ rule_text rule.name) ++ numbers_text rule.numbers
proof_line_text (Step ids) = codes "step" ++ numbers_text ids

abbrev pub end_text : List ℕ
end_text = codes "end"

abbrev pub document_text : Document → List ℕ
document_text d =
    line version_text ++ line (claim_text d.proof.claim) ++ lines_with add_prefix d.adds
    ++ lines_with delete_prefix d.deletes
    ++ flat_map (λ l. line (proof_line_text l)) d.proof.lines ++ line end_text
