-- How a document and a refusal are written in the notes.
use Rattle.std.specs.Prelude.{ℕ, List, ◌++◌, codes, decimal}
use Rattle.document_input.specs.declared.role.Role.{Role}
use Rattle.document_input.specs.declared.role.Role.TheVariants.{Shapes, Data, Offered, Document}
use Rattle.document_input.specs.declared.refusal.GraphRefusal.{GraphRefusal}
use Rattle.document_input.specs.declared.refusal.GraphRefusal.TheVariants.{TooLong, Line, Statement, TooDeep}
use Rattle.document_input.specs.declared.refusal.GraphRefusal.TheVariants.{ReservedLabel}
use Rattle.document_input.specs.declared.refusal.DocumentRefusal.{DocumentRefusal}
use Rattle.document_input.specs.declared.refusal.DocumentRefusal.TheVariants.{TooLong as TooLongClaim}
use Rattle.document_input.specs.declared.refusal.DocumentRefusal.TheVariants.{Line as ClaimLine}
use Rattle.document_input.specs.declared.refusal.ShapesRefusal.{ShapesRefusal}
use Rattle.document_input.specs.declared.refusal.ShapesRefusal.TheVariants.{Unsupported, IllFormed, Recursive}
use Rattle.document_input.specs.declared.refusal.ShapesRefusal.TheVariants.{PathTooDeep, ShapeTooDeep}
use Rattle.document_input.specs.declared.refusal.ClaimRefusal.{ClaimRefusal}
use Rattle.document_input.specs.declared.refusal.ClaimRefusal.TheVariants.{NoPair, PairOutside}
use Rattle.document_input.specs.declared.refusal.InputRefusal.{InputRefusal}
use Rattle.document_input.specs.declared.refusal.InputRefusal.TheVariants.{Graph as OfGraph, Document as OfDocument}
use Rattle.document_input.specs.declared.refusal.InputRefusal.TheVariants.{Shapes as OfTheShapes, Claim as OfTheClaim}
use Rattle.document_input.specs.declared.refusal.InputRefusal.TheVariants.{Literal as OfALiteral}
use Rattle.ntriples_io.specs.CanonicalText.{term_text}

abbrev pub role_text : Role → List ℕ
role_text Shapes = codes "SHAPES"
role_text Data = codes "DATA"
role_text Offered = codes "OFFERED"
role_text Document = codes "DOCUMENT"

abbrev pub graph_text : GraphRefusal → List ℕ
graph_text TooLong = codes "too long"
graph_text (Line number) = codes "line " ++ decimal number
graph_text (Statement at) = codes "statement at " ++ decimal at
graph_text (TooDeep at) = codes "too deep at " ++ decimal at
graph_text (ReservedLabel at) = codes "reserved label at " ++ decimal at

abbrev pub document_text : DocumentRefusal → List ℕ
document_text TooLongClaim = codes "too long"
document_text (ClaimLine number) = codes "line " ++ decimal number

abbrev pub shapes_text : ShapesRefusal → List ℕ
shapes_text (Unsupported predicate) = codes "unsupported " ++ term_text predicate
shapes_text (IllFormed node rule) = codes "ill formed " ++ term_text node ++ codes " rule " ++ decimal rule
shapes_text (Recursive shape) = codes "recursive " ++ term_text shape
shapes_text (PathTooDeep node) = codes "path too deep " ++ term_text node
shapes_text (ShapeTooDeep shape) = codes "shape too deep " ++ term_text shape

abbrev pub claim_text : ClaimRefusal → List ℕ
claim_text NoPair = codes "no pair"
claim_text (PairOutside number) = codes "pair outside line " ++ decimal number

-- the role of a document, and the reason
abbrev pub blame_text : Role → List ℕ → List ℕ
blame_text role reason = role_text role ++ codes ": " ++ reason

abbrev pub refusal_text : InputRefusal → List ℕ
refusal_text (OfGraph role refusal) = blame_text role (graph_text refusal)
refusal_text (OfDocument refusal) = blame_text Document (document_text refusal)
refusal_text (OfTheShapes refusal) = blame_text Shapes (shapes_text refusal)
refusal_text (OfTheClaim refusal) = blame_text Document (claim_text refusal)
refusal_text (OfALiteral literal) = blame_text Data (codes "literal " ++ term_text literal)
