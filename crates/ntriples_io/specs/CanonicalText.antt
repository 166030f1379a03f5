-- The canonical text of terms, triples and graphs, as UTF-8 bytes (RDF 1.1 N-Triples 4, "A Canonical
-- form of N-Triples"): one space after subject, predicate and object, no other white space, no
-- comment, no `\u`, and in a string only the four escapes that the grammar asks for. Where the
-- Recommendation leaves a choice, this is the project's own: `xsd:string` is not written, lines stand
-- in the order of triples, and each ends with one LF.
use Rattle.std.specs.Prelude.{ℕ, List, [], ◌∷◌, ◌++◌, Option, None, Some, ◌==◌, if◌then◌else◌, codes, flat_map, nat_eq}
use Rattle.std.specs.Cmp.Lexicographic.{pointwise}
use Rattle.rdf_terms.specs.declared.term.Term.{Term}
use Rattle.rdf_terms.specs.declared.term.Term.TheVariants.{Iri, Blank, Literal}
use Rattle.rdf_terms.specs.Statement.{Statement}
use Rattle.rdf_terms.specs.Graph.{Graph, triples}
use Rattle.rdf_terms.specs.Vocab.Xsd.{string as xsd_string}

abbrev pub quote : ℕ
quote = 34

abbrev pub backslash : ℕ
backslash = 92

abbrev pub line_feed : ℕ
line_feed = 10

abbrev pub carriage_return : ℕ
carriage_return = 13

-- ECHAR (N-Triples 2.4), for the four characters that may not stand in a string as they are. They
-- are ASCII, so no byte of another character is one of them.
abbrev pub escaped : ℕ → List ℕ
escaped b =
    if b == quote then backslash ∷ quote ∷ [] else
    if b == backslash then backslash ∷ backslash ∷ [] else
    if b == line_feed then backslash ∷ codes "n" else
    if b == carriage_return then backslash ∷ codes "r" else
    b ∷ []

-- STRING_LITERAL_QUOTE
abbrev pub quoted : List ℕ → List ℕ
quoted text = (quote ∷ flat_map escaped text) ++ quote ∷ []

-- IRIREF
abbrev pub bracketed : List ℕ → List ℕ
bracketed iri = (codes "<" ++ iri) ++ codes ">"

-- what follows the string of a literal: LANGTAG, or '^^' and an IRIREF, or nothing
abbrev pub kind_text : List ℕ → Option (List ℕ) → List ℕ
kind_text datatype (Some tag) = codes "@" ++ tag
kind_text datatype None = if pointwise nat_eq datatype xsd_string then [] else codes "^^" ++ bracketed datatype

-- a term; of a blank node, BLANK_NODE_LABEL, in which its scope is not seen
abbrev pub term_text : Term → List ℕ
term_text (Iri iri) = bracketed iri
term_text (Blank scope label) = codes "_:" ++ label
term_text (Literal lexical datatype tag) = quoted lexical ++ kind_text datatype tag

-- a triple's line
abbrev pub line_text : Statement → List ℕ
line_text t =
    ((((term_text t.subject ++ codes " ") ++ term_text t.predicate) ++ codes " ") ++ term_text t.object)
    ++ codes " ." ++ line_feed ∷ []

-- the lines of a graph
abbrev pub graph_text : Graph → List ℕ
graph_text g = flat_map line_text (triples g)
