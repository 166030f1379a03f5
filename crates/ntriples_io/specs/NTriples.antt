-- The grammar of a line, over code points. The names and numbers of the productions are those of RDF 1.1
-- N-Triples, section 7. Here an IRI is absolute, as section 2.2 asks, and no literal with a datatype is an
-- rdf:langString, which has a tag (RDF 1.1 Concepts, section 3.3).
use Rattle.std.specs.Prelude.{ℕ, ◌==◌, Bool, not, ◌||◌, List, Option, Some, None, codes}
use Rattle.std.specs.Str.{bytes_eq}
use Rattle.grammar_forms.specs.Forms.{Form, One, terminal, many, optional, Made, Such, silent, ◌⨾◌, ◌▹◌, ◌◃◌, ◌∣◌}
use Rattle.rdf_terms.specs.declared.term.Scope.{Scope}
use Rattle.rdf_terms.specs.declared.term.Term.{Term}
use Rattle.rdf_terms.specs.declared.term.Term.TheVariants.{Iri, Blank, Literal}
use Rattle.rdf_terms.specs.Statement.{Statement}
use Rattle.rdf_grammar.specs.declared.dialect.Dialect.TheVariants.{NTriples}
use Rattle.rdf_grammar.specs.Productions.{absolute_iri, string, blank_node_label, langtag}
use Rattle.rdf_terms.specs.Vocab.Rdf.{lang_string}
use Rattle.rdf_terms.specs.Vocab.Xsd.{string as xsd_string}

-- spaces and tabs, between the parts of a line
abbrev pub is_space : ℕ → Bool
is_space c = (c == 32) || (c == 9)

abbrev pub ws : Form ℕ (Unit {0})
ws = silent (many (One is_space))

-- comment ::= '#' [^#xA#xD]*, as section 2.1 has it
abbrev pub is_in_line : ℕ → Bool
is_in_line c = not ((c == 10) || (c == 13))

abbrev pub comment : Form ℕ (Unit {0})
comment = terminal (codes "#") ▹ silent (many (One is_in_line))

-- [3] subject ::= IRIREF | BLANK_NODE_LABEL
abbrev pub iri : Form ℕ Term
iri = Made Iri absolute_iri

abbrev pub blank : Scope → Form ℕ Term
blank scope = Made (Blank scope) (blank_node_label NTriples)

abbrev pub subject : Scope → Form ℕ Term
subject scope = iri ∣ blank scope

-- [6] literal ::= STRING_LITERAL_QUOTE ('^^' IRIREF | LANGTAG)?. It means a datatype and a tag
abbrev pub of_tag : List ℕ → List ℕ × Option (List ℕ)
of_tag tag = (lang_string, Some tag)

abbrev pub of_datatype : List ℕ → List ℕ × Option (List ℕ)
of_datatype datatype = (datatype, None)

abbrev pub is_not_lang_string : List ℕ → Bool
is_not_lang_string iri = not (bytes_eq iri lang_string)

abbrev pub datatype : Form ℕ (List ℕ)
datatype = Such is_not_lang_string absolute_iri

abbrev pub kind : Form ℕ (List ℕ × Option (List ℕ))
kind = Made of_tag langtag ∣ Made of_datatype (terminal (codes "^^") ▹ ws ▹ datatype)

abbrev pub kind_of : Option (List ℕ × Option (List ℕ)) → List ℕ × Option (List ℕ)
kind_of None = (xsd_string, None)
kind_of (Some k) = k

abbrev pub literal_of : List ℕ × (List ℕ × Option (List ℕ)) → Term
literal_of v = Literal v.0 v.1.0 v.1.1

abbrev pub literal : Form ℕ Term
literal = Made literal_of (string ⨾ Made kind_of (optional (ws ▹ kind)))

-- [5] object ::= IRIREF | BLANK_NODE_LABEL | literal
abbrev pub object : Scope → Form ℕ Term
object scope = iri ∣ blank scope ∣ literal

-- [2] triple ::= subject predicate object '.'
abbrev pub statement_of : Term × (Term × Term) → Statement
statement_of v = record { subject = v.0; predicate = v.1.0; object = v.1.1 }

abbrev pub triple : Scope → Form ℕ Statement
triple scope = Made statement_of (subject scope ⨾ ws ▹ iri ⨾ ws ▹ object scope ◃ ws ▹ terminal (codes ".") ◃ ws)

-- [1] a line of ntriplesDoc, which means a triple or nothing
abbrev pub line : Scope → Form ℕ (Option Statement)
line scope = ws ▹ optional (triple scope) ◃ optional comment
