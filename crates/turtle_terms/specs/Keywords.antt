-- The keywords of Turtle: RDF 1.1 Turtle, section 6.5, rules [5], [5s], [6s], [4], [9] and [133s].
use Rattle.std.specs.Prelude.{ℕ, cond, List, Option, Some, None, codes}
use Rattle.std.specs.Str.{bytes_eq, str_eq_ignore_ascii_case}
use Rattle.turtle_tokens.specs.declared.kinds.TokenKind.{TokenKind}
use Rattle.turtle_tokens.specs.declared.kinds.TokenKind.TheVariants as kind
use Rattle.turtle_terms.specs.declared.keywords.Keyword.{Keyword}
use Rattle.turtle_terms.specs.declared.keywords.Keyword.TheVariants.{A, True, False, Prefix, Base}
use Rattle.turtle_terms.specs.declared.keywords.Keyword.TheVariants.{SparqlPrefix, SparqlBase}

-- of a token in the form of a language tag, exactly
unfoldable pub tag_keyword : List ℕ → Option Keyword
tag_keyword bytes =
    cond (bytes_eq bytes (codes "@prefix")) (Some Prefix) (cond (bytes_eq bytes (codes "@base")) (Some Base) None)

-- of a word: PREFIX and BASE in any case, the others exactly
unfoldable pub word_keyword : List ℕ → Option Keyword
word_keyword bytes =
    cond (bytes_eq bytes (codes "a")) (Some A) (
    cond (bytes_eq bytes (codes "true")) (Some True) (
    cond (bytes_eq bytes (codes "false")) (Some False) (
    cond (str_eq_ignore_ascii_case bytes (codes "PREFIX")) (Some SparqlPrefix) (
    cond (str_eq_ignore_ascii_case bytes (codes "BASE")) (Some SparqlBase) None))))

abbrev pub keyword_of : TokenKind → List ℕ → Option Keyword
keyword_of kind.LangTag bytes = tag_keyword bytes
keyword_of kind.Word bytes = word_keyword bytes
keyword_of k bytes = None
