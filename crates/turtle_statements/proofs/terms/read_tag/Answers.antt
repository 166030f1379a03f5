use Rattle.std.proofs.Common.{List, ℕ}
use Rattle.std.specs.Str.{chars}
use Rattle.rdf_grammar.specs.Productions.{langtag}
use Rattle.turtle_statements.specs.Lexicon.{tag_of}
use Rattle.turtle_statements.proofs.Leaves.{gives_by, finds_tag}
use Rattle.turtle_statements.proofs.terms.read_tag.Goals as goal

pub returns : goal.returns
returns c = gives_by (λ (t : List ℕ). t) c.parse_tag.result (langtag) tag_of finds_tag (chars c.args.token.now) c.parse_tag.ensures.means
