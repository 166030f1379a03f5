use Rattle.std.proofs.Common.{List, ℕ}
use Rattle.std.specs.Str.{chars}
use Rattle.turtle_terms.specs.Strings.{string}
use Rattle.turtle_statements.specs.Lexicon.{string_of}
use Rattle.turtle_statements.proofs.Leaves.{gives_by, finds_string}
use Rattle.turtle_statements.proofs.terms.read_string.Goals as goal

pub returns : goal.returns
returns c = gives_by (λ (t : List ℕ). t) c.parse_string.result (string) string_of finds_string (chars c.args.token.now) c.parse_string.ensures.means
