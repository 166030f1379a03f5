use Rattle.std.proofs.Common.{List, ℕ}
use Rattle.std.specs.Str.{chars}
use Rattle.rdf_grammar.specs.declared.dialect.Dialect.TheVariants.{Turtle}
use Rattle.rdf_grammar.specs.Productions.{blank_node_label}
use Rattle.turtle_statements.specs.Lexicon.{label_of}
use Rattle.turtle_statements.proofs.Leaves.{gives_by, finds_label}
use Rattle.turtle_statements.proofs.terms.read_label.Goals as goal

pub returns : goal.returns
returns c = gives_by (λ (t : List ℕ). t) c.parse_label.result (blank_node_label Turtle) label_of finds_label (chars c.args.token.now) c.parse_label.ensures.means
