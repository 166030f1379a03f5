use Rattle.std.proofs.Common.{List, ℕ}
use Rattle.std.specs.Option.{option_copied}
use Rattle.std.specs.Str.{chars}
use Rattle.turtle_statements.specs.Names.{names_of}
use Rattle.turtle_statements.proofs.Leaves.{base_lawful, reference_gives}
use Rattle.turtle_statements.proofs.terms.read_reference.Goals as goal

pub parse_iri-requires : goal.parse_iri-requires
parse_iri-requires c = base_lawful c.as_ref.result c.args.context.now.base c.as_ref.ensures.value c.requires.base

pub returns-clause-gives : goal.returns-clause-gives
returns-clause-gives c = reference_gives (names_of c.args.context.now) (option_copied c.as_ref.result) c.parse_iri.result (chars c.args.token.now) c.as_ref.ensures.value c.parse_iri.ensures.means
