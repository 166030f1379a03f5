use Rattle.std.proofs.Common.{◌≡◌, List, ℕ, Option, sym, subst}
use Rattle.std.specs.Str.{chars}
use Rattle.rdf_grammar.specs.Answers.{GivesAll}
use Rattle.turtle_statements.specs.Names.{names_of}
use Rattle.turtle_statements.proofs.Leaves.{name_gives, no_name}
use Rattle.turtle_statements.proofs.terms.read_name.Goals as goal

pub returns-in-Some : goal.returns-in-Some
returns-in-Some c =
    subst (λ (r : Option (List ℕ)). GivesAll (λ (t : List ℕ). t) c.read_parts.result r)
    (sym (name_gives (names_of c.args.context.now) (chars c.args.name.now) (chars c.in-Some.parts.prefix.now) (chars c.in-Some.parts.local.now) c.in-Some.ensures.cut)) c.read_parts.ensures

pub returns-in-None : goal.returns-in-None
returns-in-None c = no_name (names_of c.args.context.now) (chars c.args.name.now) c.in-None.ensures.cut
