use Rattle.std.proofs.Common.{◌≡◌, ℕ, List, length, rules}
use Rattle.turtle_statements.specs.Answers.{tokens_of}
use Rattle.turtle_statements.specs.Names.{names_of}
use Rattle.turtle_statements.proofs.CodeLaws.{front_read, front_left, front_missed, no_tokens, some_tokens}
use Rattle.turtle_statements.proofs.statement.read_statement.Goals as goal

pub returns-in_err-rest-clause-means : goal.returns-in_err-rest-clause-means
returns-in_err-rest-clause-means c =
    let m = front_missed (names_of c.args.context.now) c.args.out.now (tokens_of c.args.tokens.now) c.in_err-rest.field-0.0 c.in_err-rest.ensures.reads in
    search rules

pub returns-then-is_empty-clause-means : goal.returns-then-is_empty-clause-means
returns-then-is_empty-clause-means c =
    let z : length c.in_ok-rest.rest.now ≡ 0 = search rules in
    front_read (names_of c.args.context.now) c.args.out.now (tokens_of c.args.tokens.now) (names_of c.read_front.new.context, c.read_front.new.out) (tokens_of c.in_ok-rest.rest.now) c.in_ok-rest.ensures.reads (no_tokens c.in_ok-rest.rest.now z)

pub returns-else-is_empty-clause-means : goal.returns-else-is_empty-clause-means
returns-else-is_empty-clause-means c =
    let n : length c.in_ok-rest.rest.now ≡ 0 → ⊥ = search rules in
    front_left (names_of c.args.context.now) c.args.out.now (tokens_of c.args.tokens.now) (names_of c.read_front.new.context, c.read_front.new.out) (tokens_of c.in_ok-rest.rest.now) c.in_ok-rest.ensures.reads (some_tokens c.in_ok-rest.rest.now n)
