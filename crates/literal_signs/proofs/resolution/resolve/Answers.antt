use Rattle.std.proofs.Common.{rules}
use Rattle.clause_store.specs.Clauses.{has}
use Rattle.literal_signs.proofs.United.{resolved}
use Rattle.literal_signs.proofs.resolution.resolve.Goals as goal

pub returns-in-Some-clause-yes : goal.returns-in-Some-clause-yes
returns-in-Some-clause-yes c _ =
    (c.in-Some.v, c.in-Some.ensures.some, resolved c.args.signs.now c.unite.new.signs (has c.args.clause.now) c.in-Some.v c.in-Some.ensures.within (search rules) c.unite.ensures.united)
