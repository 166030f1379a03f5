use Rattle.std.proofs.Common.{List, ℕ, sym, subst, rules}
use Rattle.ntriples_io.specs.RoundTrip.{IsLineOf}
use Rattle.ntriples_io.proofs.RoundTrip.{line_of_triple}
use Rattle.ntriples_io.proofs.writing.write_triple.Goals as goal

pub returns-clause-read_back : goal.returns-clause-read_back
returns-clause-read_back c = λ scope lawful in_scope.
    subst (λ (text : List ℕ). IsLineOf scope text c.args.triple.now) (sym (search rules))
    (line_of_triple scope c.args.triple.now c.in_ok-push_line.ensures.triple lawful in_scope)
