use Rattle.std.proofs.Common.{◌≡◌, ℕ, ◌+◌, ◌<◌, get_or}
use Rattle.std.specs.declared.cmp.Ordering.TheVariants.{Less}
use Rattle.rdf_terms.specs.Statement.{Statement, statement_cmp}
use Rattle.rdf_terms.proofs.graph.do_rise.Given as goal

abbrev pub invariant-neighbours : goal.invariant-neighbours
invariant-neighbours l = (k : ℕ) (d : Statement) → k + 1 < l.i → statement_cmp (get_or l.triples k d) (get_or l.triples (k + 1) d) ≡ Less
