use Rattle.std.proofs.Common.{◌≡◌, ◌+◌, false, take, get_or, length, sym, ◌∙◌}
use Rattle.std.proofs.lemmas.List.{take_more}
use Rattle.clause_store.specs.declared.lit.Lit.{Lit}
use Rattle.clause_store.proofs.Sets.{clause-push}
use Rattle.solver_cases.proofs.clauses.is_clause.Goals as goal

abbrev nobody : Lit
nobody = record { var = 0; positive = false }

pub loop-k-preserved : goal.loop-k-preserved
loop-k-preserved c =
    rw (take_more c.args.lits.now c.loop-k.k nobody c.loop-k-test.true)
    (clause-push (take c.loop-k.k c.args.lits.now) (get_or c.args.lits.now c.loop-k.k nobody) c.loop-k.invariant (sym c.has_var.ensures ∙ c.if-has_var.false))
