use Rattle.std.proofs.Common.{◌≡◌, take}
use Rattle.literal_signs.specs.Marked.{lits_at}
use Rattle.literal_signs.proofs.touched.list_lits.Given as goal

abbrev pub invariant-loop-id : goal.invariant-loop-id
invariant-loop-id g l = l.lits.items ≡ lits_at (g.S.ClauseStore.clauses l.store) (take l.id-index l.ids)
