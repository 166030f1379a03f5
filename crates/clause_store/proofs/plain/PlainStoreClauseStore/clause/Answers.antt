use Rattle.std.proofs.Common.{◌≡◌, ◌<◌, ℕ, zero, suc, Vec, List, [], ◌∷◌, Some, slice_get, get_or, length, arith, refl}
use Rattle.std.proofs.lemmas.Grind.{common_steps}
use Rattle.std.specs.declared.alloc.Global.{Global}
use Rattle.clause_store.specs.declared.lit.Lit.{Lit}
use Rattle.clause_store.specs.Lists.{lists}
use Rattle.clause_store.specs.Stored.{stored}
use Rattle.clause_store.proofs.Sets.{clause_at}
use Rattle.clause_store.proofs.plain.PlainStoreClauseStore.clause.Goals as goal

stored_at : (vs : List (Vec Lit Global)) (i : ℕ) (d : Vec Lit Global) → i < length vs → slice_get (lists vs) i ≡ Some (get_or vs i d).items
stored_at [] i d lt = absurd (omega arith)
stored_at (v ∷ vs) zero d lt = refl
stored_at (v ∷ vs) (suc i) d lt = stored_at vs i d (omega arith)

pub returns-clause-once : goal.returns-clause-once
returns-clause-once c =
    let lt : c.args.i < length c.args.self.now.clauses.items = grind (arith, common_steps) in
    let h = stored_at c.args.self.now.clauses.items c.args.i c.index.result.now lt in
    let here : slice_get (stored c.args.self.now) c.args.i ≡ Some c.as_slice.result.now = grind (arith, common_steps, h) in
    clause_at (stored c.args.self.now) c.args.i c.as_slice.result.now c.args.self.now.once here
