use Rattle.std.proofs.Common.{rules, ◌≡◌, ◌++◌, ◌∷◌, [], ◌+◌, subst, sym}
use Rattle.digraph.specs.Settling.{Covers}
use Rattle.digraph.proofs.Settled.{Covers-push}
use Rattle.digraph.proofs.components.push_all.Goals as goal

pub pushing-preserved : goal.pushing-preserved
pushing-preserved c =
    let e : c.push.new.self.items ≡ c.pushing.order.items ++ c.pushing.x ∷ [] = search rules in
    subst (λ t. Covers t (c.pushing.x + 1)) (sym e) (Covers-push c.pushing.order.items c.pushing.x c.pushing.invariant)
