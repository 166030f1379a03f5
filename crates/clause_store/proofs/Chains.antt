-- Chains of resolutions that grow at their end.
use Rattle.std.proofs.Common.{◌≡◌, ℕ, zero, suc, ◌+◌, ◌<◌, List, [], ◌∷◌, ◌++◌, length, take, get_or, slice_get, Some, sym, ap, subst, arith}
use Rattle.std.proofs.lemmas.List.{take_more}
use Rattle.clause_store.specs.declared.lit.Lit.{Lit}
use Rattle.clause_store.specs.Clauses.{has}
use Rattle.clause_store.specs.Chained.{LitSet, ClashesOnce, union, without, ResolvesTo, Derives}

pub resolves-more : (cs : List (List Lit)) (ids : List ℕ) (a c : LitSet) (j : ℕ) (b : List Lit) (v : ℕ) → ResolvesTo cs a ids c → slice_get cs j ≡ Some b → ClashesOnce c (has b) v → ResolvesTo cs a (ids ++ j ∷ []) (without (union c (has b)) v)
resolves-more cs [] a c j b v e get once = (b, v, get, subst (λ x. ClashesOnce x (has b) v) (sym e) once, ap (λ x. without (union x (has b)) v) e)
resolves-more cs (i ∷ ids) a c j b v h get once = (h.0, h.1, h.2, h.3, resolves-more cs ids (without (union a (has h.0)) h.1) c j b v h.4 get once)

pub derives-more : (cs : List (List Lit)) (ids : List ℕ) (k : ℕ) (c : LitSet) (b : List Lit) (v : ℕ) → 0 < k → k < length ids → Derives cs (take k ids) c → slice_get cs (get_or ids k 0) ≡ Some b → ClashesOnce c (has b) v
    → Derives cs (take (k + 1) ids) (without (union c (has b)) v)
derives-more cs [] k c b v pos lt h get once = absurd (omega arith)
derives-more cs (i ∷ ids) zero c b v pos lt h get once = absurd (omega arith)
derives-more cs (i ∷ ids) (suc k) c b v pos lt h get once =
    let e : suc k + 1 ≡ suc (k + 1) = omega arith in
    rw (e, take_more ids k 0 (omega arith)) (h.0, h.1, resolves-more cs (take k ids) (has h.0) c (get_or ids k 0) b v h.2 get once)

pub derives-one : (cs : List (List Lit)) (ids : List ℕ) (b : List Lit) (c : LitSet) → 0 < length ids → slice_get cs (get_or ids 0 0) ≡ Some b → has b ≡ c → Derives cs (take 1 ids) c
derives-one cs [] b c lt get e = absurd (omega arith)
derives-one cs (i ∷ ids) b c lt get e = (b, get, e)
