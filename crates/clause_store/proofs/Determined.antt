-- What a chain of resolutions comes to is determined by its ids.
use Rattle.std.proofs.Common.{◌≡◌, ℕ, zero, suc, List, [], ◌∷◌, take, slice_get, Some, None, sym, ap, ◌∙◌, subst, arith}
use Rattle.clause_store.specs.declared.lit.Lit.{Lit}
use Rattle.clause_store.specs.Clauses.{has}
use Rattle.clause_store.specs.Chained.{LitSet, ClashesOnce, union, without, ResolvesTo, IsChained}
use Rattle.clause_store.proofs.Sets.{some_same, none_some}

-- the variable that clashes is determined
one_variable : (a b : LitSet) (v w : ℕ) → ClashesOnce a b v → ClashesOnce a b w → v ≡ w
one_variable a b v w p q = sym p.0.1 ∙ q.1 p.0.0 p.0.2

-- the rest of a chain, at the clause and the variable of another
moved : (cs : List (List Lit)) (ids : List ℕ) (a c : LitSet) (b b' : List Lit) (v v' : ℕ) → b' ≡ b → ClashesOnce a (has b) v → ClashesOnce a (has b') v' → ResolvesTo cs (without (union a (has b')) v') ids c → ResolvesTo cs (without (union a (has b)) v) ids c
moved cs ids a c b b' v v' e p q h =
    let w : v' ≡ v = one_variable a (has b) v' v (subst (λ x. ClashesOnce a (has x) v') e q) p in
    subst (λ x. ResolvesTo cs (without (union a (has b)) x) ids c) w (subst (λ x. ResolvesTo cs (without (union a (has x)) v') ids c) e h)

pub resolves_same : (cs : List (List Lit)) (ids : List ℕ) (a c d : LitSet) → ResolvesTo cs a ids c → ResolvesTo cs a ids d → c ≡ d
resolves_same cs [] a c d h k = sym h ∙ k
resolves_same cs (i ∷ ids) a c d h k =
    resolves_same cs ids (without (union a (has h.0)) h.1) c d h.4 (moved cs ids a d h.0 k.0 h.1 k.1 (some_same (sym k.2 ∙ h.2)) h.3 k.3 k.4)

pub resolves_known : (cs : List (List Lit)) (ids : List ℕ) (a c : LitSet) (k i : ℕ) → ResolvesTo cs a ids c → slice_get ids k ≡ Some i → slice_get cs i ≡ None → ⊥
resolves_known cs [] a c k i h get gone = none_some get
resolves_known cs (j ∷ ids) a c zero i h get gone = none_some (sym gone ∙ ap (slice_get cs) (sym (some_same get)) ∙ h.2)
resolves_known cs (j ∷ ids) a c (suc k) i h get gone = resolves_known cs ids (without (union a (has h.0)) h.1) c k i h.4 get gone

pub resolves_single : (cs : List (List Lit)) (ids : List ℕ) (a c d : LitSet) (k i : ℕ) (b : List Lit) → ResolvesTo cs a ids c → slice_get ids k ≡ Some i → slice_get cs i ≡ Some b → ResolvesTo cs a (take k ids) d → (v : ℕ) × ClashesOnce d (has b) v
resolves_single cs [] a c d k i b h get at p = absurd (none_some get)
resolves_single cs (j ∷ ids) a c d zero i b h get at p =
    let e : h.0 ≡ b = some_same (sym h.2 ∙ ap (slice_get cs) (some_same get) ∙ at) in
    (h.1, subst (λ x. ClashesOnce d (has x) h.1) e (subst (λ x. ClashesOnce x (has h.0) h.1) p h.3))
resolves_single cs (j ∷ ids) a c d (suc k) i b h get at p =
    resolves_single cs ids (without (union a (has h.0)) h.1) c d k i b h.4 get at (moved cs (take k ids) a d h.0 p.0 h.1 p.1 (some_same (sym p.2 ∙ h.2)) h.3 p.3 p.4)

pub chained_same : (cs : List (List Lit)) (ids : List ℕ) (c d : List Lit) → IsChained cs ids c → IsChained cs ids d → has c ≡ has d
chained_same cs [] c d h k = absurd (omega (arith, h.0))
chained_same cs (i ∷ ids) c d h k =
    resolves_same cs ids (has h.1.0) (has c) (has d) h.1.2 (subst (λ x. ResolvesTo cs (has x) ids (has d)) (some_same (sym k.1.1 ∙ h.1.1)) k.1.2)
