-- A refusal names what fails first, and then the ids are chained to no clause.
use Rattle.std.proofs.Common.{◌≡◌, ℕ, zero, suc, ◌<◌, ◌≤◌, List, [], ◌∷◌, length, take, get_or, slice_get, Some, sym, ap, ◌∙◌, subst, arith}
use Rattle.std.proofs.lemmas.Option.{slice_get-get_or, slice_get_past}
use Rattle.clause_store.specs.declared.lit.Lit.{Lit}
use Rattle.clause_store.specs.Clauses.{has}
use Rattle.clause_store.specs.Chained.{LitSet, ClashesOnce, ResolvesTo, Derives, IsChained}
use Rattle.clause_store.proofs.Sets.{some_same, none_some}
use Rattle.clause_store.proofs.Determined.{resolves_known, resolves_single}
use Rattle.refute_check.specs.Refusals.{IsUnknownAt, HasNoSingleClashAt, IsChainedToNone}

pub unknown_excludes : (cs : List (List Lit)) (ids : List ℕ) (k : ℕ) (c : List Lit) → IsUnknownAt cs ids k → IsChained cs ids c → ⊥
unknown_excludes cs [] k c u h = none_some u.2
unknown_excludes cs (i ∷ ids) zero c u h = none_some (sym u.3 ∙ ap (slice_get cs) (sym (some_same u.2)) ∙ h.1.1)
unknown_excludes cs (i ∷ ids) (suc k) c u h = resolves_known cs ids (has h.1.0) (has c) k u.0 h.1.2 u.2 u.3

pub no_single_excludes : (cs : List (List Lit)) (ids : List ℕ) (k : ℕ) (c : List Lit) → HasNoSingleClashAt cs ids k → IsChained cs ids c → ⊥
no_single_excludes cs [] k c u h = none_some u.4
no_single_excludes cs (i ∷ ids) zero c u h = let pos = u.3 in absurd (omega (arith, pos))
no_single_excludes cs (i ∷ ids) (suc k) c u h =
    u.7 (resolves_single cs ids (has h.1.0) (has c) u.1 k u.0 u.2 h.1.2 u.4 u.5 (subst (λ x. ResolvesTo cs (has x) (take k ids) u.1) (some_same (sym u.6.1 ∙ h.1.1)) u.6.2))

pub unknown_at : (cs : List (List Lit)) (ids : List ℕ) (k : ℕ) (c : LitSet) → k < length ids → length cs ≤ get_or ids k 0 → Derives cs (take k ids) c → IsUnknownAt cs ids k × IsChainedToNone cs ids
unknown_at cs ids k c lt le h =
    let u : IsUnknownAt cs ids k = (get_or ids k 0, c, slice_get-get_or ids k 0 lt, slice_get_past cs (get_or ids k 0) le, h) in
    (u, λ d. unknown_excludes cs ids k d u)

pub no_single_at : (cs : List (List Lit)) (ids : List ℕ) (k : ℕ) (c : LitSet) (b : List Lit) → 0 < k → k < length ids → slice_get cs (get_or ids k 0) ≡ Some b → Derives cs (take k ids) c → ¬ ((v : ℕ) × ClashesOnce c (has b) v) → HasNoSingleClashAt cs ids k × IsChainedToNone cs ids
no_single_at cs ids k c b pos lt get h no1 =
    let u : HasNoSingleClashAt cs ids k = (get_or ids k 0, c, b, pos, slice_get-get_or ids k 0 lt, get, h, no1) in
    (u, λ d. no_single_excludes cs ids k d u)
