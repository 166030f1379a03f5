-- A pull leaves the bytes that a shelf in memory holds.
use Rattle.std.proofs.Common.{◌≡◌, ◌≢◌, Bool, true, false, List, ℕ, Option, Some, None, option_map, refl, ap, ◌∙◌, nat_eq, MatchBool}
use Rattle.std.specs.Cmp.Lexicographic.{pointwise, told_text}
use Rattle.std.proofs.Math.Path.{fun_ext}
use Rattle.shelf_io.specs.Kept.{Kept, kept_at, held_in, after_pull}
use Rattle.shelf_io.specs.Named.{ChangesOnly}

same_bytes : (k : Option Kept) → option_map (λ kept. kept.bytes) (option_map after_pull k) ≡ option_map (λ kept. kept.bytes) k
same_bytes None = refl
same_bytes (Some k) = refl

pub held_stays : (old new : List Kept) (name : List ℕ) → ChangesOnly (kept_at old) (kept_at new) name (option_map after_pull (kept_at old name)) → held_in new ≡ held_in old
held_stays old new name c =
    fun_ext (λ other. at other (pointwise nat_eq other name) (told_text other name _ refl))
  where
    at : (other : List ℕ) (r : Bool) → MatchBool r (other ≡ name) (other ≢ name) → held_in new other ≡ held_in old other
    at other true m = rw m (ap (option_map (λ kept. kept.bytes)) c.here ∙ same_bytes (kept_at old name))
    at other false m = ap (option_map (λ kept. kept.bytes)) (c.others other m)
