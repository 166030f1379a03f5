-- A number past the end of a u64 is in no list of u64.
use Rattle.std.proofs.Common.{◌≡◌, ℕ, ◌≤◌, ◌<◌, ◌^◌, ◌==◌, suc, List, [], ◌∷◌, false, get_or, Fits, w64, refl, arith}
use Rattle.std.specs.List.{list_any}
use Rattle.std.proofs.lemmas.Bool.Decides.{nat_tests}

pub none_past_end : (xs : List ℕ) (n : ℕ) → ((i : ℕ) → Fits w64 (get_or xs i 0)) → 2 ^ 64 ≤ n → list_any (λ y. y == n) xs ≡ false
none_past_end [] n fits past = refl
none_past_end (x ∷ xs) n fits past =
    let rest = none_past_end xs n (λ i. fits (suc i)) past in
    let here : x < 2 ^ 64 = (fits 0).fits in
    grind (arith, nat_tests)
