-- Which texts are the digits of a number of 64 bits.
use Rattle.std.proofs.Common.{◌≡◌, ◌≢◌, ℕ, zero, suc, ◌^◌, ◌<◌, true, List, length, get_or, Result, Ok, Err, MatchOption, sym, ap, ◌∙◌, arith}
use Rattle.std.specs.Result.{result_ok}
use Rattle.std.specs.Fmt.{decimal}
use Rattle.std.specs.Str.{all_ascii_digits}
use Rattle.std.specs.Str.Parse.{ParsesUnsigned, digits_value}
use Rattle.std.proofs.lemmas.Str.Parse.{IsNumeralModel, numerals_by_value, tells_all_ascii_digits, parse_plain, not_in_digits}
use Rattle.std.proofs.lemmas.Fmt.{decimal_nonempty, parse-decimal, decimal-digits_value, digits_decimal, first_decimal, decimal_digit}

own : IsNumeralModel (λ ds. all_ascii_digits ds ≡ true) (digits_value 10)
own = numerals_by_value _ tells_all_ascii_digits

pub no_digits : (n : ℕ) (ds : List ℕ) → n < 2 ^ 64 → length ds ≡ 0 → ds ≢ decimal n
no_digits n ds lt none e = let some = decimal_nonempty n lt in let l = ap length e in absurd (omega arith)

pub no_plus : (n : ℕ) (ds : List ℕ) → n < 2 ^ 64 → get_or ds 0 0 ≡ 43 → ds ≢ decimal n
no_plus n ds lt plus e =
    not_in_digits own (decimal n) 43 (digits_decimal own n lt) (λ h. omega arith) 0 (decimal_nonempty n lt) (ap (λ xs. get_or xs 0 0) (sym e) ∙ plus)

pub no_zero : (n : ℕ) (ds : List ℕ) → n < 2 ^ 64 → get_or ds 0 0 ≡ 48 → 1 < length ds → ds ≢ decimal n
no_zero zero ds lt front long e = let l = ap length (e ∙ decimal_digit 0 (omega arith)) in absurd (omega arith)
no_zero (suc n) ds lt front long e =
    let h = first_decimal (suc n) (omega arith) lt in
    let g = ap (λ xs. get_or xs 0 0) e in
    absurd (omega arith)

pub parsed : {E : Type 0} (ds : List ℕ) (r : Result ℕ E) → get_or ds 0 0 ≢ 43 → (get_or ds 0 0 ≡ 48 → length ds ≡ 1) → ParsesUnsigned 64 10 ds r → MatchOption (result_ok r) ((n : ℕ) → n < 2 ^ 64 → ds ≢ decimal n) (λ n. ds ≡ decimal n)
parsed {E} ds (Ok m) plus front h =
    let p = parse_plain own {E = E} 64 ds (Ok m) h plus in
    sym (ap decimal p.1 ∙ decimal-digits_value own ds p.0.0 p.0.1 front (omega (arith, p.0.2)))
parsed {E} ds (Err e) plus front h = λ n lt is. let w : Err e ≡ Ok n = parse-decimal 64 n ds (Err e) lt lt is h in cc
