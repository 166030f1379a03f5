-- Absent signs add nothing to the set.
use Rattle.std.proofs.Common.{◌≡◌, ℕ, zero, suc, ◌+◌, ◌≤◌, arith, length-append, List, [], ◌∷◌, ◌++◌, length, take, get_or, replicate, refl, ap, ◌∙◌}
use Rattle.std.proofs.Math.Path.{fun_ext}
use Rattle.std.proofs.lemmas.List.{take_all, length-replicate}
use Rattle.literal_signs.specs.declared.sign.Sign.{Sign}
use Rattle.literal_signs.specs.declared.sign.Sign.TheVariants.{Absent}
use Rattle.literal_signs.specs.Marked.{absents, marked_set, sign_marks}

absent_at : (k v : ℕ) → get_or (replicate k Absent) v Absent ≡ Absent
absent_at zero v = refl
absent_at (suc k) zero = refl
absent_at (suc k) (suc v) = absent_at k v

padded_at : (signs : List Sign) (k v : ℕ) → get_or (signs ++ replicate k Absent) v Absent ≡ get_or signs v Absent
padded_at [] k v = absent_at k v
padded_at (s ∷ signs) k zero = refl
padded_at (s ∷ signs) k (suc v) = padded_at signs k v

pub grown : (signs new : List Sign) (n k : ℕ) → length signs ≤ n → new ≡ take n signs ++ replicate k Absent → marked_set new ≡ marked_set signs
grown signs new n k le e =
    fun_ext (λ m. ap (λ s. sign_marks s m.positive) (ap (λ x. get_or x m.var Absent) e ∙ ap (λ x. get_or (x ++ replicate k Absent) m.var Absent) (take_all n signs le) ∙ padded_at signs k m.var))

absents_append : (xs ys : List Sign) → absents (xs ++ ys) ≡ absents xs + absents ys
absents_append [] ys = omega arith
absents_append (s ∷ xs) ys = let h = absents_append xs ys in rw h (omega arith)

absents_padding : (k : ℕ) → absents (replicate k Absent) ≡ k
absents_padding zero = refl
absents_padding (suc k) = let h = absents_padding k in omega (arith, h)

pub absents_grown : (signs new : List Sign) (n k : ℕ) → length signs ≤ n → new ≡ take n signs ++ replicate k Absent → absents new + length signs ≡ absents signs + length new
absents_grown signs new n k le e =
    let whole : new ≡ signs ++ replicate k Absent = e ∙ ap (λ x. x ++ replicate k Absent) (take_all n signs le) in
    let a : absents new ≡ absents signs + k = ap absents whole ∙ absents_append signs (replicate k Absent) ∙ ap (λ x. absents signs + x) (absents_padding k) in
    let l : length new ≡ length signs + k = ap length whole ∙ length-append signs (replicate k Absent) ∙ ap (λ x. length signs + x) (length-replicate k Absent) in
    omega (arith, a, l)
