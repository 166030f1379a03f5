-- Pieces that are written or read one after another.
use Rattle.std.proofs.Common.{◌≡◌, ℕ, ◌+◌, ◌-◌, ◌≤◌, ◌<◌, ◌^◌, List, ◌++◌, take, drop, length, Option, Some, None, Ok, refl, sym, ap, ◌∙◌, append_assoc, take-add, length-drop, take_all, arith, ◌⊎◌, inl, inr}
use Rattle.shelf_io.specs.Held.{Writes, Held, Pulls, PullsOf}
use Rattle.shelf_io.specs.Documents.{Gained, ReadsWhole}

-- the bytes up to a place of those that are held
abbrev pub TakesOf : Option (List ℕ) → ℕ → List ℕ → Type 0
TakesOf None at bytes = ⊥
TakesOf (Some all) at bytes = (at ≤ length all) × (length all ≤ 2 ^ 30) × (bytes ≡ take at all)

abbrev pub Takes : Held → List ℕ → ℕ → List ℕ → Type 0
Takes None name at bytes = Unit {0}
Takes (Some held) name at bytes = TakesOf (held name) at bytes

-- the rest of the bytes, as a slice from d on has it
rest_is : (bytes : List ℕ) (d : ℕ) → take (length bytes - d) (drop d bytes) ≡ drop d bytes
rest_is bytes d = take_all (length bytes - d) (drop d bytes) (omega (arith, length-drop d bytes))

pub gained_more : (a b c : Option (List ℕ)) (bytes : List ℕ) (d n : ℕ) → Gained a b (take d bytes) → Writes b c (Ok n) (take (length bytes - d) (drop d bytes)) → Gained a c (take (d + n) bytes)
gained_more None b c bytes d n g w = rw g at w
gained_more (Some old) b c bytes d n g w =
    let next : c ≡ Some ((old ++ take d bytes) ++ take n (take (length bytes - d) (drop d bytes))) = rw g at w in
    next ∙ ap Some (ap (λ r. (old ++ take d bytes) ++ take n r) (rest_is bytes d) ∙ append_assoc old (take d bytes) (take n (drop d bytes)) ∙ ap (λ r. old ++ r) (sym (take-add d n bytes)))

taken_of : (o : Option (List ℕ)) (at n : ℕ) (bytes buf : List ℕ) → 0 < n → TakesOf o at bytes → PullsOf o at (Ok n) buf → TakesOf o (at + n) (bytes ++ take n buf)
taken_of None at n bytes buf pos t p = absurd t
taken_of (Some all) at n bytes buf pos t p =
    (within p.within, t.1, ap (λ b. b ++ take n buf) t.2 ∙ ap (λ b. take at all ++ b) p.same ∙ sym (take-add at n all))
  where
    within : (at + n ≤ length all ⊎ n ≡ 0) → at + n ≤ length all
    within (inl h) = h
    within (inr h) = absurd (omega arith)

pub taken_more : (h : Held) (name : List ℕ) (at n : ℕ) (bytes buf : List ℕ) → 0 < n → Takes h name at bytes → Pulls h name at (Ok n) buf → Takes h name (at + n) (bytes ++ take n buf)
taken_more None name at n bytes buf pos t p = tt
taken_more (Some held) name at n bytes buf pos t p = taken_of (held name) at n bytes buf pos t p

whole_of : (o : Option (List ℕ)) (at : ℕ) (bytes buf : List ℕ) → 0 < length buf → TakesOf o at bytes → PullsOf o at (Ok 0) buf → o ≡ Some bytes
whole_of None at bytes buf pos t p = absurd t
whole_of (Some all) at bytes buf pos t p = ap Some (sym (t.2 ∙ take_all at all ((p.ends pos).0 refl)))

pub whole : (h : Held) (name : List ℕ) (at : ℕ) (bytes buf : List ℕ) → 0 < length buf → Takes h name at bytes → Pulls h name at (Ok 0) buf → ReadsWhole h name bytes
whole None name at bytes buf pos t p = tt
whole (Some held) name at bytes buf pos t p = whole_of (held name) at bytes buf pos t p
