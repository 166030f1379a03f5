-- Datatypes that are none of integers.
use Rattle.std.proofs.Common.{◌≡◌, ◌≢◌, ℕ, Bool, true, false, List, [], ◌∷◌, refl, sym, ap, ◌∙◌, cond}
use Rattle.std.specs.Prelude.{Some, None}
use Rattle.std.specs.Str.{bytes_eq}
use Rattle.std.proofs.lemmas.Slice.Eq.{bytes_eq-Decides}
use Rattle.datatypes.specs.Forms.{IntegerType, range_in}

differs : (a b : List ℕ) → a ≢ b → bytes_eq a b ≡ false
differs a b h = by (bytes_eq a b) refl
  where
    by : (t : Bool) → bytes_eq a b ≡ t → bytes_eq a b ≡ false
    by true e = absurd (h ((bytes_eq-Decides a b).0 e))
    by false e = e

-- none of the types is the datatype
abbrev pub AreOthers : List IntegerType → List ℕ → Type 0
AreOthers [] datatype = Unit {0}
AreOthers (t ∷ ts) datatype = (datatype ≢ t.datatype) × AreOthers ts datatype

pub range_in_others : (ts : List IntegerType) (datatype : List ℕ) → AreOthers ts datatype → None ≡ range_in ts datatype
range_in_others [] datatype h = refl
range_in_others (t ∷ ts) datatype h = range_in_others ts datatype h.1 ∙ sym (ap (λ b. cond b (Some t.values) (range_in ts datatype)) (differs datatype t.datatype h.0))
