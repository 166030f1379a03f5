-- What the definitions say of each other, for proofs above.
use Rattle.std.proofs.Common.{◌≡◌, ℕ, ◌^◌, ◌<◌, Bool, true, false, ◌&&◌, List, refl, cond, arith}
use Rattle.std.specs.Prelude.{nat_lt, ℤ, pos, negsuc, Option, Some, None, is_some, option_and_then}
use Rattle.std.specs.Str.{bytes_eq}
use Rattle.std.proofs.lemmas.Bool.Decides.{nat_tests}
use Rattle.rdf_terms.specs.declared.term.Term.{Term}
use Rattle.rdf_terms.specs.declared.term.Term.TheVariants.{Iri, Blank, Literal}
use Rattle.rdf_terms.specs.Vocab.Xsd as xsd
use Rattle.datatypes.specs.declared.range.Range.{Range}
use Rattle.datatypes.specs.Forms.{integer_of, range_of, is_well_formed}
use Rattle.datatypes.specs.Literals.{integer_value, count_of}

-- a literal has an integer value where its datatype is one of integers and it is well formed
pub integer_well_formed : (text datatype : List ℕ) (tag : Option (List ℕ)) → is_some (integer_value (Literal text datatype tag)) ≡ (is_some (range_of datatype) && is_well_formed datatype text)
unfolding integer_value is_well_formed
integer_well_formed text datatype tag = by (range_of datatype) refl
  where
    by : (o : Option Range) → range_of datatype ≡ o → is_some (integer_value (Literal text datatype tag)) ≡ (is_some (range_of datatype) && is_well_formed datatype text)
    by None e = rw e refl
    by (Some r) e = rw e refl

-- a count has at most 32 bits
pub count_small : (t : Term) (n : ℕ) → count_of t ≡ Some n → n < 2 ^ 32
count_small (Iri i) n e = cc
count_small (Blank s l) n e = cc
count_small (Literal text datatype tag) n e = by (bytes_eq datatype xsd.integer) (integer_of text) e
  where
    count : ℤ → Option ℕ
    count (pos m) = cond (nat_lt m (2 ^ 32)) (Some m) None
    count (negsuc m) = None

    of_test : (b : Bool) (m : ℕ) → nat_lt m (2 ^ 32) ≡ b → cond b (Some m) None ≡ Some n → n < 2 ^ 32
    of_test true m t d = let k : m ≡ n = cc in let lt : m < 2 ^ 32 = grind (arith, nat_tests) in omega arith
    of_test false m t d = cc

    by : (b : Bool) (o : Option ℤ) → cond b (option_and_then count o) None ≡ Some n → n < 2 ^ 32
    by false o d = cc
    by true None d = cc
    by true (Some (pos m)) d = of_test (nat_lt m (2 ^ 32)) m refl d
    by true (Some (negsuc m)) d = cc
