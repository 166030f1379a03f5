-- The signs that a solver keeps beside its trail. Its invariant and private functions alone cite it.
use Rattle.std.specs.Prelude.{◌≡◌, ℕ, ◌+◌, ◌<◌, false, IsTrue, List, length, take, slice_get, Some}
use Rattle.clause_store.specs.Clauses.{has, mentions, are_within}
use Rattle.literal_signs.specs.Marked.{absents, marked_set}
use Rattle.literal_signs.specs.declared.sign.Sign.{Sign}
use Rattle.sat_core.specs.declared.trail.Entry.{Entry}
use Rattle.sat_core.specs.Solving.{Solving, assigned, lits_of}
use Rattle.sat_core.specs.Trail.{IsSolving}

pub record IsKept (s : Solving) (signs : List Sign) : Type 0 where
  pub solving : IsSolving s
  pub marks : marked_set signs ≡ has (assigned s)
  pub below : IsTrue (are_within (length signs) s.clauses)
  pub count : length s.trail + absents signs ≡ length signs

-- the signs are those of the entries, each of which is free under those before
pub record AreSigned (t : List Entry) (signs : List Sign) : Type 0 where
  pub marks : marked_set signs ≡ has (lits_of t)
  pub count : length t + absents signs ≡ length signs
  pub free : (k : ℕ) (e : Entry) → slice_get t k ≡ Some e → mentions (lits_of (take k t)) e.lit.var ≡ false
  pub below : (k : ℕ) (e : Entry) → slice_get t k ≡ Some e → e.lit.var < length signs
