-- Between two steps of appending a local part. Private functions cite it.
use Rattle.std.specs.Prelude.{◌≡◌, ℕ, Bool, false, List, ◌++◌, encode_utf8_all}
use Rattle.turtle_terms.specs.Names.{unescaped}

-- what is out and what the rest gives are together as before; whether the first character stands behind a backslash
pub record LeavesRest (escaped : Bool) (old text new rest : List ℕ) : Type 0 where
  pub same : old ++ encode_utf8_all (unescaped escaped text) ≡ new ++ encode_utf8_all (unescaped false rest)
