-- A finite set over an order of its items. It lists them in that order.
use Rattle.std.specs.Prelude.{Bool, not, List, [], ◌∷◌, map}
use Rattle.std.specs.declared.cmp.Ordering.{Ordering}
use base.Stored.{Coded, coded_unit}
use Rattle.std.specs.FinMap as finite
use Rattle.std.specs.FinMap.{FinMap}

-- std's finite map, to nothing
abbrev pub Set : {K : Type 0} → (K → K → Ordering) → Type 0
Set R = FinMap R (Unit {0})

-- the entries of such a map
abbrev pub marked : {K : Type 0} → List K → List (K × Unit {0})
marked xs = map (λ x. (x, tt)) xs

module _ {K : Type 0} (R : K → K → Ordering) where
  -- each item is below all later ones
  abbrev pub is_rising : List K → Bool
  is_rising xs = finite.is_sorted R (marked xs)

  -- the set of a list that rises
  abbrev pub of_rising : List K → Set R
  of_rising xs = finite.from_sorted (marked xs)

module _ {K : Type 0} {R : K → K → Ordering} where
  -- in order, each once
  abbrev pub items : Set R → List K
  items s = finite.keys s

  -- whether the item is in the set
  abbrev pub has : Set R → K → Bool
  has s x = finite.contains_key s x

  -- the set and one item
  abbrev pub with : Set R → K → Set R
  with s x = finite.insert s x tt

  abbrev pub empty : Set R
  empty = finite.empty

  -- how a proof tells two sets apart
  abbrev pub code : Coded K → Coded (Set R)
  code k = finite.code k coded_unit

  -- s with the items of a list
  abbrev pub including : Set R → List K → Set R
  including s [] = s
  including s (x ∷ xs) = with (including s xs) x

  -- the set of the items of a list, in whatever order and however often they stand there
  abbrev pub of_list : List K → Set R
  of_list xs = including empty xs

  -- s without the items of d
  abbrev pub without : Set R → Set R → Set R
  without s d = finite.retain_keys s (λ x. not (has d x))

  -- s without the items of d, and then with those of a
  abbrev pub edited : Set R → Set R → Set R → Set R
  edited s a d = including (without s d) (items a)
