-- What a device tells at a moment, and what a call finds and leaves of it.
use Rattle.std.specs.Prelude.{◌≡◌, ℕ, ◌≤◌, List}
use Rattle.shelf_io.specs.Held.{Held}

-- what was told before a call, and after it
pub record Change (Told : Type 0) : Type 0 where
  pub before : Told
  pub after : Told

-- a device before and after a call, by what is told of it
abbrev pub during : {Device Told : Type 0} → (Device → Told) → Device → Device → Change Told
during told old new = record { before = told old; after = told new }

-- what a shelf tells: the bytes that it holds, where it tells them, and its counts of faults
pub record ShelfTold : Type 0 where
  pub held : Held
  pub faults : List ℕ → ℕ

abbrev pub shelf_told : {Shelf : Type 0} → (Shelf → Held) → (Shelf → List ℕ → ℕ) → Shelf → ShelfTold
shelf_told held faults shelf = record { held = held shelf; faults = faults shelf }

-- the shelf holds what it held, and no count has fallen
pub record Continues (shelf : Change ShelfTold) : Type 0 where
  pub kept : shelf.after.held ≡ shelf.before.held
  pub later : (any : List ℕ) → shelf.before.faults any ≤ shelf.after.faults any
