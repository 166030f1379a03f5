-- What fixes an atom is of its own numbers, and the item of a counter is fixed or an atom itself.
use Rattle.std.proofs.Common.{◌≡◌, ◌⊎◌, ℕ, suc, ◌-◌, ◌≤◌, Bool, true, false, ◌&&◌, List, Option, Some, None, nat_le, nat_lt, length, slice_get, refl, arith, if◌then◌else◌}
use Rattle.std.specs.Prelude.{option_and_then, unwrap_or}
use Rattle.shapes_graph.specs.declared.constraints.Constraint.{Constraint}
use Rattle.shapes_graph.specs.Constraints.{constraint_at}
use Rattle.shapes_graph.specs.Forms.{Test, Anything, Passes, IsA, NotObject, Conforming, Failing, AllOf, SomeOfThese, OneOf, Counted, Form, Every, Nested, Closing, Least, Most, Having, Same, Unique, form_of}
use Rattle.repair_problem.specs.declared.atom.Atom.{Atom}
use Rattle.repair_problem.specs.declared.atom.Atom.TheVariants as atom
use Rattle.repair_problem.specs.declared.atom.Parts.{Parts}
use Rattle.repair_problem.specs.Setting.{Setting}
use Rattle.repair_problem.specs.Candidates.{candidates}
use Rattle.atom_parts.specs.PartsTable.{is_node, items, need, counted_item, item_part, parts_of}
use Rattle.atom_parts.specs.Fixing.{Fixing, NoAtom, Free, by_parts, by_item, by_count, fixing, IsPositive, IsOfAtom}
use Rattle.atom_parts.proofs.Facts.{both_true}
use Rattle.atom_parts.proofs.Reached.{value_positive}

module _ (s : Setting) where
  counted_positive : (i n x y : ℕ) (t : Test) → IsPositive (counted_item s i n x y t)
  counted_positive i n x y Anything = value_positive s n x y
  counted_positive i n x y (Passes test) = refl
  counted_positive i n x y (IsA c) = refl
  counted_positive i n x y (NotObject q) = refl
  counted_positive i n x y (Conforming u) = refl
  counted_positive i n x y (Failing u) = refl
  counted_positive i n x y (AllOf us) = refl
  counted_positive i n x y (SomeOfThese us) = refl
  counted_positive i n x y (OneOf us) = refl
  counted_positive i n x y (Counted u us) = refl

  pub item_positive : (i n x y : ℕ) (f : Form) → IsPositive (item_part s i n x y f)
  item_positive i n x y (Every t) = refl
  item_positive i n x y (Least m t) = counted_positive i n x y t
  item_positive i n x y (Most m t) = counted_positive i n x y t
  item_positive i n x y (Nested u) = tt
  item_positive i n x y (Closing on allowed) = tt
  item_positive i n x y (Having o) = tt
  item_positive i n x y (Same q) = tt
  item_positive i n x y (Unique on) = tt

  of_parts : (a : Atom) (o : Option Parts) → IsOfAtom a (by_parts o)
  of_parts a None = tt
  of_parts a (Some parts) = tt

  of_count : (i x j m : ℕ) (o : Option Constraint) → IsOfAtom (atom.Count i x j m) (unwrap_or (option_and_then (λ c. Some (by_count s i c.shape x j m (form_of c.kind))) o) NoAtom)
  of_count i x j m None = tt
  of_count i x j m (Some c) = guarded (is_node s x && (nat_le 1 m && (nat_le m j && nat_le m (need (form_of c.kind))))) refl
    where
      at_item : 1 ≤ m → m ≤ j → (o : Option ℕ) → IsOfAtom (atom.Count i x j m) (by_item s i c.shape x j m (form_of c.kind) o)
      at_item least most None = tt
      at_item least most (Some y) = (refl, least, most, item_positive i c.shape x y (form_of c.kind))

      guarded : (b : Bool) → (is_node s x && (nat_le 1 m && (nat_le m j && nat_le m (need (form_of c.kind))))) ≡ b → IsOfAtom (atom.Count i x j m) (if b then by_item s i c.shape x j m (form_of c.kind) (slice_get (items s c.shape x (form_of c.kind)) (j - 1)) else NoAtom)
      guarded false r = tt
      guarded true r =
          let t = both_true (is_node s x) (nat_le 1 m && (nat_le m j && nat_le m (need (form_of c.kind)))) r in
          let u = both_true (nat_le 1 m) (nat_le m j && nat_le m (need (form_of c.kind))) t.1 in
          let v = both_true (nat_le m j) (nat_le m (need (form_of c.kind))) u.1 in
          let first : nat_le 1 m ≡ true = u.0 in
          let second : nat_le m j ≡ true = v.0 in
          at_item (grind (arith, first)) (grind (arith, second)) (slice_get (items s c.shape x (form_of c.kind)) (j - 1))

  pub own_fixing : (a : Atom) → IsOfAtom a (fixing s a)
  own_fixing (atom.Triple t) = at (nat_lt t (length (candidates s)))
    where
      at : (b : Bool) → IsOfAtom (atom.Triple t) (if b then Free else NoAtom)
      at true = tt
      at false = tt
  own_fixing (atom.Count i x j m) = of_count i x j m (constraint_at s.shapes i)
  own_fixing (atom.Reach p x y) = of_parts (atom.Reach p x y) (parts_of s (atom.Reach p x y))
  own_fixing (atom.Level p k x y) = of_parts (atom.Level p k x y) (parts_of s (atom.Level p k x y))
  own_fixing (atom.Middle p k x z y) = of_parts (atom.Middle p k x z y) (parts_of s (atom.Middle p k x z y))
  own_fixing (atom.Good i y) = of_parts (atom.Good i y) (parts_of s (atom.Good i y))
  own_fixing (atom.Marked i x y) = of_parts (atom.Marked i x y) (parts_of s (atom.Marked i x y))
  own_fixing (atom.Differ i x y) = of_parts (atom.Differ i x y) (parts_of s (atom.Differ i x y))
  own_fixing (atom.Twin i x y z) = of_parts (atom.Twin i x y z) (parts_of s (atom.Twin i x y z))
  own_fixing (atom.Holds i x) = of_parts (atom.Holds i x) (parts_of s (atom.Holds i x))
  own_fixing (atom.Conforms n x) = of_parts (atom.Conforms n x) (parts_of s (atom.Conforms n x))
  own_fixing (atom.Target n x) = of_parts (atom.Target n x) (parts_of s (atom.Target n x))
