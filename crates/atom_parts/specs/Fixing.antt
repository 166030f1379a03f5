-- Atoms by what fixes them. Clauses and laws go by this alone, whatever the forms of constraints.
use Rattle.std.specs.Prelude.{◌≡◌, ◌≢◌, ◌⊎◌, ◌↔◌, ℕ, ◌-◌, ◌≤◌, ◌&&◌, IsTrue, List, [], ◌∷◌, length}
use Rattle.std.specs.Prelude.{Option, Some, None, unwrap_or, slice_get, nat_lt, nat_le, if◌then◌else◌}
use Rattle.shapes_graph.specs.Forms.{Form}
use Rattle.repair_problem.specs.declared.atom.Atom.{Atom}
use Rattle.repair_problem.specs.declared.atom.Atom.TheVariants as atom
use Rattle.repair_problem.specs.declared.atom.Literal.{Literal}
use Rattle.repair_problem.specs.declared.atom.Part.{Part}
use Rattle.repair_problem.specs.declared.atom.Part.TheVariants.{Fixed, Lit}
use Rattle.repair_problem.specs.declared.atom.Parts.{Parts}
use Rattle.repair_problem.specs.Setting.{Setting}
use Rattle.repair_problem.specs.Candidates.{candidates}
use Rattle.repair_problem.specs.PartMeaning.{PartMeans, PartsMean}
use Rattle.count_encode.specs.Counts.{counted}
use Rattle.atom_parts.specs.PartLiterals.{In, literals}
use Rattle.atom_parts.specs.PartsTable.{parts_of, items, need, item_part, by_constraint, is_node}

-- what fixes the truth of an atom
pub data Fixing : Type 0 where
  NoAtom : Fixing
  Free : Fixing  -- nothing: it is a candidate
  ByParts : Parts → Fixing
  -- the counter of these numbers: the two counters over one item less, and the item
  ByCount : ℕ → ℕ → ℕ → ℕ → Part → Fixing

abbrev pub by_parts : Option Parts → Fixing
by_parts None = NoAtom
by_parts (Some parts) = ByParts parts

module _ (s : Setting) where
  -- of a counter of constraint i of shape n, by its j-th item
  abbrev pub by_item : ℕ → ℕ → ℕ → ℕ → ℕ → Form → Option ℕ → Fixing
  by_item i n x j m f None = NoAtom
  by_item i n x j m f (Some y) = ByCount i x j m (item_part s i n x y f)

  -- counters reach from 1 up to what is needed, and no further than there are items
  abbrev pub by_count : ℕ → ℕ → ℕ → ℕ → ℕ → Form → Fixing
  by_count i n x j m f =
      if is_node s x && (nat_le 1 m && (nat_le m j && nat_le m (need f)))
      then by_item i n x j m f (slice_get (items s n x f) (j - 1)) else NoAtom

  abbrev pub fixing : Atom → Fixing
  fixing (atom.Triple t) = if nat_lt t (length (candidates s)) then Free else NoAtom
  fixing (atom.Count i x j m) = unwrap_or (by_constraint s i (λ n f. Some (by_count i n x j m f))) NoAtom
  fixing a = by_parts (parts_of s a)

-- the parts that fix the atom
abbrev pub lower : Fixing → List Part
lower NoAtom = []
lower Free = []
lower (ByParts parts) = parts.list
lower (ByCount i x j m item) = counted i x (j - 1) m ∷ counted i x (j - 1) (m - 1) ∷ item ∷ []

-- the item of a counter is a fixed part or an atom itself
abbrev pub IsPositive : Part → Type 0
IsPositive (Fixed b) = Unit {0}
IsPositive (Lit l) = IsTrue l.positive

-- a counter is fixed by its own numbers
abbrev pub IsOfAtom : Atom → Fixing → Type 0
IsOfAtom a NoAtom = Unit {0}
IsOfAtom a Free = Unit {0}
IsOfAtom a (ByParts parts) = Unit {0}
IsOfAtom a (ByCount i x j m item) = (a ≡ atom.Count i x j m) × (1 ≤ m) × (m ≤ j) × IsPositive item

-- what the atom means is what it is fixed by; M: what atoms mean
abbrev pub MeansFixing : (Atom → Type 0) → Atom → Fixing → Type 0
MeansFixing M a NoAtom = Unit {0}
MeansFixing M a Free = Unit {0}
MeansFixing M a (ByParts parts) = M a ↔ PartsMean M parts
MeansFixing M a (ByCount i x j m item) =
    M a ↔ (PartMeans M (counted i x (j - 1) m) ⊎ (PartMeans M (counted i x (j - 1) (m - 1)) × PartMeans M item))

-- an atom is founded where the atoms of all parts that fix it are, so that none stands below itself
pub data IsFounded (fix : Atom → Fixing) : Atom → Type 0 where
  founded : {a : Atom}
      → ((l : Literal) → In (literals (lower (fix a))) l → IsFounded fix l.atom) → IsFounded fix a

-- each atom is founded and fixed by its own numbers, and each part that isn't fixed is an atom
pub record IsOrdered (fix : Atom → Fixing) : Type 0 where
  pub well : (a : Atom) → IsFounded fix a
  pub own : (a : Atom) → IsOfAtom a (fix a)
  pub proper : (a : Atom) (l : Literal) → In (literals (lower (fix a))) l → fix l.atom ≢ NoAtom
