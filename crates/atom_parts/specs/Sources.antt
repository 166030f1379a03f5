-- What the parts of an atom are, wherever they come from.
use Rattle.std.specs.Prelude.{ℕ, true, false, List, map}
use Rattle.repair_problem.specs.declared.atom.Atom.TheVariants as atom
use Rattle.repair_problem.specs.declared.atom.Part.{Part}
use Rattle.repair_problem.specs.declared.atom.Parts.{Parts}
use Rattle.path_levels.specs.PathParts.{literal}
use Rattle.atom_parts.specs.declared.values.Values.{Values}
use Rattle.atom_parts.specs.declared.values.Values.TheVariants.{Alone, Led}
use Rattle.atom_parts.specs.declared.sources.PartSource.{PartSource}
use Rattle.atom_parts.specs.declared.sources.PartSource.TheVariants.{Listed, Conforming, Holding, Unmarked}
use Rattle.atom_parts.specs.declared.sources.AtomParts.{AtomParts}
use Rattle.atom_parts.specs.declared.fixing.Fixing.{Fixing}
use Rattle.atom_parts.specs.declared.fixing.Fixing.TheVariants as found
use Rattle.atom_parts.specs.PartsTable.{conforming_parts}
use Rattle.atom_parts.specs.Fixing as fix

abbrev pub node_list : Values → List ℕ
node_list (Alone one) = one
node_list (Led numbers) = numbers

abbrev pub source_list : PartSource → List Part
source_list (Listed list) = list
source_list (Conforming shapes node positive) = conforming_parts shapes.now node positive
source_list (Holding constraints node) = map (λ i. literal (atom.Holds i node) true) constraints.now
source_list (Unmarked constraint node values) =
    map (λ y. literal (atom.Marked constraint node y) false) (node_list values)

abbrev pub listed_parts : AtomParts → Parts
listed_parts parts = record { every = parts.every; list = source_list parts.source }

abbrev pub listed_fixing : Fixing → fix.Fixing
listed_fixing found.NoAtom = fix.NoAtom
listed_fixing found.Free = fix.Free
listed_fixing (found.ByParts parts) = fix.ByParts (listed_parts parts)
listed_fixing (found.ByCount i x j m item) = fix.ByCount i x j m item
