use Rattle.std.proofs.Common.{◌≡◌, List, [], ◌++◌, length, Some, unwrap_or}
use Rattle.rdf_terms.specs.declared.term.Term.{Term}
use Rattle.rdf_navigation.specs.CellKind.{is_cell}
use Rattle.rdf_navigation.specs.Lists.{members_of}
use Rattle.rdf_navigation.proofs.lists.read_members.Given as goal

abbrev pub invariant-cells : goal.invariant-cells
invariant-cells l =
    (ms : List Term) × (members_of (is_cell l.fn.kind) l.graph l.cell ≡ Some ms)
    × (members_of (is_cell l.fn.kind) l.graph l.fn.head ≡ Some (l.members ++ ms))

abbrev pub decreases-cells : goal.decreases-cells
decreases-cells l = length (unwrap_or (members_of (is_cell l.fn.kind) l.graph l.cell) [])
