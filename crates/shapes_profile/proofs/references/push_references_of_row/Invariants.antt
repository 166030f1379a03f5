use Rattle.std.proofs.Common.{◌≡◌, ◌++◌, take}
use Rattle.std.specs.Prelude.{map, flat_map}
use Rattle.rdf_terms.specs.Statement.{Statement}
use Rattle.shapes_profile.specs.Shapes.{shapes_in}
use Rattle.shapes_profile.proofs.references.push_references_of_row.Given as goal

abbrev pub invariant-values : goal.invariant-values
invariant-values l =
    l.terms ≡ l.fn.terms ++ flat_map (shapes_in l.declarations l.row.value) (map (λ (t : Statement). t.object) (take l.triple-index l.triple-items))
