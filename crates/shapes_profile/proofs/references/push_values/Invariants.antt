use Rattle.std.proofs.Common.{◌≡◌, ◌++◌, take}
use Rattle.std.specs.Prelude.{map}
use Rattle.rdf_terms.specs.Statement.{Statement}
use Rattle.shapes_profile.proofs.references.push_values.Given as goal

abbrev pub invariant-values : goal.invariant-values
invariant-values l = l.terms ≡ l.fn.terms ++ map (λ (t : Statement). t.object) (take l.triple-index l.triple-items)
