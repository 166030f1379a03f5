use Rattle.std.proofs.Common.{◌≡◌, take, map}
use Rattle.rdf_terms.specs.Statement.{Statement}
use Rattle.rdf_navigation.proofs.property.values.Given as goal

abbrev pub invariant-copying : goal.invariant-copying
invariant-copying l = l.values ≡ map (λ (t : Statement). t.object) (take l.triple-index l.triple-items)
