use Rattle.std.proofs.Common.{◌≡◌, take, not}
use Rattle.std.specs.List.{list_any}
use Rattle.std.specs.Prelude.{map}
use Rattle.rdf_terms.specs.Statement.{Statement}
use Rattle.rdf_terms.specs.declared.term.Term.{Term}
use Rattle.shapes_profile.specs.IllFormed.{is_expected}
use Rattle.shapes_profile.proofs.rules.has_other_value_in_row.Given as goal

abbrev pub invariant-values : goal.invariant-values
invariant-values l =
    l.found ≡ list_any (λ (y : Term). not (is_expected l.shapes l.row.value y)) (map (λ (t : Statement). t.object) (take l.triple-index l.triple-items))
