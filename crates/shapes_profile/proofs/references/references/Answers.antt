use Rattle.std.proofs.Common.{◌≤◌, ◌++◌, List, length, ap, ◌∙◌, take_all, arith}
use Rattle.std.specs.Prelude.{flat_map}
use Rattle.rdf_terms.specs.Graph.{Graph}
use Rattle.rdf_terms.specs.declared.term.Term.{Term}
use Rattle.shapes_profile.specs.declared.properties.Row.{Row}
use Rattle.shapes_profile.specs.Properties.{table}
use Rattle.shapes_profile.specs.References.{references_of_row, siblings, references}
use Rattle.shapes_profile.proofs.TableLaws.{table_size}
use Rattle.shapes_profile.proofs.references.references.Goals as goal

pub returns : goal.returns
unfolding references
returns c =
    let s = c.args.declarations.now in
    let x = c.args.shape.now in
    let whole : length c.table-rows.result ≤ c.rows.row-index = omega (arith, c.rows-test.false, ap length c.table-rows.ensures, table_size) in
    let by_rows = c.rows.invariant ∙ ap (λ (rs : List Row). flat_map (references_of_row s x) rs) (take_all c.rows.row-index c.table-rows.result whole ∙ c.table-rows.ensures) in
    let beside = c.as_slice.ensures ∙ c.in_ok-beside.ensures ∙ ap (λ (g : Graph). siblings g x) c.graph.ensures in
    c.in_ok-push_copies.ensures ∙ ap (λ (ts : List Term). ts ++ c.as_slice.result.now) by_rows ∙ ap (λ (ts : List Term). flat_map (references_of_row s x) table ++ ts) beside
