use Rattle.std.proofs.Common.{◌≡◌, ◌<◌, true, List, length, Some, sym, ap, ◌∙◌}
use Rattle.std.proofs.lemmas.Bool.{ltb-true}
use Rattle.rdf_terms.specs.Graph.{Graph}
use Rattle.shapes_profile.specs.Shapes.{shape_terms}
use Rattle.shapes_graph.specs.Constraints.{is_deactivated}
use Rattle.repair_problem.specs.declared.atom.Part.{Part}
use Rattle.repair_problem.specs.declared.atom.Parts.{Parts}
use Rattle.atom_parts.proofs.TableLaws.{not_below, conforms_gone, conforms_all}
use Rattle.atom_parts.proofs.shape_parts.conforms_parts.Goals as goal

pub returns-then-not-is_shape : goal.returns-then-not-is_shape
returns-then-not-is_shape c =
    let s = c.args.problem.now in
    sym (conforms_gone s c.args.s c.args.x (not_below c.args.s (length (shape_terms s.shapes)) (sym c.is_shape.ensures ∙ c.if-not-is_shape.true)))

pub returns-then-deactivated : goal.returns-then-deactivated
returns-then-deactivated c =
    let s = c.args.problem.now in
    let below : c.args.s < length (shape_terms s.shapes) = ltb-true c.args.s (length (shape_terms s.shapes)) (sym c.is_shape.ensures ∙ c.if-not-is_shape.false) in
    let off : is_deactivated s.shapes c.args.s ≡ true = ap (λ (g : Graph). is_deactivated g c.args.s) (sym c.shapes-shapes.ensures) ∙ (sym c.deactivated.ensures ∙ c.if-deactivated.true) in
    let whole : List Part → Parts = λ list. record { every = true; list = list } in
    ap Some (c.all_of.ensures ∙ ap whole c.new.ensures) ∙ sym (conforms_all s c.args.s c.args.x below off)
