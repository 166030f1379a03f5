use Rattle.std.proofs.Common.{◌≡◌, take}
use Rattle.std.specs.Prelude.{map}
use Rattle.rdf_terms.specs.declared.term.Term.{Term}
use Rattle.rdf_terms.specs.Vocab.Sh as sh
use Rattle.shapes_profile.specs.Shapes.{has_true_value}
use Rattle.shapes_graph.proofs.shape_settings.deactivated.Given as goal

abbrev pub invariant-shapes : goal.invariant-shapes
invariant-shapes l = l.flags ≡ map (λ (x : Term). has_true_value l.shapes x sh.deactivated) (take l.shape-index l.shape-items)
