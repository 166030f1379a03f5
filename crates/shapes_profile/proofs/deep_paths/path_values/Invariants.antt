use Rattle.std.proofs.Common.{◌≡◌, take}
use Rattle.std.specs.Prelude.{flat_map}
use Rattle.rdf_terms.specs.declared.term.Term.{Term}
use Rattle.rdf_terms.specs.Vocab.Sh as sh
use Rattle.rdf_navigation.specs.Values.{values}
use Rattle.shapes_profile.proofs.deep_paths.path_values.Given as goal

abbrev pub invariant-shapes : goal.invariant-shapes
invariant-shapes l = l.paths ≡ flat_map (λ (x : Term). values l.shapes x sh.path) (take l.shape-index l.shape-items)
