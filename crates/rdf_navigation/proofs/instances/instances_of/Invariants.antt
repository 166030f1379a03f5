use Rattle.std.proofs.Common.{◌≡◌, take}
use Rattle.std.specs.List.{flat_map}
use Rattle.rdf_terms.specs.Vocab.Rdf.{type_}
use Rattle.rdf_navigation.specs.Values.{subjects}
use Rattle.rdf_navigation.proofs.instances.instances_of.Given as goal

abbrev pub invariant-classes : goal.invariant-classes
invariant-classes l = l.instances ≡ flat_map (λ b. subjects l.graph type_ b) (take l.class-index l.class-items)
