use Rattle.std.proofs.Common.{◌≡◌, length, Some}
use Rattle.rdf_terms.specs.Vocab.Rdfs.{sub_class_of}
use Rattle.rdf_navigation.specs.Values.{subjects}
use Rattle.rdf_navigation.specs.Numbers.{IsNumbered}
use Rattle.rdf_navigation.proofs.instances.subclass_digraph.Given as goal

abbrev pub invariant-classes : goal.invariant-classes
invariant-classes l = record {
  len : length l.digraph ≡ l.class-index;
  numbered : IsNumbered (λ c. Some (subjects l.graph sub_class_of c)) l.classes l.digraph;
}
