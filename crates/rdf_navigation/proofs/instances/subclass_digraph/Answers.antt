use Rattle.std.proofs.Common.{Contains, ◌∙◌, sym, subst}
use Rattle.rdf_terms.specs.Vocab.Rdfs.{sub_class_of}
use Rattle.rdf_navigation.proofs.PropertyLaws.{same_some}
use Rattle.rdf_navigation.proofs.InstanceLaws.{subjects_are}
use Rattle.rdf_navigation.proofs.instances.subclass_digraph.Goals as goal

pub push_node-requires : goal.push_node-requires
push_node-requires c = λ ts e t h.
    c.requires t c.class-item.result ((subjects_are c.args.graph.now sub_class_of c.class-item.result t).0 (subst (λ us. Contains us t) (sym (same_some e) ∙ c.in_ok-below.ensures) h))
