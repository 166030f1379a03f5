-- What the table of declared nodes holds. Private functions and the view of a type alone cite it.
use Rattle.std.specs.Prelude.{◌≡◌}
use Rattle.rdf_terms.specs.Graph.{Graph}
use Rattle.rdf_terms.specs.Nodes.{Nodes, has_term}
use Rattle.rdf_terms.specs.declared.term.Term.{Term}
use Rattle.rdf_navigation.specs.Instances.{is_instance}

-- exactly the SHACL instances of the class
abbrev pub AreInstances : Graph → Term → Nodes → Type 0
AreInstances s c n = (x : Term) → has_term n x ≡ is_instance s x c
