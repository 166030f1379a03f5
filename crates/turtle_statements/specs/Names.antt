-- What the directives before a statement leave: RDF 1.1 Turtle, sections 2.4 and 7.1.
use Rattle.std.specs.Prelude.{ℕ, List, [], Option, Some, None, All, IfSome}
use Rattle.std.specs.BTreeMap.{insert_entry, is_at}
use Rattle.std.specs.Map.{lookup, values_of}
use Rattle.rdf_terms.specs.Term.{text_cmp}
use Rattle.rdf_grammar.specs.Lawful.{IsIri}
use Rattle.turtle_statements.specs.declared.role.Role.{Role}
use Rattle.turtle_statements.specs.declared.context.Context.{Context}

-- the base, if there is one, and the IRI of each prefix, by the order of the prefixes; and which document it is
pub record Names : Type 0 where
  pub role : Role
  pub base : Option (List ℕ)
  pub namespaces : List (List ℕ × List ℕ)

-- at first there is no base and no prefix
abbrev pub no_names : Role → Names
no_names role = record { role = role; base = None; namespaces = [] }

-- the IRI of a prefix
abbrev pub namespace_of : Names → List ℕ → Option (List ℕ)
namespace_of names prefix = lookup (is_at (text_cmp prefix)) names.namespaces

-- a prefix has this IRI from now on, also where it had another
abbrev pub with_prefix : Names → List ℕ × List ℕ → Names
with_prefix names p = record {
  role = names.role;
  base = names.base;
  namespaces = insert_entry text_cmp names.namespaces p.0 p.1;
}

-- the base from now on
abbrev pub with_base : Names → List ℕ → Names
with_base names iri = record { role = names.role; base = Some iri; namespaces = names.namespaces }

-- what the code keeps
abbrev pub names_of : Context → Names
names_of c = record { role = c.role; base = c.base; namespaces = c.namespaces.entries }

-- the base and what the prefixes stand for are IRIs
pub record AreLawfulNames (names : Names) : Type 0 where
  pub base : IfSome names.base IsIri
  pub namespaces : All IsIri (values_of names.namespaces)
