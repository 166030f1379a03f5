-- What the code keeps components in. Private functions cite it.
use Rattle.std.specs.String.{string_bytes}
use Rattle.std.specs.Option.{option_copied}
use Rattle.iri_references.specs.declared.components.Parts as code
use Rattle.iri_references.specs.declared.target.Target as code_target
use Rattle.iri_references.specs.Components.{Components}

abbrev pub parts : code.Parts → Components
parts p = record {
  authority = option_copied p.authority;
  path = p.path.now;
  query = option_copied p.query;
  fragment = option_copied p.fragment;
}

abbrev pub target_parts : code_target.Target → Components
target_parts t = record {
  authority = option_copied t.authority;
  path = string_bytes t.path;
  query = option_copied t.query;
  fragment = option_copied t.fragment;
}
