-- The resolution of references (RFC 3986, section 5). What a reference with a scheme gives is the reference itself.
use Rattle.std.specs.Prelude.{ℕ, ◌==◌, ◌-◌, ◌&&◌, Bool, not, List, []}
use Rattle.std.specs.Prelude.{◌++◌, take, length, Option, Some, None, is_some, codes}
use Rattle.std.specs.Bool.{if◌then◌else◌}
use Rattle.std.specs.Option.{option_or}
use Rattle.std.specs.List.{suffix_len, before_first, after_first}
use Rattle.rdf_grammar.specs.Reading.{has_scheme}
use Rattle.iri_references.specs.Components.{Components, components_of, is_colon, is_slash, begins_with}
use Rattle.iri_references.specs.DotSegments.{without_dot_segments}

abbrev pub is_empty : List ℕ → Bool
is_empty text = length text == 0

-- up to and with the last character that passes, or nothing where none does
abbrev pub up_to_last : (ℕ → Bool) → List ℕ → List ℕ
up_to_last p text = take (length text - suffix_len (λ c. not (p c)) text) text

-- section 5.2.3: the path of a reference, behind all but the last segment of the base's path
abbrev pub merged : Components → List ℕ → List ℕ
merged base path =
    if is_some base.authority && is_empty base.path then codes "/" ++ path
    else up_to_last is_slash base.path ++ path

-- a path that begins with '/' is whole, and any other is merged
abbrev pub whole_path : Components → List ℕ → List ℕ
whole_path base path = if begins_with (codes "/") path then path else merged base path

-- section 5.2.2, of a reference without a scheme
abbrev pub target : Components → Components → Components
target base reference =
    if is_some reference.authority then record {
      authority = reference.authority;
      path = without_dot_segments reference.path;
      query = reference.query;
      fragment = reference.fragment;
    }
    else if is_empty reference.path then record {
      authority = base.authority;
      path = base.path;
      query = option_or reference.query base.query;
      fragment = reference.fragment;
    }
    else record {
      authority = base.authority;
      path = without_dot_segments (whole_path base reference.path);
      query = reference.query;
      fragment = reference.fragment;
    }

-- a component behind its mark, or nothing where it isn't there
abbrev pub marked : List ℕ → Option (List ℕ) → List ℕ
marked mark None = []
marked mark (Some component) = mark ++ component

-- section 5.3
abbrev pub recomposed : List ℕ → Components → List ℕ
recomposed scheme c =
    scheme ++ codes ":" ++ marked (codes "//") c.authority ++ c.path ++ marked (codes "?") c.query
    ++ marked (codes "#") c.fragment

-- The base is a scheme, ':' and a rest. `has_scheme` is true exactly where a text begins with a scheme.
unfoldable pub resolved : List ℕ → List ℕ → List ℕ
resolved base reference =
    if has_scheme reference then reference
    else recomposed (before_first is_colon base)
    (target (components_of (after_first is_colon base)) (components_of reference))
