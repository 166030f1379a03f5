-- The components of a reference that has no scheme, and of an IRI behind its scheme (RFC 3986, section 3). A text is
-- its UTF-8 bytes: no byte of a longer character is a delimiter, since each delimiter is ASCII.
use Rattle.std.specs.Prelude.{ℕ, ◌+◌, ◌==◌, Bool, nat_eq, List, drop, Option, Some, None, codes}
use Rattle.std.specs.Bool.{if◌then◌else◌}
use Rattle.std.specs.Option.{option_map}
use Rattle.std.specs.List.{starts_with, position, position_or_len, before_first}

abbrev pub is_colon : ℕ → Bool
is_colon c = c == 58

abbrev pub is_slash : ℕ → Bool
is_slash c = c == 47

abbrev pub is_question_mark : ℕ → Bool
is_question_mark c = c == 63

abbrev pub is_number_sign : ℕ → Bool
is_number_sign c = c == 35

abbrev pub begins_with : List ℕ → List ℕ → Bool
begins_with prefix text = starts_with nat_eq text prefix

-- what stands behind the first character that passes, where there is one
abbrev pub behind_first : (ℕ → Bool) → List ℕ → Option (List ℕ)
behind_first p text = option_map (λ i. drop (i + 1) text) (position p text)

-- from the first character that passes on
abbrev pub from_first : (ℕ → Bool) → List ℕ → List ℕ
from_first p text = drop (position_or_len p text) text

-- a component that may be there and be empty is an option
pub record Components : Type 0 where
  pub authority : Option (List ℕ)
  pub path : List ℕ
  pub query : Option (List ℕ)
  pub fragment : Option (List ℕ)

-- section 3.5: a fragment stands behind the first '#'
abbrev pub fragment_of : List ℕ → Option (List ℕ)
fragment_of text = behind_first is_number_sign text

-- section 3.4: a query stands behind the first '?', up to the '#'
abbrev pub query_of : List ℕ → Option (List ℕ)
query_of text = behind_first is_question_mark (before_first is_number_sign text)

-- section 3: before the query and the fragment
abbrev pub hier_part : List ℕ → List ℕ
hier_part text = before_first is_question_mark (before_first is_number_sign text)

-- section 3.2: an authority stands behind '//', up to the next '/'
abbrev pub authority_of : List ℕ → Option (List ℕ)
authority_of hier =
    if begins_with (codes "//") hier then Some (before_first is_slash (drop 2 hier)) else None

-- section 3.3: a path is what is left
abbrev pub path_of : List ℕ → List ℕ
path_of hier = if begins_with (codes "//") hier then from_first is_slash (drop 2 hier) else hier

abbrev pub components_of : List ℕ → Components
components_of text = record {
  authority = authority_of (hier_part text);
  path = path_of (hier_part text);
  query = query_of text;
  fragment = fragment_of text;
}
