-- The IRI that a prefixed name stands for: RDF 1.1 Turtle, sections 2.4 and 6.4.
use Rattle.std.specs.Prelude.{◌≡◌, ℕ, ◌==◌, Bool, true, false, ◌&&◌, not, cond, List, [], ◌∷◌, ◌++◌, encode_utf8_all}
use Rattle.std.specs.List.{list_all}
use Rattle.regular_forms.specs.Regular.{Regular, Has, maybe}
use Rattle.turtle_tokens.specs.Tokens.{pn_prefix}

abbrev pub is_not_colon : ℕ → Bool
is_not_colon c = not (c == 58)

abbrev pub is_not_backslash : ℕ → Bool
is_not_backslash c = not (c == 92)

-- the prefix ends at the first ':', and the local part stands behind it
pub record IsNameOf (name prefix local : List ℕ) : Type 0 where
  pub parts : name ≡ prefix ++ 58 ∷ local
  pub first : list_all is_not_colon prefix ≡ true

-- the prefix is a PN_PREFIX, if there is one, and the local part of this form: `empty` in a PNAME_NS, and `pn_local` in
-- a PNAME_LN
pub record HasForms (form : Regular) (prefix local : List ℕ) : Type 0 where
  pub prefix_form : Has (maybe pn_prefix) prefix
  pub local_form : Has form local

-- the characters of a local part without the backslashes that escape one of them; whether the first is behind such a
-- backslash
abbrev pub unescaped : Bool → List ℕ → List ℕ
unescaped escaped [] = []
unescaped escaped (c ∷ cs) = cond ((c == 92) && not escaped) (unescaped true cs) (c ∷ unescaped false cs)

-- the IRI of the prefix and then the local part, without the backslashes that escape a character of it
abbrev pub expanded : List ℕ → List ℕ → List ℕ
expanded namespace local = namespace ++ encode_utf8_all (unescaped false local)
