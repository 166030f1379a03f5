-- The removal of dot segments (RFC 3986, section 5.2.4).
use Rattle.std.specs.Prelude.{ℕ, zero, suc, ◌+◌, ◌||◌, ◌&&◌, Bool, true, nat_eq}
use Rattle.std.specs.Prelude.{List, [], ◌∷◌, ◌++◌, take, drop, length, codes}
use Rattle.std.specs.Bool.{if◌then◌else◌}
use Rattle.std.specs.Cmp.Lexicographic.{pointwise}
use Rattle.std.specs.List.{before_last, position_or_len}
use Rattle.iri_references.specs.Components.{is_slash, begins_with}

pub record Buffers : Type 0 where
  pub input : List ℕ
  pub output : List ℕ

-- a segment before this text is complete: a '/' or the end stands behind it
abbrev pub ends_segment : List ℕ → Bool
ends_segment [] = true
ends_segment (c ∷ cs) = is_slash c

-- the text begins with this prefix, whose segment is complete
abbrev pub begins_with_segment : List ℕ → List ℕ → Bool
begins_with_segment prefix text = begins_with prefix text && ends_segment (drop (length prefix) text)

-- a '/' in the place of the prefix and of the '/' behind it, if any
abbrev pub slash_for : List ℕ → List ℕ → List ℕ
slash_for prefix text = codes "/" ++ drop (length prefix + 1) text

-- how long the first segment is, with the '/' before it, if any
abbrev pub segment_len : List ℕ → ℕ
segment_len input = position_or_len is_slash (drop 1 input) + 1

-- the first of the rules A to E that fits
abbrev pub turn : List ℕ → List ℕ → Buffers
turn input output =
    if begins_with (codes "../") input then record { input = drop 3 input; output = output }
    else if begins_with (codes "./") input then record { input = drop 2 input; output = output }
    else if begins_with_segment (codes "/.") input then record { input = slash_for (codes "/.") input; output = output }
    else if begins_with_segment (codes "/..") input
    then record { input = slash_for (codes "/..") input; output = before_last is_slash output }
    else if pointwise nat_eq input (codes ".") || pointwise nat_eq input (codes "..")
    then record { input = []; output = output }
    else record {
      input = drop (segment_len input) input;
      output = output ++ take (segment_len input) input;
    }

-- turns until the input is empty. Each makes it shorter, so no more are needed than it is long
abbrev pub output_after : ℕ → List ℕ → List ℕ → List ℕ
output_after zero input output = output
output_after (suc n) [] output = output
output_after (suc n) (c ∷ cs) output =
    output_after n (turn (c ∷ cs) output).input (turn (c ∷ cs) output).output

abbrev pub without_dot_segments : List ℕ → List ℕ
without_dot_segments path = output_after (length path) path []
