-- The text before a rest, in bytes.
use Rattle.std.proofs.Common.{◌≡◌, ℕ, ◌+◌, ◌-◌, List, ◌++◌, length, take, sym, ap, ◌∙◌, arith, length-append}
use Rattle.std.specs.Prelude.{encode_utf8_all}
use Rattle.std.specs.List.{slice_range}
use Rattle.std.specs.Str.{IsUtf8, IsCharBoundary, chars}
use Rattle.std.proofs.lemmas.Str.{encodes-append, encodes-chars, IsCharBoundary-at_seam}
use Rattle.grammar_forms.proofs.Exactness.{take_front}
use Rattle.rdf_grammar.specs.Answers.{IsRest}

abbrev pub spelled_front : List ℕ → List ℕ → List ℕ
spelled_front text rest = encode_utf8_all (take (length (chars text) - length (chars rest)) (chars text))

-- the bytes before the rest are those of the characters before it
pub front_parts : (text rest : List ℕ) → IsUtf8 text → IsUtf8 rest → IsRest (chars rest) (chars text) → text ≡ spelled_front text rest ++ rest
front_parts text rest u v h =
    let same : take (length (chars text) - length (chars rest)) (chars text) ≡ h.0 = take_front (chars text) h.0 (chars rest) h.1 in
    rw same (sym (encodes-chars text u) ∙ ap encode_utf8_all h.1 ∙ encodes-append h.0 (chars rest) ∙ ap (λ (t : List ℕ). encode_utf8_all h.0 ++ t) (encodes-chars rest v))

pub front_length : (text rest : List ℕ) → IsUtf8 text → IsUtf8 rest → IsRest (chars rest) (chars text) → length text ≡ length (spelled_front text rest) + length rest
front_length text rest u v h = ap length (front_parts text rest u v h) ∙ length-append (spelled_front text rest) rest

pub front_is : (text rest : List ℕ) → IsUtf8 text → IsUtf8 rest → IsRest (chars rest) (chars text) → slice_range text 0 (length text - length rest) ≡ spelled_front text rest
front_is text rest u v h =
    let n : length text - length rest - 0 ≡ length text - length rest = omega arith in
    rw n (take_front text (spelled_front text rest) rest (front_parts text rest u v h))

pub front_boundary : (text rest : List ℕ) → IsUtf8 text → IsUtf8 rest → IsRest (chars rest) (chars text) → IsCharBoundary text (length text - length rest)
front_boundary text rest u v h =
    let n : length text - length rest ≡ length (spelled_front text rest) = omega (arith, front_length text rest u v h) in
    rw n (IsCharBoundary-at_seam text (spelled_front text rest) rest (front_parts text rest u v h) v)
