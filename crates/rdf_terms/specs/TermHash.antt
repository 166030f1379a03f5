-- A hash of terms, by which a graph orders the objects of its triples. Only private functions are said by this.
use Rattle.std.specs.Prelude.{ℕ, ◌+◌, ◌*◌, ◌/◌, ◌%◌, ◌^◌, drop, length, List, Option, None, Some}
use Rattle.std.specs.Int.{w64, from_le_bytes}
use Rattle.std.specs.List.{fold}
use Rattle.std.specs.Simd.{first_chunks}
use Rattle.std.specs.declared.cmp.Ordering.{Ordering}
use Rattle.std.specs.Ordering.{nat_cmp, on, then_cmp}
use Rattle.rdf_terms.specs.Term.{term_cmp}
use Rattle.rdf_terms.specs.declared.term.Term.{Term}
use Rattle.rdf_terms.specs.declared.term.Term.TheVariants.{Iri, Blank, Literal}

-- one more word, as 64 bits have room
abbrev pub hash_step : ℕ → ℕ → ℕ
hash_step hash word = ((hash * 11400714819323198485) % 2 ^ 64 + word) % 2 ^ 64

-- behind what was hashed before, the bytes of a text: eight at a time, and then those that are left
abbrev pub text_hash : ℕ → List ℕ → ℕ
text_hash hash text =
    fold hash_step
    (fold (λ h word. hash_step h (from_le_bytes w64 word)) hash (first_chunks 8 (length text / 8) text))
    (drop (length text / 8 * 8) text)

abbrev pub tag_hash : ℕ → Option (List ℕ) → ℕ
tag_hash hash None = hash
tag_hash hash (Some tag) = text_hash hash tag

-- the texts of the term, one behind the other
abbrev pub term_hash : Term → ℕ
term_hash (Iri a) = text_hash 0 a
term_hash (Blank s l) = text_hash 0 l
term_hash (Literal l d t) = tag_hash (text_hash (text_hash 0 l) d) t

-- by hash, and then in the order of terms, so that equal terms stand together
abbrev pub hashed_cmp : Term → Term → Ordering
hashed_cmp = then_cmp (on term_hash nat_cmp) term_cmp
