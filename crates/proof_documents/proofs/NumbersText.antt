-- A text spells one list of numbers.
use Rattle.std.proofs.Common.{◌≡◌, ◌≢◌, ℕ, ◌+◌, ◌<◌, ◌^◌, List, [], ◌∷◌, ◌++◌, refl, sym, ap, ◌∙◌, append_assoc, arith, codes, decimal}
use Rattle.std.proofs.lemmas.List.{append-nil}
use Rattle.std.proofs.lemmas.List.Elements.{All-append, All-push, All-cons, All-nil, All-head, All-tail}
use Rattle.std.proofs.lemmas.List.Concat.{flat_map-append}
use Rattle.std.proofs.lemmas.Fmt.{decimal_by_steps, decimal_injective}
use Rattle.proof_documents.specs.Document.{AreShort}
use Rattle.proof_documents.specs.DocumentText.{numbers_text}
use Rattle.proof_documents.specs.Spaces.{IsUnspaced, IsSpaced, IsFirstPart}
use Rattle.proof_documents.proofs.SpaceLemmas.{NoSpace, one_part}

-- the number is below 2^64
abbrev pub IsShort : ℕ → Type 0
IsShort n = n < 2 ^ 64

-- ---- a number and the numbers after it

one_glyph : (d : ℕ) → IsUnspaced ((48 + d) ∷ [])
one_glyph d = All-cons NoSpace (48 + d) [] (λ e. omega arith) (All-nil NoSpace)

decimal_is_unspaced : (n : ℕ) → IsShort n → IsUnspaced (decimal n)
decimal_is_unspaced = decimal_by_steps (λ n ds. IsUnspaced ds) (λ n lt. one_glyph n) (λ n ds le word. All-append NoSpace ds _ word (one_glyph _))

numbers_are_spaced : (ns rest : List ℕ) → IsSpaced rest → IsSpaced (numbers_text ns ++ rest)
numbers_are_spaced [] rest s = s
numbers_are_spaced (n ∷ ns) rest s = refl

pub all_spaced : (ns : List ℕ) → IsSpaced (numbers_text ns)
all_spaced [] = tt
all_spaced (n ∷ ns) = refl

-- the numbers that were taken so far, and those that are left
record Continues (taken rest ns : List ℕ) : Type 0 where
  pub more : List ℕ
  pub all : ns ≡ taken ++ more
  pub short : AreShort more
  pub left : rest ≡ numbers_text more

-- what begins with numbers and is numbers goes on with numbers
continues : (taken rest ns : List ℕ) → AreShort taken → IsSpaced rest → AreShort ns → numbers_text taken ++ rest ≡ numbers_text ns → Continues taken rest ns
continues [] rest ns p s q e = record { more = ns; all = refl; short = q; left = e }
continues (t ∷ ts) rest [] p s q e = absurd cc
continues (t ∷ ts) rest (n ∷ ns) p s q e =
    let tails : (decimal t ++ numbers_text ts) ++ rest ≡ decimal n ++ numbers_text ns = cc in
    let t_short = All-head IsShort t ts p in
    let n_short = All-head IsShort n ns q in
    let parts : decimal t ++ (numbers_text ts ++ rest) ≡ decimal n ++ numbers_text ns = sym (append_assoc (decimal t) (numbers_text ts) rest) ∙ tails in
    let k = one_part _ _ _ _ (decimal_is_unspaced t t_short) (decimal_is_unspaced n n_short) (numbers_are_spaced ts rest s) (all_spaced ns) parts in
    let first : t ≡ n = decimal_injective t n t_short n_short k.0 in
    let h = continues ts rest ns (All-tail IsShort t ts p) s (All-tail IsShort n ns q) k.1 in
    let others : ns ≡ ts ++ h.more = h.all in
    record { more = h.more; all = cc; short = h.short; left = h.left }

no_numbers : (more : List ℕ) → [] ≡ numbers_text more → more ≡ []
no_numbers [] e = refl
no_numbers (m ∷ more) e = absurd cc

-- numbers have a text of their own
pub one_list : (ns ms : List ℕ) → AreShort ns → AreShort ms → numbers_text ns ≡ numbers_text ms → ns ≡ ms
one_list ns ms p q e =
    let k = continues ns [] ms p tt q (append-nil (numbers_text ns) ∙ e) in
    sym (k.all ∙ ap (λ more. ns ++ more) (no_numbers k.more k.left) ∙ append-nil ns)

-- ---- one number after another

-- these were taken from the whole text, and the rest is to be read
pub record SoFar (text taken rest : List ℕ) : Type 0 where
  pub parts : text ≡ numbers_text taken ++ rest
  pub short : AreShort taken
  pub spaced : IsSpaced rest

-- a number behind its space
abbrev spaced : ℕ → List ℕ
spaced n = codes " " ++ decimal n

pub one_taken : (text taken rest behind digits after : List ℕ) (n : ℕ) → SoFar text taken rest → rest ≡ 32 ∷ behind → IsFirstPart behind digits after → IsShort n → digits ≡ decimal n
    → SoFar text (taken ++ n ∷ []) after
one_taken text taken rest behind digits after n s r w short d = record {
  parts =
      s.parts ∙ ap (λ t. numbers_text taken ++ t) (r ∙ ap (λ t. 32 ∷ t) (w.parts ∙ ap (λ t. t ++ after) d))
      ∙ sym (append_assoc (numbers_text taken) (32 ∷ decimal n) after)
      ∙ ap (λ t. t ++ after) (sym (flat_map-append spaced taken (n ∷ []) ∙ ap (λ t. numbers_text taken ++ t) (append-nil (32 ∷ decimal n))));
  short = All-push IsShort taken n s.short short;
  spaced = w.ends;
}

goes_on : (behind digits after more : List ℕ) → AreShort more → IsFirstPart behind digits after → 32 ∷ behind ≡ numbers_text more → (n : ℕ) × IsShort n × (digits ≡ decimal n)
goes_on behind digits after [] p w e = absurd cc
goes_on behind digits after (m ∷ more) p w e =
    let tails : behind ≡ decimal m ++ numbers_text more = cc in
    let short = All-head IsShort m more p in
    (m, short, (one_part _ _ _ _ w.plain (decimal_is_unspaced m short) w.ends (all_spaced more) (sym w.parts ∙ tails)).0)

-- where no number stands next, the text spells no numbers
pub no_number : (text taken rest behind digits after : List ℕ) → SoFar text taken rest → rest ≡ 32 ∷ behind → IsFirstPart behind digits after → ((n : ℕ) → IsShort n → digits ≢ decimal n)
    → (ns : List ℕ) → AreShort ns → ¬ (text ≡ numbers_text ns)
no_number text taken rest behind digits after s r w none ns p e =
    let k = continues taken rest ns s.short s.spaced p (sym s.parts ∙ e) in
    let h = goes_on behind digits after k.more k.short w (sym r ∙ k.left) in
    none h.0 h.1 h.2

nothing_left : (rest : List ℕ) → IsSpaced rest → ((behind : List ℕ) → rest ≢ 32 ∷ behind) → rest ≡ []
nothing_left [] s none = refl
nothing_left (b ∷ bs) s none = absurd (none bs (ap (λ c. c ∷ bs) s))

pub all_taken : (text taken rest : List ℕ) → SoFar text taken rest → ((behind : List ℕ) → rest ≢ 32 ∷ behind) → text ≡ numbers_text taken
all_taken text taken rest s none = s.parts ∙ ap (λ t. numbers_text taken ++ t) (nothing_left rest s.spaced none) ∙ append-nil (numbers_text taken)
