-- A text is cut into lines in one way.
use Rattle.std.proofs.Common.{◌≡◌, ℕ, not, ◌==◌, ◌⊎◌, inl, inr, List, [], ◌∷◌, ◌++◌, refl, sym, ap, ◌∙◌, append_assoc}
use Rattle.std.specs.List.{All}
use Rattle.std.proofs.lemmas.List.{append-nil}
use Rattle.std.proofs.lemmas.List.Concat.{flat_map-append}
use Rattle.std.proofs.lemmas.List.Elements.{All-head, All-tail}
use Rattle.ntriples_io.proofs.CuttingLemmas.{and_both}
use Rattle.proof_documents.specs.DocumentText.{line}
use Rattle.proof_documents.specs.Text.{IsPlain, lines_text}

-- a plain text does not begin with LF
no_lf : (b : ℕ) (text : List ℕ) → IsPlain (b ∷ text) → b ≡ 10 → ⊥
no_lf b text h e = let both = and_both (not (b == 10)) _ h in let k = rw e at both.0 in absurd cc

plain_rest : (b : ℕ) (text : List ℕ) → IsPlain (b ∷ text) → IsPlain text
plain_rest b text h = let both = and_both (not (b == 10)) _ h in both.1

-- the first line of a text ends at its first LF
pub first_line : (a b rest more : List ℕ) → IsPlain a → IsPlain b → line a ++ rest ≡ line b ++ more → (a ≡ b) × (rest ≡ more)
first_line [] [] rest more h k e = (refl, cc)
first_line [] (c ∷ b) rest more h k e = absurd (no_lf c b k cc)
first_line (c ∷ a) [] rest more h k e = absurd (no_lf c a h cc)
first_line (c ∷ a) (d ∷ b) rest more h k e =
    let tails : line a ++ rest ≡ line b ++ more = cc in
    let both = first_line a b rest more (plain_rest c a h) (plain_rest d b k) tails in
    let heads : c ≡ d = cc in
    (ap (λ (n : ℕ). n ∷ a) heads ∙ ap (λ (t : List ℕ). d ∷ t) both.0, both.1)

-- a line is not empty
no_line : (a rest : List ℕ) → line a ++ rest ≡ [] → ⊥
no_line [] rest e = absurd cc
no_line (b ∷ a) rest e = absurd cc

-- nor plain
pub line_breaks : (a rest : List ℕ) → IsPlain (line a ++ rest) → ⊥
line_breaks [] rest h = no_lf 10 rest h refl
line_breaks (b ∷ a) rest h = line_breaks a rest (plain_rest b (line a ++ rest) h)

pub lines_text-push : (texts : List (List ℕ)) (text : List ℕ) → lines_text (texts ++ text ∷ []) ≡ lines_text texts ++ line text
lines_text-push texts text = flat_map-append line texts (text ∷ []) ∙ ap (λ (t : List ℕ). lines_text texts ++ t) (append-nil (line text))

-- lines that stand before the rest of a text are the first of its lines
pub record IsFront (front whole : List (List ℕ)) (rest : List ℕ) : Type 0 where
  pub more : List (List ℕ)
  pub parts : whole ≡ front ++ more
  pub is_rest : rest ≡ lines_text more

pub cut_front : (front whole : List (List ℕ)) (rest : List ℕ) → All IsPlain front → All IsPlain whole → lines_text front ++ rest ≡ lines_text whole → IsFront front whole rest
cut_front [] whole rest h k e = record { more = whole; parts = refl; is_rest = e }
cut_front (a ∷ front) [] rest h k e = absurd (no_line a (lines_text front ++ rest) (sym (append_assoc (line a) (lines_text front) rest) ∙ e))
cut_front (a ∷ front) (b ∷ whole) rest h k e =
    let both = first_line a b (lines_text front ++ rest) (lines_text whole) (All-head IsPlain a front h) (All-head IsPlain b whole k) (sym (append_assoc (line a) (lines_text front) rest) ∙ e) in
    let inner = cut_front front whole rest (All-tail IsPlain a front h) (All-tail IsPlain b whole k) both.1 in
    record {
      more = inner.more;
      parts = ap (λ (t : List (List ℕ)). b ∷ t) inner.parts ∙ ap (λ (t : List ℕ). t ∷ (front ++ inner.more)) (sym both.0);
      is_rest = inner.is_rest;
    }

-- of two cuts of a text, one goes on by this line
pub record GoesOn (front longer : List (List ℕ)) (rest : List ℕ) : Type 0 where
  pub next : List ℕ
  pub more : List (List ℕ)
  pub parts : longer ≡ front ++ next ∷ more
  pub plain : IsPlain next
  pub later : List ℕ
  pub is_rest : rest ≡ line next ++ later

goes_later : (a b : List ℕ) (front longer : List (List ℕ)) (rest : List ℕ) → a ≡ b → GoesOn front longer rest → GoesOn (a ∷ front) (b ∷ longer) rest
goes_later a b front longer rest same h = record {
  next = h.next;
  more = h.more;
  parts = ap (λ (t : List (List ℕ)). b ∷ t) h.parts ∙ ap (λ (t : List ℕ). t ∷ (front ++ h.next ∷ h.more)) (sym same);
  plain = h.plain;
  later = h.later;
  is_rest = h.is_rest;
}

pub two_cuts : (first second : List (List ℕ)) (rest more : List ℕ) → All IsPlain first → All IsPlain second → lines_text first ++ rest ≡ lines_text second ++ more → (first ≡ second) ⊎ GoesOn first second rest ⊎ GoesOn second first more
two_cuts [] [] rest more h k e = inl refl
two_cuts [] (b ∷ second) rest more h k e = inr (inl (record { next = b; more = second; parts = refl; plain = All-head IsPlain b second k; later = lines_text second ++ more; is_rest = e ∙ append_assoc (line b) (lines_text second) more }))
two_cuts (a ∷ first) [] rest more h k e = inr (inr (record { next = a; more = first; parts = refl; plain = All-head IsPlain a first h; later = lines_text first ++ rest; is_rest = sym e ∙ append_assoc (line a) (lines_text first) rest }))
two_cuts (a ∷ first) (b ∷ second) rest more h k e =
    let both =
    first_line a b (lines_text first ++ rest) (lines_text second ++ more) (All-head IsPlain a first h) (All-head IsPlain b second k) (sym (append_assoc (line a) (lines_text first) rest) ∙ e ∙ append_assoc (line b) (lines_text second) more) in
    elim (two_cuts first second rest more (All-tail IsPlain a first h) (All-tail IsPlain b second k) both.1) [
      | inl same ↦ inl (ap (λ (t : List ℕ). t ∷ first) both.0 ∙ ap (λ (t : List (List ℕ)). b ∷ t) same)
      | inr on ↦ elim on [ inl there ↦ inr (inl (goes_later a b first second rest both.0 there)) | inr here ↦ inr (inr (goes_later b a second first more (sym both.0) here)) ]
    ]
