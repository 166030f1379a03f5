-- What the lines that were read say of a text.
use Rattle.std.proofs.Common.{◌≡◌, ◌≢◌, ℕ, ◌+◌, ◌⊎◌, inl, inr, List, [], ◌∷◌, ◌++◌, length, Result, Ok, Err, refl, sym, ap, subst, ◌∙◌, append_assoc}
use Rattle.std.specs.List.{All}
use Rattle.std.proofs.lemmas.List.{append-nil}
use Rattle.std.proofs.lemmas.List.Concat.{flat_map-append}
use Rattle.std.proofs.lemmas.List.Elements.{All-push}
use Rattle.rdf_terms.specs.Answers.{UnlessMemory}
use Rattle.proof_documents.specs.declared.draft.Draft.{Draft}
use Rattle.proof_documents.specs.declared.draft.Stage.TheVariants.{Ended}
use Rattle.proof_documents.specs.declared.refusal.DocRefusal.{DocRefusal}
use Rattle.proof_documents.specs.declared.refusal.DocRefusal.TheVariants.{Line, OutOfMemory}
use Rattle.proof_documents.specs.Document.{Document}
use Rattle.proof_documents.specs.DocumentText.{line}
use Rattle.proof_documents.specs.Stages.{nothing_read, document_of, Takes, Leads, HasRead}
use Rattle.proof_documents.specs.Text.{IsDocument, BeginsDocument, IsPlain, lines_text, IsFirstBad, TextMeans, is_memory, IsAnswer}
use Rattle.proof_documents.proofs.Completing.{Spells, spells_begun, spells_on, begins_at, ends_at}
use Rattle.proof_documents.proofs.DocumentLines.{lines_of, lines_text-lines_of, plain-lines_of}
use Rattle.proof_documents.proofs.LineCuts.{first_line, line_breaks, lines_text-push, IsFront, cut_front, GoesOn, two_cuts}
use Rattle.proof_documents.proofs.LinesRead.{ended, leads-append, lines_read}
use Rattle.proof_documents.proofs.TakenOnce.{leads_once, leads_through}

-- the lines that a text of a document begins with are the first of the document's
fronts : (texts : List (List ℕ)) (rest : List ℕ) (d : Document) → All IsPlain texts → IsDocument (lines_text texts ++ rest) d → IsFront texts (lines_of d) rest
fronts texts rest d plain h = cut_front texts (lines_of d) rest plain (plain-lines_of d h.well_formed) (h.text ∙ sym (lines_text-lines_of d))

spells_read : (texts : List (List ℕ)) (s : Draft) → HasRead texts s → Spells s (lines_text texts)
spells_read texts s read = spells_on texts nothing_read s [] spells_begun read

begins : (texts : List (List ℕ)) (s : Draft) → HasRead texts s → BeginsDocument (lines_text texts)
begins texts s read = begins_at s.stage s.claim s.adds s.deletes s.lines (lines_text texts) (spells_read texts s read)

-- the lines are read to the end, so the text is a document
pub whole_document : (bytes : List ℕ) (texts : List (List ℕ)) (s : Draft) → HasRead texts s → s.stage ≡ Ended → bytes ≡ lines_text texts → IsDocument bytes (document_of s)
whole_document bytes texts s read end parts = subst (λ (text : List ℕ). IsDocument text (document_of s)) (sym parts) (ends_at s (lines_text texts) end (spells_read texts s read))

-- no document goes on by a line that was refused
no_more : (texts : List (List ℕ)) (s : Draft) (bad : List ℕ) → HasRead texts s → All IsPlain texts → IsPlain bad → ((t : Draft) → ¬ (Takes s bad t)) → BeginsDocument (lines_text texts ++ line bad) → ⊥
no_more texts s bad read plain bad_plain refused h =
    let text : lines_text (texts ++ bad ∷ []) ++ h.rest ≡ (lines_text texts ++ line bad) ++ h.rest = ap (λ (t : List ℕ). t ++ h.rest) (lines_text-push texts bad) in
    let front = fronts (texts ++ bad ∷ []) h.rest h.document (All-push IsPlain texts bad plain bad_plain) (subst (λ (t : List ℕ). IsDocument t h.document) (sym text) h.whole) in
    let parts : lines_of h.document ≡ texts ++ bad ∷ front.more = front.parts ∙ append_assoc texts (bad ∷ []) front.more in
    let led = subst (λ (t : List (List ℕ)). Leads nothing_read t (ended h.document)) parts (lines_read h.document h.whole.well_formed) in
    let next = leads_through texts front.more bad nothing_read s (ended h.document) read led in
    refused next.0 next.1

-- one more line can't stand there
pub bad_line : (bytes : List ℕ) (texts : List (List ℕ)) (s : Draft) (bad later : List ℕ) → HasRead texts s → All IsPlain texts → IsPlain bad → ((t : Draft) → ¬ (Takes s bad t)) → bytes ≡ lines_text texts ++ line bad ++ later → IsFirstBad bytes (length texts + 1)
bad_line bytes texts s bad later read plain bad_plain refused parts = record {
  before = texts;
  after = line bad ++ later;
  parts = parts ∙ append_assoc (lines_text texts) (line bad) later;
  plain = plain;
  begins = begins texts s read;
  count = refl;
  fails = inl (record { bad = bad; later = later; parts = refl; plain = bad_plain; no_document = no_more texts s bad read plain bad_plain refused });
}

-- plain bytes behind the last line of a document are none, and its lines are all
nothing_behind : (more : List (List ℕ)) (rest : List ℕ) → IsPlain rest → rest ≡ lines_text more → more ≡ []
nothing_behind [] rest plain e = refl
nothing_behind (l ∷ more) rest plain e = absurd (line_breaks l (lines_text more) (subst IsPlain e plain))

no_end : (texts : List (List ℕ)) (s : Draft) (rest : List ℕ) (d : Document) → HasRead texts s → All IsPlain texts → IsPlain rest → IsDocument (lines_text texts ++ rest) d → (s.stage ≡ Ended) × (rest ≡ [])
no_end texts s rest d read plain rest_plain h =
    let front = fronts texts rest d plain h in
    let none = nothing_behind front.more rest rest_plain front.is_rest in
    let all : lines_of d ≡ texts = front.parts ∙ ap (λ (t : List (List ℕ)). texts ++ t) none ∙ append-nil texts in
    let same = leads_once texts nothing_read s (ended d) read (subst (λ (t : List (List ℕ)). Leads nothing_read t (ended d)) all (lines_read d h.well_formed)) in
    (ap (λ (t : Draft). t.stage) same, front.is_rest ∙ ap lines_text none)

-- no line is left, and the end was not read or bytes follow the last line
pub early_end : (bytes : List ℕ) (texts : List (List ℕ)) (s : Draft) (rest : List ℕ) → HasRead texts s → All IsPlain texts → IsPlain rest → bytes ≡ lines_text texts ++ rest → (s.stage ≢ Ended) ⊎ (rest ≢ []) → IsFirstBad bytes (length texts + 1)
early_end bytes texts s rest read plain rest_plain parts short = record {
  before = texts;
  after = rest;
  parts = parts;
  plain = plain;
  begins = begins texts s read;
  count = refl;
  fails = inr (record { plain = rest_plain; no_document = λ d h. let k = no_end texts s rest d read plain rest_plain h in elim short [ inl unended ↦ unended k.0 | inr some ↦ some k.1 ] });
}

-- one more line of what was read
pub read_more : (texts : List (List ℕ)) (s t : Draft) (text : List ℕ) → HasRead texts s → Takes s text t → HasRead (texts ++ text ∷ []) t
read_more texts s t text read takes = leads-append texts (text ∷ []) nothing_read s t read (t, takes, refl)

-- ---- a text has one meaning

document_once : (bytes : List ℕ) (d e : Document) → IsDocument bytes d → IsDocument bytes e → d ≡ e
document_once bytes d e h k =
    let text : lines_text (lines_of d) ++ [] ≡ lines_text (lines_of e) = append-nil (lines_text (lines_of d)) ∙ lines_text-lines_of d ∙ sym h.text ∙ k.text ∙ sym (lines_text-lines_of e) in
    let front = cut_front (lines_of d) (lines_of e) [] (plain-lines_of d h.well_formed) (plain-lines_of e k.well_formed) text in
    let none = nothing_behind front.more [] refl front.is_rest in
    let all : lines_of e ≡ lines_of d = front.parts ∙ ap (λ (t : List (List ℕ)). lines_of d ++ t) none ∙ append-nil (lines_of d) in
    let same = leads_once (lines_of d) nothing_read (ended d) (ended e) (lines_read d h.well_formed) (subst (λ (t : List (List ℕ)). Leads nothing_read t (ended e)) all (lines_read e k.well_formed)) in
    ap document_of same

never_both : (bytes : List ℕ) (d : Document) (n : ℕ) → IsDocument bytes d → IsFirstBad bytes n → ⊥
never_both bytes d n h k =
    let whole = subst (λ (t : List ℕ). IsDocument t d) k.parts h in
    elim k.fails [
      | inl b ↦ b.no_document (record {
        rest = b.later;
        document = d;
        whole = subst (λ (t : List ℕ). IsDocument t d) (ap (λ (t : List ℕ). lines_text k.before ++ t) b.parts ∙ sym (append_assoc (lines_text k.before) (line b.bad) b.later)) whole;
      })
      | inr early ↦ early.no_document d whole
    ]

-- no document begins with a first bad line, so another cut of the bytes doesn't go on by it
no_longer : (bytes : List ℕ) (n : ℕ) (longer : List (List ℕ)) (x : IsFirstBad bytes n) → BeginsDocument (lines_text longer) → GoesOn x.before longer x.after → ⊥
no_longer bytes n longer x h on =
    let text : lines_text longer ≡ (lines_text x.before ++ line on.next) ++ lines_text on.more =
    ap lines_text on.parts ∙ flat_map-append line x.before (on.next ∷ on.more) ∙ sym (append_assoc (lines_text x.before) (line on.next) (lines_text on.more)) in
    elim x.fails [
      | inl b ↦
          let both = first_line b.bad on.next b.later on.later b.plain on.plain (sym b.parts ∙ on.is_rest) in
          let begun_so : lines_text longer ++ h.rest ≡ (lines_text x.before ++ line b.bad) ++ (lines_text on.more ++ h.rest) =
          ap (λ (t : List ℕ). t ++ h.rest) text ∙ append_assoc (lines_text x.before ++ line on.next) (lines_text on.more) h.rest ∙ ap (λ (t : List ℕ). (lines_text x.before ++ line t) ++ (lines_text on.more ++ h.rest)) (sym both.0) in
          b.no_document (record { rest = lines_text on.more ++ h.rest; document = h.document; whole = subst (λ (t : List ℕ). IsDocument t h.document) begun_so h.whole })
      | inr early ↦ line_breaks on.next on.later (subst IsPlain on.is_rest early.plain)
    ]

bad_once : (bytes : List ℕ) (n m : ℕ) → IsFirstBad bytes n → IsFirstBad bytes m → n ≡ m
bad_once bytes n m x y =
    elim (two_cuts x.before y.before x.after y.after x.plain y.plain (sym x.parts ∙ y.parts)) [
      | inl same ↦ x.count ∙ ap (λ (t : List (List ℕ)). length t + 1) same ∙ sym y.count
      | inr on ↦ elim on [ inl longer ↦ absurd (no_longer bytes n y.before x y.begins longer) | inr shorter ↦ absurd (no_longer bytes m x.before y x.begins shorter) ]
    ]

pub one_answer : (bytes : List ℕ) (result other : Result Document DocRefusal) → IsAnswer bytes result → TextMeans bytes other → UnlessMemory is_memory result (result ≡ other)
one_answer bytes (Ok d) (Ok e) h k = ap Ok (document_once bytes d e h k)
one_answer bytes (Ok d) (Err (Line n)) h k = absurd (never_both bytes d n h k)
one_answer bytes (Ok d) (Err OutOfMemory) h k = absurd k
one_answer bytes (Err (Line n)) (Ok d) h k = absurd (never_both bytes d n k h)
one_answer bytes (Err (Line n)) (Err (Line m)) h k = ap (λ (i : ℕ). Err (Line i)) (bad_once bytes n m h k)
one_answer bytes (Err (Line n)) (Err OutOfMemory) h k = absurd k
one_answer bytes (Err OutOfMemory) other h k = tt
