-- The walk over the lines of a text.
use Rattle.std.proofs.Common.{◌≡◌, ◌≢◌, ℕ, ◌+◌, ◌≤◌, ◌⊎◌, inl, inr, List, [], ◌∷◌, ◌++◌, length, refl, sym, ap, subst, ◌∙◌, append_assoc, arith, length-append}
use Rattle.std.specs.List.{All}
use Rattle.std.proofs.lemmas.List.{append-nil, nil_from_length}
use Rattle.std.proofs.lemmas.List.Concat.{flat_map-append, flat_map-cons}
use Rattle.std.proofs.lemmas.List.Elements.{All-nil, All-cons, All-append}
use Rattle.proof_documents.specs.declared.draft.Draft.{Draft}
use Rattle.proof_documents.specs.declared.draft.Stage.{Stage}
use Rattle.proof_documents.specs.declared.draft.Stage.TheVariants.{Version, Claimed, Adds, Deletes, Proved, Ended}
use Rattle.proof_documents.specs.DocumentText.{line}
use Rattle.proof_documents.specs.Stages.{nothing_read, document_of, TakesAt, Takes, HasRead}
use Rattle.proof_documents.specs.Text.{IsDocument, IsPlain, lines_text, IsFirstBad}
use Rattle.proof_documents.proofs.Reading.{whole_document, bad_line, early_end, read_more}

-- the lines before this number were read, and the rest is left
pub record HasWalked (bytes rest : List ℕ) (s : Draft) (number : ℕ) : Type 0 where
  pub texts : List (List ℕ)
  pub parts : bytes ≡ lines_text texts ++ rest
  pub read : HasRead texts s
  pub plain : All IsPlain texts
  pub count : number ≡ length texts + 1
  pub few : length s.adds + length s.deletes ≤ length texts

pub walked_none : (bytes : List ℕ) → HasWalked bytes bytes nothing_read 1
walked_none bytes = record { texts = []; parts = refl; read = refl; plain = All-nil IsPlain; count = refl; few = omega arith }

-- ---- one line more

-- a line has at most one triple
abbrev Grows : Draft → Draft → Type 0
Grows s t = length t.adds + length t.deletes ≤ length s.adds + length s.deletes + 1

proof_grows : (s t : Draft) (text : List ℕ) → TakesAt Proved s text t → Grows s t
proof_grows s t text h =
    elim h [
      | inl read ↦ subst (Grows s) (sym read.is) (omega arith)
      | inr end ↦ subst (Grows s) (sym end.1) (omega arith)
    ]

deletes_grow : (s t : Draft) (text : List ℕ) → TakesAt Deletes s text t → Grows s t
deletes_grow s t text h =
    elim h [
      | inl delete ↦ subst (Grows s) (sym delete.is) (omega (arith, length-append s.deletes (delete.triple ∷ [])))
      | inr other ↦ proof_grows s t text other
    ]

takes_grows : (stage : Stage) (s t : Draft) (text : List ℕ) → TakesAt stage s text t → Grows s t
takes_grows Version s t text h = subst (Grows s) (sym h.1) (omega arith)
takes_grows Claimed s t text h = subst (Grows s) (sym h.is) (omega arith)
takes_grows Adds s t text h =
    elim h [
      | inl add ↦ subst (Grows s) (sym add.is) (omega (arith, length-append s.adds (add.triple ∷ [])))
      | inr other ↦ deletes_grow s t text other
    ]
takes_grows Deletes s t text h = deletes_grow s t text h
takes_grows Proved s t text h = proof_grows s t text h
takes_grows Ended s t text h = absurd h

more_joined : (bytes text later : List ℕ) (texts : List (List ℕ)) → bytes ≡ lines_text texts ++ (line text ++ later) → bytes ≡ lines_text (texts ++ text ∷ []) ++ later
more_joined bytes text later texts e =
    let one : lines_text (text ∷ []) ≡ line text = flat_map-cons line text [] ∙ append-nil (line text) in
    e ∙ sym (append_assoc (lines_text texts) (line text) later) ∙ ap (λ (b : List ℕ). b ++ later) (sym (flat_map-append line texts (text ∷ []) ∙ ap (λ (b : List ℕ). lines_text texts ++ b) one))

pub walked_more : (bytes rest text later : List ℕ) (s t : Draft) (number : ℕ) → HasWalked bytes rest s number → rest ≡ line text ++ later → IsPlain text → Takes s text t → HasWalked bytes later t (number + 1)
walked_more bytes rest text later s t number h e plain takes = record {
  texts = h.texts ++ text ∷ [];
  parts = more_joined bytes text later h.texts (h.parts ∙ ap (λ (b : List ℕ). lines_text h.texts ++ b) e);
  read = read_more h.texts s t text h.read takes;
  plain = All-append IsPlain h.texts (text ∷ []) h.plain (All-cons IsPlain text [] plain (All-nil IsPlain));
  count = omega (arith, h.count, length-append h.texts (text ∷ []));
  few = omega (arith, h.few, takes_grows s.stage s t text takes, length-append h.texts (text ∷ []));
}

-- ---- bounds

lines_few : (texts : List (List ℕ)) → length texts ≤ length (lines_text texts)
lines_few [] = omega arith
lines_few (text ∷ texts) = omega (arith, lines_few texts, ap length (flat_map-cons line text texts), length-append (line text) (lines_text texts), length-append text (10 ∷ []))

pub walked_few : (bytes rest : List ℕ) (s : Draft) (number : ℕ) (h : HasWalked bytes rest s number) → length h.texts ≤ length bytes
walked_few bytes rest s number h = omega (arith, lines_few h.texts, ap length h.parts, length-append (lines_text h.texts) rest)

-- ---- answers

pub refused_here : (bytes rest text later : List ℕ) (s : Draft) (number : ℕ) → HasWalked bytes rest s number → rest ≡ line text ++ later → IsPlain text → ((t : Draft) → ¬ (Takes s text t)) → IsFirstBad bytes number
refused_here bytes rest text later s number h e plain refused =
    subst (IsFirstBad bytes) (sym h.count)
    (bad_line bytes h.texts s text later h.read h.plain plain refused (h.parts ∙ ap (λ (b : List ℕ). lines_text h.texts ++ b) e ∙ sym (append_assoc (lines_text h.texts) (line text) later)))

pub ended_early : (bytes rest : List ℕ) (s : Draft) (number : ℕ) → HasWalked bytes rest s number → IsPlain rest → (s.stage ≢ Ended) ⊎ (rest ≢ []) → IsFirstBad bytes number
ended_early bytes rest s number h plain short = subst (IsFirstBad bytes) (sym h.count) (early_end bytes h.texts s rest h.read h.plain plain h.parts short)

pub all_read : (bytes rest : List ℕ) (s : Draft) (number : ℕ) → HasWalked bytes rest s number → length rest ≡ 0 → s.stage ≡ Ended → IsDocument bytes (document_of s)
all_read bytes rest s number h e ended = whole_document bytes h.texts s h.read ended (h.parts ∙ ap (λ (b : List ℕ). lines_text h.texts ++ b) (nil_from_length rest e) ∙ append-nil (lines_text h.texts))
