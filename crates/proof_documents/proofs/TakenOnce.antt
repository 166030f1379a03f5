-- A line that may come next gives one draft: the kinds of lines differ in their first byte.
use Rattle.std.proofs.Common.{◌≡◌, ◌≢◌, ℕ, ◌⊎◌, inl, inr, List, [], ◌∷◌, ◌++◌, get_or, Some, refl, sym, ap, subst, ◌∙◌, arith}
use Rattle.rdf_terms.specs.declared.term.Scope.TheVariants.{Data}
use Rattle.rdf_terms.specs.Statement.{Statement}
use Rattle.ntriples_io.specs.CanonicalText.{line_text, line_feed}
use Rattle.ntriples_io.specs.Lines.{IsLine}
use Rattle.ntriples_io.proofs.LineForms.{one_meaning}
use Rattle.proof_lines.specs.declared.proof.Claim.{Claim}
use Rattle.proof_lines.specs.declared.proof.Claim.TheVariants.{Pair, NoPair, Spent}
use Rattle.proof_lines.specs.declared.proof.ProofLine.{ProofLine}
use Rattle.proof_lines.specs.declared.proof.ProofLine.TheVariants.{Chain, Rule, Step}
use Rattle.proof_documents.specs.declared.draft.Draft.{Draft}
use Rattle.proof_documents.specs.declared.draft.Stage.{Stage}
use Rattle.proof_documents.specs.declared.draft.Stage.TheVariants.{Version, Claimed, Adds, Deletes, Proved, Ended}
use Rattle.proof_documents.specs.Document.{IsSpelled}
use Rattle.proof_documents.specs.DocumentText.{line, claim_text, add_prefix, delete_prefix, proof_line_text, end_text}
use Rattle.proof_documents.specs.Lines.{IsProofLine, IsTripleLine}
use Rattle.proof_documents.specs.Stages.{after_claim, TakesClaim, TakesAdd, TakesDelete, TakesProofLine, at_stage, TakesAt, Takes, Leads}
use Rattle.proof_documents.proofs.ProofLines.{one_line}

-- ---- the first byte of a line, which is LF where the line is empty

abbrev first : List ℕ → ℕ
first [] = 10
first (b ∷ text) = b

first-line : (text : List ℕ) → first (line text) ≡ first text
first-line [] = refl
first-line (b ∷ text) = refl

first_add : (text : List ℕ) (t : Statement) → IsTripleLine add_prefix text t → first text ≡ 97
first_add text t h = sym (first-line text) ∙ ap first h.spelled

first_delete : (text : List ℕ) (t : Statement) → IsTripleLine delete_prefix text t → first text ≡ 100
first_delete text t h = sym (first-line text) ∙ ap first h.spelled

-- none of the first bytes of the other kinds
record IsProofByte (b : ℕ) : Type 0 where
  no_add : b ≢ 97
  no_delete : b ≢ 100
  no_end : b ≢ 101

first_proof_line : (l : ProofLine) → IsProofByte (first (proof_line_text l))
first_proof_line (Chain places) = record { no_add = λ e. omega arith; no_delete = λ e. omega arith; no_end = λ e. omega arith }
first_proof_line (Rule rule) = record { no_add = λ e. omega arith; no_delete = λ e. omega arith; no_end = λ e. omega arith }
first_proof_line (Step ids) = record { no_add = λ e. omega arith; no_delete = λ e. omega arith; no_end = λ e. omega arith }

proof_byte : (text : List ℕ) (l : ProofLine) → IsProofLine text l → IsProofByte (first text)
proof_byte text l h = subst (λ (t : List ℕ). IsProofByte (first t)) (sym h.spelled) (first_proof_line l)

-- ---- one kind of line

same_front : (a b : List ℕ) (n : ℕ) → a ++ n ∷ [] ≡ b ++ n ∷ [] → a ≡ b
same_front [] [] n e = refl
same_front [] (y ∷ []) n e = absurd cc
same_front [] (y ∷ z ∷ b) n e = absurd cc
same_front (x ∷ []) [] n e = absurd cc
same_front (x ∷ z ∷ a) [] n e = absurd cc
same_front (x ∷ a) (y ∷ b) n e =
    let tails : a ++ n ∷ [] ≡ b ++ n ∷ [] = cc in
    let same = same_front a b n tails in
    cc

one_spelled : (t u : Statement) → IsSpelled t → IsSpelled u → line_text t ≡ line_text u → t ≡ u
one_spelled t u h k e =
    let same : h.line ≡ k.line = same_front h.line k.line line_feed (sym h.ended ∙ e ∙ k.ended) in
    let meaning : Some t ≡ Some u = one_meaning Data h.line (Some t) (Some u) h.is_line (subst (λ (l : List ℕ). IsLine Data l (Some u)) (sym same) k.is_line) in
    cc

one_add : (text : List ℕ) (t u : Statement) → IsTripleLine add_prefix text t → IsTripleLine add_prefix text u → t ≡ u
one_add text t u h k = let e : add_prefix ++ line_text t ≡ add_prefix ++ line_text u = sym h.spelled ∙ k.spelled in one_spelled t u h.lawful k.lawful cc

one_delete : (text : List ℕ) (t u : Statement) → IsTripleLine delete_prefix text t → IsTripleLine delete_prefix text u → t ≡ u
one_delete text t u h k = let e : delete_prefix ++ line_text t ≡ delete_prefix ++ line_text u = sym h.spelled ∙ k.spelled in one_spelled t u h.lawful k.lawful cc

-- the words of two claims differ in their first letter
differ : {P : Type 0} (a b : List ℕ) → get_or a 6 0 ≢ get_or b 6 0 → a ≡ b → P
differ a b other e = absurd (other (ap (λ (t : List ℕ). get_or t 6 0) e))

claim_once : (c d : Claim) → claim_text c ≡ claim_text d → c ≡ d
claim_once Pair Pair e = refl
claim_once Pair NoPair e = differ (claim_text Pair) (claim_text NoPair) (λ h. omega arith) e
claim_once Pair Spent e = differ (claim_text Pair) (claim_text Spent) (λ h. omega arith) e
claim_once NoPair Pair e = differ (claim_text NoPair) (claim_text Pair) (λ h. omega arith) e
claim_once NoPair NoPair e = refl
claim_once NoPair Spent e = differ (claim_text NoPair) (claim_text Spent) (λ h. omega arith) e
claim_once Spent Pair e = differ (claim_text Spent) (claim_text Pair) (λ h. omega arith) e
claim_once Spent NoPair e = differ (claim_text Spent) (claim_text NoPair) (λ h. omega arith) e
claim_once Spent Spent e = refl

takes_claim_once : (s t u : Draft) (text : List ℕ) → TakesClaim s text t → TakesClaim s text u → t ≡ u
takes_claim_once s t u text h k =
    let same = claim_once h.claim k.claim (sym h.spelled ∙ k.spelled) in
    h.is ∙ ap (λ (c : Claim). record { stage = after_claim c; claim = c; adds = s.adds; deletes = s.deletes; lines = s.lines }) same ∙ sym k.is

takes_add_once : (s t u : Draft) (text : List ℕ) → TakesAdd s text t → TakesAdd s text u → t ≡ u
takes_add_once s t u text h k =
    h.is ∙ ap (λ (x : Statement). record { stage = Adds; claim = s.claim; adds = s.adds ++ x ∷ []; deletes = s.deletes; lines = s.lines }) (one_add text h.triple k.triple h.spelled k.spelled) ∙ sym k.is

takes_delete_once : (s t u : Draft) (text : List ℕ) → TakesDelete s text t → TakesDelete s text u → t ≡ u
takes_delete_once s t u text h k =
    h.is ∙ ap (λ (x : Statement). record { stage = Deletes; claim = s.claim; adds = s.adds; deletes = s.deletes ++ x ∷ []; lines = s.lines }) (one_delete text h.triple k.triple h.spelled k.spelled) ∙ sym k.is

takes_proof_line_once : (s t u : Draft) (text : List ℕ) → TakesProofLine s text t → TakesProofLine s text u → t ≡ u
takes_proof_line_once s t u text h k =
    let same = one_line h.read k.read h.spelled.lawful k.spelled.lawful (sym h.spelled.spelled ∙ k.spelled.spelled) in
    h.is ∙ ap (λ (l : ProofLine). record { stage = Proved; claim = s.claim; adds = s.adds; deletes = s.deletes; lines = s.lines ++ l ∷ [] }) same ∙ sym k.is

-- ---- any kind of line

-- of two kinds that exclude one another
of_two : {A B C D P : Type 0} → (A → C → P) → (B → D → P) → (A → D → ⊥) → (C → B → ⊥) → A ⊎ B → C ⊎ D → P
of_two one other never nor (inl h) (inl k) = one h k
of_two one other never nor (inl h) (inr k) = absurd (never h k)
of_two one other never nor (inr h) (inl k) = absurd (nor k h)
of_two one other never nor (inr h) (inr k) = other h k

-- the end, or a line of the proof
not_delete : (s t : Draft) (text : List ℕ) → TakesAt Proved s text t → first text ≢ 100
not_delete s t text (inl h) = let b = proof_byte text h.read h.spelled in b.no_delete
not_delete s t text (inr h) = λ e. let f = ap first h.0 in omega arith

-- one of these, or a deletion
not_add : (s t : Draft) (text : List ℕ) → TakesAt Deletes s text t → first text ≢ 97
not_add s t text (inl h) = λ e. let f = first_delete text h.triple h.spelled in omega arith
not_add s t text (inr (inl h)) = let b = proof_byte text h.read h.spelled in b.no_add
not_add s t text (inr (inr h)) = λ e. let f = ap first h.0 in omega arith

read_or_end : (s t u v : Draft) (text : List ℕ) → TakesProofLine s text t → (text ≡ end_text) × (u ≡ v) → ⊥
read_or_end s t u v text h k = let b = proof_byte text h.read h.spelled in b.no_end (ap first k.0)

delete_or_later : (s t u : Draft) (text : List ℕ) → TakesDelete s text t → TakesAt Proved s text u → ⊥
delete_or_later s t u text h k = not_delete s u text k (first_delete text h.triple h.spelled)

add_or_later : (s t u : Draft) (text : List ℕ) → TakesAdd s text t → TakesAt Deletes s text u → ⊥
add_or_later s t u text h k = not_add s u text k (first_add text h.triple h.spelled)

takes_proof_once : (s t u : Draft) (text : List ℕ) → TakesAt Proved s text t → TakesAt Proved s text u → t ≡ u
takes_proof_once s t u text = of_two (takes_proof_line_once s t u text) (λ h k. h.1 ∙ sym k.1) (read_or_end s t u (at_stage Ended s) text) (read_or_end s u t (at_stage Ended s) text)

takes_deletes_once : (s t u : Draft) (text : List ℕ) → TakesAt Deletes s text t → TakesAt Deletes s text u → t ≡ u
takes_deletes_once s t u text = of_two (takes_delete_once s t u text) (takes_proof_once s t u text) (delete_or_later s t u text) (delete_or_later s u t text)

takes_once_at : (stage : Stage) (s t u : Draft) (text : List ℕ) → TakesAt stage s text t → TakesAt stage s text u → t ≡ u
takes_once_at Version s t u text h k = h.1 ∙ sym k.1
takes_once_at Claimed s t u text h k = takes_claim_once s t u text h k
takes_once_at Adds s t u text h k = of_two (takes_add_once s t u text) (takes_deletes_once s t u text) (add_or_later s t u text) (add_or_later s u t text) h k
takes_once_at Deletes s t u text h k = takes_deletes_once s t u text h k
takes_once_at Proved s t u text h k = takes_proof_once s t u text h k
takes_once_at Ended s t u text h k = absurd h

takes_once : (s t u : Draft) (text : List ℕ) → Takes s text t → Takes s text u → t ≡ u
takes_once s t u text h k = takes_once_at s.stage s t u text h k

-- the lines of a text lead to one draft
pub leads_once : (texts : List (List ℕ)) (s t u : Draft) → Leads s texts t → Leads s texts u → t ≡ u
leads_once [] s t u h k = sym h ∙ k
leads_once (text ∷ texts) s t u h k =
    let same = takes_once s h.0 k.0 text h.1 k.1 in
    leads_once texts k.0 t u (subst (λ (d : Draft). Leads d texts t) same h.2) k.2

-- behind these lines the next one was taken from what they lead to
pub leads_through : (texts more : List (List ℕ)) (text : List ℕ) (s t u : Draft) → Leads s texts t → Leads s (texts ++ text ∷ more) u → (next : Draft) × Takes t text next
leads_through [] more text s t u h k = (k.0, subst (λ (d : Draft). Takes d text k.0) h k.1)
leads_through (l ∷ texts) more text s t u h k =
    let same = takes_once s k.0 h.0 l k.1 h.1 in
    leads_through texts more text h.0 t u h.2 (subst (λ (d : Draft). Leads d (texts ++ text ∷ more) u) same k.2)
