-- The lines that were read are the beginning of a document, and behind the end they are one.
use Rattle.std.proofs.Common.{◌≡◌, ℕ, List, [], ◌∷◌, ◌++◌, flat_map, inl, inr, refl, sym, ap, subst, ◌∙◌, append_assoc}
use Rattle.std.proofs.lemmas.List.{append-nil}
use Rattle.std.proofs.lemmas.List.Concat.{flat_map-append}
use Rattle.std.proofs.lemmas.List.Elements.{All-nil, All-push}
use Rattle.rdf_terms.specs.Statement.{Statement}
use Rattle.ntriples_io.specs.CanonicalText.{line_text}
use Rattle.proof_lines.specs.declared.proof.Claim.{Claim}
use Rattle.proof_lines.specs.declared.proof.Claim.TheVariants.{Pair, NoPair, Spent}
use Rattle.proof_lines.specs.declared.proof.ProofLine.{ProofLine}
use Rattle.proof_documents.specs.declared.draft.Draft.{Draft}
use Rattle.proof_documents.specs.declared.draft.Stage.{Stage}
use Rattle.proof_documents.specs.declared.draft.Stage.TheVariants.{Version, Claimed, Adds, Deletes, Proved, Ended}
use Rattle.proof_documents.specs.Document.{Document, HasTriplesFor, IsSpelled, IsLawfulLine, IsWellFormed}
use Rattle.proof_documents.specs.DocumentText.{line, version_text, claim_text, add_prefix, delete_prefix, lines_with, proof_line_text, end_text, document_text}
use Rattle.proof_documents.specs.Stages.{nothing_read, document_of, after_claim, TakesClaim, TakesAdd, TakesDelete, TakesProofLine, at_stage, Takes, Leads}
use Rattle.proof_documents.specs.Text.{IsDocument, BeginsDocument, lines_text}
use Rattle.proof_documents.proofs.LinesRead.{draft}

abbrev proof_text : List ProofLine → List ℕ
proof_text lines = flat_map (λ l. line (proof_line_text l)) lines

-- the text of a document without its end
abbrev open_text : Document → List ℕ
open_text d = line version_text ++ line (claim_text d.proof.claim) ++ lines_with add_prefix d.adds ++ lines_with delete_prefix d.deletes ++ proof_text d.proof.lines

-- what the parts of a draft spell at this stage
abbrev spelled_at : Stage → Document → List ℕ
spelled_at Version d = []
spelled_at Claimed d = line version_text
spelled_at Adds d = open_text d
spelled_at Deletes d = open_text d
spelled_at Proved d = open_text d
spelled_at Ended d = document_text d

-- what comes later is empty yet
abbrev IsFreshAt : Stage → Draft → Type 0
IsFreshAt Version s = (s.claim ≡ NoPair) × (s.adds ≡ []) × (s.deletes ≡ []) × (s.lines ≡ [])
IsFreshAt Claimed s = (s.claim ≡ NoPair) × (s.adds ≡ []) × (s.deletes ≡ []) × (s.lines ≡ [])
IsFreshAt Adds s = (s.claim ≡ Pair) × (s.deletes ≡ []) × (s.lines ≡ [])
IsFreshAt Deletes s = (s.claim ≡ Pair) × (s.lines ≡ [])
IsFreshAt Proved s = Unit {0}
IsFreshAt Ended s = Unit {0}

-- the text is what the parts of the draft spell, and the parts are those of a document
pub record Spells (s : Draft) (text : List ℕ) : Type 0 where
  pub formed : IsWellFormed (document_of s)
  pub fresh : IsFreshAt s.stage s
  pub spelled : text ≡ spelled_at s.stage (document_of s)

-- ---- a line more

lines_with-push : (prefix : List ℕ) (ts : List Statement) (t : Statement) → lines_with prefix (ts ++ t ∷ []) ≡ lines_with prefix ts ++ (prefix ++ line_text t)
lines_with-push prefix ts t = flat_map-append (λ t. prefix ++ line_text t) ts (t ∷ []) ∙ ap (λ (text : List ℕ). lines_with prefix ts ++ text) (append-nil (prefix ++ line_text t))

proof_text-push : (ls : List ProofLine) (l : ProofLine) → proof_text (ls ++ l ∷ []) ≡ proof_text ls ++ line (proof_line_text l)
proof_text-push ls l = flat_map-append (λ l. line (proof_line_text l)) ls (l ∷ []) ∙ ap (λ (text : List ℕ). proof_text ls ++ text) (append-nil (line (proof_line_text l)))

more_adds : (front part longer deletes proof more : List ℕ) → deletes ≡ [] → proof ≡ [] → longer ≡ part ++ more → (((front ++ part) ++ deletes) ++ proof) ++ more ≡ ((front ++ longer) ++ deletes) ++ proof
more_adds front part longer deletes proof more none nor e = rw (none, nor, e) (simp (append_assoc, append-nil))

more_deletes : (front part longer proof more : List ℕ) → proof ≡ [] → longer ≡ part ++ more → ((front ++ part) ++ proof) ++ more ≡ (front ++ longer) ++ proof
more_deletes front part longer proof more none e = rw (none, e) (simp (append_assoc, append-nil))

more_proof : (front part longer more : List ℕ) → longer ≡ part ++ more → (front ++ part) ++ more ≡ front ++ longer
more_proof front part longer more e = append_assoc front part more ∙ ap (λ (t : List ℕ). front ++ t) (sym e)

-- ---- the steps of a reading

-- a document with neither triples nor a proof
empty_formed : (claim : Claim) → HasTriplesFor claim [] [] → IsWellFormed (record { adds = []; deletes = []; proof = record { claim = claim; lines = [] } })
empty_formed claim h = record {
  claimed = h;
  adds_rise = refl;
  deletes_rise = refl;
  adds_spelled = All-nil IsSpelled;
  deletes_spelled = All-nil IsSpelled;
  lines_lawful = All-nil IsLawfulLine;
}

pub spells_begun : Spells nothing_read []
spells_begun = record { formed = empty_formed NoPair (refl, refl); fresh = (refl, refl, refl, refl); spelled = refl }

-- a line more keeps that the draft spells the text
spells_proof_line : (s t : Draft) (text l : List ℕ) → IsWellFormed (document_of s) → text ≡ open_text (document_of s) → TakesProofLine s l t → Spells t (text ++ line l)
spells_proof_line s t text l h e k =
    let longer = draft Proved s.claim s.adds s.deletes (s.lines ++ k.read ∷ []) in
    let front = line version_text ++ line (claim_text s.claim) ++ lines_with add_prefix s.adds ++ lines_with delete_prefix s.deletes in
    let one : Spells longer (text ++ line l) = record {
      formed = record {
        claimed = h.claimed;
        adds_rise = h.adds_rise;
        deletes_rise = h.deletes_rise;
        adds_spelled = h.adds_spelled;
        deletes_spelled = h.deletes_spelled;
        lines_lawful = All-push IsLawfulLine s.lines k.read h.lines_lawful k.spelled.lawful;
      };
      fresh = tt;
      spelled = ap (λ (t : List ℕ). t ++ line l) e ∙ ap (λ (t : List ℕ). open_text (document_of s) ++ line t) k.spelled.spelled ∙ more_proof front (proof_text s.lines) _ (line (proof_line_text k.read)) (proof_text-push s.lines k.read);
    } in
    subst (λ (d : Draft). Spells d (text ++ line l)) (sym k.is) one

spells_end : (s t : Draft) (text l : List ℕ) → IsWellFormed (document_of s) → text ≡ open_text (document_of s) → l ≡ end_text → t ≡ at_stage Ended s → Spells t (text ++ line l)
spells_end s t text l h e is k =
    let one : Spells (at_stage Ended s) (text ++ line l) = record { formed = h; fresh = tt; spelled = ap (λ (t : List ℕ). t ++ line l) e ∙ ap (λ (t : List ℕ). open_text (document_of s) ++ line t) is } in
    subst (λ (d : Draft). Spells d (text ++ line l)) (sym k) one

spells_delete : (s t : Draft) (text l : List ℕ) → IsWellFormed (document_of s) → s.claim ≡ Pair → s.lines ≡ [] → text ≡ open_text (document_of s) → TakesDelete s l t → Spells t (text ++ line l)
spells_delete s t text l h pair none e k =
    let longer = draft Deletes s.claim s.adds (s.deletes ++ k.triple ∷ []) s.lines in
    let front = line version_text ++ line (claim_text s.claim) ++ lines_with add_prefix s.adds in
    let one : Spells longer (text ++ line l) = record {
      formed = record {
        claimed = subst (λ (c : Claim). HasTriplesFor c s.adds (s.deletes ++ k.triple ∷ [])) (sym pair) tt;
        adds_rise = h.adds_rise;
        deletes_rise = k.rises;
        adds_spelled = h.adds_spelled;
        deletes_spelled = All-push IsSpelled s.deletes k.triple h.deletes_spelled k.spelled.lawful;
        lines_lawful = h.lines_lawful;
      };
      fresh = (pair, none);
      spelled = ap (λ (t : List ℕ). t ++ line l) e ∙ ap (λ (t : List ℕ). open_text (document_of s) ++ t) k.spelled.spelled
          ∙ more_deletes front (lines_with delete_prefix s.deletes) _ (proof_text s.lines) (delete_prefix ++ line_text k.triple) (ap proof_text none) (lines_with-push delete_prefix s.deletes k.triple);
    } in
    subst (λ (d : Draft). Spells d (text ++ line l)) (sym k.is) one

spells_add : (s t : Draft) (text l : List ℕ) → IsWellFormed (document_of s) → s.claim ≡ Pair → s.deletes ≡ [] → s.lines ≡ [] → text ≡ open_text (document_of s) → TakesAdd s l t → Spells t (text ++ line l)
spells_add s t text l h pair none nor e k =
    let longer = draft Adds s.claim (s.adds ++ k.triple ∷ []) s.deletes s.lines in
    let one : Spells longer (text ++ line l) = record {
      formed = record {
        claimed = subst (λ (c : Claim). HasTriplesFor c (s.adds ++ k.triple ∷ []) s.deletes) (sym pair) tt;
        adds_rise = k.rises;
        deletes_rise = h.deletes_rise;
        adds_spelled = All-push IsSpelled s.adds k.triple h.adds_spelled k.spelled.lawful;
        deletes_spelled = h.deletes_spelled;
        lines_lawful = h.lines_lawful;
      };
      fresh = (pair, none, nor);
      spelled = ap (λ (t : List ℕ). t ++ line l) e ∙ ap (λ (t : List ℕ). open_text (document_of s) ++ t) k.spelled.spelled
          ∙ more_adds (line version_text ++ line (claim_text s.claim)) (lines_with add_prefix s.adds) _ (lines_with delete_prefix s.deletes) (proof_text s.lines) (add_prefix ++ line_text k.triple) (ap (lines_with delete_prefix) none) (ap proof_text nor) (lines_with-push add_prefix s.adds k.triple);
    } in
    subst (λ (d : Draft). Spells d (text ++ line l)) (sym k.is) one

-- nothing but the version was read
spells_claim : (s t : Draft) (text l : List ℕ) → s.adds ≡ [] → s.deletes ≡ [] → s.lines ≡ [] → text ≡ line version_text → TakesClaim s l t → Spells t (text ++ line l)
spells_claim s t text l none nor neither e k =
    let one = claimed k.claim in
    let same : draft (after_claim k.claim) k.claim [] [] [] ≡ t = sym (k.is ∙ rw (none, nor, neither) refl) in
    subst (λ (d : Draft). Spells d (text ++ line l)) same (subst (Spells (draft (after_claim k.claim) k.claim [] [] [])) (sym (ap (λ (t : List ℕ). t ++ line l) e ∙ ap (λ (t : List ℕ). line version_text ++ line t) k.spelled)) one)
  where
    claimed : (claim : Claim) → Spells (draft (after_claim claim) claim [] [] []) (line version_text ++ line (claim_text claim))
    claimed Pair = record { formed = empty_formed Pair tt; fresh = (refl, refl, refl); spelled = refl }
    claimed NoPair = record { formed = empty_formed NoPair (refl, refl); fresh = tt; spelled = refl }
    claimed Spent = record { formed = empty_formed Spent (refl, refl); fresh = tt; spelled = refl }

spells_next : (stage : Stage) (claim : Claim) (adds deletes : List Statement) (lines : List ProofLine) (t : Draft) (text l : List ℕ) → Spells (draft stage claim adds deletes lines) text → Takes (draft stage claim adds deletes lines) l t → Spells t (text ++ line l)
spells_next Version claim adds deletes lines t text l h k =
    let none = h.fresh in
    let same : draft Claimed NoPair [] [] [] ≡ t = sym (k.1 ∙ rw (none.0, none.1, none.2, none.3) refl) in
    subst (λ (d : Draft). Spells d (text ++ line l)) same (record { formed = empty_formed NoPair (refl, refl); fresh = (refl, refl, refl, refl); spelled = ap (λ (t : List ℕ). t ++ line l) h.spelled ∙ ap line k.0 })
spells_next Claimed claim adds deletes lines t text l h k = spells_claim (draft Claimed claim adds deletes lines) t text l h.fresh.1 h.fresh.2 h.fresh.3 h.spelled k
spells_next Adds claim adds deletes lines t text l h k =
    let s = draft Adds claim adds deletes lines in
    elim k [
      | inl add ↦ spells_add s t text l h.formed h.fresh.0 h.fresh.1 h.fresh.2 h.spelled add
      | inr later ↦ elim later [
        | inl delete ↦ spells_delete s t text l h.formed h.fresh.0 h.fresh.2 h.spelled delete
        | inr behind ↦ elim behind [ inl read ↦ spells_proof_line s t text l h.formed h.spelled read | inr end ↦ spells_end s t text l h.formed h.spelled end.0 end.1 ]
      ]
    ]
spells_next Deletes claim adds deletes lines t text l h k =
    let s = draft Deletes claim adds deletes lines in
    elim k [
      | inl delete ↦ spells_delete s t text l h.formed h.fresh.0 h.fresh.1 h.spelled delete
      | inr behind ↦ elim behind [ inl read ↦ spells_proof_line s t text l h.formed h.spelled read | inr end ↦ spells_end s t text l h.formed h.spelled end.0 end.1 ]
    ]
spells_next Proved claim adds deletes lines t text l h k =
    let s = draft Proved claim adds deletes lines in
    elim k [ inl read ↦ spells_proof_line s t text l h.formed h.spelled read | inr end ↦ spells_end s t text l h.formed h.spelled end.0 end.1 ]
spells_next Ended claim adds deletes lines t text l h k = absurd k

pub spells_on : (texts : List (List ℕ)) (s t : Draft) (text : List ℕ) → Spells s text → Leads s texts t → Spells t (text ++ lines_text texts)
spells_on [] s t text h k = subst (Spells t) (sym (append-nil text)) (subst (λ (d : Draft). Spells d text) k h)
spells_on (l ∷ texts) s t text h k =
    subst (Spells t) (append_assoc text (line l) (lines_text texts)) (spells_on texts k.0 t (text ++ line l) (spells_next s.stage s.claim s.adds s.deletes s.lines k.0 text l h k.1) k.2)

-- ---- what the lines that were read are of a document

-- the text of a document that claims none, with nothing else
begun_text : (text front rest : List ℕ) → front ++ rest ≡ line version_text ++ line (claim_text NoPair) ++ line end_text → text ≡ front → BeginsDocument text
begun_text text front rest whole e = record {
  rest = rest;
  document = document_of nothing_read;
  whole = record { well_formed = empty_formed NoPair (refl, refl); text = ap (λ (t : List ℕ). t ++ rest) e ∙ whole };
}

with_end : (s : Draft) (text : List ℕ) → IsWellFormed (document_of s) → text ≡ open_text (document_of s) → BeginsDocument text
with_end s text h e = record { rest = line end_text; document = document_of s; whole = record { well_formed = h; text = ap (λ (t : List ℕ). t ++ line end_text) e } }

-- with what may come behind it the text is a document
pub begins_at : (stage : Stage) (claim : Claim) (adds deletes : List Statement) (lines : List ProofLine) (text : List ℕ) → Spells (draft stage claim adds deletes lines) text → BeginsDocument text
begins_at Version claim adds deletes lines text h = begun_text text [] (line version_text ++ line (claim_text NoPair) ++ line end_text) refl h.spelled
begins_at Claimed claim adds deletes lines text h = begun_text text (line version_text) (line (claim_text NoPair) ++ line end_text) refl h.spelled
begins_at Adds claim adds deletes lines text h = with_end (draft Adds claim adds deletes lines) text h.formed h.spelled
begins_at Deletes claim adds deletes lines text h = with_end (draft Deletes claim adds deletes lines) text h.formed h.spelled
begins_at Proved claim adds deletes lines text h = with_end (draft Proved claim adds deletes lines) text h.formed h.spelled
begins_at Ended claim adds deletes lines text h = record {
  rest = [];
  document = document_of (draft Ended claim adds deletes lines);
  whole = record { well_formed = h.formed; text = append-nil text ∙ h.spelled };
}

-- behind the end nothing comes
pub ends_at : (s : Draft) (text : List ℕ) → s.stage ≡ Ended → Spells s text → IsDocument text (document_of s)
ends_at s text e h = record { well_formed = h.formed; text = h.spelled ∙ ap (λ (stage : Stage). spelled_at stage (document_of s)) e }
