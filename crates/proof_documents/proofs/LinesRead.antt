-- The lines of a document that can be written are read to its end.
use Rattle.std.proofs.Common.{◌≡◌, ℕ, true, inl, inr, IsTrue, List, [], ◌∷◌, ◌++◌, map, refl, sym, ap, subst, ◌∙◌, append_assoc}
use Rattle.std.specs.FinMap.Entries.{below_all}
use Rattle.std.specs.List.{All}
use Rattle.std.specs.Ordering.{is_lt}
use Rattle.std.proofs.lemmas.List.{append-nil}
use Rattle.std.proofs.lemmas.List.Elements.{All-head, All-tail}
use Rattle.rdf_terms.specs.Statement.{Statement, statement_cmp}
use Rattle.rdf_terms.specs.Set.{marked}
use Rattle.rdf_terms.specs.Graph.{is_rising}
use Rattle.ntriples_io.proofs.CuttingLemmas.{and_both}
use Rattle.ntriples_io.proofs.TermSpelling.{body_text}
use Rattle.proof_lines.specs.declared.proof.Claim.{Claim}
use Rattle.proof_lines.specs.declared.proof.Claim.TheVariants.{Pair, NoPair, Spent}
use Rattle.proof_lines.specs.declared.proof.ProofLine.{ProofLine}
use Rattle.proof_documents.specs.declared.draft.Draft.{Draft}
use Rattle.proof_documents.specs.declared.draft.Stage.{Stage}
use Rattle.proof_documents.specs.declared.draft.Stage.TheVariants.{Version, Claimed, Adds, Deletes, Proved, Ended}
use Rattle.proof_documents.specs.Document.{Document, HasTriplesFor, IsSpelled, IsLawfulLine, IsWellFormed}
use Rattle.proof_documents.specs.DocumentText.{add_prefix, delete_prefix, proof_line_text, end_text}
use Rattle.proof_documents.specs.Lines.{IsTripleLine}
use Rattle.proof_documents.specs.Stages.{nothing_read, after_claim, TakesDelete, TakesProofLine, TakesAt, Takes, Leads}
use Rattle.proof_documents.proofs.DocumentLines.{triple_line, lines_of}

abbrev pub draft : Stage → Claim → List Statement → List Statement → List ProofLine → Draft
draft stage claim adds deletes lines = record { stage = stage; claim = claim; adds = adds; deletes = deletes; lines = lines }

-- a document that was read to its end
abbrev pub ended : Document → Draft
ended d = draft Ended d.proof.claim d.adds d.deletes d.proof.lines

pub leads-append : (xs ys : List (List ℕ)) (s t u : Draft) → Leads s xs t → Leads t ys u → Leads s (xs ++ ys) u
leads-append [] ys s t u h k = subst (λ (x : Draft). Leads x ys u) (sym h) k
leads-append (x ∷ xs) ys s t u h k = (h.0, h.1, leads-append xs ys h.0 t u h.2 k)

-- ---- what rises

below-front : (t : Statement) (xs ys : List Statement) → below_all statement_cmp t (marked (xs ++ ys)) ≡ true → below_all statement_cmp t (marked xs) ≡ true
below-front t [] ys h = refl
below-front t (x ∷ xs) ys h = let both = and_both (is_lt (statement_cmp t x)) (below_all statement_cmp t (marked (xs ++ ys))) h in rw (both.0, below-front t xs ys both.1) refl

-- the first part of a list that rises
rising-front : (xs ys : List Statement) → is_rising (xs ++ ys) ≡ true → is_rising xs ≡ true
rising-front [] ys h = refl
rising-front (x ∷ xs) ys h =
    let both = and_both (below_all statement_cmp x (marked (xs ++ ys))) (is_rising (xs ++ ys)) h in
    rw (below-front x xs ys both.0, rising-front xs ys both.1) refl

rising-next : (done : List Statement) (t : Statement) (ts : List Statement) → is_rising (done ++ t ∷ ts) ≡ true → is_rising (done ++ t ∷ []) ≡ true
rising-next done t ts h = rising-front (done ++ t ∷ []) ts (ap is_rising (append_assoc done (t ∷ []) ts) ∙ h)

-- ---- where a line of a proof or the end may come

abbrev IsOpen : Stage → Type 0
IsOpen Version = ⊥
IsOpen Claimed = ⊥
IsOpen Adds = Unit {0}
IsOpen Deletes = Unit {0}
IsOpen Proved = Unit {0}
IsOpen Ended = ⊥

takes_proof_line : (stage : Stage) (s t : Draft) (text : List ℕ) → IsOpen stage → TakesProofLine s text t → TakesAt stage s text t
takes_proof_line Version s t text o h = absurd o
takes_proof_line Claimed s t text o h = absurd o
takes_proof_line Adds s t text o h = inr (inr (inl h))
takes_proof_line Deletes s t text o h = inr (inl h)
takes_proof_line Proved s t text o h = inl h
takes_proof_line Ended s t text o h = absurd o

takes_end : (stage : Stage) (claim : Claim) (adds deletes : List Statement) (lines : List ProofLine) → IsOpen stage → Takes (draft stage claim adds deletes lines) end_text (draft Ended claim adds deletes lines)
takes_end Version claim adds deletes lines o = absurd o
takes_end Claimed claim adds deletes lines o = absurd o
takes_end Adds claim adds deletes lines o = inr (inr (inr (refl, refl)))
takes_end Deletes claim adds deletes lines o = inr (inr (refl, refl))
takes_end Proved claim adds deletes lines o = inr (refl, refl)
takes_end Ended claim adds deletes lines o = absurd o

-- the texts are read to an open stage, with these parts
record ReadsTo (s : Draft) (texts : List (List ℕ)) (claim : Claim) (adds deletes : List Statement) (lines : List ProofLine) : Type 0 where
  stage : Stage
  is_open : IsOpen stage
  leads : Leads s texts (draft stage claim adds deletes lines)

-- ---- the triples

triple_line_is : (prefix : List ℕ) (t : Statement) → IsSpelled t → IsTripleLine prefix (triple_line prefix t) t
triple_line_is prefix t h = record { lawful = h; spelled = append_assoc prefix (body_text t) (10 ∷ []) }

reads_adds : (ts done : List Statement) → All IsSpelled ts → IsTrue (is_rising (done ++ ts)) → Leads (draft Adds Pair done [] []) (map (triple_line add_prefix) ts) (draft Adds Pair (done ++ ts) [] [])
reads_adds [] done h rises = ap (λ (adds : List Statement). draft Adds Pair adds [] []) (sym (append-nil done))
reads_adds (t ∷ ts) done h rises =
    let more = append_assoc done (t ∷ []) ts in
    let rest = reads_adds ts (done ++ t ∷ []) (All-tail IsSpelled t ts h) (ap is_rising more ∙ rises) in (
      draft Adds Pair (done ++ t ∷ []) [] [],
      inl (record { triple = t; spelled = triple_line_is add_prefix t (All-head IsSpelled t ts h); rises = rising-next done t ts rises; is = refl }),
      subst (λ (adds : List Statement). Leads (draft Adds Pair (done ++ t ∷ []) [] []) (map (triple_line add_prefix) ts) (draft Adds Pair adds [] [])) more rest,
    )

-- behind the additions, or behind a deletion
abbrev TakesDeletes : Stage → Type 0
TakesDeletes Version = ⊥
TakesDeletes Claimed = ⊥
TakesDeletes Adds = Unit {0}
TakesDeletes Deletes = Unit {0}
TakesDeletes Proved = ⊥
TakesDeletes Ended = ⊥

takes_delete : (stage : Stage) (s t : Draft) (text : List ℕ) → TakesDeletes stage → TakesDelete s text t → TakesAt stage s text t
takes_delete Version s t text o h = absurd o
takes_delete Claimed s t text o h = absurd o
takes_delete Adds s t text o h = inr (inl h)
takes_delete Deletes s t text o h = inl h
takes_delete Proved s t text o h = absurd o
takes_delete Ended s t text o h = absurd o

open_for_deletes : (stage : Stage) → TakesDeletes stage → IsOpen stage
open_for_deletes Version o = absurd o
open_for_deletes Claimed o = absurd o
open_for_deletes Adds o = tt
open_for_deletes Deletes o = tt
open_for_deletes Proved o = absurd o
open_for_deletes Ended o = absurd o

reads_deletes : (stage : Stage) (adds ts done : List Statement) → TakesDeletes stage → All IsSpelled ts → IsTrue (is_rising (done ++ ts)) → ReadsTo (draft stage Pair adds done []) (map (triple_line delete_prefix) ts) Pair adds (done ++ ts) []
reads_deletes stage adds [] done o h rises = record { stage = stage; is_open = open_for_deletes stage o; leads = ap (λ (deletes : List Statement). draft stage Pair adds deletes []) (sym (append-nil done)) }
reads_deletes stage adds (t ∷ ts) done o h rises =
    let more = append_assoc done (t ∷ []) ts in
    let next = draft Deletes Pair adds (done ++ t ∷ []) [] in
    let one = takes_delete stage (draft stage Pair adds done []) next (triple_line delete_prefix t) o (record { triple = t; spelled = triple_line_is delete_prefix t (All-head IsSpelled t ts h); rises = rising-next done t ts rises; is = refl }) in
    let rest = reads_deletes Deletes adds ts (done ++ t ∷ []) tt (All-tail IsSpelled t ts h) (ap is_rising more ∙ rises) in
    record {
      stage = rest.stage;
      is_open = rest.is_open;
      leads = (next, one, subst (λ (deletes : List Statement). Leads next (map (triple_line delete_prefix) ts) (draft rest.stage Pair adds deletes [])) more rest.leads);
    }

-- only a claimed pair has triples
reads_triples : (claim : Claim) (adds deletes : List Statement) → HasTriplesFor claim adds deletes → All IsSpelled adds → All IsSpelled deletes → IsTrue (is_rising adds) → IsTrue (is_rising deletes)
    → ReadsTo (draft (after_claim claim) claim [] [] []) (map (triple_line add_prefix) adds ++ map (triple_line delete_prefix) deletes) claim adds deletes []
reads_triples Pair adds deletes own h k r q =
    let first = reads_adds adds [] h r in
    let second = reads_deletes Adds adds deletes [] tt k q in
    record { stage = second.stage; is_open = second.is_open; leads = leads-append (map (triple_line add_prefix) adds) (map (triple_line delete_prefix) deletes) _ (draft Adds Pair adds [] []) _ first second.leads }
reads_triples NoPair [] [] own h k r q = record { stage = Proved; is_open = tt; leads = refl }
reads_triples NoPair [] (t ∷ deletes) own h k r q = let none = own.1 in absurd cc
reads_triples NoPair (t ∷ adds) deletes own h k r q = let none = own.0 in absurd cc
reads_triples Spent [] [] own h k r q = record { stage = Proved; is_open = tt; leads = refl }
reads_triples Spent [] (t ∷ deletes) own h k r q = let none = own.1 in absurd cc
reads_triples Spent (t ∷ adds) deletes own h k r q = let none = own.0 in absurd cc

-- ---- the proof

reads_proof : (stage : Stage) (claim : Claim) (adds deletes : List Statement) (ls done : List ProofLine) → IsOpen stage → All IsLawfulLine ls
    → ReadsTo (draft stage claim adds deletes done) (map proof_line_text ls) claim adds deletes (done ++ ls)
reads_proof stage claim adds deletes [] done o h = record { stage = stage; is_open = o; leads = ap (λ (lines : List ProofLine). draft stage claim adds deletes lines) (sym (append-nil done)) }
reads_proof stage claim adds deletes (l ∷ ls) done o h =
    let next = draft Proved claim adds deletes (done ++ l ∷ []) in
    let one =
    takes_proof_line stage (draft stage claim adds deletes done) next (proof_line_text l) o (record { read = l; spelled = record { lawful = All-head IsLawfulLine l ls h; spelled = refl }; is = refl }) in
    let rest = reads_proof Proved claim adds deletes ls (done ++ l ∷ []) tt (All-tail IsLawfulLine l ls h) in
    record {
      stage = rest.stage;
      is_open = rest.is_open;
      leads = (next, one, subst (λ (lines : List ProofLine). Leads next (map proof_line_text ls) (draft rest.stage claim adds deletes lines)) (append_assoc done (l ∷ []) ls) rest.leads);
    }

-- ---- the whole

pub lines_read : (d : Document) → IsWellFormed d → Leads nothing_read (lines_of d) (ended d)
lines_read d h =
    let a = map (triple_line add_prefix) d.adds in
    let b = map (triple_line delete_prefix) d.deletes in
    let p = map proof_line_text d.proof.lines in
    let triples = reads_triples d.proof.claim d.adds d.deletes h.claimed h.adds_spelled h.deletes_spelled h.adds_rise h.deletes_rise in
    let proof = reads_proof triples.stage d.proof.claim d.adds d.deletes d.proof.lines [] triples.is_open h.lines_lawful in
    let end : Leads (draft proof.stage d.proof.claim d.adds d.deletes d.proof.lines) (end_text ∷ []) (ended d) = (ended d, takes_end proof.stage d.proof.claim d.adds d.deletes d.proof.lines proof.is_open, refl) in
    let behind_triples = leads-append p (end_text ∷ []) _ _ (ended d) proof.leads end in
    let behind_claim = leads-append (a ++ b) (p ++ end_text ∷ []) _ _ (ended d) triples.leads behind_triples in
    let first = draft Claimed NoPair [] [] [] in
    let second = draft (after_claim d.proof.claim) d.proof.claim [] [] [] in
    (first, (refl, refl), (second, record { claim = d.proof.claim; spelled = refl; is = refl }, subst (λ (texts : List (List ℕ)). Leads second texts (ended d)) (append_assoc a b (p ++ end_text ∷ [])) behind_claim))
