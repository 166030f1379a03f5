-- Pieces one after another.
use Rattle.std.proofs.Common.{◌≡◌, ℕ, ◌+◌, ◌<◌, ◌≤◌, List, [], ◌∷◌, ◌++◌, length, get_or, take, drop, refl, sym, ap, subst, ◌∙◌, append_assoc, arith, length-append, Some, Err}
use Rattle.std.proofs.lemmas.List.{append-nil, take-append-drop, take_more}
use Rattle.ntriples_io.specs.declared.refusal.NtRefusal.{NtRefusal}
use Rattle.ntriples_io.specs.Text.{pieces_text, IsAnswer}
use Rattle.ntriples_io.specs.Feeding.{Progress, HasRead}
use Rattle.ntriples_io.proofs.Steps.{longer, refused_answer}

pieces_text-append : (ps qs : List (List ℕ)) → pieces_text (ps ++ qs) ≡ pieces_text ps ++ pieces_text qs
pieces_text-append [] qs = refl
pieces_text-append (p ∷ ps) qs = ap (λ (t : List ℕ). p ++ t) (pieces_text-append ps qs) ∙ sym (append_assoc p (pieces_text ps) (pieces_text qs))

pub one_more : (ps : List (List ℕ)) (i : ℕ) (p : List ℕ) → i < length ps → p ≡ get_or ps i p → pieces_text (take i ps) ++ p ≡ pieces_text (take (i + 1) ps)
one_more ps i p lt e =
    let k : take (i + 1) ps ≡ take i ps ++ p ∷ [] = take_more ps i p lt ∙ ap (λ (q : List ℕ). take i ps ++ q ∷ []) (sym e) in
    sym (ap pieces_text k ∙ pieces_text-append (take i ps) (p ∷ []) ∙ ap (λ (t : List ℕ). pieces_text (take i ps) ++ t) (append-nil p))

all_of : (ps : List (List ℕ)) (i : ℕ) → pieces_text (take i ps) ++ pieces_text (drop i ps) ≡ pieces_text ps
all_of ps i = sym (pieces_text-append (take i ps) (drop i ps)) ∙ ap pieces_text (take-append-drop i ps)

pub count_more : (ps : List (List ℕ)) (i : ℕ) (p : List ℕ) → i < length ps → p ≡ get_or ps i p → length (pieces_text (take (i + 1) ps)) ≡ length (pieces_text (take i ps)) + length p
count_more ps i p lt e = sym (ap length (one_more ps i p lt e)) ∙ length-append (pieces_text (take i ps)) p

pub fits : (ps : List (List ℕ)) (i : ℕ) (p : List ℕ) → i < length ps → p ≡ get_or ps i p → length (pieces_text (take i ps)) + length p ≤ length (pieces_text ps)
fits ps i p lt e = omega (arith, count_more ps i p lt e, ap length (all_of ps (i + 1)), length-append (pieces_text (take (i + 1) ps)) (pieces_text (drop (i + 1) ps)))

pub read_more : (r : Progress) (ps : List (List ℕ)) (i : ℕ) (p : List ℕ) → i < length ps → p ≡ get_or ps i p → HasRead r (pieces_text (take i ps) ++ p) → HasRead r (pieces_text (take (i + 1) ps))
read_more r ps i p lt e h = subst (λ (t : List ℕ). HasRead r t) (one_more ps i p lt e) h

-- a refusal at some piece is the answer for all of them
pub refused_early : (r : Progress) (f : NtRefusal) (ps : List (List ℕ)) (i : ℕ) (p : List ℕ) → i < length ps → p ≡ get_or ps i p → r.refusal ≡ Some f → HasRead r (pieces_text (take i ps) ++ p) → IsAnswer (pieces_text ps) r.scope (Err f)
refused_early r f ps i p lt e t h =
    let all : HasRead r (pieces_text ps) = subst (λ (b : List ℕ). HasRead r b) (all_of ps (i + 1)) (longer r f (pieces_text (take (i + 1) ps)) (pieces_text (drop (i + 1) ps)) t (read_more r ps i p lt e h)) in
    refused_answer r f (pieces_text ps) t all
