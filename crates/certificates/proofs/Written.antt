-- A text that grows by the text of each item of a list.
use Rattle.std.proofs.Common.{◌≡◌, ℕ, ◌+◌, ◌<◌, ◌≤◌, List, [], ◌∷◌, ◌++◌, length, take, get_or, flat_map, Option, Some, None, Result, Ok, Err, OnOk, refl, sym, ap, ◌∙◌, subst}
use Rattle.std.specs.List.{All}
use Rattle.std.proofs.lemmas.List.{flat_map_more, take_more}
use Rattle.std.proofs.lemmas.List.Elements.{All-nil, All-more}
use Rattle.rdf_terms.proofs.Members.{take_next}
use Rattle.core_constraints.proofs.Decided.{take_whole}
use Rattle.premise_rules.proofs.DistinctLiterals.{take_none}
use Rattle.proof_lines.specs.declared.proof.ProofLine.{ProofLine}
use Rattle.proof_lines.specs.declared.proof.ProofLine.TheVariants as line
use Rattle.certificates.specs.Writing.{pair_behind}

append_none : (xs : List ℕ) → xs ++ [] ≡ xs
append_none [] = refl
append_none (x ∷ xs) = ap (λ ys. x ∷ ys) (append_none xs)

module _ {X : Type 0} (f : X → List ℕ) (xs : List X) where
  pub begun : (start : List ℕ) → start ≡ start ++ flat_map f (take 0 xs)
  begun start = sym (ap (λ ys. start ++ flat_map f ys) (take_none xs) ∙ append_none start)

  pub one_more : (start out new : List ℕ) (i : ℕ) (x : X) → i < length xs → x ≡ get_or xs i x → out ≡ start ++ flat_map f (take i xs) → new ≡ out ++ f x → new ≡ start ++ flat_map f (take (i + 1) xs)
  one_more start out new i x lt is e g = g ∙ (ap (λ o. o ++ f x) e ∙ (flat_map_more f start (take i xs) x ∙ ap (λ ys. start ++ flat_map f ys) (sym (take_next xs i x lt is))))

  pub one_more_at : (start out new : List ℕ) (i : ℕ) (d : X) → i < length xs → out ≡ start ++ flat_map f (take i xs) → new ≡ out ++ f (get_or xs i d) → new ≡ start ++ flat_map f (take (i + 1) xs)
  one_more_at start out new i d lt e g = g ∙ (ap (λ o. o ++ f (get_or xs i d)) e ∙ (flat_map_more f start (take i xs) (get_or xs i d) ∙ ap (λ ys. start ++ flat_map f ys) (sym (take_more xs i d lt))))

  pub ended : (start out : List ℕ) (i : ℕ) → length xs ≤ i → out ≡ start ++ flat_map f (take i xs) → out ≡ start ++ flat_map f xs
  ended start out i le e = e ∙ ap (λ ys. start ++ flat_map f ys) (take_whole xs i le)

-- what is true of each item so far
module _ {X : Type 0} (P : X → Type 0) (xs : List X) where
  pub all_begun : All P (take 0 xs)
  all_begun = subst (λ ys. All P ys) (sym (take_none xs)) (All-nil P)

  pub all_more : (i : ℕ) (x : X) → i < length xs → x ≡ get_or xs i x → All P (take i xs) → P x → All P (take (i + 1) xs)
  all_more i x lt is all own = All-more P xs i x lt all (subst P is own)

  pub all_ended : (i : ℕ) → length xs ≤ i → All P (take i xs) → All P xs
  all_ended i le all = subst (λ ys. All P ys) (take_whole xs i le) all

-- the last pair
behind_more : (before : Option (List ℕ)) (ls : List ProofLine) (l : ProofLine) → pair_behind before (ls ++ l ∷ []) ≡ pair_behind (pair_behind before ls) (l ∷ [])
behind_more before [] l = refl
behind_more before (line.Chain pair ∷ ls) l = behind_more (Some pair) ls l
behind_more before (line.Rule r ∷ ls) l = behind_more before ls l
behind_more before (line.Step ids ∷ ls) l = behind_more before ls l

pub pair_begun : (ls : List ProofLine) → None ≡ pair_behind None (take 0 ls)
pair_begun ls = sym (ap (pair_behind None) (take_none ls))

pub pair_next : (ls : List ProofLine) (i : ℕ) (l : ProofLine) (last : Option (List ℕ)) → i < length ls → l ≡ get_or ls i l → last ≡ pair_behind None (take i ls) → pair_behind last (l ∷ []) ≡ pair_behind None (take (i + 1) ls)
pair_next ls i l last lt is e = ap (λ o. pair_behind o (l ∷ [])) e ∙ (sym (behind_more None (take i ls) l) ∙ ap (pair_behind None) (sym (take_next ls i l lt is)))

-- a line of another kind leaves the pair
pub pair_left : (l : ProofLine) (last : Option (List ℕ)) → ((pair : List ℕ) → l ≡ line.Chain pair → ⊥) → pair_behind last (l ∷ []) ≡ last
pair_left (line.Chain pair) last other = absurd (other pair refl)
pair_left (line.Rule r) last other = refl
pair_left (line.Step ids) last other = refl

pub pair_ended : (ls : List ProofLine) (i : ℕ) (last : Option (List ℕ)) → length ls ≤ i → last ≡ pair_behind None (take i ls) → last ≡ pair_behind None ls
pair_ended ls i last le e = e ∙ ap (pair_behind None) (take_whole ls i le)

-- what is true whether memory was there or not, and what follows from what is true where it was
pub on_ok : {X E : Type 0} (r : Result X E) (P : Type 0) → P → OnOk r P
on_ok (Ok x) P p = p
on_ok (Err e) P p = tt

pub on_ok_more : {X E : Type 0} (r : Result X E) (P Q : Type 0) → OnOk r P → (P → Q) → OnOk r Q
on_ok_more (Ok x) P Q p f = f p
on_ok_more (Err e) P Q p f = tt
