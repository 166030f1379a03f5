-- The first part of a text.
use Rattle.std.proofs.Common.{◌≡◌, ◌≢◌, ℕ, ◌<◌, List, [], ◌∷◌, ◌++◌, length, get_or, take, drop, refl, sym, subst, ◌∙◌, arith, drop-cons, length-take}
use Rattle.std.specs.List.{AllByRecursion}
use Rattle.std.proofs.lemmas.List.{append-nil, take-append-drop, get_or-take}
use Rattle.std.proofs.lemmas.List.Elements.{All-from_get_or, recursion_from_All}
use Rattle.proof_documents.specs.Spaces.{IsUnspaced, IsSpaced, IsFirstPart}

-- it is no space
abbrev pub NoSpace : ℕ → Type 0
NoSpace b = b ≢ 32

-- ---- a text has one first part

same_word : (a b x y : List ℕ) → AllByRecursion NoSpace a → AllByRecursion NoSpace b → IsSpaced x → IsSpaced y → a ++ x ≡ b ++ y → (a ≡ b) × (x ≡ y)
same_word [] [] x y p q sx sy e = (refl, e)
same_word [] (d ∷ b) [] y p q sx sy e = absurd cc
same_word [] (d ∷ b) (c ∷ x) y p q sx sy e = let same : c ≡ d = cc in absurd (q.0 (sym same ∙ sx))
same_word (c ∷ a) [] x [] p q sx sy e = absurd cc
same_word (c ∷ a) [] x (d ∷ y) p q sx sy e = let same : c ≡ d = cc in absurd (p.0 (same ∙ sy))
same_word (c ∷ a) (d ∷ b) x y p q sx sy e =
    let first : c ≡ d = cc in
    let tails : a ++ x ≡ b ++ y = cc in
    let k = same_word a b x y p.1 q.1 sx sy tails in
    let fronts : a ≡ b = k.0 in (cc, k.1)

pub one_part : (a b x y : List ℕ) → IsUnspaced a → IsUnspaced b → IsSpaced x → IsSpaced y → a ++ x ≡ b ++ y → (a ≡ b) × (x ≡ y)
one_part a b x y p q = same_word a b x y (recursion_from_All NoSpace a p) (recursion_from_All NoSpace b q)

-- ---- where it ends

-- the first space stands at k
pub part_before : (text : List ℕ) (k : ℕ) → k < length text → get_or text k 0 ≡ 32 → ((i : ℕ) → i < k → get_or text i 0 ≢ 32) → IsFirstPart text (take k text) (drop k text)
part_before text k lt here before = record {
  parts = sym (take-append-drop k text);
  plain = All-from_get_or NoSpace (take k text) 0 (λ i at e. let within : i < k = omega (arith, length-take k text) in before i within (sym (get_or-take k text i 0 within) ∙ e));
  ends = subst IsSpaced (sym (drop-cons text k 0 lt)) here;
}

-- there is no space
pub part_alone : (text : List ℕ) → ((i : ℕ) → i < length text → get_or text i 0 ≢ 32) → IsFirstPart text text []
part_alone text none = record { parts = sym (append-nil text); plain = All-from_get_or NoSpace text 0 none; ends = tt }
