-- Numbers that ascend, by each two of them that stand side by side.
use Rattle.std.proofs.Common.{◌≡◌, ℕ, zero, suc, ◌<◌, Bool, true, false, ltb, ◌&&◌, List, [], ◌∷◌, length, get_or, refl, ap, ◌∙◌, arith, add-one}
use Rattle.std.specs.List.{IsAllAdjacentAnswer}
use Rattle.proof_documents.specs.Document.{ascends}

each_below : (ns : List ℕ) → ((k : ℕ) → suc k < length ns → true ≡ ltb (get_or ns k 0) (get_or ns (suc k) 0)) → true ≡ ascends ns
each_below [] h = refl
each_below (n ∷ []) h = refl
each_below (n ∷ m ∷ ns) h =
    let first : true ≡ ltb n m = h 0 (omega arith) in
    let rest : true ≡ ascends (m ∷ ns) = each_below (m ∷ ns) (λ k lt. h (suc k) (omega arith)) in
    rw (← first, ← rest) refl

and_false : (b : Bool) → false ≡ (b && false)
and_false true = refl
and_false false = refl

one_above : (ns : List ℕ) (k : ℕ) → suc k < length ns → false ≡ ltb (get_or ns k 0) (get_or ns (suc k) 0) → false ≡ ascends ns
one_above [] k lt e = absurd (omega arith)
one_above (n ∷ []) k lt e = absurd (omega arith)
one_above (n ∷ m ∷ ns) zero lt e = ap (λ b. b && ascends (m ∷ ns)) e
one_above (n ∷ m ∷ ns) (suc k) lt e = and_false (ltb n m) ∙ ap (λ b. ltb n m && b) (one_above (m ∷ ns) k (omega arith) e)

pub ascends_by_pairs : (ns : List ℕ) (r : Bool) → IsAllAdjacentAnswer (λ x y b. b ≡ ltb x y) ns r → r ≡ ascends ns
ascends_by_pairs ns true h = each_below ns (λ k lt. rw add-one at (h k 0 (omega arith)))
ascends_by_pairs ns false h = one_above ns h.0 (omega (arith, h.1)) (rw add-one at (h.2 0))
