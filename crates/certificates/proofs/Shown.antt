-- The proof of an accepted document can be written: the pair that it claims consists of candidates.
use Rattle.std.proofs.Common.{◌≡◌, ℕ, List, [], ◌∷◌, Option, Some, None, IfSome, Contains, ◌⊎◌, inl, inr, refl, subst}
use Rattle.rdf_terms.specs.Graph.{Graph}
use Rattle.rdf_terms.proofs.Members.{in_first, in_rest}
use Rattle.repair_problem.specs.Setting.{Setting}
use Rattle.repair_problem.specs.Changes.{AreCandidates}
use Rattle.proof_lines.specs.declared.proof.Claim.{Claim}
use Rattle.proof_lines.specs.declared.proof.Claim.TheVariants as claim
use Rattle.proof_lines.specs.declared.proof.ProofLine.{ProofLine}
use Rattle.proof_lines.specs.declared.proof.ProofLine.TheVariants as line
use Rattle.proof_lines.specs.declared.proof.Proof.{Proof}
use Rattle.certificates.specs.Shown.{IsShown}
use Rattle.certificates.specs.Writing.{pair_behind, pair_of, claimed_pair}
use Rattle.certificates.proofs.Sound.{some_is, none_some}

pair_there : (before : Option (List ℕ)) (ls : List ProofLine) (p : List ℕ) → pair_behind before ls ≡ Some p → (before ≡ Some p) ⊎ Contains ls (line.Chain p)
pair_there before [] p e = inl e
pair_there before (line.Chain q ∷ ls) p e = split (pair_there (Some q) ls p e)
  where
    split : (Some q ≡ Some p) ⊎ Contains ls (line.Chain p) → (before ≡ Some p) ⊎ Contains (line.Chain q ∷ ls) (line.Chain p)
    split (inl g) = inr (subst (λ x. Contains (line.Chain q ∷ ls) (line.Chain x)) (some_is g) (in_first (line.Chain q) ls))
    split (inr k) = inr (in_rest (line.Chain q) ls (line.Chain p) k)
pair_there before (line.Rule r ∷ ls) p e = split (pair_there before ls p e)
  where
    split : (before ≡ Some p) ⊎ Contains ls (line.Chain p) → (before ≡ Some p) ⊎ Contains (line.Rule r ∷ ls) (line.Chain p)
    split (inl g) = inl g
    split (inr k) = inr (in_rest (line.Rule r) ls (line.Chain p) k)
pair_there before (line.Step ids ∷ ls) p e = split (pair_there before ls p e)
  where
    split : (before ≡ Some p) ⊎ Contains ls (line.Chain p) → (before ≡ Some p) ⊎ Contains (line.Step ids ∷ ls) (line.Chain p)
    split (inl g) = inl g
    split (inr k) = inr (in_rest (line.Step ids) ls (line.Chain p) k)

of_pair : (c : Claim) (ls : List ProofLine) (p : List ℕ) → pair_of c ls ≡ Some p → Contains ls (line.Chain p)
of_pair claim.Pair ls p e = split (pair_there None ls p e)
  where
    split : (None ≡ Some p) ⊎ Contains ls (line.Chain p) → Contains ls (line.Chain p)
    split (inl g) = absurd (none_some g)
    split (inr k) = k
of_pair claim.NoPair ls p e = absurd (none_some e)
of_pair claim.Spent ls p e = absurd (none_some e)

pub claimed_candidates : (s : Setting) (adds deletes : Graph) (proof : Proof) → IsShown s adds deletes proof → IfSome (claimed_pair proof) (AreCandidates s)
claimed_candidates s adds deletes proof h = at (claimed_pair proof) refl
  where
    at : (o : Option (List ℕ)) → claimed_pair proof ≡ o → IfSome o (AreCandidates s)
    at None e = tt
    at (Some p) e = (h.pairs p (of_pair proof.claim proof.lines p e)).within
