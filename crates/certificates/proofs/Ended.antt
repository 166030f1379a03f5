-- The last pair of a chain and the last clause of a store.
use Rattle.std.proofs.Common.{◌≡◌, ◌↔◌, ℕ, suc, ◌-◌, ◌<◌, List, [], ◌∷◌, ◌++◌, map, length, Contains, Some, None, slice_get, refl, sym, ap, ◌∙◌, subst, arith}
use Rattle.std.specs.List.{All}
use Rattle.std.proofs.lemmas.List.Elements.{All-contains}
use Rattle.rdf_terms.specs.Graph.{Graph}
use Rattle.clause_store.specs.declared.lit.Lit.{Lit}
use Rattle.repair_problem.specs.declared.atom.Atom.{Atom}
use Rattle.repair_problem.specs.declared.atom.Literal.{Literal}
use Rattle.repair_problem.specs.Setting.{Setting}
use Rattle.repair_problem.specs.Candidates.{additions, deletions}
use Rattle.repair_problem.specs.Changes.{AreCandidates}
use Rattle.proof_lines.specs.declared.proof.Claim.{Claim}
use Rattle.proof_lines.specs.declared.proof.Claim.TheVariants as claim
use Rattle.premise_rules.specs.Documents.{IsLast, IsClaimed}
use Rattle.certificates.specs.Checks.{IsBelowLast, IsDone}
use Rattle.atom_numbers.specs.Numbers.{clause_of, lines_of}
use Rattle.certificates.specs.Checker.{IsEnded}
use Rattle.certificates.proofs.Sound.{some_is, none_some}

pub last_at : (chain : List (List ℕ)) (p : List ℕ) → slice_get chain (length chain - 1) ≡ Some p → IsLast chain p
last_at [] p e = absurd (none_some e)
last_at (q ∷ []) p e = some_is e
last_at (q ∷ r ∷ rs) p e =
    let a : length (q ∷ r ∷ rs) - 1 ≡ suc (length rs) = omega arith in
    let b : length (r ∷ rs) - 1 ≡ length rs = omega arith in
    last_at (r ∷ rs) p (ap (slice_get (r ∷ rs)) b ∙ (sym (ap (slice_get (q ∷ r ∷ rs)) a) ∙ e))

pub no_last : (chain : List (List ℕ)) → None ≡ slice_get chain (length chain - 1) → chain ≡ []
no_last [] e = refl
no_last (q ∷ []) e = absurd (none_some e)
no_last (q ∷ r ∷ rs) e =
    let a : length (q ∷ r ∷ rs) - 1 ≡ suc (length rs) = omega arith in
    let b : length (r ∷ rs) - 1 ≡ length rs = omega arith in
    absurd (none_cons (no_last (r ∷ rs) (e ∙ (ap (slice_get (q ∷ r ∷ rs)) a ∙ sym (ap (slice_get (r ∷ rs)) b)))))
  where
    none_cons : r ∷ rs ≡ [] → ⊥
    none_cons f = cc

pub one_last : (chain : List (List ℕ)) (p q : List ℕ) → IsLast chain p → IsLast chain q → p ≡ q
one_last [] p q h g = absurd h
one_last (r ∷ []) p q h g = sym h ∙ g
one_last (r ∷ s ∷ rs) p q h g = one_last (s ∷ rs) p q h g

-- the pair is below the last one
pub below_none : (chain : List (List ℕ)) (pair : List ℕ) → chain ≡ [] → IsBelowLast chain pair
below_none chain pair e before last = absurd (subst (λ c. IsLast c before) e last)

-- a claimed pair is the last one
pub claimed_is : (s : Setting) (adds deletes : Graph) (chain : List (List ℕ)) (pair : List ℕ) → IsLast chain pair → IsClaimed s adds deletes chain ↔ ((additions s pair ≡ adds) × (deletions s pair ≡ deletes))
claimed_is s adds deletes chain pair last = (
  λ h. let e = one_last chain h.pair pair h.last last in (ap (additions s) (sym e) ∙ h.added, ap (deletions s) (sym e) ∙ h.deleted),
  λ h. record { pair = pair; last = last; added = h.0; deleted = h.1 },
)

pub claimed_not : (s : Setting) (adds deletes : Graph) (chain : List (List ℕ)) → chain ≡ [] → ¬ (IsClaimed s adds deletes chain)
claimed_not s adds deletes chain e h = subst (λ c. IsLast c h.pair) e h.last

last_in : (chain : List (List ℕ)) (p : List ℕ) → IsLast chain p → Contains chain p
last_in [] p h = absurd h
last_in (r ∷ []) p h = (0, omega arith, h)
last_in (r ∷ s ∷ rs) p h = let k = last_in (s ∷ rs) p h in let l = k.1 in (suc k.0, omega (arith, l), k.2)

pub last_candidates : (s : Setting) (chain : List (List ℕ)) (p : List ℕ) → All (AreCandidates s) chain → IsLast chain p → AreCandidates s p
last_candidates s chain p all last = All-contains (AreCandidates s) chain p all (last_in chain p last)

-- The last clause.
pub empty_last : (cs : List (List Lit)) → (0 < length cs) × (slice_get cs (length cs - 1) ≡ Some []) → (ds : List (List Lit)) × (cs ≡ ds ++ [] ∷ [])
empty_last [] h = absurd (let lt = h.0 in omega (arith, lt))
empty_last (c ∷ []) h = ([], ap (λ x. x ∷ []) (some_is h.1))
empty_last (c ∷ d ∷ cs) h =
    let a : length (c ∷ d ∷ cs) - 1 ≡ suc (length cs) = omega arith in
    let b : length (d ∷ cs) - 1 ≡ length cs = omega arith in
    more (empty_last (d ∷ cs) (omega arith, ap (slice_get (d ∷ cs)) b ∙ (sym (ap (slice_get (c ∷ d ∷ cs)) a) ∙ h.1)))
  where
    more : (ds : List (List Lit)) × (d ∷ cs ≡ ds ++ [] ∷ []) → (es : List (List Lit)) × (c ∷ d ∷ cs ≡ es ++ [] ∷ [])
    more r = (c ∷ r.0, ap (λ x. c ∷ x) r.1)

pub last_empty : (ds : List (List Lit)) → (0 < length (ds ++ [] ∷ [])) × (slice_get (ds ++ [] ∷ []) (length (ds ++ [] ∷ []) - 1) ≡ Some [])
last_empty [] = (omega arith, refl)
last_empty (d ∷ ds) =
    let r = last_empty ds in
    let lt = r.0 in
    let n : ℕ = length (ds ++ [] ∷ []) in
    let a : length (d ∷ (ds ++ [] ∷ [])) - 1 ≡ suc (length (ds ++ [] ∷ []) - 1) = omega (arith, lt) in
    (omega (arith, lt), ap (slice_get (d ∷ (ds ++ [] ∷ []))) a ∙ r.1)

pub refuted_is : (cs : List (List Lit)) → ((0 < length cs) × (slice_get cs (length cs - 1) ≡ Some [])) ↔ ((ds : List (List Lit)) × (cs ≡ ds ++ [] ∷ []))
refuted_is cs = (empty_last cs, λ r. subst (λ x. (0 < length x) × (slice_get x (length x - 1) ≡ Some [])) (sym r.1) (last_empty r.0))

map_end : (ats : List Atom) (cs : List (List Lit)) (es : List (List Literal)) → map (clause_of ats) cs ≡ es ++ [] ∷ [] → (ds : List (List Lit)) × (cs ≡ ds ++ [] ∷ [])
map_end ats [] [] e = cc
map_end ats [] (x ∷ es) e = cc
map_end ats ([] ∷ []) [] e = ([], refl)
map_end ats ((l ∷ c) ∷ []) [] e = cc
map_end ats (c ∷ d ∷ cs) [] e = cc
map_end ats (c ∷ cs) (x ∷ es) e =
    let t : map (clause_of ats) cs ≡ es ++ [] ∷ [] = cc in
    let r = map_end ats cs es t in
    (c ∷ r.0, ap (λ y. c ∷ y) r.1)

map_more : {X Y : Type 0} (f : X → Y) (xs : List X) (x : X) → map f (xs ++ x ∷ []) ≡ map f xs ++ f x ∷ []
map_more f [] x = refl
map_more f (y ∷ xs) x = ap (λ ys. f y ∷ ys) (map_more f xs x)

pub ended_done : (chain : List (List ℕ)) (ats : List Atom) (c : Claim) (cs : List (List Lit)) → IsEnded c cs → IsDone c (lines_of chain ats cs)
ended_done chain ats claim.Pair cs h = (map (clause_of ats) h.0, ap (map (clause_of ats)) h.1 ∙ map_more (clause_of ats) h.0 [])
ended_done chain ats claim.NoPair cs h = (map (clause_of ats) h.0, ap (map (clause_of ats)) h.1 ∙ map_more (clause_of ats) h.0 [])
ended_done chain ats claim.Spent cs h = tt

pub done_ended : (chain : List (List ℕ)) (ats : List Atom) (c : Claim) (cs : List (List Lit)) → IsDone c (lines_of chain ats cs) → IsEnded c cs
done_ended chain ats claim.Pair cs h = map_end ats cs h.0 h.1
done_ended chain ats claim.NoPair cs h = map_end ats cs h.0 h.1
done_ended chain ats claim.Spent cs h = tt
