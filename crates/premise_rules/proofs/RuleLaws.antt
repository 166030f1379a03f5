-- The parts of the clause of a pair, one candidate after another.
use Rattle.std.proofs.Common.{◌≡◌, ℕ, ◌+◌, ◌≤◌, List, [], ◌∷◌, ◌++◌, map, length, take, Some, slice_get, sym, ap, ◌∙◌}
use Rattle.std.proofs.lemmas.List.{map-append}
use Rattle.repair_problem.specs.declared.atom.Part.{Part}
use Rattle.repair_problem.specs.Setting.{Setting}
use Rattle.core_constraints.proofs.Decided.{take_whole}
use Rattle.premise_rules.specs.RuleClauses.{unchanged}
use Rattle.premise_rules.proofs.DistinctLiterals.{take_next, take_none}

pub undo_start : (s : Setting) (pair : List ℕ) (made : List Part) → made ≡ [] → made ≡ map (unchanged s) (take 0 pair)
undo_start s pair made e = e ∙ sym (ap (λ ts. map (unchanged s) ts) (take_none pair))

pub undo_more : (s : Setting) (pair : List ℕ) (k t : ℕ) (made more : List Part) → made ≡ map (unchanged s) (take k pair) → slice_get pair k ≡ Some t → more ≡ made ++ unchanged s t ∷ [] → more ≡ map (unchanged s) (take (k + 1) pair)
undo_more s pair k t made more e h g = g ∙ (ap (λ qs. qs ++ unchanged s t ∷ []) e ∙ (sym (map-append (unchanged s) (take k pair) (t ∷ [])) ∙ sym (ap (λ ts. map (unchanged s) ts) (take_next pair k t h))))

pub undo_whole : (s : Setting) (pair : List ℕ) (k : ℕ) (made : List Part) → length pair ≤ k → made ≡ map (unchanged s) (take k pair) → made ≡ map (unchanged s) pair
undo_whole s pair k made le e = e ∙ ap (λ ts. map (unchanged s) ts) (take_whole pair k le)
