-- What the kept lists are after one list more.
use Rattle.std.proofs.Common.{◌≡◌, Bool, true, false, ℕ, List, Option, Some, None, refl, sym, ap, ◌∙◌, rules}
use Rattle.rdf_navigation.proofs.PropertyLaws.{same_some, not_missing}
use Rattle.repair_problem.specs.Setting.{Setting}
use Rattle.path_levels.specs.declared.lists.PathStart.{PathStart}
use Rattle.path_levels.specs.Lists.{same_start, AreLists}
use Rattle.path_levels.specs.PossibleNodes.{possible}

pub same_is : (a b : PathStart) → same_start a b ≡ true → a ≡ b
same_is a b h = search rules

-- the old lists, and the one of this start
pub lists_more : (s : Setting) (f g : PathStart → Option (List ℕ)) (k : PathStart) (ys : List ℕ) → AreLists s f → ys ≡ possible s k.path k.node → g k ≡ Some ys → ((q : PathStart) → same_start k q ≡ false → g q ≡ f q) → AreLists s g
lists_more s f g k ys all is own others q zs h = at (same_start k q) refl
  where
    at : (b : Bool) → same_start k q ≡ b → zs ≡ possible s q.path q.node
    at true e =
        let same : k ≡ q = same_is k q e in
        let d : zs ≡ ys = same_some (sym h ∙ (ap g (sym same) ∙ own)) in
        d ∙ (is ∙ ap (λ (r : PathStart). possible s r.path r.node) same)
    at false e = all q zs (sym (others q e) ∙ h)

pub none_kept : (s : Setting) (f : PathStart → Option (List ℕ)) → ((k : PathStart) → f k ≡ None) → AreLists s f
none_kept s f h k ys e = absurd (not_missing ys (sym (h k) ∙ e))
