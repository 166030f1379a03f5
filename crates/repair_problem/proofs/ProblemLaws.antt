-- What is at a number, where the number of triples of the data is at hand.
use Rattle.std.proofs.Common.{◌≡◌, ℕ, ◌-◌, ◌<◌, ◌≤◌, List, [], ◌∷◌, ◌++◌, length, Some, slice_get, sym, ap, ◌∙◌, subst}
use Rattle.std.specs.List.{cons_option}
use Rattle.std.proofs.lemmas.List.{append-nil}
use Rattle.rdf_terms.specs.Statement.{Statement}
use Rattle.rdf_terms.specs.Graph.{triples}
use Rattle.repair_problem.specs.Setting.{Setting}
use Rattle.repair_problem.specs.Candidates.{candidates, addition_at, deletion_at}
use Rattle.repair_problem.proofs.CandidateLaws.{candidate_high, offer_place, one_addition, no_addition, one_deletion, no_deletion}

-- a list, and what comes behind it
behind : {X : Type 0} (old new : List X) (x u : X) (more : List X) → new ≡ old ++ x ∷ [] → x ≡ u → more ≡ u ∷ [] → new ≡ old ++ more
behind {X} old new x u more e same one = e ∙ (ap (λ (y : X). old ++ y ∷ []) same ∙ ap (λ (ys : List X). old ++ ys) (sym one))

nothing_behind : {X : Type 0} (old new more : List X) → new ≡ old → more ≡ [] → new ≡ old ++ more
nothing_behind {X} old new more e none = e ∙ (sym (append-nil old) ∙ ap (λ (ys : List X). old ++ ys) (sym none))

module _ (s : Setting) (t count : ℕ) (is : count ≡ length (triples s.present)) where
  pub offer_within : t < length (candidates s) → count ≤ t → t - count < length (triples s.offers)
  offer_within l m = subst (λ n. t - n < length (triples s.offers)) (sym is) (offer_place s t l (subst (λ n. n ≤ t) is m))

  offer_here : (u : Statement) → slice_get (triples s.offers) (t - count) ≡ Some u → slice_get (triples s.offers) (t - length (triples s.present)) ≡ Some u
  offer_here u e = subst (λ n. slice_get (triples s.offers) (t - n) ≡ Some u) is e

  pub offer_listed : (u : Statement) → count ≤ t → slice_get (triples s.offers) (t - count) ≡ Some u → slice_get (candidates s) t ≡ Some u
  offer_listed u m e = candidate_high s t u (subst (λ n. n ≤ t) is m) (offer_here u e)

  pub offer_pushed : (old new : List Statement) (x u : Statement) → count ≤ t → slice_get (triples s.offers) (t - count) ≡ Some u → x ≡ u → new ≡ old ++ x ∷ [] → new ≡ old ++ cons_option (addition_at s t) []
  offer_pushed old new x u m h same e = behind old new x u _ e same (one_addition s t u (subst (λ n. n ≤ t) is m) (offer_here u h))

  pub no_offer_pushed : (old new : List Statement) → t < count → new ≡ old → new ≡ old ++ cons_option (addition_at s t) []
  no_offer_pushed old new l e = nothing_behind old new _ e (no_addition s t (subst (λ n. t < n) is l))

  pub none_deleted : (old new : List Statement) → count ≤ t → new ≡ old → new ≡ old ++ cons_option (deletion_at s t) []
  none_deleted old new m e = nothing_behind old new _ e (no_deletion s t (subst (λ n. n ≤ t) is m))

pub one_deleted : (s : Setting) (t : ℕ) (old new : List Statement) (x u : Statement) → slice_get (triples s.present) t ≡ Some u → x ≡ u → new ≡ old ++ x ∷ [] → new ≡ old ++ cons_option (deletion_at s t) []
one_deleted s t old new x u h same e = behind old new x u _ e same (one_deletion s t u h)
