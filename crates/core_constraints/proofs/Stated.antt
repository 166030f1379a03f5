-- The constraints of a shape, and what is remembered of verdicts.
use Rattle.std.proofs.Common.{◌≡◌, ℕ, suc, ◌+◌, ◌<◌, ◌⊎◌, inl, inr, Bool, List, [], ◌∷◌, length, take, Contains, Option, Some, None, slice_get, sym, ap, ◌∙◌, subst, arith}
use Rattle.std.specs.Prelude.{nat_eq, option_map, filter_map}
use Rattle.std.specs.HashMap.{get}
use Rattle.std.specs.List.{enumerate_from}
use Rattle.std.proofs.lemmas.Option.{slice_get-get_or}
use Rattle.rdf_terms.specs.Graph.{Graph, triples}
use Rattle.rdf_terms.specs.declared.term.Term.TheVariants.{Iri}
use Rattle.rdf_navigation.proofs.PropertyLaws.{same_some}
use Rattle.shapes_profile.specs.Shapes.{shape_terms}
use Rattle.shapes_profile.specs.Logic.{EachOf}
use Rattle.shapes_graph.specs.declared.constraints.Constraint.{Constraint}
use Rattle.shapes_graph.specs.Constraints.{constraint_at, constraints_of, place_of}
use Rattle.shapes_graph.specs.Conformance.{OfConstraint}
use Rattle.core_constraints.specs.declared.input.Input.{Input}
use Rattle.core_constraints.specs.declared.memo.Memo.{Memo}
use Rattle.core_constraints.specs.declared.memo.Validation.{Validation}
use Rattle.core_constraints.specs.Decisions.{Says}
use Rattle.core_constraints.specs.Levels.{IsStated}
use Rattle.core_constraints.specs.Tests.{IsPlaceOf}
use Rattle.core_constraints.specs.Findings.{same_validation, term_of, IsConforming, IsTruthful}
use Rattle.shapes_graph.proofs.ConstraintPlaces.{places_within}
use Rattle.core_constraints.proofs.Decided.{each_of, each_at, in_take_next}
use Rattle.core_constraints.proofs.Opened.{IsRanked}

-- a shape has a list of constraints
pub places_there : (s : Graph) (n : ℕ) → n < length (shape_terms s) → (is : List ℕ) × (constraints_of s n ≡ Some is)
unfolding constraints_of
places_there s n l = (_, ap (option_map (λ x. filter_map (place_of s x) (enumerate_from 0 (triples s)))) (slice_get-get_or (shape_terms s) n (Iri []) l))

-- where a shape has a constraint, there is a triple
pub place_within : (s : Graph) (n i : ℕ) → IsPlaceOf s n i → i < length (triples s)
place_within s n i place = let h = place.2 in subst (λ m. m < length (triples s)) h.2 (places_within s n place.0 place.1 h.0 i h.1)

-- the first items have P
pub each_start : {X : Type 0} (P : X → Type 0) (xs : List X) → EachOf P (take 0 xs)
each_start P [] = tt
each_start P (x ∷ xs) = tt

pub each_next : {X : Type 0} (P : X → Type 0) (xs : List X) (j : ℕ) (x : X) → slice_get xs j ≡ Some x → P x → EachOf P (take j xs) → EachOf P (take (j + 1) xs)
each_next {X} P xs j x e p all =
    let q : suc j ≡ j + 1 = omega arith in
    subst (λ m. EachOf P (take m xs)) q (each_of P (take (suc j) xs) (λ y h. pick y (in_take_next xs j x y e h)))
  where
    pick : (y : X) → (x ≡ y) ⊎ Contains (take j xs) y → P y
    pick y (inl d) = subst P d p
    pick y (inr h) = each_at P (take j xs) y all h

-- a constraint that a shape has
pub own_stated : (s : Graph) (n i : ℕ) (c : Constraint) → IsRanked s → IsPlaceOf s n i → constraint_at s i ≡ Some c → IsStated s i c × (c.shape ≡ n)
own_stated s n i c ranked place e =
    let r = ranked.own n i place.0 place.1 place.2 in
    let d : r.0 ≡ c = same_some (sym r.1 ∙ e) in
    (ranked.stated i c e, subst (λ (c : Constraint). c.shape ≡ n) d r.2)

pub of_constraint : (o : Option Constraint) (c : Constraint) (P : Constraint → Type 0) (b : Bool) → o ≡ Some c → Says b (P c) → Says b (OfConstraint o P)
of_constraint o c P b e h = subst (λ o. Says b (OfConstraint o P)) (sym e) h

pub no_constraint : (o : Option Constraint) (P : Constraint → Type 0) → o ≡ None → ¬ (OfConstraint o P)
no_constraint o P e h = subst (λ o. OfConstraint o P) e h

-- one verdict more
pub noted_truthful : (i : Input) (m w : Memo) (k : Validation) (b : Bool) → IsTruthful i m
    → ((v : Validation) (a : Bool) → get same_validation w.verdicts v ≡ Some a → (get same_validation m.verdicts v ≡ Some a) ⊎ ((v ≡ k) × (a ≡ b)))
    → w.classes ≡ m.classes → Says b (IsConforming i k.shape (term_of i k.node)) → IsTruthful i w
noted_truthful i m w k b h noted classes right =
    record {
      verdict = λ v a e. pick v a (noted v a e);
      subclasses = λ c ns e. h.subclasses c ns (subst (λ cs. get nat_eq cs c ≡ Some ns) classes e);
    }
  where
    pick : (v : Validation) (a : Bool) → (get same_validation m.verdicts v ≡ Some a) ⊎ ((v ≡ k) × (a ≡ b)) → Says a (IsConforming i v.shape (term_of i v.node))
    pick v a (inl e) = h.verdict v a e
    pick v a (inr e) = subst (λ a. Says a (IsConforming i v.shape (term_of i v.node))) (sym e.1) (subst (λ (v : Validation). Says b (IsConforming i v.shape (term_of i v.node))) (sym e.0) right)
