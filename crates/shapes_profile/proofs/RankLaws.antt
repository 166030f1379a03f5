-- Circles and depths of the graph over numbers are those of the shapes.
use Rattle.std.proofs.Common.{◌≡◌, ℕ, ◌+◌, ◌<◌, ◌≤◌, min, ◌⊎◌, inl, inr, true, false, List, length, refl, sym, ap, subst, ◌∙◌, arith}
use Rattle.std.specs.Prelude.{Option, Some, None, option_map, slice_get, nat_le}
use Rattle.rdf_terms.specs.declared.term.Term.{Term}
use Rattle.rdf_terms.specs.Graph.{Graph}
use Rattle.digraph.specs.Digraph.{Digraph, successors_at, look}
use Rattle.digraph.specs.Digraph as number
use Rattle.digraph.specs.Reach.{IsOnCircle}
use Rattle.digraph.specs.Depth.{depth_in}
use Rattle.rdf_navigation.specs.Numbers.{term_at, IsNumbered}
use Rattle.rdf_navigation.proofs.PropertyLaws.{same_some, not_missing}
use Rattle.rdf_navigation.proofs.NumberLaws.{at_place, place_within}
use Rattle.std.proofs.lemmas.Bool.{cases_lt, false≢true}
use Rattle.shapes_profile.specs.Logic.{IsFirst, NoneOf}
use Rattle.shapes_profile.specs.Shapes.{shape_terms, shape_nodes}
use Rattle.shapes_profile.specs.References.{shape_references, IsRecursive, rank}
use Rattle.shapes_profile.specs.Profile.{IsOver}
use Rattle.shapes_profile.specs.RankTable.{AreRanks, is_too_deep}
use Rattle.property_paths.proofs.NumberedWalks.{circle_there, circle_back, depth_there, within}

module _ (s : Graph) (g : Digraph) (len : length g ≡ length (shape_terms s)) (w : IsNumbered (shape_references s) (shape_nodes s) g) where
  -- the first number on a circle is that of the first recursive shape
  pub recursive_first : (i : ℕ) (x : Term) → number.IsFirst (IsOnCircle (successors_at g)) i → slice_get (shape_terms s) i ≡ Some x → IsFirst (IsRecursive s) (shape_terms s) x
  unfolding IsRecursive
  recursive_first i x first e = record { place = i; there = e; own = own; before = before }
    where
      own : IsOnCircle (shape_references s) x
      own = subst (λ (y : Term). IsOnCircle (shape_references s) y) (at_place (shape_nodes s) i x e) (circle_there (shape_references s) (shape_nodes s) g len w i (place_within (shape_nodes s) i x e) first.has)

      before : (j : ℕ) (y : Term) → j < i → slice_get (shape_terms s) j ≡ Some y → ¬ (IsOnCircle (shape_references s) y)
      before j y lt a c = first.before j lt (circle_back (shape_references s) (shape_nodes s) g len w j (place_within (shape_nodes s) j y a) (subst (λ (z : Term). IsOnCircle (shape_references s) z) (sym (at_place (shape_nodes s) j y a)) c))

  pub recursive_none : ((i : ℕ) → ¬ (IsOnCircle (successors_at g) i)) → NoneOf (IsRecursive s) (shape_terms s)
  unfolding IsRecursive
  recursive_none none i x e c =
      none i (circle_back (shape_references s) (shape_nodes s) g len w i (place_within (shape_nodes s) i x e) (subst (λ (z : Term). IsOnCircle (shape_references s) z) (sym (at_place (shape_nodes s) i x e)) c))

  pub recursive_within : (i : ℕ) → number.IsFirst (IsOnCircle (successors_at g)) i → i < length (shape_terms s)
  recursive_within i first = let l = within g i first.has in omega (arith, len, l)

  -- the capped depths of the numbers are the capped ranks of the shapes
  pub ranks_right : (v : List (Option ℕ)) → length v ≡ length g → ((i : ℕ) → look v i ≡ option_map (min 129) (depth_in (successors_at g) (length g) i)) → AreRanks s v
  unfolding rank
  ranks_right v size value = record { size = size ∙ len; listed = listed }
    where
      listed : (i : ℕ) (x : Term) → slice_get (shape_terms s) i ≡ Some x → look v i ≡ option_map (min 129) (depth_in (shape_references s) (length (shape_terms s)) x)
      listed i x e =
          value i ∙ ap (option_map (min 129))
          (sym (depth_there (shape_references s) (shape_nodes s) g len w (length g) i (place_within (shape_nodes s) i x e))
          ∙ ap (λ k. depth_in (shape_references s) k (term_at (shape_nodes s) i)) len
          ∙ ap (λ (y : Term). depth_in (shape_references s) (length (shape_terms s)) y) (at_place (shape_nodes s) i x e))

-- the test of a depth up to the cap says that no depth is below the cap
small : (b r : ℕ) → r ≤ b → nat_le (b + 1) (min (b + 1) r) ≡ false
small b r l = grind arith

large : (b r : ℕ) → b < r → nat_le (b + 1) (min (b + 1) r) ≡ true
large b r l = grind arith

pub deep_is : (b : ℕ) (d : Option ℕ) → is_too_deep (b + 1) (option_map (min (b + 1)) d) ≡ true → IsOver b d
deep_is b None e q h = absurd (not_missing q h)
deep_is b (Some r) e q h = at (cases_lt b r)
  where
    at : (b < r) ⊎ (r ≤ b) → b < q
    at (inl l) = subst (λ k. b < k) (same_some h) l
    at (inr l) = absurd (false≢true (sym (small b r l) ∙ e))

pub deep_not : (b : ℕ) (d : Option ℕ) → is_too_deep (b + 1) (option_map (min (b + 1)) d) ≡ false → ¬ (IsOver b d)
deep_not b None e over = false≢true (sym e)
deep_not b (Some r) e over = false≢true (sym e ∙ large b r (over r refl))
