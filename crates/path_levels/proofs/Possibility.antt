-- The possible nodes are those to which a path leads with all candidates in the graph.
use Rattle.std.proofs.Common.{◌≡◌, ◌↔◌, ℕ, zero, suc, ◌+◌, ◌<◌, ◌≤◌, Bool, true, false, cond, List, [], ◌∷◌, length, Contains, Option, Some, None, slice_get, nat_lt, zero-add, refl, sym, ap, ◌∙◌, subst, arith}
use Rattle.std.specs.List.{filter, range_with_len}
use Rattle.std.specs.List.Sorted.{IsStrictlyIncreasing}
use Rattle.std.proofs.lemmas.Bool.{false≢true, ltb-true, lt-ltb}
use Rattle.std.proofs.lemmas.List.FromFn.{length-range_with_len, get_or-range_with_len}
use Rattle.std.proofs.lemmas.List.Kept.{IsStrictlyIncreasing-filter}
use Rattle.rdf_terms.specs.declared.term.Term.{Term}
use Rattle.rdf_terms.specs.Nodes.{terms}
use Rattle.rdf_terms.proofs.Members.{in_none, in_filter, filter_in}
use Rattle.shapes_graph.specs.PathForms.{paths}
use Rattle.shapes_graph.specs.Reach.{ReachIn, Reaches, path_levels}
use Rattle.repair_problem.specs.Setting.{Setting, nodes, node, full}
use Rattle.path_levels.specs.LeadingTests.{leads_by, leads_in}
use Rattle.path_levels.specs.PossibleNodes.{node_count, can_lead, possible, ArePossible}
use Rattle.path_levels.specs.PathParts.{is_possible}
use Rattle.path_levels.proofs.Choices.{number_in, in_number}
use Rattle.path_levels.proofs.LeadingLaws.{leads_sound, leads_whole}
use Rattle.path_levels.proofs.NodeLaws.{ends_listed, node_listed}

pub below_in : (n y : ℕ) → y < n → Contains (range_with_len 0 n) y
below_in n y l = (y, subst (λ m. y < m) (sym (length-range_with_len 0 n)) l, get_or-range_with_len 0 n y y l ∙ zero-add y)

pub below_out : (n y : ℕ) → Contains (range_with_len 0 n) y → y < n
below_out n y c =
    let l : c.0 < n = subst (λ m. c.0 < m) (length-range_with_len 0 n) c.1 in
    let e : c.0 ≡ y = sym (get_or-range_with_len 0 n c.0 y l ∙ zero-add c.0) ∙ c.2 in
    subst (λ k. k < n) e l

pub below_rises : (n : ℕ) → IsStrictlyIncreasing (range_with_len 0 n)
below_rises n k l =
    let m : k + 1 < n = subst (λ i. k + 1 < i) (length-range_with_len 0 n) l in
    let a = get_or-range_with_len 0 n k 0 (omega arith) in
    let b = get_or-range_with_len 0 n (k + 1) 0 m in
    omega arith

module _ (s : Setting) (p x : ℕ) where
  -- path p leads from x with all candidates
  abbrev IsLed : ℕ → Type 0
  IsLed y = Reaches s.shapes p (full s) (node s x) (node s y)

  led_test : (y : ℕ) → can_lead s p x y ≡ true → IsLed y
  unfolding Reaches
  led_test y e = leads_sound (terms (nodes s)) path_levels (paths s.shapes) (full s) p (node s x) (node s y) e

  test_led : (y : ℕ) → x < node_count s → IsLed y → can_lead s p x y ≡ true
  unfolding Reaches
  test_led y l r = leads_whole (terms (nodes s)) (full s) (ends_listed s) path_levels (paths s.shapes) p (node s x) (node s y) (node_listed s x l) r

  pub possible_is : x < node_count s → possible s p x ≡ filter (can_lead s p x) (range_with_len 0 (node_count s))
  unfolding possible
  possible_is l = ap (λ b. cond b (filter (can_lead s p x) (range_with_len 0 (node_count s))) []) (lt-ltb x (node_count s) l)

  pub possible_none : (x < node_count s → ⊥) → possible s p x ≡ []
  unfolding possible
  possible_none never = at (nat_lt x (node_count s)) refl
    where
      at : (b : Bool) → nat_lt x (node_count s) ≡ b → cond b (filter (can_lead s p x) (range_with_len 0 (node_count s))) [] ≡ []
      at true e = absurd (never (ltb-true x (node_count s) e))
      at false e = refl

  -- what is possible
  pub possible_has : (y : ℕ) → x < node_count s → y < node_count s → IsLed y → Contains (possible s p x) y
  possible_has y l m r = subst (λ ys. Contains ys y) (sym (possible_is l)) (in_filter (can_lead s p x) (range_with_len 0 (node_count s)) y (below_in (node_count s) y m) (test_led y l r))

  pub possible_rises : IsStrictlyIncreasing (possible s p x)
  unfolding possible
  possible_rises = at (nat_lt x (node_count s))
    where
      none : IsStrictlyIncreasing []
      none k l = absurd (omega arith)

      at : (b : Bool) → IsStrictlyIncreasing (cond b (filter (can_lead s p x) (range_with_len 0 (node_count s))) [])
      at true = IsStrictlyIncreasing-filter (can_lead s p x) (range_with_len 0 (node_count s)) (below_rises (node_count s))
      at false = none

  -- where a node is possible there is a start
  started : (y : ℕ) → Contains (possible s p x) y → x < node_count s
  unfolding possible
  started y c = at (nat_lt x (node_count s)) refl c
    where
      at : (b : Bool) → nat_lt x (node_count s) ≡ b → Contains (cond b (filter (can_lead s p x) (range_with_len 0 (node_count s))) []) y → x < node_count s
      at true e c = ltb-true x (node_count s) e
      at false e c = absurd (in_none y c)

  pub has_possible : (y : ℕ) → Contains (possible s p x) y → (x < node_count s) × (y < node_count s) × IsLed y
  has_possible y c =
      let l = started y c in
      let r = filter_in (can_lead s p x) (range_with_len 0 (node_count s)) y (subst (λ ys. Contains ys y) (possible_is l) c) in
      (l, below_out (node_count s) y r.0, led_test y r.1)

  pub possible_exact : (y : ℕ) → Contains (possible s p x) y ↔ ((x < node_count s) × (y < node_count s) × IsLed y)
  possible_exact y = (has_possible y, λ h. possible_has y h.0 h.1 h.2)

  -- the same by the test
  pub is_possible_has : (y : ℕ) → x < node_count s → y < node_count s → IsLed y → is_possible s p x y ≡ true
  is_possible_has y l m r = in_number (possible s p x) y (possible_has y l m r)

  pub has_is_possible : (y : ℕ) → is_possible s p x y ≡ true → (x < node_count s) × (y < node_count s) × IsLed y
  has_is_possible y e = has_possible y (number_in (possible s p x) y e)

pub possible_are : (s : Setting) (p x : ℕ) (ys : List ℕ) → ys ≡ possible s p x → ArePossible s p x ys
possible_are s p x ys e = subst (ArePossible s p x) (sym e) (record { rises = possible_rises s p x; exact = possible_exact s p x })

past : {X : Type 0} (xs : List X) (p : ℕ) → length xs ≤ p → slice_get xs p ≡ None
past [] p l = refl
past (x ∷ xs) zero l = absurd (omega (arith, l))
past (x ∷ xs) (suc p) l = past xs p (omega (arith, l))

none_passes : (f : ℕ → Bool) (xs : List ℕ) → ((y : ℕ) → f y ≡ false) → filter f xs ≡ []
none_passes f [] h = refl
none_passes f (x ∷ xs) h = ap (λ b. cond b (x ∷ filter f xs) (filter f xs)) (h x) ∙ none_passes f xs h

-- what is no path leads nowhere
pub no_path : (s : Setting) (p x : ℕ) → length (paths s.shapes) ≤ p → possible s p x ≡ []
unfolding possible leads_in
no_path s p x l = at (nat_lt x (node_count s))
  where
    fails : (y : ℕ) → can_lead s p x y ≡ false
    fails y = ap (λ f. leads_by (terms (nodes s)) (λ q a b. leads_in (terms (nodes s)) 32 (paths s.shapes) (full s) q a b) f (full s) (node s x) (node s y)) (past (paths s.shapes) p l)

    at : (b : Bool) → cond b (filter (can_lead s p x) (range_with_len 0 (node_count s))) [] ≡ []
    at true = none_passes (can_lead s p x) (range_with_len 0 (node_count s)) fails
    at false = refl
