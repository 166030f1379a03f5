-- The first rule of the table that a shape breaks is the smallest that it breaks.
use Rattle.std.proofs.Common.{◌≡◌, ℕ, ◌≤◌, inl, inr, Bool, true, false, cond, IsTrue, List, [], ◌∷◌, Some, None, refl, sym, ap, ◌∙◌, arith}
use Rattle.std.proofs.lemmas.Bool.{false≢true}
use Rattle.rdf_terms.specs.Graph.{Graph}
use Rattle.rdf_terms.specs.declared.term.Term.{Term}
use Rattle.shapes_profile.specs.Logic.{EachOf, SomeOf}
use Rattle.shapes_profile.specs.IllFormed.{Rule, rules, Breaks, IsIllFormed, IsSmallestRule}
use Rattle.shapes_profile.specs.IllFormed.{cannot_be_shape, has_two, lacks_path, is_node_shape_with_path, has_value_no_path, has_property_of_path, has_value_no_list, has_other_value}
use Rattle.shapes_profile.specs.RuleTable.{first_rule, rule_of}

abbrev Ascending : List Rule → Type 0
Ascending [] = Unit {0}
Ascending (r ∷ rs) = EachOf (λ (q : Rule). r.number ≤ q.number) rs × Ascending rs

module _ (s : Graph) (x : Term) where
  abbrev IsBroken : ℕ → Rule → Type 0
  IsBroken k r = (r.number ≡ k) × IsTrue (r.breaks s x)

  found : (rs : List Rule) (k : ℕ) → first_rule rs s x ≡ Some k → SomeOf (IsBroken k) rs
  found [] k e = absurd (let z : None ≡ Some k = e in cc)
  found (r ∷ rs) k e = at (r.breaks s x) refl e (found rs k)
    where
      at : (b : Bool) → r.breaks s x ≡ b → cond b (Some r.number) (first_rule rs s x) ≡ Some k → (first_rule rs s x ≡ Some k → SomeOf (IsBroken k) rs) → SomeOf (IsBroken k) (r ∷ rs)
      at true b e more = let n : r.number ≡ k = cc in inl (n, b)
      at false b e more = inr (more e)

  none : (rs : List Rule) (j : ℕ) → first_rule rs s x ≡ None → SomeOf (IsBroken j) rs → ⊥
  none [] j e h = h
  none (r ∷ rs) j e h = at (r.breaks s x) refl e h (none rs j)
    where
      at : (b : Bool) → r.breaks s x ≡ b → cond b (Some r.number) (first_rule rs s x) ≡ None → SomeOf (IsBroken j) (r ∷ rs) → (first_rule rs s x ≡ None → SomeOf (IsBroken j) rs → ⊥) → ⊥
      at true b e h more = let z : None ≡ Some r.number = sym e in cc
      at false b e (inl h) more = false≢true (sym b ∙ h.1)
      at false b e (inr h) more = more e h

  above : (n j : ℕ) (rs : List Rule) → EachOf (λ (q : Rule). n ≤ q.number) rs → SomeOf (IsBroken j) rs → n ≤ j
  above n j [] a h = absurd h
  above n j (r ∷ rs) a (inl h) = let l = a.0 in let e = h.0 in omega (arith, l, e)
  above n j (r ∷ rs) a (inr h) = above n j rs a.1 h

  least : (rs : List Rule) → Ascending rs → (k : ℕ) → first_rule rs s x ≡ Some k → (j : ℕ) → SomeOf (IsBroken j) rs → k ≤ j
  least [] a k e j h = absurd h
  least (r ∷ rs) a k e j h = at (r.breaks s x) refl e h (least rs a.1 k)
    where
      at : (b : Bool) → r.breaks s x ≡ b → cond b (Some r.number) (first_rule rs s x) ≡ Some k → SomeOf (IsBroken j) (r ∷ rs) → (first_rule rs s x ≡ Some k → (j : ℕ) → SomeOf (IsBroken j) rs → k ≤ j) → k ≤ j
      at true b e (inl h) more = let n : r.number ≡ k = cc in let m = h.0 in omega (arith, n, m)
      at true b e (inr h) more = let n : r.number ≡ k = cc in let l = above r.number j rs a.0 h in omega (arith, n, l)
      at false b e (inl h) more = absurd (false≢true (sym b ∙ h.1))
      at false b e (inr h) more = more e j h

ascending : Ascending rules
unfolding rules
ascending = ((omega arith, (omega arith, (omega arith, (omega arith, (omega arith, (omega arith, (omega arith, tt))))))), ((omega arith, (omega arith, (omega arith, (omega arith, (omega arith, (omega arith, tt)))))), ((omega arith, (omega arith, (omega arith, (omega arith, (omega arith, tt))))), ((omega arith, (omega arith, (omega arith, (omega arith, tt)))), ((omega arith, (omega arith, (omega arith, tt))), ((omega arith, (omega arith, tt)), ((omega arith, tt), (tt, tt))))))))

pub smallest_rule : (s : Graph) (x : Term) (k : ℕ) → rule_of s x ≡ Some k → IsSmallestRule s x k
unfolding rule_of Breaks
smallest_rule s x k e = record { breaks = found s x rules k e; least = least s x rules ascending k e }

pub ill_formed : (s : Graph) (x : Term) (k : ℕ) → rule_of s x ≡ Some k → IsIllFormed s x
unfolding rule_of Breaks
ill_formed s x k e = (k, found s x rules k e)

pub well_formed : (s : Graph) (x : Term) → rule_of s x ≡ None → ¬ (IsIllFormed s x)
unfolding rule_of Breaks
well_formed s x e h = none s x rules h.0 e h.1

pass : (s : Graph) (x : Term) (r : Rule) (rs : List Rule) → r.breaks s x ≡ false → first_rule rs s x ≡ first_rule (r ∷ rs) s x
pass s x r rs h = sym (ap (λ (b : Bool). cond b (Some r.number) (first_rule rs s x)) h)

stop : (s : Graph) (x : Term) (r : Rule) (rs : List Rule) → r.breaks s x ≡ true → Some r.number ≡ first_rule (r ∷ rs) s x
stop s x r rs h = sym (ap (λ (b : Bool). cond b (Some r.number) (first_rule rs s x)) h)

abbrev r1 : Rule
r1 = record { number = 1; breaks = cannot_be_shape }

abbrev r2 : Rule
r2 = record { number = 2; breaks = has_two }

abbrev r3 : Rule
r3 = record { number = 3; breaks = lacks_path }

abbrev r4 : Rule
r4 = record { number = 4; breaks = is_node_shape_with_path }

abbrev r5 : Rule
r5 = record { number = 5; breaks = has_value_no_path }

abbrev r6 : Rule
r6 = record { number = 6; breaks = has_property_of_path }

abbrev r7 : Rule
r7 = record { number = 7; breaks = has_value_no_list }

abbrev r8 : Rule
r8 = record { number = 8; breaks = has_other_value }

abbrev after_8 : List Rule
after_8 = []

abbrev after_7 : List Rule
after_7 = r8 ∷ after_8

abbrev after_6 : List Rule
after_6 = r7 ∷ after_7

abbrev after_5 : List Rule
after_5 = r6 ∷ after_6

abbrev after_4 : List Rule
after_4 = r5 ∷ after_5

abbrev after_3 : List Rule
after_3 = r4 ∷ after_4

abbrev after_2 : List Rule
after_2 = r3 ∷ after_3

abbrev after_1 : List Rule
after_1 = r2 ∷ after_2

pub rule_1 : (s : Graph) (x : Term) → cannot_be_shape s x ≡ true → Some 1 ≡ rule_of s x
unfolding rules rule_of
rule_1 s x h =
    stop s x r1 after_1 h

pub rule_2 : (s : Graph) (x : Term) → cannot_be_shape s x ≡ false → has_two s x ≡ true → Some 2 ≡ rule_of s x
unfolding rules rule_of
rule_2 s x n1 h =
    stop s x r2 after_2 h ∙ pass s x r1 after_1 n1

pub rule_3 : (s : Graph) (x : Term) → cannot_be_shape s x ≡ false → has_two s x ≡ false → lacks_path s x ≡ true → Some 3 ≡ rule_of s x
unfolding rules rule_of
rule_3 s x n1 n2 h =
    stop s x r3 after_3 h ∙ pass s x r2 after_2 n2 ∙ pass s x r1 after_1 n1

pub rule_4 : (s : Graph) (x : Term) → cannot_be_shape s x ≡ false → has_two s x ≡ false → lacks_path s x ≡ false → is_node_shape_with_path s x ≡ true → Some 4 ≡ rule_of s x
unfolding rules rule_of
rule_4 s x n1 n2 n3 h =
    stop s x r4 after_4 h ∙ pass s x r3 after_3 n3 ∙ pass s x r2 after_2 n2 ∙ pass s x r1 after_1 n1

pub rule_5 : (s : Graph) (x : Term) → cannot_be_shape s x ≡ false → has_two s x ≡ false → lacks_path s x ≡ false → is_node_shape_with_path s x ≡ false → has_value_no_path s x ≡ true → Some 5 ≡ rule_of s x
unfolding rules rule_of
rule_5 s x n1 n2 n3 n4 h =
    stop s x r5 after_5 h ∙ pass s x r4 after_4 n4 ∙ pass s x r3 after_3 n3 ∙ pass s x r2 after_2 n2 ∙ pass s x r1 after_1 n1

pub rule_6 : (s : Graph) (x : Term) → cannot_be_shape s x ≡ false → has_two s x ≡ false → lacks_path s x ≡ false → is_node_shape_with_path s x ≡ false → has_value_no_path s x ≡ false → has_property_of_path s x ≡ true → Some 6 ≡ rule_of s x
unfolding rules rule_of
rule_6 s x n1 n2 n3 n4 n5 h =
    stop s x r6 after_6 h ∙ pass s x r5 after_5 n5 ∙ pass s x r4 after_4 n4 ∙ pass s x r3 after_3 n3 ∙ pass s x r2 after_2 n2 ∙ pass s x r1 after_1 n1

pub rule_7 : (s : Graph) (x : Term) → cannot_be_shape s x ≡ false → has_two s x ≡ false → lacks_path s x ≡ false → is_node_shape_with_path s x ≡ false → has_value_no_path s x ≡ false → has_property_of_path s x ≡ false → has_value_no_list s x ≡ true → Some 7 ≡ rule_of s x
unfolding rules rule_of
rule_7 s x n1 n2 n3 n4 n5 n6 h =
    stop s x r7 after_7 h ∙ pass s x r6 after_6 n6 ∙ pass s x r5 after_5 n5 ∙ pass s x r4 after_4 n4 ∙ pass s x r3 after_3 n3 ∙ pass s x r2 after_2 n2 ∙ pass s x r1 after_1 n1

pub rule_8 : (s : Graph) (x : Term) → cannot_be_shape s x ≡ false → has_two s x ≡ false → lacks_path s x ≡ false → is_node_shape_with_path s x ≡ false → has_value_no_path s x ≡ false → has_property_of_path s x ≡ false → has_value_no_list s x ≡ false → has_other_value s x ≡ true → Some 8 ≡ rule_of s x
unfolding rules rule_of
rule_8 s x n1 n2 n3 n4 n5 n6 n7 h =
    stop s x r8 after_8 h ∙ pass s x r7 after_7 n7 ∙ pass s x r6 after_6 n6 ∙ pass s x r5 after_5 n5 ∙ pass s x r4 after_4 n4 ∙ pass s x r3 after_3 n3 ∙ pass s x r2 after_2 n2 ∙ pass s x r1 after_1 n1

pub no_rule : (s : Graph) (x : Term) → cannot_be_shape s x ≡ false → has_two s x ≡ false → lacks_path s x ≡ false → is_node_shape_with_path s x ≡ false → has_value_no_path s x ≡ false → has_property_of_path s x ≡ false → has_value_no_list s x ≡ false → has_other_value s x ≡ false → None ≡ rule_of s x
unfolding rules rule_of
no_rule s x n1 n2 n3 n4 n5 n6 n7 n8 =
    pass s x r8 after_8 n8 ∙ pass s x r7 after_7 n7 ∙ pass s x r6 after_6 n6 ∙ pass s x r5 after_5 n5 ∙ pass s x r4 after_4 n4 ∙ pass s x r3 after_3 n3 ∙ pass s x r2 after_2 n2 ∙ pass s x r1 after_1 n1
