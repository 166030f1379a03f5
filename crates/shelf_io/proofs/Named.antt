-- Lists of things with names, of which the first of each name counts.
use Rattle.std.proofs.Common.{◌≡◌, ◌≢◌, ℕ, ◌≤◌, Bool, true, false, cond, List, [], ◌∷◌, ◌++◌, length, get_or, set, Option, Some, None, refl, sym, ap, ◌∙◌, MatchBool, nat_eq, nat_lt}
use Rattle.std.specs.Cmp.Lexicographic.{pointwise, told_text, same_text}
use Rattle.std.specs.List.{find, position, position_or_len, slice_get}
use Rattle.std.specs.Option.{option_or}
use Rattle.std.proofs.lemmas.Bool.{ltb-false}
use Rattle.std.proofs.lemmas.Option.{slice_get-get_or, slice_get_past}
use Rattle.std.proofs.lemmas.List.Folds.{find_at, find-set, find_past, find-append}
use Rattle.std.proofs.lemmas.List.Quantifiers.{position-Some}
use Rattle.shelf_io.specs.Named.{ChangesOnly}

same_name : (a b : List ℕ) → a ≡ b → pointwise nat_eq a b ≡ true
same_name a b e = told (pointwise nat_eq a b) (told_text a b _ refl)
  where
    told : (r : Bool) → MatchBool r (a ≡ b) (a ≢ b) → r ≡ true
    told true m = refl
    told false m = absurd (m e)

other_name : (a b : List ℕ) → a ≢ b → pointwise nat_eq a b ≡ false
other_name a b ne = told (pointwise nat_eq a b) (told_text a b _ refl)
  where
    told : (r : Bool) → MatchBool r (a ≡ b) (a ≢ b) → r ≡ false
    told true m = absurd (ne m)
    told false m = refl

-- the first of that name
abbrev pub first_of_name : {X : Type 0} → (X → List ℕ) → List X → List ℕ → Option X
first_of_name name_of xs name = find (λ x. pointwise nat_eq (name_of x) name) xs

abbrev pub place_of_name : {X : Type 0} → (X → List ℕ) → List X → List ℕ → Option ℕ
place_of_name name_of xs name = position (λ x. pointwise nat_eq (name_of x) name) xs

position_is : {X : Type 0} (p : X → Bool) (xs : List X) (i : ℕ) → position p xs ≡ Some i → i ≡ position_or_len p xs
position_is p xs i =
    elim (nat_lt (position_or_len p xs) (length xs)) as (λ b. cond b (Some (position_or_len p xs)) None ≡ Some i → i ≡ position_or_len p xs) [
      | true ↦ λ e. cc
      | false ↦ λ e. cc
    ]

position_past : {X : Type 0} (p : X → Bool) (xs : List X) → position p xs ≡ None → length xs ≤ position_or_len p xs
position_past p xs =
    elim (nat_lt (position_or_len p xs) (length xs)) as (λ b. nat_lt (position_or_len p xs) (length xs) ≡ b → cond b (Some (position_or_len p xs)) None ≡ None → length xs ≤ position_or_len p xs) [
      | true ↦ λ t e. cc
      | false ↦ λ t e. ltb-false (position_or_len p xs) (length xs) t
    ] refl

pub found : {X : Type 0} (name_of : X → List ℕ) (xs : List X) (name : List ℕ) (i : ℕ) (d : X) → place_of_name name_of xs name ≡ Some i → first_of_name name_of xs name ≡ Some (get_or xs i d)
found name_of xs name i d e =
    find_at (λ x. pointwise nat_eq (name_of x) name) xs
    ∙ ap (λ j. slice_get xs j) (sym (position_is (λ x. pointwise nat_eq (name_of x) name) xs i e))
    ∙ slice_get-get_or xs i d (position-Some (λ x. pointwise nat_eq (name_of x) name) xs i d e).0

pub has_name : {X : Type 0} (name_of : X → List ℕ) (xs : List X) (name : List ℕ) (i : ℕ) (d : X) → place_of_name name_of xs name ≡ Some i → name_of (get_or xs i d) ≡ name
has_name name_of xs name i d e =
    same_text (name_of (get_or xs i d)) name (sym (position-Some (λ x. pointwise nat_eq (name_of x) name) xs i d e).1)

pub missing : {X : Type 0} (name_of : X → List ℕ) (xs : List X) (name : List ℕ) → place_of_name name_of xs name ≡ None → first_of_name name_of xs name ≡ None
missing name_of xs name e =
    find_at (λ x. pointwise nat_eq (name_of x) name) xs
    ∙ slice_get_past xs (position_or_len (λ x. pointwise nat_eq (name_of x) name) xs) (position_past (λ x. pointwise nat_eq (name_of x) name) xs e)

-- the first of that name is replaced by another of that name
pub replaced : {X : Type 0} (name_of : X → List ℕ) (xs : List X) (name : List ℕ) (i : ℕ) (d y : X) → place_of_name name_of xs name ≡ Some i → name_of y ≡ name → ChangesOnly (first_of_name name_of xs) (first_of_name name_of (set xs i y)) name (Some y)
replaced name_of xs name i d y e n =
    record {
      here = find-set (λ x. pointwise nat_eq (name_of x) name) xs i y (position_is (λ x. pointwise nat_eq (name_of x) name) xs i e) (position-Some (λ x. pointwise nat_eq (name_of x) name) xs i d e).0 (same_name (name_of y) name n);
      others = λ other ne. find_past (λ x. pointwise nat_eq (name_of x) other) xs i y d
          (other_name (name_of (get_or xs i d)) other (λ q. ne (sym q ∙ has_name name_of xs name i d e)))
          (other_name (name_of y) other (λ q. ne (sym q ∙ n)));
    }

option_or_none : {X : Type 0} (o : Option X) → option_or o None ≡ o
option_or_none None = refl
option_or_none (Some x) = refl

-- the first of a name is appended
pub appended : {X : Type 0} (name_of : X → List ℕ) (xs : List X) (name : List ℕ) (y : X) → place_of_name name_of xs name ≡ None → name_of y ≡ name → ChangesOnly (first_of_name name_of xs) (first_of_name name_of (xs ++ y ∷ [])) name (Some y)
appended name_of xs name y e n =
    record {
      here = find-append (λ x. pointwise nat_eq (name_of x) name) xs (y ∷ []) ∙ rw (missing name_of xs name e, same_name (name_of y) name n);
      others = λ other ne. find-append (λ x. pointwise nat_eq (name_of x) other) xs (y ∷ [])
          ∙ rw (other_name (name_of y) other (λ q. ne (sym q ∙ n))) (option_or_none (first_of_name name_of xs other));
    }
