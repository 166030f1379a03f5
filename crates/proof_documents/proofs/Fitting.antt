-- The first change of a document that does not fit the data.
use Rattle.std.proofs.Common.{◌≡◌, ℕ, ◌+◌, Bool, true, false, not, ltb, List, [], ◌∷◌, ◌++◌, length, map, Option, Some, None, MatchOption, position, ◌⊎◌, inl, inr, refl, sym, ap, subst, ◌∙◌, append_assoc, arith, length-append}
use Rattle.std.specs.List.{All, position_or_len}
use Rattle.std.proofs.lemmas.Bool.{lt-ltb, le-ltb, not-true, not-false}
use Rattle.std.proofs.lemmas.List.{length-map, map-append}
use Rattle.std.proofs.lemmas.List.Elements.{All-nil, All-cons, All-append, All-map, All-weaker}
use Rattle.rdf_terms.specs.Statement.{Statement}
use Rattle.rdf_terms.specs.Graph.{Graph, has}
use Rattle.proof_documents.specs.Document.{Document}
use Rattle.proof_documents.specs.Applying.{Change, changes, Fits, IsOutside}

-- the first item that passes stands at this place
record IsFirst {X : Type 0} (p : X → Bool) (xs : List X) (place : ℕ) : Type 0 where
  before : List X
  item : X
  after : List X
  parts : xs ≡ before ++ item ∷ after
  none : All (λ x. p x ≡ false) before
  passes : p item ≡ true
  count : place ≡ length before

record IsNone {X : Type 0} (p : X → Bool) (xs : List X) (place : ℕ) : Type 0 where
  none : All (λ x. p x ≡ false) xs
  count : place ≡ length xs

front_of : {X : Type 0} (p : X → Bool) (x : X) (xs : List X) (b : Bool) → p x ≡ b → IsFirst p xs (position_or_len p xs) ⊎ IsNone p xs (position_or_len p xs)
    → IsFirst p (x ∷ xs) (position_or_len p (x ∷ xs)) ⊎ IsNone p (x ∷ xs) (position_or_len p (x ∷ xs))
front_of p x xs true e rest = inl (record { before = []; item = x; after = xs; parts = refl; none = All-nil (λ x. p x ≡ false); passes = e; count = rw e refl })
front_of {X} p x xs false e (inl h) = inl (record {
  before = x ∷ h.before;
  item = h.item;
  after = h.after;
  parts = ap (λ (t : List X). x ∷ t) h.parts;
  none = All-cons (λ x. p x ≡ false) x h.before e h.none;
  passes = h.passes;
  count = rw e (omega (arith, h.count));
})
front_of p x xs false e (inr h) = inr (record { none = All-cons (λ x. p x ≡ false) x xs e h.none; count = rw e (omega (arith, h.count)) })

first_or_none : {X : Type 0} (p : X → Bool) (xs : List X) → IsFirst p xs (position_or_len p xs) ⊎ IsNone p xs (position_or_len p xs)
first_or_none p [] = inr (record { none = All-nil (λ x. p x ≡ false); count = refl })
first_or_none p (x ∷ xs) = front_of p x xs (p x) refl (first_or_none p xs)

-- what the position of an item says
found : {X : Type 0} (p : X → Bool) (xs : List X) (place : ℕ) → Some place ≡ position p xs → IsFirst p xs place
found p xs place e =
    elim (first_or_none p xs) [
      | inl h ↦ let k = position_or_len p xs in let within : ltb k (length xs) ≡ true = lt-ltb k (length xs) (omega (arith, h.count, ap length h.parts, length-append h.before (h.item ∷ h.after))) in
          let same : Some place ≡ Some k = e ∙ rw within refl in
          let is : k ≡ place = cc in
          subst (IsFirst p xs) is h
      | inr h ↦ let none : position p xs ≡ None = rw (le-ltb (position_or_len p xs) (length xs) (omega (arith, h.count))) refl in absurd cc
    ]

not_found : {X : Type 0} (p : X → Bool) (xs : List X) → None ≡ position p xs → All (λ x. p x ≡ false) xs
not_found p xs e =
    elim (first_or_none p xs) [
      | inl h ↦ let k = position_or_len p xs in let within : ltb k (length xs) ≡ true = lt-ltb k (length xs) (omega (arith, h.count, ap length h.parts, length-append h.before (h.item ∷ h.after))) in
          let some : position p xs ≡ Some k = rw within refl in absurd cc
      | inr h ↦ h.none
    ]

-- ---- the changes of a document

abbrev added : Statement → Change
added t = record { adding = true; triple = t }

abbrev deleted : Statement → Change
deleted t = record { adding = false; triple = t }

adds_fit : (g : Graph) (ts : List Statement) → All (λ t. has g t ≡ false) ts → All (Fits g) (map added ts)
adds_fit g ts h = All-map (Fits g) added ts h

deletes_fit : (g : Graph) (ts : List Statement) → All (λ t. not (has g t) ≡ false) ts → All (Fits g) (map deleted ts)
deletes_fit g ts h = All-map (Fits g) deleted ts (All-weaker (λ t. not (has g t) ≡ false) (λ t. has g t ≡ true) (λ t. not-false (has g t)) ts h)

map_parts : (f : Statement → Change) (ts before after : List Statement) (t : Statement) → ts ≡ before ++ t ∷ after → map f ts ≡ map f before ++ f t ∷ map f after
map_parts f ts before after t e = ap (map f) e ∙ map-append f before (t ∷ after)

addition_outside : (g : Graph) (d : Document) (place : ℕ) → Some place ≡ position (has g) d.adds → IsOutside g d (3 + place)
addition_outside g d place e =
    let h = found (has g) d.adds place e in
    let later = map deleted d.deletes in
    record {
      before = map added h.before;
      change = added h.item;
      after = map added h.after ++ later;
      parts = ap (λ (cs : List Change). cs ++ later) (map_parts added d.adds h.before h.after h.item h.parts) ∙ append_assoc (map added h.before) (added h.item ∷ map added h.after) later;
      fit = adds_fit g h.before h.none;
      unfit = λ no. let is = h.passes in absurd cc;
      count = omega (arith, h.count, length-map h.before added);
    }

deletion_outside : (g : Graph) (d : Document) (place : ℕ) → None ≡ position (has g) d.adds → Some place ≡ position (λ t. not (has g t)) d.deletes → IsOutside g d (3 + (length d.adds + place))
deletion_outside g d place none e =
    let h = found (λ t. not (has g t)) d.deletes place e in
    let first = map added d.adds in
    record {
      before = first ++ map deleted h.before;
      change = deleted h.item;
      after = map deleted h.after;
      parts = ap (λ (cs : List Change). first ++ cs) (map_parts deleted d.deletes h.before h.after h.item h.parts) ∙ sym (append_assoc first (map deleted h.before) (deleted h.item ∷ map deleted h.after));
      fit = All-append (Fits g) first (map deleted h.before) (adds_fit g d.adds (not_found (has g) d.adds none)) (deletes_fit g h.before h.none);
      unfit = λ is. let no = not-true (has g h.item) h.passes in absurd cc;
      count = omega (arith, h.count, length-map d.adds added, length-map h.before deleted, length-append first (map deleted h.before));
    }

all_fit : (g : Graph) (d : Document) → None ≡ position (has g) d.adds → None ≡ position (λ t. not (has g t)) d.deletes → All (Fits g) (changes d)
all_fit g d none nor = All-append (Fits g) (map added d.adds) (map deleted d.deletes) (adds_fit g d.adds (not_found (has g) d.adds none)) (deletes_fit g d.deletes (not_found (λ t. not (has g t)) d.deletes nor))

-- ---- as the code has the lists

pub addition_line : (g : Graph) (d : Document) (adds : List Statement) (place : ℕ) → adds ≡ d.adds → Some place ≡ position (has g) adds → IsOutside g d (3 + place)
addition_line g d adds place same e = addition_outside g d place (e ∙ ap (position (has g)) same)

pub deletion_line : (g : Graph) (d : Document) (adds deletes : List Statement) (place : ℕ) → adds ≡ d.adds → deletes ≡ d.deletes → None ≡ position (has g) adds → Some place ≡ position (λ t. not (has g t)) deletes
    → IsOutside g d (3 + (length adds + place))
deletion_line g d adds deletes place same alike none e =
    rw same (deletion_outside g d place (none ∙ ap (position (has g)) same) (e ∙ ap (position (λ t. not (has g t))) alike))

pub no_line_outside : (g : Graph) (d : Document) (adds deletes : List Statement) (r : Option ℕ) → adds ≡ d.adds → deletes ≡ d.deletes → None ≡ position (has g) adds → None ≡ position (λ t. not (has g t)) deletes → r ≡ None
    → MatchOption r (All (Fits g) (changes d)) (IsOutside g d)
no_line_outside g d adds deletes r same alike none nor e = rw e (all_fit g d (none ∙ ap (position (has g)) same) (nor ∙ ap (position (λ t. not (has g t))) alike))
