-- The first change of a claimed pair that is not there.
use Rattle.std.proofs.Common.{◌≡◌, ◌≢◌, ℕ, ◌+◌, Bool, true, false, not, ltb, List, [], ◌∷◌, ◌++◌, length, map, Contains, Option, Some, None, MatchOption, position, ◌⊎◌, inl, inr, refl, sym, ap, subst, ◌∙◌, append_assoc, arith, length-append, IsTrue}
use Rattle.std.specs.List.{All, position_or_len}
use Rattle.std.proofs.lemmas.Bool.{lt-ltb, le-ltb, not-false}
use Rattle.std.proofs.lemmas.List.{length-map, map-append}
use Rattle.std.proofs.lemmas.List.Elements.{All-nil, All-cons, All-append, All-map, All-weaker, All-contains, All-same, Contains-append_left, Contains-append_right, Contains-append_cases}
use Rattle.rdf_terms.specs.Statement.{Statement}
use Rattle.rdf_terms.specs.Graph.{has, of_list}
use Rattle.rdf_terms.proofs.GraphLaws.{has_of_list_item, item_of_has_list}
use Rattle.rdf_terms.proofs.Members.{in_map, map_in}
use Rattle.repair_problem.specs.Setting.{Setting}
use Rattle.repair_problem.specs.Repair.{Within}
use Rattle.proof_lines.specs.declared.proof.Claim.{Claim}
use Rattle.proof_lines.specs.declared.proof.Claim.TheVariants.{Pair, NoPair, Spent}
use Rattle.proof_documents.specs.Document.{Document}
use Rattle.proof_documents.specs.Applying.{Change, changes}
use Rattle.certificates.specs.Checks.{IsThere, changes_of, claimed_changes, AreChangesThere, IsChangeOutside}

-- the first item that passes stands at this place
record IsFirst {X : Type 0} (p : X → Bool) (xs : List X) (place : ℕ) : Type 0 where
  before : List X
  item : X
  after : List X
  parts : xs ≡ before ++ item ∷ after
  none : All (λ x. p x ≡ false) before
  passes : p item ≡ true
  count : place ≡ length before

record IsNone {X : Type 0} (p : X → Bool) (xs : List X) (place : ℕ) : Type 0 where
  none : All (λ x. p x ≡ false) xs
  count : place ≡ length xs

front_of : {X : Type 0} (p : X → Bool) (x : X) (xs : List X) (b : Bool) → p x ≡ b → IsFirst p xs (position_or_len p xs) ⊎ IsNone p xs (position_or_len p xs)
    → IsFirst p (x ∷ xs) (position_or_len p (x ∷ xs)) ⊎ IsNone p (x ∷ xs) (position_or_len p (x ∷ xs))
front_of p x xs true e rest = inl (record { before = []; item = x; after = xs; parts = refl; none = All-nil (λ x. p x ≡ false); passes = e; count = rw e refl })
front_of {X} p x xs false e (inl h) = inl (record {
  before = x ∷ h.before;
  item = h.item;
  after = h.after;
  parts = ap (λ (t : List X). x ∷ t) h.parts;
  none = All-cons (λ x. p x ≡ false) x h.before e h.none;
  passes = h.passes;
  count = rw e (omega (arith, h.count));
})
front_of p x xs false e (inr h) = inr (record { none = All-cons (λ x. p x ≡ false) x xs e h.none; count = rw e (omega (arith, h.count)) })

first_or_none : {X : Type 0} (p : X → Bool) (xs : List X) → IsFirst p xs (position_or_len p xs) ⊎ IsNone p xs (position_or_len p xs)
first_or_none p [] = inr (record { none = All-nil (λ x. p x ≡ false); count = refl })
first_or_none p (x ∷ xs) = front_of p x xs (p x) refl (first_or_none p xs)

-- what the position of an item says
found : {X : Type 0} (p : X → Bool) (xs : List X) (place : ℕ) → Some place ≡ position p xs → IsFirst p xs place
found p xs place e =
    elim (first_or_none p xs) [
      | inl h ↦ let k = position_or_len p xs in let within : ltb k (length xs) ≡ true = lt-ltb k (length xs) (omega (arith, h.count, ap length h.parts, length-append h.before (h.item ∷ h.after))) in
          let same : Some place ≡ Some k = e ∙ rw within refl in
          let is : k ≡ place = cc in
          subst (IsFirst p xs) is h
      | inr h ↦ let none : position p xs ≡ None = rw (le-ltb (position_or_len p xs) (length xs) (omega (arith, h.count))) refl in absurd cc
    ]

not_found : {X : Type 0} (p : X → Bool) (xs : List X) → None ≡ position p xs → All (λ x. p x ≡ false) xs
not_found p xs e =
    elim (first_or_none p xs) [
      | inl h ↦ let k = position_or_len p xs in let within : ltb k (length xs) ≡ true = lt-ltb k (length xs) (omega (arith, h.count, ap length h.parts, length-append h.before (h.item ∷ h.after))) in
          let some : position p xs ≡ Some k = rw within refl in absurd cc
      | inr h ↦ h.none
    ]

-- ---- the changes of a document

abbrev added : Statement → Change
added t = record { adding = true; triple = t }

abbrev deleted : Statement → Change
deleted t = record { adding = false; triple = t }

not_there : (b : Bool) → not b ≡ true → IsTrue b → ⊥
not_there true h e = absurd cc
not_there false h e = absurd cc

module _ (s : Setting) where
  abbrev not_offered : Statement → Bool
  not_offered t = not (has s.offers t)

  abbrev not_present : Statement → Bool
  not_present t = not (has s.present t)

  adds_there : (ts : List Statement) → All (λ t. not_offered t ≡ false) ts → All (IsThere s) (map added ts)
  adds_there ts h = All-map (IsThere s) added ts (All-weaker (λ t. not_offered t ≡ false) (λ t. has s.offers t ≡ true) (λ t. not-false (has s.offers t)) ts h)

  deletes_there : (ts : List Statement) → All (λ t. not_present t ≡ false) ts → All (IsThere s) (map deleted ts)
  deletes_there ts h = All-map (IsThere s) deleted ts (All-weaker (λ t. not_present t ≡ false) (λ t. has s.present t ≡ true) (λ t. not-false (has s.present t)) ts h)

  map_parts : (f : Statement → Change) (ts before after : List Statement) (t : Statement) → ts ≡ before ++ t ∷ after → map f ts ≡ map f before ++ f t ∷ map f after
  map_parts f ts before after t e = ap (map f) e ∙ map-append f before (t ∷ after)

  claimed_is : (d : Document) → d.proof.claim ≡ Pair → claimed_changes d ≡ changes d
  claimed_is d e = ap (λ c. changes_of c (changes d)) e

  addition_outside : (d : Document) (place : ℕ) → d.proof.claim ≡ Pair → Some place ≡ position not_offered d.adds → IsChangeOutside s d (3 + place)
  addition_outside d place c e =
      let h = found not_offered d.adds place e in
      let later = map deleted d.deletes in
      record {
        before = map added h.before;
        change = added h.item;
        after = map added h.after ++ later;
        parts = claimed_is d c ∙ (ap (λ (cs : List Change). cs ++ later) (map_parts added d.adds h.before h.after h.item h.parts) ∙ append_assoc (map added h.before) (added h.item ∷ map added h.after) later);
        there = adds_there h.before h.none;
        outside = not_there (has s.offers h.item) h.passes;
        count = omega (arith, h.count, length-map h.before added);
      }

  deletion_outside : (d : Document) (place : ℕ) → d.proof.claim ≡ Pair → None ≡ position not_offered d.adds → Some place ≡ position not_present d.deletes → IsChangeOutside s d (3 + (length d.adds + place))
  deletion_outside d place c none e =
      let h = found not_present d.deletes place e in
      let first = map added d.adds in
      record {
        before = first ++ map deleted h.before;
        change = deleted h.item;
        after = map deleted h.after;
        parts = claimed_is d c ∙ (ap (λ (cs : List Change). first ++ cs) (map_parts deleted d.deletes h.before h.after h.item h.parts) ∙ sym (append_assoc first (map deleted h.before) (deleted h.item ∷ map deleted h.after)));
        there = All-append (IsThere s) first (map deleted h.before) (adds_there d.adds (not_found not_offered d.adds none)) (deletes_there h.before h.none);
        outside = not_there (has s.present h.item) h.passes;
        count = omega (arith, h.count, length-map d.adds added, length-map h.before deleted, length-append first (map deleted h.before));
      }

  all_there : (d : Document) → d.proof.claim ≡ Pair → None ≡ position not_offered d.adds → None ≡ position not_present d.deletes → AreChangesThere s d
  all_there d c none nor = All-same (IsThere s) (claimed_changes d) (changes d) (claimed_is d c) (All-append (IsThere s) (map added d.adds) (map deleted d.deletes) (adds_there d.adds (not_found not_offered d.adds none)) (deletes_there d.deletes (not_found not_present d.deletes nor)))

  none_claimed : (d : Document) (c : Claim) → c ≢ Pair → All (IsThere s) (changes_of c (changes d))
  none_claimed d Pair h = absurd (h refl)
  none_claimed d NoPair h = All-nil (IsThere s)
  none_claimed d Spent h = All-nil (IsThere s)

  -- what is said of the changes, and of the graphs of the triples
  pub there_within : (d : Document) → d.proof.claim ≡ Pair → AreChangesThere s d → Within (of_list d.adds) s.offers × Within (of_list d.deletes) s.present
  there_within d c h = (λ t k. each (added t) (Contains-append_left (map added d.adds) (map deleted d.deletes) (added t) (in_map added d.adds t (item_of_has_list d.adds t k))), λ t k. each (deleted t) (Contains-append_right (map added d.adds) (map deleted d.deletes) (deleted t) (in_map deleted d.deletes t (item_of_has_list d.deletes t k))))
    where
      each : (c : Change) → Contains (changes d) c → IsThere s c
      each x k = All-contains (IsThere s) (changes d) x (All-same (IsThere s) (changes d) (claimed_changes d) (sym (claimed_is d c)) h) k

  pub within_there : (d : Document) (c : Claim) → (c ≡ Pair → Within (of_list d.adds) s.offers × Within (of_list d.deletes) s.present) → (x : Change) → Contains (changes_of c (changes d)) x → IsThere s x
  within_there d Pair h x k = split (Contains-append_cases (map added d.adds) (map deleted d.deletes) x k)
    where
      split : Contains (map added d.adds) x ⊎ Contains (map deleted d.deletes) x → IsThere s x
      split (inl m) = let r = map_in added d.adds x m in subst (IsThere s) r.2 ((h refl).0 r.0 (has_of_list_item d.adds r.0 r.1))
      split (inr m) = let r = map_in deleted d.deletes x m in subst (IsThere s) r.2 ((h refl).1 r.0 (has_of_list_item d.deletes r.0 r.1))
  within_there d NoPair h x k = let l = k.1 in absurd (omega (arith, l))
  within_there d Spent h x k = let l = k.1 in absurd (omega (arith, l))

  pub not_outside : (d : Document) (number : ℕ) → ((x : Change) → Contains (claimed_changes d) x → IsThere s x) → ¬ (IsChangeOutside s d number)
  not_outside d number h out = out.outside (h out.change (subst (λ cs. Contains cs out.change) (sym out.parts) (Contains-append_right out.before (out.change ∷ out.after) out.change (0, omega arith, refl))))

  -- ---- as the code has the lists

  pub addition_line : (d : Document) (adds : List Statement) (place : ℕ) → d.proof.claim ≡ Pair → adds ≡ d.adds → Some place ≡ position not_offered adds → IsChangeOutside s d (3 + place)
  addition_line d adds place c same e = addition_outside d place c (e ∙ ap (position not_offered) same)

  pub deletion_line : (d : Document) (adds deletes : List Statement) (place : ℕ) → d.proof.claim ≡ Pair → adds ≡ d.adds → deletes ≡ d.deletes → None ≡ position not_offered adds → Some place ≡ position not_present deletes
      → IsChangeOutside s d (3 + (length adds + place))
  deletion_line d adds deletes place c same alike none e =
      rw same (deletion_outside d place c (none ∙ ap (position not_offered) same) (e ∙ ap (position not_present) alike))

  pub no_line_outside : (d : Document) (adds deletes : List Statement) (r : Option ℕ) → d.proof.claim ≡ Pair → adds ≡ d.adds → deletes ≡ d.deletes → None ≡ position not_offered adds → None ≡ position not_present deletes → r ≡ None
      → MatchOption r (AreChangesThere s d) (IsChangeOutside s d)
  no_line_outside d adds deletes r c same alike none nor e = rw e (all_there d c (none ∙ ap (position not_offered) same) (nor ∙ ap (position not_present) alike))

  pub no_claimed_line : (d : Document) → d.proof.claim ≢ Pair → AreChangesThere s d
  no_claimed_line d h = none_claimed d d.proof.claim h
