-- The one clash that was found so far.
use Rattle.std.proofs.Common.{◌≡◌, ℕ, ◌+◌, ◌<◌, true, false, List, Option, Some, None, get_or, length, take, refl, sym, ap, ◌∙◌, subst, ◌⊎◌, inl, inr}
use Rattle.clause_store.specs.declared.lit.Lit.{Lit}
use Rattle.clause_store.specs.Clauses.{has, is_clause, mentions, lit_eq, opposite}
use Rattle.clause_store.specs.Chained.{LitSet, Clashes, ClashesOnce}
use Rattle.literal_signs.specs.Marked.{AreApart}
use Rattle.clause_store.proofs.Sets.{has-more, has-take, has-at, has-mentions, once-before, or_cases, or_first, or_second, itself, same, never}

abbrev pub FoundIn : LitSet → List Lit → Option ℕ → Type 0
FoundIn a c None = AreApart a (has c)
FoundIn a c (Some v) = ClashesOnce a (has c) v

-- a clash of one literal more is one of before, or of that literal
clash_more : (a : LitSet) (c : List Lit) (i : ℕ) (d m : Lit) → i < length c → Clashes a (has (take (i + 1) c)) m → Clashes a (has (take i c)) m ⊎ (get_or c i d ≡ m)
clash_more a c i d m lt h = split (or_cases _ _ (sym (has-more c i d m lt) ∙ h.1))
  where
    split : (has (take i c) m ≡ true) ⊎ (lit_eq (get_or c i d) m ≡ true) → Clashes a (has (take i c)) m ⊎ (get_or c i d ≡ m)
    split (inl x) = inl (h.0, x)
    split (inr y) = inr (same (get_or c i d) m y)

pub found_second : (a : LitSet) (c : List Lit) (i : ℕ) (d : Lit) (v : ℕ) → i < length c → is_clause c ≡ true → FoundIn a (take i c) (Some v) → a (opposite (get_or c i d)) ≡ true → ((x : ℕ) × ClashesOnce a (has c) x) → ⊥
found_second a c i d v lt h f at some =
    let before = f.0.0 in
    let first : before.var ≡ some.0 = some.1.1 before (f.0.2.0, has-take c i before f.0.2.1) in
    let second : (get_or c i d).var ≡ some.0 = some.1.1 (get_or c i d) (at, has-at c i d lt) in
    never f.0.2.1 (has-mentions (take i c) before (subst (λ w. mentions (take i c) w ≡ false) (second ∙ sym first) (once-before c i d lt h)))

pub found_first : (a : LitSet) (c : List Lit) (i : ℕ) (d : Lit) → i < length c → FoundIn a (take i c) None → a (opposite (get_or c i d)) ≡ true → FoundIn a (take (i + 1) c) (Some (get_or c i d).var)
found_first a c i d lt f at =
    ((get_or c i d, refl, (at, has-more c i d (get_or c i d) lt ∙ or_second _ _ (itself (get_or c i d)))), λ m h. split m (clash_more a c i d m lt h))
  where
    split : (m : Lit) → Clashes a (has (take i c)) m ⊎ (get_or c i d ≡ m) → m.var ≡ (get_or c i d).var
    split m (inl h) = absurd (f m h)
    split m (inr e) = ap (λ l. l.var) (sym e)

pub found_not : (a : LitSet) (c : List Lit) (i : ℕ) (d : Lit) (o : Option ℕ) → i < length c → FoundIn a (take i c) o → a (opposite (get_or c i d)) ≡ false → FoundIn a (take (i + 1) c) o
found_not a c i d None lt f at = λ m h. split m h (clash_more a c i d m lt h)
  where
    split : (m : Lit) → Clashes a (has (take (i + 1) c)) m → Clashes a (has (take i c)) m ⊎ (get_or c i d ≡ m) → ⊥
    split m h (inl h') = f m h'
    split m h (inr e) = never h.0 (subst (λ l. a (opposite l) ≡ false) e at)
found_not a c i d (Some v) lt f at =
    ((f.0.0, f.0.1, (f.0.2.0, has-more c i d f.0.0 lt ∙ or_first _ _ f.0.2.1)), λ m h. split m h (clash_more a c i d m lt h))
  where
    split : (m : Lit) → Clashes a (has (take (i + 1) c)) m → Clashes a (has (take i c)) m ⊎ (get_or c i d ≡ m) → m.var ≡ v
    split m h (inl h') = f.1 m h'
    split m h (inr e) = never h.0 (subst (λ l. a (opposite l) ≡ false) e at)
