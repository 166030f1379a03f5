-- The literals that aren't false, so far.
use Rattle.std.proofs.Common.{◌≡◌, ◌≢◌, ℕ, ◌+◌, ◌<◌, Bool, true, false, List, [], ◌∷◌, Option, Some, None, get_or, ltb-true, length, take, refl, sym, ◌∙◌, subst, ◌⊎◌, inl, inr}
use Rattle.clause_store.specs.declared.lit.Lit.{Lit}
use Rattle.clause_store.specs.Clauses.{has, is_clause, mentions, lit_eq, opposite, is_within}
use Rattle.clause_store.specs.Chained.{LitSet}
use Rattle.clause_store.proofs.Sets.{has-more, has-take, has-at, has-mentions, once-before, or_cases, or_first, or_second, itself, same, same_var, never, and_left, and_right}
use Rattle.sat_core.specs.Scanned.{IsFalseUnder, IsUnitUnder, IsNeither}

-- one literal isn't false, and all others are
pub record OneNot (a c : LitSet) (l : Lit) : Type 0 where
  pub here : c l ≡ true
  pub open_not : a (opposite l) ≡ false
  pub others : (m : Lit) → c m ≡ true → m ≢ l → a (opposite m) ≡ true

abbrev pub IsLeftIn : LitSet → List Lit → Option Lit → Type 0
IsLeftIn a c None = IsFalseUnder a (has c)
IsLeftIn a c (Some l) = OneNot a (has c) l

pub one_lit_more : (c : List Lit) (i : ℕ) (d m : Lit) → i < length c → has (take (i + 1) c) m ≡ true → (has (take i c) m ≡ true) ⊎ (get_or c i d ≡ m)
one_lit_more c i d m lt h = split (or_cases _ _ (sym (has-more c i d m lt) ∙ h))
  where
    split : (has (take i c) m ≡ true) ⊎ (lit_eq (get_or c i d) m ≡ true) → (has (take i c) m ≡ true) ⊎ (get_or c i d ≡ m)
    split (inl x) = inl x
    split (inr y) = inr (same (get_or c i d) m y)

-- two literals that aren't false
pub two_not : (a c : LitSet) (l m : Lit) → l ≢ m → c l ≡ true → c m ≡ true → a (opposite l) ≡ false → a (opposite m) ≡ false → IsNeither a c
two_not a c l m apart hl hm fl fm = ((λ all. never (all l hl) fl), λ u unit. absurd (apart (one u unit l hl fl ∙ sym (one u unit m hm fm))))
  where
    one : (u : Lit) → IsUnitUnder a c u → (x : Lit) → c x ≡ true → a (opposite x) ≡ false → x ≡ u
    one u unit x h f = pick (decide x u)
      where
        decide : (x u : Lit) → (lit_eq x u ≡ true) ⊎ (lit_eq x u ≡ false)
        decide x u = true_or_false (lit_eq x u)
          where
            true_or_false : (b : Bool) → (b ≡ true) ⊎ (b ≡ false)
            true_or_false true = inl refl
            true_or_false false = inr refl

        pick : (lit_eq x u ≡ true) ⊎ (lit_eq x u ≡ false) → x ≡ u
        pick (inl e) = same x u e
        pick (inr e) = never (unit.others x h (λ e2. never (itself x) (subst (λ y. lit_eq x y ≡ false) (sym e2) e))) f

pub left_second : (a : LitSet) (c : List Lit) (i : ℕ) (d l : Lit) → i < length c → is_clause c ≡ true → IsLeftIn a (take i c) (Some l) → a (opposite (get_or c i d)) ≡ false → IsNeither a (has c)
left_second a c i d l lt h f at = two_not a (has c) l (get_or c i d) apart (has-take c i l f.here) (has-at c i d lt) f.open_not at
  where
    apart : l ≢ get_or c i d
    apart e = never f.here (has-mentions (take i c) l (subst (λ x. mentions (take i c) x.var ≡ false) (sym e) (once-before c i d lt h)))

pub left_first : (a : LitSet) (c : List Lit) (i : ℕ) (d : Lit) → i < length c → IsLeftIn a (take i c) None → a (opposite (get_or c i d)) ≡ false → IsLeftIn a (take (i + 1) c) (Some (get_or c i d))
left_first a c i d lt f at =
    record { here = has-more c i d (get_or c i d) lt ∙ or_second _ _ (itself (get_or c i d)); open_not = at; others = λ m h other. split m other (one_lit_more c i d m lt h) }
  where
    split : (m : Lit) → m ≢ get_or c i d → (has (take i c) m ≡ true) ⊎ (get_or c i d ≡ m) → a (opposite m) ≡ true
    split m other (inl h) = f m h
    split m other (inr e) = absurd (other (sym e))

pub left_not : (a : LitSet) (c : List Lit) (i : ℕ) (d : Lit) (o : Option Lit) → i < length c → IsLeftIn a (take i c) o → a (opposite (get_or c i d)) ≡ true → IsLeftIn a (take (i + 1) c) o
left_not a c i d None lt f at = λ m h. split m (one_lit_more c i d m lt h)
  where
    split : (m : Lit) → (has (take i c) m ≡ true) ⊎ (get_or c i d ≡ m) → a (opposite m) ≡ true
    split m (inl h) = f m h
    split m (inr e) = subst (λ l. a (opposite l) ≡ true) e at
left_not a c i d (Some v) lt f at =
    record { here = has-more c i d v lt ∙ or_first _ _ f.here; open_not = f.open_not; others = λ m h other. split m other (one_lit_more c i d m lt h) }
  where
    split : (m : Lit) → m ≢ v → (has (take i c) m ≡ true) ⊎ (get_or c i d ≡ m) → a (opposite m) ≡ true
    split m other (inl h) = f.others m h other
    split m other (inr e) = subst (λ l. a (opposite l) ≡ true) e at

pub left_unit : (a c : LitSet) (l : Lit) → OneNot a c l → a l ≡ false → IsUnitUnder a c l
left_unit a c l f so = record { here = f.here; open_so = so; open_not = f.open_not; others = f.others }

-- the one that isn't false is true
pub left_true : (a c : LitSet) (l : Lit) → OneNot a c l → a l ≡ true → IsNeither a c
left_true a c l f so = ((λ all. never (all l f.here) f.open_not), λ u unit. pick u unit (true_or_false (lit_eq l u)))
  where
    true_or_false : (b : Bool) → (b ≡ true) ⊎ (b ≡ false)
    true_or_false true = inl refl
    true_or_false false = inr refl

    pick : (u : Lit) → IsUnitUnder a c u → (lit_eq l u ≡ true) ⊎ (lit_eq l u ≡ false) → ⊥
    pick u unit (inl e) = never so (subst (λ x. a x ≡ false) (sym (same l u e)) unit.open_so)
    pick u unit (inr e) = never (unit.others l f.here (λ e2. never (itself l) (subst (λ y. lit_eq l y ≡ false) (sym e2) e))) f.open_not

pub below_has : (n : ℕ) (c : List Lit) (m : Lit) → is_within n c ≡ true → has c m ≡ true → m.var < n
below_has n [] m h g = never g refl
below_has n (l ∷ c) m h g = pick (or_cases _ _ g) (below_has n c m (and_right _ _ h))
  where
    pick : (lit_eq l m ≡ true) ⊎ (has c m ≡ true) → (has c m ≡ true → m.var < n) → m.var < n
    pick (inl e) next = subst (λ v. v < n) (same_var l m e) (ltb-true _ _ (and_left _ _ h))
    pick (inr e) next = next e
