-- Atoms that get numbers one after another, and clauses in these numbers.
use Rattle.std.proofs.Common.{◌≡◌, ◌⊎◌, inl, inr, ℕ, zero, suc, ◌+◌, ◌<◌, ◌≤◌, Bool, true, false, not, cond, ◌&&◌, nat_lt, List, [], ◌∷◌, ◌++◌, map, length, take, get_or, position, Some, None, slice_get, refl, sym, ap, ◌∙◌, subst, arith}
use Rattle.std.specs.List.{list_any, position_or_len}
use Rattle.std.proofs.lemmas.Bool.{lt-ltb, ltb-true}
use Rattle.std.proofs.lemmas.Option.{slice_get-get_or, slice_get_within, get_or_from_slice_get}
use Rattle.indexmap.specs.IndexSet.{insert_key}
use Rattle.clause_store.specs.declared.lit.Lit.{Lit}
use Rattle.clause_store.specs.Clauses.{is_within, are_within}
use Rattle.clause_store.proofs.Sets.{never, or_first, or_second, and_left, and_right, within-append}
use Rattle.repair_problem.specs.declared.atom.Atom.{Atom}
use Rattle.repair_problem.specs.declared.atom.Atom.TheVariants.{Triple}
use Rattle.repair_problem.specs.declared.atom.Literal.{Literal}
use Rattle.repair_problem.specs.contracts.atom.AtomPartialEq.TheImpl.{eq-value}
use Rattle.atom_parts.specs.PartLiterals.{In}
use Rattle.atom_parts.proofs.Facts.{some_is, none_some}
use Rattle.core_constraints.proofs.Decided.{take_whole}
use Rattle.premise_rules.proofs.SameLiterals.{tests_same, value_is, value_itself}
use Rattle.premise_rules.proofs.DistinctLiterals.{take_next, take_none}
use Rattle.atom_numbers.specs.Numbers.{literal_of, clause_of, AreApart, IsGrown, Stands, ComeFrom, with_atom, joined, joined_all}

-- One atom more.
place_end : (ks : List Atom) (a x : Atom) (i : ℕ) → slice_get (ks ++ a ∷ []) i ≡ Some x → (slice_get ks i ≡ Some x) ⊎ ((i ≡ length ks) × (a ≡ x))
place_end [] a x zero e = inr (refl, some_is e)
place_end [] a x (suc i) e = absurd (none_some e)
place_end (k ∷ ks) a x zero e = inl e
place_end (k ∷ ks) a x (suc i) e = split (place_end ks a x i e)
  where
    split : (slice_get ks i ≡ Some x) ⊎ ((i ≡ length ks) × (a ≡ x)) → (slice_get ks i ≡ Some x) ⊎ ((suc i ≡ suc (length ks)) × (a ≡ x))
    split (inl h) = inl h
    split (inr h) = inr (ap suc h.0, h.1)

low : (ks : List Atom) (a x : Atom) (i : ℕ) → slice_get ks i ≡ Some x → slice_get (ks ++ a ∷ []) i ≡ Some x
low [] a x i e = absurd (none_some e)
low (k ∷ ks) a x zero e = e
low (k ∷ ks) a x (suc i) e = low ks a x i e

listed : (ks : List Atom) (a x : Atom) (i : ℕ) → slice_get ks i ≡ Some x → a ≡ x → list_any (eq-value.it a) ks ≡ true
listed [] a x i e f = absurd (none_some e)
listed (k ∷ ks) a x zero e f = or_first (eq-value.it a k) (list_any (eq-value.it a) ks) (subst (λ z. eq-value.it a z ≡ true) (f ∙ sym (some_is e)) (value_itself a))
listed (k ∷ ks) a x (suc i) e f = or_second (eq-value.it a k) (list_any (eq-value.it a) ks) (listed ks a x i e f)

pub inserted_grown : (ks new : List Atom) (a : Atom) → new ≡ insert_key eq-value.it ks a → IsGrown ks new
inserted_grown ks new a e = subst (IsGrown ks) (sym e) (go (list_any (eq-value.it a) ks))
  where
    go : (b : Bool) → IsGrown ks (cond b ks (ks ++ a ∷ []))
    go true i x h = h
    go false i x h = low ks a x i h

pub inserted_apart : (ks new : List Atom) (a : Atom) → AreApart ks → new ≡ insert_key eq-value.it ks a → AreApart new
inserted_apart ks new a apart e = subst AreApart (sym e) (go (list_any (eq-value.it a) ks) refl)
  where
    go : (b : Bool) → list_any (eq-value.it a) ks ≡ b → AreApart (cond b ks (ks ++ a ∷ []))
    go true h i j x f g = apart i j x f g
    go false h i j x f g = split (place_end ks a x i f) (place_end ks a x j g)
      where
        split : (slice_get ks i ≡ Some x) ⊎ ((i ≡ length ks) × (a ≡ x)) → (slice_get ks j ≡ Some x) ⊎ ((j ≡ length ks) × (a ≡ x)) → i ≡ j
        split (inl p) (inl q) = apart i j x p q
        split (inl p) (inr q) = never (listed ks a x i p q.1) h
        split (inr p) (inl q) = never (listed ks a x j q p.1) h
        split (inr p) (inr q) = p.0 ∙ sym q.0

pub in_pushed : {X : Type 0} (xs : List X) (x y : X) → In (xs ++ x ∷ []) y → In xs y ⊎ (x ≡ y)
in_pushed [] x y (inl e) = inr e
in_pushed [] x y (inr h) = absurd h
in_pushed (z ∷ xs) x y (inl e) = inl (inl e)
in_pushed (z ∷ xs) x y (inr h) = split (in_pushed xs x y h)
  where
    split : In xs y ⊎ (x ≡ y) → ((z ≡ y) ⊎ In xs y) ⊎ (x ≡ y)
    split (inl g) = inl (inr g)
    split (inr g) = inr g

pub inserted_only : (ks new : List Atom) (l : Literal) → new ≡ insert_key eq-value.it ks l.atom → ComeFrom ks (l ∷ []) new
inserted_only ks new l e = subst (ComeFrom ks (l ∷ [])) (sym e) (go (list_any (eq-value.it l.atom) ks))
  where
    go : (b : Bool) → ComeFrom ks (l ∷ []) (cond b ks (ks ++ l.atom ∷ []))
    go true a h = inl h
    go false a h = split (in_pushed ks l.atom a h)
      where
        split : In ks a ⊎ (l.atom ≡ a) → In ks a ⊎ ((l.atom ≡ a) ⊎ ⊥)
        split (inl g) = inl g
        split (inr g) = inr (inl g)

pub unchanged_grown : (ks new : List Atom) → new ≡ ks → IsGrown ks new
unchanged_grown ks new e = subst (IsGrown ks) (sym e) (λ i x h. h)

pub unchanged_apart : (ks new : List Atom) → AreApart ks → new ≡ ks → AreApart new
unchanged_apart ks new apart e = subst AreApart (sym e) apart

pub stored_literal : (ks : List Atom) (v : ℕ) (l : Literal) → (k : Atom) × (slice_get ks v ≡ Some k) × (eq-value.it l.atom k ≡ true) → literal_of ks (record { var = v; positive = l.positive }) ≡ l
stored_literal ks v l h =
    let e : get_or ks v (Triple 0) ≡ l.atom = get_or_from_slice_get ks v h.0 (Triple 0) h.1 ∙ sym (value_is l.atom h.0 h.2) in
    λ i. record { atom = e i; positive = l.positive }

pub none_apart : (ks : List Atom) → ks ≡ [] → AreApart ks
none_apart ks e = subst AreApart (sym e) (λ i j a f g. absurd (none_some f))

pub grown_more : (a b c : List Atom) → IsGrown a b → IsGrown b c → IsGrown a c
grown_more a b c f g i x h = g i x (f i x h)

pub grown_length : (old new : List Atom) → IsGrown old new → length old ≤ length new
grown_length old new g = at (nat_lt (length new) (length old)) refl
  where
    at : (b : Bool) → nat_lt (length new) (length old) ≡ b → length old ≤ length new
    at true e = let lt = ltb-true (length new) (length old) e in absurd (let n = slice_get_within new (length new) (get_or old (length new) (Triple 0)) (g (length new) (get_or old (length new) (Triple 0)) (slice_get-get_or old (length new) (Triple 0) lt)) in omega (arith, n))
    at false e = grind (arith, e)

-- The first of them.
pub grown_take : (old new : List Atom) → IsGrown old new → take (length old) new ≡ old
grown_take [] new g = take_none new
grown_take (a ∷ old) [] g = absurd (none_some (g 0 a refl))
grown_take (a ∷ old) (b ∷ new) g = let e = some_is (g 0 a refl) in let r = grown_take old new (λ i x h. g (suc i) x h) in λ i. e i ∷ r i

-- Clauses that stand in the numbers of more atoms.
pub kept_literal : (old new : List Atom) (l : Lit) → IsGrown old new → l.var < length old → literal_of new l ≡ literal_of old l
kept_literal old new l g lt =
    let e : get_or new l.var (Triple 0) ≡ get_or old l.var (Triple 0) = get_or_from_slice_get new l.var (get_or old l.var (Triple 0)) (Triple 0) (g l.var (get_or old l.var (Triple 0)) (slice_get-get_or old l.var (Triple 0) lt)) in
    λ i. record { atom = e i; positive = l.positive }

pub kept_clause : (old new : List Atom) (c : List Lit) → IsGrown old new → is_within (length old) c ≡ true → clause_of new c ≡ clause_of old c
kept_clause old new [] g h = refl
kept_clause old new (l ∷ c) g h =
    let e = kept_literal old new l g (ltb-true l.var (length old) (and_left (nat_lt l.var (length old)) (is_within (length old) c) h)) in
    let d = kept_clause old new c g (and_right (nat_lt l.var (length old)) (is_within (length old) c) h) in
    λ i. e i ∷ d i

pub kept_clauses : (old new : List Atom) (cs : List (List Lit)) → IsGrown old new → are_within (length old) cs ≡ true → map (clause_of new) cs ≡ map (clause_of old) cs
kept_clauses old new [] g h = refl
kept_clauses old new (c ∷ cs) g h =
    let e = kept_clause old new c g (and_left (is_within (length old) c) (are_within (length old) cs) h) in
    let d = kept_clauses old new cs g (and_right (is_within (length old) c) (are_within (length old) cs) h) in
    λ i. e i ∷ d i

pub both_true : (a b : Bool) → a ≡ true → b ≡ true → (a && b) ≡ true
both_true true b e f = f
both_true false b e f = e

pub within_more : (n m : ℕ) (c : List Lit) → n ≤ m → is_within n c ≡ true → is_within m c ≡ true
within_more n m [] le h = refl
within_more n m (l ∷ c) le h =
    let lt = ltb-true l.var n (and_left (nat_lt l.var n) (is_within n c) h) in
    both_true (nat_lt l.var m) (is_within m c) (lt-ltb l.var m (omega (arith, lt, le))) (within_more n m c le (and_right (nat_lt l.var n) (is_within n c) h))

pub are_within_more : (n m : ℕ) (cs : List (List Lit)) → n ≤ m → are_within n cs ≡ true → are_within m cs ≡ true
are_within_more n m [] le h = refl
are_within_more n m (c ∷ cs) le h = both_true (is_within m c) (are_within m cs) (within_more n m c le (and_left (is_within n c) (are_within n cs) h)) (are_within_more n m cs le (and_right (is_within n c) (are_within n cs) h))

pub map_more : {X Y : Type 0} (f : X → Y) (xs : List X) (x : X) → map f (xs ++ x ∷ []) ≡ map f xs ++ f x ∷ []
map_more f [] x = refl
map_more f (y ∷ xs) x = ap (λ ys. f y ∷ ys) (map_more f xs x)

-- A clause that grows by the literal at the next place.
pub next_taken : (ls : List Literal) (k : ℕ) (d : Literal) → k < length ls → take (k + 1) ls ≡ take k ls ++ get_or ls k d ∷ []
next_taken ls k d lt = take_next ls k (get_or ls k d) (slice_get-get_or ls k d lt)

pub number_next : (old new : List Atom) (clause more : List Lit) (l : Lit) (ls : List Literal) (k : ℕ) (d : Literal) → IsGrown old new → is_within (length old) clause ≡ true → clause_of old clause ≡ take k ls → k < length ls → literal_of new l ≡ get_or ls k d → more ≡ clause ++ l ∷ [] → clause_of new more ≡ take (k + 1) ls
number_next old new clause more l ls k d g w e lt v f = ap (clause_of new) f ∙ (map_more (literal_of new) clause l ∙ (ap (λ c. c ++ literal_of new l ∷ []) (kept_clause old new clause g w ∙ e) ∙ (ap (λ x. take k ls ++ x ∷ []) v ∙ sym (next_taken ls k d lt))))

pub within_next : (old new : List Atom) (clause more : List Lit) (l : Lit) → IsGrown old new → is_within (length old) clause ≡ true → l.var < length new → more ≡ clause ++ l ∷ [] → is_within (length new) more ≡ true
within_next old new clause more l g w lt f = subst (λ c. is_within (length new) c ≡ true) (sym f) (within-append (length new) clause (l ∷ []) (within_more (length old) (length new) clause (grown_length old new g) w) (both_true (nat_lt l.var (length new)) true (lt-ltb l.var (length new) lt) refl))

-- the atoms of the literals so far
pub only_start : (ks : List Atom) (ls : List Literal) → ComeFrom ks (take 0 ls) ks
only_start ks ls a h = inl h

pub stands_end : (ls : List Literal) (l : Literal) (a : Atom) → Stands ls a ⊎ (l.atom ≡ a) → Stands (ls ++ l ∷ []) a
stands_end [] l a (inl h) = absurd h
stands_end [] l a (inr e) = inl e
stands_end (m ∷ ls) l a (inl (inl e)) = inl e
stands_end (m ∷ ls) l a (inl (inr h)) = inr (stands_end ls l a (inl h))
stands_end (m ∷ ls) l a (inr e) = inr (stands_end ls l a (inr e))

pub only_next : (first old new : List Atom) (ls : List Literal) (k : ℕ) (d : Literal) → ComeFrom first (take k ls) old → k < length ls → ComeFrom old (get_or ls k d ∷ []) new → ComeFrom first (take (k + 1) ls) new
only_next first old new ls k d f lt g a h = split (g a h)
  where
    up : Stands (take k ls) a ⊎ ((get_or ls k d).atom ≡ a) → Stands (take (k + 1) ls) a
    up m = subst (λ xs. Stands xs a) (sym (next_taken ls k d lt)) (stands_end (take k ls) (get_or ls k d) a m)

    before : In first a ⊎ Stands (take k ls) a → In first a ⊎ Stands (take (k + 1) ls) a
    before (inl m) = inl m
    before (inr m) = inr (up (inl m))

    split : In old a ⊎ (((get_or ls k d).atom ≡ a) ⊎ ⊥) → In first a ⊎ Stands (take (k + 1) ls) a
    split (inl m) = before (f a m)
    split (inr (inl e)) = inr (up (inr e))
    split (inr (inr none)) = absurd none

pub only_whole : (first new : List Atom) (ls : List Literal) (k : ℕ) → length ls ≤ k → ComeFrom first (take k ls) new → ComeFrom first ls new
only_whole first new ls k le f = subst (λ xs. ComeFrom first xs new) (take_whole ls k le) f

-- The number of an atom.
found_at : (t : Atom → Bool) (xs : List Atom) → position_or_len t xs < length xs → (x : Atom) × (slice_get xs (position_or_len t xs) ≡ Some x) × (t x ≡ true)
found_at t [] lt = absurd (omega (arith, lt))
found_at t (x ∷ xs) lt = go (t x) refl lt (found_at t xs)
  where
    go : (b : Bool) → t x ≡ b → cond (not b) (1 + position_or_len t xs) 0 < suc (length xs) → (position_or_len t xs < length xs → (y : Atom) × (slice_get xs (position_or_len t xs) ≡ Some y) × (t y ≡ true))
        → (y : Atom) × (slice_get (x ∷ xs) (cond (not b) (1 + position_or_len t xs) 0) ≡ Some y) × (t y ≡ true)
    go true e l more = (x, refl, e)
    go false e l more =
        let r = more (omega (arith, l)) in
        let up : 1 + position_or_len t xs ≡ suc (position_or_len t xs) = omega arith in
        (r.0, ap (slice_get (x ∷ xs)) up ∙ r.1, r.2)

there : (t : Atom → Bool) (xs : List Atom) (v : ℕ) (x : Atom) → slice_get xs v ≡ Some x → t x ≡ true → position_or_len t xs < length xs
there t [] v x e h = absurd (none_some e)
there t (y ∷ xs) zero x e h = go (t y) (subst (λ z. t z ≡ true) (sym (some_is e)) h)
  where
    go : (b : Bool) → b ≡ true → cond (not b) (1 + position_or_len t xs) 0 < suc (length xs)
    go true f = omega arith
    go false f = never f refl
there t (y ∷ xs) (suc v) x e h = go (t y) (there t xs v x e h)
  where
    go : (b : Bool) → position_or_len t xs < length xs → cond (not b) (1 + position_or_len t xs) 0 < suc (length xs)
    go true l = omega arith
    go false l = omega (arith, l)

pub number_is : (ats : List Atom) → AreApart ats → (a : Atom) (v : ℕ) → (position (eq-value.it a) ats ≡ Some v → slice_get ats v ≡ Some a) × (slice_get ats v ≡ Some a → position (eq-value.it a) ats ≡ Some v)
number_is ats apart a v = (to (nat_lt n (length ats)) refl, from)
  where
    n : ℕ
    n = position_or_len (eq-value.it a) ats

    own : n < length ats → slice_get ats n ≡ Some a
    own lt = let r = found_at (eq-value.it a) ats lt in r.1 ∙ ap Some (sym (value_is a r.0 r.2))

    to : (b : Bool) → nat_lt n (length ats) ≡ b → cond b (Some n) None ≡ Some v → slice_get ats v ≡ Some a
    to true e h = subst (λ i. slice_get ats i ≡ Some a) (some_is h) (own (ltb-true n (length ats) e))
    to false e h = absurd (none_some h)

    from : slice_get ats v ≡ Some a → cond (nat_lt n (length ats)) (Some n) None ≡ Some v
    from h =
        let lt = there (eq-value.it a) ats v a h (value_itself a) in
        ap (λ b. cond b (Some n) None) (lt-ltb n (length ats) lt) ∙ ap Some (apart n v a (own lt) h)

pub place_is : (ats : List Atom) → AreApart ats → (a : Atom) (v : ℕ) → slice_get ats v ≡ Some a → position_or_len (eq-value.it a) ats ≡ v
place_is ats apart a v h =
    let r = found_at (eq-value.it a) ats (there (eq-value.it a) ats v a h (value_itself a)) in
    apart (position_or_len (eq-value.it a) ats) v a (r.1 ∙ ap Some (sym (value_is a r.0 r.2))) h

-- The order of the numbers.
pub inserted_with : (ks new : List Atom) (a : Atom) → new ≡ insert_key eq-value.it ks a → new ≡ with_atom ks a
inserted_with ks new a e = e ∙ sym (ap (λ (test : Atom → Atom → Bool). cond (list_any (test a) ks) ks (ks ++ a ∷ [])) tests_same)

pub joined_end : (ks : List Atom) (ls : List Literal) (l : Literal) → joined ks (ls ++ l ∷ []) ≡ with_atom (joined ks ls) l.atom
joined_end ks [] l = refl
joined_end ks (m ∷ ls) l = joined_end (with_atom ks m.atom) ls l

pub joined_start : (ks : List Atom) (ls : List Literal) → ks ≡ joined ks (take 0 ls)
joined_start ks ls = sym (ap (joined ks) (take_none ls))

pub joined_next : (first old new : List Atom) (ls : List Literal) (k : ℕ) (d : Literal) → old ≡ joined first (take k ls) → k < length ls → new ≡ with_atom old (get_or ls k d).atom → new ≡ joined first (take (k + 1) ls)
joined_next first old new ls k d e lt h = h ∙ (ap (λ x. with_atom x (get_or ls k d).atom) e ∙ (sym (joined_end first (take k ls) (get_or ls k d)) ∙ ap (joined first) (sym (next_taken ls k d lt))))

pub joined_whole : (first new : List Atom) (ls : List Literal) (k : ℕ) → length ls ≤ k → new ≡ joined first (take k ls) → new ≡ joined first ls
joined_whole first new ls k le e = e ∙ ap (joined first) (take_whole ls k le)

pub joined_all_end : (ks : List Atom) (cs : List (List Literal)) (c : List Literal) → joined_all ks (cs ++ c ∷ []) ≡ joined (joined_all ks cs) c
joined_all_end ks [] c = refl
joined_all_end ks (d ∷ cs) c = joined_all_end (joined ks d) cs c
