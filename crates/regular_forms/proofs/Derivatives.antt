-- Derivatives: what of a form has to follow a character.
use Rattle.std.proofs.Common.{◌≡◌, ℕ, zero, suc, Bool, true, false, cond, List, [], ◌∷◌, ◌++◌, refl, sym, ap, subst, ◌∙◌, inl, inr}
use Rattle.std.specs.Prelude.{◌⊎◌, ◌&&◌, ◌||◌}
use Rattle.regular_forms.specs.Regular.{Regular, none, empty, one, seq, alt, star, OneOf, Both, Times, Has}

-- the form has the empty text
abbrev pub nullable : Regular → Bool
nullable none = false
nullable empty = true
nullable (one p) = false
nullable (seq r s) = nullable r && nullable s
nullable (alt r s) = nullable r || nullable s
nullable (star r) = true

-- `seq` and `alt`, but that `none` and `empty` vanish in front, and `none` behind an `alt`
abbrev pub seq_of : Regular → Regular → Regular
seq_of none s = none
seq_of empty s = s
seq_of (one p) s = seq (one p) s
seq_of (seq a b) s = seq (seq a b) s
seq_of (alt a b) s = seq (alt a b) s
seq_of (star a) s = seq (star a) s

abbrev pub alt_with : Regular → Regular → Regular
alt_with r none = r
alt_with r empty = alt r empty
alt_with r (one p) = alt r (one p)
alt_with r (seq a b) = alt r (seq a b)
alt_with r (alt a b) = alt r (alt a b)
alt_with r (star a) = alt r (star a)

abbrev pub alt_of : Regular → Regular → Regular
alt_of none s = s
alt_of empty s = alt_with empty s
alt_of (one p) s = alt_with (one p) s
alt_of (seq a b) s = alt_with (seq a b) s
alt_of (alt a b) s = alt_with (alt a b) s
alt_of (star a) s = alt_with (star a) s

abbrev pub derive : Regular → ℕ → Regular
derive none c = none
derive empty c = none
derive (one p) c = cond (p c) empty none
derive (seq r s) c = cond (nullable r) (alt_of (seq_of (derive r c) s) (derive s c)) (seq_of (derive r c) s)
derive (alt r s) c = alt_of (derive r c) (derive s c)
derive (star r) c = seq_of (derive r c) (star r)

-- ---- the texts stay the same

seq_of-sound : (r s : Regular) (t : List ℕ) → Has (seq_of r s) t → Has (seq r s) t
seq_of-sound none s t h = absurd h
seq_of-sound empty s t h = record { front = []; back = t; parts = refl; first = refl; second = h }
seq_of-sound (one p) s t h = h
seq_of-sound (seq a b) s t h = h
seq_of-sound (alt a b) s t h = h
seq_of-sound (star a) s t h = h

seq_of-full : (r s : Regular) (t : List ℕ) → Has (seq r s) t → Has (seq_of r s) t
seq_of-full none s t h = absurd h.first
seq_of-full empty s t h = subst (λ (x : List ℕ). Has s x) (sym (h.parts ∙ ap (λ (x : List ℕ). x ++ h.back) h.first)) h.second
seq_of-full (one p) s t h = h
seq_of-full (seq a b) s t h = h
seq_of-full (alt a b) s t h = h
seq_of-full (star a) s t h = h

alt_with-sound : (r s : Regular) (t : List ℕ) → Has (alt_with r s) t → Has (alt r s) t
alt_with-sound r none t h = inl h
alt_with-sound r empty t h = h
alt_with-sound r (one p) t h = h
alt_with-sound r (seq a b) t h = h
alt_with-sound r (alt a b) t h = h
alt_with-sound r (star a) t h = h

alt_with-full : (r s : Regular) (t : List ℕ) → Has (alt r s) t → Has (alt_with r s) t
alt_with-full r none t h = elim h [ inl k ↦ k | inr k ↦ absurd k ]
alt_with-full r empty t h = h
alt_with-full r (one p) t h = h
alt_with-full r (seq a b) t h = h
alt_with-full r (alt a b) t h = h
alt_with-full r (star a) t h = h

alt_of-sound : (r s : Regular) (t : List ℕ) → Has (alt_of r s) t → Has (alt r s) t
alt_of-sound none s t h = inr h
alt_of-sound empty s t h = alt_with-sound empty s t h
alt_of-sound (one p) s t h = alt_with-sound (one p) s t h
alt_of-sound (seq a b) s t h = alt_with-sound (seq a b) s t h
alt_of-sound (alt a b) s t h = alt_with-sound (alt a b) s t h
alt_of-sound (star a) s t h = alt_with-sound (star a) s t h

alt_of-full : (r s : Regular) (t : List ℕ) → Has (alt r s) t → Has (alt_of r s) t
alt_of-full none s t h = elim h [ inl k ↦ absurd k | inr k ↦ k ]
alt_of-full empty s t h = alt_with-full empty s t h
alt_of-full (one p) s t h = alt_with-full (one p) s t h
alt_of-full (seq a b) s t h = alt_with-full (seq a b) s t h
alt_of-full (alt a b) s t h = alt_with-full (alt a b) s t h
alt_of-full (star a) s t h = alt_with-full (star a) s t h

-- ---- the empty text

and_true : (a b : Bool) → (a && b) ≡ true → (a ≡ true) × (b ≡ true)
and_true true b h = (refl, h)
and_true false b h = absurd cc

or_cases : (a b : Bool) → (a || b) ≡ true → (a ≡ true) ⊎ (b ≡ true)
or_cases true b h = inl refl
or_cases false b h = inr h

true_or : (a b : Bool) → b ≡ true → (a || b) ≡ true
true_or true b h = refl
true_or false b h = h

nil_parts : (a b : List ℕ) → [] ≡ a ++ b → (a ≡ []) × (b ≡ [])
nil_parts [] b h = (refl, sym h)
nil_parts (c ∷ a) b h = absurd cc

pub nullable-sound : (r : Regular) → nullable r ≡ true → Has r []
nullable-sound none h = absurd cc
nullable-sound empty h = refl
nullable-sound (one p) h = absurd cc
nullable-sound (seq r s) h =
    let k = and_true (nullable r) (nullable s) h in
    record { front = []; back = []; parts = refl; first = nullable-sound r k.0; second = nullable-sound s k.1 }
nullable-sound (alt r s) h = elim (or_cases (nullable r) (nullable s) h) [ inl k ↦ inl (nullable-sound r k) | inr k ↦ inr (nullable-sound s k) ]
nullable-sound (star r) h = (0, refl)

pub nullable-full : (r : Regular) → Has r [] → nullable r ≡ true
nullable-full none h = absurd h
nullable-full empty h = refl
nullable-full (one p) h = absurd (let e = h.spelled in cc)
nullable-full (seq r s) h =
    let k = nil_parts h.front h.back h.parts in
    let a : nullable r ≡ true = nullable-full r (subst (λ (t : List ℕ). Has r t) k.0 h.first) in
    let b : nullable s ≡ true = nullable-full s (subst (λ (t : List ℕ). Has s t) k.1 h.second) in
    rw (a, b) refl
nullable-full (alt r s) h = elim h [ inl k ↦ (let a : nullable r ≡ true = nullable-full r k in rw a refl) | inr k ↦ true_or (nullable r) (nullable s) (nullable-full s k) ]
nullable-full (star r) h = refl

-- ---- a character and what follows it

one_sound : (p : ℕ → Bool) (c : ℕ) (t : List ℕ) (b : Bool) → p c ≡ b → Has (cond b empty none) t → OneOf p (c ∷ t)
one_sound p c t true e h = record { char = c; spelled = ap (λ (x : List ℕ). c ∷ x) h; passes = e }
one_sound p c t false e h = absurd h

onto_front : (P P' Q : List ℕ → Type 0) (c : ℕ) (t : List ℕ) → ((u : List ℕ) → P' u → P (c ∷ u)) → Both P' Q t → Both P Q (c ∷ t)
onto_front P P' Q c t f h = record { front = c ∷ h.front; back = h.back; parts = ap (λ (x : List ℕ). c ∷ x) h.parts; first = f h.front h.first; second = h.second }

seq_onto : (r s : Regular) (c : ℕ) (t : List ℕ) → ((u : List ℕ) → Has (derive r c) u → Has r (c ∷ u)) → Has (seq_of (derive r c) s) t → Has (seq r s) (c ∷ t)
seq_onto r s c t f h = onto_front (λ u. Has r u) (λ u. Has (derive r c) u) (λ u. Has s u) c t f (seq_of-sound (derive r c) s t h)

seq_sound : (r s : Regular) (c : ℕ) (t : List ℕ) (b : Bool) → nullable r ≡ b → ((u : List ℕ) → Has (derive r c) u → Has r (c ∷ u)) → ((u : List ℕ) → Has (derive s c) u → Has s (c ∷ u))
    → Has (cond b (alt_of (seq_of (derive r c) s) (derive s c)) (seq_of (derive r c) s)) t → Has (seq r s) (c ∷ t)
seq_sound r s c t false e f g h = seq_onto r s c t f h
seq_sound r s c t true e f g h =
    elim (alt_of-sound (seq_of (derive r c) s) (derive s c) t h) [
      | inl k ↦ seq_onto r s c t f k
      | inr k ↦ record { front = []; back = c ∷ t; parts = refl; first = nullable-sound r e; second = g t k }
    ]

pub derive-sound : (r : Regular) (c : ℕ) (t : List ℕ) → Has (derive r c) t → Has r (c ∷ t)
derive-sound none c t h = h
derive-sound empty c t h = absurd h
derive-sound (one p) c t h = one_sound p c t (p c) refl h
derive-sound (seq r s) c t h = seq_sound r s c t (nullable r) refl (λ u. derive-sound r c u) (λ u. derive-sound s c u) h
derive-sound (alt r s) c t h = elim (alt_of-sound (derive r c) (derive s c) t h) [ inl k ↦ inl (derive-sound r c t k) | inr k ↦ inr (derive-sound s c t k) ]
derive-sound (star r) c t h =
    let k = seq_of-sound (derive r c) (star r) t h in
    (suc k.second.0, onto_front (λ u. Has r u) (λ u. Has (derive r c) u) (λ u. Times (λ v. Has r v) k.second.0 u) c t (λ u. derive-sound r c u) (record { front = k.front; back = k.back; parts = k.parts; first = k.first; second = k.second.1 }))

tail_is : (c d : ℕ) (t u : List ℕ) → c ∷ t ≡ d ∷ u → (c ≡ d) × (t ≡ u)
tail_is c d t u h = (cc, cc)

one_full : (p : ℕ → Bool) (c : ℕ) (t : List ℕ) → OneOf p (c ∷ t) → Has (cond (p c) empty none) t
one_full p c t h = let k = tail_is c h.char t [] h.spelled in let e : p c ≡ true = rw k.0 h.passes in rw e k.1

seq_full_first : (r s : Regular) (c : ℕ) (t u v : List ℕ) (b : Bool) → t ≡ u ++ v → Has (derive r c) u → Has s v → Has (cond b (alt_of (seq_of (derive r c) s) (derive s c)) (seq_of (derive r c) s)) t
seq_full_first r s c t u v true e h k = alt_of-full (seq_of (derive r c) s) (derive s c) t (inl (seq_of-full (derive r c) s t (record { front = u; back = v; parts = e; first = h; second = k })))
seq_full_first r s c t u v false e h k = seq_of-full (derive r c) s t (record { front = u; back = v; parts = e; first = h; second = k })

seq_full : (r s : Regular) (c : ℕ) (t front back : List ℕ) → ((u : List ℕ) → Has r (c ∷ u) → Has (derive r c) u) → ((u : List ℕ) → Has s (c ∷ u) → Has (derive s c) u)
    → c ∷ t ≡ front ++ back → Has r front → Has s back → Has (derive (seq r s) c) t
seq_full r s c t [] back f g e h k =
    let n : nullable r ≡ true = nullable-full r h in
    rw n (alt_of-full (seq_of (derive r c) s) (derive s c) t (inr (g t (subst (λ (x : List ℕ). Has s x) (sym e) k))))
seq_full r s c t (d ∷ u) back f g e h k =
    let i = tail_is c d t (u ++ back) e in
    seq_full_first r s c t u back (nullable r) i.1 (f u (subst (λ (x : ℕ). Has r (x ∷ u)) (sym i.0) h)) k

star_step : (r : Regular) (c : ℕ) → ((u : List ℕ) → Has r (c ∷ u) → Has (derive r c) u) → (n : ℕ) (t front back : List ℕ) → (Times (λ u. Has r u) n (c ∷ t) → Has (seq (derive r c) (star r)) t)
    → c ∷ t ≡ front ++ back → Has r front → Times (λ u. Has r u) n back → Has (seq (derive r c) (star r)) t
star_step r c f n t [] back ih e h k = ih (subst (λ (x : List ℕ). Times (λ u. Has r u) n x) (sym e) k)
star_step r c f n t (d ∷ u) back ih e h k =
    let i = tail_is c d t (u ++ back) e in
    record { front = u; back = back; parts = i.1; first = f u (subst (λ (x : ℕ). Has r (x ∷ u)) (sym i.0) h); second = (n, k) }

star_full : (r : Regular) (c : ℕ) → ((u : List ℕ) → Has r (c ∷ u) → Has (derive r c) u) → (n : ℕ) (t : List ℕ) → Times (λ u. Has r u) n (c ∷ t) → Has (seq (derive r c) (star r)) t
star_full r c f zero t h = absurd cc
star_full r c f (suc n) t h = star_step r c f n t h.front h.back (star_full r c f n t) h.parts h.first h.second

pub derive-full : (r : Regular) (c : ℕ) (t : List ℕ) → Has r (c ∷ t) → Has (derive r c) t
derive-full none c t h = h
derive-full empty c t h = absurd cc
derive-full (one p) c t h = one_full p c t h
derive-full (seq r s) c t h = seq_full r s c t h.front h.back (λ u. derive-full r c u) (λ u. derive-full s c u) h.parts h.first h.second
derive-full (alt r s) c t h = alt_of-full (derive r c) (derive s c) t (elim h [ inl k ↦ inl (derive-full r c t k) | inr k ↦ inr (derive-full s c t k) ])
derive-full (star r) c t h = seq_of-full (derive r c) (star r) t (star_full r c (λ u. derive-full r c u) h.0 t h.1)

-- what is left of a form after some characters
abbrev pub after : List ℕ → Regular → Regular
after [] r = r
after (c ∷ cs) r = after cs (derive r c)
