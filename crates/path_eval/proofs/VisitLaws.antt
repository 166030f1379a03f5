-- How lists of visits grow, and how many visits there can be.
use Rattle.std.proofs.Common.{◌≡◌, ◌↔◌, ◌⊎◌, inl, inr, ℕ, zero, suc, ◌+◌, ◌*◌, ◌<◌, ◌≤◌, Bool, true, false, cond, List, [], ◌∷◌, ◌++◌, take, length, get_or, Contains, Some, None, slice_get, refl, sym, ap, ◌∙◌, subst, arith}
use Rattle.std.specs.List.{list_any, IsDistinct}
use Rattle.std.specs.Cmp.{IsEquivalence}
use Rattle.std.proofs.lemmas.Bool.{cases_lt}
use Rattle.std.proofs.lemmas.List.{length-append, get_or_default}
use Rattle.std.proofs.lemmas.List.Elements.{Contains-append_cases, Contains-append_left, Contains-append_right}
use Rattle.std.proofs.lemmas.Map.Views.{Contains-from_any, list_any-from_Contains}
use Rattle.std.proofs.lemmas.Map.Made.{length-le_from_is_member}
use Rattle.rdf_terms.specs.Nodes.{Nodes, terms}
use Rattle.rdf_terms.proofs.Members.{in_none, in_first, in_rest, in_cases, take_next}
use Rattle.path_eval.specs.declared.visits.Visit.{Visit}
use Rattle.path_eval.specs.Visits.{Adds, AreVisits}

pub slice_get_left : {X : Type 0} (xs ys : List X) (i : ℕ) → i < length xs → slice_get (xs ++ ys) i ≡ slice_get xs i
slice_get_left [] ys i l = absurd (omega (arith, l))
slice_get_left (x ∷ xs) ys zero l = refl
slice_get_left (x ∷ xs) ys (suc i) l = slice_get_left xs ys i (omega (arith, l))

pub in_one : {X : Type 0} (x y : X) → Contains (x ∷ []) y → x ≡ y
in_one x y c = at (in_cases x [] y c)
  where
    at : (x ≡ y) ⊎ Contains [] y → x ≡ y
    at (inl e) = e
    at (inr d) = absurd (in_none y d)

pub adds_same : (old new : List Visit) (P Q : Visit → Type 0) → ((v : Visit) → P v ↔ Q v) → Adds old new P → Adds old new Q
adds_same old new P Q is a = record { kept = a.kept; exact = λ v. (λ c. to v ((a.exact v).0 c), λ e. (a.exact v).1 (back v e)) }
  where
    to : (v : Visit) → Contains old v ⊎ P v → Contains old v ⊎ Q v
    to v (inl c) = inl c
    to v (inr p) = inr ((is v).0 p)

    back : (v : Visit) → Contains old v ⊎ Q v → Contains old v ⊎ P v
    back v (inl c) = inl c
    back v (inr q) = inr ((is v).1 q)

pub adds_none : (vs : List Visit) (P : Visit → Type 0) → ((v : Visit) → P v → ⊥) → Adds vs vs P
adds_none vs P never = record { kept = λ i l. refl; exact = λ v. (λ c. inl c, at v) }
  where
    at : (v : Visit) → Contains vs v ⊎ P v → Contains vs v
    at v (inl c) = c
    at v (inr p) = absurd (never v p)

kept_longer : {X : Type 0} (old new : List X) → ((i : ℕ) → i < length old → slice_get new i ≡ slice_get old i) → length old ≤ length new
kept_longer [] new k = omega arith
kept_longer (x ∷ xs) [] k = absurd (let z : None ≡ Some x = k 0 (omega arith) in cc)
kept_longer (x ∷ xs) (y ∷ ys) k = let l = kept_longer xs ys (λ i l. k (suc i) (omega (arith, l))) in omega (arith, l)

pub adds_then : (us vs ws : List Visit) (P Q : Visit → Type 0) → Adds us vs P → Adds vs ws Q → Adds us ws (λ v. P v ⊎ Q v)
adds_then us vs ws P Q a b = record { kept = λ i l. b.kept i (let m = kept_longer us vs a.kept in omega (arith, l, m)) ∙ a.kept i l; exact = λ v. (λ c. to v ((b.exact v).0 c), back v) }
  where
    to : (v : Visit) → Contains vs v ⊎ Q v → Contains us v ⊎ (P v ⊎ Q v)
    to v (inl c) = at ((a.exact v).0 c)
      where
        at : Contains us v ⊎ P v → Contains us v ⊎ (P v ⊎ Q v)
        at (inl d) = inl d
        at (inr p) = inr (inl p)
    to v (inr q) = inr (inr q)

    back : (v : Visit) → Contains us v ⊎ (P v ⊎ Q v) → Contains ws v
    back v (inl c) = (b.exact v).1 (inl ((a.exact v).1 (inl c)))
    back v (inr (inl p)) = (b.exact v).1 (inl ((a.exact v).1 (inr p)))
    back v (inr (inr q)) = (b.exact v).1 (inr q)

-- an insert, where equal visits are the same
pub adds_insert : (eq : Visit → Visit → Bool) → ((x y : Visit) → eq x y ≡ true → x ≡ y) → (vs new : List Visit) (v : Visit) → new ≡ cond (list_any (eq v) vs) vs (vs ++ v ∷ []) → Adds vs new (λ u. v ≡ u)
adds_insert eq same vs new v is = subst (λ ns. Adds vs ns (λ u. v ≡ u)) (sym is) (at (list_any (eq v) vs) refl)
  where
    at : (b : Bool) → list_any (eq v) vs ≡ b → Adds vs (cond b vs (vs ++ v ∷ [])) (λ u. v ≡ u)
    at true e = record { kept = λ i l. refl; exact = λ u. (λ c. inl c, there u) }
      where
        there : (u : Visit) → Contains vs u ⊎ (v ≡ u) → Contains vs u
        there u (inl c) = c
        there u (inr h) = subst (Contains vs) h (Contains-from_any same v vs e)
    at false e = record { kept = λ i l. slice_get_left vs (v ∷ []) i l; exact = λ u. (λ c. to u (Contains-append_cases vs (v ∷ []) u c), back u) }
      where
        to : (u : Visit) → Contains vs u ⊎ Contains (v ∷ []) u → Contains vs u ⊎ (v ≡ u)
        to u (inl c) = inl c
        to u (inr c) = inr (in_one v u c)

        back : (u : Visit) → Contains vs u ⊎ (v ≡ u) → Contains (vs ++ v ∷ []) u
        back u (inl c) = Contains-append_left vs (v ∷ []) u c
        back u (inr h) = Contains-append_right vs (v ∷ []) u (subst (Contains (v ∷ [])) h (in_first v []))

-- the loop's step over nodes
pub adds_more : (old mid new : List Visit) (count state : ℕ) (nodes : List ℕ) (i node : ℕ) → i < length nodes → get_or nodes i 0 ≡ node
    → Adds old mid (λ v. (state < count) × (state ≡ v.state) × Contains (take i nodes) v.node)
    → Adds mid new (λ v. (state < count) × (record { state = state; node = node } ≡ v))
    → Adds old new (λ v. (state < count) × (state ≡ v.state) × Contains (take (i + 1) nodes) v.node)
adds_more old mid new count state nodes i node l is a b = adds_same old new _ _ same (adds_then old mid new _ _ a b)
  where
    P : Visit → Type 0
    P v = (state < count) × (state ≡ v.state) × Contains (take i nodes) v.node

    more : take (i + 1) nodes ≡ take i nodes ++ node ∷ []
    more = take_next nodes i node l (sym is ∙ default)
      where
        default : get_or nodes i 0 ≡ get_or nodes i node
        default = get_or_default nodes i 0 node l

    same : (v : Visit) → (((state < count) × (state ≡ v.state) × Contains (take i nodes) v.node) ⊎ ((state < count) × (record { state = state; node = node } ≡ v))) ↔ ((state < count) × (state ≡ v.state) × Contains (take (i + 1) nodes) v.node)
    same v = (to, λ h. back h (Contains-append_cases (take i nodes) (node ∷ []) v.node (subst (λ ns. Contains ns v.node) more h.2)))
      where
        to : ((state < count) × (state ≡ v.state) × Contains (take i nodes) v.node) ⊎ ((state < count) × (record { state = state; node = node } ≡ v)) → (state < count) × (state ≡ v.state) × Contains (take (i + 1) nodes) v.node
        to (inl h) = (h.0, h.1, subst (λ ns. Contains ns v.node) (sym more) (Contains-append_left (take i nodes) (node ∷ []) v.node h.2))
        to (inr h) = (h.0, ap (λ (u : Visit). u.state) h.1, subst (λ ns. Contains ns v.node) (sym more) (Contains-append_right (take i nodes) (node ∷ []) v.node (subst (Contains (node ∷ [])) (ap (λ (u : Visit). u.node) h.1) (in_first node []))))

        back : (state < count) × (state ≡ v.state) × Contains (take (i + 1) nodes) v.node → Contains (take i nodes) v.node ⊎ Contains (node ∷ []) v.node → ((state < count) × (state ≡ v.state) × Contains (take i nodes) v.node) ⊎ ((state < count) × (record { state = state; node = node } ≡ v))
        back h (inl c) = inl (h.0, h.1, c)
        back h (inr c) = inr (h.0, λ j. record { state = h.1 j; node = in_one node v.node c j })

-- each pair of a state below the one bound and a node below the other
abbrev row : ℕ → ℕ → List Visit
row s zero = []
row s (suc n) = record { state = s; node = n } ∷ row s n

abbrev grid : ℕ → ℕ → List Visit
grid zero n = []
grid (suc s) n = row s n ++ grid s n

length-row : (s n : ℕ) → length (row s n) ≡ n
length-row s zero = refl
length-row s (suc n) = ap suc (length-row s n)

length-grid : (s n : ℕ) → length (grid s n) ≡ s * n
length-grid zero n = omega arith
length-grid (suc s) n = length-append (row s n) (grid s n) ∙ ((λ i. length-row s n i + length-grid s n i) ∙ omega arith)

in_row : (s n : ℕ) (v : Visit) → v.state ≡ s → v.node < n → Contains (row s n) v
in_row s zero v e l = absurd (omega (arith, l))
in_row s (suc n) v e l = at (cases_lt v.node n) (λ m. in_row s n v e m)
  where
    at : (v.node < n) ⊎ (n ≤ v.node) → (v.node < n → Contains (row s n) v) → Contains (row s (suc n)) v
    at (inl m) more = in_rest _ (row s n) v (more m)
    at (inr m) more =
        let same : n ≡ v.node = omega (arith, m, l) in
        let is : record { state = s; node = n } ≡ v = λ j. record { state = sym e j; node = same j } in
        subst (λ u. Contains (u ∷ row s n) v) (sym is) (in_first v (row s n))

in_grid : (s n : ℕ) (v : Visit) → v.state < s → v.node < n → Contains (grid s n) v
in_grid zero n v k l = absurd (omega (arith, k))
in_grid (suc s) n v k l = at (cases_lt v.state s) (λ m. in_grid s n v m l)
  where
    at : (v.state < s) ⊎ (s ≤ v.state) → (v.state < s → Contains (grid s n) v) → Contains (grid (suc s) n) v
    at (inl m) more = Contains-append_right (row s n) (grid s n) v (more m)
    at (inr m) more = Contains-append_left (row s n) (grid s n) v (in_row s n v (omega (arith, m, k)) l)

-- so many visits there are at most
pub visits_bound : (eq : Visit → Visit → Bool) (laws : IsEquivalence eq) → ((x y : Visit) → eq x y ≡ true → x ≡ y) → (count : ℕ) (n : Nodes) (vs : List Visit) → IsDistinct eq vs → AreVisits count n vs → length vs ≤ count * length (terms n)
visits_bound eq laws same count n vs d w =
    let l = length-le_from_is_member laws vs (grid count (length (terms n))) d (λ q m. list_any-from_Contains laws q (grid count (length (terms n))) (let b = w q (Contains-from_any same q vs m) in in_grid count (length (terms n)) q b.0 b.1)) in
    let e = length-grid count (length (terms n)) in
    omega (arith, l, e)
