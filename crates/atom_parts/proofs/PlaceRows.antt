-- The triples at places that are known to pass one test, and that pass another, are those of the list that pass both, in
-- order. As Places of rdf_navigation, for any tests.
use Rattle.std.proofs.Common.{◌≡◌, ℕ, suc, ◌+◌, ◌-◌, ◌<◌, ◌≤◌, ◌⊎◌, inl, inr, Bool, true, false, cond, ◌&&◌, List, [], ◌∷◌, ◌++◌, length, get_or, take, Contains, Option, Some, None, slice_get, slice_index, refl, sym, ap, ◌∙◌, subst, arith, append_assoc, ◌↔◌}
use Rattle.std.proofs.lemmas.Bool.{false≢true}
use Rattle.std.specs.Prelude.{filter_map, option_map}
use Rattle.std.specs.List.{cons_option}
use Rattle.std.specs.List.Sorted.{IsStrictlyIncreasing}
use Rattle.rdf_terms.specs.declared.term.Term.{Term}
use Rattle.rdf_terms.specs.Statement.{Statement}
use Rattle.rdf_terms.specs.Graph.{ArePlacesOfObject}
use Rattle.rdf_terms.proofs.Orders.{lt_or_le, same_term as equal_terms}
use Rattle.rdf_terms.proofs.Members.{in_none, in_first, in_rest, in_cases}
use Rattle.rdf_navigation.specs.Values.{same_term}
use Rattle.rdf_navigation.proofs.PropertyLaws.{filter_map_next}
use Rattle.repair_problem.specs.declared.atom.Atom.TheVariants as atom
use Rattle.repair_problem.specs.declared.atom.Part.{Part}
use Rattle.path_levels.specs.PathParts.{literal}
use Rattle.atom_parts.specs.CandidateLists.{passes, number_by, number_there, places_from, is_to}
use Rattle.atom_parts.specs.PartsTable.{triple_parts}
use Rattle.atom_parts.proofs.Facts.{iff_trans, none_some, some_is, tied}

-- each number is at least n, and above those before it
abbrev RisesFrom : ℕ → List ℕ → Type 0
RisesFrom n [] = Unit {0}
RisesFrom n (x ∷ xs) = (n ≤ x) × RisesFrom (suc x) xs

rises_from : (n : ℕ) (xs : List ℕ) → IsStrictlyIncreasing xs → ((y : ℕ) (ys : List ℕ) → xs ≡ y ∷ ys → n ≤ y) → RisesFrom n xs
rises_from n [] h first = tt
rises_from n (x ∷ []) h first = (first x [] refl, tt)
rises_from n (x ∷ z ∷ zs) h first =
    let lt : x < z = h 0 (omega arith) in
    (first x (z ∷ zs) refl, rises_from (suc x) (z ∷ zs) later (λ y ys e. let same : z ≡ y = cc in omega (arith, lt, same)))
  where
    later : IsStrictlyIncreasing (z ∷ zs)
    later k l =
        let e : suc k + 1 ≡ suc (k + 1) = omega arith in
        let m : suc k + 1 < length (x ∷ z ∷ zs) = omega (arith, l) in
        subst (λ j. slice_index (x ∷ z ∷ zs) (suc k) < slice_index (x ∷ z ∷ zs) j) e (h (suc k) m)

lowest : (n : ℕ) (xs : List ℕ) → RisesFrom n xs → (i : ℕ) → Contains xs i → n ≤ i
lowest n [] r i c = absurd (in_none i c)
lowest n (x ∷ xs) r i c = at (in_cases x xs i c) (λ d. lowest (suc x) xs r.1 i d)
  where
    at : (x ≡ i) ⊎ Contains xs i → (Contains xs i → suc x ≤ i) → n ≤ i
    at (inl e) more = let l = r.0 in omega (arith, l, e)
    at (inr d) more = let l = r.0 in let m = more d in omega (arith, l, m)

-- where n isn't in the list, each number is above it
raised : (n : ℕ) (xs : List ℕ) → RisesFrom n xs → ¬ (Contains xs n) → RisesFrom (suc n) xs
raised n [] r out = tt
raised n (x ∷ xs) r out = at (lt_or_le n x)
  where
    at : (n < x) ⊎ (x ≤ n) → RisesFrom (suc n) (x ∷ xs)
    at (inl l) = (omega (arith, l), r.1)
    at (inr l) = let m = r.0 in let same : x ≡ n = omega (arith, l, m) in absurd (out (subst (Contains (x ∷ xs)) same (in_first x xs)))

module _ (all : List Statement) (sel more : Statement → Bool) (before : ℕ) where
  abbrev pub both : Statement → Bool
  both t = sel t && more t

  abbrev there : ℕ → Option ℕ
  there i = number_there all more before i

  -- the list has the places of the triples that pass the first test from n on, and no others
  abbrev Exact : ℕ → List ℕ → Type 0
  Exact n ps = ((i : ℕ) → Contains ps i → passes sel (slice_get all i) ≡ true) × ((i : ℕ) → n ≤ i → passes sel (slice_get all i) ≡ true → Contains ps i)

  from_places : (ts : List Statement) (n : ℕ) (ps : List ℕ) → ((j : ℕ) → slice_get all (n + j) ≡ slice_get ts j) → RisesFrom n ps → Exact n ps → filter_map there ps ≡ places_from (before + n) both ts
  from_places [] n [] at r e = refl
  from_places [] n (x ∷ ps) at r e =
      let l = r.0 in
      let place : n + (x - n) ≡ x = omega (arith, l) in
      let none : slice_get all x ≡ None = ap (slice_get all) (sym place) ∙ at (x - n) in
      absurd (false≢true (sym (ap (passes sel) none) ∙ e.0 x (in_first x ps)))
  from_places (t ∷ ts) n ps at r e = by (sel t) refl (λ qs s d. from_places ts (suc n) qs later s d ∙ shifted)
    where
      shifted : places_from (before + suc n) both ts ≡ places_from (before + n + 1) both ts
      shifted = let z : before + suc n ≡ before + n + 1 = omega arith in ap (λ k. places_from k both ts) z

      here : slice_get all n ≡ Some t
      here = let z : n ≡ n + 0 = omega arith in ap (slice_get all) z ∙ at 0

      later : (j : ℕ) → slice_get all (suc n + j) ≡ slice_get ts j
      later j = let z : suc n + j ≡ n + suc j = omega arith in ap (slice_get all) z ∙ at (suc j)

      listed : (b c : Bool) → sel t ≡ b → more t ≡ c → places_from (before + n) both (t ∷ ts) ≡ cons_option (cond (b && c) (Some (before + n)) None) (places_from (before + n + 1) both ts)
      listed b c f g = λ i. cons_option (cond (f i && g i) (Some (before + n)) None) (places_from (before + n + 1) both ts)

      there_is : (c : Bool) → more t ≡ c → there n ≡ cond c (Some (before + n)) None
      there_is c g = ap (number_by more (before + n)) here ∙ ap (λ b. cond b (Some (before + n)) None) g

      taken : sel t ≡ true → (c : Bool) → more t ≡ c → (us : List ℕ) → us ≡ places_from (before + n + 1) both ts → cons_option (there n) us ≡ places_from (before + n) both (t ∷ ts)
      taken f true g us q = ap (λ o. cons_option o us) (there_is true g) ∙ ap (λ vs. (before + n) ∷ vs) q ∙ sym (listed true true f g)
      taken f false g us q = ap (λ o. cons_option o us) (there_is false g) ∙ q ∙ sym (listed true false f g)

      first : (x : ℕ) (xs : List ℕ) → RisesFrom n (x ∷ xs) → (x ≡ n) ⊎ Contains xs n → x ≡ n
      first x xs s (inl same) = same
      first x xs s (inr d) = let l = s.0 in let m = lowest (suc x) xs s.1 n d in absurd (omega (arith, l, m))

      of : sel t ≡ true → (qs : List ℕ) → RisesFrom n qs → Exact n qs → Contains qs n → ((us : List ℕ) → RisesFrom (suc n) us → Exact (suc n) us → filter_map there us ≡ places_from (before + n + 1) both ts) → filter_map there qs ≡ places_from (before + n) both (t ∷ ts)
      of f [] s d c next = absurd (in_none n c)
      of f (x ∷ xs) s d c next =
          let same : x ≡ n = first x xs s (in_cases x xs n c) in
          ap (λ z. cons_option (there z) (filter_map there xs)) same
          ∙ taken f (more t) refl (filter_map there xs) (next xs (subst (λ z. RisesFrom (suc z) xs) same s.1) (λ i h. d.0 i (in_rest x xs i h), λ i l o. after same i l (in_cases x xs i (d.1 i (omega (arith, l)) o))))
        where
          after : x ≡ n → (i : ℕ) → suc n ≤ i → (x ≡ i) ⊎ Contains xs i → Contains xs i
          after same i l (inl k) = absurd (omega (arith, same, l, k))
          after same i l (inr h) = h

      by : (b : Bool) → sel t ≡ b → ((us : List ℕ) → RisesFrom (suc n) us → Exact (suc n) us → filter_map there us ≡ places_from (before + n + 1) both ts) → filter_map there ps ≡ places_from (before + n) both (t ∷ ts)
      by true f next = of f ps r e (e.1 n (omega arith) (ap (passes sel) here ∙ f)) next
      by false f next = next ps (raised n ps r never) (e.0, λ i l o. e.1 i (omega (arith, l)) o) ∙ sym (listed false (more t) f refl)
        where
          never : ¬ (Contains ps n)
          never c = false≢true (sym f ∙ (sym (ap (passes sel) here) ∙ e.0 n c))

  -- at ascending places of the triples that pass the first test
  pub places_are : (ps : List ℕ) → IsStrictlyIncreasing ps → ((i : ℕ) → Contains ps i ↔ (passes sel (slice_get all i) ≡ true)) → filter_map there ps ≡ places_from before both all
  places_are ps rises exact =
      let z : before + 0 ≡ before = omega arith in
      from_places all 0 ps (λ j. let y : 0 + j ≡ j = omega arith in ap (slice_get all) y) (rises_from 0 ps rises (λ x xs e. omega arith)) ((λ i c. (exact i).0 c), (λ i l o. (exact i).1 o))
      ∙ ap (λ k. places_from k both all) z

object_passes : (x : Term) (o : Option Statement) → (option_map (λ (t : Statement). t.object) o ≡ Some x) ↔ (passes (λ t. same_term t.object x) o ≡ true)
object_passes x None = (λ e. absurd (none_some e), λ h. absurd (false≢true h))
object_passes x (Some t) = (λ e. tied t.object x (some_is e), λ h. ap (λ z. Some z) (equal_terms t.object x h))

-- at the places of an object
pub object_rows : (ts : List Statement) (x q : Term) (before : ℕ) (ps : List ℕ) → ArePlacesOfObject ts x ps → filter_map (number_there ts (λ t. same_term t.predicate q) before) ps ≡ places_from before (is_to x q) ts
object_rows ts x q before ps are = places_are ts (λ t. same_term t.object x) (λ t. same_term t.predicate q) before ps are.rises (λ i. iff_trans (are.exact i) (object_passes x (slice_get ts i)))

pub parts_append : (xs ys : List ℕ) (positive : Bool) → triple_parts (xs ++ ys) positive ≡ triple_parts xs positive ++ triple_parts ys positive
parts_append [] ys positive = refl
parts_append (x ∷ xs) ys positive = ap (λ us. literal (atom.Triple x) positive ∷ us) (parts_append xs ys positive)

-- one item more
pub parts_next : {X : Type 0} (f : X → Option ℕ) (xs : List X) (k : ℕ) (d : X) (positive : Bool) (old list : List Part) → k < length xs → list ≡ old ++ triple_parts (filter_map f (take k xs)) positive
    → list ++ triple_parts (cons_option (f (get_or xs k d)) []) positive ≡ old ++ triple_parts (filter_map f (take (k + 1) xs)) positive
parts_next f xs k d positive old list l e =
    ap (λ us. us ++ triple_parts (cons_option (f (get_or xs k d)) []) positive) e
    ∙ (append_assoc old (triple_parts (filter_map f (take k xs)) positive) (triple_parts (cons_option (f (get_or xs k d)) []) positive)
    ∙ ap (λ us. old ++ us) (sym (ap (λ us. triple_parts us positive) (filter_map_next f xs k d l) ∙ parts_append (filter_map f (take k xs)) (cons_option (f (get_or xs k d)) []) positive)))
