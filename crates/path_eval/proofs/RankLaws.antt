-- The terms of a list by their ranks among others, and the numbers that come of these.
use Rattle.std.proofs.Common.{None, Bor, option_map, take, drop, ◌≡◌, ◌≢◌, ◌⊎◌, inl, inr, ℕ, ◌+◌, ◌<◌, ◌≤◌, ◌↔◌, IsTrue, All, List, [], ◌∷◌, ◌++◌, map, length, get_or, set, Contains, Some, slice_get, refl, sym, ap, ◌∙◌, subst, arith}
use Rattle.std.proofs.lemmas.Bool.{cases_lt, false≢true}
use Rattle.std.proofs.lemmas.List.{get_or_default, get_or_append_left, get_or_push, get_or-map, get_or-set_same, get_or-set_other, length-map, length-set, length-append, map-append, take-map, drop-map, append_assoc, drop_at, take_at, take-append-drop, ext_get_or, same_lists}
use Rattle.std.proofs.lemmas.List.Elements.{All-same, All-push, All-contains, Contains-append_left, Contains-append_right, Contains-append_cases}
use Rattle.std.specs.List.Sorted.{IsPermutation}
use Rattle.std.proofs.lemmas.List.Sorted.{IsPermutation-map, IsPermutation-sym, Contains-permutation}
use Rattle.std.proofs.lemmas.Option.{slice_get_within, slice_get_read, slice_get-get_or, get_or_from_slice_get, slice_get-map}
use Rattle.rdf_terms.specs.declared.term.Term.{Term}
use Rattle.rdf_terms.specs.declared.term.Term.TheVariants.{Literal}
use Rattle.rdf_terms.specs.Statement.{Statement}
use Rattle.rdf_terms.specs.Graph.{Graph, triples, empty}
use Rattle.rdf_terms.specs.Nodes.{Nodes, terms, has_term, nodes_of, IsNodeOf}
use Rattle.rdf_terms.proofs.GraphLaws.{has_listed, listed_of_has, has-empty}
use Rattle.rdf_terms.proofs.Members.{in_map, map_in}
use Rattle.rdf_terms.proofs.NodesLaws.{same_nodes_within, nodes_of_is}
use Rattle.rdf_navigation.specs.Numbers.{term_at}
use Rattle.path_eval.specs.Numbered.{terms_at, AreNumbers}
use Rattle.rdf_navigation.proofs.NumberLaws.{places_more}
use Rattle.path_eval.specs.declared.term_numbers.HeadedPlace.{HeadedPlace}
use Rattle.path_eval.specs.TermNumbers.{terms_in, places_in, ArePlaces, AreAllPlaces, AreRanked, subjects_of, objects_of}

nothing : Term
nothing = Literal [] [] None

-- an item stays where it is when others are appended
pub get_more : {X : Type 0} (xs ys : List X) (i : ℕ) (x : X) → slice_get xs i ≡ Some x → slice_get (xs ++ ys) i ≡ Some x
get_more xs ys i x e =
    let l = slice_get_within xs i x e in
    let m = length-append xs ys in
    let k : i < length (xs ++ ys) = omega (arith, l, m) in
    slice_get_read (xs ++ ys) (length (xs ++ ys)) i x refl k (sym (get_or_append_left xs ys x i l ∙ get_or_from_slice_get xs i x x e))

pub contains_at : {X : Type 0} (xs : List X) (i : ℕ) (x : X) → slice_get xs i ≡ Some x → Contains xs x
contains_at xs i x e = (i, slice_get_within xs i x e, get_or_from_slice_get xs i x x e)

-- a list to which an item was appended, or none
get_kept : (xs new : List Term) (t : Term) (i : ℕ) (x : Term) → (new ≡ xs) ⊎ (new ≡ xs ++ t ∷ []) → slice_get xs i ≡ Some x → slice_get new i ≡ Some x
get_kept xs new t i x (inl e) h = ap (λ us. slice_get us i) e ∙ h
get_kept xs new t i x (inr e) h = ap (λ us. slice_get us i) e ∙ get_more xs (t ∷ []) i x h

all_kept : (P : Term → Type 0) (xs new : List Term) (t : Term) → (new ≡ xs) ⊎ (new ≡ xs ++ t ∷ []) → All P xs → P t → All P new
all_kept P xs new t (inl e) h p = All-same P new xs e h
all_kept P xs new t (inr e) h p = All-same P new (xs ++ t ∷ []) e (All-push P xs t h p)

-- the ranks of the terms at the first k of these places
pub record IsRanking (ts : List Term) (places : List ℕ) (k : ℕ) (others : List Term) (ranks : List ℕ) : Type 0 where
  pub long : length ranks ≡ length ts
  pub each : (j : ℕ) (t : Term) → j < k → slice_get ts (get_or places j 0) ≡ Some t → slice_get others (get_or ranks (get_or places j 0) 0) ≡ Some t
  pub listed : All (Contains ts) others

pub ranking_more : (ts : List Term) (places : List ℕ) (k : ℕ) (others new : List Term) (ranks : List ℕ) (p r : ℕ) (t : Term)
    → IsRanking ts places k others ranks → p ≡ get_or places k 0 → slice_get ts p ≡ Some t → (new ≡ others) ⊎ (new ≡ others ++ t ∷ []) → slice_get new r ≡ Some t → IsRanking ts places (k + 1) new (set ranks p r)
ranking_more ts places k others new ranks p r t w is here kept put =
    record { long = length-set ranks p r ∙ w.long; each = each; listed = all_kept (Contains ts) others new t kept w.listed (contains_at ts p t here) }
  where
    within : p < length ranks
    within = let l = slice_get_within ts p t here in let m = w.long in omega (arith, l, m)

    same : (q : ℕ) (u : Term) → q ≡ p → slice_get ts q ≡ Some u → slice_get new (get_or (set ranks p r) q 0) ≡ Some u
    same q u e h =
        ap (λ i. slice_get new (get_or (set ranks p r) i 0)) e
        ∙ (ap (slice_get new) (get_or-set_same ranks p r 0 within) ∙ (put ∙ (sym here ∙ (ap (slice_get ts) (sym e) ∙ h))))

    other : (j : ℕ) (u : Term) → j < k + 1 → get_or places j 0 ≢ p → slice_get ts (get_or places j 0) ≡ Some u → slice_get new (get_or (set ranks p r) (get_or places j 0) 0) ≡ Some u
    other j u l ne h = at (cases_lt j k)
      where
        at : (j < k) ⊎ (k ≤ j) → slice_get new (get_or (set ranks p r) (get_or places j 0) 0) ≡ Some u
        at (inl low) = ap (slice_get new) (get_or-set_other ranks p (get_or places j 0) r 0 ne) ∙ get_kept others new t _ u kept (w.each j u low h)
        at (inr high) = absurd (ne (let e : j ≡ k = omega (arith, l, high) in ap (λ i. get_or places i 0) e ∙ sym is))

    each : (j : ℕ) (u : Term) → j < k + 1 → slice_get ts (get_or places j 0) ≡ Some u → slice_get new (get_or (set ranks p r) (get_or places j 0) 0) ≡ Some u
    each j u l h = at (cases_lt (get_or places j 0) p) (cases_lt p (get_or places j 0))
      where
        at : (get_or places j 0 < p) ⊎ (p ≤ get_or places j 0) → (p < get_or places j 0) ⊎ (get_or places j 0 ≤ p) → slice_get new (get_or (set ranks p r) (get_or places j 0) 0) ≡ Some u
        at (inl a) b = other j u l (λ e. absurd (omega (arith, a, e))) h
        at (inr a) (inl b) = other j u l (λ e. absurd (omega (arith, b, e))) h
        at (inr a) (inr b) = same (get_or places j 0) u (omega (arith, a, b)) h

pub ranking_all : (ts : List Term) (places : List ℕ) (k : ℕ) (others : List Term) (ranks : List ℕ) → IsRanking ts places k others ranks → length places ≤ k → ArePlaces (length ts) places → AreRanked ts others ranks
ranking_all ts places k others ranks w end all = record { long = w.long; each = each }
  where
    each : (p : ℕ) (t : Term) → slice_get ts p ≡ Some t → slice_get others (get_or ranks p 0) ≡ Some t
    each p t h =
        let c : Contains places p = (all p).1 (slice_get_within ts p t h) in
        let e : get_or places c.0 0 ≡ p = get_or_default places c.0 0 p c.1 ∙ c.2 in
        let l : c.0 < k = let m = c.1 in omega (arith, m, end) in
        subst (λ q. slice_get others (get_or ranks q 0) ≡ Some t) e (w.each c.0 t l (ap (slice_get ts) e ∙ h))

-- the ranks of the terms of a list in its order, as they are listed
pub record IsRankedFront (ts : List Term) (k : ℕ) (others : List Term) (ranks : List ℕ) : Type 0 where
  pub long : length ranks ≡ k
  pub each : (j : ℕ) (t : Term) → j < k → slice_get ts j ≡ Some t → slice_get others (get_or ranks j 0) ≡ Some t
  pub listed : All (Contains ts) others

pub front_more : (ts : List Term) (k : ℕ) (others new : List Term) (ranks : List ℕ) (r : ℕ) (t : Term)
    → IsRankedFront ts k others ranks → slice_get ts k ≡ Some t → (new ≡ others) ⊎ (new ≡ others ++ t ∷ []) → slice_get new r ≡ Some t → IsRankedFront ts (k + 1) new (ranks ++ r ∷ [])
front_more ts k others new ranks r t w here kept put =
    record { long = length-append ranks (r ∷ []) ∙ ap (λ n. n + 1) w.long; each = each; listed = all_kept (Contains ts) others new t kept w.listed (contains_at ts k t here) }
  where
    each : (j : ℕ) (u : Term) → j < k + 1 → slice_get ts j ≡ Some u → slice_get new (get_or (ranks ++ r ∷ []) j 0) ≡ Some u
    each j u l h = at (cases_lt j k)
      where
        at : (j < k) ⊎ (k ≤ j) → slice_get new (get_or (ranks ++ r ∷ []) j 0) ≡ Some u
        at (inl low) =
            let m : j < length ranks = let n = w.long in omega (arith, low, n) in
            ap (slice_get new) (get_or_append_left ranks (r ∷ []) 0 j m) ∙ get_kept others new t _ u kept (w.each j u low h)
        at (inr high) =
            let e : j ≡ k = omega (arith, l, high) in
            let m : length ranks ≡ j = w.long ∙ sym e in
            ap (slice_get new) (get_or_push ranks r 0 j m) ∙ (put ∙ (sym here ∙ (ap (slice_get ts) (sym e) ∙ h)))

pub front_all : (ts : List Term) (k : ℕ) (others : List Term) (ranks : List ℕ) → IsRankedFront ts k others ranks → k ≡ length ts → AreRanked ts others ranks
front_all ts k others ranks w end = record { long = w.long ∙ end; each = λ j t h. w.each j t (let l = slice_get_within ts j t h in omega (arith, l, end)) h }

pub ranked_more : (ts xs ys : List Term) (ranks : List ℕ) → AreRanked ts xs ranks → AreRanked ts (xs ++ ys) ranks
ranked_more ts xs ys ranks w = record { long = w.long; each = λ k t h. get_more xs ys _ t (w.each k t h) }

-- the rank of each term is a place of the other list
pub ranks_within : (ts others : List Term) (ranks : List ℕ) → AreRanked ts others ranks → All (λ r. r < length others) ranks
ranks_within ts others ranks w k d l =
    let m : k < length ts = let n = w.long in omega (arith, l, n) in
    let t = get_or ts k nothing in
    subst (λ i. i < length others) (get_or_default ranks k 0 d l) (slice_get_within others (get_or ranks k 0) t (w.each k t (slice_get-get_or ts k nothing m)))

-- the numbers of the other terms, taken at the ranks, are those of the terms
module _ (n : Nodes) (ts others : List Term) (ranks numbers : List ℕ) (w : AreRanked ts others ranks) (all : terms_at n numbers ≡ others) where
  many : length numbers ≡ length others
  many = sym (length-map numbers (term_at n)) ∙ ap length all

  pub ranks_inside : All (λ r. r < length numbers) ranks
  ranks_inside k d l = let m = ranks_within ts others ranks w k d l in omega (arith, m, many)

  pub ranked_numbers : terms_at n (map (λ r. get_or numbers r 0) ranks) ≡ ts
  ranked_numbers = same_lists (terms_at n (map (λ r. get_or numbers r 0) ranks)) ts size at
    where
      long : length (map (λ r. get_or numbers r 0) ranks) ≡ length ranks
      long = length-map ranks (λ r. get_or numbers r 0)

      size : length (terms_at n (map (λ r. get_or numbers r 0) ranks)) ≡ length ts
      size = length-map (map (λ r. get_or numbers r 0) ranks) (term_at n) ∙ (long ∙ w.long)

      at : (k : ℕ) (d : Term) → k < length (terms_at n (map (λ r. get_or numbers r 0) ranks)) → get_or (terms_at n (map (λ r. get_or numbers r 0) ranks)) k d ≡ get_or ts k d
      at k d l =
          let m : k < length ts = omega (arith, l, size) in
          let i : k < length ranks = let e = w.long in omega (arith, m, e) in
          let j : k < length (map (λ r. get_or numbers r 0) ranks) = omega (arith, i, long) in
          let t = get_or ts k d in
          let r = get_or ranks k 0 in
          let stands : slice_get others r ≡ Some t = w.each k t (slice_get-get_or ts k d m) in
          let inside : r < length numbers = let s = slice_get_within others r t stands in omega (arith, s, many) in
          let own : term_at n (get_or numbers r 0) ≡ t = sym (get_or-map (term_at n) numbers r 0 t inside) ∙ get_or_from_slice_get (terms_at n numbers) r t t (ap (λ us. slice_get us r) all ∙ stands) in
          get_or-map (term_at n) (map (λ q. get_or numbers q 0) ranks) k 0 d j ∙ (ap (term_at n) (get_or-map (λ q. get_or numbers q 0) ranks k 0 0 i) ∙ own)

  pub looked_within : AreNumbers n numbers → AreNumbers n (map (λ r. get_or numbers r 0) ranks)
  looked_within within i c =
      let m = map_in (λ r. get_or numbers r 0) ranks i c in
      let l : m.0 < length numbers = let k = All-contains (λ r. r < length others) ranks m.0 (ranks_within ts others ranks w) m.1 in omega (arith, k, many) in
      within i (m.0, l, get_or_default numbers m.0 i 0 l ∙ m.2)

-- the other list has the same terms
pub ranked_same : (ts others : List Term) (ranks : List ℕ) → AreRanked ts others ranks → All (Contains ts) others → (t : Term) → Contains others t ↔ Contains ts t
ranked_same ts others ranks w listed t = (All-contains (Contains ts) others t listed, from)
  where
    from : Contains ts t → Contains others t
    from c = contains_at others _ t (w.each c.0 t (slice_get-get_or ts c.0 t c.1 ∙ ap Some c.2))

-- the set of the ends of triples, of which the subjects are listed by their ranks, and of more terms
pub ends_nodes : (g : Graph) (more leads : List Term) (ranks : List ℕ) (n : Nodes) → AreRanked (subjects_of (triples g)) leads ranks → All (Contains (subjects_of (triples g))) leads
    → ((t : Term) → IsTrue (has_term n t) ↔ Contains ((leads ++ objects_of (triples g)) ++ more) t) → n ≡ nodes_of g empty more
ends_nodes g more leads ranks n w listed exact = same_nodes_within n (nodes_of g empty more) (λ t h. (nodes_of_is g empty more t).1 (there t ((exact t).0 h))) (λ t h. (exact t).1 (back t ((nodes_of_is g empty more t).0 h)))
  where
    subject : (t : Term) → Contains (subjects_of (triples g)) t → IsNodeOf g t
    subject t c = let m = map_in (λ (u : Statement). u.subject) (triples g) t c in (m.0, has_listed g m.0 m.1, inl (sym m.2))

    object : (t : Term) → Contains (objects_of (triples g)) t → IsNodeOf g t
    object t c = let m = map_in (λ (u : Statement). u.object) (triples g) t c in (m.0, has_listed g m.0 m.1, inr (sym m.2))

    ends : (t : Term) → Contains leads t ⊎ Contains (objects_of (triples g)) t → IsNodeOf g t
    ends t (inl c) = subject t (All-contains (Contains (subjects_of (triples g))) leads t listed c)
    ends t (inr c) = object t c

    there : (t : Term) → Contains ((leads ++ objects_of (triples g)) ++ more) t → (IsNodeOf g t ⊎ IsNodeOf empty t) ⊎ Contains more t
    there t c = at (Contains-append_cases (leads ++ objects_of (triples g)) more t c)
      where
        at : Contains (leads ++ objects_of (triples g)) t ⊎ Contains more t → (IsNodeOf g t ⊎ IsNodeOf empty t) ⊎ Contains more t
        at (inl d) = inl (inl (ends t (Contains-append_cases leads (objects_of (triples g)) t d)))
        at (inr d) = inr d

    node : (t : Term) (u : Statement) → Contains (triples g) u → (t ≡ u.subject) ⊎ (t ≡ u.object) → Contains (leads ++ objects_of (triples g)) t
    node t u c (inl e) = Contains-append_left leads (objects_of (triples g)) t ((ranked_same (subjects_of (triples g)) leads ranks w listed t).1 (subst (Contains (subjects_of (triples g))) (sym e) (in_map (λ (v : Statement). v.subject) (triples g) u c)))
    node t u c (inr e) = Contains-append_right leads (objects_of (triples g)) t (subst (Contains (objects_of (triples g))) (sym e) (in_map (λ (v : Statement). v.object) (triples g) u c))

    back : (t : Term) → (IsNodeOf g t ⊎ IsNodeOf empty t) ⊎ Contains more t → Contains ((leads ++ objects_of (triples g)) ++ more) t
    back t (inl (inl (u, h, e))) = Contains-append_left (leads ++ objects_of (triples g)) more t (node t u (listed_of_has g u h) e)
    back t (inl (inr (u, h, e))) = absurd (false≢true (sym (has-empty u) ∙ h))
    back t (inr c) = Contains-append_right (leads ++ objects_of (triples g)) more t c

-- the terms that are referred to
pub term_stands : (list : List (Bor Term)) (i : ℕ) (t : Bor Term) → i < length list → t ≡ get_or list i t → slice_get (terms_in list) i ≡ Some t.now
term_stands list i t l e = slice_get-map (λ (u : Bor Term). u.now) list i ∙ ap (option_map (λ (u : Bor Term). u.now)) (slice_get-get_or list i t l ∙ ap Some (sym e))

pub terms_push : (list : List (Bor Term)) (t : Bor Term) → terms_in (list ++ t ∷ []) ≡ terms_in list ++ t.now ∷ []
terms_push list t = map-append (λ (u : Bor Term). u.now) list (t ∷ [])

-- the item that was appended
pub last_stands : {X : Type 0} (xs : List X) (x : X) (i : ℕ) → i ≡ length xs → slice_get (xs ++ x ∷ []) i ≡ Some x
last_stands xs x i e =
    let m = length-append xs (x ∷ []) in
    let l : i < length (xs ++ x ∷ []) = omega (arith, m, e) in
    slice_get-get_or (xs ++ x ∷ []) i x l ∙ ap Some (get_or_push xs x x i (sym e))

-- all places, in whatever order
pub permuted_places : (n : ℕ) (made new : List HeadedPlace) → AreAllPlaces n (places_in made) → IsPermutation made new → ArePlaces n (places_in new)
permuted_places n made new all moved p = (to, from)
  where
    perm : IsPermutation (places_in made) (places_in new)
    perm = IsPermutation-map (λ at. at.place) made new moved

    to : Contains (places_in new) p → p < n
    to c =
        let d = Contains-permutation (places_in new) (places_in made) p (IsPermutation-sym (places_in made) (places_in new) perm) c in
        let l : d.0 < n = let m = d.1 in let k = all.long in omega (arith, m, k) in
        let e : d.0 ≡ p = sym (all.each d.0 l) ∙ (get_or_default (places_in made) d.0 0 p d.1 ∙ d.2) in
        omega (arith, l, e)

    from : p < n → Contains (places_in new) p
    from l =
        let m : p < length (places_in made) = let k = all.long in omega (arith, l, k) in
        Contains-permutation (places_in made) (places_in new) p perm (p, m, get_or_default (places_in made) p p 0 m ∙ all.each p l)

-- the place that stands there is one of the list
pub place_within : (n : ℕ) (headed : List HeadedPlace) (k : ℕ) (d : HeadedPlace) → ArePlaces n (places_in headed) → k < length headed → (get_or headed k d).place < n
place_within n headed k d all l =
    let m : k < length (places_in headed) = let e = length-map headed (λ at. at.place) in omega (arith, l, e) in
    subst (λ p. p < n) (get_or-map (λ at. at.place) headed k d 0 l) ((all (get_or (places_in headed) k 0)).0 (k, m, get_or_default (places_in headed) k (get_or (places_in headed) k 0) 0 m))

-- what was put for each place
pub looked_up : (old new table : List ℕ) → length new ≡ length old → ((k : ℕ) → k < length old → get_or new k 0 ≡ get_or table (get_or old k 0) 0) → new ≡ map (λ p. get_or table p 0) old
looked_up old new table long done = ext_get_or 0 new (map (λ p. get_or table p 0) old) (long ∙ sym (length-map old (λ p. get_or table p 0)))
    (λ k l. let m : k < length old = omega (arith, l, long) in done k m ∙ sym (get_or-map (λ p. get_or table p 0) old k 0 0 m))

-- numbers with that of one term more
pub numbers_more : (n : Nodes) (ts : List Term) (k : ℕ) (t : Term) (numbers : List ℕ) (i : ℕ) → k < length ts → slice_get ts k ≡ Some t → terms_at n numbers ≡ take k ts → slice_get (terms n) i ≡ Some t → terms_at n (numbers ++ i ∷ []) ≡ take (k + 1) ts
numbers_more n ts k t numbers i l here all place = places_more n numbers ts k t i all l (sym (get_or_from_slice_get ts k t t here)) place

-- of the numbers of three lists in a row, those of the one in the middle
module _ (n : Nodes) (numbers : List ℕ) (k m : ℕ) where
  pub middle_terms : (leads objects more : List Term) → terms_at n numbers ≡ (leads ++ objects) ++ more → length leads ≡ k → length objects ≡ m → terms_at n (take m (drop k numbers)) ≡ objects
  middle_terms leads objects more all e f =
      sym (take-map (term_at n) m (drop k numbers))
      ∙ (ap (take m) (sym (drop-map (term_at n) k numbers) ∙ (ap (drop k) (all ∙ append_assoc leads objects more) ∙ drop_at leads (objects ++ more) k e)) ∙ take_at objects more m f)

  pub middle_within : AreNumbers n numbers → AreNumbers n (take m (drop k numbers))
  middle_within within i c =
      let d : Contains (drop k numbers) i = subst (λ xs. Contains xs i) (take-append-drop m (drop k numbers)) (Contains-append_left (take m (drop k numbers)) (drop m (drop k numbers)) i c) in
      within i (subst (λ xs. Contains xs i) (take-append-drop k numbers) (Contains-append_right (take k numbers) (drop k numbers) i d))
