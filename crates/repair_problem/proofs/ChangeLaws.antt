-- Changes by their candidates and pairs of graphs say the same.
use Rattle.std.proofs.Common.{◌≡◌, ◌↔◌, ◌⊎◌, inl, inr, ℕ, zero, suc, ◌+◌, ◌-◌, ◌<◌, ◌≤◌, Bool, true, false, cond, not, ◌&&◌, ◌||◌, IsTrue, List, [], ◌∷◌, length, get_or, Contains, Option, Some, None, slice_get, nat_lt, refl, sym, ap, ◌∙◌, subst, arith, zero-add}
use Rattle.std.specs.Prelude.{filter_map}
use Rattle.std.specs.List.{filter, cons_option, range_with_len}
use Rattle.std.specs.List.Sorted.{IsStrictlyIncreasing}
use Rattle.std.proofs.lemmas.Bool.{false≢true, ltb-true, lt-ltb}
use Rattle.std.proofs.lemmas.List.{length-append}
use Rattle.std.proofs.lemmas.List.Elements.{All-contains, Contains-get_or}
use Rattle.std.proofs.lemmas.List.FromFn.{length-range_with_len, get_or-range_with_len}
use Rattle.std.proofs.lemmas.List.Kept.{IsStrictlyIncreasing-filter}
use Rattle.std.proofs.lemmas.Option.{slice_get_within}
use Rattle.rdf_terms.specs.Statement.{Statement}
use Rattle.rdf_terms.specs.Graph.{Graph, triples, has, edited, without}
use Rattle.rdf_terms.proofs.GraphLaws.{of_list_is, has_at, place_of_has, one_place, same_within, same_graph, has-without, has-edited}
use Rattle.rdf_terms.proofs.Members.{in_none, in_first, in_rest, in_cases, in_filter, filter_in}
use Rattle.repair_problem.specs.Repair.{Within, Explains, Minimal}
use Rattle.repair_problem.specs.Setting.{Setting, IsEdit}
use Rattle.repair_problem.specs.Candidates.{candidates, in_data, deletion_at, addition_at, additions, deletions, edited_by}
use Rattle.repair_problem.proofs.CandidateLaws.{edited_within}
use Rattle.repair_problem.proofs.Pairs.{has-whole}
use Rattle.repair_problem.specs.Changes.{AreCandidates, ChangeExplains, ChangeMinimal, IsChangeOf, ChangesArePairs}

none_is_some : {X : Type 0} (x : X) → None ≡ Some x → ⊥
none_is_some x e = let z : true ≡ false = cc in false≢true (sym z)

pub in_filter_map : {X Y : Type 0} (f : X → Option Y) (xs : List X) (x : X) (y : Y) → Contains xs x → f x ≡ Some y → Contains (filter_map f xs) y
in_filter_map f [] x y c e = absurd (in_none x c)
in_filter_map {Y = Y} f (z ∷ zs) x y c e = at (in_cases z zs x c) (λ d. in_filter_map f zs x y d e) (f z) refl
  where
    at : (z ≡ x) ⊎ Contains zs x → (Contains zs x → Contains (filter_map f zs) y) → (o : Option Y) → f z ≡ o → Contains (cons_option o (filter_map f zs)) y
    at (inl same) more None d = absurd (none_is_some y (sym d ∙ (ap f same ∙ e)))
    at (inl same) more (Some w) d =
        let g : Some w ≡ Some y = sym d ∙ (ap f same ∙ e) in
        let k : w ≡ y = cc in
        subst (λ v. Contains (w ∷ filter_map f zs) v) k (in_first w (filter_map f zs))
    at (inr rest) more None d = more rest
    at (inr rest) more (Some w) d = in_rest w (filter_map f zs) y (more rest)

pub filter_map_in : {X Y : Type 0} (f : X → Option Y) (xs : List X) (y : Y) → Contains (filter_map f xs) y → (x : X) × Contains xs x × (f x ≡ Some y)
filter_map_in f [] y c = absurd (in_none y c)
filter_map_in {X} {Y} f (z ∷ zs) y c = at (f z) refl c (λ d. filter_map_in f zs y d)
  where
    at : (o : Option Y) → f z ≡ o → Contains (cons_option o (filter_map f zs)) y → (Contains (filter_map f zs) y → (x : X) × Contains zs x × (f x ≡ Some y)) → (x : X) × Contains (z ∷ zs) x × (f x ≡ Some y)
    at None d c more = let r = more c in (r.0, in_rest z zs r.0 r.1, r.2)
    at (Some w) d c more = now (in_cases w (filter_map f zs) y c)
      where
        now : (w ≡ y) ⊎ Contains (filter_map f zs) y → (x : X) × Contains (z ∷ zs) x × (f x ≡ Some y)
        now (inl k) = (z, in_first z zs, d ∙ ap Some k)
        now (inr k) = let r = more k in (r.0, in_rest z zs r.0 r.1, r.2)

-- whether the graph has the triple, if there is one
abbrev has_some : Graph → Option Statement → Bool
has_some g None = false
has_some g (Some t) = has g t

or_left : (a b : Bool) → a ≡ true → (a || b) ≡ true
or_left true b e = refl
or_left false b e = absurd (false≢true e)

or_right : (a b : Bool) → b ≡ true → (a || b) ≡ true
or_right true b e = refl
or_right false b e = e

or_split : (a b : Bool) → (a || b) ≡ true → (a ≡ true) ⊎ (b ≡ true)
or_split true b e = inl refl
or_split false b e = inr e

module _ (s : Setting) where
  abbrev count : ℕ
  count = length (triples s.present)

  -- a candidate is a triple of the data or an offer, and not both
  pub kind_of : (t : ℕ) → t < length (candidates s) → ((u : Statement) × (deletion_at s t ≡ Some u)) ⊎ ((u : Statement) × (addition_at s t ≡ Some u))
  kind_of t l = at (in_data s t) refl
    where
      there : (us : List Statement) (i : ℕ) → i < length us → (u : Statement) × (slice_get us i ≡ Some u)
      there [] i m = absurd (omega (arith, m))
      there (u ∷ us) zero m = (u, refl)
      there (u ∷ us) (suc i) m = there us i (omega (arith, m))

      at : (b : Bool) → in_data s t ≡ b → ((u : Statement) × (deletion_at s t ≡ Some u)) ⊎ ((u : Statement) × (addition_at s t ≡ Some u))
      at true e = inl (there (triples s.present) t (ltb-true t count e))
      at false e =
          let low : count ≤ t = not_below t count e in
          let all = length-append (triples s.present) (triples s.offers) in
          let r = there (triples s.offers) (t - count) (omega (arith, l, low, all)) in
          inr (r.0, ap (λ b. cond b None (slice_get (triples s.offers) (t - count))) e ∙ r.1)
        where
          not_below : (a b : ℕ) → nat_lt a b ≡ false → b ≤ a
          not_below a b d = side (split a b)
            where
              split : (a b : ℕ) → (a < b) ⊎ (b ≤ a)
              split a b = grind arith

              side : (a < b) ⊎ (b ≤ a) → b ≤ a
              side (inl m) = absurd (false≢true (sym d ∙ lt-ltb a b m))
              side (inr m) = m

  pub deleted_low : (t : ℕ) (u : Statement) → deletion_at s t ≡ Some u → in_data s t ≡ true
  deleted_low t u e = lt-ltb t count (slice_get_within (triples s.present) t u e)

  no_addition : (t : ℕ) (u : Statement) → deletion_at s t ≡ Some u → addition_at s t ≡ None
  no_addition t u e = ap (λ b. cond b None (slice_get (triples s.offers) (t - count))) (deleted_low t u e)

  pub added_high : (t : ℕ) (u : Statement) → addition_at s t ≡ Some u → (in_data s t ≡ false) × (slice_get (triples s.offers) (t - count) ≡ Some u)
  added_high t u e = at (in_data s t) refl e
    where
      at : (b : Bool) → in_data s t ≡ b → cond b None (slice_get (triples s.offers) (t - count)) ≡ Some u → (in_data s t ≡ false) × (slice_get (triples s.offers) (t - count) ≡ Some u)
      at true d k = absurd (none_is_some u k)
      at false d k = (d, k)

  pub high : (t : ℕ) → in_data s t ≡ false → count ≤ t
  high t d = side (split t count)
    where
      split : (a b : ℕ) → (a < b) ⊎ (b ≤ a)
      split a b = grind arith

      side : (t < count) ⊎ (count ≤ t) → count ≤ t
      side (inl m) = absurd (false≢true (sym d ∙ lt-ltb t count m))
      side (inr m) = m

  no_deletion : (t : ℕ) (u : Statement) → addition_at s t ≡ Some u → (v : Statement) → deletion_at s t ≡ Some v → ⊥
  no_deletion t u e v d = false≢true (sym (added_high t u e).0 ∙ deleted_low t v d)

  -- a triple has one number
  pub one_deletion : (t r : ℕ) (u : Statement) → deletion_at s t ≡ Some u → deletion_at s r ≡ Some u → t ≡ r
  one_deletion t r u e d = one_place s.present u t r e d

  pub one_addition : (t r : ℕ) (u : Statement) → addition_at s t ≡ Some u → addition_at s r ≡ Some u → t ≡ r
  one_addition t r u e d =
      let a = added_high t u e in
      let b = added_high r u d in
      let same = one_place s.offers u (t - count) (r - count) a.1 b.1 in
      let l = high t a.0 in
      let m = high r b.0 in
      omega (arith, same, l, m)

  -- what the additions and deletions of a change have
  pub added_is : (change : List ℕ) (u : Statement) → IsTrue (has (additions s change) u) ↔ ((t : ℕ) × Contains change t × (addition_at s t ≡ Some u))
  added_is change u = (
    λ h. filter_map_in (addition_at s) change u ((of_list_is (filter_map (addition_at s) change) u).0 h),
    λ r. (of_list_is (filter_map (addition_at s) change) u).1 (in_filter_map (addition_at s) change r.0 u r.1 r.2),
  )

  pub deleted_is : (change : List ℕ) (u : Statement) → IsTrue (has (deletions s change) u) ↔ ((t : ℕ) × Contains change t × (deletion_at s t ≡ Some u))
  deleted_is change u = (
    λ h. filter_map_in (deletion_at s) change u ((of_list_is (filter_map (deletion_at s) change) u).0 h),
    λ r. (of_list_is (filter_map (deletion_at s) change) u).1 (in_filter_map (deletion_at s) change r.0 u r.1 r.2),
  )

  pub additions_within : (change : List ℕ) → Within (additions s change) s.offers
  additions_within change u h = let r = (added_is change u).0 h in has_at s.offers u (r.0 - count) (added_high r.0 u r.2).1

  pub deletions_within : (change : List ℕ) → Within (deletions s change) s.present
  deletions_within change u h = let r = (deleted_is change u).0 h in has_at s.present u r.0 r.2

  -- a part of a change has a part of its additions and of its deletions
  fewer_added : (less change : List ℕ) → ((t : ℕ) → Contains less t → Contains change t) → Within (additions s less) (additions s change)
  fewer_added less change f u h = let r = (added_is less u).0 h in (added_is change u).1 (r.0, f r.0 r.1, r.2)

  fewer_deleted : (less change : List ℕ) → ((t : ℕ) → Contains less t → Contains change t) → Within (deletions s less) (deletions s change)
  fewer_deleted less change f u h = let r = (deleted_is less u).0 h in (deleted_is change u).1 (r.0, f r.0 r.1, r.2)

  fewer : (less change : List ℕ) → AreCandidates s less → Within (additions s less) (additions s change) → Within (deletions s less) (deletions s change) → (t : ℕ) → Contains less t → Contains change t
  fewer less change all added deleted t c = at (kind_of t (All-contains (λ r. r < length (candidates s)) less t all c))
    where
      at : ((u : Statement) × (deletion_at s t ≡ Some u)) ⊎ ((u : Statement) × (addition_at s t ≡ Some u)) → Contains change t
      at (inl k) =
          let r = (deleted_is change k.0).0 (deleted k.0 ((deleted_is less k.0).1 (t, c, k.1))) in
          subst (Contains change) (one_deletion r.0 t k.0 r.2 k.1) r.1
      at (inr k) =
          let r = (added_is change k.0).0 (added k.0 ((added_is less k.0).1 (t, c, k.1))) in
          subst (Contains change) (one_addition r.0 t k.0 r.2 k.1) r.1

  -- the change of a pair
  module _ (adds deletes : Graph) (added : Within adds s.offers) (deleted : Within deletes s.present) where
    chosen : ℕ → Bool
    chosen t = has_some adds (addition_at s t) || has_some deletes (deletion_at s t)

    change_of : List ℕ
    change_of = filter chosen (range_with_len 0 (length (candidates s)))

    in_range : (n t : ℕ) → t < n → Contains (range_with_len 0 n) t
    in_range n t l = (t, subst (λ m. t < m) (sym (length-range_with_len 0 n)) l, get_or-range_with_len 0 n t t l ∙ zero-add t)

    range_in : (n t : ℕ) → Contains (range_with_len 0 n) t → t < n
    range_in n t c =
        let l : c.0 < n = subst (λ m. c.0 < m) (length-range_with_len 0 n) c.1 in
        let e : c.0 ≡ t = sym (get_or-range_with_len 0 n c.0 t l ∙ zero-add c.0) ∙ c.2 in
        subst (λ k. k < n) e l

    rises : (n : ℕ) → IsStrictlyIncreasing (range_with_len 0 n)
    rises n k l =
        let m : k + 1 < n = subst (λ i. k + 1 < i) (length-range_with_len 0 n) l in
        let a = get_or-range_with_len 0 n k 0 (omega (arith, m)) in
        let b = get_or-range_with_len 0 n (k + 1) 0 m in
        omega (arith, a, b)

    listed : (t : ℕ) → t < length (candidates s) → chosen t ≡ true → Contains change_of t
    unfolding change_of
    listed t l e = in_filter chosen (range_with_len 0 (length (candidates s))) t (in_range (length (candidates s)) t l) e

    list_in : (t : ℕ) → Contains change_of t → (t < length (candidates s)) × (chosen t ≡ true)
    unfolding change_of
    list_in t c = let r = filter_in chosen (range_with_len 0 (length (candidates s))) t c in (range_in (length (candidates s)) t r.0, r.1)

    of_added : (t : ℕ) (u : Statement) → addition_at s t ≡ Some u → chosen t ≡ true → has adds u ≡ true
    unfolding chosen
    of_added t u e k = at (or_split (has_some adds (addition_at s t)) (has_some deletes (deletion_at s t)) k)
      where
        missing : (o : Option Statement) → deletion_at s t ≡ o → has_some deletes o ≡ true → ⊥
        missing None d h = false≢true h
        missing (Some v) d h = no_deletion t u e v d

        at : (has_some adds (addition_at s t) ≡ true) ⊎ (has_some deletes (deletion_at s t) ≡ true) → has adds u ≡ true
        at (inl h) = subst (λ o. has_some adds o ≡ true) e h
        at (inr h) = absurd (missing (deletion_at s t) refl h)

    of_deleted : (t : ℕ) (u : Statement) → deletion_at s t ≡ Some u → chosen t ≡ true → has deletes u ≡ true
    unfolding chosen
    of_deleted t u e k = at (or_split (has_some adds (addition_at s t)) (has_some deletes (deletion_at s t)) k)
      where
        at : (has_some adds (addition_at s t) ≡ true) ⊎ (has_some deletes (deletion_at s t) ≡ true) → has deletes u ≡ true
        at (inl h) = absurd (false≢true (subst (λ o. has_some adds o ≡ true) (no_addition t u e) h))
        at (inr h) = subst (λ o. has_some deletes o ≡ true) e h

    same_added : additions s change_of ≡ adds
    unfolding chosen
    same_added = same_within (additions s change_of) adds (λ u h. to u ((added_is change_of u).0 h)) from
      where
        to : (u : Statement) → (t : ℕ) × Contains change_of t × (addition_at s t ≡ Some u) → has adds u ≡ true
        to u r = of_added r.0 u r.2 (list_in r.0 r.1).1

        from : (u : Statement) → has adds u ≡ true → has (additions s change_of) u ≡ true
        from u h =
            let place = place_of_has s.offers u (added u h) in
            let i = place.0 in
            let l = slice_get_within (triples s.offers) place.0 u place.1 in
            let all = length-append (triples s.present) (triples s.offers) in
            let back : (count + place.0) - count ≡ place.0 = omega arith in
            let apart : in_data s (count + place.0) ≡ false = above (count + place.0) count (omega arith) in
            let own : addition_at s (count + place.0) ≡ Some u = ap (λ b. cond b None (slice_get (triples s.offers) ((count + place.0) - count))) apart ∙ (ap (slice_get (triples s.offers)) back ∙ place.1) in
            (added_is change_of u).1 (
              count + place.0,
              listed (count + place.0) (omega (arith, l, all)) (or_left (has_some adds (addition_at s (count + place.0))) (has_some deletes (deletion_at s (count + place.0))) (subst (λ o. has_some adds o ≡ true) (sym own) h)),
              own,
            )
          where
            above : (a b : ℕ) → b ≤ a → nat_lt a b ≡ false
            above a b l = side (nat_lt a b) refl
              where
                side : (c : Bool) → nat_lt a b ≡ c → c ≡ false
                side true e = let m = ltb-true a b e in absurd (omega (arith, l, m))
                side false e = refl

    same_deleted : deletions s change_of ≡ deletes
    unfolding chosen
    same_deleted = same_within (deletions s change_of) deletes (λ u h. to u ((deleted_is change_of u).0 h)) from
      where
        to : (u : Statement) → (t : ℕ) × Contains change_of t × (deletion_at s t ≡ Some u) → has deletes u ≡ true
        to u r = of_deleted r.0 u r.2 (list_in r.0 r.1).1

        from : (u : Statement) → has deletes u ≡ true → has (deletions s change_of) u ≡ true
        from u h =
            let place = place_of_has s.present u (deleted u h) in
            let l = slice_get_within (triples s.present) place.0 u place.1 in
            let all = length-append (triples s.present) (triples s.offers) in
            (deleted_is change_of u).1 (
              place.0,
              listed place.0 (omega (arith, l, all)) (or_right (has_some adds (addition_at s place.0)) (has_some deletes (deletion_at s place.0)) (subst (λ o. has_some deletes o ≡ true) (sym place.1) h)),
              place.1,
            )

    change_is : IsChangeOf s adds deletes change_of
    unfolding change_of
    change_is =
        record {
          within = λ k d l. (list_in (get_or change_of k d) (Contains-get_or change_of k d l)).0;
          rises = IsStrictlyIncreasing-filter chosen (range_with_len 0 (length (candidates s))) (rises (length (candidates s)));
          added = same_added;
          deleted = same_deleted;
        }

  -- each edited graph is that of a change
  edit_change : (g : Graph) → IsEdit s g → (change : List ℕ) × AreCandidates s change × (edited_by s change ≡ g)
  edit_change g w = (change_of (without g s.present) (without s.present g) added deleted, k.within, (λ i. edited s.present (k.added i) (k.deleted i)) ∙ same)
    where
      added : Within (without g s.present) s.offers
      added t e = by (has g t) (has s.present t) (has s.offers t) (sym (has-without g s.present t) ∙ e) (λ h. sym (has-whole s.present s.offers t) ∙ w t h)
        where
          by : (g p h : Bool) → (g && not p) ≡ true → (g ≡ true → (p || h) ≡ true) → h ≡ true
          by true true h e f = absurd (false≢true e)
          by true false h e f = f refl
          by false p h e f = absurd (false≢true e)

      deleted : Within (without s.present g) s.present
      deleted t e = by (has s.present t) (has g t) (sym (has-without s.present g t) ∙ e)
        where
          by : (p g : Bool) → (p && not g) ≡ true → p ≡ true
          by true g e = refl
          by false g e = absurd (false≢true e)

      k : IsChangeOf s (without g s.present) (without s.present g) (change_of (without g s.present) (without s.present g) added deleted)
      k = change_is (without g s.present) (without s.present g) added deleted

      same : edited s.present (without g s.present) (without s.present g) ≡ g
      same =
          same_graph _ _ (λ t. has-edited s.present (without g s.present) (without s.present g) t
          ∙ ((λ i. (has s.present t && not (has-without s.present g t i)) || has-without g s.present t i) ∙ by (has s.present t) (has g t)))
        where
          by : (p g : Bool) → ((p && not (p && not g)) || (g && not p)) ≡ g
          by true true = refl
          by true false = refl
          by false true = refl
          by false false = refl

  pub edit_of : (change : List ℕ) (g : Graph) → g ≡ edited_by s change → IsEdit s g
  edit_of change g e = subst (IsEdit s) (sym e) (edited_within s (additions s change) (deletions s change) (additions_within change))

  change_edit : (g : Graph) → (change : List ℕ) × AreCandidates s change × (edited_by s change ≡ g) → IsEdit s g
  change_edit g r = edit_of r.0 g (sym r.2)

  module _ (C : Graph → Type 0) where
    pair_explains : (change : List ℕ) → ChangeExplains C s change → Explains C s.present s.offers (additions s change) (deletions s change)
    pair_explains change e = record { added = additions_within change; deleted = deletions_within change; conforms = e.conforms }

    change_explains : (change : List ℕ) → AreCandidates s change → Explains C s.present s.offers (additions s change) (deletions s change) → ChangeExplains C s change
    change_explains change all e = record { within = all; conforms = e.conforms }

    -- the change of a pair that explains
    of_pair : (adds deletes : Graph) → Explains C s.present s.offers adds deletes → (change : List ℕ) × IsChangeOf s adds deletes change × ChangeExplains C s change
    of_pair adds deletes e =
        let k = change_is adds deletes e.added e.deleted in
        (change_of adds deletes e.added e.deleted, k, record { within = k.within; conforms = subst C (λ i. edited s.present (sym k.added i) (sym k.deleted i)) e.conforms })

    pair_minimal : (change : List ℕ) → AreCandidates s change → ChangeMinimal C s change → Minimal C s.present s.offers (additions s change) (deletions s change)
    pair_minimal change all m =
        record {
          explains = pair_explains change m.explains;
          least = λ adds deletes below e.
              let r = of_pair adds deletes e in
              let added : additions s r.0 ≡ adds = r.1.added in
              let deleted : deletions s r.0 ≡ deletes = r.1.deleted in
              m.least r.0
              (record {
                within = fewer r.0 change r.1.within (subst (λ g. Within g (additions s change)) (sym added) below.added) (subst (λ g. Within g (deletions s change)) (sym deleted) below.deleted);
                differs = λ back. below.differs (
                  same_within adds (additions s change) below.added (subst (λ g. Within (additions s change) g) added (fewer_added change r.0 back)),
                  same_within deletes (deletions s change) below.deleted (subst (λ g. Within (deletions s change) g) deleted (fewer_deleted change r.0 back)),
                );
              })
              r.2;
        }

    change_minimal : (change : List ℕ) → AreCandidates s change → Minimal C s.present s.offers (additions s change) (deletions s change) → ChangeMinimal C s change
    change_minimal change all m =
        record {
          explains = change_explains change all m.explains;
          least = λ less below e.
              m.least (additions s less) (deletions s less)
              (record {
                added = fewer_added less change below.within;
                deleted = fewer_deleted less change below.within;
                differs = λ same. below.differs (fewer change less all
                    (subst (λ g. Within g (additions s less)) same.0 (λ u h. h)) (subst (λ g. Within g (deletions s less)) same.1 (λ u h. h)));
              })
              (pair_explains less e);
        }

    pub changes_pairs : ChangesArePairs C s
    changes_pairs =
        record {
          change = λ adds deletes added deleted. (change_of adds deletes added deleted, change_is adds deletes added deleted);
          edits = λ g. (edit_change g, change_edit g);
          explains = λ change all. (pair_explains change, change_explains change all);
          minimal = λ change all. (pair_minimal change all, change_minimal change all);
          none = (λ never adds deletes e. let r = of_pair adds deletes e in never r.0 r.2, λ never change e. never (additions s change) (deletions s change) (pair_explains change e));
        }
