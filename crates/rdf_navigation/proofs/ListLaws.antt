-- The members of a list as a function are those of the list as a relation, and their number is a depth.
use Rattle.std.proofs.Common.{◌≡◌, ◌↔◌, ℕ, zero, suc, ◌+◌, ◌<◌, ◌≤◌, max, ◌⊎◌, inl, inr, Bool, true, false, cond, not, ◌&&◌, IsTrue, IsFalse, List, [], ◌∷◌, map, length, get_or, ◌≢◌, Contains, Option, Some, None, option_map, option_and_then, refl, sym, ap, ◌∙◌, subst, arith}
use Rattle.std.proofs.lemmas.Bool.{false≢true}
use Rattle.std.proofs.lemmas.List.{length-map}
use Rattle.std.proofs.lemmas.List.Kept.{AllPairs-cons}
use Rattle.std.specs.List.{All, AllPairs}
use Rattle.rdf_terms.specs.declared.term.Term.{Term}
use Rattle.rdf_terms.specs.Statement.{Statement}
use Rattle.rdf_terms.specs.Graph.{Graph, triples}
use Rattle.rdf_terms.specs.Members.{InGraph}
use Rattle.rdf_terms.specs.Vocab.Rdf as rdf
use Rattle.rdf_terms.proofs.Bools.{both_left}
use Rattle.rdf_terms.proofs.Orders.{same_term as equal_terms, term_tied}
use Rattle.rdf_terms.proofs.GraphLaws.{listed_of_has}
use Rattle.rdf_terms.proofs.Members.{in_first, in_rest, in_none, in_cases, in_map}
use Rattle.rdf_terms.proofs.Values.{IsListOf-objects}
use Rattle.digraph.specs.Walk.{IsWalk}
use Rattle.digraph.specs.Depth.{deeper, depth_over, depth_in}
use Rattle.digraph.proofs.ShortWalks.{short_walk}
use Rattle.rdf_navigation.specs.Values.{same_term, values, only_of, only_value}
use Rattle.rdf_navigation.specs.Lists.{is_nil, IsListOf, members_by, members_in, members_of}
use Rattle.rdf_navigation.specs.ListTable.{rest_by, rests}

-- the only value of a property is a value of it
pub only_is : (g : Graph) (x p y : Term) → only_value g x p ≡ Some y → InGraph g x p y
only_is g x p y e = (IsListOf-objects g x p y).0 (at (values g x p) e)
  where
    at : (ys : List Term) → only_of ys ≡ Some y → Contains ys y
    at [] h = cc
    at (z ∷ []) h = let same : z ≡ y = cc in subst (λ u. Contains (z ∷ []) u) same (in_first z [])
    at (z ∷ u ∷ us) h = cc

pub nil_is : (s : Graph) (x : Term) → is_nil s x ≡ true → x ≡ rdf.nil
nil_is s x e = equal_terms x rdf.nil (both_left (same_term x rdf.nil) _ (both_left (same_term x rdf.nil && not _) _ e))

module _ (test : Term → Bool) (s : Graph) where
  -- the second is the rest of the first, which isn't nil
  abbrev IsRest : Term → Term → Type 0
  IsRest x r = IsFalse (is_nil s x) × (only_value s x rdf.rest ≡ Some r)

  list_walk : (cs ms : List Term) (x : Term) → IsListOf test s x cs ms → (zs : List Term) × (e : Term) × IsWalk IsRest zs x e × IsTrue (is_nil s e) × (length zs ≡ length cs)
  list_walk [] [] x h = ([], x, refl, h, refl)
  list_walk [] (m ∷ ms) x h = absurd h
  list_walk (c ∷ cs) [] x h = absurd h
  list_walk (c ∷ cs) (m ∷ ms) x h =
      let w = list_walk cs ms h.4.0 h.4.2 in
      (h.4.0 ∷ w.0, w.1, ((h.1, h.4.1), w.2), w.3, ap suc w.4)

  -- each node has one rest, so walks to nil have one length
  walks_same : (zs us : List Term) (x e f : Term) → IsWalk IsRest zs x e → IsWalk IsRest us x f → IsTrue (is_nil s e) → IsTrue (is_nil s f) → length zs ≡ length us
  walks_same [] [] x e f w v n m = refl
  walks_same [] (u ∷ us) x e f w v n m = absurd (false≢true (sym v.0.0 ∙ ap (is_nil s) w ∙ n))
  walks_same (z ∷ zs) [] x e f w v n m = absurd (false≢true (sym w.0.0 ∙ ap (is_nil s) v ∙ m))
  walks_same (z ∷ zs) (u ∷ us) x e f w v n m =
      let both : Some z ≡ Some u = sym w.0.1 ∙ v.0.1 in
      let same : u ≡ z = cc in
      ap suc (walks_same zs us z e f w.1 (subst (λ y. IsWalk IsRest us y f) same v.1) n m)

  -- nil, and all subjects
  abbrev stops : List Term
  stops = rdf.nil ∷ map (λ (t : Statement). t.subject) (triples s)

  all_stops : (zs : List Term) (x e : Term) → IsWalk IsRest zs x e → IsTrue (is_nil s e) → (u : Term) → Contains (x ∷ zs) u → Contains stops u
  all_stops [] x e w n u c = at (in_cases x [] u c)
    where
      at : (x ≡ u) ⊎ Contains [] u → Contains stops u
      at (inl same) = subst (λ y. Contains stops y) (sym (nil_is s e n) ∙ sym w ∙ same) (in_first rdf.nil _)
      at (inr d) = absurd (in_none u d)
  all_stops (z ∷ zs) x e w n u c = at (in_cases x (z ∷ zs) u c) (λ d. all_stops zs z e w.1 n u d)
    where
      t : Statement
      t = record { subject = x; predicate = rdf.rest; object = z }

      at : (x ≡ u) ⊎ Contains (z ∷ zs) u → (Contains (z ∷ zs) u → Contains stops u) → Contains stops u
      at (inl same) more = subst (λ y. Contains stops y) same (in_rest rdf.nil _ x (in_map (λ (v : Statement). v.subject) (triples s) t (listed_of_has s t (only_is s x rdf.rest z w.0.1))))
      at (inr d) more = more d

  -- no list has more cells than the graph has triples
  pub list_short : (cs ms : List Term) (x : Term) → IsListOf test s x cs ms → length cs < length (triples s) + 1
  list_short cs ms x h =
      let w = list_walk cs ms x h in
      let v = short_walk same_term (λ a b e. equal_terms a b e) (λ a. term_tied a) IsRest stops w.0 x w.1 w.2 (all_stops w.0 x w.1 w.2 w.3) in
      let e = walks_same w.0 v.0 x w.1 w.1 w.2 v.1 w.3 w.3 in
      let l = v.2 in
      let f = w.4 in
      let g = length-map (triples s) (λ (t : Statement). t.subject) in
      omega (arith, e, l, f, g)

  -- the lists from a node have one length
  one_length : (cs ms ds ns : List Term) (x : Term) → IsListOf test s x cs ms → IsListOf test s x ds ns → length cs ≡ length ds
  one_length cs ms ds ns x h i =
      let w = list_walk cs ms x h in
      let v = list_walk ds ns x i in
      sym w.4 ∙ walks_same w.0 v.0 x w.1 v.1 w.2 v.2 w.3 v.3 ∙ v.4

  -- from each cell on stands a list that is no longer
  list_from : (k : ℕ) (cs ms : List Term) (x d : Term) → IsListOf test s x cs ms → k < length cs
      → (ds : List Term) × (ns : List Term) × IsListOf test s (get_or cs k d) ds ns × (length ds ≤ length cs)
  list_from k [] ms x d h l = absurd (omega (arith, l))
  list_from k (c ∷ cs) [] x d h l = absurd h
  list_from zero (c ∷ cs) (m ∷ ms) x d h l = (c ∷ cs, m ∷ ms, subst (λ y. IsListOf test s y (c ∷ cs) (m ∷ ms)) h.0 h, omega arith)
  list_from (suc k) (c ∷ cs) (m ∷ ms) x d h l =
      let r = list_from k cs ms h.4.0 d h.4.2 (omega (arith, l)) in
      let n = r.3 in
      (r.0, r.1, r.2, omega (arith, n))

  -- no list repeats a cell
  pub cells_differ : (cs ms : List Term) (x : Term) → IsListOf test s x cs ms → AllPairs (λ a b. a ≢ b) cs
  cells_differ [] ms x h = λ i j d l m. absurd (omega (arith, m))
  cells_differ (c ∷ cs) [] x h = absurd h
  cells_differ (c ∷ cs) (m ∷ ms) x h = AllPairs-cons (λ a b. a ≢ b) c cs apart (cells_differ cs ms h.4.0 h.4.2)
    where
      apart : All (λ b. c ≢ b) cs
      apart k d l e =
          let r = list_from k cs ms h.4.0 d h.4.2 l in
          let n = r.3 in
          let same : length (c ∷ cs) ≡ length r.0 = one_length (c ∷ cs) (m ∷ ms) r.0 r.1 (get_or cs k d) (subst (λ y. IsListOf test s y (c ∷ cs) (m ∷ ms)) (h.0 ∙ e) h) r.2 in
          omega (arith, n, same)

  -- a list of less than k cells is found
  pub list_members : (k : ℕ) (cs ms : List Term) (x : Term) → length cs < k → IsListOf test s x cs ms → members_in test k s x ≡ Some ms
  list_members zero cs ms x l h = absurd (omega (arith, l))
  list_members (suc k) [] [] x l h = ap (λ b. cond b (Some []) (cond (test x) (members_by (λ r. members_in test k s r) (only_value s x rdf.first) (only_value s x rdf.rest)) None)) h
  list_members (suc k) [] (m ∷ ms) x l h = absurd h
  list_members (suc k) (c ∷ cs) [] x l h = absurd h
  list_members (suc k) (c ∷ cs) (m ∷ ms) x l h =
      let e : members_in test (suc k) s x ≡ option_map (λ us. m ∷ us) (members_in test k s h.4.0) = λ i. cond (h.1 i) (Some []) (cond (h.2 i) (members_by (λ r. members_in test k s r) (h.3 i) (h.4.1 i)) None) in
      e ∙ ap (option_map (λ us. m ∷ us)) (list_members k cs ms h.4.0 (omega (arith, l)) h.4.2)

  -- what is found is a list
  pub members_list : (k : ℕ) (x : Term) (ms : List Term) → members_in test k s x ≡ Some ms → (cs : List Term) × IsListOf test s x cs ms
  members_list zero x ms e = absurd (let z : None ≡ Some ms = e in cc)
  members_list (suc k) x ms e = at (is_nil s x) refl (test x) refl (only_value s x rdf.first) refl (only_value s x rdf.rest) refl e (λ r us h. members_list k r us h)
    where
      cell : is_nil s x ≡ false → test x ≡ true → (m : Term) → only_value s x rdf.first ≡ Some m → (r : Term) → only_value s x rdf.rest ≡ Some r
          → (o : Option (List Term)) → members_in test k s r ≡ o → option_map (λ us. m ∷ us) o ≡ Some ms
          → ((us : List Term) → members_in test k s r ≡ Some us → (cs : List Term) × IsListOf test s r cs us) → (cs : List Term) × IsListOf test s x cs ms
      cell n t m f r g None q e more = absurd (let z : None ≡ Some ms = e in cc)
      cell n t m f r g (Some us) q e more =
          let all : m ∷ us ≡ ms = cc in
          let rest = more us q in
          (x ∷ rest.0, subst (λ vs. IsListOf test s x (x ∷ rest.0) vs) all (refl, n, t, f, (r, g, rest.1)))

      at : (b : Bool) → is_nil s x ≡ b → (d : Bool) → test x ≡ d → (f : Option Term) → only_value s x rdf.first ≡ f → (g : Option Term) → only_value s x rdf.rest ≡ g
          → cond b (Some []) (cond d (members_by (λ r. members_in test k s r) f g) None) ≡ Some ms
          → ((r : Term) (us : List Term) → members_in test k s r ≡ Some us → (cs : List Term) × IsListOf test s r cs us) → (cs : List Term) × IsListOf test s x cs ms
      at true n d t f p g q e more = let same : [] ≡ ms = cc in ([], subst (λ vs. IsListOf test s x [] vs) same n)
      at false n false t f p g q e more = absurd (let z : None ≡ Some ms = e in cc)
      at false n true t None p g q e more = absurd (let z : None ≡ Some ms = e in cc)
      at false n true t (Some m) p None q e more = absurd (let z : None ≡ Some ms = e in cc)
      at false n true t (Some m) p (Some r) q e more = cell n t m p r q (members_in test k s r) refl e (more r)

  -- the members of a list, as a function and as a relation
  pub members_is : (x : Term) (ms : List Term) → (members_of test s x ≡ Some ms) ↔ ((cs : List Term) × IsListOf test s x cs ms)
  unfolding members_of
  members_is x ms = (λ e. members_list (length (triples s) + 1) x ms e, λ h. list_members (length (triples s) + 1) h.0 ms x (list_short h.0 ms x h.1) h.1)

  -- the number of the members is the depth along the rests
  pub depth_members : (k : ℕ) (x : Term) → option_map length (members_in test k s x) ≡ depth_in (rests test s) k x
  depth_members zero x = refl
  depth_members (suc k) x = at (is_nil s x) (test x) (only_value s x rdf.first) (only_value s x rdf.rest) (λ r. depth_members k r)
    where
      deep : Term → Option ℕ
      deep r = depth_in (rests test s) k r

      one : (m : Term) (o : Option (List Term)) → option_map length (option_map (λ us. m ∷ us) o) ≡ deeper (option_map length o) (Some 0)
      one m None = refl
      one m (Some us) = let e : suc (length us) ≡ max (suc (length us)) 0 = omega arith in ap (λ n. Some n) e

      at : (b d : Bool) (f g : Option Term) → ((r : Term) → option_map length (members_in test k s r) ≡ depth_in (rests test s) k r)
          → option_map length (cond b (Some []) (cond d (members_by (λ r. members_in test k s r) f g) None)) ≡ option_and_then (λ ys. depth_over (λ y. depth_in (rests test s) k y) ys) (cond b (Some []) (cond d (rest_by f g) None))
      at true d f g more = refl
      at false false f g more = refl
      at false true None g more = refl
      at false true (Some m) None more = refl
      at false true (Some m) (Some r) more = one m (members_in test k s r) ∙ ap (λ o. deeper o (Some 0)) (more r)
