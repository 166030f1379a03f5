-- The pair of a model: its changed candidates explain, and it is below the pair before.
use Rattle.std.proofs.Common.{◌≡◌, ◌≢◌, ◌⊎◌, inl, inr, ℕ, zero, suc, ◌+◌, ◌<◌, ◌≤◌, Bool, true, false, not, ◌&&◌, ◌||◌, cond, nat_lt, IsTrue, List, [], ◌∷◌, ◌++◌, map, length, get_or, Contains, Some, slice_get, All, refl, sym, ap, ◌∙◌, subst, arith}
use Rattle.std.specs.List.{list_any, filter}
use Rattle.std.proofs.lemmas.Bool.{ltb-true}
use Rattle.std.proofs.lemmas.Option.{slice_get-get_or, slice_get_within, get_or_from_slice_get}
use Rattle.std.proofs.lemmas.List.Elements.{All-contains}
use Rattle.rdf_terms.specs.Statement.{Statement}
use Rattle.rdf_terms.specs.Graph.{Graph, has as has_triple, edited}
use Rattle.rdf_terms.proofs.GraphLaws.{same_graph}
use Rattle.rdf_terms.proofs.Members.{in_none, in_first, in_rest, in_cases, in_map, map_in, in_filter, filter_in}
use Rattle.shapes_graph.specs.Conformance.{Conforms}
use Rattle.clause_store.specs.declared.lit.Lit.{Lit}
use Rattle.clause_store.specs.Clauses.{has, opposite, mentions, is_clause, is_within}
use Rattle.clause_store.proofs.Sets.{never, true_or_false, and_left, and_right, not_true}
use Rattle.sat_core.specs.Solving.{Solving, assigned, IsModel}
use Rattle.repair_problem.specs.declared.atom.Atom.{Atom}
use Rattle.repair_problem.specs.declared.atom.Atom.TheVariants.{Triple}
use Rattle.repair_problem.specs.declared.atom.Literal.{Literal}
use Rattle.repair_problem.specs.Setting.{Setting}
use Rattle.repair_problem.specs.Candidates.{candidates, in_data, additions, deletions, edited_by}
use Rattle.repair_problem.specs.Changes.{AreCandidates, ChangeExplains, ChangeBelow}
use Rattle.repair_problem.proofs.ChangeLaws.{added_is, deleted_is}
use Rattle.count_encode.specs.PartTruth.{signed}
use Rattle.atom_parts.specs.PartLiterals.{In}
use Rattle.premise_rules.specs.Documents.{IsLast, IsNextPair}
use Rattle.atom_numbers.specs.Numbers.{literal_of, clause_of, AreApart, Stands}
use Rattle.atom_numbers.proofs.Clauses.{below_of, has_in, one_number}
use Rattle.certificates.proofs.Sound.{some_is, none_some}
use Rattle.clause_ground.specs.declared.premise.Premise.{Premise}
use Rattle.clause_ground.specs.Premises.{rules_of, clauses_of}
use Rattle.clause_ground.specs.Needed.{clause_in, AreNeeded}
use Rattle.clause_ground.specs.Models.{lit_value, AreTrue, changed, AreOfExplanations}
use Rattle.clause_ground.proofs.Changed.{Turned, turned_back, turned_there}
use Rattle.clause_ground.proofs.Finished.{literals_are, rule_premise}
use Rattle.clause_ground.proofs.Working.{get_in, in_place}
use Rattle.shrink_pair.specs.declared.candidates.Candidate.{Candidate}
use Rattle.shrink_pair.specs.Sessions.{numbers, unchanged_lits, Rises, IsNumbered, State, is_changed, changed_of, awaited, first_awaited, AreAssigned, IsSession, with_pair}
use Rattle.shrink_pair.proofs.Listed.{at_in, place_of}
use Rattle.shrink_pair.proofs.Premised.{one_candidate}
use Rattle.shrink_pair.proofs.Values.{value_in, not_both, true_value, or_opposite, clauses_true, known_assigned, clause_true}

pub contains_in : {X : Type 0} (xs : List X) (x : X) → Contains xs x → In xs x
contains_in xs x h = let i = place_of xs x h in get_in xs i.0 x i.1

pub in_contains : {X : Type 0} (xs : List X) (x : X) → In xs x → Contains xs x
in_contains xs x h = let i = in_place xs x h in at_in xs i.0 x i.2

-- changes with the same candidates edit the same graph
same_bool : (a b : Bool) → (a ≡ true → b ≡ true) → (b ≡ true → a ≡ true) → a ≡ b
same_bool true b f g = sym (f refl)
same_bool false true f g = g refl
same_bool false false f g = refl

edited_same : (s : Setting) (p q : List ℕ) → ((t : ℕ) → Contains p t → Contains q t) → ((t : ℕ) → Contains q t → Contains p t) → edited_by s p ≡ edited_by s q
edited_same s p q f g =
    let a : additions s p ≡ additions s q = same_graph (additions s p) (additions s q) (λ u. same_bool (has_triple (additions s p) u) (has_triple (additions s q) u) (added u p q f) (added u q p g)) in
    let d : deletions s p ≡ deletions s q = same_graph (deletions s p) (deletions s q) (λ u. same_bool (has_triple (deletions s p) u) (has_triple (deletions s q) u) (deleted u p q f) (deleted u q p g)) in
    λ i. edited s.present (a i) (d i)
  where
    added : (u : Statement) (p q : List ℕ) → ((t : ℕ) → Contains p t → Contains q t) → has_triple (additions s p) u ≡ true → has_triple (additions s q) u ≡ true
    added u p q f h = let r = (added_is s p u).0 h in (added_is s q u).1 (r.0, f r.0 r.1, r.2)

    deleted : (u : Statement) (p q : List ℕ) → ((t : ℕ) → Contains p t → Contains q t) → has_triple (deletions s p) u ≡ true → has_triple (deletions s q) u ≡ true
    deleted u p q f h = let r = (deleted_is s p u).0 h in (deleted_is s q u).1 (r.0, f r.0 r.1, r.2)

filter_le : (p : Candidate → Bool) (cs : List Candidate) → length (filter p cs) ≤ length cs
filter_le p [] = omega arith
filter_le p (c ∷ cs) = go (p c) (filter_le p cs)
  where
    go : (b : Bool) → length (filter p cs) ≤ length cs → length (cond b (c ∷ filter p cs) (filter p cs)) ≤ suc (length cs)
    go true h = omega (arith, h)
    go false h = omega (arith, h)

filter_less : (p : Candidate → Bool) (cs : List Candidate) (c : Candidate) → Contains cs c → p c ≡ false → length (filter p cs) < length cs
filter_less p [] c h e = absurd (in_none c h)
filter_less p (d ∷ cs) c h e = go (p d) refl (in_cases d cs c h) (λ k. filter_less p cs c k e)
  where
    go : (b : Bool) → p d ≡ b → (d ≡ c) ⊎ Contains cs c → (Contains cs c → length (filter p cs) < length cs) → length (cond b (d ∷ filter p cs) (filter p cs)) < suc (length cs)
    go true f (inl g) on = never f (ap p g ∙ e)
    go true f (inr k) on = let r = on k in omega (arith, r)
    go false f k on = let r = filter_le p cs in omega (arith, r)

signed_not : (a b : Bool) → signed (not a) b ≡ true → signed a b ≡ false
signed_not true b h = not_true b h
signed_not false b h = ap not h

one_last : (chain : List (List ℕ)) (p q : List ℕ) → IsLast chain p → IsLast chain q → p ≡ q
one_last [] p q f g = absurd f
one_last (r ∷ []) p q f g = sym f ∙ g
one_last (r ∷ s ∷ rs) p q f g = one_last (s ∷ rs) p q f g

module _ (s : Setting) (ats : List Atom) (ps : List Premise) (apart : AreApart ats) (needed : AreNeeded s ps ats) where
  literal_in : (c : Candidate) → IsNumbered s ats c → (d : List Lit) → is_within (length ats) d ≡ true → Stands (clause_of ats d) (Triple c.number) → (l : Lit) × Contains d l × (l.var ≡ c.unchanged.var)
  literal_in c h [] w k = absurd k
  literal_in c h (l ∷ d) w (inl g) =
      let lt : l.var < length ats = below_of (length ats) (l ∷ d) w l (in_first l d) in
      let own : get_or ats c.unchanged.var (Triple 0) ≡ Triple c.number = get_or_from_slice_get ats c.unchanged.var (Triple c.number) (Triple 0) h.atom in
      (l, in_first l d, one_number ats apart l.var c.unchanged.var lt (slice_get_within ats c.unchanged.var (Triple c.number) h.atom) (g ∙ sym own))
  literal_in c h (l ∷ d) w (inr k) =
      let r = literal_in c h d (and_right (nat_lt l.var (length ats)) (is_within (length ats) d) w) k in
      (r.0, in_rest l d r.0 r.1, r.2)

  -- the atom of such a candidate stands in a clause of the problem
  pub in_clause : (c : Candidate) → IsNumbered s ats c → (d : List Lit) × Contains (clauses_of ps) d × ((l : Lit) × Contains d l × (l.var ≡ c.unchanged.var))
  in_clause c h =
      let o = (needed.occur (Triple c.number)).0 (get_in ats c.unchanged.var (Triple c.number) h.atom) in
      let p = rule_premise ps o.0 o.1 in
      let n = needed.numbered p.0 p.1 in
      let e : o.2.literals ≡ clause_of ats p.0.lits = literals_are (sym o.2.here ∙ (ap (clause_in s) (sym p.2) ∙ n.0)) in
      (p.0.lits, in_map (λ (x : Premise). x.lits) ps p.0 (in_contains ps p.0 p.1), literal_in c h p.0.lits n.1 (subst (λ ls. Stands ls (Triple c.number)) e o.2.stands))

  module _ (t : State) (h : IsSession s ats ps t) (sv : Solving) (same : sv.clauses ≡ t.clauses) (model : IsModel sv) where
    abbrev trail : List Lit
    trail = assigned sv

    abbrev v : ℕ → Bool
    v = value_in trail

    abbrev pair : List ℕ
    pair = numbers (changed_of trail t.changeable)

    there : (c : List Lit) → Contains t.clauses c → Contains sv.clauses c
    there c k = subst (λ cs. Contains cs c) (sym same) k

    candidate_assigned : (c : Candidate) → IsNumbered s ats c → mentions trail c.unchanged.var ≡ true
    candidate_assigned c k =
        let r = in_clause c k in
        subst (λ n. mentions trail n ≡ true) r.2.2 (known_assigned sv model r.0 r.2.0 (there r.0 (h.grounded r.0 r.1)) r.2.1)

    pub changeable_assigned : AreAssigned trail t.changeable
    changeable_assigned c k = candidate_assigned c (h.numbered c k)

    truth : AreTrue v (clauses_of ps)
    truth c k = clauses_true sv model c (there c (h.grounded c (in_contains (clauses_of ps) c k)))

    -- a changed candidate among the changeable, and its value
    of_pair : (n : ℕ) → Contains pair n → (c : Candidate) × Contains t.changeable c × (is_changed trail c ≡ true) × (c.number ≡ n)
    of_pair n k =
        let r = map_in (λ (x : Candidate). x.number) (changed_of trail t.changeable) n k in
        let f = filter_in (is_changed trail) t.changeable r.0 r.1 in
        (r.0, f.0, f.1, r.2)

    to_pair : (c : Candidate) → Contains t.changeable c → is_changed trail c ≡ true → Contains pair c.number
    to_pair c k e = in_map (λ (x : Candidate). x.number) (changed_of trail t.changeable) c (in_filter (is_changed trail) t.changeable c k e)

    pair_changed : (n : ℕ) → Contains pair n → Contains (changed s v ats) n
    pair_changed n k =
        let r = of_pair n k in
        let c = r.0 in
        let num = h.numbered c r.1 in
        let e : signed (not c.unchanged.positive) (v c.unchanged.var) ≡ true = true_value trail model.once (opposite c.unchanged) r.2 in
        let f : signed (in_data s c.number) (v c.unchanged.var) ≡ false = ap (λ b. signed b (v c.unchanged.var)) (sym num.sign) ∙ signed_not c.unchanged.positive (v c.unchanged.var) e in
        let z : c.unchanged.var ≡ 0 + c.unchanged.var = omega arith in
        subst (Contains (changed s v ats)) r.3 (turned_there s v 0 ats c.number c.unchanged.var num.atom (subst (λ i. signed (in_data s c.number) (v i) ≡ false) z f))

    -- one of the candidates whose value isn't as in the data is changed
    value_false : (c : Candidate) → IsNumbered s ats c → signed (in_data s c.number) (v c.unchanged.var) ≡ false → Contains pair c.number
    value_false c num e = side (h.settled c num)
      where
        low : lit_value v c.unchanged ≡ false
        low = ap (λ b. signed b (v c.unchanged.var)) num.sign ∙ e

        turned : has trail (opposite c.unchanged) ≡ true
        turned = at (or_opposite trail model.once c.unchanged (candidate_assigned c num))
          where
            at : (has trail c.unchanged ≡ true) ⊎ (has trail (opposite c.unchanged) ≡ true) → has trail (opposite c.unchanged) ≡ true
            at (inl g) = never (true_value trail model.once c.unchanged g) low
            at (inr g) = g

        side : Contains (numbers t.changeable) c.number ⊎ Contains t.clauses (c.unchanged ∷ []) → Contains pair c.number
        side (inl k) =
            let d = map_in (λ (x : Candidate). x.number) t.changeable c.number k in
            let l = one_candidate s ats apart d.0 c (h.numbered d.0 d.1) num d.2 in
            subst (Contains pair) d.2 (to_pair d.0 d.1 (subst (λ x. has trail (opposite x) ≡ true) (sym l) turned))
        side (inr k) = never (clauses_true sv model (c.unchanged ∷ []) (there (c.unchanged ∷ []) k)) (none (lit_value v c.unchanged) low)
          where
            none : (b : Bool) → b ≡ false → (b || false) ≡ false
            none true g = g
            none false g = g

    module _ (facts : AreOfExplanations s (clauses_of ps) ats) where
      abbrev change : List ℕ
      change = changed s v ats

      explains : ChangeExplains (Conforms s.shapes) s change
      explains = facts.explains v truth

      changed_pair : (n : ℕ) → Contains change n → Contains pair n
      changed_pair n k =
          let r = turned_back s v 0 ats n k in
          let z : 0 + r.0 ≡ r.0 = omega arith in
          let below : n < length (candidates s) = All-contains (λ m. m < length (candidates s)) change n explains.within k in
          value_false (record { number = n; unchanged = record { var = r.0; positive = in_data s n } }) (record { atom = r.1; sign = refl; below = below }) (subst (λ i. signed (in_data s n) (v i) ≡ false) z r.2)

      pub pair_explains : ChangeExplains (Conforms s.shapes) s pair
      pair_explains =
          record {
            within = candidates_within;
            conforms = subst (Conforms s.shapes) (edited_same s change pair changed_pair pair_changed) explains.conforms;
          }
        where
          candidates_within : AreCandidates s pair
          candidates_within i d lt =
              let n = get_or pair i d in
              let r = of_pair n (i, lt, get_or_from_slice_get pair i n n (slice_get-get_or pair i d lt)) in
              subst (λ m. m < length (candidates s)) r.3 (h.numbered r.0 r.1).below

    -- some candidate of the pair before is as in the data
    pub one_left : 0 < t.pairs → (c : Candidate) × Contains t.changeable c × (is_changed trail c ≡ false)
    one_left lt =
        let r = clause_true sv model (unchanged_lits t.changeable) (there (unchanged_lits t.changeable) (h.undone lt)) in
        let c = map_in (λ (x : Candidate). x.unchanged) t.changeable r.0 (has_in (unchanged_lits t.changeable) r.0 r.1) in
        (c.0, c.1, at c.0 (subst (λ l. has trail l ≡ true) (sym c.2) r.2) (true_or_false (is_changed trail c.0)))
      where
        at : (c : Candidate) → has trail c.unchanged ≡ true → (is_changed trail c ≡ true) ⊎ (is_changed trail c ≡ false) → is_changed trail c ≡ false
        at c k (inl e) = absurd (not_both trail model.once c.unchanged k e)
        at c k (inr e) = e

    -- the candidates that are left aren't in the pair
    pub left_outside : (c : Candidate) → Contains t.changeable c → is_changed trail c ≡ false → ¬ (Contains pair c.number)
    left_outside c k e g =
        let r = of_pair c.number g in
        let l = one_candidate s ats apart r.0 c (h.numbered r.0 r.1) (h.numbered c k) r.3 in
        never (subst (λ x. has trail (opposite x) ≡ true) l r.2) e

    pub pair_below : (before : List ℕ) → IsLast h.chain before → ChangeBelow pair before
    pair_below before last = at (nat_lt 0 t.pairs) refl
      where
        at : (b : Bool) → nat_lt 0 t.pairs ≡ b → ChangeBelow pair before
        at true e =
            let lt = ltb-true 0 t.pairs e in
            let is : before ≡ numbers t.changeable = one_last h.chain before (numbers t.changeable) last (h.last lt) in
            let c = one_left lt in
            record {
              within = λ n k. let r = of_pair n k in subst (λ x. Contains x n) (sym is) (subst (Contains (numbers t.changeable)) r.3 (in_map (λ (x : Candidate). x.number) t.changeable r.0 r.1));
              differs = λ all. left_outside c.0 c.1 c.2 (all c.0.number (subst (λ x. Contains x c.0.number) (sym is) (in_map (λ (x : Candidate). x.number) t.changeable c.0 c.1)));
            }
        at false e = absurd (none h.chain (h.count ∙ zero_is t.pairs e) last)
          where
            zero_is : (n : ℕ) → nat_lt 0 n ≡ false → n ≡ 0
            zero_is zero g = refl
            zero_is (suc n) g = absurd (grind (arith, g))

            none : (chain : List (List ℕ)) → length chain ≡ 0 → IsLast chain before → ⊥
            none [] g k = k
            none (p ∷ chain) g k = absurd (omega (arith, g))

    pub pair_smaller : awaited (with_pair t (changed_of trail t.changeable)) < awaited t
    pair_smaller = at t.pairs (λ lt. one_left lt)
      where
        at : (n : ℕ) → (0 < n → (c : Candidate) × Contains t.changeable c × (is_changed trail c ≡ false)) → 0 + length (changed_of trail t.changeable) < first_awaited n + length t.changeable
        at zero f = let r = filter_le (is_changed trail) t.changeable in omega (arith, r)
        at (suc n) f = let c = f (omega arith) in let r = filter_less (is_changed trail) t.changeable c.0 c.1 c.2 in omega (arith, r)
