-- A clause that is fresh over clauses in numbers is fresh over them as clauses of atoms.
use Rattle.std.proofs.Common.{◌≡◌, ◌≢◌, ◌⊎◌, inl, inr, ℕ, zero, suc, ◌<◌, Bool, true, false, not, ◌&&◌, ◌||◌, nat_eq, nat_lt, List, [], ◌∷◌, map, length, get_or, cond, Contains, Some, slice_get, refl, sym, ap, ◌∙◌, subst, eqb-true, eq-eqb, arith}
use Rattle.std.specs.List.{filter, list_all}
use Rattle.std.proofs.lemmas.Bool.{ltb-true, lt-ltb}
use Rattle.rdf_terms.proofs.Members.{in_none, in_first, in_rest, in_cases, in_map, map_in, in_filter, filter_in}
use Rattle.clause_store.specs.declared.lit.Lit.{Lit}
use Rattle.clause_store.specs.Clauses.{has, opposite, lit_eq, sign_eq, mentions, is_clause, is_within, are_within}
use Rattle.clause_store.proofs.Sets.{itself, same, other_signs, never, and_left, and_right, or_first, or_second, not_true, true_or_false, within_get}
use Rattle.sat_core.specs.Assignments.{is_false, IsUnit, IsAtRest, IsFresh}
use Rattle.repair_problem.specs.declared.atom.Atom.{Atom}
use Rattle.repair_problem.specs.declared.atom.Literal.{Literal}
use Rattle.count_encode.specs.PartTruth.{opposite as negated}
use Rattle.premise_rules.specs.Documents.{IsAssignment, IsFalse, IsFreshStep}
use Rattle.premise_rules.specs.Documents.{IsUnit as IsUnitOver}
use Rattle.atom_numbers.specs.Numbers.{literal_of, clause_of, AreApart}
use Rattle.atom_numbers.proofs.Clauses.{Below, below_of, has_in, in_has, lit_same, one_lit, one_number, map_at, mention_in, unmentioned}
use Rattle.certificates.proofs.Sound.{some_is, none_some}
use Rattle.shrink_pair.proofs.Listed.{place_of, at_in}

-- a variable of a clause stands at one place
one_place : (c : List Lit) → is_clause c ≡ true → (i j : ℕ) (a b : Lit) → slice_get c i ≡ Some a → slice_get c j ≡ Some b → a.var ≡ b.var → i ≡ j
one_place [] h i j a b e f v = absurd (none_some e)
one_place (l ∷ c) h zero zero a b e f v = refl
one_place (l ∷ c) h zero (suc j) a b e f v = absurd (unmentioned c l.var b (not_true (mentions c l.var) (and_left (not (mentions c l.var)) (is_clause c) h)) (at_in c j b f) (sym v ∙ sym (ap (λ (x : Lit). x.var) (some_is e))))
one_place (l ∷ c) h (suc i) zero a b e f v = absurd (unmentioned c l.var a (not_true (mentions c l.var) (and_left (not (mentions c l.var)) (is_clause c) h)) (at_in c i a e) (v ∙ sym (ap (λ (x : Lit). x.var) (some_is f))))
one_place (l ∷ c) h (suc i) (suc j) a b e f v = ap suc (one_place c (and_right (not (mentions c l.var)) (is_clause c) h) i j a b e f v)

in_mention : (c : List Lit) (l : Lit) → Contains c l → mentions c l.var ≡ true
in_mention [] l h = absurd (in_none l h)
in_mention (m ∷ c) l h = split (in_cases m c l h) (in_mention c l)
  where
    split : (m ≡ l) ⊎ Contains c l → (Contains c l → mentions c l.var ≡ true) → (nat_eq m.var l.var || mentions c l.var) ≡ true
    split (inl e) on = or_first (nat_eq m.var l.var) (mentions c l.var) (eq-eqb m.var l.var (ap (λ (x : Lit). x.var) e))
    split (inr k) on = or_second (nat_eq m.var l.var) (mentions c l.var) (on k)

all_from : (p : Lit → Bool) (c : List Lit) → ((l : Lit) → Contains c l → p l ≡ true) → list_all p c ≡ true
all_from p [] f = refl
all_from p (l ∷ c) f = both (p l) (list_all p c) (f l (in_first l c)) (all_from p c (λ m k. f m (in_rest l c m k)))
  where
    both : (a b : Bool) → a ≡ true → b ≡ true → (a && b) ≡ true
    both true b e g = g
    both false b e g = e

-- of one variable, it is the same literal or its opposite
turned_sign : (q m : Lit) → q.var ≡ m.var → lit_eq q m ≡ false → q ≡ opposite m
turned_sign q m v h = lit_same q (opposite m) v (signs q.positive m.positive (right (nat_eq q.var m.var) (sign_eq q.positive m.positive) (eq-eqb q.var m.var v) h))
  where
    right : (a b : Bool) → a ≡ true → (a && b) ≡ false → b ≡ false
    right true b e g = g
    right false b e g = absurd (Rattle.std.proofs.lemmas.Bool.false≢true e)

    signs : (a b : Bool) → sign_eq a b ≡ false → a ≡ not b
    signs a b g = other_signs b a (turn a b g) ∙ refl
      where
        turn : (a b : Bool) → sign_eq a b ≡ false → sign_eq b a ≡ false
        turn true true g = g
        turn true false g = g
        turn false true g = g
        turn false false g = g

module _ (n : ℕ) (p : List Lit) where
  -- the literals of the variables below n
  abbrev low : List Lit
  low = filter (λ (l : Lit). nat_lt l.var n) p

  low_in : (l : Lit) → l.var < n → has p l ≡ true → Contains low l
  low_in l lt h = in_filter (λ (m : Lit). nat_lt m.var n) p l (has_in p l h) (lt-ltb l.var n lt)

  in_low : (l : Lit) → Contains low l → (l.var < n) × (has p l ≡ true)
  in_low l h = let r = filter_in (λ (m : Lit). nat_lt m.var n) p l h in (ltb-true l.var n r.1, in_has p l r.0)

low_clause : (n : ℕ) (p : List Lit) → is_clause p ≡ true → is_clause (low n p) ≡ true
low_clause n [] h = refl
low_clause n (l ∷ p) h = go (nat_lt l.var n) (low_clause n p (and_right (not (mentions p l.var)) (is_clause p) h))
  where
    out : mentions p l.var ≡ false
    out = not_true (mentions p l.var) (and_left (not (mentions p l.var)) (is_clause p) h)

    none : mentions (low n p) l.var ≡ false
    none = at (mentions (low n p) l.var) refl
      where
        at : (b : Bool) → mentions (low n p) l.var ≡ b → b ≡ false
        at true e = let r = mention_in (low n p) l.var e in absurd (unmentioned p l.var r.0 out (filter_in (λ (m : Lit). nat_lt m.var n) p r.0 r.1).0 r.2)
        at false e = refl

    go : (b : Bool) → is_clause (low n p) ≡ true → is_clause (cond b (l ∷ low n p) (low n p)) ≡ true
    go true r = (λ i. not (none i) && is_clause (low n p)) ∙ r
    go false r = r

module _ (ats : List Atom) (apart : AreApart ats) (cs : List (List Lit)) (within : are_within (length ats) cs ≡ true) where
  abbrev n : ℕ
  n = length ats

  below_at : (i : ℕ) (b : List Lit) → slice_get cs i ≡ Some b → Below n b
  below_at i b e = below_of n b (within_get n cs i b within e)

  module _ (p : List Lit) (once : is_clause p ≡ true) where
    abbrev trail : List Literal
    trail = clause_of ats (low n p)

    there : (l : Lit) → l.var < n → has p l ≡ true → Contains trail (literal_of ats l)
    there l lt h = in_map (literal_of ats) (low n p) l (low_in n p l lt h)

    back : (l : Lit) → l.var < n → Contains trail (literal_of ats l) → has p l ≡ true
    back l lt h =
        let r = map_in (literal_of ats) (low n p) (literal_of ats l) h in
        let k = in_low n p r.0 r.1 in
        subst (λ m. has p m ≡ true) (one_lit ats apart r.0 l k.0 lt r.2) k.1

    assignment : IsAssignment trail
    assignment i j l m e f g =
        let a = map_at (literal_of ats) (low n p) i l e in
        let b = map_at (literal_of ats) (low n p) j m f in
        let ka = in_low n p a.0 (at_in (low n p) i a.0 a.1) in
        let kb = in_low n p b.0 (at_in (low n p) j b.0 b.1) in
        let v : a.0.var ≡ b.0.var = one_number ats apart a.0.var b.0.var ka.0 kb.0 (ap (λ (x : Literal). x.atom) a.2 ∙ (g ∙ sym (ap (λ (x : Literal). x.atom) b.2))) in
        one_place (low n p) (low_clause n p once) i j a.0 b.0 a.1 b.1 v

    false_back : (e : List Lit) → Below n e → IsFalse trail (clause_of ats e) → is_false p e ≡ true
    false_back e below h = all_from (λ l. has p (opposite l)) e (λ l k. back (opposite l) (below l k) (h (literal_of ats l) (in_map (literal_of ats) e l k)))

    unit_back : (e : List Lit) (l : Literal) → Below n e → IsUnitOver trail (clause_of ats e) l → (m : Lit) × IsUnit p e m
    unit_back e l below u =
        let r = map_in (literal_of ats) e l u.own in (
          r.0,
          record {
            here = in_has e r.0 r.1;
            free = free r.0 r.1 r.2 (true_or_false (mentions p r.0.var));
            others = λ m h ne. other r.0 r.1 r.2 m (has_in e m h) ne (u.others (literal_of ats m) (in_map (literal_of ats) e m (has_in e m h)));
          },
        )
      where
        free : (m : Lit) → Contains e m → literal_of ats m ≡ l → (mentions p m.var ≡ true) ⊎ (mentions p m.var ≡ false) → mentions p m.var ≡ false
        free m k f (inr g) = g
        free m k f (inl g) = let r = mention_in p m.var g in absurd (signs r.0 r.1 r.2 (true_or_false (lit_eq r.0 m)))
          where
            signs : (q : Lit) → Contains p q → q.var ≡ m.var → (lit_eq q m ≡ true) ⊎ (lit_eq q m ≡ false) → ⊥
            signs q c v (inl h) = u.not_true (subst (Contains trail) f (there m (below m k) (subst (λ x. has p x ≡ true) (same q m h) (in_has p q c))))
            signs q c v (inr h) =
                let o : q ≡ opposite m = turned_sign q m v h in
                u.not_false (subst (λ x. Contains trail (negated x)) f (there (opposite m) (below m k) (subst (λ x. has p x ≡ true) o (in_has p q c))))

        other : (r : Lit) → Contains e r → literal_of ats r ≡ l → (m : Lit) → Contains e m → m ≢ r → (literal_of ats m ≡ l) ⊎ Contains trail (negated (literal_of ats m)) → has p (opposite m) ≡ true
        other r kr f m k ne (inl g) = absurd (ne (one_lit ats apart m r (below m k) (below r kr) (g ∙ sym f)))
        other r kr f m k ne (inr g) = back (opposite m) (below m k) g

    at_rest : IsAtRest p cs → (d : List Literal) → Contains (map (clause_of ats) cs) d → ¬ (IsFalse trail d)
    at_rest rest d k h =
        let r = map_in (clause_of ats) cs d k in
        let i = place_of cs r.0 r.1 in
        never (false_back r.0 (below_at i.0 r.0 i.1) (subst (IsFalse trail) (sym r.2) h)) (rest.none_false i.0 r.0 i.1)

    no_unit : IsAtRest p cs → (d : List Literal) (l : Literal) → Contains (map (clause_of ats) cs) d → ¬ (IsUnitOver trail d l)
    no_unit rest d l k h =
        let r = map_in (clause_of ats) cs d k in
        let i = place_of cs r.0 r.1 in
        let u = unit_back r.0 l (below_at i.0 r.0 i.1) (subst (λ x. IsUnitOver trail x l) (sym r.2) h) in
        rest.none_unit i.0 r.0 i.1 u.0 u.1

  pub fresh_there : (c : List Lit) → is_within (length ats) c ≡ true → IsFresh cs c → IsFreshStep (map (clause_of ats) cs) (clause_of ats c)
  fresh_there c w f =
      record {
        trail = trail p f.once;
        assigned = assignment p f.once;
        left = literal_of ats l;
        one_left =
            record {
              own = in_map (literal_of ats) c l own;
              not_true = λ h. no l refl (back p f.once l lt h);
              not_false = λ h. no (opposite l) refl (back p f.once (opposite l) lt h);
              others = others;
            };
        none_false = at_rest p f.once f.rest;
        none_unit = no_unit p f.once f.rest;
      }
    where
      p : List Lit
      p = f.under

      l : Lit
      l = f.lit

      below : Below (length ats) c
      below = below_of (length ats) c w

      own : Contains c l
      own = has_in c l f.unit.here

      lt : l.var < length ats
      lt = below l own

      no : (m : Lit) → m.var ≡ l.var → has p m ≡ true → ⊥
      no m v h = never (in_mention p m (has_in p m h)) (ap (mentions p) v ∙ f.unit.free)

      others : (m : Literal) → Contains (clause_of ats c) m → (m ≡ literal_of ats l) ⊎ Contains (trail p f.once) (negated m)
      others m k = let r = map_in (literal_of ats) c m k in side r.0 r.1 r.2 (true_or_false (lit_eq r.0 l))
        where
          side : (q : Lit) → Contains c q → literal_of ats q ≡ m → (lit_eq q l ≡ true) ⊎ (lit_eq q l ≡ false) → (m ≡ literal_of ats l) ⊎ Contains (trail p f.once) (negated m)
          side q h e (inl g) = inl (sym e ∙ ap (literal_of ats) (same q l g))
          side q h e (inr g) = inr (subst (λ x. Contains (trail p f.once) (negated x)) e (there p f.once (opposite q) (below q h) (f.unit.others q (in_has c q h) (λ d. never (subst (λ x. lit_eq q x ≡ true) d (itself q)) g))))
