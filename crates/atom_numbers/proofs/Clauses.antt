-- Clauses in numbers and the clauses of atoms that they stand for.
use Rattle.std.proofs.Common.{◌≡◌, ◌≢◌, ◌↔◌, ◌⊎◌, inl, inr, ℕ, zero, suc, ◌<◌, Bool, true, false, not, ◌&&◌, ◌||◌, nat_eq, nat_lt, List, [], ◌∷◌, ◌++◌, map, length, get_or, Contains, Some, slice_get, refl, sym, ap, ◌∙◌, subst, eqb-true, eq-eqb, arith}
use Rattle.std.specs.List.{filter}
use Rattle.std.proofs.Math.Path.{fun_ext}
use Rattle.std.proofs.lemmas.Bool.{ltb-true, lt-ltb}
use Rattle.std.proofs.lemmas.Option.{slice_get-get_or}
use Rattle.std.proofs.lemmas.List.Elements.{Contains-append_left, Contains-append_right, Contains-append_cases}
use Rattle.rdf_terms.proofs.Members.{in_none, in_first, in_rest, in_cases, in_map, map_in, in_filter, filter_in}
use Rattle.clause_store.specs.declared.lit.Lit.{Lit}
use Rattle.clause_store.specs.Clauses.{has, opposite, lit_eq, mentions, is_clause, are_clauses, is_within, are_within}
use Rattle.clause_store.specs.Chained.{LitSet, ClashesOnce, union, without, ResolvesTo}
use Rattle.clause_store.specs.Chained.{IsChained as IsChainedNumbers}
use Rattle.clause_store.proofs.Sets.{itself, same, never, and_left, and_right, or_cases, or_first, or_second, not_true, true_or_false, clause_at, within_get}
use Rattle.repair_problem.specs.declared.atom.Atom.{Atom}
use Rattle.repair_problem.specs.declared.atom.Atom.TheVariants.{Triple}
use Rattle.repair_problem.specs.declared.atom.Literal.{Literal}
use Rattle.count_encode.specs.PartTruth.{opposite as negated}
use Rattle.atom_parts.proofs.Facts.{some_is, none_some}
use Rattle.premise_rules.specs.Chains.{Clash, IsResolvent, AreSame, ChainsFrom, IsChained}
use Rattle.premise_rules.specs.Documents.{with_clause}
use Rattle.atom_numbers.specs.Numbers.{literal_of, clause_of, lines_of, AreApart, AreOnce, IsGrown}
use Rattle.atom_numbers.proofs.NumberLaws.{both_true, map_more, kept_clauses}

not_not : (p : Bool) → not (not p) ≡ p
not_not true = refl
not_not false = refl

pub lit_same : (l m : Lit) → l.var ≡ m.var → l.positive ≡ m.positive → l ≡ m
lit_same l m e f = λ i. record { var = e i; positive = f i }

pub opposite_twice : (l : Lit) → opposite (opposite l) ≡ l
opposite_twice l = lit_same (opposite (opposite l)) l refl (not_not l.positive)

-- A clause as the list of its literals.
pub has_in : (c : List Lit) (l : Lit) → has c l ≡ true → Contains c l
has_in [] l h = never h refl
has_in (m ∷ c) l h = split (or_cases (lit_eq m l) (has c l) h) (has_in c l)
  where
    split : (lit_eq m l ≡ true) ⊎ (has c l ≡ true) → (has c l ≡ true → Contains c l) → Contains (m ∷ c) l
    split (inl e) on = subst (Contains (m ∷ c)) (same m l e) (in_first m c)
    split (inr e) on = in_rest m c l (on e)

pub in_has : (c : List Lit) (l : Lit) → Contains c l → has c l ≡ true
in_has [] l h = absurd (in_none l h)
in_has (m ∷ c) l h = split (in_cases m c l h) (in_has c l)
  where
    split : (m ≡ l) ⊎ Contains c l → (Contains c l → has c l ≡ true) → (lit_eq m l || has c l) ≡ true
    split (inl e) on = or_first (lit_eq m l) (has c l) (subst (λ x. lit_eq m x ≡ true) e (itself m))
    split (inr k) on = or_second (lit_eq m l) (has c l) (on k)

-- each variable is below n
abbrev pub Below : ℕ → List Lit → Type 0
Below n c = (l : Lit) → Contains c l → l.var < n

pub below_of : (n : ℕ) (c : List Lit) → is_within n c ≡ true → Below n c
below_of n [] h l k = absurd (in_none l k)
below_of n (m ∷ c) h l k = split (in_cases m c l k) (below_of n c (and_right (nat_lt m.var n) (is_within n c) h) l)
  where
    split : (m ≡ l) ⊎ Contains c l → (Contains c l → l.var < n) → l.var < n
    split (inl e) on = subst (λ (x : Lit). x.var < n) e (ltb-true m.var n (and_left (nat_lt m.var n) (is_within n c) h))
    split (inr r) on = on r

-- in a clause a variable stands once
pub unmentioned : (c : List Lit) (v : ℕ) (l : Lit) → mentions c v ≡ false → Contains c l → l.var ≡ v → ⊥
unmentioned [] v l h k e = in_none l k
unmentioned (m ∷ c) v l h k e = split (in_cases m c l k) (true_or_false (nat_eq m.var v)) (unmentioned c v l)
  where
    rest : (b c : Bool) → (b || c) ≡ false → (b ≡ false) × (c ≡ false)
    rest true c h = never refl h
    rest false c h = (refl, h)

    split : (m ≡ l) ⊎ Contains c l → (nat_eq m.var v ≡ true) ⊎ (nat_eq m.var v ≡ false) → (mentions c v ≡ false → Contains c l → l.var ≡ v → ⊥) → ⊥
    split (inl g) d on = never (eq-eqb m.var v (ap (λ (x : Lit). x.var) g ∙ e)) (rest (nat_eq m.var v) (mentions c v) h).0
    split (inr r) d on = on (rest (nat_eq m.var v) (mentions c v) h).1 r e

pub one_literal : (c : List Lit) (l m : Lit) → is_clause c ≡ true → Contains c l → Contains c m → l.var ≡ m.var → l ≡ m
one_literal [] l m h k r e = absurd (in_none l k)
one_literal (x ∷ c) l m h k r e = split (in_cases x c l k) (in_cases x c m r) (one_literal c l m (and_right (not (mentions c x.var)) (is_clause c) h))
  where
    out : mentions c x.var ≡ false
    out = not_true (mentions c x.var) (and_left (not (mentions c x.var)) (is_clause c) h)

    split : (x ≡ l) ⊎ Contains c l → (x ≡ m) ⊎ Contains c m → (Contains c l → Contains c m → l.var ≡ m.var → l ≡ m) → l ≡ m
    split (inl f) (inl g) on = sym f ∙ g
    split (inl f) (inr g) on = absurd (unmentioned c x.var m out g (sym e ∙ ap (λ (y : Lit). y.var) (sym f)))
    split (inr f) (inl g) on = absurd (unmentioned c x.var l out f (e ∙ ap (λ (y : Lit). y.var) (sym g)))
    split (inr f) (inr g) on = on f g e

-- the literals of two clauses without those of a variable
abbrev pub left : List Lit → List Lit → ℕ → List Lit
left al bl v = filter (λ (l : Lit). not (nat_eq l.var v)) (al ++ bl)

same_bool : (a b : Bool) → (a ≡ true → b ≡ true) → (b ≡ true → a ≡ true) → a ≡ b
same_bool true b f g = sym (f refl)
same_bool false true f g = g refl
same_bool false false f g = refl

pub left_is : (al bl : List Lit) (v : ℕ) → has (left al bl v) ≡ without (union (has al) (has bl)) v
left_is al bl v = fun_ext (λ l. same_bool (has (left al bl v) l) (without (union (has al) (has bl)) v l) (to l) (from l))
  where
    to : (l : Lit) → has (left al bl v) l ≡ true → without (union (has al) (has bl)) v l ≡ true
    to l h = let r = filter_in (λ (m : Lit). not (nat_eq m.var v)) (al ++ bl) l (has_in (left al bl v) l h) in both_true (has al l || has bl l) (not (nat_eq l.var v)) (side (Contains-append_cases al bl l r.0)) r.1
      where
        side : Contains al l ⊎ Contains bl l → (has al l || has bl l) ≡ true
        side (inl k) = or_first (has al l) (has bl l) (in_has al l k)
        side (inr k) = or_second (has al l) (has bl l) (in_has bl l k)

    from : (l : Lit) → without (union (has al) (has bl)) v l ≡ true → has (left al bl v) l ≡ true
    from l h = in_has (left al bl v) l (in_filter (λ (m : Lit). not (nat_eq m.var v)) (al ++ bl) l (side (or_cases (has al l) (has bl l) (and_left (has al l || has bl l) (not (nat_eq l.var v)) h))) (and_right (has al l || has bl l) (not (nat_eq l.var v)) h))
      where
        side : (has al l ≡ true) ⊎ (has bl l ≡ true) → Contains (al ++ bl) l
        side (inl k) = Contains-append_left al bl l (has_in al l k)
        side (inr k) = Contains-append_right al bl l (has_in bl l k)

pub left_below : (n : ℕ) (al bl : List Lit) (v : ℕ) → Below n al → Below n bl → Below n (left al bl v)
left_below n al bl v f g l k = side (Contains-append_cases al bl l (filter_in (λ (m : Lit). not (nat_eq m.var v)) (al ++ bl) l k).0)
  where
    side : Contains al l ⊎ Contains bl l → l.var < n
    side (inl h) = f l h
    side (inr h) = g l h

pub map_at : {X Y : Type 0} (f : X → Y) (xs : List X) (i : ℕ) (y : Y) → slice_get (map f xs) i ≡ Some y → (x : X) × (slice_get xs i ≡ Some x) × (f x ≡ y)
map_at f [] i y e = absurd (none_some e)
map_at f (x ∷ xs) zero y e = (x, refl, some_is e)
map_at f (x ∷ xs) (suc i) y e = map_at f xs i y e

pub at_map : {X Y : Type 0} (f : X → Y) (xs : List X) (i : ℕ) (x : X) → slice_get xs i ≡ Some x → slice_get (map f xs) i ≡ Some (f x)
at_map f [] i x e = absurd (none_some e)
at_map f (y ∷ xs) zero x e = ap (λ z. Some (f z)) (some_is e)
at_map f (y ∷ xs) (suc i) x e = at_map f xs i x e

module _ (ats : List Atom) (apart : AreApart ats) where
  pub one_number : (v w : ℕ) → v < length ats → w < length ats → get_or ats v (Triple 0) ≡ get_or ats w (Triple 0) → v ≡ w
  one_number v w lt lu e = apart v w (get_or ats w (Triple 0)) (slice_get-get_or ats v (Triple 0) lt ∙ ap Some e) (slice_get-get_or ats w (Triple 0) lu)

  pub one_lit : (l m : Lit) → l.var < length ats → m.var < length ats → literal_of ats l ≡ literal_of ats m → l ≡ m
  one_lit l m lt lu e = lit_same l m (one_number l.var m.var lt lu (ap (λ (x : Literal). x.atom) e)) (ap (λ (x : Literal). x.positive) e)

  -- the literals of atoms but those of the atom of that number
  pub exact_left : (al bl : List Lit) (v : ℕ) → v < length ats → Below (length ats) al → Below (length ats) bl → (l : Literal)
      → Contains (clause_of ats (left al bl v)) l ↔ ((Contains (clause_of ats al) l ⊎ Contains (clause_of ats bl) l) × (l.atom ≢ get_or ats v (Triple 0)))
  exact_left al bl v lt fa fb l = (to, from)
    where
      to : Contains (clause_of ats (left al bl v)) l → (Contains (clause_of ats al) l ⊎ Contains (clause_of ats bl) l) × (l.atom ≢ get_or ats v (Triple 0))
      to k =
          let r = map_in (literal_of ats) (left al bl v) l k in
          let m = r.0 in
          let f = filter_in (λ (x : Lit). not (nat_eq x.var v)) (al ++ bl) r.0 r.1 in (
            side r.0 r.2 (Contains-append_cases al bl r.0 f.0),
            λ e. never (eq-eqb r.0.var v (one_number r.0.var v (left_below (length ats) al bl v fa fb r.0 r.1) lt (ap (λ (x : Literal). x.atom) r.2 ∙ e))) (not_true (nat_eq r.0.var v) f.1),
          )
        where
          side : (m : Lit) → literal_of ats m ≡ l → Contains al m ⊎ Contains bl m → Contains (clause_of ats al) l ⊎ Contains (clause_of ats bl) l
          side m e (inl h) = inl (subst (Contains (clause_of ats al)) e (in_map (literal_of ats) al m h))
          side m e (inr h) = inr (subst (Contains (clause_of ats bl)) e (in_map (literal_of ats) bl m h))

      put : l.atom ≢ get_or ats v (Triple 0) → (m : Lit) → literal_of ats m ≡ l → Contains (al ++ bl) m → Contains (clause_of ats (left al bl v)) l
      put ne m e h = subst (Contains (clause_of ats (left al bl v))) e (in_map (literal_of ats) (left al bl v) m (in_filter (λ (x : Lit). not (nat_eq x.var v)) (al ++ bl) m h (other (true_or_false (nat_eq m.var v)))))
        where
          other : (nat_eq m.var v ≡ true) ⊎ (nat_eq m.var v ≡ false) → not (nat_eq m.var v) ≡ true
          other (inl g) = absurd (ne (sym (ap (λ (x : Literal). x.atom) e) ∙ ap (λ w. get_or ats w (Triple 0)) (eqb-true m.var v g)))
          other (inr g) = ap not g

      from : (Contains (clause_of ats al) l ⊎ Contains (clause_of ats bl) l) × (l.atom ≢ get_or ats v (Triple 0)) → Contains (clause_of ats (left al bl v)) l
      from k = at k.0
        where
          at : Contains (clause_of ats al) l ⊎ Contains (clause_of ats bl) l → Contains (clause_of ats (left al bl v)) l
          at (inl h) = let r = map_in (literal_of ats) al l h in put k.1 r.0 r.2 (Contains-append_left al bl r.0 r.1)
          at (inr h) = let r = map_in (literal_of ats) bl l h in put k.1 r.0 r.2 (Contains-append_right al bl r.0 r.1)

  -- a literal of a clause in numbers, and its opposite
  pub turned : (m m' : Lit) (l : Literal) → m.var < length ats → m'.var < length ats → literal_of ats m ≡ l → literal_of ats m' ≡ negated l → m' ≡ opposite m
  turned m m' l lt lu e f = one_lit m' (opposite m) lu lt (f ∙ ap negated (sym e))

  pub resolvent_there : (al bl : List Lit) (v : ℕ) → Below (length ats) al → Below (length ats) bl → is_clause bl ≡ true → ClashesOnce (has al) (has bl) v → IsResolvent (clause_of ats al) (clause_of ats bl) (clause_of ats (left al bl v))
  resolvent_there al bl v fa fb once h =
      record {
        pivot = literal_of ats (opposite l0);
        clash = (in_map (literal_of ats) al (opposite l0) (has_in al (opposite l0) h.0.2.0), subst (Contains (clause_of ats bl)) twice (in_map (literal_of ats) bl l0 (has_in bl l0 h.0.2.1)));
        only = only;
        exact = λ l. subst (λ a. Contains (clause_of ats (left al bl v)) l ↔ ((Contains (clause_of ats al) l ⊎ Contains (clause_of ats bl) l) × (l.atom ≢ a))) (ap (λ w. get_or ats w (Triple 0)) (sym h.0.1)) (exact_left al bl v (subst (λ w. w < length ats) h.0.1 (fb l0 (has_in bl l0 h.0.2.1))) fa fb l);
      }
    where
      l0 : Lit
      l0 = h.0.0

      twice : literal_of ats l0 ≡ negated (literal_of ats (opposite l0))
      twice = ap (literal_of ats) (sym (opposite_twice l0))

      only : (l : Literal) → Clash (clause_of ats al) (clause_of ats bl) l → l ≡ literal_of ats (opposite l0)
      only l k =
          let r = map_in (literal_of ats) al l k.0 in
          let q = map_in (literal_of ats) bl (negated l) k.1 in
          let t = turned r.0 q.0 l (fa r.0 r.1) (fb q.0 q.1) r.2 q.2 in
          let var = h.1 q.0 (subst (λ x. has al x ≡ true) (sym (opposite_twice r.0) ∙ ap opposite (sym t)) (in_has al r.0 r.1), in_has bl q.0 q.1) in
          let own = one_literal bl q.0 l0 once q.1 (has_in bl l0 h.0.2.1) (var ∙ sym h.0.1) in
          sym r.2 ∙ ap (literal_of ats) (sym (opposite_twice r.0) ∙ ap opposite (sym t ∙ own))

  pub resolvent_back : (c r : List Literal) (al bl : List Lit) → Below (length ats) al → Below (length ats) bl → AreSame c (clause_of ats al) → IsResolvent c (clause_of ats bl) r → (v : ℕ) × ClashesOnce (has al) (has bl) v × AreSame r (clause_of ats (left al bl v))
  resolvent_back c r al bl fa fb e h = (q.0.var, ((q.0, refl, (back, in_has bl q.0 q.1)), others), same_left)
    where
      p : (m : Lit) × Contains al m × (literal_of ats m ≡ h.pivot)
      p = map_in (literal_of ats) al h.pivot ((e h.pivot).0 h.clash.0)

      q : (m : Lit) × Contains bl m × (literal_of ats m ≡ negated h.pivot)
      q = map_in (literal_of ats) bl (negated h.pivot) h.clash.1

      t : q.0 ≡ opposite p.0
      t = turned p.0 q.0 h.pivot (fa p.0 p.1) (fb q.0 q.1) p.2 q.2

      back : has al (opposite q.0) ≡ true
      back = subst (λ x. has al x ≡ true) (sym (opposite_twice p.0) ∙ ap opposite (sym t)) (in_has al p.0 p.1)

      others : (k : Lit) → (has al (opposite k) ≡ true) × (has bl k ≡ true) → k.var ≡ q.0.var
      others k x =
          let inside = has_in al (opposite k) x.0 in
          let own = h.only (literal_of ats (opposite k)) ((e (literal_of ats (opposite k))).1 (in_map (literal_of ats) al (opposite k) inside), subst (Contains (clause_of ats bl)) (ap (literal_of ats) (sym (opposite_twice k))) (in_map (literal_of ats) bl k (has_in bl k x.1))) in
          let one = one_lit (opposite k) p.0 (fa (opposite k) inside) (fa p.0 p.1) (own ∙ sym p.2) in
          ap (λ (z : Lit). z.var) one ∙ sym (ap (λ (z : Lit). z.var) t)

      same_left : AreSame r (clause_of ats (left al bl q.0.var))
      same_left l = (λ k. (kept l).1 (to l ((h.exact l).0 k)), λ k. (h.exact l).1 (from l ((kept l).0 k)))
        where
          kept : (l : Literal) → Contains (clause_of ats (left al bl q.0.var)) l ↔ ((Contains (clause_of ats al) l ⊎ Contains (clause_of ats bl) l) × (l.atom ≢ get_or ats q.0.var (Triple 0)))
          kept l = exact_left al bl q.0.var (fb q.0 q.1) fa fb l

          atom_is : get_or ats q.0.var (Triple 0) ≡ h.pivot.atom
          atom_is = ap (λ (x : Literal). x.atom) q.2

          to : (l : Literal) → (Contains c l ⊎ Contains (clause_of ats bl) l) × (l.atom ≢ h.pivot.atom) → (Contains (clause_of ats al) l ⊎ Contains (clause_of ats bl) l) × (l.atom ≢ get_or ats q.0.var (Triple 0))
          to l k = (side k.0, λ g. k.1 (g ∙ atom_is))
            where
              side : Contains c l ⊎ Contains (clause_of ats bl) l → Contains (clause_of ats al) l ⊎ Contains (clause_of ats bl) l
              side (inl x) = inl ((e l).0 x)
              side (inr x) = inr x

          from : (l : Literal) → (Contains (clause_of ats al) l ⊎ Contains (clause_of ats bl) l) × (l.atom ≢ get_or ats q.0.var (Triple 0)) → (Contains c l ⊎ Contains (clause_of ats bl) l) × (l.atom ≢ h.pivot.atom)
          from l k = (side k.0, λ g. k.1 (g ∙ sym atom_is))
            where
              side : Contains (clause_of ats al) l ⊎ Contains (clause_of ats bl) l → Contains c l ⊎ Contains (clause_of ats bl) l
              side (inl x) = inl ((e l).1 x)
              side (inr x) = inr x

  module _ (cs : List (List Lit)) (within : are_within (length ats) cs ≡ true) where
    pub below_at : (i : ℕ) (b : List Lit) → slice_get cs i ≡ Some b → Below (length ats) b
    below_at i b e = below_of (length ats) b (within_get (length ats) cs i b within e)

    pub chain_there : are_clauses cs ≡ true → (ids : List ℕ) (al cl : List Lit) → Below (length ats) al → ResolvesTo cs (has al) ids (has cl) → ChainsFrom (map (clause_of ats) cs) (clause_of ats al) ids (clause_of ats cl)
    chain_there once [] al cl f h = λ l. (to l, from l)
      where
        to : (l : Literal) → Contains (clause_of ats al) l → Contains (clause_of ats cl) l
        to l k = let r = map_in (literal_of ats) al l k in subst (Contains (clause_of ats cl)) r.2 (in_map (literal_of ats) cl r.0 (has_in cl r.0 (sym (ap (λ (a : LitSet). a r.0) h) ∙ in_has al r.0 r.1)))

        from : (l : Literal) → Contains (clause_of ats cl) l → Contains (clause_of ats al) l
        from l k = let r = map_in (literal_of ats) cl l k in subst (Contains (clause_of ats al)) r.2 (in_map (literal_of ats) al r.0 (has_in al r.0 (ap (λ (a : LitSet). a r.0) h ∙ in_has cl r.0 r.1)))
    chain_there once (i ∷ ids) al cl f h = (
      clause_of ats h.0,
      at_map (clause_of ats) cs i h.0 h.2,
      clause_of ats (left al h.0 h.1),
      resolvent_there al h.0 h.1 f (below_at i h.0 h.2) (clause_at cs i h.0 once h.2) h.3,
      chain_there once ids (left al h.0 h.1) cl (left_below (length ats) al h.0 h.1 f (below_at i h.0 h.2)) (subst (λ a. ResolvesTo cs a ids (has cl)) (sym (left_is al h.0 h.1)) h.4),
    )

    -- a chain in numbers is one over atoms
    pub chained_there : are_clauses cs ≡ true → (ids : List ℕ) (c : List Lit) → IsChainedNumbers cs ids c → IsChained (map (clause_of ats) cs) ids (clause_of ats c)
    chained_there once [] c h = absurd (let two = h.0 in omega (arith, two))
    chained_there once (i ∷ []) c h = absurd (let two = h.0 in omega (arith, two))
    chained_there once (i ∷ j ∷ ids) c h = (clause_of ats h.1.0, at_map (clause_of ats) cs i h.1.0 h.1.1, chain_there once (j ∷ ids) h.1.0 c (below_at i h.1.0 h.1.1) h.1.2)

    pub chain_back : (ids : List ℕ) (al : List Lit) (c last : List Literal) → Below (length ats) al → AreSame c (clause_of ats al) → ChainsFrom (map (clause_of ats) cs) c ids last → (cl : List Lit) × ResolvesTo cs (has al) ids (has cl)
    chain_back [] al c last f e h = (al, refl)
    chain_back (i ∷ ids) al c last f e h =
        let b = map_at (clause_of ats) cs i h.0 h.1 in
        let r = resolvent_back c h.2 al b.0 f (below_at i b.0 b.1) e (subst (λ d. IsResolvent c d h.2) (sym b.2) h.3) in
        let more = chain_back ids (left al b.0 r.0) h.2 last (left_below (length ats) al b.0 r.0 f (below_at i b.0 b.1)) r.2 h.4 in
        (more.0, (b.0, r.0, b.1, r.1, subst (λ a. ResolvesTo cs a ids (has more.0)) (left_is al b.0 r.0) more.1))

    -- and a chain over atoms is one in numbers
    pub chained_back : (ids : List ℕ) (last : List Literal) → IsChained (map (clause_of ats) cs) ids last → (c : List Lit) × IsChainedNumbers cs ids c
    chained_back [] last h = absurd h
    chained_back (i ∷ []) last h = absurd h
    chained_back (i ∷ j ∷ ids) last h =
        let b = map_at (clause_of ats) cs i h.0 h.1 in
        let more = chain_back (j ∷ ids) b.0 h.0 last (below_at i b.0 b.1) (λ l. (subst (λ d. Contains d l) (sym b.2), subst (λ d. Contains d l) b.2)) h.2 in
        (more.0, (omega arith, (b.0, b.1, more.1)))

-- Clauses of literals no two of which have one atom.
pub mention_in : (c : List Lit) (v : ℕ) → mentions c v ≡ true → (m : Lit) × Contains c m × (m.var ≡ v)
mention_in [] v h = never h refl
mention_in (m ∷ c) v h = split (or_cases (nat_eq m.var v) (mentions c v) h) (mention_in c v)
  where
    split : (nat_eq m.var v ≡ true) ⊎ (mentions c v ≡ true) → (mentions c v ≡ true → (k : Lit) × Contains c k × (k.var ≡ v)) → (k : Lit) × Contains (m ∷ c) k × (k.var ≡ v)
    split (inl e) on = (m, in_first m c, eqb-true m.var v e)
    split (inr e) on = let r = on e in (r.0, in_rest m c r.0 r.1, r.2)

pub once_clause : (ats : List Atom) (c : List Lit) → AreOnce (clause_of ats c) → is_clause c ≡ true
once_clause ats [] h = refl
once_clause ats (l ∷ c) h = both (true_or_false (mentions c l.var)) (once_clause ats c h.1)
  where
    both : (mentions c l.var ≡ true) ⊎ (mentions c l.var ≡ false) → is_clause c ≡ true → (not (mentions c l.var) && is_clause c) ≡ true
    both (inl e) f = let r = mention_in c l.var e in absurd (h.0 (literal_of ats r.0) (in_map (literal_of ats) c r.0 r.1) (ap (λ v. get_or ats v (Triple 0)) r.2))
    both (inr e) f = ap (λ b. not b && is_clause c) e ∙ f

-- A clause more.
pub lines_pushed : (chain : List (List ℕ)) (old new : List Atom) (cs ds : List (List Lit)) (c : List Lit) (ls : List Literal) → IsGrown old new → are_within (length old) cs ≡ true → clause_of new c ≡ ls → ds ≡ cs ++ c ∷ [] → lines_of chain new ds ≡ with_clause (lines_of chain old cs) ls
lines_pushed chain old new cs ds c ls g w e f =
    let d : map (clause_of new) ds ≡ map (clause_of old) cs ++ ls ∷ [] = ap (map (clause_of new)) f ∙ (map_more (clause_of new) cs c ∙ (ap (λ xs. xs ++ clause_of new c ∷ []) (kept_clauses old new cs g w) ∙ ap (λ x. map (clause_of old) cs ++ x ∷ []) e)) in
    λ i. record { chain = chain; clauses = d i }

-- The clause of a chain is over the same variables.
pub set_below : (n : ℕ) (cs : List (List Lit)) (ids : List ℕ) (al cl : List Lit) → are_within n cs ≡ true → Below n al → ResolvesTo cs (has al) ids (has cl) → Below n cl
set_below n cs [] al cl w f h l k = f l (has_in al l (ap (λ (a : LitSet). a l) h ∙ in_has cl l k))
set_below n cs (i ∷ ids) al cl w f h l k = set_below n cs ids (left al h.0 h.1) cl w (left_below n al h.0 h.1 f (below_of n h.0 (within_get n cs i h.0 w h.2))) (subst (λ a. ResolvesTo cs a ids (has cl)) (sym (left_is al h.0 h.1)) h.4) l k

pub within_of : (n : ℕ) (c : List Lit) → Below n c → is_within n c ≡ true
within_of n [] f = refl
within_of n (l ∷ c) f = both_true (nat_lt l.var n) (is_within n c) (lt-ltb l.var n (f l (in_first l c))) (within_of n c (λ m k. f m (in_rest l c m k)))

pub chained_within : (n : ℕ) (cs : List (List Lit)) (ids : List ℕ) (c : List Lit) → are_within n cs ≡ true → IsChainedNumbers cs ids c → is_within n c ≡ true
chained_within n cs [] c w h = absurd (let two = h.0 in omega (arith, two))
chained_within n cs (i ∷ ids) c w h = within_of n c (set_below n cs ids h.1.0 c w (below_of n h.1.0 (within_get n cs i h.1.0 w h.1.1)) h.1.2)
