-- Grounds grow by premises that are needed.
use Rattle.std.proofs.Common.{◌≡◌, ◌≢◌, ◌↔◌, ◌⊎◌, inl, inr, ℕ, zero, suc, ◌+◌, ◌<◌, ◌≤◌, Bool, true, false, IsTrue, nat_eq, nat_le, cond, List, [], ◌∷◌, ◌++◌, map, length, get_or, Option, Some, None, slice_get, refl, sym, ap, ◌∙◌, subst, eqb-true, arith}
use Rattle.std.specs.List.{range_with_len}
use Rattle.std.proofs.lemmas.List.FromFn.{get_or-map-range_with_len, length-map-range_with_len}
use Rattle.std.proofs.lemmas.Option.{slice_get-get_or}
use Rattle.clause_store.specs.declared.lit.Lit.{Lit}
use Rattle.clause_store.specs.Clauses.{is_within}
use Rattle.repair_problem.specs.declared.atom.Atom.{Atom}
use Rattle.repair_problem.specs.declared.atom.Literal.{Literal}
use Rattle.repair_problem.specs.Setting.{Setting}
use Rattle.proof_lines.specs.declared.rule.Rule.{Rule}
use Rattle.atom_parts.specs.PartLiterals.{In}
use Rattle.count_encode.specs.Counts.{count_parts}
use Rattle.repair_problem.specs.declared.atom.Part.{Part}
use Rattle.repair_problem.specs.declared.atom.Part.TheVariants.{Fixed}
use Rattle.atom_parts.specs.PartLiterals.{literals}
use Rattle.atom_parts.specs.Fixing.{Fixing, NoAtom, Free, ByParts, ByCount, fixing}
use Rattle.atom_parts.proofs.Facts.{some_is, none_some}
use Rattle.premise_rules.specs.declared.clause.Clause.{Clause}
use Rattle.premise_rules.specs.declared.clause.Clause.TheVariants.{Literals, Tautology, OutOfRange}
use Rattle.premise_rules.specs.Literals.{finished, is_tautology, distinct}
use Rattle.premise_rules.specs.PlaceClauses.{part_clause, last_clause, clause_at, places, clauses_of}
use Rattle.clause_ground.specs.declared.premise.Premise.{Premise}
use Rattle.atom_numbers.specs.Numbers.{clause_of, IsGrown, Stands, ComeFrom, joined, joined_all}
use Rattle.clause_ground.specs.Premises.{rules_of, literals_of}
use Rattle.clause_ground.specs.Needed.{rule_at, clause_in, IsRuleOf, IsRoot, StandsIn, NeededIn, IsNeeded, Occurs, IsInNumbers, AreNeeded}
use Rattle.clause_ground.specs.Growth.{Found, found, Adds, AddsClause, IsSound, IsKept, Grows, IsMade, IsClosedTo}
use Rattle.atom_numbers.proofs.NumberLaws.{joined_all_end, grown_more, grown_length, kept_clause, within_more}
use Rattle.clause_ground.proofs.AtomRules.{rule_clause_at, place_rule}

in_kept : {X : Type 0} (xs : List X) (x y : X) → In xs y → In (xs ++ x ∷ []) y
in_kept [] x y h = absurd h
in_kept (z ∷ xs) x y (inl e) = inl e
in_kept (z ∷ xs) x y (inr h) = inr (in_kept xs x y h)

in_end : {X : Type 0} (xs : List X) (x : X) → In (xs ++ x ∷ []) x
in_end [] x = inl refl
in_end (z ∷ xs) x = inr (in_end xs x)

in_pushed : {X : Type 0} (xs : List X) (x y : X) → In (xs ++ x ∷ []) y → In xs y ⊎ (x ≡ y)
in_pushed [] x y (inl e) = inr e
in_pushed [] x y (inr h) = absurd h
in_pushed (z ∷ xs) x y (inl e) = inl (inl e)
in_pushed (z ∷ xs) x y (inr h) = split (in_pushed xs x y h)
  where
    split : In xs y ⊎ (x ≡ y) → ((z ≡ y) ⊎ In xs y) ⊎ (x ≡ y)
    split (inl g) = inl (inr g)
    split (inr g) = inr g

map_more : {X Y : Type 0} (f : X → Y) (xs : List X) (x : X) → map f (xs ++ x ∷ []) ≡ map f xs ++ f x ∷ []
map_more f [] x = refl
map_more f (y ∷ xs) x = ap (λ ys. f y ∷ ys) (map_more f xs x)

rules_pushed : (ps qs : List Premise) (p : Premise) → qs ≡ ps ++ p ∷ [] → rules_of qs ≡ rules_of ps ++ p.rule ∷ []
rules_pushed ps qs p e = ap rules_of e ∙ map_more (λ (x : Premise). x.rule) ps p

literals_are : {xs ys : List Literal} → Literals xs ≡ Literals ys → xs ≡ ys
literals_are e = cc

pub get_in : {X : Type 0} (xs : List X) (i : ℕ) (a : X) → slice_get xs i ≡ Some a → In xs a
get_in [] i a e = absurd (none_some e)
get_in (x ∷ xs) zero a e = inl (some_is e)
get_in (x ∷ xs) (suc i) a e = inr (get_in xs i a e)

pub in_place : {X : Type 0} (xs : List X) (a : X) → In xs a → (i : ℕ) × (i < length xs) × (slice_get xs i ≡ Some a)
in_place [] a h = absurd h
in_place (x ∷ xs) a (inl e) = (0, omega arith, ap Some e)
in_place (x ∷ xs) a (inr h) = let r = in_place xs a h in let l = r.1 in (suc r.0, omega (arith, l), r.2)

module _ (s : Setting) where
  pub sound_none : (ps : List Premise) (ats : List Atom) → ps ≡ [] → ats ≡ [] → IsSound s (found ps ats)
  sound_none ps ats e f =
      subst (λ x. IsSound s (found x ats)) (sym e)
      (subst (λ x. IsSound s (found [] x)) (sym f) (record { numbered = λ p h. absurd h; needed = λ q h. absurd h; occur = λ a h. absurd h; order = refl }))

  pub grows_same : (old new : Found) → IsSound s old → new ≡ old → Grows s old new
  grows_same old new b e = subst (Grows s old) (sym e) (record { sound = b; rules = λ q h. h; atoms = λ i x h. h })

  pub grows_more : (a b c : Found) → Grows s a b → Grows s b c → Grows s a c
  grows_more a b c f g = record { sound = g.sound; rules = λ q h. g.rules q (f.rules q h); atoms = grown_more a.atoms b.atoms c.atoms f.atoms g.atoms }

  pub rules_kept : (old new : Found) (q : Rule) → Grows s old new → IsKept s (rules_of old.premises) q → IsKept s (rules_of new.premises) q
  rules_kept old new q g (inl e) = inl e
  rules_kept old new q g (inr h) = inr (g.rules q h)

  -- one premise more, of a rule that is needed
  pub premise_there : (old new : Found) (q : Rule) (ls : List Literal) → Adds old q ls new → In (rules_of new.premises) q
  premise_there old new q ls h = subst (λ rs. In rs q) (sym (rules_pushed old.premises new.premises (record { rule = q; lits = h.lits }) h.pushed)) (in_end (rules_of old.premises) q)

  pub sound_adds : (old new : Found) (q : Rule) (ls : List Literal) → IsSound s old → IsNeeded s q → clause_in s q ≡ Literals ls → Adds old q ls new → Grows s old new
  sound_adds old new q ls b n e h =
      record {
        sound = record {
          numbered = λ p k. pick_numbered p (in_pushed old.premises added p (subst (λ ps. In ps p) h.pushed k));
          needed = λ r k. pick_needed r (in_pushed (rules_of old.premises) q r (subst (λ rs. In rs r) pushed k));
          occur = λ a k. pick_occur a (h.only a k);
          order = h.order ∙ (ap (λ x. joined x ls) b.order ∙ (sym (joined_all_end [] (literals_of old.atoms old.premises) ls) ∙ ap (joined_all []) (sym clauses_pushed)));
        };
        rules = λ r k. up r k;
        atoms = h.grown;
      }
    where
      added : Premise
      added = record { rule = q; lits = h.lits }

      pushed : rules_of new.premises ≡ rules_of old.premises ++ q ∷ []
      pushed = rules_pushed old.premises new.premises added h.pushed

      clauses_kept : (ps : List Premise) → ((p : Premise) → In ps p → is_within (length old.atoms) p.lits ≡ true) → literals_of new.atoms ps ≡ literals_of old.atoms ps
      clauses_kept [] all = refl
      clauses_kept (p ∷ ps) all = λ i. kept_clause old.atoms new.atoms p.lits h.grown (all p (inl refl)) i ∷ clauses_kept ps (λ r k. all r (inr k)) i

      clauses_pushed : literals_of new.atoms new.premises ≡ literals_of old.atoms old.premises ++ ls ∷ []
      clauses_pushed =
          ap (literals_of new.atoms) h.pushed
          ∙ (map_more (λ (p : Premise). clause_of new.atoms p.lits) old.premises added
          ∙ (λ i. clauses_kept old.premises (λ p k. (b.numbered p k).1) i ++ h.value i ∷ []))

      up : (r : Rule) → In (rules_of old.premises) r → In (rules_of new.premises) r
      up r k = subst (λ rs. In rs r) (sym pushed) (in_kept (rules_of old.premises) q r k)

      pick_numbered : (p : Premise) → In old.premises p ⊎ (added ≡ p) → IsInNumbers s new.atoms p
      pick_numbered p (inl k) =
          let o = b.numbered p k in
          (o.0 ∙ ap (λ x. Literals x) (sym (kept_clause old.atoms new.atoms p.lits h.grown o.1)), within_more (length old.atoms) (length new.atoms) p.lits (grown_length old.atoms new.atoms h.grown) o.1)
      pick_numbered p (inr k) = subst (IsInNumbers s new.atoms) k (e ∙ ap (λ x. Literals x) (sym h.value), h.within)

      pick_needed : (r : Rule) → In (rules_of old.premises) r ⊎ (q ≡ r) → IsNeeded s r
      pick_needed r (inl k) = b.needed r k
      pick_needed r (inr k) = subst (IsNeeded s) k n

      pick_occur : (a : Atom) → In old.atoms a ⊎ Stands ls a → Occurs s (rules_of new.premises) a
      pick_occur a (inl k) = let o = b.occur a k in (o.0, up o.0 o.1, o.2)
      pick_occur a (inr k) = (q, premise_there old new q ls h, record { literals = ls; here = e; stands = k })

  -- what is made of the clause of an atom at a place
  pub atom_needed : (f : Found) (a : Atom) (q : Rule) → IsSound s f → In f.atoms a → IsRuleOf s a q → IsNeeded s q
  atom_needed f a q b h r = let o = b.occur a h in let n = b.needed o.0 o.1 in (suc n.0, inr (o.0, a, n.1, o.2, r))

  module _ (a : Atom) (k : ℕ) (lt : k < places (fixing s a)) (old new : Found) (c : Clause) (same : c ≡ finished (clause_at a (fixing s a) k)) (sound : IsSound s old) (there : In old.atoms a) where
    place_grows : (o : Option Rule) → rule_at a k ≡ o → (d : Clause) → c ≡ d → AddsClause old o d new → Grows s old new
    place_grows (Some q) e (Literals ls) f h = sound_adds old new q ls sound (atom_needed old a q sound there (k, lt, e)) (rule_clause_at s a k q e ∙ (sym same ∙ f)) h
    place_grows (Some q) e Tautology f h = grows_same old new sound h
    place_grows (Some q) e OutOfRange f h = grows_same old new sound h
    place_grows None e d f h = grows_same old new sound h

    pub clause_grows : AddsClause old (rule_at a k) c new → Grows s old new
    clause_grows h = place_grows (rule_at a k) refl c refl h

    -- each place has a clause
    place_some : (f : Fixing) → k < places f → clause_at a f k ≡ None → ⊥
    place_some NoAtom l e = omega (arith, l)
    place_some Free l e = omega (arith, l)
    place_some (ByParts ps) l e = go (nat_eq k (length ps.list)) (slice_get ps.list k) refl refl e
      where
        go : (b : Bool) (o : Option Part) → nat_eq k (length ps.list) ≡ b → slice_get ps.list k ≡ o → cond b (Some (last_clause a ps.every ps.list)) (part_clause a ps.every o) ≡ None → ⊥
        go true o g h e = none_some (sym e)
        go false None g h e = none_some (sym h ∙ slice_get-get_or ps.list k (Fixed true) (grind (arith, g, l)))
        go false (Some p) g h e = at ps.every e
          where
            at : (every : Bool) → part_clause a every (Some p) ≡ None → ⊥
            at true e = none_some (sym e)
            at false e = none_some (sym e)
    place_some (ByCount i x j m item) l e = go (nat_le k 3) refl e
      where
        go : (b : Bool) → nat_le k 3 ≡ b → cond b (Some (count_parts i x j m item k)) None ≡ None → ⊥
        go true g e = none_some (sym e)
        go false g e = absurd (grind (arith, g, l))

    in_range : (o : Option (List Part)) → clause_at a (fixing s a) k ≡ o → finished o ≡ OutOfRange → ⊥
    in_range None e f = place_some (fixing s a) lt e
    in_range (Some ps) e f = go (is_tautology ps) f
      where
        go : (b : Bool) → cond b Tautology (Literals (distinct (literals ps))) ≡ OutOfRange → ⊥
        go true f = absurd (cc)
        go false f = absurd (cc)

    place_kept : (o : Option Rule) → rule_at a k ≡ o → (d : Clause) → c ≡ d → AddsClause old o d new → (q : Rule) → o ≡ Some q → IsKept s (rules_of new.premises) q
    place_kept (Some r) e (Literals ls) f h q g = inr (subst (In (rules_of new.premises)) (some_is g) (premise_there old new r ls h))
    place_kept (Some r) e Tautology f h q g = inl (rule_clause_at s a k q (e ∙ g) ∙ (sym same ∙ f))
    place_kept (Some r) e OutOfRange f h q g = absurd (in_range (clause_at a (fixing s a) k) refl (sym same ∙ f))
    place_kept None e d f h q g = absurd (none_some g)

    pub clause_kept : AddsClause old (rule_at a k) c new → (q : Rule) → rule_at a k ≡ Some q → IsKept s (rules_of new.premises) q
    clause_kept h q e = place_kept (rule_at a k) refl c refl h q e

-- The clauses of an atom, one place after another.
module _ (s : Setting) (a : Atom) (cs : List Clause) (same : cs ≡ clauses_of s a) where
  pub place_count : length cs ≡ places (fixing s a)
  place_count = ap length same ∙ length-map-range_with_len (λ k. finished (clause_at a (fixing s a) k)) 0 (places (fixing s a))

  pub place_clause_is : (i : ℕ) (c : Clause) → i < length cs → c ≡ get_or cs i c → (i < places (fixing s a)) × (c ≡ finished (clause_at a (fixing s a) i))
  place_clause_is i c lt e =
      let n = place_count in
      let l : i < places (fixing s a) = omega (arith, lt, n) in
      (l, e ∙ (ap (λ xs. get_or xs i c) same ∙ get_or-map-range_with_len (λ k. finished (clause_at a (fixing s a) k)) 0 (places (fixing s a)) i i c l (omega arith)))

-- all rules of the first n places of an atom are made
abbrev pub MadeBelow : Setting → Atom → ℕ → List Rule → Type 0
MadeBelow s a n rs = (k : ℕ) (q : Rule) → k < n → rule_at a k ≡ Some q → IsKept s rs q

pub made_next : (s : Setting) (a : Atom) (n : ℕ) (old new : Found) → Grows s old new → MadeBelow s a n (rules_of old.premises) → ((q : Rule) → rule_at a n ≡ Some q → IsKept s (rules_of new.premises) q) → MadeBelow s a (n + 1) (rules_of new.premises)
made_next s a n old new g below here k q lt e = pick (nat_eq k n) refl
  where
    pick : (b : Bool) → nat_eq k n ≡ b → IsKept s (rules_of new.premises) q
    pick true h = here q (ap (rule_at a) (sym (eqb-true k n h)) ∙ e)
    pick false h = rules_kept s old new q g (below k q (grind (arith, h, lt)) e)

pub made_whole : (s : Setting) (ats : List Atom) (v : ℕ) (a : Atom) (n : ℕ) (rs : List Rule) → slice_get ats v ≡ Some a → places (fixing s a) ≤ n → MadeBelow s a n rs → IsMade s ats v rs
made_whole s ats v a n rs here le below b h q r =
    let e : b ≡ a = some_is (sym h ∙ here) in
    let t : IsRuleOf s a q = subst (λ x. IsRuleOf s x q) e r in
    let l = t.1 in
    below t.0 q (omega (arith, l, le)) t.2

-- the atoms whose rules are all made
pub closed_next : (s : Setting) (n : ℕ) (old new : Found) → Grows s old new → n < length old.atoms → IsClosedTo s n old → IsMade s old.atoms n (rules_of new.premises) → IsClosedTo s (n + 1) new
closed_next s n old new g lt closed made v l a h q r = pick (nat_eq v n) refl
  where
    back : v < length old.atoms → slice_get old.atoms v ≡ Some a
    back m = let d = get_or old.atoms v a in let e = slice_get-get_or old.atoms v a m in e ∙ (sym (g.atoms v d e) ∙ h)

    pick : (b : Bool) → nat_eq v n ≡ b → IsKept s (rules_of new.premises) q
    pick true e = let i = eqb-true v n e in made a (subst (λ w. slice_get old.atoms w ≡ Some a) i (back (omega (arith, i, lt)))) q r
    pick false e =
        let m : v < n = grind (arith, e, l) in
        rules_kept s old new q g (closed v m a (back (omega (arith, m, lt))) q r)

pub closed_start : (s : Setting) (f : Found) → IsClosedTo s 0 f
closed_start s f v lt = absurd (omega (arith, lt))
