-- Resolution keeps what is true, over clauses that have no atom in both signs.
use Rattle.std.proofs.Common.{◌≡◌, ◌≢◌, ◌⊎◌, inl, inr, ℕ, zero, suc, Bool, true, false, not, List, [], ◌∷◌, ◌++◌, Contains, Some, None, slice_get, refl, sym, ap, ◌∙◌, subst}
use Rattle.std.proofs.lemmas.List.Elements.{Contains-push_cases}
use Rattle.rdf_terms.proofs.Members.{in_none, in_first, in_rest, in_cases}
use Rattle.shapes_profile.specs.Logic.{EachOf}
use Rattle.repair_problem.specs.declared.atom.Atom.{Atom}
use Rattle.repair_problem.specs.declared.atom.Literal.{Literal}
use Rattle.repair_problem.specs.PartMeaning.{HoldsIf, LiteralMeans}
use Rattle.count_encode.specs.PartTruth.{opposite}
use Rattle.core_constraints.proofs.Decided.{no_false, true_or_false}
use Rattle.premise_rules.specs.Literals.{same_atom}
use Rattle.premise_rules.specs.Chains.{IsResolvent, AreSame, ChainsFrom, IsChained}
use Rattle.premise_rules.proofs.SameLiterals.{atom_is, atom_itself}

pub some_is : {X : Type 0} {x y : X} → Some x ≡ Some y → x ≡ y
some_is e = cc

pub none_some : {X : Type 0} {x : X} → None ≡ Some x → ⊥
none_some e = cc

module _ {X : Type 0} (P : X → Type 0) where
  pub each_from : (xs : List X) → ((x : X) → Contains xs x → P x) → EachOf P xs
  each_from [] h = tt
  each_from (x ∷ xs) h = (h x (in_first x xs), each_from xs (λ y c. h y (in_rest x xs y c)))

  pub each_of : (xs : List X) → EachOf P xs → (x : X) → Contains xs x → P x
  each_of [] h x c = absurd (in_none x c)
  each_of (y ∷ ys) h x c = split (in_cases y ys x c) (λ d. each_of ys h.1 x d)
    where
      split : (y ≡ x) ⊎ Contains ys x → (Contains ys x → P x) → P x
      split (inl e) on = subst P e h.0
      split (inr d) on = on d

-- the element at a place is in the list
pub at_place : {X : Type 0} (xs : List X) (i : ℕ) (x : X) → slice_get xs i ≡ Some x → Contains xs x
at_place [] i x e = absurd (none_some e)
at_place (y ∷ xs) zero x e = subst (λ z. Contains (y ∷ xs) z) (some_is e) (in_first y xs)
at_place (y ∷ xs) (suc i) x e = in_rest y xs x (at_place xs i x e)

not_not : (p : Bool) → not (not p) ≡ p
not_not true = refl
not_not false = refl

pub literal_same : (l m : Literal) → l.atom ≡ m.atom → l.positive ≡ m.positive → l ≡ m
literal_same l m e f = λ i. record { atom = e i; positive = f i }

pub opposite_twice : (l : Literal) → opposite (opposite l) ≡ l
opposite_twice l = literal_same (opposite (opposite l)) l refl (not_not l.positive)

pub same_or_opposite : (l m : Literal) → l.atom ≡ m.atom → (l ≡ m) ⊎ (l ≡ opposite m)
same_or_opposite l m e = split l.positive m.positive refl refl
  where
    split : (p q : Bool) → l.positive ≡ p → m.positive ≡ q → (l ≡ m) ⊎ (l ≡ opposite m)
    split true true f g = inl (literal_same l m e (f ∙ sym g))
    split true false f g = inr (literal_same l (opposite m) e (f ∙ sym (ap not g)))
    split false true f g = inr (literal_same l (opposite m) e (f ∙ sym (ap not g)))
    split false false f g = inl (literal_same l m e (f ∙ sym g))

-- an atom is another or it isn't
pub atom_cases : (a b : Atom) → (a ≡ b) ⊎ (a ≢ b)
atom_cases a b = split (true_or_false (same_atom a b))
  where
    split : (same_atom a b ≡ true) ⊎ (same_atom a b ≡ false) → (a ≡ b) ⊎ (a ≢ b)
    split (inl e) = inl (atom_is a b e)
    split (inr e) = inr (λ g. no_false (same_atom a b) (subst (λ x. same_atom a x ≡ true) g (atom_itself a)) e)

-- M: what atoms mean
module _ (M : Atom → Type 0) where
  -- not all of its literals are false, and no atom stands in it in both signs
  pub record Sound (c : List Literal) : Type 0 where
    pub truth : ¬ ((l : Literal) → Contains c l → ¬ (LiteralMeans M l))
    pub plain : (l : Literal) → Contains c l → ¬ (Contains c (opposite l))

  opposed : (l : Literal) → ¬ (¬ (LiteralMeans M (opposite l))) → ¬ (LiteralMeans M l)
  opposed l h = at l.positive h
    where
      at : (p : Bool) → ¬ (¬ (HoldsIf (not p) (M l.atom))) → ¬ (HoldsIf p (M l.atom))
      at true h g = h (λ n. n g)
      at false h g = h g

  pub resolvent_sound : (c d r : List Literal) → Sound c → Sound d → IsResolvent c d r → Sound r
  resolvent_sound c d r p q h = record { truth = whole; plain = no_both }
    where
      in_second : ((l : Literal) → Contains r l → ¬ (LiteralMeans M l)) → ¬ (¬ (LiteralMeans M (opposite h.pivot)))
      in_second all none = q.truth (λ l k. pick l k (atom_cases l.atom h.pivot.atom))
        where
          pick : (l : Literal) → Contains d l → (l.atom ≡ h.pivot.atom) ⊎ (l.atom ≢ h.pivot.atom) → ¬ (LiteralMeans M l)
          pick l k (inr ne) = all l ((h.exact l).1 (inr k, ne))
          pick l k (inl e) = own (same_or_opposite l (opposite h.pivot) e)
            where
              own : (l ≡ opposite h.pivot) ⊎ (l ≡ opposite (opposite h.pivot)) → ¬ (LiteralMeans M l)
              own (inl g) = subst (λ x. ¬ (LiteralMeans M x)) (sym g) none
              own (inr g) = absurd (q.plain (opposite h.pivot) h.clash.1 (subst (Contains d) g k))

      whole : ¬ ((l : Literal) → Contains r l → ¬ (LiteralMeans M l))
      whole all = p.truth (λ l k. pick l k (atom_cases l.atom h.pivot.atom))
        where
          pick : (l : Literal) → Contains c l → (l.atom ≡ h.pivot.atom) ⊎ (l.atom ≢ h.pivot.atom) → ¬ (LiteralMeans M l)
          pick l k (inr ne) = all l ((h.exact l).1 (inl k, ne))
          pick l k (inl e) = own (same_or_opposite l h.pivot e)
            where
              own : (l ≡ h.pivot) ⊎ (l ≡ opposite h.pivot) → ¬ (LiteralMeans M l)
              own (inl g) = subst (λ x. ¬ (LiteralMeans M x)) (sym g) (opposed h.pivot (in_second all))
              own (inr g) = absurd (p.plain h.pivot h.clash.0 (subst (Contains c) g k))

      no_both : (l : Literal) → Contains r l → ¬ (Contains r (opposite l))
      no_both l k m = split a.0 ((h.exact (opposite l)).0 m).0
        where
          a : (Contains c l ⊎ Contains d l) × (l.atom ≢ h.pivot.atom)
          a = (h.exact l).0 k

          split : Contains c l ⊎ Contains d l → Contains c (opposite l) ⊎ Contains d (opposite l) → ⊥
          split (inl x) (inl y) = p.plain l x y
          split (inr x) (inr y) = q.plain l x y
          split (inl x) (inr y) = a.1 (ap (λ (k : Literal). k.atom) (h.only l (x, y)))
          split (inr x) (inl y) = a.1 (ap (λ (k : Literal). k.atom) (h.only (opposite l) (y, subst (Contains d) (sym (opposite_twice l)) x)))

  pub same_sound : (c d : List Literal) → AreSame c d → Sound c → Sound d
  same_sound c d e s = record {
    truth = λ all. s.truth (λ l k. all l ((e l).0 k));
    plain = λ l k m. s.plain l ((e l).1 k) ((e (opposite l)).1 m);
  }

  abbrev pub AreSound : List (List Literal) → Type 0
  AreSound clauses = (c : List Literal) → Contains clauses c → Sound c

  pub sound_more : (clauses : List (List Literal)) (c : List Literal) → AreSound clauses → Sound c → AreSound (clauses ++ c ∷ [])
  sound_more clauses c all s d k = split (Contains-push_cases clauses c d k)
    where
      split : Contains clauses d ⊎ (c ≡ d) → Sound d
      split (inl h) = all d h
      split (inr e) = subst Sound e s

  chain_sound : (clauses : List (List Literal)) (ids : List ℕ) (c last : List Literal) → AreSound clauses → Sound c → ChainsFrom clauses c ids last → Sound last
  chain_sound clauses [] c last all s h = same_sound c last h s
  chain_sound clauses (id ∷ ids) c last all s h = chain_sound clauses ids h.2 last all (resolvent_sound c h.0 h.2 s (all h.0 (at_place clauses id h.0 h.1)) h.3) h.4

  pub chained_sound : (clauses : List (List Literal)) (ids : List ℕ) (last : List Literal) → AreSound clauses → IsChained clauses ids last → Sound last
  chained_sound clauses [] last all h = absurd h
  chained_sound clauses (first ∷ []) last all h = absurd h
  chained_sound clauses (first ∷ second ∷ ids) last all h = chain_sound clauses (second ∷ ids) h.0 last all (all h.0 (at_place clauses first h.0 h.1)) h.2

  pub empty_not_sound : ¬ (Sound [])
  empty_not_sound s = s.truth (λ l k. absurd (in_none l k))
