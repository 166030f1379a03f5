-- The clause that is answered has the literals of the parts, each once, and is no tautology.
use Rattle.std.proofs.Common.{◌≡◌, ◌⊎◌, inl, inr, Bool, true, false, not, ◌||◌, cond, List, [], ◌∷◌, Some, refl, sym, ap, ◌∙◌, subst}
use Rattle.std.specs.List.{list_any, filter}
use Rattle.shapes_profile.specs.Logic.{EachOf}
use Rattle.repair_problem.specs.declared.atom.Atom.{Atom}
use Rattle.repair_problem.specs.declared.atom.Literal.{Literal}
use Rattle.repair_problem.specs.declared.atom.Part.{Part}
use Rattle.repair_problem.specs.declared.atom.Part.TheVariants.{Fixed, Lit}
use Rattle.repair_problem.specs.PartMeaning.{HoldsIf, PartMeans, LiteralMeans}
use Rattle.count_encode.specs.PartTruth.{opposite}
use Rattle.core_constraints.proofs.Decided.{no_false, true_or_false}
use Rattle.atom_parts.specs.PartLiterals.{In, literals}
use Rattle.atom_parts.proofs.Facts.{any_true}
use Rattle.premise_rules.specs.declared.clause.Clause.TheVariants.{Literals, Tautology}
use Rattle.premise_rules.specs.Literals.{same_literal, among, is_fixed_true, is_tautology, distinct, finished}
use Rattle.premise_rules.specs.Premises.{IsTrueOf}
use Rattle.premise_rules.proofs.ClauseTruth.{NotAllFalse}
use Rattle.premise_rules.proofs.SameLiterals.{same_is, same_itself}

-- The clause that is answered.
pub literals_kept : (ls : List Literal) (l : Literal) → In ls l → In (distinct ls) l
literals_kept [] l h = h
literals_kept (m ∷ ls) l (inl e) = inl e
literals_kept (m ∷ ls) l (inr h) = split (true_or_false (same_literal m l)) (literals_kept ls l h)
  where
    kept : (xs : List Literal) → In xs l → same_literal m l ≡ false → In (filter (λ x. not (same_literal m x)) xs) l
    kept [] h e = h
    kept (x ∷ xs) h e = go (same_literal m x) refl h (λ g. kept xs g e)
      where
        go : (b : Bool) → same_literal m x ≡ b → (x ≡ l) ⊎ In xs l → (In xs l → In (filter (λ x. not (same_literal m x)) xs) l) → In (cond (not b) (x ∷ filter (λ x. not (same_literal m x)) xs) (filter (λ x. not (same_literal m x)) xs)) l
        go true f (inl g) more = absurd (no_false (same_literal m l) (ap (same_literal m) (sym g) ∙ f) e)
        go true f (inr g) more = more g
        go false f (inl g) more = inl g
        go false f (inr g) more = inr (more g)

    split : (same_literal m l ≡ true) ⊎ (same_literal m l ≡ false) → In (distinct ls) l → In (distinct (m ∷ ls)) l
    split (inl e) r = inl (same_is m l e)
    split (inr e) r = inr (kept (distinct ls) r e)

-- and nothing else
pub literals_only : (ls : List Literal) (l : Literal) → In (distinct ls) l → In ls l
literals_only [] l h = h
literals_only (m ∷ ls) l (inl e) = inl e
literals_only (m ∷ ls) l (inr h) = inr (literals_only ls l (unfiltered (distinct ls) h))
  where
    unfiltered : (xs : List Literal) → In (filter (λ x. not (same_literal m x)) xs) l → In xs l
    unfiltered [] h = h
    unfiltered (x ∷ xs) h = go (same_literal m x) h (λ g. unfiltered xs g)
      where
        go : (b : Bool) → In (cond (not b) (x ∷ filter (λ x. not (same_literal m x)) xs) (filter (λ x. not (same_literal m x)) xs)) l → (In (filter (λ x. not (same_literal m x)) xs) l → In xs l) → (x ≡ l) ⊎ In xs l
        go true h more = inr (more h)
        go false (inl e) more = inl e
        go false (inr h) more = inr (more h)

pub none_false : (M : Atom → Type 0) (ps : List Part) → list_any is_fixed_true ps ≡ false → ((l : Literal) → In (literals ps) l → ¬ (HoldsIf l.positive (M l.atom))) → EachOf (λ p. ¬ (PartMeans M p)) ps
none_false M [] e all = tt
none_false M (Fixed true ∷ ps) e all = absurd (no_false true refl e)
none_false M (Fixed false ∷ ps) e all = (λ h. no_false false h refl, none_false M ps e all)
none_false M (Lit l ∷ ps) e all = (all l (inl refl), none_false M ps e (λ m h. all m (inr h)))

or_first : (a b : Bool) → (a || b) ≡ false → a ≡ false
or_first true b e = absurd (no_false true refl e)
or_first false b e = refl

or_second : (a b : Bool) → (a || b) ≡ false → b ≡ false
or_second true b e = absurd (no_false true refl e)
or_second false b e = e

pub record Finished (ps : List Part) (ls : List Literal) : Type 0 where
  pub no_fixed : list_any is_fixed_true ps ≡ false
  pub no_both : list_any (λ l. among (literals ps) (opposite l)) (literals ps) ≡ false
  pub same : distinct (literals ps) ≡ ls

pub finished_as : (ps : List Part) (ls : List Literal) → finished (Some ps) ≡ Literals ls → Finished ps ls
finished_as ps ls e = cases (is_tautology ps) refl e
  where
    literals_are : {xs ys : List Literal} → Literals xs ≡ Literals ys → xs ≡ ys
    literals_are e = cc

    cases : (b : Bool) → is_tautology ps ≡ b → cond b Tautology (Literals (distinct (literals ps))) ≡ Literals ls → Finished ps ls
    cases true h g = absurd (cc)
    cases false h g = record { no_fixed = or_first _ _ h; no_both = or_second (list_any is_fixed_true ps) _ h; same = literals_are g }

each_here : (M : Atom → Type 0) (ls : List Literal) (l : Literal) → EachOf (λ m. ¬ (LiteralMeans M m)) ls → In ls l → ¬ (LiteralMeans M l)
each_here M [] l all h = absurd h
each_here M (m ∷ ls) l all (inl e) = subst (λ k. ¬ (LiteralMeans M k)) e all.0
each_here M (m ∷ ls) l all (inr h) = each_here M ls l all.1 h

-- what is true of the parts is true of the literals that are answered
pub finished_true : (M : Atom → Type 0) (ps : List Part) (ls : List Literal) → finished (Some ps) ≡ Literals ls → NotAllFalse M ps → IsTrueOf M ls
finished_true M ps ls e holds all =
    let f = finished_as ps ls e in
    holds (none_false M ps f.no_fixed (λ l h. each_here M ls l all (subst (λ xs. In xs l) f.same (literals_kept (literals ps) l h))))

-- they are no tautology
pub finished_plain : (ps : List Part) (ls : List Literal) → finished (Some ps) ≡ Literals ls → (l : Literal) → In ls l → ¬ (In ls (opposite l))
finished_plain ps ls e l h g =
    let f = finished_as ps ls e in
    let back : (m : Literal) → In ls m → In (literals ps) m = λ m k. literals_only (literals ps) m (subst (λ xs. In xs m) (sym f.same) k) in
    no_false _ (any_true (λ k. among (literals ps) (opposite k)) (literals ps) l (back l h) (any_true (same_literal (opposite l)) (literals ps) (opposite l) (back (opposite l) g) (same_itself (opposite l)))) f.no_both
