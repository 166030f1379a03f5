-- Facts, their denials, and lists of them.
use Rattle.std.proofs.Common.{◌≡◌, ◌≢◌, ◌↔◌, ◌⊎◌, inl, inr, ℕ, zero, suc, ◌<◌, Bool, true, false, not, ◌||◌, ◌&&◌, IsTrue, List, [], ◌∷◌, ◌++◌, map, filter, flat_map, cond, Contains, Option, Some, None, IfSome, slice_get, refl, sym, ap, ◌∙◌, subst}
use Rattle.std.specs.List.{list_any}
use Rattle.std.proofs.lemmas.Bool.{false≢true}
use Rattle.rdf_terms.specs.declared.term.Term.{Term}
use Rattle.rdf_terms.proofs.Orders.{term_tied}
use Rattle.rdf_navigation.specs.Values.{same_term}
use Rattle.rdf_terms.proofs.Members.{in_none, in_first, in_rest, in_cases}
use Rattle.shapes_profile.specs.Logic.{EachOf, SomeOf}
use Rattle.repair_problem.specs.declared.atom.Atom.{Atom}
use Rattle.repair_problem.specs.declared.atom.Part.{Part}
use Rattle.repair_problem.specs.declared.atom.Part.TheVariants.{Fixed, Lit}
use Rattle.repair_problem.specs.PartMeaning.{HoldsIf, PartMeans}
use Rattle.count_encode.specs.PartTruth.{negation}
use Rattle.core_constraints.proofs.Decided.{no_false, true_or_false, false_of}
use Rattle.atom_parts.specs.PartLiterals.{In}
use Rattle.atom_parts.specs.Fixing.{IsPositive}

pub iff_same : {P : Type 0} → P ↔ P
iff_same = (λ h. h, λ h. h)

pub iff_sym : {P Q : Type 0} → P ↔ Q → Q ↔ P
iff_sym e = (e.1, e.0)

pub iff_trans : {P Q S : Type 0} → P ↔ Q → Q ↔ S → P ↔ S
iff_trans e f = (λ p. f.0 (e.0 p), λ s. e.1 (f.1 s))

pub not_iff : {P Q : Type 0} → P ↔ Q → (¬ P) ↔ (¬ Q)
not_iff e = (λ h q. h (e.1 q), λ h p. h (e.0 p))

pub both_iff : {P Q A B : Type 0} → P ↔ A → Q ↔ B → (P × Q) ↔ (A × B)
both_iff e f = (λ h. (e.0 h.0, f.0 h.1), λ h. (e.1 h.0, f.1 h.1))

pub some_is : {X : Type 0} {x y : X} → Some x ≡ Some y → x ≡ y
some_is e = cc

pub none_some : {X : Type 0} {x : X} → None ≡ Some x → ⊥
none_some e = cc

pub both_true : (a b : Bool) → (a && b) ≡ true → (a ≡ true) × (b ≡ true)
both_true true b h = (refl, h)
both_true false b h = absurd (false≢true h)

-- equal terms are told to be so
pub tied : (x y : Term) → x ≡ y → same_term x y ≡ true
tied x y e = subst (λ z. same_term x z ≡ true) e (term_tied x)

-- what is fixed false
pub never_iff : {P : Type 0} → ¬ P → P ↔ (false ≡ true)
never_iff none = (λ p. absurd (none p), λ h. absurd (false≢true h))

-- what is fixed true
pub always_iff : {P : Type 0} → P → P ↔ (true ≡ true)
always_iff p = (λ h. refl, λ h. p)

-- that a part is false; it has to be fixed or an atom itself
pub not_part : (M : Atom → Type 0) (part : Part) → IsPositive part → (¬ (PartMeans M part)) ↔ PartMeans M (negation part)
not_part M (Fixed true) p = (λ h. absurd (h refl), λ h. absurd (false≢true h))
not_part M (Fixed false) p = (λ h. refl, λ h e. false≢true e)
not_part M (Lit l) p = subst (λ b. (¬ (HoldsIf b (M l.atom))) ↔ HoldsIf (not b) (M l.atom)) (sym p) iff_same

-- lists of one part and of two
pub one_all : {P Q : Type 0} → P ↔ Q → P ↔ (Q × Unit {0})
one_all e = (λ h. (e.0 h, tt), λ h. e.1 h.0)

pub one_any : {P Q : Type 0} → P ↔ Q → P ↔ (Q ⊎ ⊥)
one_any {P} {Q} e = (λ h. inl (e.0 h), back)
  where
    back : Q ⊎ ⊥ → P
    back (inl q) = e.1 q
    back (inr q) = absurd q

pub two_all : {P Q A B : Type 0} → P ↔ A → Q ↔ B → (P × Q) ↔ (A × (B × Unit {0}))
two_all e f = (λ h. (e.0 h.0, (f.0 h.1, tt)), λ h. (e.1 h.0, f.1 h.1.0))

pub each_map : {X Y : Type 0} (P : Y → Type 0) (f : X → Y) (xs : List X) → EachOf (λ x. P (f x)) xs ↔ EachOf P (map f xs)
each_map P f [] = iff_same
each_map P f (x ∷ xs) = let e = each_map P f xs in (λ h. (h.0, e.0 h.1), λ h. (h.0, e.1 h.1))

pub some_map : {X Y : Type 0} (P : Y → Type 0) (f : X → Y) (xs : List X) → SomeOf (λ x. P (f x)) xs ↔ SomeOf P (map f xs)
some_map P f [] = iff_same
some_map P f (x ∷ xs) = let e = some_map P f xs in (to e.0, back e.1)
  where
    to : (SomeOf (λ y. P (f y)) xs → SomeOf P (map f xs)) → P (f x) ⊎ SomeOf (λ y. P (f y)) xs → P (f x) ⊎ SomeOf P (map f xs)
    to g (inl h) = inl h
    to g (inr h) = inr (g h)

    back : (SomeOf P (map f xs) → SomeOf (λ y. P (f y)) xs) → P (f x) ⊎ SomeOf P (map f xs) → P (f x) ⊎ SomeOf (λ y. P (f y)) xs
    back g (inl h) = inl h
    back g (inr h) = inr (g h)

pub each_iff : {X : Type 0} (P Q : X → Type 0) → ((x : X) → P x ↔ Q x) → (xs : List X) → EachOf P xs ↔ EachOf Q xs
each_iff P Q e [] = iff_same
each_iff P Q e (x ∷ xs) = let r = each_iff P Q e xs in (λ h. ((e x).0 h.0, r.0 h.1), λ h. ((e x).1 h.0, r.1 h.1))

pub some_iff : {X : Type 0} (P Q : X → Type 0) → ((x : X) → P x ↔ Q x) → (xs : List X) → SomeOf P xs ↔ SomeOf Q xs
some_iff {X} P Q e [] = iff_same
some_iff {X} P Q e (x ∷ xs) = let r = some_iff P Q e xs in (go P Q (e x).0 r.0, go Q P (e x).1 r.1)
  where
    go : (A B : X → Type 0) → (A x → B x) → (SomeOf A xs → SomeOf B xs) → A x ⊎ SomeOf A xs → B x ⊎ SomeOf B xs
    go A B f g (inl h) = inl (f h)
    go A B f g (inr h) = inr (g h)

pub each_append : {X : Type 0} (P : X → Type 0) (xs ys : List X) → (EachOf P xs × EachOf P ys) ↔ EachOf P (xs ++ ys)
each_append P [] ys = (λ h. h.1, λ h. (tt, h))
each_append P (x ∷ xs) ys = let r = each_append P xs ys in (λ h. (h.0.0, r.0 (h.0.1, h.1)), λ h. let k = r.1 h.1 in ((h.0, k.0), k.1))

pub some_append : {X : Type 0} (P : X → Type 0) (xs ys : List X) → (SomeOf P xs ⊎ SomeOf P ys) ↔ SomeOf P (xs ++ ys)
some_append P [] ys = (first, λ h. inr h)
  where
    first : ⊥ ⊎ SomeOf P ys → SomeOf P ys
    first (inl h) = absurd h
    first (inr h) = h
some_append P (x ∷ xs) ys = let r = some_append P xs ys in (to r.0, back r.1)
  where
    to : (SomeOf P xs ⊎ SomeOf P ys → SomeOf P (xs ++ ys)) → (P x ⊎ SomeOf P xs) ⊎ SomeOf P ys → P x ⊎ SomeOf P (xs ++ ys)
    to g (inl (inl h)) = inl h
    to g (inl (inr h)) = inr (g (inl h))
    to g (inr h) = inr (g (inr h))

    again : SomeOf P xs ⊎ SomeOf P ys → (P x ⊎ SomeOf P xs) ⊎ SomeOf P ys
    again (inl k) = inl (inr k)
    again (inr k) = inr k

    back : (SomeOf P (xs ++ ys) → SomeOf P xs ⊎ SomeOf P ys) → P x ⊎ SomeOf P (xs ++ ys) → (P x ⊎ SomeOf P xs) ⊎ SomeOf P ys
    back g (inl h) = inl (inl h)
    back g (inr h) = again (g h)

pub some_flat_map : {X Y : Type 0} (P : Y → Type 0) (f : X → List Y) (xs : List X) → SomeOf (λ x. SomeOf P (f x)) xs ↔ SomeOf P (flat_map f xs)
some_flat_map P f [] = iff_same
some_flat_map P f (x ∷ xs) = iff_trans (or_iff (some_flat_map P f xs)) (some_append P (f x) (flat_map f xs))
  where
    or_iff : SomeOf (λ y. SomeOf P (f y)) xs ↔ SomeOf P (flat_map f xs) → (SomeOf P (f x) ⊎ SomeOf (λ y. SomeOf P (f y)) xs) ↔ (SomeOf P (f x) ⊎ SomeOf P (flat_map f xs))
    or_iff e = (go e.0, back e.1)
      where
        go : (SomeOf (λ y. SomeOf P (f y)) xs → SomeOf P (flat_map f xs)) → SomeOf P (f x) ⊎ SomeOf (λ y. SomeOf P (f y)) xs → SomeOf P (f x) ⊎ SomeOf P (flat_map f xs)
        go g (inl h) = inl h
        go g (inr h) = inr (g h)

        back : (SomeOf P (flat_map f xs) → SomeOf (λ y. SomeOf P (f y)) xs) → SomeOf P (f x) ⊎ SomeOf P (flat_map f xs) → SomeOf P (f x) ⊎ SomeOf (λ y. SomeOf P (f y)) xs
        back g (inl h) = inl h
        back g (inr h) = inr (g h)

pub each_flat_map : {X Y : Type 0} (P : Y → Type 0) (f : X → List Y) (xs : List X) → EachOf (λ x. EachOf P (f x)) xs ↔ EachOf P (flat_map f xs)
each_flat_map P f [] = iff_same
each_flat_map P f (x ∷ xs) = iff_trans (both_iff iff_same (each_flat_map P f xs)) (each_append P (f x) (flat_map f xs))

-- what is in a list by recursion
pub in_contains : {X : Type 0} (xs : List X) (y : X) → In xs y → Contains xs y
in_contains [] y h = absurd h
in_contains (x ∷ xs) y (inl e) = subst (λ z. Contains (x ∷ xs) z) e (in_first x xs)
in_contains (x ∷ xs) y (inr h) = in_rest x xs y (in_contains xs y h)

pub contains_in : {X : Type 0} (xs : List X) (y : X) → Contains xs y → In xs y
contains_in [] y h = absurd (in_none y h)
contains_in {X} (x ∷ xs) y h = split (in_cases x xs y h) (λ k. contains_in xs y k)
  where
    split : (x ≡ y) ⊎ Contains xs y → (Contains xs y → In xs y) → (x ≡ y) ⊎ In xs y
    split (inl e) more = inl e
    split (inr k) more = inr (more k)

-- what is asked of some or none that pass a test
pub any_true : {X : Type 0} (p : X → Bool) (xs : List X) (x : X) → In xs x → p x ≡ true → list_any p xs ≡ true
any_true p [] x h e = absurd h
any_true p (y ∷ xs) x (inl g) e = rw (ap p g ∙ e) refl
any_true p (y ∷ xs) x (inr h) e = rw (any_true p xs x h e) (or_true (p y))
  where
    or_true : (b : Bool) → (b || true) ≡ true
    or_true true = refl
    or_true false = refl

pub any_some : {X : Type 0} (p : X → Bool) (xs : List X) → list_any p xs ≡ true → (x : X) × In xs x × (p x ≡ true)
any_some p [] e = absurd (false≢true e)
any_some {X} p (y ∷ xs) e = go (p y) refl e (λ g. any_some p xs g)
  where
    go : (b : Bool) → p y ≡ b → (b || list_any p xs) ≡ true → (list_any p xs ≡ true → (x : X) × In xs x × (p x ≡ true)) → (x : X) × In (y ∷ xs) x × (p x ≡ true)
    go true f g more = (y, inl refl, f)
    go false f g more = let r = more g in (r.0, inr r.1, r.2)

pub if_some_more : {X : Type 0} (P Q : X → Type 0) (o : Option X) → ((x : X) → P x → Q x) → IfSome o P → IfSome o Q
if_some_more P Q None f h = tt
if_some_more P Q (Some x) f h = f x h
