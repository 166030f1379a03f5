-- Literals that are the same are equal.
use Rattle.std.proofs.Common.{◌≡◌, ℕ, Bool, true, false, ◌&&◌, nat_eq, List, [], ◌∷◌, refl, sym, ap, ◌∙◌, eqb-true, eq-eqb, get_or, cond, subst}
use Rattle.std.specs.Cmp.Lexicographic.{pointwise}
use Rattle.repair_problem.specs.declared.atom.Atom.{Atom}
use Rattle.repair_problem.specs.declared.atom.Atom.TheVariants.{Triple, Reach, Level, Middle, Good, Marked, Count, Differ, Twin, Holds, Conforms, Target}
use Rattle.repair_problem.specs.declared.atom.Literal.{Literal}
use Rattle.count_encode.specs.PartTruth.{signed}
use Rattle.premise_rules.specs.Literals.{key, same_atom, same_literal}
use Rattle.core_constraints.proofs.Decided.{no_false}
use Rattle.std.proofs.Math.Path.{fun_ext}
use Rattle.repair_problem.specs.contracts.atom.AtomPartialEq.TheImpl.{eq-value}

-- the atom of a key
abbrev atom_of : List ℕ → Atom
atom_of ns =
    cond (nat_eq (get_or ns 0 0) 0) (Triple (get_or ns 1 0))
    (cond (nat_eq (get_or ns 0 0) 1) (Reach (get_or ns 1 0) (get_or ns 2 0) (get_or ns 3 0))
    (cond (nat_eq (get_or ns 0 0) 2) (Level (get_or ns 1 0) (get_or ns 2 0) (get_or ns 3 0) (get_or ns 4 0))
    (cond (nat_eq (get_or ns 0 0) 3) (Middle (get_or ns 1 0) (get_or ns 2 0) (get_or ns 3 0) (get_or ns 4 0) (get_or ns 5 0))
    (cond (nat_eq (get_or ns 0 0) 4) (Good (get_or ns 1 0) (get_or ns 2 0))
    (cond (nat_eq (get_or ns 0 0) 5) (Marked (get_or ns 1 0) (get_or ns 2 0) (get_or ns 3 0))
    (cond (nat_eq (get_or ns 0 0) 6) (Count (get_or ns 1 0) (get_or ns 2 0) (get_or ns 3 0) (get_or ns 4 0))
    (cond (nat_eq (get_or ns 0 0) 7) (Differ (get_or ns 1 0) (get_or ns 2 0) (get_or ns 3 0))
    (cond (nat_eq (get_or ns 0 0) 8) (Twin (get_or ns 1 0) (get_or ns 2 0) (get_or ns 3 0) (get_or ns 4 0))
    (cond (nat_eq (get_or ns 0 0) 9) (Holds (get_or ns 1 0) (get_or ns 2 0))
    (cond (nat_eq (get_or ns 0 0) 10) (Conforms (get_or ns 1 0) (get_or ns 2 0)) (Target (get_or ns 1 0) (get_or ns 2 0))))))))))))

key_back : (a : Atom) → atom_of (key a) ≡ a
key_back (Triple t) = refl
key_back (Reach p x y) = refl
key_back (Level p k x y) = refl
key_back (Middle p k x z y) = refl
key_back (Good i y) = refl
key_back (Marked i x y) = refl
key_back (Count i x j m) = refl
key_back (Differ i x y) = refl
key_back (Twin i x y z) = refl
key_back (Holds i x) = refl
key_back (Conforms s x) = refl
key_back (Target s x) = refl

both : (a b : Bool) → (a && b) ≡ true → (a ≡ true) × (b ≡ true)
both true b h = (refl, h)
both false b h = absurd (no_false false h refl)

pointwise_is : (xs ys : List ℕ) → pointwise nat_eq xs ys ≡ true → xs ≡ ys
pointwise_is [] [] h = refl
pointwise_is [] (y ∷ ys) h = absurd (no_false false h refl)
pointwise_is (x ∷ xs) [] h = absurd (no_false false h refl)
pointwise_is (x ∷ xs) (y ∷ ys) h = let r = both _ _ h in let e = eqb-true x y r.0 in let f = pointwise_is xs ys r.1 in λ i. e i ∷ f i

pointwise_itself : (xs : List ℕ) → pointwise nat_eq xs xs ≡ true
pointwise_itself [] = refl
pointwise_itself (x ∷ xs) = rw (eq-eqb x x refl) (pointwise_itself xs)

sign_is : (p q : Bool) → signed p q ≡ true → p ≡ q
sign_is true true h = refl
sign_is true false h = absurd (no_false false h refl)
sign_is false true h = absurd (no_false false h refl)
sign_is false false h = refl

sign_itself : (p : Bool) → signed p p ≡ true
sign_itself true = refl
sign_itself false = refl

pub atom_is : (a b : Atom) → same_atom a b ≡ true → a ≡ b
atom_is a b h = sym (key_back a) ∙ ap atom_of (pointwise_is (key a) (key b) h) ∙ key_back b

pub atom_itself : (a : Atom) → same_atom a a ≡ true
atom_itself a = pointwise_itself (key a)

pub same_is : (l m : Literal) → same_literal l m ≡ true → l ≡ m
same_is l m h =
    let r = both _ _ h in
    let p = sign_is l.positive m.positive r.0 in
    let a = atom_is l.atom m.atom r.1 in
    λ i. record { atom = a i; positive = p i }

pub same_itself : (l : Literal) → same_literal l l ≡ true
same_itself l = rw (sign_itself l.positive) (pointwise_itself (key l.atom))

-- the test of atoms in the program is the same
first_same : (a b : ℕ) (rest : Bool) → (nat_eq a b && rest) ≡ true → (a ≡ b) × (rest ≡ true)
first_same a b rest h = let r = both (nat_eq a b) rest h in (eqb-true a b r.0, r.1)

pub value_is : (a b : Atom) → eq-value.it a b ≡ true → a ≡ b
value_is (Triple t) (Triple u) h = ap Triple (eqb-true t u h)
value_is (Reach p x y) (Reach q u v) h = let d = first_same p q _ h in let e = first_same x u _ d.1 in let f = eqb-true y v e.1 in λ i. Reach (d.0 i) (e.0 i) (f i)
value_is (Level p k x y) (Level q m u v) h = let d = first_same p q _ h in let e = first_same k m _ d.1 in let f = first_same x u _ e.1 in let g = eqb-true y v f.1 in λ i. Level (d.0 i) (e.0 i) (f.0 i) (g i)
value_is (Middle p k x z y) (Middle q m u w v) h = let d = first_same p q _ h in let e = first_same k m _ d.1 in let f = first_same x u _ e.1 in let g = first_same z w _ f.1 in let j = eqb-true y v g.1 in λ i. Middle (d.0 i) (e.0 i) (f.0 i) (g.0 i) (j i)
value_is (Good n y) (Good m v) h = let d = first_same n m _ h in let e = eqb-true y v d.1 in λ i. Good (d.0 i) (e i)
value_is (Marked n x y) (Marked m u v) h = let d = first_same n m _ h in let e = first_same x u _ d.1 in let f = eqb-true y v e.1 in λ i. Marked (d.0 i) (e.0 i) (f i)
value_is (Count n x y z) (Count m u v w) h = let d = first_same n m _ h in let e = first_same x u _ d.1 in let f = first_same y v _ e.1 in let g = eqb-true z w f.1 in λ i. Count (d.0 i) (e.0 i) (f.0 i) (g i)
value_is (Differ n x y) (Differ m u v) h = let d = first_same n m _ h in let e = first_same x u _ d.1 in let f = eqb-true y v e.1 in λ i. Differ (d.0 i) (e.0 i) (f i)
value_is (Twin n x y z) (Twin m u v w) h = let d = first_same n m _ h in let e = first_same x u _ d.1 in let f = first_same y v _ e.1 in let g = eqb-true z w f.1 in λ i. Twin (d.0 i) (e.0 i) (f.0 i) (g i)
value_is (Holds n x) (Holds m u) h = let d = first_same n m _ h in let e = eqb-true x u d.1 in λ i. Holds (d.0 i) (e i)
value_is (Conforms n x) (Conforms m u) h = let d = first_same n m _ h in let e = eqb-true x u d.1 in λ i. Conforms (d.0 i) (e i)
value_is (Target n x) (Target m u) h = let d = first_same n m _ h in let e = eqb-true x u d.1 in λ i. Target (d.0 i) (e i)
value_is a b h = absurd (no_false false h refl)

one : (x : ℕ) → nat_eq x x ≡ true
one x = eq-eqb x x refl

pub value_itself : (a : Atom) → eq-value.it a a ≡ true
value_itself (Triple t) = one t
value_itself (Reach p x y) = rw (one p, one x, one y) refl
value_itself (Level p k x y) = rw (one p, one k, one x, one y) refl
value_itself (Middle p k x z y) = rw (one p, one k, one x, one z, one y) refl
value_itself (Good i y) = rw (one i, one y) refl
value_itself (Marked i x y) = rw (one i, one x, one y) refl
value_itself (Count i x j m) = rw (one i, one x, one j, one m) refl
value_itself (Differ i x y) = rw (one i, one x, one y) refl
value_itself (Twin i x y z) = rw (one i, one x, one y, one z) refl
value_itself (Holds i x) = rw (one i, one x) refl
value_itself (Conforms s x) = rw (one s, one x) refl
value_itself (Target s x) = rw (one s, one x) refl

same_bool : (a b : Bool) → (a ≡ true → b ≡ true) → (b ≡ true → a ≡ true) → a ≡ b
same_bool true b f g = sym (f refl)
same_bool false true f g = g refl
same_bool false false f g = refl

pub tests_same : same_atom ≡ eq-value.it
tests_same = fun_ext (λ a. fun_ext (λ b. same_bool (same_atom a b) (eq-value.it a b) (λ h. subst (λ c. eq-value.it a c ≡ true) (atom_is a b h) (value_itself a)) (λ h. subst (λ c. same_atom a c ≡ true) (value_is a b h) (atom_itself a))))
