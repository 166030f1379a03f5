-- For each operator of a grammar: the function that reads it reads exactly its form.
use Rattle.std.proofs.Common.{◌≡◌, ℕ, ◌-◌, take, zero, suc, ◌≤◌, ◌<◌, Bool, true, false, cond, List, [], ◌∷◌, ◌++◌, length, Option, Some, None, refl, sym, ap, subst, ◌∙◌, append_assoc, arith, length-append, inl, inr, eqb, eq-eqb}
use Rattle.std.proofs.lemmas.Bool.{eqb-true}
use Rattle.std.proofs.lemmas.List.{append-nil}
use Rattle.std.proofs.Math.Seq.{take-append_seam}
use Rattle.std.specs.Prelude.{option_and_then, encode_utf8_all}
use Rattle.grammar_forms.specs.Forms.{Form, One, terminal, Then, many, some, either, optional, Made, Such, Where, Verbatim, is_nonempty, first_of, second_of, nothing, silent, written, ◌▹◌, ◌◃◌}
use Rattle.grammar_forms.specs.Reading.{Read, one_at, terminal_at, then_at, made_at, such_at, verbatim_at, or_else, either_at, optional_next, optional_at, many_next, many_at, all_at, some_at, over, left, behind, before, silent_at, written_at, only_whole, whole}
use Rattle.grammar_forms.specs.Exact.{Exact, anything, IsNonempty}

pub bind_some : {A B : Type 0} (o : Option A) (f : A → Option B) (y : B) → option_and_then f o ≡ Some y → (x : A) × (o ≡ Some x) × (f x ≡ Some y)
bind_some (Some x) f y e = (x, refl, e)
bind_some None f y e = absurd cc

pub guard_some : {A : Type 0} (b : Bool) (x y : A) → cond b (Some x) None ≡ Some y → (b ≡ true) × (x ≡ y)
guard_some true x y e = (refl, cc)
guard_some false x y e = absurd cc

pub some_is : {A : Type 0} (x y : A) → Some x ≡ Some y → x ≡ y
some_is x y e = cc

-- ---- one symbol

one_sound : {S : Type 0} (p : S → Bool) (cs : List S) (x : S × List S) → one_at p cs ≡ Some x → (a : List S) × One p a x.0 × (cs ≡ a ++ x.1)
one_sound p [] x e = absurd cc
one_sound {S} p (c ∷ cs) x e =
    let g = guard_some (p c) (c, cs) x e in
    subst (λ (y : S × List S). (a : List S) × One p a y.0 × (c ∷ cs ≡ a ++ y.1)) g.1 (c ∷ [], record { spelled = refl; passes = g.0 }, refl)

pub one_exact : {S : Type 0} (p : S → Bool) → Exact (One p) anything (one_at p)
one_exact p = record {
  sound = one_sound p;
  full = λ a rest v h f. rw (h.spelled, h.passes) refl;
}

pub one_nonempty : {S : Type 0} (p : S → Bool) → IsNonempty (One p)
one_nonempty p a v h = omega (arith, ap length h.spelled)

-- ---- one form after another

then_sound : {S A B : Type 0} (P : Form S A) (Q : Form S B) (F G : List S → Type 0) (r : List S → Read S A) (s : List S → Read S B)
    → Exact P F r → Exact Q G s → (cs : List S) (x : (A × B) × List S) → then_at r s cs ≡ Some x → (a : List S) × Then P Q a x.0 × (cs ≡ a ++ x.1)
then_sound {S} {A} {B} P Q F G r s p q cs x e =
    let one = bind_some (r cs) (λ y. option_and_then (λ z. Some ((y.0, z.0), z.1)) (s y.1)) x e in
    let two = bind_some (s one.0.1) (λ z. Some ((one.0.0, z.0), z.1)) x one.2 in
    let h = p.sound cs one.0 one.1 in
    let k = q.sound one.0.1 two.0 two.1 in
    subst (λ (y : (A × B) × List S). (a : List S) × Then P Q a y.0 × (cs ≡ a ++ y.1)) (some_is ((one.0.0, two.0.0), two.0.1) x two.2)
    (h.0 ++ k.0, record { front = h.0; back = k.0; parts = refl; first = h.1; second = k.1 }, h.2 ∙ ap (λ (t : List S). h.0 ++ t) k.2 ∙ sym (append_assoc h.0 k.0 two.0.1))

pub then_exact : {S A B : Type 0} {P : Form S A} {Q : Form S B} {F G : List S → Type 0} {r : List S → Read S A} {s : List S → Read S B}
    → Exact P F r → Exact Q G s → ((b rest : List S) (w : B) → Q b w → G rest → F (b ++ rest)) → Exact (Then P Q) G (then_at r s)
then_exact {S} {A} {B} {P} {Q} {F} {G} {r} {s} p q follows = record {
  sound = then_sound P Q F G r s p q;
  full = λ a rest v h g.
      let e : r (a ++ rest) ≡ Some (v.0, h.back ++ rest) = rw (h.parts, append_assoc) (p.full h.front (h.back ++ rest) v.0 h.first (follows h.back rest v.1 h.second g)) in
      rw (e, q.full h.back rest v.1 h.second g) refl;
}

-- ---- a meaning, a test

pub made_exact : {S A B : Type 0} (f : A → B) {P : Form S A} {F : List S → Type 0} {r : List S → Read S A} → Exact P F r → Exact (Made f P) F (made_at f r)
made_exact {S} {A} {B} f {P} {F} {r} p = record {
  sound = λ cs x e.
      let one = bind_some (r cs) (λ y. Some (f y.0, y.1)) x e in
      let h = p.sound cs one.0 one.1 in
      subst (λ (y : B × List S). (a : List S) × Made f P a y.0 × (cs ≡ a ++ y.1)) (some_is (f one.0.0, one.0.1) x one.2) (h.0, record { own = one.0.0; spelled = h.1; means = refl }, h.2);
  full = λ a rest v h g. rw (p.full a rest h.own h.spelled g, h.means) refl;
}

pub such_exact : {S A : Type 0} (t : A → Bool) {P : Form S A} {F : List S → Type 0} {r : List S → Read S A} → Exact P F r → Exact (Such t P) F (such_at t r)
such_exact {S} {A} t {P} {F} {r} p = record {
  sound = λ cs x e.
      let one = bind_some (r cs) (λ y. cond (t y.0) (Some y) None) x e in
      let g = guard_some (t one.0.0) one.0 x one.2 in
      let h = p.sound cs one.0 one.1 in
      subst (λ (y : A × List S). (a : List S) × Such t P a y.0 × (cs ≡ a ++ y.1)) g.1 (h.0, record { spelled = h.1; passes = g.0 }, h.2);
  full = λ a rest v h g. rw (p.full a rest v h.spelled g, h.passes) refl;
}

pub where_exact : {S A : Type 0} (t : A → Bool) (Q : A → Type 0) → ((v : A) → (t v ≡ true → Q v) × (Q v → t v ≡ true)) → {P : Form S A} {F : List S → Type 0} {r : List S → Read S A} → Exact P F r → Exact (Where Q P) F (such_at t r)
where_exact {S} {A} t Q decides {P} {F} {r} p = record {
  sound = λ cs x e. let h = (such_exact t p).sound cs x e in (h.0, record { spelled = h.1.spelled; has = (decides x.0).0 h.1.passes }, h.2);
  full = λ a rest v h g. (such_exact t p).full a rest v (record { spelled = h.spelled; passes = (decides v).1 h.has }) g;
}

-- ---- the text itself

pub take_front : {S : Type 0} (cs a rest : List S) → cs ≡ a ++ rest → take (length cs - length rest) cs ≡ a
take_front {S} cs a rest e =
    let n : length cs - length rest ≡ length a = omega (arith, length-append a rest, ap length e) in
    rw (n, e) (take-append_seam a rest)

pub verbatim_exact : {S A : Type 0} {P : Form S A} {F : List S → Type 0} {r : List S → Read S A} → Exact P F r → Exact (Verbatim P) F (verbatim_at r)
verbatim_exact {S} {A} {P} {F} {r} p = record {
  sound = λ cs x e.
      let one = bind_some (r cs) (λ y. Some (take (length cs - length y.1) cs, y.1)) x e in
      let h = p.sound cs one.0 one.1 in
      let same : (h.0, one.0.1) ≡ x = ap (λ (t : List S). (t, one.0.1)) (sym (take_front cs h.0 one.0.1 h.2)) ∙ some_is (take (length cs - length one.0.1) cs, one.0.1) x one.2 in
      subst (λ (y : List S × List S). (a : List S) × Verbatim P a y.0 × (cs ≡ a ++ y.1)) same (h.0, record { own = one.0.0; spelled = h.1; means = refl }, h.2);
  full = λ a rest v h g. rw (p.full a rest h.own h.spelled g, take_front (a ++ rest) a rest refl, h.means) refl;
}

-- ---- given symbols

terminal_again : (w rest : List ℕ) → terminal_at w (w ++ rest) ≡ Some (tt, rest)
terminal_again [] rest = refl
terminal_again (x ∷ w) rest = rw (eq-eqb x x refl) (terminal_again w rest)

terminal_step : (y : ℕ) (w : List ℕ) (c : ℕ) (cs : List ℕ) (x : Unit {0} × List ℕ) → (terminal_at w cs ≡ Some x → cs ≡ w ++ x.1) → (b : Bool) → eqb c y ≡ b
    → cond b (terminal_at w cs) None ≡ Some x → c ∷ cs ≡ (y ∷ w) ++ x.1
terminal_step y w c cs x ih true t e = let same : c ≡ y = eqb-true c y t in let k : cs ≡ w ++ x.1 = ih e in cc
terminal_step y w c cs x ih false t e = absurd cc

terminal_taken : (w cs : List ℕ) (x : Unit {0} × List ℕ) → terminal_at w cs ≡ Some x → cs ≡ w ++ x.1
terminal_taken [] cs x e = ap (λ (y : Unit {0} × List ℕ). y.1) (some_is (tt, cs) x e)
terminal_taken (y ∷ w) [] x e = absurd cc
terminal_taken (y ∷ w) (c ∷ cs) x e = terminal_step y w c cs x (terminal_taken w cs x) (eqb c y) refl e

pub terminal_exact : (w : List ℕ) → Exact (terminal w) anything (terminal_at w)
terminal_exact w = record {
  sound = λ cs x e. (w, refl, terminal_taken w cs x e);
  full = λ a rest v h f. rw h (terminal_again w rest);
}

-- ---- any number of times

many_step : {S A : Type 0} (P : Form S A) (F : List S → Type 0) (r : List S → Read S A) → Exact P F r → (n : ℕ) → ((cs : List S) → (a : List S) × many P a (many_at r n cs).0 × (cs ≡ a ++ (many_at r n cs).1))
    → (cs : List S) (o : Read S A) → r cs ≡ o → (a : List S) × many P a (many_next (many_at r n) cs o).0 × (cs ≡ a ++ (many_next (many_at r n) cs o).1)
many_step P F r p n ih cs None e = ([], refl, refl)
many_step {S} P F r p n ih cs (Some x) e =
    let h = p.sound cs x e in
    let k = ih x.1 in
    (h.0 ++ k.0, record { front = h.0; back = k.0; parts = refl; first = h.1; second = k.1 }, h.2 ∙ ap (λ (t : List S). h.0 ++ t) k.2 ∙ sym (append_assoc h.0 k.0 (many_at r n x.1).1))

many_taken : {S A : Type 0} (P : Form S A) (F : List S → Type 0) (r : List S → Read S A) → Exact P F r → (n : ℕ) (cs : List S) → (a : List S) × many P a (many_at r n cs).0 × (cs ≡ a ++ (many_at r n cs).1)
many_taken P F r p zero cs = ([], refl, refl)
many_taken P F r p (suc n) cs = many_step P F r p n (many_taken P F r p n) cs (r cs) refl

-- What may follow an item may follow any number of them, and each item may follow an item.
pub record Ends {S A : Type 0} (F : List S → Type 0) (r : List S → Read S A) (rest : List S) : Type 0 where
  pub stops : r rest ≡ None
  pub may_follow : F rest

follows_by : {S A : Type 0} (P : Form S A) (F : List S → Type 0) (r : List S → Read S A) → ((b rest : List S) (w : A) → P b w → F (b ++ rest))
    → (vs : List A) (b rest : List S) → many P b vs → Ends F r rest → F (b ++ rest)
follows_by P F r next [] b rest h f = rw h f.may_follow
follows_by P F r next (v ∷ vs) b rest h f = rw (h.parts, append_assoc) (next h.front (h.back ++ rest) v h.first)

many_again : {S A : Type 0} (P : Form S A) (F : List S → Type 0) (r : List S → Read S A) → Exact P F r → IsNonempty P → ((b rest : List S) (w : A) → P b w → F (b ++ rest))
    → (vs : List A) (n : ℕ) (a rest : List S) → many P a vs → Ends F r rest → length a ≤ n → many_at r n (a ++ rest) ≡ (vs, rest)
many_again P F r p full next [] zero a rest h f le = rw h refl
many_again P F r p full next [] (suc n) a rest h f le = rw (h, f.stops) refl
many_again P F r p full next (v ∷ vs) zero a rest h f le = absurd (omega (arith, full h.front v h.first, length-append h.front h.back, ap length h.parts))
many_again P F r p full next (v ∷ vs) (suc n) a rest h f le =
    let follows : F (h.back ++ rest) = follows_by P F r next vs h.back rest h.second f in
    let e : r (a ++ rest) ≡ Some (v, h.back ++ rest) = rw (h.parts, append_assoc) (p.full h.front (h.back ++ rest) v h.first follows) in
    let k : many_at r n (h.back ++ rest) ≡ (vs, rest) = many_again P F r p full next vs n h.back rest h.second f (omega (arith, full h.front v h.first, length-append h.front h.back, ap length h.parts)) in
    rw (e, k) refl

-- of items that not everything may follow
pub many_exact_by : {S A : Type 0} {P : Form S A} {F : List S → Type 0} {r : List S → Read S A} → Exact P F r → IsNonempty P → ((b rest : List S) (w : A) → P b w → F (b ++ rest)) → Exact (many P) (Ends F r) (all_at r)
many_exact_by {S} {A} {P} {F} {r} p full next = record {
  sound = λ cs x e. subst (λ (y : List A × List S). (a : List S) × many P a y.0 × (cs ≡ a ++ y.1)) (some_is (many_at r (length cs) cs) x e) (many_taken P F r p (length cs) cs);
  full = λ a rest vs h f. ap (λ (y : List A × List S). Some y) (many_again P F r p full next vs (length (a ++ rest)) a rest h f (omega (arith, length-append a rest)));
}

-- less may follow
pub narrow : {S A : Type 0} {P : Form S A} {F G : List S → Type 0} {r : List S → Read S A} → Exact P F r → ((rest : List S) → G rest → F rest) → Exact P G r
narrow {S} {A} {P} {F} {G} {r} p h = record { sound = p.sound; full = λ a rest v k g. p.full a rest v k (h rest g) }

pub many_exact : {S A : Type 0} {P : Form S A} {r : List S → Read S A} → Exact P anything r → IsNonempty P → Exact (many P) (λ rest. r rest ≡ None) (all_at r)
many_exact {S} {A} {P} {r} p full = narrow (many_exact_by p full (λ b rest w h. tt)) (λ rest f. record { stops = f; may_follow = tt })

pub some_exact : {S A : Type 0} {P : Form S A} {r : List S → Read S A} → Exact P anything r → IsNonempty P → Exact (some P) (λ rest. r rest ≡ None) (some_at r)
some_exact p full = such_exact is_nonempty (many_exact p full)

-- ---- a choice

either_step : {S A : Type 0} (P Q : Form S A) (F : List S → Type 0) (r s : List S → Read S A) → Exact P F r → Exact Q F s → (cs : List S) (x : A × List S) (o : Read S A) → r cs ≡ o
    → or_else o (s cs) ≡ Some x → (a : List S) × either P Q a x.0 × (cs ≡ a ++ x.1)
either_step P Q F r s p q cs x (Some y) e h = let k = p.sound cs x (e ∙ h) in (k.0, inl k.1, k.2)
either_step P Q F r s p q cs x None e h = let k = q.sound cs x h in (k.0, inr k.1, k.2)

pub either_exact : {S A : Type 0} {P Q : Form S A} {F : List S → Type 0} {r s : List S → Read S A} → Exact P F r → Exact Q F s
    → ((a rest : List S) (v : A) → Q a v → F rest → r (a ++ rest) ≡ None) → Exact (either P Q) F (either_at r s)
either_exact {S} {A} {P} {Q} {F} {r} {s} p q apart = record {
  sound = λ cs x e. either_step P Q F r s p q cs x (r cs) refl e;
  full = λ a rest v h f. elim h [ inl k ↦ rw (p.full a rest v k f) refl | inr k ↦ rw (apart a rest v k f, q.full a rest v k f) refl ];
}

-- ---- at most once

optional_step : {S A : Type 0} (P : Form S A) (F : List S → Type 0) (r : List S → Read S A) → Exact P F r → (cs : List S) (o : Read S A) → r cs ≡ o
    → (x : Option A × List S) → optional_next cs o ≡ Some x → (a : List S) × optional P a x.0 × (cs ≡ a ++ x.1)
optional_step {S} {A} P F r p cs None e x h = subst (λ (y : Option A × List S). (a : List S) × optional P a y.0 × (cs ≡ a ++ y.1)) (some_is (None, cs) x h) ([], refl, refl)
optional_step {S} {A} P F r p cs (Some z) e x h =
    let k = p.sound cs z e in
    subst (λ (y : Option A × List S). (a : List S) × optional P a y.0 × (cs ≡ a ++ y.1)) (some_is (Some z.0, z.1) x h) (k.0, k.1, k.2)

optional_again : {S A : Type 0} (P : Form S A) (F : List S → Type 0) (r : List S → Read S A) → Exact P F r → ((rest : List S) → F rest → r rest ≡ None)
    → (a rest : List S) (v : Option A) → optional P a v → F rest → optional_at r (a ++ rest) ≡ Some (v, rest)
optional_again P F r p stops a rest None h f = rw (h, stops rest f) refl
optional_again P F r p stops a rest (Some v) h f = rw (p.full a rest v h f) refl

pub optional_exact : {S A : Type 0} {P : Form S A} {F : List S → Type 0} {r : List S → Read S A} → Exact P F r → ((rest : List S) → F rest → r rest ≡ None) → Exact (optional P) F (optional_at r)
optional_exact {S} {A} {P} {F} {r} p stops = record {
  sound = λ cs x e. optional_step P F r p cs (r cs) refl x e;
  full = optional_again P F r p stops;
}

-- ---- in a row

pub over_exact : {S A B : Type 0} {P : Form S A} {Q : Form S B} {F G : List S → Type 0} {r : List S → Read S A} {s : List S → Read S B}
    → Exact P F r → Exact Q G s → ((b rest : List S) (w : B) → Q b w → G rest → F (b ++ rest)) → Exact (P ▹ Q) G (over r s)
over_exact p q f = made_exact second_of (then_exact p q f)

pub left_exact : {S A B : Type 0} {P : Form S A} {Q : Form S B} {F G : List S → Type 0} {r : List S → Read S A} {s : List S → Read S B}
    → Exact P F r → Exact Q G s → ((b rest : List S) (w : B) → Q b w → G rest → F (b ++ rest)) → Exact (P ◃ Q) G (left r s)
left_exact p q f = made_exact first_of (then_exact p q f)

pub behind_exact : (w : List ℕ) {A : Type 0} {P : Form ℕ A} {F : List ℕ → Type 0} {r : List ℕ → Read ℕ A} → Exact P F r → Exact (terminal w ▹ P) F (behind w r)
behind_exact w p = over_exact (terminal_exact w) p (λ b rest v h g. tt)

pub before_exact : (w : List ℕ) {A : Type 0} {P : Form ℕ A} {F : List ℕ → Type 0} {r : List ℕ → Read ℕ A} → Exact P F r → ((rest : List ℕ) → F (w ++ rest)) → Exact (P ◃ terminal w) anything (before w r)
before_exact w {A} {P} {F} {r} p f = left_exact p (terminal_exact w) (λ b rest v h g. subst (λ (t : List ℕ). F (t ++ rest)) (sym h) (f rest))

pub silent_exact : {S A : Type 0} {P : Form S A} {F : List S → Type 0} {r : List S → Read S A} → Exact P F r → Exact (silent P) F (silent_at r)
silent_exact p = made_exact nothing p

pub written_exact : {S : Type 0} {P : Form S (List ℕ)} {F : List S → Type 0} {r : List S → Read S (List ℕ)} → Exact P F r → Exact (written P) F (written_at r)
written_exact p = made_exact encode_utf8_all p

-- ---- a first symbol

-- the text begins with this symbol
abbrev pub Starts : {S : Type 0} → S → List S → Type 0
Starts {S} c a = (t : List S) × (a ≡ c ∷ t)

pub starts_nonempty : {S : Type 0} (c : S) (a : List S) → Starts c a → 0 < length a
starts_nonempty c a h = omega (arith, ap length h.1)

-- ---- all of a text

abbrev pub End : {S : Type 0} → List S → Type 0
End rest = rest ≡ []

only_is : {S A : Type 0} (v w : A) (rest : List S) → only_whole v rest ≡ Some w → (rest ≡ []) × (v ≡ w)
only_is v w [] e = (refl, cc)
only_is v w (c ∷ cs) e = absurd cc

pub whole_sound : {S A : Type 0} (P : Form S A) (r : List S → Read S A) → Exact P End r → (cs : List S) (v : A) → whole r cs ≡ Some v → P cs v
whole_sound {S} P r p cs v e =
    let one = bind_some (r cs) (λ x. only_whole x.0 x.1) v e in
    let h = p.sound cs one.0 one.1 in
    let g = only_is one.0.0 v one.0.1 one.2 in
    let same : h.0 ≡ cs = sym (h.2 ∙ ap (λ (t : List S). h.0 ++ t) g.0 ∙ append-nil h.0) in
    subst (λ (t : List S). P t v) same (subst (P h.0) g.1 h.1)

pub whole_full : {S A : Type 0} (P : Form S A) (r : List S → Read S A) → Exact P End r → (cs : List S) (v : A) → P cs v → whole r cs ≡ Some v
whole_full {S} P r p cs v h =
    let e : r cs ≡ Some (v, []) = subst (λ (t : List S). r t ≡ Some (v, [])) (append-nil cs) (p.full cs [] v h refl) in
    rw e refl
