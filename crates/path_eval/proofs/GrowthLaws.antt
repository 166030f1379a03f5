-- How the states of an automaton grow, and what they are compiled from.
use Rattle.std.proofs.Common.{◌≡◌, ◌≢◌, ℕ, zero, suc, ◌+◌, ◌-◌, ◌<◌, ◌≤◌, List, [], ◌∷◌, ◌++◌, length, set, Result, Ok, Err, IfOk, OnOk, Option, Some, slice_get, refl, sym, ap, ◌∙◌, subst, arith}
use Rattle.shapes_graph.specs.declared.paths.PathForm.{PathForm}
use Rattle.path_eval.specs.declared.direction.Direction.{Direction}
use Rattle.path_eval.specs.declared.automaton.State.{State}
use Rattle.path_eval.specs.declared.automaton.State.TheVariants.{Stuck, Fork}
use Rattle.path_eval.specs.Automaton.{IsGrown, IsPart, AreForked, CompiledBy, IsCompiled}
use Rattle.path_eval.proofs.VisitLaws.{slice_get_left}

pub length_push : (ss : List State) (s : State) → length (ss ++ s ∷ []) ≡ suc (length ss)
length_push [] s = refl
length_push (t ∷ ss) s = ap suc (length_push ss s)

get_pushed : (ss : List State) (s : State) → slice_get (ss ++ s ∷ []) (length ss) ≡ Some s
get_pushed [] s = refl
get_pushed (t ∷ ss) s = get_pushed ss s

get_set_same : (ss : List State) (i : ℕ) (s : State) → i < length ss → slice_get (set ss i s) i ≡ Some s
get_set_same [] i s l = absurd (omega (arith, l))
get_set_same (t ∷ ss) zero s l = refl
get_set_same (t ∷ ss) (suc i) s l = get_set_same ss i s (omega (arith, l))

get_set_other : (ss : List State) (i j : ℕ) (s : State) → i ≢ j → slice_get (set ss i s) j ≡ slice_get ss j
get_set_other [] i j s n = refl
get_set_other (t ∷ ss) zero zero s n = absurd (n refl)
get_set_other (t ∷ ss) zero (suc j) s n = refl
get_set_other (t ∷ ss) (suc i) zero s n = refl
get_set_other (t ∷ ss) (suc i) (suc j) s n = get_set_other ss i j s (λ e. n (ap suc e))

length_set : (ss : List State) (i : ℕ) (s : State) → length (set ss i s) ≡ length ss
length_set [] i s = refl
length_set (t ∷ ss) zero s = refl
length_set (t ∷ ss) (suc i) s = ap suc (length_set ss i s)

pub grown_push : (ss new : List State) (s : State) → new ≡ ss ++ s ∷ [] → IsGrown ss new
grown_push ss new s e = subst (IsGrown ss) (sym e) (record { longer = let l = length_push ss s in omega (arith, l); kept = λ i l. slice_get_left ss (s ∷ []) i l })

pub grown_then : (a b c : List State) → IsGrown a b → IsGrown b c → IsGrown a c
grown_then a b c g h = record { longer = let l = g.longer in let m = h.longer in omega (arith, l, m); kept = λ i l. h.kept i (let m = g.longer in omega (arith, l, m)) ∙ g.kept i l }

pub grown_set : (old ss : List State) (i : ℕ) (s : State) → IsGrown old ss → length old ≤ i → IsGrown old (set ss i s)
grown_set old ss i s g l = record { longer = let m = g.longer in let n = length_set ss i s in omega (arith, m, n); kept = λ j k. get_set_other ss i j s (λ e. omega (arith, e, l, k)) ∙ g.kept j k }

-- a part of what a list grew to is one of the list
pub part_of : (code old new : List State) (from lo : ℕ) → IsPart code new from → from ≤ lo → IsGrown old new → IsPart code old lo
part_of code old new from lo p l g = λ i a b. p i (omega (arith, l, a)) (let m = g.longer in omega (arith, m, b)) ∙ g.kept i b

pub part_set : (code ss : List State) (i from lo : ℕ) (s : State) → IsPart code (set ss i s) from → from ≤ lo → i < lo → IsPart code ss lo
part_set code ss i from lo s p l m = λ j a b. p j (omega (arith, l, a)) (let n = length_set ss i s in omega (arith, n, b)) ∙ get_set_other ss i j s (λ e. omega (arith, e, m, a))

pub set_at : (code ss : List State) (i from : ℕ) (s : State) → IsPart code (set ss i s) from → from ≤ i → i < length ss → slice_get code i ≡ Some s
set_at code ss i from s p l m = p i l (let n = length_set ss i s in omega (arith, n, m)) ∙ get_set_same ss i s m

pub pushed_at : (code ss new : List State) (s : State) (from e : ℕ) → new ≡ ss ++ s ∷ [] → e ≡ length ss → IsPart code new from → from ≤ e → slice_get code e ≡ Some s
pushed_at code ss new s from e n i p l =
    p e l (let a = ap length n in let b = length_push ss s in omega (arith, a, b, i)) ∙ (ap (slice_get new) i ∙ (ap (λ us. slice_get us (length ss)) n ∙ get_pushed ss s))

-- one state alone
pub pushed_alone : (code ss new : List State) (s : State) (e : ℕ) → new ≡ ss ++ s ∷ [] → e ≡ length ss → IsPart code new (length ss) → slice_get code e ≡ Some s
pushed_alone code ss new s e n i p = pushed_at code ss new s (length ss) e n i p (omega (arith, i))

pub if_ok_on : {T E : Type 0} (r : Result T E) (P : T → Type 0) (Q : Type 0) {R : T → Type 0} → IfOk r P → OnOk r Q → ((x : T) → P x → Q → R x) → IfOk r R
if_ok_on (Ok x) P Q p q f = f x p q
if_ok_on (Err e) P Q p q f = tt

pub if_ok : {T E : Type 0} (r : Result T E) (P : T → Type 0) {R : T → Type 0} → IfOk r P → ((x : T) → P x → R x) → IfOk r R
if_ok (Ok x) P p f = f x p
if_ok (Err e) P p f = tt

pub on_ok : {T E : Type 0} (r : Result T E) (P Q : Type 0) → OnOk r P → (P → Q) → OnOk r Q
on_ok (Ok x) P Q p f = f p
on_ok (Err e) P Q p f = tt

module _ (ps : List PathForm) (code : List State) where
  pub compiled_zero : (f p : ℕ) (d : Direction) (e k : ℕ) → f ≡ 0 → slice_get code e ≡ Some Stuck → IsCompiled f ps code p d e k
  unfolding IsCompiled
  compiled_zero zero p d e k z h = h
  compiled_zero (suc f) p d e k z h = absurd (omega (arith, z))

  pub compiled_form : (f p : ℕ) (o : Option PathForm) (d : Direction) (e k : ℕ) → 0 < f → slice_get ps p ≡ o → CompiledBy (λ q d e k. IsCompiled (f - 1) ps code q d e k) o code p d e k → IsCompiled f ps code p d e k
  unfolding IsCompiled
  compiled_form zero p o d e k l is h = absurd (omega (arith, l))
  compiled_form (suc f) p o d e k l is h =
      let m : suc f - 1 ≡ f = omega arith in
      let g : CompiledBy (λ q d e k. IsCompiled f ps code q d e k) o code p d e k = subst (λ j. CompiledBy (λ q d e k. IsCompiled j ps code q d e k) o code p d e k) m h in
      subst (λ q. CompiledBy (λ q d e k. IsCompiled f ps code q d e k) q code p d e k) (sym is) g

pub grown_same : (ss : List State) → IsGrown ss ss
grown_same ss = record { longer = omega arith; kept = λ i l. refl }

-- one fork more
pub forked_more : (C : ℕ → ℕ → Type 0) (code : List State) (qs : List ℕ) (i e a b q : ℕ) → slice_get code e ≡ Some (Fork a b) → slice_get qs i ≡ Some q → C q a → AreForked C code qs i b → AreForked C code qs (i + 1) e
forked_more C code qs i e a b q at is own more = let n : suc i ≡ i + 1 = omega arith in subst (λ j. AreForked C code qs j e) n (a, b, at, (q, is, own), more)

pub if_ok_both : {T E : Type 0} (r : Result T E) (P Q : T → Type 0) {R : T → Type 0} → IfOk r P → IfOk r Q → ((x : T) → P x → Q x → R x) → IfOk r R
if_ok_both (Ok x) P Q p q f = f x p q
if_ok_both (Err e) P Q p q f = tt
