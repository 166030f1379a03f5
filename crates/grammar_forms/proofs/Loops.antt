-- Reading one after another, as a loop does.
use Rattle.std.proofs.Common.{◌≡◌, ℕ, zero, suc, ◌≤◌, ◌<◌, Bool, true, false, cond, subst, ◌&&◌, List, [], ◌∷◌, ◌++◌, length, Some, None, refl, sym, ap, ◌∙◌, append_assoc, arith, length-append}
use Rattle.std.specs.Prelude.{encode_utf8, encode_utf8_all, option_and_then}
use Rattle.std.specs.List.{list_all}
use Rattle.std.proofs.lemmas.List.{append-nil}
use Rattle.std.proofs.lemmas.Str.{encodes-append}
use Rattle.grammar_forms.specs.Forms.{Form, One, many}
use Rattle.grammar_forms.specs.Reading.{Read, one_at, many_next, many_at, all_at, silent_at, skip_at, skip_some_at, Skips, written_at}
use Rattle.grammar_forms.specs.Exact.{Exact, IsNonempty}
use Rattle.grammar_forms.proofs.Exactness.{guard_some, some_is, one_exact, one_nonempty, many_exact}

pub and_both : (x y : Bool) → (x && y) ≡ true → (x ≡ true) × (y ≡ true)
and_both true y h = (refl, h)
and_both false y h = absurd cc

-- each item that is read takes a symbol at least
abbrev pub Consumes : {S A : Type 0} → (List S → Read S A) → Type 0
Consumes {S} {A} r = (cs : List S) (x : A × List S) → r cs ≡ Some x → length x.1 < length cs

pub consumes : {S A : Type 0} {P : Form S A} {F : List S → Type 0} {r : List S → Read S A} → Exact P F r → IsNonempty P → Consumes r
consumes {S} {A} {P} {F} {r} p full cs x e = let h = p.sound cs x e in omega (arith, full h.0 x.0 h.1, length-append h.0 x.1, ap length h.2)

-- these were read from the whole, and the rest is to be read
pub record SoFar {S A : Type 0} (r : List S → Read S A) (whole rest : List S) (vs : List A) : Type 0 where
  pub fuel : ℕ
  pub enough : length rest ≤ fuel
  pub front : many_at r (length whole) whole ≡ (vs ++ (many_at r fuel rest).0, (many_at r fuel rest).1)

pub begins : {S A : Type 0} (r : List S → Read S A) (whole : List S) → SoFar r whole whole []
begins r whole = record { fuel = length whole; enough = omega arith; front = refl }

more_by : {S A : Type 0} (r : List S → Read S A) (whole rest : List S) (vs : List A) (v : A) (after : List S) (n : ℕ) → length after < length rest → length rest ≤ n → r rest ≡ Some (v, after)
    → many_at r (length whole) whole ≡ (vs ++ (many_at r n rest).0, (many_at r n rest).1) → SoFar r whole after (vs ++ v ∷ [])
more_by r whole rest vs v after zero less le e so_far = absurd (omega arith)
more_by {S} {A} r whole rest vs v after (suc n) less le e so_far =
    let one : many_at r (suc n) rest ≡ (v ∷ (many_at r n after).0, (many_at r n after).1) = rw e refl in
    record {
      fuel = n;
      enough = omega arith;
      front = so_far ∙ ap (λ (p : List A × List S). (vs ++ p.0, p.1)) one ∙ ap (λ (t : List A). (t, (many_at r n after).1)) (sym (append_assoc vs (v ∷ []) (many_at r n after).0));
    }

-- one more is read, which took a symbol at least
pub more_at : {S A : Type 0} (r : List S → Read S A) (whole rest : List S) (vs : List A) (v : A) (after : List S) → length after < length rest → r rest ≡ Some (v, after) → SoFar r whole rest vs → SoFar r whole after (vs ++ v ∷ [])
more_at r whole rest vs v after less e s = more_by r whole rest vs v after s.fuel less s.enough e s.front

pub more : {S A : Type 0} (r : List S → Read S A) → Consumes r → (whole rest : List S) (vs : List A) (v : A) (after : List S) → r rest ≡ Some (v, after) → SoFar r whole rest vs → SoFar r whole after (vs ++ v ∷ [])
more r eats whole rest vs v after e s = more_at r whole rest vs v after (eats rest (v, after) e) e s

stops : {S A : Type 0} (r : List S → Read S A) (rest : List S) (n : ℕ) → r rest ≡ None → many_at r n rest ≡ ([], rest)
stops r rest zero e = refl
stops r rest (suc n) e = rw e refl

pub done : {S A : Type 0} (r : List S → Read S A) (whole rest : List S) (vs : List A) → r rest ≡ None → SoFar r whole rest vs → all_at r whole ≡ Some (vs, rest)
done {S} {A} r whole rest vs e s =
    ap (λ (p : List A × List S). Some p) (s.front ∙ ap (λ (p : List A × List S). (vs ++ p.0, p.1)) (stops r rest s.fuel e) ∙ ap (λ (t : List A). (t, rest)) (append-nil vs))

-- the same, with the characters written
abbrev pub Written : {S : Type 0} → (List S → Read S ℕ) → List S → List S → List ℕ → Type 0
Written r whole rest out = (vs : List ℕ) × (out ≡ encode_utf8_all vs) × SoFar r whole rest vs

pub written_more : {S : Type 0} (r : List S → Read S ℕ) (whole rest : List S) (out : List ℕ) (c : ℕ) (after : List S) → length after < length rest → r rest ≡ Some (c, after) → Written r whole rest out → Written r whole after (out ++ encode_utf8 c)
written_more r whole rest out c after less e w =
    (w.0 ++ c ∷ [], ap (λ (t : List ℕ). t ++ encode_utf8 c) w.1 ∙ ap (λ (t : List ℕ). encode_utf8_all w.0 ++ t) (sym (append-nil (encode_utf8 c))) ∙ sym (encodes-append w.0 (c ∷ [])), more_at r whole rest w.0 c after less e w.2)

-- a run of characters that are read one by one, each as itself
pub written_run : (r : List ℕ → Read ℕ ℕ) (p : ℕ → Bool) → ((c : ℕ) (cs : List ℕ) → p c ≡ true → r (c ∷ cs) ≡ Some (c, cs)) → (run whole rest out after : List ℕ) → list_all p run ≡ true → rest ≡ run ++ after → Written r whole rest out
    → Written r whole after (out ++ encode_utf8_all run)
written_run r p reads [] whole rest out after each e w = rw append-nil (subst (λ (t : List ℕ). Written r whole t out) e w)
written_run r p reads (c ∷ run) whole rest out after each e w =
    let both = and_both (p c) (list_all p run) each in
    let less : length (run ++ after) < length rest = omega (arith, ap length e) in
    let one = written_more r whole rest out c (run ++ after) less (ap r e ∙ reads c (run ++ after) both.0) w in
    subst (Written r whole after) (append_assoc out (encode_utf8 c) (encode_utf8_all run)) (written_run r p reads run whole (run ++ after) (out ++ encode_utf8 c) after both.1 refl one)

pub written_done : {S : Type 0} (r : List S → Read S ℕ) (whole rest : List S) (out : List ℕ) → r rest ≡ None → Written r whole rest out → written_at (all_at r) whole ≡ Some (out, rest)
written_done {S} r whole rest out e w =
    ap (λ (o : Read S (List ℕ)). option_and_then (λ x. Some (encode_utf8_all x.0, x.1)) o) (done r whole rest w.0 e w.2) ∙ ap (λ (t : List ℕ). Some (t, rest)) (sym w.1)

-- the same, with no meaning
abbrev pub Passed : {S A : Type 0} → (List S → Read S A) → List S → List S → Type 0
Passed {S} {A} r whole rest = (vs : List A) × SoFar r whole rest vs

pub passed_more : {S A : Type 0} (r : List S → Read S A) → Consumes r → (whole rest : List S) (c : A) (after : List S) → r rest ≡ Some (c, after) → Passed r whole rest → Passed r whole after
passed_more r eats whole rest c after e w = (w.0 ++ c ∷ [], more r eats whole rest w.0 c after e w.1)

pub passed_done : {S A : Type 0} (r : List S → Read S A) (whole rest : List S) → r rest ≡ None → Passed r whole rest → silent_at (all_at r) whole ≡ Some (tt, rest)
passed_done {S} {A} r whole rest e w = ap (λ (o : Read S (List A)). option_and_then (λ x. Some (tt, x.1)) o) (done r whole rest w.0 e w.1)

-- ---- all symbols of a class

many_one : {S : Type 0} (p : S → Bool) (vs a : List S) → many (One p) a vs → (a ≡ vs) × (list_all p vs ≡ true)
many_one p [] a h = (h, refl)
many_one p (v ∷ vs) a h =
    let k = many_one p vs h.back h.second in
    (rw (h.parts, h.first.spelled, k.0) refl, rw (h.first.passes, k.1) refl)

skip_stops_by : {S : Type 0} (p : S → Bool) (c : S) (cs : List S) (n : ℕ) → length cs ≤ n → one_at p (many_at (one_at p) n cs).1 ≡ None → (b : Bool) → p c ≡ b → one_at p (many_next (many_at (one_at p) n) (c ∷ cs) (cond b (Some (c, cs)) None)).1 ≡ None
skip_stops_by p c cs n le ih true e = ih
skip_stops_by p c cs n le ih false e = rw e refl

skip_stops : {S : Type 0} (p : S → Bool) (cs : List S) (n : ℕ) → length cs ≤ n → one_at p (many_at (one_at p) n cs).1 ≡ None
skip_stops p [] zero le = refl
skip_stops p [] (suc n) le = refl
skip_stops p (c ∷ cs) zero le = absurd (omega arith)
skip_stops p (c ∷ cs) (suc n) le = skip_stops_by p c cs n (omega arith) (skip_stops p cs n (omega arith)) (p c) refl

pub skips : {S : Type 0} (p : S → Bool) (cs rest : List S) → skip_at p cs ≡ Some (tt, rest) → Skips p cs rest
skips {S} p cs rest e =
    let h = (many_exact (one_exact p) (one_nonempty p)).sound cs (many_at (one_at p) (length cs) cs) refl in
    let same : (many_at (one_at p) (length cs) cs).1 ≡ rest = ap (λ (x : Unit {0} × List S). x.1) (some_is (tt, (many_at (one_at p) (length cs) cs).1) (tt, rest) e) in
    let k = many_one p (many_at (one_at p) (length cs) cs).0 h.0 h.1 in
    record {
      run = h.0;
      parts = h.2 ∙ ap (λ (t : List S). h.0 ++ t) same;
      each = ap (list_all p) k.0 ∙ k.1;
      stops = subst (λ (t : List S). one_at p t ≡ None) same (skip_stops p cs (length cs) (omega arith));
    }

-- one symbol of a class, and then all
pub skip_some_none : {S : Type 0} (p : S → Bool) (cs : List S) → one_at p cs ≡ None → skip_some_at p cs ≡ None
skip_some_none p [] e = refl
skip_some_none {S} p (c ∷ cs) e = none_by (p c) refl e
  where
    none_by : (b : Bool) → p c ≡ b → cond {A = Read S S} b (Some (c, cs)) None ≡ None → skip_some_at p (c ∷ cs) ≡ None
    none_by true k h = absurd cc
    none_by false k h = rw k refl

pub skip_some_more : {S : Type 0} (p : S → Bool) (cs : List S) (c : S) (after rest : List S) → one_at p cs ≡ Some (c, after) → skip_at p after ≡ Some (tt, rest) → skip_some_at p cs ≡ Some (tt, rest)
skip_some_more p [] c after rest e h = absurd cc
skip_some_more {S} p (d ∷ cs) c after rest e h =
    let g = guard_some (p d) (d, cs) (c, after) e in
    let same : cs ≡ after = ap (λ (x : S × List S). x.1) g.1 in
    rw (g.0) (subst (λ (t : List S). skip_at p t ≡ Some (tt, rest)) (sym same) h)
