-- Names in which dots may stand, but not at the end, are read exactly.
use Rattle.std.proofs.Common.{◌≡◌, ℕ, ◌<◌, Bool, true, false, cond, List, [], ◌∷◌, ◌++◌, length, Some, None, refl, sym, ap, ◌∙◌, arith}
use Rattle.std.proofs.lemmas.Bool.{eqb-true}
use Rattle.std.specs.Prelude.{◌==◌, ◌||◌}
use Rattle.grammar_forms.specs.Names.{IsNameEnd, name_end, onto, after_dot, end_of, name_end_at, NoName}
use Rattle.grammar_forms.specs.Exact.{Exact}
use Rattle.grammar_forms.specs.Reading.{char_at}
use Rattle.grammar_forms.proofs.Exactness.{some_is}

or_left : (x y : Bool) → x ≡ true → (x || y) ≡ true
or_left true y h = refl
or_left false y h = absurd cc

or_right : (x y : Bool) → y ≡ true → (x || y) ≡ true
or_right true y h = refl
or_right false y h = h

-- a C before the end of a name
longer_end : (p : ℕ → Bool) (c : ℕ) (cs : List ℕ) → p c ≡ true → IsNameEnd p cs → IsNameEnd p (c ∷ cs)
longer_end p c [] h k = h
longer_end p c (d ∷ cs) h k = (or_left (p c) (c == 46) h, k)

abbrev ReadsEnd : (ℕ → Bool) → List ℕ → List ℕ × List ℕ → Type 0
ReadsEnd p cs x = IsNameEnd p x.0 × (cs ≡ x.0 ++ x.1)

dot_step : (p : ℕ → Bool) (cs front rest : List ℕ) → IsNameEnd p front → cs ≡ front ++ rest → ReadsEnd p (46 ∷ cs) (after_dot cs front rest)
dot_step p cs [] rest h e = (tt, refl)
dot_step p cs (d ∷ ds) rest h e = ((or_right (p 46) true refl, h), ap (λ (t : List ℕ). 46 ∷ t) e)

sound_step : (p : ℕ → Bool) (c : ℕ) (cs : List ℕ) (x : List ℕ × List ℕ) → ReadsEnd p cs x → (t : Bool) → p c ≡ t → (u : Bool) → (c == 46) ≡ u
    → ReadsEnd p (c ∷ cs) (cond t (onto c x) (cond u (after_dot cs x.0 x.1) ([], c ∷ cs)))
sound_step p c cs x h true e u k = (longer_end p c x.0 e h.0, ap (λ (t : List ℕ). c ∷ t) h.1)
sound_step p c cs x h false e true k = let same : c ≡ 46 = eqb-true c 46 k in rw same (dot_step p cs x.0 x.1 h.0 h.1)
sound_step p c cs x h false e false k = (tt, refl)

reads_end : (p : ℕ → Bool) (cs : List ℕ) → ReadsEnd p cs (end_of p cs)
unfolding end_of
reads_end p [] = (tt, refl)
reads_end p (c ∷ cs) = sound_step p c cs (end_of p cs) (reads_end p cs) (p c) refl (c == 46) refl

full_step : (p : ℕ → Bool) (c d : ℕ) (cs rest : List ℕ) (t u : Bool) → (c == 46) ≡ u → (t || u) ≡ true
    → cond t (onto c (d ∷ cs, rest)) (cond u (after_dot (d ∷ cs ++ rest) (d ∷ cs) rest) ([], c ∷ d ∷ cs ++ rest)) ≡ (c ∷ d ∷ cs, rest)
full_step p c d cs rest true u k h = refl
full_step p c d cs rest false true k h = let same : c ≡ 46 = eqb-true c 46 k in rw same refl
full_step p c d cs rest false false k h = absurd cc

reads_full : (p : ℕ → Bool) (a rest : List ℕ) → IsNameEnd p a → NoName p rest → end_of p (a ++ rest) ≡ (a, rest)
unfolding end_of
reads_full p [] rest h none =
    let after : (end_of p rest).1 ≡ rest = sym ((reads_end p rest).1 ∙ ap (λ (t : List ℕ). t ++ (end_of p rest).1) none) in
    λ i. (none i, after i)
reads_full p (c ∷ []) rest h none = rw (h, reads_full p [] rest tt none) refl
reads_full p (c ∷ d ∷ cs) rest h none = rw (reads_full p (d ∷ cs) rest h.1 none) (full_step p c d cs rest (p c) (c == 46) refl h.0)

pub name_end_exact : (p : ℕ → Bool) → Exact (name_end p) (NoName p) (name_end_at p)
name_end_exact p = record {
  sound = λ cs x e.
      let same : (end_of p cs).1 ≡ x.1 = ap (λ (y : Unit {0} × List ℕ). y.1) (some_is (tt, (end_of p cs).1) x e) in
      let h = reads_end p cs in
      ((end_of p cs).0, h.0, h.1 ∙ ap (λ (t : List ℕ). (end_of p cs).0 ++ t) same);
  full = λ a rest v h none. rw (reads_full p a rest h none) refl;
}

pub no_name_nil : (p : ℕ → Bool) → NoName p []
unfolding end_of
no_name_nil p = refl

-- before what is neither a C nor a dot
pub no_name_before : (p : ℕ → Bool) (c : ℕ) (rest : List ℕ) → p c ≡ false → (c == 46) ≡ false → NoName p (c ∷ rest)
unfolding end_of
no_name_before p c rest h k = rw (h, k) refl

-- before a dot that no name follows
pub no_name_dot : (p : ℕ → Bool) (rest : List ℕ) → p 46 ≡ false → NoName p rest → NoName p (46 ∷ rest)
unfolding end_of
no_name_dot p rest h k = rw (h, k) refl

-- ---- as a loop reads them, which looks ahead over dots

abbrev pub after_ahead : List ℕ → List ℕ × List ℕ → List ℕ
after_ahead rest ([], after) = rest
after_ahead rest (c ∷ cs, after) = after

-- the name goes up to the rest, or further where more of it follows what was looked at
pub record NameSoFar (p : ℕ → Bool) (whole rest ahead : List ℕ) : Type 0 where
  pub rest_is : (end_of p whole).1 ≡ after_ahead rest (end_of p ahead)

ahead_same : (x : List ℕ × List ℕ) (cs : List ℕ) → cs ≡ x.0 ++ x.1 → x.1 ≡ after_ahead cs x
ahead_same ([], after) cs e = sym e
ahead_same (d ∷ ds, after) cs e = refl

pub char_is : (cs rest : List ℕ) (c : ℕ) → char_at cs ≡ Some (c, rest) → cs ≡ c ∷ rest
char_is [] rest c e = absurd cc
char_is (d ∷ cs) rest c e = ap (λ (y : ℕ × List ℕ). y.0 ∷ y.1) (some_is (d, cs) (c, rest) e)

pub name_begins : (p : ℕ → Bool) (whole : List ℕ) → NameSoFar p whole whole whole
name_begins p whole = record { rest_is = ahead_same (end_of p whole) whole (reads_end p whole).1 }

ahead_char : (p : ℕ → Bool) (rest : List ℕ) (c : ℕ) (after : List ℕ) → p c ≡ true → after_ahead rest (end_of p (c ∷ after)) ≡ after_ahead after (end_of p after)
unfolding end_of
ahead_char p rest c after h = rw h (ahead_same (end_of p after) after (reads_end p after).1)

pub name_char : (p : ℕ → Bool) (whole rest ahead : List ℕ) (c : ℕ) (after : List ℕ) → char_at ahead ≡ Some (c, after) → p c ≡ true → NameSoFar p whole rest ahead → NameSoFar p whole after after
name_char p whole rest ahead c after e h s =
    record { rest_is = s.rest_is ∙ ap (λ (t : List ℕ). after_ahead rest (end_of p t)) (char_is ahead after c e) ∙ ahead_char p rest c after h }

ahead_dot_by : (rest after : List ℕ) (x : List ℕ × List ℕ) → after_ahead rest (after_dot after x.0 x.1) ≡ after_ahead rest x
ahead_dot_by rest after ([], y) = refl
ahead_dot_by rest after (d ∷ ds, y) = refl

ahead_dot : (p : ℕ → Bool) (rest after : List ℕ) → p 46 ≡ false → after_ahead rest (end_of p (46 ∷ after)) ≡ after_ahead rest (end_of p after)
unfolding end_of
ahead_dot p rest after h = rw h (ahead_dot_by rest after (end_of p after))

pub name_dot : (p : ℕ → Bool) (whole rest ahead after : List ℕ) → char_at ahead ≡ Some (46, after) → p 46 ≡ false → NameSoFar p whole rest ahead → NameSoFar p whole rest after
name_dot p whole rest ahead after e h s =
    record { rest_is = s.rest_is ∙ ap (λ (t : List ℕ). after_ahead rest (end_of p t)) (char_is ahead after 46 e) ∙ ahead_dot p rest after h }

ahead_other : (p : ℕ → Bool) (rest : List ℕ) (c : ℕ) (after : List ℕ) → p c ≡ false → (c == 46) ≡ false → after_ahead rest (end_of p (c ∷ after)) ≡ rest
unfolding end_of
ahead_other p rest c after h k = rw (h, k) refl

pub name_stops : (p : ℕ → Bool) (whole rest ahead : List ℕ) (c : ℕ) (after : List ℕ) → char_at ahead ≡ Some (c, after) → p c ≡ false → (c == 46) ≡ false → NameSoFar p whole rest ahead → (end_of p whole).1 ≡ rest
name_stops p whole rest ahead c after e h k s =
    s.rest_is ∙ ap (λ (t : List ℕ). after_ahead rest (end_of p t)) (char_is ahead after c e) ∙ ahead_other p rest c after h k

ended_by : (p : ℕ → Bool) (rest ahead : List ℕ) → char_at ahead ≡ None → after_ahead rest (end_of p ahead) ≡ rest
unfolding end_of
ended_by p rest [] e = refl
ended_by p rest (c ∷ cs) e = absurd cc

pub name_ended : (p : ℕ → Bool) (whole rest ahead : List ℕ) → char_at ahead ≡ None → NameSoFar p whole rest ahead → (end_of p whole).1 ≡ rest
name_ended p whole rest ahead e s = s.rest_is ∙ ended_by p rest ahead e

pub char_shorter : (cs rest : List ℕ) (c : ℕ) → char_at cs ≡ Some (c, rest) → length rest < length cs
char_shorter cs rest c e = omega (arith, ap length (char_is cs rest c e))
