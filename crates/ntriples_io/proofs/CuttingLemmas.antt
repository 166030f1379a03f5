-- One more byte at the end of a cut.
use Rattle.std.proofs.Common.{◌≡◌, ℕ, ◌+◌, ◌-◌, Bool, true, false, cond, List, [], ◌∷◌, ◌++◌, refl, sym, ap, ◌∙◌, append_assoc, arith}
use Rattle.std.specs.Prelude.{not, ◌&&◌, ◌||◌, ◌==◌}
use Rattle.std.proofs.lemmas.Bool.{eqb-true}
use Rattle.std.proofs.lemmas.List.{append-nil}
use Rattle.ntriples_io.specs.Cutting.{is_break, is_plain, Line, Cut, begins_with_lf, if_pair, after_break, ends_first, begins_first, cut, ends_in_cr}
use Rattle.std.specs.List.{list_all}

abbrev pub push_plain : ℕ → Cut → Cut
push_plain b c = record { ended = c.ended; last = record { number = c.last.number; piece = c.last.piece ++ b ∷ [] } }

abbrev pub push_break : Cut → Cut
push_break c = record { ended = c.ended ++ c.last ∷ []; last = record { number = c.last.number + 1; piece = [] } }

-- the LF of a CR and LF
abbrev pub push_lf : Cut → Cut
push_lf c = record { ended = c.ended ++ record { number = c.last.number - 1; piece = [] } ∷ []; last = record { number = c.last.number; piece = [] } }

begins_plain : (c b : ℕ) (ls : List Line) (l : Line) → begins_first c ls (record { number = l.number; piece = l.piece ++ b ∷ [] }) ≡ push_plain b (begins_first c ls l)
begins_plain c b [] l = refl
begins_plain c b (k ∷ ls) l = refl

begins_break : (c : ℕ) (ls : List Line) (l : Line) (x : ℕ) → begins_first c (ls ++ l ∷ []) (record { number = x; piece = [] }) ≡ record { ended = (begins_first c ls l).ended ++ (begins_first c ls l).last ∷ []; last = record { number = x; piece = [] } }
begins_break c [] l x = refl
begins_break c (k ∷ ls) l x = refl

lf_kept : (xs : List ℕ) (b : ℕ) → (b == 10) ≡ false → begins_with_lf (xs ++ b ∷ []) ≡ begins_with_lf xs
lf_kept [] b h = h
lf_kept (x ∷ xs) b h = refl

or_false : (x y : Bool) → (x || y) ≡ false → x ≡ false
or_false true y h = h
or_false false y h = refl

not_lf : (b : ℕ) → is_break b ≡ false → (b == 10) ≡ false
not_lf b h = or_false (b == 10) (b == 13) h

plain_step : (n c : ℕ) (xs : List ℕ) (b : ℕ) → is_break b ≡ false → (t : Bool)
    → cut (after_break n c xs) (xs ++ b ∷ []) ≡ push_plain b (cut (after_break n c xs) xs) → cut n (xs ++ b ∷ []) ≡ push_plain b (cut n xs)
    → cond t (ends_first (record { number = n; piece = [] }) (cut (after_break n c (xs ++ b ∷ [])) (xs ++ b ∷ []))) (begins_first c (cut n (xs ++ b ∷ [])).ended (cut n (xs ++ b ∷ [])).last)
    ≡ push_plain b (cond t (ends_first (record { number = n; piece = [] }) (cut (after_break n c xs) xs)) (begins_first c (cut n xs).ended (cut n xs).last))
plain_step n c xs b h true e f = rw (lf_kept xs b (not_lf b h), e) refl
plain_step n c xs b h false e f = rw f (begins_plain c b (cut n xs).ended (cut n xs).last)

pub cut_plain : (n : ℕ) (xs : List ℕ) (b : ℕ) → is_break b ≡ false → cut n (xs ++ b ∷ []) ≡ push_plain b (cut n xs)
unfolding cut
cut_plain n [] b h = rw h refl
cut_plain n (c ∷ xs) b h = plain_step n c xs b h (is_break c) (cut_plain (after_break n c xs) xs b h) (cut_plain n xs b h)

-- ---- a break that is no LF of a CR and LF

and_false : (x : Bool) → (x && false) ≡ false
and_false true = refl
and_false false = refl

and_swap : (x y : Bool) → (x && y) ≡ (y && x)
and_swap true true = refl
and_swap true false = refl
and_swap false true = refl
and_swap false false = refl

-- what follows a break counts alike without the last byte
pair_same : (n c : ℕ) (xs : List ℕ) (b : ℕ) → ((b == 10) && ends_in_cr (c ∷ xs)) ≡ false → after_break n c (xs ++ b ∷ []) ≡ after_break n c xs
pair_same n c [] b h = ap (λ (t : Bool). if_pair t n) (and_swap (c == 13) (b == 10) ∙ h ∙ sym (and_false (c == 13)))
pair_same n c (d ∷ xs) b h = refl

cr_within : (c : ℕ) (xs : List ℕ) (b : ℕ) → ((b == 10) && ends_in_cr (c ∷ xs)) ≡ false → ((b == 10) && ends_in_cr xs) ≡ false
cr_within c [] b h = and_false (b == 10)
cr_within c (d ∷ xs) b h = h

same_number : (c : ℕ) (ls : List Line) (l : Line)
    → record { ended = (begins_first c ls l).ended ++ (begins_first c ls l).last ∷ []; last = record { number = l.number + 1; piece = [] } } ≡ push_break (begins_first c ls l)
same_number c [] l = refl
same_number c (k ∷ ls) l = refl

break_step : (n c : ℕ) (xs : List ℕ) (b : ℕ) → after_break n c (xs ++ b ∷ []) ≡ after_break n c xs → (t : Bool)
    → cut (after_break n c xs) (xs ++ b ∷ []) ≡ push_break (cut (after_break n c xs) xs) → cut n (xs ++ b ∷ []) ≡ push_break (cut n xs)
    → cond t (ends_first (record { number = n; piece = [] }) (cut (after_break n c (xs ++ b ∷ [])) (xs ++ b ∷ []))) (begins_first c (cut n (xs ++ b ∷ [])).ended (cut n (xs ++ b ∷ [])).last)
    ≡ push_break (cond t (ends_first (record { number = n; piece = [] }) (cut (after_break n c xs) xs)) (begins_first c (cut n xs).ended (cut n xs).last))
break_step n c xs b h true e f = rw (h, e) refl
break_step n c xs b h false e f = rw f (begins_break c (cut n xs).ended (cut n xs).last ((cut n xs).last.number + 1) ∙ same_number c (cut n xs).ended (cut n xs).last)

pub cut_break : (n : ℕ) (xs : List ℕ) (b : ℕ) → is_break b ≡ true → ((b == 10) && ends_in_cr xs) ≡ false → cut n (xs ++ b ∷ []) ≡ push_break (cut n xs)
unfolding cut
cut_break n [] b h k = rw (h, and_false (b == 13)) refl
cut_break n (c ∷ xs) b h k = break_step n c xs b (pair_same n c xs b k) (is_break c) (cut_break (after_break n c xs) xs b h (cr_within c xs b k)) (cut_break n xs b h (cr_within c xs b k))

-- ---- the LF of a CR and LF

abbrev HasOne : List Line → Type 0
HasOne [] = ⊥
HasOne (k ∷ ls) = Unit {0}

begins_lf : (c : ℕ) (ls : List Line) (l : Line) → HasOne ls → begins_first c (ls ++ record { number = l.number - 1; piece = [] } ∷ []) (record { number = l.number; piece = [] }) ≡ push_lf (begins_first c ls l)
begins_lf c [] l h = absurd h
begins_lf c (k ∷ ls) l h = refl

begins_one : (c : ℕ) (ls : List Line) (l : Line) → HasOne ls → HasOne (begins_first c ls l).ended
begins_one c [] l h = absurd h
begins_one c (k ∷ ls) l h = tt

one_step : (n c : ℕ) (xs : List ℕ) (t : Bool) (a : Cut) → HasOne (cut n xs).ended → HasOne (cond t (ends_first (record { number = n; piece = [] }) a) (begins_first c (cut n xs).ended (cut n xs).last)).ended
one_step n c xs true a h = tt
one_step n c xs false a h = begins_one c (cut n xs).ended (cut n xs).last h

-- a CR ended a line
has_one : (n : ℕ) (xs : List ℕ) → ends_in_cr xs ≡ true → HasOne (cut n xs).ended
unfolding cut
has_one n [] h = absurd cc
has_one n (c ∷ []) h = let e : c ≡ 13 = eqb-true c 13 h in rw e tt
has_one n (c ∷ d ∷ xs) h = one_step n c (d ∷ xs) (is_break c) (cut (after_break n c (d ∷ xs)) (d ∷ xs)) (has_one n (d ∷ xs) h)

lf_step : (n c : ℕ) (xs : List ℕ) → ends_in_cr xs ≡ true → after_break n c (xs ++ 10 ∷ []) ≡ after_break n c xs → (t : Bool)
    → cut (after_break n c xs) (xs ++ 10 ∷ []) ≡ push_lf (cut (after_break n c xs) xs) → cut n (xs ++ 10 ∷ []) ≡ push_lf (cut n xs)
    → cond t (ends_first (record { number = n; piece = [] }) (cut (after_break n c (xs ++ 10 ∷ [])) (xs ++ 10 ∷ []))) (begins_first c (cut n (xs ++ 10 ∷ [])).ended (cut n (xs ++ 10 ∷ [])).last)
    ≡ push_lf (cond t (ends_first (record { number = n; piece = [] }) (cut (after_break n c xs) xs)) (begins_first c (cut n xs).ended (cut n xs).last))
lf_step n c xs h k true e f = rw (k, e) refl
lf_step n c xs h k false e f = rw f (begins_lf c (cut n xs).ended (cut n xs).last (has_one n xs h))

pub cut_lf : (n : ℕ) (xs : List ℕ) → ends_in_cr xs ≡ true → cut n (xs ++ 10 ∷ []) ≡ push_lf (cut n xs)
unfolding cut
cut_lf n [] h = absurd cc
cut_lf n (c ∷ []) h = let e : c ≡ 13 = eqb-true c 13 h in let k : n + 1 - 1 ≡ n = omega arith in rw (e, k) refl
cut_lf n (c ∷ d ∷ xs) h = lf_step n c (d ∷ xs) h refl (is_break c) (cut_lf (after_break n c (d ∷ xs)) (d ∷ xs) h) (cut_lf n (d ∷ xs) h)

-- ---- what ended stays so

pub ends_push : (xs : List ℕ) (b : ℕ) → ends_in_cr (xs ++ b ∷ []) ≡ (b == 13)
ends_push [] b = refl
ends_push (c ∷ []) b = refl
ends_push (c ∷ d ∷ xs) b = ends_push (d ∷ xs) b

pub or_second : (x y : Bool) → (x || y) ≡ false → y ≡ false
or_second true y h = absurd cc
or_second false y h = h

pub and_both : (x y : Bool) → (x && y) ≡ true → (x ≡ true) × (y ≡ true)
and_both true y h = (refl, h)
and_both false y h = absurd cc

grows_by : (n : ℕ) (xs : List ℕ) (b : ℕ) (t : Bool) → is_break b ≡ t → (u : Bool) → ((b == 10) && ends_in_cr xs) ≡ u → (more : List Line) × ((cut n (xs ++ b ∷ [])).ended ≡ (cut n xs).ended ++ more)
grows_by n xs b false h u k = ([], ap (λ (c : Cut). c.ended) (cut_plain n xs b h) ∙ sym (append-nil (cut n xs).ended))
grows_by n xs b true h false k = ((cut n xs).last ∷ [], ap (λ (c : Cut). c.ended) (cut_break n xs b h k))
grows_by n xs b true h true k =
    let both = and_both (b == 10) (ends_in_cr xs) k in
    let e : b ≡ 10 = eqb-true b 10 both.0 in
    (record { number = (cut n xs).last.number - 1; piece = [] } ∷ [], rw e (ap (λ (c : Cut). c.ended) (cut_lf n xs both.1)))

pub grows : (ys : List ℕ) (n : ℕ) (xs : List ℕ) → (more : List Line) × ((cut n (xs ++ ys)).ended ≡ (cut n xs).ended ++ more)
grows [] n xs = ([], rw append-nil (sym (append-nil (cut n xs).ended)))
grows (y ∷ ys) n xs =
    let a = grows_by n xs y (is_break y) refl ((y == 10) && ends_in_cr xs) refl in
    let b = grows ys n (xs ++ y ∷ []) in
    (a.0 ++ b.0, ap (λ (t : List ℕ). (cut n t).ended) (sym (append_assoc xs (y ∷ []) ys)) ∙ b.1 ∙ ap (λ (t : List Line). t ++ b.0) a.1 ∙ append_assoc (cut n xs).ended a.0 b.0)

-- ---- a run of bytes with no break among them

abbrev pub push_run : List ℕ → Cut → Cut
push_run run c = record { ended = c.ended; last = record { number = c.last.number; piece = c.last.piece ++ run } }

not_true : (t : Bool) → not t ≡ true → t ≡ false
not_true true h = absurd cc
not_true false h = refl

pub cut_run : (n : ℕ) (run xs : List ℕ) → list_all is_plain run ≡ true → cut n (xs ++ run) ≡ push_run run (cut n xs)
cut_run n [] xs h = ap (λ (t : List ℕ). cut n t) (append-nil xs) ∙ ap (λ (t : List ℕ). record { ended = (cut n xs).ended; last = record { number = (cut n xs).last.number; piece = t } }) (sym (append-nil (cut n xs).last.piece))
cut_run n (b ∷ run) xs h =
    let both = and_both (is_plain b) (list_all is_plain run) h in
    let one : cut n (xs ++ b ∷ []) ≡ push_plain b (cut n xs) = cut_plain n xs b (not_true (is_break b) both.0) in
    ap (λ (t : List ℕ). cut n t) (sym (append_assoc xs (b ∷ []) run)) ∙ cut_run n run (xs ++ b ∷ []) both.1 ∙ ap (λ (c : Cut). push_run run c) one
    ∙ ap (λ (t : List ℕ). record { ended = (cut n xs).ended; last = record { number = (cut n xs).last.number; piece = t } }) (append_assoc (cut n xs).last.piece (b ∷ []) run)

pub run_ends : (b : ℕ) (run xs : List ℕ) → list_all is_plain (b ∷ run) ≡ true → ends_in_cr (xs ++ b ∷ run) ≡ false
run_ends b [] xs h =
    let both = and_both (is_plain b) true h in
    ends_push xs b ∙ or_second (b == 10) (b == 13) (not_true (is_break b) both.0)
run_ends b (c ∷ run) xs h =
    let both = and_both (is_plain b) (list_all is_plain (c ∷ run)) h in
    ap ends_in_cr (sym (append_assoc xs (b ∷ []) (c ∷ run))) ∙ run_ends c run (xs ++ b ∷ []) both.1
