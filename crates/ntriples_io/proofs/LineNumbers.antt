-- The number of a line is 1, plus the LF bytes before it, plus the CR bytes before it that no LF follows.
use Rattle.std.proofs.Common.{◌≡◌, ℕ, ◌+◌, Bool, true, false, cond, not, List, [], ◌∷◌, ◌++◌, refl, sym, ap, subst, ◌∙◌, arith}
use Rattle.std.specs.Prelude.{◌&&◌, ◌||◌, ◌==◌}
use Rattle.std.specs.List.{All, list_all}
use Rattle.std.proofs.lemmas.Bool.{eqb-true}
use Rattle.std.proofs.lemmas.List.Elements.{All-nil, All-cons, All-append, All-head, All-tail, All-weaker}
use Rattle.rdf_terms.specs.declared.term.Scope.{Scope}
use Rattle.ntriples_io.specs.Cutting.{is_break, Line, Cut, begins_with_lf, if_pair, after_break, ends_first, begins_first, cut, lines_of, lf_count, lone_cr_count, is_plain, is_before_line, is_behind_line, IsNumbered}
use Rattle.ntriples_io.specs.Text.{IsFirstBad, BadLine}

abbrev ends_in_break : List ℕ → Bool
ends_in_break [] = false
ends_in_break (b ∷ []) = is_break b
ends_in_break (b ∷ c ∷ bs) = ends_in_break (c ∷ bs)

ends_on : (b : ℕ) (bs : List ℕ) → ends_in_break bs ≡ true → ends_in_break (b ∷ bs) ≡ true
ends_on b [] h = cc
ends_on b (c ∷ bs) h = h

before_line : (bs : List ℕ) → ends_in_break bs ≡ true → is_before_line bs ≡ true
before_line [] h = refl
before_line (b ∷ []) h = h
before_line (b ∷ c ∷ bs) h = before_line (c ∷ bs) h

-- a line behind the first one of bytes whose first line has the number n
record Numbers (n : ℕ) (bytes : List ℕ) (l : Line) : Type 0 where
  front : List ℕ
  rest : List ℕ
  parts : bytes ≡ front ++ (l.piece ++ rest)
  begins : ends_in_break front ≡ true
  ends : is_behind_line rest ≡ true
  plain : list_all is_plain l.piece ≡ true
  count : l.number ≡ n + lf_count front + lone_cr_count front (l.piece ++ rest)

-- the first line
record Leads (n : ℕ) (bytes : List ℕ) (l : Line) : Type 0 where
  rest : List ℕ
  parts : bytes ≡ l.piece ++ rest
  ends : is_behind_line rest ≡ true
  plain : list_all is_plain l.piece ≡ true
  count : l.number ≡ n

abbrev AreNumbered : ℕ → List ℕ → List Line → Line → Type 0
AreNumbered n bytes [] last = Leads n bytes last
AreNumbered n bytes (l ∷ ls) last = Leads n bytes l × All (Numbers n bytes) ls × Numbers n bytes last

-- ---- one more byte at the front

adds_by : (n : ℕ) (x y z : Bool) → (x || y) ≡ true → (x ≡ true → y ≡ false) → if_pair (y && z) n ≡ n + cond x 1 0 + cond (y && not z) 1 0
adds_by n true true z h apart = let none = apart refl in cc
adds_by n true false z h apart = omega arith
adds_by n false true true h apart = omega arith
adds_by n false true false h apart = omega arith
adds_by n false false z h apart = cc

no_cr : (b : ℕ) → (b == 10) ≡ true → (b == 13) ≡ false
no_cr b h = let e : b ≡ 10 = eqb-true b 10 h in rw e refl

break_adds : (n b : ℕ) (bs : List ℕ) → is_break b ≡ true → after_break n b bs ≡ n + cond (b == 10) 1 0 + cond ((b == 13) && not (begins_with_lf bs)) 1 0
break_adds n b bs h = adds_by n (b == 10) (b == 13) (begins_with_lf bs) h (no_cr b)

nothing_by : (x y z : Bool) → (x || y) ≡ false → (cond {A = ℕ} x 1 0 ≡ 0) × (cond {A = ℕ} (y && z) 1 0 ≡ 0)
nothing_by true y z h = cc
nothing_by false true z h = cc
nothing_by false false z h = (refl, refl)

leads_break : (n b : ℕ) (bs : List ℕ) → is_break b ≡ true → (l : Line) → Leads (after_break n b bs) bs l → Numbers n (b ∷ bs) l
leads_break n b bs h l k = record {
  front = b ∷ [];
  rest = k.rest;
  parts = ap (λ (t : List ℕ). b ∷ t) k.parts;
  begins = h;
  ends = k.ends;
  plain = k.plain;
  count = subst (λ (t : List ℕ). l.number ≡ n + (cond (b == 10) 1 0 + 0) + (cond ((b == 13) && not (begins_with_lf t)) 1 0 + 0)) k.parts (k.count ∙ break_adds n b bs h ∙ omega arith);
}

numbers_break : (n b : ℕ) (bs : List ℕ) → is_break b ≡ true → (l : Line) → Numbers (after_break n b bs) bs l → Numbers n (b ∷ bs) l
numbers_break n b bs h l k =
    let one = break_adds n b bs h in
    record {
      front = b ∷ k.front;
      rest = k.rest;
      parts = ap (λ (t : List ℕ). b ∷ t) k.parts;
      begins = ends_on b k.front k.begins;
      ends = k.ends;
      plain = k.plain;
      count =
          subst (λ (t : List ℕ). l.number ≡ n + (cond (b == 10) 1 0 + lf_count k.front) + (cond ((b == 13) && not (begins_with_lf t)) 1 0 + lone_cr_count k.front (l.piece ++ k.rest))) k.parts
          (by (cond (b == 10) 1 0) (cond ((b == 13) && not (begins_with_lf bs)) 1 0) (lf_count k.front) (lone_cr_count k.front (l.piece ++ k.rest)) one k.count);
    }
  where
    by : (x y u v : ℕ) → after_break n b bs ≡ n + x + y → l.number ≡ after_break n b bs + u + v → l.number ≡ n + (x + u) + (y + v)
    by x y u v e f = omega (arith, e, f)

all_break : (n b : ℕ) (bs : List ℕ) → is_break b ≡ true → (ls : List Line) (last : Line) → AreNumbered (after_break n b bs) bs ls last → All (Numbers n (b ∷ bs)) ls × Numbers n (b ∷ bs) last
all_break n b bs h [] last k = (All-nil (Numbers n (b ∷ bs)), leads_break n b bs h last k)
all_break n b bs h (l ∷ ls) last k = (
  All-cons (Numbers n (b ∷ bs)) l ls (leads_break n b bs h l k.0) (All-weaker (Numbers (after_break n b bs) bs) (Numbers n (b ∷ bs)) (λ m q. numbers_break n b bs h m q) ls k.1),
  numbers_break n b bs h last k.2,
)

plain_on : (b : ℕ) (bs : List ℕ) → is_break b ≡ false → list_all is_plain bs ≡ true → list_all is_plain (b ∷ bs) ≡ true
plain_on b bs h k = rw (h, k) refl

leads_plain : (n b : ℕ) (bs : List ℕ) → is_break b ≡ false → (l : Line) → Leads n bs l → Leads n (b ∷ bs) (record { number = l.number; piece = b ∷ l.piece })
leads_plain n b bs h l k = record {
  rest = k.rest;
  parts = ap (λ (t : List ℕ). b ∷ t) k.parts;
  ends = k.ends;
  plain = plain_on b l.piece h k.plain;
  count = k.count;
}

numbers_plain : (n b : ℕ) (bs : List ℕ) → is_break b ≡ false → (l : Line) → Numbers n bs l → Numbers n (b ∷ bs) l
numbers_plain n b bs h l k =
    let none = nothing_by (b == 10) (b == 13) (not (begins_with_lf (k.front ++ (l.piece ++ k.rest)))) h in
    record {
      front = b ∷ k.front;
      rest = k.rest;
      parts = ap (λ (t : List ℕ). b ∷ t) k.parts;
      begins = ends_on b k.front k.begins;
      ends = k.ends;
      plain = k.plain;
      count = by (cond (b == 10) 1 0) (cond ((b == 13) && not (begins_with_lf (k.front ++ (l.piece ++ k.rest)))) 1 0) (lf_count k.front) (lone_cr_count k.front (l.piece ++ k.rest)) none.0 none.1 k.count;
    }
  where
    by : (x y u v : ℕ) → x ≡ 0 → y ≡ 0 → l.number ≡ n + u + v → l.number ≡ n + (x + u) + (y + v)
    by x y u v e f g = omega (arith, e, f, g)

plain_first : (n b : ℕ) (bs : List ℕ) → is_break b ≡ false → (ls : List Line) (last : Line) → AreNumbered n bs ls last → AreNumbered n (b ∷ bs) (begins_first b ls last).ended (begins_first b ls last).last
plain_first n b bs h [] last k = leads_plain n b bs h last k
plain_first n b bs h (l ∷ ls) last k = (leads_plain n b bs h l k.0, All-weaker (Numbers n bs) (Numbers n (b ∷ bs)) (λ m q. numbers_plain n b bs h m q) ls k.1, numbers_plain n b bs h last k.2)

cut_step : (n b : ℕ) (bs : List ℕ) (t : Bool) → is_break b ≡ t → AreNumbered (after_break n b bs) bs (cut (after_break n b bs) bs).ended (cut (after_break n b bs) bs).last → AreNumbered n bs (cut n bs).ended (cut n bs).last
    → AreNumbered n (b ∷ bs) (cond t (ends_first (record { number = n; piece = [] }) (cut (after_break n b bs) bs)) (begins_first b (cut n bs).ended (cut n bs).last)).ended (cond t (ends_first (record { number = n; piece = [] }) (cut (after_break n b bs) bs)) (begins_first b (cut n bs).ended (cut n bs).last)).last
cut_step n b bs true e after same =
    let both = all_break n b bs e (cut (after_break n b bs) bs).ended (cut (after_break n b bs) bs).last after in
    (record { rest = b ∷ bs; parts = refl; ends = e; plain = refl; count = refl }, both.0, both.1)
cut_step n b bs false e after same = plain_first n b bs e (cut n bs).ended (cut n bs).last same

cut_numbered : (bytes : List ℕ) (n : ℕ) → AreNumbered n bytes (cut n bytes).ended (cut n bytes).last
unfolding cut
cut_numbered [] n = record { rest = []; parts = refl; ends = refl; plain = refl; count = refl }
cut_numbered (b ∷ bs) n = cut_step n b bs (is_break b) refl (cut_numbered bs (after_break n b bs)) (cut_numbered bs n)

-- ---- each line of a text

abbrev Numbered : List ℕ → Line → Type 0
Numbered bytes l = IsNumbered bytes l.piece l.number

leads_numbers : (bytes : List ℕ) (l : Line) → Leads 1 bytes l → Numbered bytes l
leads_numbers bytes l k = record { front = []; rest = k.rest; parts = k.parts; begins = refl; ends = k.ends; plain = k.plain; count = k.count }

later_numbers : (bytes : List ℕ) (l : Line) → Numbers 1 bytes l → Numbered bytes l
later_numbers bytes l k = record {
  front = k.front;
  rest = k.rest;
  parts = k.parts;
  begins = before_line k.front k.begins;
  ends = k.ends;
  plain = k.plain;
  count = k.count;
}

all_numbered : (bytes : List ℕ) (ls : List Line) (last : Line) → AreNumbered 1 bytes ls last → All (Numbered bytes) (ls ++ last ∷ [])
all_numbered bytes [] last k = All-cons (Numbered bytes) last [] (leads_numbers bytes last k) (All-nil (Numbered bytes))
all_numbered bytes (l ∷ ls) last k =
    All-cons (Numbered bytes) l (ls ++ last ∷ []) (leads_numbers bytes l k.0)
    (All-append (Numbered bytes) ls (last ∷ []) (All-weaker (Numbers 1 bytes) (Numbered bytes) (λ m q. later_numbers bytes m q) ls k.1)
    (All-cons (Numbered bytes) last [] (later_numbers bytes last k.2) (All-nil (Numbered bytes))))

within : (P : Line → Type 0) (before after : List Line) (l : Line) → All P (before ++ l ∷ after) → P l
within P [] after l h = All-head P l after h
within P (k ∷ before) after l h = within P before after l (All-tail P k (before ++ l ∷ after) h)

pub numbered_bad : (bytes : List ℕ) (scope : Scope) (n : ℕ) → IsFirstBad scope (lines_of bytes) n → BadLine bytes scope n
numbered_bad bytes scope n h =
    let each = all_numbered bytes (cut 1 bytes).ended (cut 1 bytes).last (cut_numbered bytes 1) in
    record { first = h; number = within (Numbered bytes) h.before h.after (record { number = n; piece = h.bad }) (subst (All (Numbered bytes)) h.parts each) }
