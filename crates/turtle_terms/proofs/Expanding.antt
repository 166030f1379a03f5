-- Local parts are appended in runs, with a character behind each backslash.
use Rattle.std.proofs.Common.{◌≡◌, ℕ, ◌≤◌, Bool, true, false, cond, not, List, [], ◌∷◌, ◌++◌, length, take, ◌-◌, Some, None, refl, sym, ap, subst, ◌∙◌, append_assoc, arith, length-append}
use Rattle.std.specs.Prelude.{◌==◌, ◌&&◌, encode_utf8, encode_utf8_all}
use Rattle.std.specs.List.{list_all}
use Rattle.std.specs.Str.{IsUtf8, chars}
use Rattle.std.proofs.lemmas.Bool.{eqb-true, false≢true}
use Rattle.std.proofs.lemmas.List.{append-nil}
use Rattle.std.proofs.lemmas.Str.{encodes-append, chars_from_encodes}
use Rattle.grammar_forms.specs.Reading.{char_at, one_at, terminal_at, Skips}
use Rattle.grammar_forms.proofs.Exactness.{some_is, take_front}
use Rattle.grammar_forms.proofs.Loops.{and_both}
use Rattle.regular_forms.proofs.Loops.{first_is}
use Rattle.turtle_terms.specs.Appending.{LeavesRest}
use Rattle.turtle_terms.specs.Names.{unescaped, is_not_colon, is_not_backslash, IsNameOf}

-- ---- a class of all characters but one

-- where the class stops and the one is not there, nothing is left
pub other_or_end : (d : ℕ) (rest : List ℕ) → one_at (λ c. not (c == d)) rest ≡ None → terminal_at (d ∷ []) rest ≡ None → rest ≡ []
other_or_end d [] s t = refl
other_or_end d (c ∷ cs) s t = by (c == d) refl
  where
    by : (b : Bool) → (c == d) ≡ b → c ∷ cs ≡ []
    by true e = let h : Some (tt {0}, cs) ≡ None = ap (λ (x : Bool). cond x (Some (tt {0}, cs)) None) (sym e) ∙ t in absurd cc
    by false e = let h : Some (c, cs) ≡ None = ap (λ (x : Bool). cond (not x) (Some (c, cs)) None) (sym e) ∙ s in absurd cc

pub terminal_is : (d : ℕ) (rest after : List ℕ) → terminal_at (d ∷ []) rest ≡ Some (tt, after) → rest ≡ d ∷ after
terminal_is d [] after t = absurd cc
terminal_is d (c ∷ cs) after t = by (c == d) refl
  where
    by : (b : Bool) → (c == d) ≡ b → c ∷ cs ≡ d ∷ after
    by true e =
        let h : Some (tt {0}, cs) ≡ Some (tt, after) = ap (λ (x : Bool). cond x (Some (tt {0}, cs)) None) (sym e) ∙ t in
        ap (λ (x : ℕ). x ∷ cs) (eqb-true c d e) ∙ ap (λ (x : Unit {0} × List ℕ). d ∷ x.1) (some_is (tt, cs) (tt, after) h)
    by false e = let h : None ≡ Some (tt {0}, after) = ap (λ (x : Bool). cond x (Some (tt {0}, cs)) None) (sym e) ∙ t in absurd cc

-- ---- names

-- the characters of the text before a rest
pub front_chars : (text rest front run : List ℕ) → IsUtf8 front → text ≡ run ++ rest → front ≡ encode_utf8_all (take (length text - length rest) text) → chars front ≡ run
front_chars text rest front run u parts e = sym (chars_from_encodes run front u (sym (e ∙ ap encode_utf8_all (take_front text run rest parts))))

pub name_split : (name rest local front : List ℕ) → IsUtf8 front → (s : Skips is_not_colon name rest) → front ≡ encode_utf8_all (take (length name - length rest) name) → terminal_at (58 ∷ []) rest ≡ Some (tt, local) → IsNameOf name (chars front) local
name_split name rest local front u s e t =
    let same : chars front ≡ s.run = front_chars name rest front s.run u s.parts e in
    rw same (record { parts = s.parts ∙ ap (λ (x : List ℕ). s.run ++ x) (terminal_is 58 rest local t); first = s.each })

pub no_name : (name rest : List ℕ) → Skips is_not_colon name rest → terminal_at (58 ∷ []) rest ≡ None → list_all is_not_colon name ≡ true
no_name name rest s t =
    let end : rest ≡ [] = other_or_end 58 rest s.stops t in
    subst (λ (x : List ℕ). list_all is_not_colon x ≡ true) (sym (s.parts ∙ ap (λ (x : List ℕ). s.run ++ x) end ∙ append-nil s.run)) s.each

-- ---- backslashes

run_plain : (run rest : List ℕ) → list_all is_not_backslash run ≡ true → unescaped false (run ++ rest) ≡ run ++ unescaped false rest
run_plain [] rest e = refl
run_plain (c ∷ run) rest e = by (run_plain run rest) (c == 92) refl (and_both (is_not_backslash c) (list_all is_not_backslash run) e)
  where
    by : (list_all is_not_backslash run ≡ true → unescaped false (run ++ rest) ≡ run ++ unescaped false rest) → (b : Bool) → (c == 92) ≡ b → (not (c == 92) ≡ true) × (list_all is_not_backslash run ≡ true) → unescaped false (c ∷ (run ++ rest)) ≡ c ∷ (run ++ unescaped false rest)
    by ih true h k = absurd (false≢true (ap not (sym h) ∙ k.0))
    by ih false h k = ap (λ (x : Bool). cond (x && true) (unescaped true (run ++ rest)) (c ∷ unescaped false (run ++ rest))) h ∙ ap (λ (x : List ℕ). c ∷ x) (ih k.1)

pub run_leaves : (text rest front old new : List ℕ) → (s : Skips is_not_backslash text rest) → front ≡ encode_utf8_all (take (length text - length rest) text) → new ≡ old ++ front → LeavesRest false old text new rest
run_leaves text rest front old new s e n =
    let bytes : front ≡ encode_utf8_all s.run = e ∙ ap encode_utf8_all (take_front text s.run rest s.parts) in
    record {
      same = ap (λ (x : List ℕ). old ++ encode_utf8_all (unescaped false x)) s.parts
          ∙ ap (λ (x : List ℕ). old ++ encode_utf8_all x) (run_plain s.run rest s.each)
          ∙ ap (λ (x : List ℕ). old ++ x) (encodes-append s.run (unescaped false rest))
          ∙ sym (append_assoc old (encode_utf8_all s.run) (encode_utf8_all (unescaped false rest)))
          ∙ ap (λ (x : List ℕ). x ++ encode_utf8_all (unescaped false rest)) (sym (n ∙ ap (λ (x : List ℕ). old ++ x) bytes));
    }

pub skips_shorter : (p : ℕ → Bool) (text rest : List ℕ) → Skips p text rest → length rest ≤ length text
skips_shorter p text rest s = omega (arith, ap length s.parts, length-append s.run rest)

pub behind_mark : (c : ℕ) (cs : List ℕ) (b : Bool) → (c == 92) ≡ b → unescaped true (c ∷ cs) ≡ c ∷ unescaped false cs
behind_mark c cs true e = ap (λ (x : Bool). cond (x && false) (unescaped true cs) (c ∷ unescaped false cs)) e
behind_mark c cs false e = ap (λ (x : Bool). cond (x && false) (unescaped true cs) (c ∷ unescaped false cs)) e

pub escaped_leaves : (c : ℕ) (text rest old new : List ℕ) → char_at text ≡ Some (c, rest) → new ≡ old ++ encode_utf8 c → LeavesRest true old text new rest
escaped_leaves c text rest old new e n = record {
  same = ap (λ (x : List ℕ). old ++ encode_utf8_all (unescaped true x)) (first_is c text rest e)
      ∙ ap (λ (x : List ℕ). old ++ encode_utf8_all x) (behind_mark c rest (c == 92) refl)
      ∙ sym (append_assoc old (encode_utf8 c) (encode_utf8_all (unescaped false rest)))
      ∙ ap (λ (x : List ℕ). x ++ encode_utf8_all (unescaped false rest)) (sym n);
}

no_char : (text : List ℕ) → char_at text ≡ None → text ≡ []
no_char [] e = refl
no_char (c ∷ cs) e = absurd cc

pub end_leaves : (text out : List ℕ) → char_at text ≡ None → LeavesRest true out text out text
end_leaves text out e = record { same = ap (λ (x : List ℕ). out ++ encode_utf8_all (unescaped true x)) (no_char text e) ∙ sym (ap (λ (x : List ℕ). out ++ encode_utf8_all (unescaped false x)) (no_char text e)) }

pub char_shorter : (c : ℕ) (text rest : List ℕ) → char_at text ≡ Some (c, rest) → length rest ≤ length text
char_shorter c text rest e = omega (arith, ap length (first_is c text rest e))

-- a backslash, the character behind it, and a run
pub escape_leaves : (old whole before rest escaped behind mid new after : List ℕ) → terminal_at (92 ∷ []) rest ≡ Some (tt, escaped) → LeavesRest false old whole before rest → LeavesRest true before escaped mid behind → LeavesRest false mid behind new after → LeavesRest false old whole new after
escape_leaves old whole before rest escaped behind mid new after t h k r = record {
  same = h.same ∙ ap (λ (x : List ℕ). before ++ encode_utf8_all (unescaped false x)) (terminal_is 92 rest escaped t) ∙ (k.same ∙ r.same);
}

pub all_left : (old whole out rest : List ℕ) → one_at is_not_backslash rest ≡ None → terminal_at (92 ∷ []) rest ≡ None → LeavesRest false old whole out rest → out ≡ old ++ encode_utf8_all (unescaped false whole)
all_left old whole out rest s t h = sym (h.same ∙ ap (λ (x : List ℕ). out ++ encode_utf8_all (unescaped false x)) (other_or_end 92 rest s t) ∙ append-nil out)
