-- The labels of a report are labels of N-Triples.
use Rattle.std.proofs.Common.{◌≡◌, ℕ, ◌<◌, ◌≤◌, ◌^◌, Bool, true, false, ◌||◌, ◌==◌, List, [], ◌∷◌, ◌++◌, codes, refl, sym, ap, ◌∙◌, subst, arith}
use Rattle.std.specs.Prelude.{decimal, encode_utf8_all}
use Rattle.std.specs.Char.{encode_utf8, is_ascii_digit}
use Rattle.std.specs.Int.{is_in_range}
use Rattle.std.specs.Str.Parse.{AllDigits}
use Rattle.std.proofs.lemmas.Str.{encodes-IsAscii}
use Rattle.std.proofs.lemmas.Str.Parse.{digit_at}
use Rattle.std.proofs.lemmas.Fmt.{decimal_is_IsNumeral, IsAscii-from_digits}
use Rattle.std.proofs.lemmas.Bool.Decides.{nat_tests}
use Rattle.grammar_forms.specs.Names.{IsNameEnd}
use Rattle.rdf_grammar.specs.declared.dialect.Dialect.TheVariants.{NTriples}
use Rattle.rdf_grammar.specs.Productions.{is_base, is_name_start, is_name_char, is_label_start, label}
use Rattle.rdf_grammar.specs.Lawful.{IsLabel}

-- what begins a label can stand in it
start_is_char : (c : ℕ) → is_label_start NTriples c ≡ true → is_name_char NTriples c ≡ true
unfolding is_label_start is_name_char
start_is_char c h = by_parts (is_name_start NTriples c) (c == 45) (is_ascii_digit c) (c == 0xB7) (is_in_range 0x300 0x36F c) (is_in_range 0x203F 0x2040 c) h
  where
    by_parts : (x y z p q r : Bool) → (x || z) ≡ true → (x || y || z || p || q || r) ≡ true
    by_parts true y z p q r h = refl
    by_parts false true z p q r h = refl
    by_parts false false true p q r h = refl
    by_parts false false false p q r h = absurd cc

or_true : (x y : Bool) → x ≡ true → (x || y) ≡ true
or_true true y h = refl
or_true false y h = absurd cc

-- one character more before an end
longer : (c : ℕ) (cs : List ℕ) → is_name_char NTriples c ≡ true → IsNameEnd (is_name_char NTriples) cs → IsNameEnd (is_name_char NTriples) (c ∷ cs)
longer c [] h k = h
longer c (d ∷ ds) h k = (or_true _ _ h, k)

dash : is_name_char NTriples 45 ≡ true
unfolding is_name_char is_name_start is_base
dash = refl

-- a letter and a dash before an end
dashed : (p : ℕ) (cs bytes : List ℕ) → is_label_start NTriples p ≡ true → encode_utf8_all (p ∷ 45 ∷ cs) ≡ p ∷ 45 ∷ encode_utf8_all cs → encode_utf8_all cs ≡ bytes → IsNameEnd (is_name_char NTriples) cs
    → IsLabel (p ∷ 45 ∷ bytes)
dashed p cs bytes h front spell end = record {
  characters = p ∷ 45 ∷ cs;
  spell = front ∙ ap (λ bs. p ∷ 45 ∷ bs) spell;
  is_label = record {
    own = (p, tt);
    spelled = record { front = p ∷ []; back = 45 ∷ cs; parts = refl; first = record { spelled = refl; passes = h }; second = longer 45 cs dash end };
    means = refl;
  };
}

-- a label is an end
label_end : (cs : List ℕ) → label NTriples cs tt → IsNameEnd (is_name_char NTriples) cs
label_end cs h =
    let same : cs ≡ h.own.0 ∷ h.spelled.back = rw (h.spelled.parts, h.spelled.first.spelled) refl in
    subst (IsNameEnd (is_name_char NTriples)) (sym same) (longer h.own.0 h.spelled.back (start_is_char h.own.0 h.spelled.first.passes) h.spelled.second)

pub of_data : (l : List ℕ) → IsLabel l → IsLabel (codes "d-" ++ l)
unfolding encode_utf8 is_label_start is_name_start is_base
of_data l h = dashed 100 h.characters l refl refl h.spell (label_end h.characters h.is_label)

pub of_shapes : (l : List ℕ) → IsLabel l → IsLabel (codes "s-" ++ l)
unfolding encode_utf8 is_label_start is_name_start is_base
of_shapes l h = dashed 115 h.characters l refl refl h.spell (label_end h.characters h.is_label)

digit_is_char : (c : ℕ) → 48 ≤ c → c ≤ 57 → is_name_char NTriples c ≡ true
unfolding is_name_char
digit_is_char c low high = by_parts (is_name_start NTriples c) (c == 45) (is_ascii_digit c) (c == 0xB7) (is_in_range 0x300 0x36F c) (is_in_range 0x203F 0x2040 c) digit
  where
    digit : is_ascii_digit c ≡ true
    digit = grind (arith, nat_tests)

    by_parts : (x y z p q r : Bool) → z ≡ true → (x || y || z || p || q || r) ≡ true
    by_parts true y z p q r h = refl
    by_parts false true z p q r h = refl
    by_parts false false true p q r h = refl
    by_parts false false false p q r h = absurd cc

digits_end : (ds : List ℕ) → AllDigits 10 ds → IsNameEnd (is_name_char NTriples) ds
digits_end [] h = tt
digits_end (c ∷ cs) h = let r = digit_at (c ∷ cs) 0 h (omega arith) in longer c cs (digit_is_char c r.0 r.1) (digits_end cs h.1)

pub of_result : (k : ℕ) → k < 2 ^ 64 → IsLabel (codes "r-" ++ decimal k)
unfolding encode_utf8 is_label_start is_name_start is_base
of_result k l =
    let digits = (decimal_is_IsNumeral k l).0.1 in
    dashed 114 (decimal k) (decimal k) refl refl (encodes-IsAscii (decimal k) (IsAscii-from_digits (decimal k) digits)) (digits_end (decimal k) digits)

pub of_report : IsLabel (codes "report")
unfolding encode_utf8 is_label_start is_name_char is_name_start is_base
of_report = record {
  characters = codes "report";
  spell = refl;
  is_label = record {
    own = (114, tt);
    spelled = record { front = codes "r"; back = codes "eport"; parts = refl; first = record { spelled = refl; passes = refl }; second = (refl, (refl, (refl, (refl, refl)))) };
    means = refl;
  };
}
