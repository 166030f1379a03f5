-- One character of each group stands for all of them: each form of a token treats the group's characters alike. For
-- ASCII that is checked by computing, beyond it there are three shapes: no such character passes, each does, or it
-- depends on whether the character begins a name or may stand in one.
use Rattle.std.proofs.Common.{◌≡◌, ℕ, zero, suc, ◌≤◌, ◌<◌, Bool, true, false, cond, List, [], ◌∷◌, refl, sym, ap, ◌∙◌, arith, inl, inr}
use Rattle.std.specs.Prelude.{◌⊎◌, ◌==◌, ◌&&◌, ◌||◌, not, nat_le, nat_lt, codes}
use Rattle.std.specs.Int.{is_in_range}
use Rattle.std.specs.Char.{is_ascii_digit, is_ascii_alphabetic, is_ascii_alphanumeric}
use Rattle.std.proofs.lemmas.Bool.{eqb-true, leb-false, leb-true, lt-leb}
use Rattle.regular_forms.specs.Regular.{Regular, one, repeated, literal, is_char, is_in, is_not_in}
use Rattle.regular_forms.proofs.Alphabets.{Fits, AllFit}
use Rattle.rdf_grammar.specs.declared.dialect.Dialect.TheVariants.{Turtle}
use Rattle.rdf_grammar.specs.Productions.{is_hex, is_escape, is_base, is_name_start, is_name_char}
use Rattle.turtle_tokens.specs.declared.groups.CharGroup.{CharGroup}
use Rattle.turtle_tokens.specs.declared.groups.CharGroup.TheVariants as group
use Rattle.turtle_tokens.specs.declared.groups.LetterRole.TheVariants as role
use Rattle.turtle_tokens.specs.declared.kinds.TokenKind.{TokenKind}
use Rattle.turtle_tokens.specs.declared.kinds.TokenKind.TheVariants as kind
use Rattle.turtle_tokens.specs.Groups.{letter_role, mark_group, ascii_group, wide_group, group_at}
use Rattle.turtle_tokens.specs.Tokens.{hex, uchar, echar, is_iri_char, iri_part, is_inside_prefix, is_inside_local, pn_prefix, pname_ns, plx, begins_local, ends_local, pn_local, begins_label, short_part, short_string, long_part, long_string, sign, exponent, comment, closed_filling, last_filling, form}

abbrev pub sample : CharGroup → ℕ
sample group.Blank = 32
sample group.LineEnd = 10
sample group.DoubleQuote = 34
sample group.SingleQuote = 39
sample group.Hash = 35
sample group.Percent = 37
sample group.OpenParen = 40
sample group.CloseParen = 41
sample group.Plus = 43
sample group.Comma = 44
sample group.Minus = 45
sample group.Dot = 46
sample group.Colon = 58
sample group.Semicolon = 59
sample group.Less = 60
sample group.Greater = 62
sample group.At = 64
sample group.OpenBracket = 91
sample group.Backslash = 92
sample group.CloseBracket = 93
sample group.Caret = 94
sample group.Underscore = 95
sample group.Digit = 48
sample (group.Letter role.Hex) = 65
sample (group.Letter role.HexExponent) = 69
sample (group.Letter role.HexEscape) = 98
sample (group.Letter role.Escape) = 110
sample (group.Letter role.UpperU) = 85
sample (group.Letter role.LowerU) = 117
sample (group.Letter role.Plain) = 71
sample group.OnlyEscapable = 33
sample group.TextOnly = 0
sample group.NameStart = 0xC0
sample group.NameInside = 0xB7
sample group.Other = 0x80

abbrev FitsGroups : (ℕ → Bool) → Type 0
FitsGroups p = Fits group_at sample p

abbrev pub AllFitGroups : Regular → Type 0
AllFitGroups r = AllFit group_at sample r

-- ---- a class, by a test that is computed and its shape beyond ASCII

abbrev all_below : ℕ → (ℕ → Bool) → Bool
all_below zero p = true
all_below (suc n) p = p n && all_below n p

abbrev same : Bool → Bool → Bool
same true b = b
same false b = not b

same_is : (a b : Bool) → same a b ≡ true → a ≡ b
same_is true b h = sym h
same_is false true h = absurd cc
same_is false false h = refl

and_parts : (a b : Bool) → (a && b) ≡ true → (a ≡ true) × (b ≡ true)
and_parts true b h = (refl, h)
and_parts false b h = absurd cc

last_by : (n c : ℕ) (b : Bool) → nat_le n c ≡ b → c < suc n → (c ≡ n) ⊎ (c < n)
last_by n c true e h = inl (omega (arith, h, leb-true n c e))
last_by n c false e h = inr (leb-false n c e)

below_is : (n : ℕ) (p : ℕ → Bool) → all_below n p ≡ true → (c : ℕ) → c < n → p c ≡ true
below_is zero p h c le = absurd (omega (arith, le))
below_is (suc n) p h c le =
    let k = and_parts (p n) (all_below n p) h in
    elim (last_by n c (nat_le n c) refl le) [ inl e ↦ ap p e ∙ k.0 | inr l ↦ below_is n p k.1 c l ]

abbrev ascii_same : (ℕ → Bool) → ℕ → Bool
ascii_same p c = same (p c) (p (sample (ascii_group c)))

-- beyond ASCII the class is v of whether the character begins a name and whether it may stand in one
abbrev fits_test : (ℕ → Bool) → (Bool → Bool → Bool) → Bool
fits_test p v =
    all_below 128 (ascii_same p)
    && (same (v true true) (p 0xC0) && (same (v true false) (p 0xC0) && (same (v false true) (p 0xB7) && same (v false false) (p 0x80))))

wide_sample : (p : ℕ → Bool) (v : Bool → Bool → Bool) → v true true ≡ p 0xC0 → v true false ≡ p 0xC0 → v false true ≡ p 0xB7 → v false false ≡ p 0x80
    → (b m : Bool) → v b m ≡ p (sample (cond b group.NameStart (cond m group.NameInside group.Other)))
wide_sample p v s t u w true true = s
wide_sample p v s t u w true false = t
wide_sample p v s t u w false true = u
wide_sample p v s t u w false false = w

fits_at : (p : ℕ → Bool) → all_below 128 (ascii_same p) ≡ true → ((c : ℕ) → 128 ≤ c → p c ≡ p (sample (wide_group c))) → (c : ℕ) (b : Bool) → nat_lt c 128 ≡ b
    → p c ≡ p (sample (cond b (ascii_group c) (wide_group c)))
fits_at p h w c true e = same_is (p c) (p (sample (ascii_group c))) (below_is 128 (ascii_same p) h c (leb-true (suc c) 128 e))
fits_at p h w c false e = w c (omega (arith, leb-false (suc c) 128 e))

fits : (p : ℕ → Bool) (v : Bool → Bool → Bool) → fits_test p v ≡ true → ((c : ℕ) → 128 ≤ c → p c ≡ v (is_base c) (is_name_char Turtle c)) → FitsGroups p
unfolding group_at wide_group
fits p v h wide c =
    let k1 = and_parts (all_below 128 (ascii_same p)) _ h in
    let k2 = and_parts (same (v true true) (p 0xC0)) _ k1.1 in
    let k3 = and_parts (same (v true false) (p 0xC0)) _ k2.1 in
    let k4 = and_parts (same (v false true) (p 0xB7)) (same (v false false) (p 0x80)) k3.1 in
    let s = wide_sample p v (same_is (v true true) (p 0xC0) k2.0) (same_is (v true false) (p 0xC0) k3.0) (same_is (v false true) (p 0xB7) k4.0) (same_is (v false false) (p 0x80) k4.1) in
    fits_at p k1.0 (λ d le. wide d le ∙ s (is_base d) (is_name_char Turtle d)) c (nat_lt c 128) refl

abbrev never : Bool → Bool → Bool
never b m = false

abbrev always : Bool → Bool → Bool
always b m = true

abbrev if_begins : Bool → Bool → Bool
if_begins b m = b

abbrev if_inside : Bool → Bool → Bool
if_inside b m = b || m

-- ---- beyond ASCII

eq_is : (c d : ℕ) → 128 ≤ c → d < 128 → (b : Bool) → (c == d) ≡ b → b ≡ false
eq_is c d h k true e = absurd (omega (arith, eqb-true c d e, h, k))
eq_is c d h k false e = refl

eq : (c d : ℕ) → 128 ≤ c → d < 128 → (c == d) ≡ false
eq c d h k = eq_is c d h k (c == d) refl

le_is : (c d : ℕ) → 128 ≤ c → d < 128 → (b : Bool) → nat_le c d ≡ b → b ≡ false
le_is c d h k true e = absurd (omega (arith, leb-true c d e, h, k))
le_is c d h k false e = refl

le : (c d : ℕ) → 128 ≤ c → d < 128 → nat_le c d ≡ false
le c d h k = le_is c d h k (nat_le c d) refl

lt : (c d : ℕ) → 128 ≤ c → d ≤ 128 → nat_lt c d ≡ false
lt c d h k = lt-leb (suc c) d (omega (arith, h, k))

and_false : (b : Bool) → (b && false) ≡ false
and_false true = refl
and_false false = refl

or_false : (b : Bool) → (b || false) ≡ b
or_false true = refl
or_false false = refl

in_range : (c a b : ℕ) → 128 ≤ c → b < 128 → is_in_range a b c ≡ false
in_range c a b h k = rw (le c b h k) (and_false (nat_le a c))

abbrev all_ascii : List ℕ → Bool
all_ascii [] = true
all_ascii (d ∷ ds) = nat_lt d 128 && all_ascii ds

in_wide : (ds : List ℕ) (c : ℕ) → 128 ≤ c → all_ascii ds ≡ true → is_in ds c ≡ false
in_wide [] c h k = refl
in_wide (d ∷ ds) c h k = let j = and_parts (nat_lt d 128) (all_ascii ds) k in rw (eq c d h (leb-true (suc d) 128 j.0)) (in_wide ds c h j.1)

digit_wide : (c : ℕ) → 128 ≤ c → is_ascii_digit c ≡ false
digit_wide c h = in_range c 48 57 h (omega arith)

alphabetic_wide : (c : ℕ) → 128 ≤ c → is_ascii_alphabetic c ≡ false
alphabetic_wide c h = rw (in_range c 65 90 h (omega arith), in_range c 97 122 h (omega arith)) refl

alphanumeric_wide : (c : ℕ) → 128 ≤ c → is_ascii_alphanumeric c ≡ false
alphanumeric_wide c h = rw (in_range c 48 57 h (omega arith), in_range c 65 90 h (omega arith), in_range c 97 122 h (omega arith)) refl

hex_wide : (c : ℕ) → 128 ≤ c → is_hex c ≡ false
hex_wide c h = rw (lt c 48 h (omega arith), lt c 58 h (omega arith), lt c 65 h (omega arith), lt c 91 h (omega arith), lt c 97 h (omega arith), lt c 123 h (omega arith)) refl

escape_wide : (c : ℕ) → 128 ≤ c → is_escape c ≡ false
escape_wide c h = rw (eq c 116 h (omega arith), eq c 98 h (omega arith), eq c 110 h (omega arith), eq c 114 h (omega arith), eq c 102 h (omega arith), eq c 34 h (omega arith), eq c 39 h (omega arith), eq c 92 h (omega arith)) refl

iri_wide : (c : ℕ) → 128 ≤ c → is_iri_char c ≡ true
iri_wide c h = rw (in_range c 0 0x20 h (omega arith), in_wide (codes "<>\"{}|^`\\") c h refl) refl

start_wide : (c : ℕ) → 128 ≤ c → is_name_start Turtle c ≡ is_base c
unfolding is_name_start
start_wide c h = rw (eq c 95 h (omega arith)) (or_false (is_base c || false) ∙ or_false (is_base c))

-- what begins a name may stand in one
or_again : (b m : Bool) → (b || m) ≡ (b || (b || m))
or_again true m = refl
or_again false m = refl

or_assoc : (b x y z w v : Bool) → (b || x || y || z || w || v) ≡ (b || (x || y || z || w || v))
or_assoc true x y z w v = refl
or_assoc false x y z w v = refl

inside_by : (b x y z w v s m : Bool) → s ≡ b → m ≡ (s || x || y || z || w || v) → m ≡ (b || m)
inside_by b x y z w v s m e f = f ∙ ap (λ (t : Bool). t || x || y || z || w || v) e ∙ or_assoc b x y z w v ∙ or_again b (x || y || z || w || v) ∙ ap (λ (t : Bool). b || t) (sym (or_assoc b x y z w v) ∙ sym (ap (λ (t : Bool). t || x || y || z || w || v) e) ∙ sym f)

inside_wide : (c : ℕ) → 128 ≤ c → is_name_char Turtle c ≡ (is_base c || is_name_char Turtle c)
unfolding is_name_char
inside_wide c h = inside_by (is_base c) (c == 45) (is_ascii_digit c) (c == 0xB7) (is_in_range 0x300 0x36F c) (is_in_range 0x203F 0x2040 c) (is_name_start Turtle c) (is_name_char Turtle c) (start_wide c h) refl

inside_prefix_wide : (c : ℕ) → 128 ≤ c → is_inside_prefix c ≡ (is_base c || is_name_char Turtle c)
inside_prefix_wide c h = rw (eq c 46 h (omega arith)) (or_false (is_name_char Turtle c) ∙ inside_wide c h)

inside_local_wide : (c : ℕ) → 128 ≤ c → is_inside_local c ≡ (is_base c || is_name_char Turtle c)
inside_local_wide c h = rw (eq c 46 h (omega arith), eq c 58 h (omega arith)) (or_false (is_name_char Turtle c || false) ∙ or_false (is_name_char Turtle c) ∙ inside_wide c h)

ends_local_wide : (c : ℕ) → 128 ≤ c → ends_local c ≡ (is_base c || is_name_char Turtle c)
ends_local_wide c h = rw (eq c 58 h (omega arith)) (or_false (is_name_char Turtle c) ∙ inside_wide c h)

begins_local_wide : (c : ℕ) → 128 ≤ c → begins_local c ≡ is_base c
begins_local_wide c h = rw (eq c 58 h (omega arith), digit_wide c h) (or_false (is_name_start Turtle c || false) ∙ or_false (is_name_start Turtle c) ∙ start_wide c h)

begins_label_wide : (c : ℕ) → 128 ≤ c → begins_label c ≡ is_base c
begins_label_wide c h = rw (digit_wide c h) (or_false (is_name_start Turtle c) ∙ start_wide c h)

-- ---- the classes of the productions

abbrev in_test : List ℕ → Bool
in_test ds = all_ascii ds && fits_test (is_in ds) never

fits_is_in : (ds : List ℕ) → in_test ds ≡ true → FitsGroups (is_in ds)
fits_is_in ds h = let k = and_parts (all_ascii ds) (fits_test (is_in ds) never) h in fits (is_in ds) never k.1 (λ c le. in_wide ds c le k.0)

abbrev not_in_test : List ℕ → Bool
not_in_test ds = all_ascii ds && fits_test (is_not_in ds) always

fits_is_not_in : (ds : List ℕ) → not_in_test ds ≡ true → FitsGroups (is_not_in ds)
fits_is_not_in ds h = let k = and_parts (all_ascii ds) (fits_test (is_not_in ds) always) h in fits (is_not_in ds) always k.1 (λ c le. ap not (in_wide ds c le k.0))

abbrev char_test : ℕ → Bool
char_test d = nat_lt d 128 && fits_test (is_char d) never

fits_is_char : (d : ℕ) → char_test d ≡ true → FitsGroups (is_char d)
fits_is_char d h = let k = and_parts (nat_lt d 128) (fits_test (is_char d) never) h in fits (is_char d) never k.1 (λ c le. eq c d le (leb-true (suc d) 128 k.0))

abbrev literal_test : List ℕ → Bool
literal_test [] = true
literal_test (d ∷ ds) = char_test d && literal_test ds

pub fit_literal : (ds : List ℕ) → literal_test ds ≡ true → AllFitGroups (literal ds)
fit_literal [] h = tt
fit_literal (d ∷ []) h = fits_is_char d (and_parts (char_test d) true h).0
fit_literal (d ∷ e ∷ ds) h = let k = and_parts (char_test d) (literal_test (e ∷ ds)) h in (fits_is_char d k.0, fit_literal (e ∷ ds) k.1)

pub fit_repeated : (n : ℕ) (r : Regular) → AllFitGroups r → AllFitGroups (repeated n r)
fit_repeated zero r h = h
fit_repeated (suc n) r h = (h, fit_repeated n r h)

fits_digit : FitsGroups is_ascii_digit
unfolding ascii_group letter_role mark_group
fits_digit = fits is_ascii_digit never refl (λ c h. digit_wide c h)

fits_alphabetic : FitsGroups is_ascii_alphabetic
unfolding ascii_group letter_role mark_group
fits_alphabetic = fits is_ascii_alphabetic never refl (λ c h. alphabetic_wide c h)

fits_alphanumeric : FitsGroups is_ascii_alphanumeric
unfolding ascii_group letter_role mark_group
fits_alphanumeric = fits is_ascii_alphanumeric never refl (λ c h. alphanumeric_wide c h)

pub fits_hex : FitsGroups is_hex
unfolding ascii_group letter_role mark_group
fits_hex = fits is_hex never refl (λ c h. hex_wide c h)

fits_escape : FitsGroups is_escape
unfolding ascii_group letter_role mark_group
fits_escape = fits is_escape never refl (λ c h. escape_wide c h)

fits_iri_char : FitsGroups is_iri_char
unfolding ascii_group letter_role mark_group
fits_iri_char = fits is_iri_char always refl (λ c h. iri_wide c h)

fits_base : FitsGroups is_base
unfolding ascii_group letter_role mark_group is_base
fits_base = fits is_base if_begins refl (λ c h. refl)

fits_name_char : FitsGroups (is_name_char Turtle)
unfolding ascii_group letter_role mark_group is_base is_name_start is_name_char
fits_name_char = fits (is_name_char Turtle) if_inside refl (λ c h. inside_wide c h)

fits_inside_prefix : FitsGroups is_inside_prefix
unfolding ascii_group letter_role mark_group is_base is_name_start is_name_char
fits_inside_prefix = fits is_inside_prefix if_inside refl (λ c h. inside_prefix_wide c h)

fits_inside_local : FitsGroups is_inside_local
unfolding ascii_group letter_role mark_group is_base is_name_start is_name_char
fits_inside_local = fits is_inside_local if_inside refl (λ c h. inside_local_wide c h)

fits_begins_local : FitsGroups begins_local
unfolding ascii_group letter_role mark_group is_base is_name_start
fits_begins_local = fits begins_local if_begins refl (λ c h. begins_local_wide c h)

fits_ends_local : FitsGroups ends_local
unfolding ascii_group letter_role mark_group is_base is_name_start is_name_char
fits_ends_local = fits ends_local if_inside refl (λ c h. ends_local_wide c h)

fits_begins_label : FitsGroups begins_label
unfolding ascii_group letter_role mark_group is_base is_name_start
fits_begins_label = fits begins_label if_begins refl (λ c h. begins_label_wide c h)

-- ---- the productions

fit_uchar : AllFitGroups uchar
unfolding ascii_group letter_role mark_group
fit_uchar = ((fit_literal (codes "\\u") refl, fit_repeated 3 hex fits_hex), (fit_literal (codes "\\U") refl, fit_repeated 7 hex fits_hex))

fit_echar : AllFitGroups echar
unfolding ascii_group letter_role mark_group
fit_echar = (fit_literal (codes "\\") refl, fits_escape)

pub fit_iri_part : AllFitGroups iri_part
fit_iri_part = (fits_iri_char, fit_uchar)

abbrev short_test : ℕ → Bool
short_test q = not_in_test (q ∷ 0x5C ∷ 0xA ∷ 0xD ∷ [])

pub fit_short_part : (q : ℕ) → short_test q ≡ true → AllFitGroups (short_part q)
fit_short_part q h = (fits_is_not_in (q ∷ 0x5C ∷ 0xA ∷ 0xD ∷ []) h, (fit_echar, fit_uchar))

abbrev long_test : ℕ → Bool
long_test q = char_test q && not_in_test (q ∷ 0x5C ∷ [])

pub fit_long_part : (q : ℕ) → long_test q ≡ true → AllFitGroups (long_part q)
fit_long_part q h =
    let k = and_parts (char_test q) (not_in_test (q ∷ 0x5C ∷ [])) h in
    let c = fits_is_char q k.0 in
    (((c, (c, c)), tt), (fits_is_not_in (q ∷ 0x5C ∷ []) k.1, (fit_echar, fit_uchar)))

pub fit_quote : (q : ℕ) → char_test q ≡ true → AllFitGroups (one (is_char q))
fit_quote q h = fits_is_char q h

pub fit_long_quote : (q : ℕ) → char_test q ≡ true → AllFitGroups (literal (q ∷ q ∷ q ∷ []))
fit_long_quote q h = (fits_is_char q h, (fits_is_char q h, fits_is_char q h))

fit_short_string : (q : ℕ) → char_test q ≡ true → short_test q ≡ true → AllFitGroups (short_string q)
fit_short_string q h k = (fit_quote q h, (fit_short_part q k, fit_quote q h))

fit_long_string : (q : ℕ) → char_test q ≡ true → long_test q ≡ true → AllFitGroups (long_string q)
fit_long_string q h k = (fit_long_quote q h, (fit_long_part q k, fit_long_quote q h))

fit_pn_prefix : AllFitGroups pn_prefix
fit_pn_prefix = (fits_base, ((fits_inside_prefix, fits_name_char), tt))

fit_pname_ns : AllFitGroups pname_ns
unfolding ascii_group letter_role mark_group
fit_pname_ns = ((fit_pn_prefix, tt), fit_literal (codes ":") refl)

fit_plx : AllFitGroups plx
unfolding ascii_group letter_role mark_group
fit_plx = ((fit_literal (codes "%") refl, fit_repeated 1 hex fits_hex), (fit_literal (codes "\\") refl, fits_is_in (codes "_~.-!$&'()*+,;=/?#@%") refl))

fit_pn_local : AllFitGroups pn_local
fit_pn_local = ((fits_begins_local, fit_plx), (((fits_inside_local, fit_plx), (fits_ends_local, fit_plx)), tt))

fit_sign : AllFitGroups sign
unfolding ascii_group letter_role mark_group
fit_sign = (fits_is_in (codes "+-") refl, tt)

fit_exponent : AllFitGroups exponent
unfolding ascii_group letter_role mark_group
fit_exponent = (fits_is_in (codes "eE") refl, (fit_sign, (fits_digit, fits_digit)))

fit_comment : AllFitGroups comment
unfolding ascii_group letter_role mark_group
fit_comment = (fit_literal (codes "#") refl, fits_is_not_in (0xD ∷ 0xA ∷ []) refl)

pub fit_closed_filling : AllFitGroups closed_filling
unfolding ascii_group letter_role mark_group
fit_closed_filling = (fits_is_in (0x20 ∷ 0x9 ∷ 0xD ∷ 0xA ∷ []) refl, (fit_comment, fits_is_in (0xD ∷ 0xA ∷ []) refl))

pub fit_last_filling : AllFitGroups last_filling
fit_last_filling = (fit_closed_filling, fit_comment)

pub fit_form : (k : TokenKind) → AllFitGroups (form k)
unfolding ascii_group letter_role mark_group
fit_form kind.Dot = fit_literal (codes ".") refl
fit_form kind.Comma = fit_literal (codes ",") refl
fit_form kind.Semicolon = fit_literal (codes ";") refl
fit_form kind.OpenBracket = fit_literal (codes "[") refl
fit_form kind.CloseBracket = fit_literal (codes "]") refl
fit_form kind.OpenParen = fit_literal (codes "(") refl
fit_form kind.CloseParen = fit_literal (codes ")") refl
fit_form kind.DoubleCaret = fit_literal (codes "^^") refl
fit_form kind.Anon = (fit_literal (codes "[") refl, (fit_closed_filling, fit_literal (codes "]") refl))
fit_form kind.IriRef = (fit_literal (codes "<") refl, (fit_iri_part, fit_literal (codes ">") refl))
fit_form kind.PnameNs = fit_pname_ns
fit_form kind.PnameLn = (fit_pname_ns, fit_pn_local)
fit_form kind.BlankNodeLabel = (fit_literal (codes "_:") refl, (fits_begins_label, ((fits_inside_prefix, fits_name_char), tt)))
fit_form kind.LangTag = (fit_literal (codes "@") refl, ((fits_alphabetic, fits_alphabetic), (fit_literal (codes "-") refl, (fits_alphanumeric, fits_alphanumeric))))
fit_form kind.String = (fit_short_string 0x22 refl refl, (fit_short_string 0x27 refl refl, (fit_long_string 0x27 refl refl, fit_long_string 0x22 refl refl)))
fit_form kind.Integer = (fit_sign, (fits_digit, fits_digit))
fit_form kind.Decimal = (fit_sign, (fits_digit, (fit_literal (codes ".") refl, (fits_digit, fits_digit))))
fit_form kind.Double = (fit_sign, (((fits_digit, fits_digit), (fit_literal (codes ".") refl, (fits_digit, fit_exponent))), ((fit_literal (codes ".") refl, ((fits_digit, fits_digit), fit_exponent)), ((fits_digit, fits_digit), fit_exponent))))
fit_form kind.Word = (fits_alphabetic, fits_alphabetic)
