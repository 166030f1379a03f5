-- A local part without its backslashes has characters of IRIs alone.
use Rattle.std.proofs.Common.{◌≡◌, ℕ, zero, suc, ◌≤◌, Bool, true, false, cond, not, List, [], ◌∷◌, ◌++◌, refl, sym, ap, subst, ◌∙◌, append_assoc, arith, lit<, inl, inr}
use Rattle.std.specs.Prelude.{◌==◌, ◌&&◌, codes, encode_utf8_all}
use Rattle.std.specs.List.{list_all}
use Rattle.std.specs.Char.{IsScalar}
use Rattle.std.specs.Str.{all_scalars}
use Rattle.std.proofs.lemmas.Bool.{eqb-true, false≢true}
use Rattle.std.proofs.lemmas.Bool.Decides.{nat_tests}
use Rattle.std.proofs.lemmas.List.{append-nil}
use Rattle.std.proofs.lemmas.List.Folds.{list_all-append}
use Rattle.std.proofs.lemmas.Str.{encodes-append}
use Rattle.grammar_forms.proofs.Loops.{and_both}
use Rattle.regular_forms.specs.Regular.{Regular, empty, one, seq, alt, star, Times, Has, maybe, is_in, is_char}
use Rattle.rdf_terms.proofs.Bools.{both_true}
use Rattle.rdf_grammar.specs.Lawful.{IsIri}
use Rattle.rdf_grammar.specs.Productions.{is_scalar, is_hex, is_iri_char, is_base, is_name_start, is_name_char}
use Rattle.turtle_tokens.specs.Tokens.{plx, begins_local, is_inside_local, ends_local, pn_local}
use Rattle.turtle_terms.specs.Names.{is_not_backslash, unescaped, expanded}
use Rattle.turtle_terms.proofs.Classes.{all_below, within, class_within, is_other}
use Rattle.turtle_terms.proofs.Expanding.{behind_mark}

abbrev plain : List ℕ → Bool
plain cs = list_all is_iri_char (unescaped false cs)

-- put before characters that are right, the text is right
abbrev Keeps : List ℕ → Type 0
Keeps cs = (rest : List ℕ) → all_scalars (cs ++ rest) ≡ true → plain rest ≡ true → plain (cs ++ rest) ≡ true

pub scalars_right : (xs ys : List ℕ) → all_scalars (xs ++ ys) ≡ true → all_scalars ys ≡ true
scalars_right [] ys h = h
scalars_right (x ∷ xs) ys h = scalars_right xs ys (and_both _ (all_scalars (xs ++ ys)) h).1

-- ---- classes of characters

pub wide_right : (c : ℕ) → 128 ≤ c → is_scalar c ≡ true → is_iri_char c ≡ true
unfolding is_iri_char
wide_right c l s = grind (arith, nat_tests)

is_right : (p : ℕ → Bool) → all_below 128 (within p is_iri_char) ≡ true → (c : ℕ) → p c ≡ true → is_scalar c ≡ true → is_iri_char c ≡ true
is_right p h c q s = class_within p is_iri_char h c (λ l. wide_right c l s) q

not_true : (b : Bool) → not b ≡ true → b ≡ false
not_true true h = absurd (false≢true h)
not_true false h = refl

is_no_mark : (p : ℕ → Bool) → all_below 128 (within p is_not_backslash) ≡ true → (c : ℕ) → p c ≡ true → (c == 92) ≡ false
is_no_mark p h c q = not_true (c == 92) (class_within p is_not_backslash h c (is_other 92 (lit< tt) c) q)

scalar_of : (c : ℕ) → IsScalar c → is_scalar c ≡ true
scalar_of c h = grind (arith, nat_tests)

pub first_of_both : (x y : Bool) → (x && y) ≡ true → x ≡ true
first_of_both true y e = refl
first_of_both false y e = absurd (false≢true e)

pub scalar_first : (c : ℕ) (cs : List ℕ) → all_scalars (c ∷ cs) ≡ true → is_scalar c ≡ true
scalar_first c cs h = scalar_of c (first_of_both _ (all_scalars cs) h)

-- ---- forms

keeps_char : (c : ℕ) → (c == 92) ≡ false → (is_scalar c ≡ true → is_iri_char c ≡ true) → Keeps (c ∷ [])
keeps_char c e r rest s h =
    ap (λ (b : Bool). list_all is_iri_char (cond (b && true) (unescaped true rest) (c ∷ unescaped false rest))) e
    ∙ both_true (is_iri_char c) (plain rest) (r (scalar_first c rest s)) h

keeps_one : (p : ℕ → Bool) → all_below 128 (within p is_iri_char) ≡ true → all_below 128 (within p is_not_backslash) ≡ true → (t : List ℕ) → Has (one p) t → Keeps t
keeps_one p r n t h = subst (λ (x : List ℕ). Keeps x) (sym h.spelled) (keeps_char h.char (is_no_mark p n h.char h.passes) (is_right p r h.char h.passes))

keeps_both : (a b : List ℕ) → Keeps a → Keeps b → Keeps (a ++ b)
keeps_both a b k l rest s h =
    let e = append_assoc a b rest in
    let t : all_scalars (a ++ (b ++ rest)) ≡ true = ap all_scalars (sym e) ∙ s in
    ap plain e ∙ k (b ++ rest) t (l rest (scalars_right a (b ++ rest) t) h)

keeps_seq : (r s : Regular) → ((t : List ℕ) → Has r t → Keeps t) → ((t : List ℕ) → Has s t → Keeps t) → (t : List ℕ) → Has (seq r s) t → Keeps t
keeps_seq r s k l t h = subst (λ (x : List ℕ). Keeps x) (sym h.parts) (keeps_both h.front h.back (k h.front h.first) (l h.back h.second))

keeps_alt : (r s : Regular) → ((t : List ℕ) → Has r t → Keeps t) → ((t : List ℕ) → Has s t → Keeps t) → (t : List ℕ) → Has (alt r s) t → Keeps t
keeps_alt r s k l t h = elim h [ inl a ↦ k t a | inr b ↦ l t b ]

keeps_nil : Keeps []
keeps_nil rest s h = h

keeps_empty : (t : List ℕ) → Has empty t → Keeps t
keeps_empty t h = subst (λ (x : List ℕ). Keeps x) (sym h) keeps_nil

keeps_times : (r : Regular) → ((t : List ℕ) → Has r t → Keeps t) → (n : ℕ) (t : List ℕ) → Times (λ x. Has r x) n t → Keeps t
keeps_times r k zero t h = keeps_empty t h
keeps_times r k (suc n) t h = subst (λ (x : List ℕ). Keeps x) (sym h.parts) (keeps_both h.front h.back (k h.front h.first) (keeps_times r k n h.back h.second))

keeps_star : (r : Regular) → ((t : List ℕ) → Has r t → Keeps t) → (t : List ℕ) → Has (star r) t → Keeps t
keeps_star r k t h = keeps_times r k h.0 t h.1

-- ---- local parts

abbrev is_mark : ℕ → Bool
is_mark = is_in (codes "_~.-!$&'()*+,;=/?#@%")

keeps_escape : (d : ℕ) → is_mark d ≡ true → Keeps (92 ∷ d ∷ [])
unfolding is_iri_char
keeps_escape d m rest s h =
    ap (λ (x : List ℕ). list_all is_iri_char x) (behind_mark d rest (d == 92) refl)
    ∙ both_true (is_iri_char d) (plain rest) (is_right is_mark refl d m (scalar_first d rest (scalars_right (92 ∷ []) (d ∷ rest) s))) h

hexes : (t : List ℕ) → Has (one is_hex) t → Keeps t
unfolding is_iri_char
hexes = keeps_one is_hex refl refl

percent : (t : List ℕ) → Has (one (is_char 37)) t → Keeps t
unfolding is_iri_char
percent = keeps_one (is_char 37) refl refl

keeps_local_escape : (t : List ℕ) → Has (seq (one (is_char 92)) (one is_mark)) t → Keeps t
keeps_local_escape t h =
    let c : h.first.char ≡ 92 = eqb-true h.first.char 92 h.first.passes in
    let e : t ≡ 92 ∷ h.second.char ∷ [] = h.parts ∙ ap (λ (x : List ℕ). x ++ h.back) (h.first.spelled ∙ ap (λ (x : ℕ). x ∷ []) c) ∙ ap (λ (x : List ℕ). 92 ∷ x) h.second.spelled in
    subst (λ (x : List ℕ). Keeps x) (sym e) (keeps_escape h.second.char h.second.passes)

keeps_plx : (t : List ℕ) → Has plx t → Keeps t
keeps_plx =
    keeps_alt (seq (one (is_char 37)) (seq (one is_hex) (one is_hex))) (seq (one (is_char 92)) (one is_mark))
    (keeps_seq (one (is_char 37)) (seq (one is_hex) (one is_hex)) percent (keeps_seq (one is_hex) (one is_hex) hexes hexes)) keeps_local_escape

keeps_begin : (t : List ℕ) → Has (one begins_local) t → Keeps t
unfolding is_iri_char is_name_start is_base
keeps_begin = keeps_one begins_local refl refl

keeps_inside : (t : List ℕ) → Has (one is_inside_local) t → Keeps t
unfolding is_iri_char is_name_char is_name_start is_base
keeps_inside = keeps_one is_inside_local refl refl

keeps_end : (t : List ℕ) → Has (one ends_local) t → Keeps t
unfolding is_iri_char is_name_char is_name_start is_base
keeps_end = keeps_one ends_local refl refl

abbrev local_inside : Regular
local_inside = alt (one is_inside_local) plx

abbrev local_end : Regular
local_end = alt (one ends_local) plx

keeps_local_rest : (t : List ℕ) → Has (maybe (seq (star local_inside) local_end)) t → Keeps t
keeps_local_rest =
    keeps_alt (seq (star local_inside) local_end) empty
    (keeps_seq (star local_inside) local_end (keeps_star local_inside (keeps_alt (one is_inside_local) plx keeps_inside keeps_plx)) (keeps_alt (one ends_local) plx keeps_end keeps_plx))
    keeps_empty

keeps_pn_local : (t : List ℕ) → Has pn_local t → Keeps t
keeps_pn_local = keeps_seq (alt (one begins_local) plx) (maybe (seq (star local_inside) local_end)) (keeps_alt (one begins_local) plx keeps_begin keeps_plx) keeps_local_rest

keeps_local : (t : List ℕ) → Has (maybe pn_local) t → Keeps t
keeps_local = keeps_alt pn_local empty keeps_pn_local keeps_empty

local_right : (t : List ℕ) → all_scalars t ≡ true → Has (maybe pn_local) t → plain t ≡ true
local_right t s h = ap plain (sym (append-nil t)) ∙ keeps_local t h [] (ap all_scalars (append-nil t) ∙ s) refl

-- ---- the IRI of a name

pub expanded_lawful : (namespace local iri : List ℕ) → all_scalars local ≡ true → iri ≡ expanded namespace local → IsIri namespace → Has (maybe pn_local) local → IsIri iri
expanded_lawful namespace local iri s e n h =
    let more = encode_utf8_all (unescaped false local) in
    record {
      characters = n.characters ++ unescaped false local;
      spell = encodes-append n.characters (unescaped false local) ∙ ap (λ (x : List ℕ). x ++ more) n.spell ∙ sym e;
      each = list_all-append is_iri_char n.characters (unescaped false local) ∙ both_true (list_all is_iri_char n.characters) (plain local) n.each (local_right local s h);
      scheme = record {
        front = n.scheme.front;
        rest = n.scheme.rest ++ more;
        parts = e ∙ ap (λ (x : List ℕ). x ++ more) n.scheme.parts ∙ append_assoc n.scheme.front n.scheme.rest more;
        is_scheme = n.scheme.is_scheme;
      };
    }
