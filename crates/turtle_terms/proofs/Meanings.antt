-- What a reader of the front of a text says of all of it.
use Rattle.std.proofs.Common.{◌≡◌, ℕ, true, false, List, [], ◌++◌, length, Some, None, refl, sym, ap, subst, ◌∙◌}
use Rattle.std.specs.Prelude.{◌==◌, encode_utf8_all}
use Rattle.std.specs.Str.{IsUtf8, chars}
use Rattle.std.proofs.lemmas.Bool.{eqb-true, false≢true}
use Rattle.std.proofs.lemmas.Str.{chars-nil, encodes-chars}
use Rattle.std.proofs.lemmas.List.{append-nil, nil_from_length}
use Rattle.grammar_forms.specs.Forms.{Form}
use Rattle.grammar_forms.specs.Reading.{Read}
use Rattle.grammar_forms.specs.Exact.{Exact}
use Rattle.grammar_forms.proofs.Exactness.{some_is}
use Rattle.rdf_grammar.specs.declared.parse_error.ParseError.{ParseError}
use Rattle.rdf_grammar.specs.declared.parse_error.ParseError.TheVariants.{OutOfMemory, NoMatch}
use Rattle.rdf_grammar.specs.Answers.{Misses}
use Rattle.rdf_grammar.specs.Reading.{AfterTag, subtag_at}
use Rattle.turtle_terms.specs.Answers.{HasNoMeaning}

pub read_whole : {A : Type 0} (P : Form ℕ A) (F : List ℕ → Type 0) (r : List ℕ → Read ℕ A) → Exact P F r → (cs : List ℕ) (v : A) (rest : List ℕ) → rest ≡ [] → r cs ≡ Some (v, rest) → P cs v
read_whole {A} P F r p cs v rest empty e =
    let h = p.sound cs (v, rest) e in
    subst (λ (t : List ℕ). P t v) (sym (h.2 ∙ ap (λ (t : List ℕ). h.0 ++ t) empty ∙ append-nil h.0)) h.1

pub read_all : {A : Type 0} (P : Form ℕ A) (F : List ℕ → Type 0) (r : List ℕ → Read ℕ A) → Exact P F r → F [] → (cs : List ℕ) (v : A) → P cs v → r cs ≡ Some (v, [])
read_all {A} P F r p f cs v h = subst (λ (t : List ℕ). r t ≡ Some (v, [])) (append-nil cs) (p.full cs [] v h f)

pub not_whole : {A : Type 0} (P : Form ℕ A) (F : List ℕ → Type 0) (r : List ℕ → Read ℕ A) → Exact P F r → F [] → (cs : List ℕ) (w : A) (rest : List ℕ) → (rest ≡ [] → ⊥) → r cs ≡ Some (w, rest) → (v : A) → P cs v → ⊥
not_whole {A} P F r p f cs w rest more e v h =
    more (ap (λ (x : A × List ℕ). x.1) (some_is (w, rest) (v, []) (sym e ∙ read_all P F r p f cs v h)))

none_is : {B : Type 0} (x : B) → None ≡ Some x → ⊥
none_is x e = absurd cc

pub not_read : {A : Type 0} (P : Form ℕ A) (F : List ℕ → Type 0) (r : List ℕ → Read ℕ A) → Exact P F r → F [] → (cs : List ℕ) → r cs ≡ None → (v : A) → P cs v → ⊥
not_read {A} P F r p f cs e v h = none_is (v, []) (sym e ∙ read_all P F r p f cs v h)

-- a text means one thing at most
pub one_meaning : {A : Type 0} (P : Form ℕ A) (F : List ℕ → Type 0) (r : List ℕ → Read ℕ A) → Exact P F r → F [] → (cs : List ℕ) (v w : A) → P cs v → P cs w → v ≡ w
one_meaning {A} P F r p f cs v w h k =
    ap (λ (x : A × List ℕ). x.0) (some_is (v, []) (w, []) (sym (read_all P F r p f cs v h) ∙ read_all P F r p f cs w k))

-- a reader that missed
pub missed : {A : Type 0} (P : Form ℕ A) (F : List ℕ → Type 0) (r : List ℕ → Read ℕ A) → Exact P F r → F [] → (cs : List ℕ) (e : ParseError) → Misses e (r cs) → HasNoMeaning e P cs
missed P F r p f cs OutOfMemory m = tt
missed P F r p f cs NoMatch m = not_read P F r p f cs m

pub after_tag_nil : AfterTag []
unfolding subtag_at
after_tag_nil = record { no_letter = refl; no_alnum = refl; no_subtag = refl }

-- ---- nothing is left

pub no_chars : (bs : List ℕ) → (length bs == 0) ≡ true → chars bs ≡ []
no_chars bs e = ap chars (nil_from_length bs (eqb-true (length bs) 0 e)) ∙ chars-nil

pub some_chars : (bs : List ℕ) → IsUtf8 bs → (length bs == 0) ≡ false → chars bs ≡ [] → ⊥
some_chars bs u e none =
    let zero : (length bs == 0) ≡ true = ap (λ (t : List ℕ). length t == 0) (sym (encodes-chars bs u) ∙ ap encode_utf8_all none) in
    false≢true (sym e ∙ zero)
