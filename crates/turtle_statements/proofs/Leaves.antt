-- What a token by itself stands for: the functions find exactly what the forms say.
use Rattle.std.proofs.Common.{◌≡◌, ℕ, ◌-◌, ◌*◌, ◌+◌, Bool, true, false, cond, List, [], ◌∷◌, ◌++◌, length, take, drop, Option, Some, None, Result, Ok, Err, refl, sym, ap, subst, ◌∙◌, arith, length-append}
use Rattle.std.specs.Prelude.{option_and_then, encode_utf8_all, ◌==◌, ◌&&◌, not}
use Rattle.std.specs.Bool.{Decides}
use Rattle.std.specs.Option.{option_map}
use Rattle.std.specs.List.{list_all}
use Rattle.std.specs.Str.{bytes_eq, IsUtf8, chars}
use Rattle.std.specs.Borrow.{Bor}
use Rattle.std.specs.Option.{option_copied}
use Rattle.std.specs.Prelude.{IfSome}
use Rattle.std.proofs.lemmas.Str.{encodes-chars}
use Rattle.std.proofs.lemmas.Bool.{eqb-true}
use Rattle.std.proofs.lemmas.Slice.Eq.{bytes_eq-Decides}
use Rattle.std.proofs.Math.Seq.{take-append_seam, drop-append_seam}
use Rattle.grammar_forms.specs.Forms.{Form, many, written}
use Rattle.grammar_forms.specs.Reading.{Read, whole, one_at, either_at, all_at, written_at}
use Rattle.grammar_forms.specs.Exact.{Exact, anything}
use Rattle.grammar_forms.proofs.Exactness.{End, bind_some, some_is, guard_some, narrow, whole_sound, whole_full}
use Rattle.grammar_forms.proofs.Loops.{and_both}
use Rattle.grammar_forms.proofs.NameEnds.{no_name_nil}
use Rattle.grammar_forms.specs.Names.{NoName}
use Rattle.rdf_grammar.specs.declared.parse_error.ParseError.{ParseError}
use Rattle.rdf_grammar.specs.declared.parse_error.ParseError.TheVariants.{OutOfMemory, NoMatch}
use Rattle.rdf_grammar.specs.declared.dialect.Dialect.TheVariants.{Turtle}
use Rattle.rdf_grammar.specs.Answers.{GivesAll, Misses}
use Rattle.rdf_grammar.specs.Lawful.{IsIri}
use Rattle.rdf_grammar.specs.Productions.{iriref, blank_node_label, langtag, is_name_char}
use Rattle.rdf_grammar.specs.Reading.{iriref_at, blank_node_label_at, langtag_at, AfterTag, string_escape_at}
use Rattle.rdf_grammar.proofs.Productions.{iriref_exact, blank_node_label_exact, langtag_exact}
use Rattle.turtle_tokens.specs.declared.kinds.TokenKind.{TokenKind}
use Rattle.turtle_tokens.specs.declared.kinds.TokenKind.TheVariants as kind
use Rattle.turtle_tokens.specs.Places.{PlacedToken}
use Rattle.turtle_terms.specs.Answers.{Means}
use Rattle.turtle_terms.specs.Names.{IsNameOf, expanded, is_not_colon}
use Rattle.turtle_terms.specs.References.{Refers, iri_under}
use Rattle.turtle_terms.specs.Strings.{string, between, marks_of, quoted_part, is_plain_char}
use Rattle.turtle_terms.proofs.Meanings.{after_tag_nil}
use Rattle.turtle_terms.proofs.QuotedParts.{parts_exact, no_part}
use Rattle.turtle_statements.specs.Names.{Names, namespace_of}
use Rattle.turtle_statements.specs.Terms.{Expands, KindNames, NamesIri}
use Rattle.turtle_statements.specs.Lexicon.{split_colon, prefix_before_colon, expand, name_iri, reference_iri, kind_iri, iri_of, label_of, tag_of, within, parts_at, string_between, string_of}

-- a function finds exactly what a relation says
pub record Finds {T V : Type 0} (M : T → V → Type 0) (m : T → Option V) : Type 0 where
  pub sound : (t : T) (v : V) → m t ≡ Some v → M t v
  pub full : (t : T) (v : V) → M t v → m t ≡ Some v

pub finds_whole : {A : Type 0} (P : Form ℕ A) (F : List ℕ → Type 0) (r : List ℕ → Read ℕ A) → Exact P F r → F [] → Finds P (whole r)
finds_whole {A} P F r p f =
    let q : Exact P End r = narrow p (λ rest e. subst F (sym e) f) in
    record { sound = λ t v e. whole_sound P r q t v e; full = λ t v h. whole_full P r q t v h }

absent : {T V : Type 0} (M : T → V → Type 0) (m : T → Option V) → Finds M m → (t : T) → ((v : V) → M t v → ⊥) → (o : Option V) → m t ≡ o → m t ≡ None
absent M m f t none None e = e
absent M m f t none (Some v) e = absurd (none v (f.sound t v e))

-- what a reader of all of a text answers
pub gives_by : {A B : Type 0} (g : A → B) (res : Result A ParseError) (P : Form ℕ B) (m : List ℕ → Option B) → Finds P m → (cs : List ℕ) → Means g res P cs → GivesAll g res (m cs)
gives_by g (Ok x) P m f cs h = f.full cs (g x) h
gives_by g (Err OutOfMemory) P m f cs h = tt
gives_by g (Err NoMatch) P m f cs h = absent P m f cs h (m cs) refl

-- ---- labels, tags

pub finds_label : Finds (blank_node_label Turtle) label_of
unfolding label_of
finds_label = finds_whole (blank_node_label Turtle) (NoName (is_name_char Turtle)) (blank_node_label_at Turtle) (blank_node_label_exact Turtle) (no_name_nil (is_name_char Turtle))

pub finds_tag : Finds langtag tag_of
unfolding tag_of
finds_tag = finds_whole langtag AfterTag langtag_at langtag_exact after_tag_nil

-- ---- strings

record IsBetween (marks text v : List ℕ) : Type 0 where
  inner : List ℕ
  parts : text ≡ marks ++ (inner ++ marks)
  has : written (many quoted_part) inner v

between_is : (marks text v : List ℕ) → between marks text v → IsBetween marks text v
between_is marks text v h =
    let k = h.spelled.second in
    record {
      inner = k.spelled.front;
      parts = h.spelled.parts ∙ ap (λ (t : List ℕ). t ++ h.spelled.back) h.spelled.first ∙ ap (λ (t : List ℕ). marks ++ t) (k.spelled.parts ∙ ap (λ (t : List ℕ). k.spelled.front ++ t) k.spelled.second);
      has = subst (λ (w : List ℕ). written (many quoted_part) k.spelled.front w) (sym (h.means ∙ k.means)) k.spelled.first;
    }

is_between : (marks text v inner : List ℕ) → text ≡ marks ++ (inner ++ marks) → written (many quoted_part) inner v → between marks text v
is_between marks text v inner e h = record {
  own = (tt, v);
  spelled = record {
    front = marks;
    back = inner ++ marks;
    parts = e;
    first = refl;
    second = record { own = (v, tt); spelled = record { front = inner; back = marks; parts = refl; first = h; second = refl }; means = refl };
  };
  means = refl;
}

finds_parts : Finds (written (many quoted_part)) (whole parts_at)
finds_parts = finds_whole (written (many quoted_part)) (λ rest. either_at (one_at is_plain_char) string_escape_at rest ≡ None) parts_at parts_exact no_part

within_is : (marks inner text : List ℕ) → text ≡ marks ++ (inner ++ marks) → within (length marks) text ≡ inner
within_is marks inner text e =
    let n : length text - 2 * length marks ≡ length inner = omega (arith, ap length e, length-append marks (inner ++ marks), length-append inner marks) in
    let d : drop (length marks) text ≡ inner ++ marks = ap (λ (t : List ℕ). drop (length marks) t) e ∙ drop-append_seam marks (inner ++ marks) in
    ap (λ (k : ℕ). take k (drop (length marks) text)) n ∙ ap (λ (t : List ℕ). take (length inner) t) d ∙ take-append_seam inner marks

between_sound : (marks text v : List ℕ) → string_between marks text ≡ Some v → between marks text v
between_sound marks text v e =
    let g = guard_true (bytes_eq text (marks ++ (within (length marks) text ++ marks))) (whole parts_at (within (length marks) text)) v e in
    is_between marks text v (within (length marks) text) ((bytes_eq-Decides text (marks ++ (within (length marks) text ++ marks))).0 g.0) (finds_parts.sound (within (length marks) text) v g.1)
  where
    guard_true : (b : Bool) (o : Option (List ℕ)) (w : List ℕ) → cond b o None ≡ Some w → (b ≡ true) × (o ≡ Some w)
    guard_true true o w h = (refl, h)
    guard_true false o w h = absurd cc

between_full : (marks text v : List ℕ) → between marks text v → string_between marks text ≡ Some v
between_full marks text v h =
    let k = between_is marks text v h in
    let w = within_is marks k.inner text k.parts in
    let e : text ≡ marks ++ (within (length marks) text ++ marks) = k.parts ∙ ap (λ (t : List ℕ). marks ++ (t ++ marks)) (sym w) in
    let b : bytes_eq text (marks ++ (within (length marks) text ++ marks)) ≡ true = (bytes_eq-Decides text (marks ++ (within (length marks) text ++ marks))).1 e in
    let f : whole parts_at (within (length marks) text) ≡ Some v = finds_parts.full (within (length marks) text) v (subst (λ (t : List ℕ). written (many quoted_part) t v) (sym w) k.has) in
    rw (b, f) refl

pub finds_string : Finds string string_of
unfolding string_of
finds_string = record {
  sound = λ t v e. between_sound (marks_of (encode_utf8_all t)) t v e;
  full = λ t v h. between_full (marks_of (encode_utf8_all t)) t v h;
}

-- ---- references

pub finds_reference : (names : Names) → Finds (Refers names.base) (reference_iri names)
unfolding reference_iri
finds_reference names =
    let f = finds_whole iriref anything iriref_at iriref_exact tt in
    record {
      sound = λ t v e.
          let one = bind_some (whole iriref_at t) (iri_under names.base) v e in
          record { reference = one.0; spelled = f.sound t one.0 one.1; stands = one.2 };
      full = λ t v h. let e = f.full t h.reference h.spelled in rw e h.stands;
    }

-- ---- prefixed names

mapped_some : {A B : Type 0} (f : A → B) (o : Option A) (y : B) → option_map f o ≡ Some y → (x : A) × (o ≡ Some x) × (f x ≡ y)
mapped_some f None y e = absurd cc
mapped_some f (Some x) y e = (x, refl, some_is (f x) y e)

colon_is : (c : ℕ) → (c == 58) ≡ true → c ≡ 58
colon_is c e = eqb-true c 58 e

split_by : (c : ℕ) (cs : List ℕ) (p : List ℕ × List ℕ) (b : Bool) → (c == 58) ≡ b → ((q : List ℕ × List ℕ) → split_colon cs ≡ Some q → IsNameOf cs q.0 q.1)
    → cond b (Some ([], cs)) (option_map (λ (q : List ℕ × List ℕ). (c ∷ q.0, q.1)) (split_colon cs)) ≡ Some p → IsNameOf (c ∷ cs) p.0 p.1
split_by c cs p true e ih h =
    subst (λ (q : List ℕ × List ℕ). IsNameOf (c ∷ cs) q.0 q.1) (some_is ([], cs) p h) (record { parts = ap (λ (x : ℕ). x ∷ cs) (colon_is c e); first = refl })
split_by c cs p false e ih h =
    let m = mapped_some (λ (q : List ℕ × List ℕ). (c ∷ q.0, q.1)) (split_colon cs) p h in
    let k = ih m.0 m.1 in
    let one : list_all is_not_colon (c ∷ m.0.0) ≡ true = rw (e, k.first) refl in
    subst (λ (q : List ℕ × List ℕ). IsNameOf (c ∷ cs) q.0 q.1) m.2 (record { parts = ap (λ (t : List ℕ). c ∷ t) k.parts; first = one })

pub split_sound : (cs : List ℕ) (p : List ℕ × List ℕ) → split_colon cs ≡ Some p → IsNameOf cs p.0 p.1
unfolding split_colon
split_sound [] p e = absurd cc
split_sound (c ∷ cs) p e = split_by c cs p (c == 58) refl (λ q h. split_sound cs q h) e

no_colon : (c : ℕ) (b : Bool) → (c == 58) ≡ b → not b ≡ true → (c == 58) ≡ false
no_colon c true e h = absurd cc
no_colon c false e h = e

pub split_full : (prefix local cs : List ℕ) → cs ≡ prefix ++ 58 ∷ local → list_all is_not_colon prefix ≡ true → split_colon cs ≡ Some (prefix, local)
unfolding split_colon
split_full [] local cs e h = rw e refl
split_full (c ∷ prefix) local cs e h =
    let b = and_both (is_not_colon c) (list_all is_not_colon prefix) h in
    let n = no_colon c (c == 58) refl b.0 in
    let ih = split_full prefix local (prefix ++ 58 ∷ local) refl b.1 in
    rw (e, n, ih) refl

finds_name : (names : Names) → Finds (Expands names) (name_iri names)
unfolding name_iri
finds_name names = record {
  sound = λ t v e.
      let one = bind_some (split_colon t) (expand names) v e in
      let two = mapped_some (λ (namespace : List ℕ). expanded namespace one.0.1) (namespace_of names (encode_utf8_all one.0.0)) v one.2 in
      record { prefix = one.0.0; local = one.0.1; namespace = two.0; parts = split_sound t one.0 one.1; declared = two.1; stands = sym two.2 };
  full = λ t v h.
      let s = split_full h.prefix h.local t h.parts.parts h.parts.first in
      rw (s, h.declared, h.stands) refl;
}

kind_sound : (names : Names) (k : TokenKind) (text v : List ℕ) → kind_iri names k text ≡ Some v → KindNames names k text v
kind_sound names kind.Dot text v e = absurd cc
kind_sound names kind.Comma text v e = absurd cc
kind_sound names kind.Semicolon text v e = absurd cc
kind_sound names kind.OpenBracket text v e = absurd cc
kind_sound names kind.CloseBracket text v e = absurd cc
kind_sound names kind.OpenParen text v e = absurd cc
kind_sound names kind.CloseParen text v e = absurd cc
kind_sound names kind.DoubleCaret text v e = absurd cc
kind_sound names kind.Anon text v e = absurd cc
kind_sound names kind.IriRef text v e = (finds_reference names).sound text v e
kind_sound names kind.PnameNs text v e = (finds_name names).sound text v e
kind_sound names kind.PnameLn text v e = (finds_name names).sound text v e
kind_sound names kind.BlankNodeLabel text v e = absurd cc
kind_sound names kind.LangTag text v e = absurd cc
kind_sound names kind.String text v e = absurd cc
kind_sound names kind.Integer text v e = absurd cc
kind_sound names kind.Decimal text v e = absurd cc
kind_sound names kind.Double text v e = absurd cc
kind_sound names kind.Word text v e = absurd cc

kind_full : (names : Names) (k : TokenKind) (text v : List ℕ) → KindNames names k text v → kind_iri names k text ≡ Some v
kind_full names kind.Dot text v h = absurd h
kind_full names kind.Comma text v h = absurd h
kind_full names kind.Semicolon text v h = absurd h
kind_full names kind.OpenBracket text v h = absurd h
kind_full names kind.CloseBracket text v h = absurd h
kind_full names kind.OpenParen text v h = absurd h
kind_full names kind.CloseParen text v h = absurd h
kind_full names kind.DoubleCaret text v h = absurd h
kind_full names kind.Anon text v h = absurd h
kind_full names kind.IriRef text v h = (finds_reference names).full text v h
kind_full names kind.PnameNs text v h = (finds_name names).full text v h
kind_full names kind.PnameLn text v h = (finds_name names).full text v h
kind_full names kind.BlankNodeLabel text v h = absurd h
kind_full names kind.LangTag text v h = absurd h
kind_full names kind.String text v h = absurd h
kind_full names kind.Integer text v h = absurd h
kind_full names kind.Decimal text v h = absurd h
kind_full names kind.Double text v h = absurd h
kind_full names kind.Word text v h = absurd h

pub finds_iri : (names : Names) → Finds (NamesIri names) (iri_of names)
finds_iri names = record { sound = λ t v e. kind_sound names t.kind t.text v e; full = λ t v h. kind_full names t.kind t.text v h }

-- a name that the code has split
pub name_gives : (names : Names) (cs prefix local : List ℕ) → IsNameOf cs prefix local → name_iri names cs ≡ expand names (prefix, local)
unfolding name_iri
name_gives names cs prefix local h = let s = split_full prefix local cs h.parts h.first in rw s refl

no_split : (cs : List ℕ) → list_all is_not_colon cs ≡ true → split_colon cs ≡ None
unfolding split_colon
no_split [] h = refl
no_split (c ∷ cs) h =
    let b = and_both (is_not_colon c) (list_all is_not_colon cs) h in
    let n = no_colon c (c == 58) refl b.0 in
    let ih = no_split cs b.1 in
    rw (n, ih) refl

pub no_name : (names : Names) (cs : List ℕ) → list_all is_not_colon cs ≡ true → name_iri names cs ≡ None
unfolding name_iri
no_name names cs h = let s = no_split cs h in rw s refl

pub prefix_gives : (cs prefix local : List ℕ) → IsNameOf cs (chars prefix) local → IsUtf8 prefix → prefix_before_colon cs ≡ Some prefix
prefix_gives cs prefix local h u =
    ap (option_map (λ (p : List ℕ × List ℕ). encode_utf8_all p.0)) (split_full (chars prefix) local cs h.parts h.first) ∙ ap (λ (t : List ℕ). Some t) (encodes-chars prefix u)

pub no_prefix : (cs : List ℕ) → list_all is_not_colon cs ≡ true → prefix_before_colon cs ≡ None
no_prefix cs h = ap (option_map (λ (p : List ℕ × List ℕ). encode_utf8_all p.0)) (no_split cs h)

-- ---- what the code has

pub reference_gives : (names : Names) (base : Option (List ℕ)) (res : Result (List ℕ) ParseError) (cs : List ℕ) → base ≡ names.base → Means (λ (t : List ℕ). t) res (Refers base) cs → GivesAll (λ (t : List ℕ). t) res (reference_iri names cs)
reference_gives names base res cs e h =
    gives_by (λ (t : List ℕ). t) res (Refers names.base) (reference_iri names) (finds_reference names) cs (subst (λ (b : Option (List ℕ)). Means (λ (t : List ℕ). t) res (Refers b) cs) e h)

pub base_lawful : (o : Option (Bor (List ℕ))) (b : Option (List ℕ)) → option_copied o ≡ b → IfSome b IsIri → IfSome o (λ x. IsIri x.now)
base_lawful None b e h = tt
base_lawful (Some x) b e h = subst (λ (c : Option (List ℕ)). IfSome c IsIri) (sym e) h

pub expand_gives : (names : Names) (prefix local namespace iri : List ℕ) → IsUtf8 prefix → namespace_of names prefix ≡ Some namespace → iri ≡ expanded namespace local → expand names (chars prefix, local) ≡ Some iri
expand_gives names prefix local namespace iri u e h = let c = encodes-chars prefix u in rw (c, e, h) refl

pub expand_missed : (names : Names) (prefix local : List ℕ) (e : ParseError) → IsUtf8 prefix → Misses e (namespace_of names prefix) → Misses e (expand names (chars prefix, local))
expand_missed names prefix local OutOfMemory u h = tt
expand_missed names prefix local NoMatch u h = let c = encodes-chars prefix u in rw (c, h) refl

pub kind_none : (names : Names) (k : TokenKind) (text : List ℕ) → (k ≡ kind.IriRef → ⊥) → (k ≡ kind.PnameNs → ⊥) → (k ≡ kind.PnameLn → ⊥) → kind_iri names k text ≡ None
kind_none names kind.Dot text a b c = refl
kind_none names kind.Comma text a b c = refl
kind_none names kind.Semicolon text a b c = refl
kind_none names kind.OpenBracket text a b c = refl
kind_none names kind.CloseBracket text a b c = refl
kind_none names kind.OpenParen text a b c = refl
kind_none names kind.CloseParen text a b c = refl
kind_none names kind.DoubleCaret text a b c = refl
kind_none names kind.Anon text a b c = refl
kind_none names kind.IriRef text a b c = absurd (a refl)
kind_none names kind.PnameNs text a b c = absurd (b refl)
kind_none names kind.PnameLn text a b c = absurd (c refl)
kind_none names kind.BlankNodeLabel text a b c = refl
kind_none names kind.LangTag text a b c = refl
kind_none names kind.String text a b c = refl
kind_none names kind.Integer text a b c = refl
kind_none names kind.Decimal text a b c = refl
kind_none names kind.Double text a b c = refl
kind_none names kind.Word text a b c = refl
