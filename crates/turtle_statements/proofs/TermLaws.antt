-- Terms without brackets are read exactly.
use Rattle.std.proofs.Common.{◌≡◌, ◌≢◌, ℕ, Bool, true, false, cond, List, [], ◌∷◌, ◌++◌, Option, Some, None, refl, sym, ap, subst, ◌∙◌, append_assoc, inl, inr}
use Rattle.std.specs.Prelude.{option_and_then, encode_utf8_all, codes, ◌⊎◌}
use Rattle.std.specs.Option.{option_map}
use Rattle.std.specs.Str.{bytes_eq}
use Rattle.std.proofs.lemmas.Slice.Eq.{bytes_eq-Decides}
use Rattle.grammar_forms.specs.Forms.{Form, optional, either, Then, Made, Where, ◌⨾◌, ◌▹◌, ◌∣◌}
use Rattle.grammar_forms.specs.Exact.{Exact, anything}
use Rattle.grammar_forms.proofs.Exactness.{bind_some, some_is}
use Rattle.rdf_terms.specs.declared.term.Term.{Term}
use Rattle.rdf_terms.specs.declared.term.Term.TheVariants.{Iri, Blank, Literal}
use Rattle.rdf_terms.specs.Vocab.Rdf as rdf
use Rattle.rdf_terms.specs.Vocab.Xsd as xsd
use Rattle.turtle_statements.specs.declared.marks.Suffix.TheVariants as suffix
use Rattle.turtle_tokens.specs.declared.kinds.TokenKind.{TokenKind}
use Rattle.turtle_tokens.specs.declared.kinds.TokenKind.TheVariants as kinds
use Rattle.turtle_tokens.specs.Places.{PlacedToken}
use Rattle.turtle_terms.specs.declared.keywords.Keyword.{Keyword}
use Rattle.turtle_terms.specs.declared.keywords.Keyword.TheVariants as words
use Rattle.turtle_terms.specs.Keywords.{keyword_of, tag_keyword}
use Rattle.turtle_terms.specs.Literals.{unquoted_literal}
use Rattle.turtle_statements.specs.declared.output.Output.{Output}
use Rattle.turtle_statements.specs.Names.{Names}
use Rattle.turtle_statements.specs.Terms.{NamesIri, HasLabel, HasTag, HasString, IsUnquoted, IsKeyword}
use Rattle.turtle_statements.specs.Meaning.{Says, says, says_label, says_new, new_node, one_more, scope_of}
use Rattle.turtle_statements.specs.Grammar.{Single, kind, keyword, iri, of_tag, of_datatype, IsNotLangString, string_kind, kind_of, literal_of, literal, says_iri, node, plain_term, type_of, verb}
use Rattle.turtle_statements.specs.Lexicon.{iri_of, label_of, tag_of, string_of}
use Rattle.turtle_statements.specs.Running.{can_begin_verb, token_keyword, is_a, verb_by, verb_at, node_by, node_run, datatype_at, suffix_of, suffix_at, tagged_at, typed_at, quoted_by, quoted_at, unquoted_run, term_by, term_run}
use Rattle.turtle_statements.proofs.KindLaws.{Begins, begins-more, ends_string, starts_node, starts_plain, node-starts_plain, iri-node, iri-verb, unquoted-plain}
use Rattle.turtle_statements.proofs.Leaves.{finds_iri, finds_label, finds_tag, finds_string}
use Rattle.turtle_statements.proofs.Dispatch.{iri-no_keyword, iri_node, node-iri, node-cases, string-ends, suffix-cases, node_term, term-node, term-unquoted, term-cases}
use Rattle.turtle_statements.proofs.Executing.{BehindKind, behind_is, mapped}

pub single : {V : Type 0} (M : PlacedToken → V → Type 0) (t : PlacedToken) (v : V) → M t v → Single M (t ∷ []) v
single M t v h = record { token = t; alone = refl; means = h }

-- ---- verbs

abbrev IsVerbOf : Names → PlacedToken → Term → Type 0
IsVerbOf names t v = verb names (t ∷ []) v

iri_verb : (names : Names) (t : PlacedToken) (v : Term) → option_map Iri (iri_of names t) ≡ Some v → IsVerbOf names t v
iri_verb names t v e =
    let m = mapped Iri (iri_of names t) v e in
    inl (record { own = m.0; spelled = single (NamesIri names) t m.0 ((finds_iri names).sound t m.0 m.1); means = sym m.2 })

a_is : (k : Option Keyword) → is_a k ≡ true → k ≡ Some words.A
a_is (Some words.A) e = refl
a_is (Some words.True) e = absurd cc
a_is (Some words.False) e = absurd cc
a_is (Some words.Prefix) e = absurd cc
a_is (Some words.Base) e = absurd cc
a_is (Some words.SparqlPrefix) e = absurd cc
a_is (Some words.SparqlBase) e = absurd cc
a_is None e = absurd cc

verb_one : (names : Names) (t : PlacedToken) (v : Term) (b : Bool) → is_a (token_keyword t) ≡ b → verb_by names t b ≡ Some v → IsVerbOf names t v
verb_one names t v true e h = inr (record { own = tt; spelled = single (IsKeyword words.A) t tt (a_is (token_keyword t) e); means = sym (some_is rdf.type_ v h) })
verb_one names t v false e h = iri_verb names t v h

pub verb-sound : (names : Names) (ts : List PlacedToken) (x : Term × List PlacedToken) → verb_at names ts ≡ Some x → (front : List PlacedToken) × verb names front x.0 × (ts ≡ front ++ x.1)
verb-sound names [] x e = absurd cc
verb-sound names (t ∷ ts) x e =
    let m = mapped (λ (v : Term). (v, ts)) (verb_by names t (is_a (token_keyword t))) x e in
    subst (λ (y : Term × List PlacedToken). (front : List PlacedToken) × verb names front y.0 × (t ∷ ts ≡ front ++ y.1)) m.2 (t ∷ [], verb_one names t m.0 (is_a (token_keyword t)) refl m.1, refl)

pub verb-full : (names : Names) (front rest : List PlacedToken) (v : Term) → verb names front v → verb_at names (front ++ rest) ≡ Some (v, rest)
verb-full names front rest v h =
    elim h [
      | inl k ↦
          let t = k.spelled.token in
          let none : token_keyword t ≡ None = iri-no_keyword names t.kind t.text k.own (encode_utf8_all t.text) k.spelled.means in
          let e = (finds_iri names).full t k.own k.spelled.means in
          rw (k.spelled.alone, none, e, k.means) refl
      | inr k ↦ let e = k.spelled.means in rw (k.spelled.alone, e, k.means) refl
    ]

tag_word : (b c : Bool) → cond b (Some words.Prefix) (cond c (Some words.Base) None) ≡ Some words.A → can_begin_verb kinds.LangTag ≡ true
tag_word true c e = absurd cc
tag_word false true e = absurd cc
tag_word false false e = absurd cc

word_verb : (k : TokenKind) (bytes : List ℕ) → keyword_of k bytes ≡ Some words.A → can_begin_verb k ≡ true
unfolding tag_keyword
word_verb kinds.Dot bytes e = absurd cc
word_verb kinds.Comma bytes e = absurd cc
word_verb kinds.Semicolon bytes e = absurd cc
word_verb kinds.OpenBracket bytes e = absurd cc
word_verb kinds.CloseBracket bytes e = absurd cc
word_verb kinds.OpenParen bytes e = absurd cc
word_verb kinds.CloseParen bytes e = absurd cc
word_verb kinds.DoubleCaret bytes e = absurd cc
word_verb kinds.Anon bytes e = absurd cc
word_verb kinds.IriRef bytes e = absurd cc
word_verb kinds.PnameNs bytes e = absurd cc
word_verb kinds.PnameLn bytes e = absurd cc
word_verb kinds.BlankNodeLabel bytes e = absurd cc
word_verb kinds.LangTag bytes e = tag_word (bytes_eq bytes (codes "@prefix")) (bytes_eq bytes (codes "@base")) e
word_verb kinds.String bytes e = absurd cc
word_verb kinds.Integer bytes e = absurd cc
word_verb kinds.Decimal bytes e = absurd cc
word_verb kinds.Double bytes e = absurd cc
word_verb kinds.Word bytes e = refl

pub verb-begins : (names : Names) (front : List PlacedToken) (v : Term) → verb names front v → Begins can_begin_verb front
verb-begins names front v h =
    elim h [
      | inl k ↦ record { token = k.spelled.token; behind = []; parts = k.spelled.alone; passes = iri-verb names k.spelled.token.kind k.spelled.token.text k.own k.spelled.means }
      | inr k ↦ record { token = k.spelled.token; behind = []; parts = k.spelled.alone; passes = word_verb k.spelled.token.kind (encode_utf8_all k.spelled.token.text) k.spelled.means }
    ]

-- ---- nodes without brackets

pub record Node (names : Names) (t : PlacedToken) (o : Output) (x : Term × Output) : Type 0 where
  pub own : Says
  pub has : node names (t ∷ []) own
  pub said : own o ≡ x

pub node-sound : (names : Names) (t : PlacedToken) (o : Output) (x : Term × Output) → node_run names t o ≡ Some x → Node names t o x
node-sound names t o x e = elim (node-cases names t o x t.kind e) [
  | inl k ↦
      let b : node_by names t o kinds.BlankNodeLabel ≡ Some x = ap (node_by names t o) (sym k) ∙ e in
      let m = mapped (λ (label : List ℕ). (Blank (scope_of names.role) label, o)) (label_of t.text) x b in
      record { own = says_label names.role m.0; has = inr (inl (record { own = m.0; spelled = single HasLabel t m.0 (record { is_label = k; has = finds_label.sound t.text m.0 m.1 }); means = refl })); said = m.2 }
  | inr h ↦ elim h [
    | inl k ↦
        let b : node_by names t o kinds.Anon ≡ Some x = ap (node_by names t o) (sym k) ∙ e in
        record { own = says_new names.role tt; has = inr (inr (record { own = tt; spelled = record { token = t; alone = refl; means = k }; means = refl })); said = some_is (new_node names.role o, one_more o) x b }
    | inr i ↦
        let m = mapped (λ (iri : List ℕ). (Iri iri, o)) (iri_of names t) x i in
        record { own = says_iri m.0; has = inl (record { own = m.0; spelled = single (NamesIri names) t m.0 ((finds_iri names).sound t m.0 m.1); means = refl }); said = m.2 }
  ]
]

pub record OneNode (names : Names) (front : List PlacedToken) (d : Says) : Type 0 where
  pub token : PlacedToken
  pub alone : front ≡ token ∷ []
  pub starts : starts_node token.kind ≡ true
  pub runs : (o : Output) → node_run names token o ≡ Some (d o)

pub node-full : (names : Names) (front : List PlacedToken) (d : Says) → node names front d → OneNode names front d
node-full names front d h =
    elim h [
      | inl k ↦ record {
        token = k.spelled.token;
        alone = k.spelled.alone;
        starts = iri-node names k.spelled.token.kind k.spelled.token.text k.own k.spelled.means;
        runs = λ o.
            let e = (finds_iri names).full k.spelled.token k.own k.spelled.means in
            node-iri names k.spelled.token o k.spelled.token.kind k.spelled.token.text k.own k.spelled.means ∙ ap (option_map (λ (iri : List ℕ). (Iri iri, o))) e ∙ ap (λ (f : Says). Some (f o)) (sym k.means);
      }
      | inr l ↦ elim l [
        | inl k ↦ record {
          token = k.spelled.token;
          alone = k.spelled.alone;
          starts = ap starts_node k.spelled.means.is_label;
          runs = λ o.
              let e = finds_label.full k.spelled.token.text k.own k.spelled.means.has in
              ap (node_by names k.spelled.token o) k.spelled.means.is_label ∙ ap (option_map (λ (label : List ℕ). (Blank (scope_of names.role) label, o))) e ∙ ap (λ (f : Says). Some (f o)) (sym k.means);
        }
        | inr k ↦ record {
          token = k.spelled.token;
          alone = k.spelled.alone;
          starts = ap starts_node k.spelled.means;
          runs = λ o. ap (node_by names k.spelled.token o) k.spelled.means ∙ ap (λ (f : Says). Some (f o)) (sym k.means);
        }
      ]
    ]

pub node-begins : (names : Names) (front : List PlacedToken) (d : Says) → node names front d → Begins starts_node front
node-begins names front d h = let n = node-full names front d h in record { token = n.token; behind = []; parts = n.alone; passes = n.starts }

-- ---- what stands behind a string

not_lang : (iri : List ℕ) (ts : List PlacedToken) (x : List ℕ × List PlacedToken) (b : Bool) → bytes_eq iri rdf.lang_string ≡ b → cond b None (Some (iri, ts)) ≡ Some x → (iri ≢ rdf.lang_string) × ((iri, ts) ≡ x)
not_lang iri ts x true e h = absurd cc
not_lang iri ts x false e h = (λ (s : iri ≡ rdf.lang_string). differ (bytes_eq iri rdf.lang_string) ((bytes_eq-Decides iri rdf.lang_string).1 s) e, some_is (iri, ts) x h)
  where
    differ : (b : Bool) → b ≡ true → b ≡ false → ⊥
    differ b f g = absurd cc

datatype-sound : (names : Names) (ts : List PlacedToken) (x : List ℕ × List PlacedToken) → datatype_at names ts ≡ Some x → (front : List PlacedToken) × Where IsNotLangString (iri names) front x.0 × (ts ≡ front ++ x.1)
datatype-sound names [] x e = absurd cc
datatype-sound names (t ∷ ts) x e =
    let b = bind_some (iri_of names t) (λ (iri : List ℕ). cond (bytes_eq iri rdf.lang_string) None (Some (iri, ts))) x e in
    let n = not_lang b.0 ts x (bytes_eq b.0 rdf.lang_string) refl b.2 in
    subst (λ (y : List ℕ × List PlacedToken). (front : List PlacedToken) × Where IsNotLangString (iri names) front y.0 × (t ∷ ts ≡ front ++ y.1)) n.1
    (t ∷ [], record { spelled = single (NamesIri names) t b.0 ((finds_iri names).sound t b.0 b.1); has = n.0 }, refl)

is_no_lang : (iri : List ℕ) (b : Bool) → bytes_eq iri rdf.lang_string ≡ b → iri ≢ rdf.lang_string → bytes_eq iri rdf.lang_string ≡ false
is_no_lang iri true e n = absurd (n ((bytes_eq-Decides iri rdf.lang_string).0 e))
is_no_lang iri false e n = e

datatype-full : (names : Names) (front rest : List PlacedToken) (v : List ℕ) → Where IsNotLangString (iri names) front v → datatype_at names (front ++ rest) ≡ Some (v, rest)
datatype-full names front rest v h =
    let e = (finds_iri names).full h.spelled.token v h.spelled.means in
    let n = is_no_lang v (bytes_eq v rdf.lang_string) refl h.has in
    rw (h.spelled.alone, e, n) refl

pub record Quoted (names : Names) (lexical : List ℕ) (ts : List PlacedToken) (x : Term × List PlacedToken) : Type 0 where
  pub front : List PlacedToken
  pub own : Option (List ℕ × Option (List ℕ))
  pub has : optional (string_kind names) front own
  pub parts : ts ≡ front ++ x.1
  pub said : literal_of (lexical, own) ≡ x.0

abbrev plain_literal : List ℕ → Term
plain_literal lexical = Literal lexical xsd.string None

quoted_none : (names : Names) (lexical : List ℕ) (ts : List PlacedToken) (x : Term × List PlacedToken) → Some (plain_literal lexical, ts) ≡ Some x → Quoted names lexical ts x
quoted_none names lexical ts x e =
    let same = some_is (plain_literal lexical, ts) x e in
    record { front = []; own = None; has = refl; parts = ap (λ (y : Term × List PlacedToken). y.1) same; said = ap (λ (y : Term × List PlacedToken). y.0) same }

quoted_sound : (names : Names) (lexical : List ℕ) (ts : List PlacedToken) (x : Term × List PlacedToken) → quoted_at names lexical ts ≡ Some x → Quoted names lexical ts x
quoted_sound names lexical [] x e = quoted_none names lexical [] x e
quoted_sound names lexical (t ∷ ts) x e = elim (suffix-cases t.kind) [
  | inl k ↦
      let b : tagged_at lexical (t ∷ ts) ≡ Some x = ap (λ (j : TokenKind). quoted_by names lexical (t ∷ ts) (suffix_of j)) (sym k) ∙ e in
      let m = mapped (λ (tag : List ℕ). (Literal lexical rdf.lang_string (Some tag), ts)) (tag_of t.text) x b in
      record {
        front = t ∷ [];
        own = Some (of_tag m.0);
        has = inl (record { own = m.0; spelled = single HasTag t m.0 (record { is_tag = k; has = finds_tag.sound t.text m.0 m.1 }); means = refl });
        parts = ap (λ (y : Term × List PlacedToken). t ∷ y.1) m.2;
        said = ap (λ (y : Term × List PlacedToken). y.0) m.2;
      }
  | inr h ↦ elim h [
    | inl k ↦
        let b : typed_at names lexical (t ∷ ts) ≡ Some x = ap (λ (j : TokenKind). quoted_by names lexical (t ∷ ts) (suffix_of j)) (sym k) ∙ e in
        let m = mapped (λ (d : List ℕ × List PlacedToken). (Literal lexical d.0 None, d.1)) (datatype_at names ts) x b in
        let d = datatype-sound names ts m.0 m.1 in
        record {
          front = t ∷ d.0;
          own = Some (of_datatype m.0.0);
          has = inr (record {
            own = m.0.0;
            spelled = record { own = (tt, m.0.0); spelled = record { front = t ∷ []; back = d.0; parts = refl; first = record { token = t; alone = refl; means = k }; second = d.1 }; means = refl };
            means = refl;
          });
          parts = ap (λ (y : List PlacedToken). t ∷ y) d.2 ∙ ap (λ (y : Term × List PlacedToken). t ∷ d.0 ++ y.1) m.2;
          said = ap (λ (y : Term × List PlacedToken). y.0) m.2;
        }
    | inr p ↦ quoted_none names lexical (t ∷ ts) x (ap (quoted_by names lexical (t ∷ ts)) (sym p) ∙ e)
  ]
]

quoted_full : (names : Names) (lexical : List ℕ) (front rest : List PlacedToken) (k : Option (List ℕ × Option (List ℕ))) → optional (string_kind names) front k → Begins ends_string rest → quoted_at names lexical (front ++ rest) ≡ Some (literal_of (lexical, k), rest)
quoted_full names lexical front rest None h b =
    let f : suffix_at rest ≡ suffix.Neither = ap suffix_at b.parts ∙ string-ends b.token.kind b.passes in
    ap (λ (t : List PlacedToken). quoted_at names lexical (t ++ rest)) h ∙ ap (quoted_by names lexical rest) f
quoted_full names lexical front rest (Some k) h b = elim h [
  | inl g ↦
      let t = g.spelled.token in
      let e = finds_tag.full t.text g.own g.spelled.means.has in
      ap (λ (u : List PlacedToken). quoted_at names lexical (u ++ rest)) g.spelled.alone ∙ ap (λ (j : TokenKind). quoted_by names lexical (t ∷ rest) (suffix_of j)) g.spelled.means.is_tag ∙ ap (option_map (λ (tag : List ℕ). (Literal lexical rdf.lang_string (Some tag), rest))) e
      ∙ ap (λ (w : List ℕ × Option (List ℕ)). Some (literal_of (lexical, Some w), rest)) (sym g.means)
  | inr g ↦
      let a = behind_is kinds.DoubleCaret (Where IsNotLangString (iri names)) front g.own g.spelled in
      let e = datatype-full names a.behind rest g.own a.has in
      ap (λ (u : List PlacedToken). quoted_at names lexical (u ++ rest)) a.parts ∙ ap (λ (j : TokenKind). quoted_by names lexical (a.token ∷ (a.behind ++ rest)) (suffix_of j)) a.is_kind ∙ ap (option_map (λ (d : List ℕ × List PlacedToken). (Literal lexical d.0 None, d.1))) e
      ∙ ap (λ (w : List ℕ × Option (List ℕ)). Some (literal_of (lexical, Some w), rest)) (sym g.means)
]

-- ---- terms

pub record Plain (names : Names) (o : Output) (ts : List PlacedToken) (x : (Term × Output) × List PlacedToken) : Type 0 where
  pub front : List PlacedToken
  pub own : Says
  pub has : plain_term names front own
  pub parts : ts ≡ front ++ x.1
  pub said : own o ≡ x.0

is_node : (names : Names) (t : PlacedToken) (o : Output) (ts : List PlacedToken) (x : (Term × Output) × List PlacedToken) → node_term names t o ts ≡ Some x → Plain names o (t ∷ ts) x
is_node names t o ts x e =
    let m = mapped (λ (y : Term × Output). (y, ts)) (node_run names t o) x e in
    let n = node-sound names t o m.0 m.1 in
    record {
      front = t ∷ [];
      own = n.own;
      has = inl n.has;
      parts = ap (λ (y : (Term × Output) × List PlacedToken). t ∷ y.1) m.2;
      said = n.said ∙ ap (λ (y : (Term × Output) × List PlacedToken). y.0) m.2;
    }

is_string : (names : Names) (t : PlacedToken) (o : Output) (ts : List PlacedToken) (x : (Term × Output) × List PlacedToken) → t.kind ≡ kinds.String → term_by names t o ts kinds.String ≡ Some x → Plain names o (t ∷ ts) x
is_string names t o ts x k e =
    let b = bind_some (string_of t.text) (λ (lexical : List ℕ). option_map (λ (y : Term × List PlacedToken). ((y.0, o), y.1)) (quoted_at names lexical ts)) x e in
    let m = mapped (λ (y : Term × List PlacedToken). ((y.0, o), y.1)) (quoted_at names b.0 ts) x b.2 in
    let q = quoted_sound names b.0 ts m.0 m.1 in
    record {
      front = t ∷ q.front;
      own = says (literal_of (b.0, q.own));
      has = inr (record {
        own = literal_of (b.0, q.own);
        spelled = inl (record {
          own = (b.0, q.own);
          spelled = record { front = t ∷ []; back = q.front; parts = refl; first = single HasString t b.0 (record { is_string = k; has = finds_string.sound t.text b.0 b.1 }); second = q.has };
          means = refl;
        });
        means = refl;
      });
      parts = ap (λ (y : List PlacedToken). t ∷ y) q.parts ∙ ap (λ (y : (Term × Output) × List PlacedToken). t ∷ q.front ++ y.1) m.2;
      said = ap (λ (v : Term). (v, o)) q.said ∙ ap (λ (y : (Term × Output) × List PlacedToken). y.0) m.2;
    }

is_unquoted : (names : Names) (t : PlacedToken) (o : Output) (ts : List PlacedToken) (x : (Term × Output) × List PlacedToken) → unquoted_run t o ts ≡ Some x → Plain names o (t ∷ ts) x
is_unquoted names t o ts x e =
    let m = mapped (λ (v : Term). ((v, o), ts)) (unquoted_literal t.kind (encode_utf8_all t.text)) x e in
    record {
      front = t ∷ [];
      own = says m.0;
      has = inr (record { own = m.0; spelled = inr (single IsUnquoted t m.0 m.1); means = refl });
      parts = ap (λ (y : (Term × Output) × List PlacedToken). t ∷ y.1) m.2;
      said = ap (λ (y : (Term × Output) × List PlacedToken). y.0) m.2;
    }

pub term-sound : (names : Names) (o : Output) (ts : List PlacedToken) (x : (Term × Output) × List PlacedToken) → term_run names o ts ≡ Some x → Plain names o ts x
unfolding term_run
term-sound names o [] x e = absurd cc
term-sound names o (t ∷ ts) x e = elim (term-cases names t o ts x t.kind e) [
  | inl k ↦ is_string names t o ts x k (ap (term_by names t o ts) (sym k) ∙ e)
  | inr h ↦ elim h [ inl u ↦ is_unquoted names t o ts x u | inr n ↦ is_node names t o ts x n ]
]

node_read : (names : Names) (o : Output) (front rest : List PlacedToken) (d : Says) → node names front d → term_run names o (front ++ rest) ≡ Some (d o, rest)
unfolding term_run
node_read names o front rest d h =
    let n = node-full names front d h in
    let e = n.runs o in
    ap (λ (u : List PlacedToken). term_run names o (u ++ rest)) n.alone ∙ term-node names n.token o rest n.token.kind n.starts ∙ ap (option_map (λ (y : Term × Output). (y, rest))) e

string_read : (names : Names) (o : Output) (front rest : List PlacedToken) (v : Term) → Made literal_of (Single HasString ⨾ optional (string_kind names)) front v → Begins ends_string rest → term_run names o (front ++ rest) ≡ Some ((v, o), rest)
unfolding term_run
string_read names o front rest v h b =
    let s = h.spelled.first in
    let t = s.token in
    let same : front ++ rest ≡ t ∷ (h.spelled.back ++ rest) = ap (λ (u : List PlacedToken). u ++ rest) (h.spelled.parts ∙ ap (λ (u : List PlacedToken). u ++ h.spelled.back) s.alone) in
    let e = finds_string.full t.text h.own.0 s.means.has in
    let q = quoted_full names h.own.0 h.spelled.back rest h.own.1 h.spelled.second b in
    let go : term_by names t o (h.spelled.back ++ rest) kinds.String ≡ Some ((literal_of h.own, o), rest) = rw (e, q) refl in
    ap (term_run names o) same ∙ ap (term_by names t o (h.spelled.back ++ rest)) s.means.is_string ∙ go ∙ ap (λ (w : Term). Some ((w, o), rest)) (sym h.means)

unquoted_read : (names : Names) (o : Output) (front rest : List PlacedToken) (v : Term) → Single IsUnquoted front v → term_run names o (front ++ rest) ≡ Some ((v, o), rest)
unfolding term_run
unquoted_read names o front rest v h =
    ap (λ (u : List PlacedToken). term_run names o (u ++ rest)) h.alone ∙ term-unquoted names h.token o rest (encode_utf8_all h.token.text) v h.token.kind h.means ∙ ap (option_map (λ (w : Term). ((w, o), rest))) h.means

pub term-full : (names : Names) (o : Output) (front rest : List PlacedToken) (d : Says) → plain_term names front d → Begins ends_string rest → term_run names o (front ++ rest) ≡ Some (d o, rest)
term-full names o front rest d h b = elim h [
  | inl n ↦ node_read names o front rest d n
  | inr l ↦ elim l.spelled [
    | inl s ↦ string_read names o front rest l.own s b ∙ ap (λ (f : Says). Some (f o, rest)) (sym l.means)
    | inr u ↦ unquoted_read names o front rest l.own u ∙ ap (λ (f : Says). Some (f o, rest)) (sym l.means)
  ]
]

pub term-begins : (names : Names) (front : List PlacedToken) (d : Says) → plain_term names front d → Begins starts_plain front
term-begins names front d h = elim h [
  | inl n ↦ begins-more starts_node starts_plain node-starts_plain front (node-begins names front d n)
  | inr l ↦ elim l.spelled [
    | inl s ↦ record {
      token = s.spelled.first.token;
      behind = s.spelled.back;
      parts = s.spelled.parts ∙ ap (λ (u : List PlacedToken). u ++ s.spelled.back) s.spelled.first.alone;
      passes = ap starts_plain s.spelled.first.means.is_string;
    }
    | inr u ↦ record { token = u.token; behind = []; parts = u.alone; passes = unquoted-plain u.token.kind (encode_utf8_all u.token.text) l.own u.means }
  ]
]
