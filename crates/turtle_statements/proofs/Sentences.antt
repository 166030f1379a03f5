-- Statements are read exactly.
use Rattle.std.proofs.Common.{◌≡◌, ℕ, Bool, true, false, cond, List, [], ◌∷◌, ◌++◌, Option, Some, None, refl, sym, ap, subst, ◌∙◌, append_assoc, inl, inr}
use Rattle.std.specs.Prelude.{option_and_then, encode_utf8_all, ◌⊎◌}
use Rattle.std.specs.Option.{option_map}
use Rattle.std.proofs.lemmas.List.{append-nil}
use Rattle.grammar_forms.specs.Forms.{Form, many, optional, Then, Made, ◌⨾◌, ◌▹◌, ◌◃◌, ◌∣◌}
use Rattle.grammar_forms.proofs.Exactness.{bind_some, some_is}
use Rattle.rdf_terms.specs.declared.term.Term.{Term}
use Rattle.turtle_tokens.specs.declared.kinds.TokenKind.{TokenKind}
use Rattle.turtle_tokens.specs.declared.kinds.TokenKind.TheVariants as kinds
use Rattle.turtle_tokens.specs.Places.{PlacedToken}
use Rattle.turtle_terms.specs.declared.keywords.Keyword.{Keyword}
use Rattle.turtle_terms.specs.declared.keywords.Keyword.TheVariants as words
use Rattle.turtle_statements.specs.declared.output.Output.{Output}
use Rattle.turtle_statements.specs.Names.{Names, with_prefix, with_base}
use Rattle.turtle_statements.specs.Meaning.{Says, Tells, nothing_said, tells_optional, tells_triples, tells_bracketed, directs, adds}
use Rattle.turtle_statements.specs.Statements.{IsStatement}
use Rattle.turtle_statements.specs.Terms.{IsReference, IsPrefix, IsKeyword}
use Rattle.turtle_statements.specs.Grammar.{Single, kind, keyword, node, object, any_object, most_open, properties, collection, bracketed, subject, triples, prefix_part, base_part, directive, statement}
use Rattle.turtle_statements.specs.Lexicon.{split_colon, reference_iri}
use Rattle.turtle_statements.specs.Running.{can_begin_verb, is_kind, strip_kind, opening_of, opening_at, begins_verb, token_keyword, node_run, node_at, collection_run, bracketed_run, properties_run, object_run, subject_by, subject_run, tell_properties, tell_optional, with_subject, with_bracket, triples_by, triples_run, reference_at, prefix_of, prefix_at, base_at, dotted, directed, start_of, statement_by, statement_at, all_by, only_all, statement_run}
use Rattle.turtle_statements.specs.declared.marks.Opening.{Opening}
use Rattle.turtle_statements.specs.declared.marks.Opening.TheVariants.{Paren, Bracket}
use Rattle.turtle_statements.specs.declared.marks.Opening.TheVariants as opening
use Rattle.turtle_statements.proofs.KindLaws.{Begins, begins-append, begins-more, strip-some, strip-full, is_kind-true, is_kind-same, starts_node, starts_subject, ends_string, ends_properties, node-starts_subject, verb-ends_string, properties-ends_string, properties-no_verb}
use Rattle.turtle_statements.proofs.Leaves.{finds_reference, split_sound, split_full}
use Rattle.turtle_statements.proofs.Dispatch.{node-opens, starts_triples, triples-no_keyword, subject-opens, subject-starts_triples}
use Rattle.turtle_statements.proofs.Executing.{mapped, Executes, run_says, run_tells, begins_verb-true, begins_verb-false}
use Rattle.turtle_statements.proofs.TermLaws.{single, node-sound, node-full, node-begins}
use Rattle.turtle_statements.proofs.BracketLaws.{Said, before_is, before_kind, collection-executes, bracketed-executes, properties-executes, properties-begin, object-begins, object-executes, begins_kind, opens_begins, opens_behind}

-- ---- subjects

node_said : (names : Names) (o : Output) (ts : List PlacedToken) (x : (Term × Output) × List PlacedToken) → node_at names o ts ≡ Some x → Said (subject names) o ts x
node_said names o [] x e = absurd cc
node_said names o (t ∷ ts) x e =
    let m = mapped (λ (y : Term × Output). (y, ts)) (node_run names t o) x e in
    let n = node-sound names t o m.0 m.1 in
    record {
      front = t ∷ [];
      own = n.own;
      has = inl n.has;
      parts = ap (λ (y : (Term × Output) × List PlacedToken). t ∷ y.1) m.2;
      said = n.said ∙ ap (λ (y : (Term × Output) × List PlacedToken). y.0) m.2;
    }

collections : (names : Names) → Executes run_says (collection names (any_object names)) (Begins ends_string) (collection_run names.role (object_run names most_open))
collections names = collection-executes names (any_object names) (object_run names most_open) (object-executes names most_open) (object-begins names most_open)

subject_by_sound : (names : Names) (o : Output) (ts : List PlacedToken) (x : (Term × Output) × List PlacedToken) (k : Opening) → subject_by names o ts k ≡ Some x → Said (subject names) o ts x
subject_by_sound names o ts x Paren e =
    let s = (collections names).sound o ts x e in
    record { front = s.0; own = s.1; has = inr s.2; parts = s.3; said = s.4 }
subject_by_sound names o ts x Bracket e = node_said names o ts x e
subject_by_sound names o ts x opening.Neither e = node_said names o ts x e

subject_sound : (names : Names) (o : Output) (ts : List PlacedToken) (x : (Term × Output) × List PlacedToken) → subject_run names o ts ≡ Some x → Said (subject names) o ts x
unfolding subject_run
subject_sound names o ts x e = subject_by_sound names o ts x (opening_at ts) e

subject_full : (names : Names) (o : Output) (front rest : List PlacedToken) (d : Says) → subject names front d → Begins can_begin_verb rest → subject_run names o (front ++ rest) ≡ Some (d o, rest)
unfolding subject_run
subject_full names o front rest d h b = elim h [
  | inl n ↦
      let k = node-full names front d n in
      let g = node-begins names front d n in
      let s : opening_at (front ++ rest) ≡ opening.Neither = opens_begins starts_node front rest g ∙ node-opens g.token.kind g.passes in
      ap (subject_by names o (front ++ rest)) s ∙ ap (λ (u : List PlacedToken). node_at names o (u ++ rest)) k.alone ∙ ap (option_map (λ (y : Term × Output). (y, rest))) (k.runs o)
  | inr c ↦
      ap (subject_by names o (front ++ rest)) (opens_behind kinds.OpenParen (many (any_object names) ◃ kind kinds.CloseParen) front rest c.own c.spelled)
      ∙ (collections names).full o front rest d c (begins-more can_begin_verb ends_string verb-ends_string rest b)
]

subject_begins : (names : Names) (front : List PlacedToken) (d : Says) → subject names front d → Begins starts_subject front
subject_begins names front d h = elim h [
  | inl n ↦ begins-more starts_node starts_subject node-starts_subject front (node-begins names front d n)
  | inr c ↦ begins_kind kinds.OpenParen (many (any_object names) ◃ kind kinds.CloseParen) front c.own c.spelled starts_subject refl
]

-- ---- triples

abbrev run_triples : (Output → Output) → Output → Output
run_triples t o = t o

pub record Tripled (names : Names) (o : Output) (ts : List PlacedToken) (x : Output × List PlacedToken) : Type 0 where
  pub front : List PlacedToken
  pub own : Output → Output
  pub has : triples names front own
  pub parts : ts ≡ front ++ x.1
  pub said : own o ≡ x.0

properties_of : (names : Names) (s : Term) → Executes (run_tells s) (properties names (any_object names)) (Begins ends_properties) (properties_run names (object_run names most_open) s)
properties_of names s = properties-executes names (any_object names) (object_run names most_open) (object-executes names most_open) s

told_sound : (names : Names) (o : Output) (ts : List PlacedToken) (x : Output × List PlacedToken) → with_subject names o ts ≡ Some x → Tripled names o ts x
told_sound names o ts x e =
    let b = bind_some (subject_run names o ts) (tell_properties names) x e in
    let s = subject_sound names o ts b.0 b.1 in
    let k = (properties_of names b.0.0.0).sound b.0.0.1 b.0.1 x b.2 in
    record {
      front = s.front ++ k.0;
      own = tells_triples (s.own, k.1);
      has = inl (record { own = (s.own, k.1); spelled = record { front = s.front; back = k.0; parts = refl; first = s.has; second = k.2 }; means = refl });
      parts = s.parts ∙ ap (λ (t : List PlacedToken). s.front ++ t) k.3 ∙ sym (append_assoc s.front k.0 x.1);
      said = ap (λ (y : Term × Output). k.1 y.0 y.1) s.said ∙ k.4;
    }

optional_by : (names : Names) (y : (Term × Output) × List PlacedToken) (x : Output × List PlacedToken) (b : Bool) → cond b (tell_properties names y) (Some (y.0.1, y.1)) ≡ Some x
    → (front : List PlacedToken) × (v : Option Tells) × optional (properties names (any_object names)) front v × (y.1 ≡ front ++ x.1) × (tells_optional v y.0.0 y.0.1 ≡ x.0)
optional_by names y x true e = let k = (properties_of names y.0.0).sound y.0.1 y.1 x e in (k.0, Some k.1, k.2, k.3, k.4)
optional_by names y x false e =
    let same = some_is (y.0.1, y.1) x e in
    ([], None, refl, ap (λ (z : Output × List PlacedToken). z.1) same, ap (λ (z : Output × List PlacedToken). z.0) same)

bracket_sound : (names : Names) (o : Output) (ts : List PlacedToken) (x : Output × List PlacedToken) → with_bracket names o ts ≡ Some x → Tripled names o ts x
bracket_sound names o ts x e =
    let b = bind_some (bracketed_run names (object_run names most_open) o ts) (tell_optional names) x e in
    let s = (bracketed-executes names (any_object names) (object_run names most_open) (object-executes names most_open)).sound o ts b.0 b.1 in
    let k = optional_by names b.0 x (begins_verb b.0.1) b.2 in
    record {
      front = s.0 ++ k.0;
      own = tells_bracketed (s.1, k.1);
      has = inr (record { own = (s.1, k.1); spelled = record { front = s.0; back = k.0; parts = refl; first = s.2; second = k.2 }; means = refl });
      parts = s.3 ∙ ap (λ (t : List PlacedToken). s.0 ++ t) k.3 ∙ sym (append_assoc s.0 k.0 x.1);
      said = ap (λ (y : Term × Output). tells_optional k.1 y.0 y.1) s.4 ∙ k.4;
    }

triples_by_sound : (names : Names) (o : Output) (ts : List PlacedToken) (x : Output × List PlacedToken) (k : Opening) → triples_by names o ts k ≡ Some x → Tripled names o ts x
triples_by_sound names o ts x Bracket e = bracket_sound names o ts x e
triples_by_sound names o ts x Paren e = told_sound names o ts x e
triples_by_sound names o ts x opening.Neither e = told_sound names o ts x e

triples_sound : (names : Names) (o : Output) (ts : List PlacedToken) (x : Output × List PlacedToken) → triples_run names o ts ≡ Some x → Tripled names o ts x
unfolding triples_run
triples_sound names o ts x e = triples_by_sound names o ts x (opening_at ts) e

no_bracket : (names : Names) (o : Output) (ts : List PlacedToken) (k : Opening) → (k ≡ Paren) ⊎ (k ≡ opening.Neither) → triples_by names o ts k ≡ with_subject names o ts
no_bracket names o ts k h = elim h [ inl e ↦ ap (triples_by names o ts) e | inr e ↦ ap (triples_by names o ts) e ]

optional_full : (names : Names) (s : Term) (o : Output) (front rest : List PlacedToken) (v : Option Tells) → optional (properties names (any_object names)) front v → Begins ends_properties rest
    → cond (begins_verb (front ++ rest)) (properties_run names (object_run names most_open) s o (front ++ rest)) (Some (o, front ++ rest)) ≡ Some (tells_optional v s o, rest)
optional_full names s o front rest None h f = let e = begins_verb-false ends_properties properties-no_verb rest f in rw (h, e) refl
optional_full names s o front rest (Some v) h f =
    let e = begins_verb-true (front ++ rest) (begins-append can_begin_verb front rest (properties-begin names (any_object names) front v h)) in
    let k = (properties_of names s).full o front rest v h f in
    rw (e, k) refl

optional_next : (names : Names) (front rest : List PlacedToken) (v : Option Tells) → optional (properties names (any_object names)) front v → Begins ends_properties rest → Begins ends_string (front ++ rest)
optional_next names front rest None h f = subst (λ (t : List PlacedToken). Begins ends_string (t ++ rest)) (sym h) (begins-more ends_properties ends_string properties-ends_string rest f)
optional_next names front rest (Some v) h f = begins-append ends_string front rest (begins-more can_begin_verb ends_string verb-ends_string front (properties-begin names (any_object names) front v h))

triples_full : (names : Names) (o : Output) (front rest : List PlacedToken) (t : Output → Output) → triples names front t → Begins ends_properties rest → triples_run names o (front ++ rest) ≡ Some (t o, rest)
unfolding triples_run
triples_full names o front rest t h f = elim h [
  | inl k ↦
      let s = k.spelled in
      let b = subject_begins names s.front k.own.0 s.first in
      let same : front ++ rest ≡ s.front ++ (s.back ++ rest) = ap (λ (u : List PlacedToken). u ++ rest) s.parts ∙ append_assoc s.front s.back rest in
      let fk : opening_at (front ++ rest) ≡ opening_of b.token.kind = ap opening_at same ∙ opens_begins starts_subject s.front (s.back ++ rest) b in
      let go_by : triples_by names o (front ++ rest) (opening_at (front ++ rest)) ≡ with_subject names o (front ++ rest) = ap (triples_by names o (front ++ rest)) fk ∙ no_bracket names o (front ++ rest) (opening_of b.token.kind) (subject-opens b.token.kind b.passes) in
      let v = begins-append can_begin_verb s.back rest (properties-begin names (any_object names) s.back k.own.1 s.second) in
      let r : subject_run names o (front ++ rest) ≡ Some (k.own.0 o, s.back ++ rest) = ap (subject_run names o) same ∙ subject_full names o s.front (s.back ++ rest) k.own.0 s.first v in
      let p = (properties_of names (k.own.0 o).0).full (k.own.0 o).1 s.back rest k.own.1 s.second f in
      let go : with_subject names o (front ++ rest) ≡ Some (tells_triples k.own o, rest) = rw (r, p) refl in
      go_by ∙ go ∙ ap (λ (g : Output → Output). Some (g o, rest)) (sym k.means)
  | inr k ↦
      let s = k.spelled in
      let same : front ++ rest ≡ s.front ++ (s.back ++ rest) = ap (λ (u : List PlacedToken). u ++ rest) s.parts ∙ append_assoc s.front s.back rest in
      let fk : opening_at (front ++ rest) ≡ Bracket = ap opening_at same ∙ opens_behind kinds.OpenBracket (properties names (any_object names) ◃ kind kinds.CloseBracket) s.front (s.back ++ rest) s.first.own s.first.spelled in
      let r : bracketed_run names (object_run names most_open) o (front ++ rest) ≡ Some (k.own.0 o, s.back ++ rest) = ap (bracketed_run names (object_run names most_open) o) same ∙ (bracketed-executes names (any_object names) (object_run names most_open) (object-executes names most_open)).full o s.front (s.back ++ rest) k.own.0 s.first (optional_next names s.back rest k.own.1 s.second f) in
      let p = optional_full names (k.own.0 o).0 (k.own.0 o).1 s.back rest k.own.1 s.second f in
      let go : with_bracket names o (front ++ rest) ≡ Some (tells_bracketed k.own o, rest) = rw (r, p) refl in
      ap (triples_by names o (front ++ rest)) fk ∙ go ∙ ap (λ (g : Output → Output). Some (g o, rest)) (sym k.means)
]

triples_begin : (names : Names) (front : List PlacedToken) (t : Output → Output) → triples names front t → Begins starts_triples front
triples_begin names front t h = elim h [
  | inl k ↦ subst (λ (u : List PlacedToken). Begins starts_triples u) (sym k.spelled.parts) (begins-append starts_triples k.spelled.front k.spelled.back (begins-more starts_subject starts_triples subject-starts_triples k.spelled.front (subject_begins names k.spelled.front k.own.0 k.spelled.first)))
  | inr k ↦ subst (λ (u : List PlacedToken). Begins starts_triples u) (sym k.spelled.parts) (begins-append starts_triples k.spelled.front k.spelled.back (begins_kind kinds.OpenBracket (properties names (any_object names) ◃ kind kinds.CloseBracket) k.spelled.front k.spelled.first.own k.spelled.first.spelled starts_triples refl))
]

-- ---- directives

-- a reader of tokens that says nothing
record Reads {V : Type 0} (P : Form PlacedToken V) (r : List PlacedToken → Option (V × List PlacedToken)) : Type 0 where
  sound : (ts : List PlacedToken) (x : V × List PlacedToken) → r ts ≡ Some x → (front : List PlacedToken) × P front x.0 × (ts ≡ front ++ x.1)
  full : (front rest : List PlacedToken) (v : V) → P front v → r (front ++ rest) ≡ Some (v, rest)

reference_by : (names : Names) (t : PlacedToken) (ts : List PlacedToken) (x : List ℕ × List PlacedToken) (b : Bool) → is_kind t.kind kinds.IriRef ≡ b
    → cond b (option_map (λ (iri : List ℕ). (iri, ts)) (reference_iri names t.text)) None ≡ Some x → (front : List PlacedToken) × Single (IsReference names) front x.0 × (t ∷ ts ≡ front ++ x.1)
reference_by names t ts x true e h =
    let m = mapped (λ (iri : List ℕ). (iri, ts)) (reference_iri names t.text) x h in
    subst (λ (y : List ℕ × List PlacedToken). (front : List PlacedToken) × Single (IsReference names) front y.0 × (t ∷ ts ≡ front ++ y.1)) m.2
    (t ∷ [], single (IsReference names) t m.0 (record { is_reference = is_kind-true t.kind kinds.IriRef e; refers = (finds_reference names).sound t.text m.0 m.1 }), refl)
reference_by names t ts x false e h = absurd cc

reference_sound : (names : Names) (ts : List PlacedToken) (x : List ℕ × List PlacedToken) → reference_at names ts ≡ Some x → (front : List PlacedToken) × Single (IsReference names) front x.0 × (ts ≡ front ++ x.1)
unfolding reference_at
reference_sound names [] x e = absurd cc
reference_sound names (t ∷ ts) x e = reference_by names t ts x (is_kind t.kind kinds.IriRef) refl e

reference_full : (names : Names) (front rest : List PlacedToken) (v : List ℕ) → Single (IsReference names) front v → reference_at names (front ++ rest) ≡ Some (v, rest)
unfolding reference_at
reference_full names front rest v h =
    let b = is_kind-same h.token.kind kinds.IriRef h.means.is_reference in
    let e = (finds_reference names).full h.token.text v h.means.refers in
    rw (h.alone, b, e) refl

base_reads : (names : Names) → Reads (base_part names) (base_at names)
unfolding base_at
base_reads names = record {
  sound = λ ts x e.
      let m = mapped (λ (y : List ℕ × List PlacedToken). (with_base names y.0, y.1)) (reference_at names ts) x e in
      let k = reference_sound names ts m.0 m.1 in
      subst (λ (y : Names × List PlacedToken). (front : List PlacedToken) × base_part names front y.0 × (ts ≡ front ++ y.1)) m.2 (k.0, record { own = m.0.0; spelled = k.1; means = refl }, k.2);
  full = λ front rest v h.
      let e = reference_full names front rest h.own h.spelled in
      rw (e, h.means) refl;
}

prefix_by : (t : PlacedToken) (v : List ℕ) (b : Bool) → is_kind t.kind kinds.PnameNs ≡ b → cond b (option_map (λ (p : List ℕ × List ℕ). encode_utf8_all p.0) (split_colon t.text)) None ≡ Some v → IsPrefix t v
prefix_by t v true e h =
    let m = mapped (λ (p : List ℕ × List ℕ). encode_utf8_all p.0) (split_colon t.text) v h in
    record { is_namespace = is_kind-true t.kind kinds.PnameNs e; characters = m.0.0; local = m.0.1; parts = split_sound t.text m.0 m.1; spell = sym m.2 }
prefix_by t v false e h = absurd cc

prefix_found : (t : PlacedToken) (v : List ℕ) → IsPrefix t v → prefix_of t ≡ Some v
prefix_found t v h =
    let b = is_kind-same t.kind kinds.PnameNs h.is_namespace in
    let s = split_full h.characters h.local t.text h.parts.parts h.parts.first in
    rw (b, s, h.spell) refl

prefix_sound : (names : Names) (ts : List PlacedToken) (x : Names × List PlacedToken) → prefix_at names ts ≡ Some x → (front : List PlacedToken) × prefix_part names front x.0 × (ts ≡ front ++ x.1)
unfolding prefix_at
prefix_sound names [] x e = absurd cc
prefix_sound names (t ∷ ts) x e =
    let b = bind_some (prefix_of t) (λ (prefix : List ℕ). option_map (λ (y : List ℕ × List PlacedToken). (with_prefix names (prefix, y.0), y.1)) (reference_at names ts)) x e in
    let m = mapped (λ (y : List ℕ × List PlacedToken). (with_prefix names (b.0, y.0), y.1)) (reference_at names ts) x b.2 in
    let k = reference_sound names ts m.0 m.1 in
    subst (λ (y : Names × List PlacedToken). (front : List PlacedToken) × prefix_part names front y.0 × (t ∷ ts ≡ front ++ y.1)) m.2 (
      t ∷ k.0,
      record {
        own = (b.0, m.0.0);
        spelled = record { front = t ∷ []; back = k.0; parts = refl; first = single IsPrefix t b.0 (prefix_by t b.0 (is_kind t.kind kinds.PnameNs) refl b.1); second = k.1 };
        means = refl;
      },
      ap (λ (u : List PlacedToken). t ∷ u) k.2,
    )

prefix_full : (names : Names) (front rest : List PlacedToken) (v : Names) → prefix_part names front v → prefix_at names (front ++ rest) ≡ Some (v, rest)
unfolding prefix_at
prefix_full names front rest v h =
    let s = h.spelled in
    let same : front ++ rest ≡ s.first.token ∷ (s.back ++ rest) = ap (λ (u : List PlacedToken). u ++ rest) (s.parts ∙ ap (λ (u : List PlacedToken). u ++ s.back) s.first.alone) in
    let p = prefix_found s.first.token h.own.0 s.first.means in
    let e = reference_full names s.back rest h.own.1 s.second in
    let go : prefix_at names (s.first.token ∷ (s.back ++ rest)) ≡ Some (with_prefix names h.own, rest) = rw (p, e) refl in
    ap (prefix_at names) same ∙ go ∙ ap (λ (w : Names). Some (w, rest)) (sym h.means)

prefix_reads : (names : Names) → Reads (prefix_part names) (prefix_at names)
prefix_reads names = record { sound = λ ts x e. prefix_sound names ts x e; full = λ front rest v h. prefix_full names front rest v h }

dotted_reads : (P : Form PlacedToken Names) (r : List PlacedToken → Option (Names × List PlacedToken)) → Reads P r → Reads (P ◃ kind kinds.Dot) (λ ts. dotted (r ts))
dotted_reads P r p = record {
  sound = λ ts x e.
      let b = bind_some (r ts) (λ (y : Names × List PlacedToken). option_map (λ (after : List PlacedToken). (y.0, after)) (strip_kind kinds.Dot y.1)) x e in
      let m = mapped (λ (after : List PlacedToken). (b.0.0, after)) (strip_kind kinds.Dot b.0.1) x b.2 in
      let d = strip-some kinds.Dot b.0.1 m.0 m.1 in
      let k = p.sound ts b.0 b.1 in
      subst (λ (y : Names × List PlacedToken). (front : List PlacedToken) × (P ◃ kind kinds.Dot) front y.0 × (ts ≡ front ++ y.1)) m.2
      (k.0 ++ d.0 ∷ [], before_kind kinds.Dot P k.0 d.0 b.0.0 d.2 k.1, k.2 ∙ ap (λ (u : List PlacedToken). k.0 ++ u) d.1 ∙ sym (append_assoc k.0 (d.0 ∷ []) m.0));
  full = λ front rest v h.
      let b = before_is kinds.Dot P front v h in
      let same : front ++ rest ≡ b.before ++ b.token ∷ rest = ap (λ (u : List PlacedToken). u ++ rest) b.parts ∙ append_assoc b.before (b.token ∷ []) rest in
      let e : r (front ++ rest) ≡ Some (v, b.token ∷ rest) = ap r same ∙ p.full b.before (b.token ∷ rest) v b.has in
      let d = strip-full kinds.Dot b.token rest b.is_kind in
      rw (e, d) refl;
}

-- ---- statements

pub record Stated (names : Names) (o : Output) (ts : List PlacedToken) (x : (Names × Output) × List PlacedToken) : Type 0 where
  pub front : List PlacedToken
  pub own : Names × (Output → Output)
  pub has : statement names front own
  pub parts : ts ≡ front ++ x.1
  pub names_are : x.0.0 ≡ own.0
  pub said : x.0.1 ≡ own.1 o

abbrev Directive : Names → Keyword → Form PlacedToken Names → Type 0
Directive names k P = (front : List PlacedToken) (v : Names) → (keyword k ▹ P) front v → directive names front v

directive_sound : (names : Names) (k : Keyword) (P : Form PlacedToken Names) (r : List PlacedToken → Option (Names × List PlacedToken)) → Reads P r → Directive names k P → (o : Output) (t : PlacedToken) (ts : List PlacedToken) (x : (Names × Output) × List PlacedToken) → token_keyword t ≡ Some k
    → directed o (r ts) ≡ Some x → Stated names o (t ∷ ts) x
directive_sound names k P r p d o t ts x e h =
    let m = mapped (λ (y : Names × List PlacedToken). ((y.0, o), y.1)) (r ts) x h in
    let s = p.sound ts m.0 m.1 in
    record {
      front = t ∷ s.0;
      own = directs m.0.0;
      has = inl (record {
        own = m.0.0;
        spelled = d (t ∷ s.0) m.0.0 (record { own = (tt, m.0.0); spelled = record { front = t ∷ []; back = s.0; parts = refl; first = single (IsKeyword k) t tt e; second = s.1 }; means = refl });
        means = refl;
      });
      parts = ap (λ (u : List PlacedToken). t ∷ u) s.2 ∙ ap (λ (y : (Names × Output) × List PlacedToken). t ∷ s.0 ++ y.1) m.2;
      names_are = ap (λ (y : (Names × Output) × List PlacedToken). y.0.0) (sym m.2);
      said = ap (λ (y : (Names × Output) × List PlacedToken). y.0.1) (sym m.2);
    }

stated_triples : (names : Names) (o : Output) (ts : List PlacedToken) (x : (Names × Output) × List PlacedToken) → option_map (λ (y : Output × List PlacedToken). ((names, y.0), y.1)) (dotted (triples_run names o ts)) ≡ Some x → Stated names o ts x
stated_triples names o ts x h =
    let m = mapped (λ (y : Output × List PlacedToken). ((names, y.0), y.1)) (dotted (triples_run names o ts)) x h in
    let b = bind_some (triples_run names o ts) (λ (y : Output × List PlacedToken). option_map (λ (after : List PlacedToken). (y.0, after)) (strip_kind kinds.Dot y.1)) m.0 m.1 in
    let n = mapped (λ (after : List PlacedToken). (b.0.0, after)) (strip_kind kinds.Dot b.0.1) m.0 b.2 in
    let d = strip-some kinds.Dot b.0.1 n.0 n.1 in
    let k = triples_sound names o ts b.0 b.1 in
    record {
      front = k.front ++ d.0 ∷ [];
      own = adds names k.own;
      has = inr (record { own = k.own; spelled = before_kind kinds.Dot (triples names) k.front d.0 k.own d.2 k.has; means = refl });
      parts = k.parts ∙ ap (λ (u : List PlacedToken). k.front ++ u) d.1 ∙ sym (append_assoc k.front (d.0 ∷ []) n.0) ∙ ap (λ (y : Output × List PlacedToken). (k.front ++ d.0 ∷ []) ++ y.1) n.2 ∙ ap (λ (y : (Names × Output) × List PlacedToken). (k.front ++ d.0 ∷ []) ++ y.1) m.2;
      names_are = ap (λ (y : (Names × Output) × List PlacedToken). y.0.0) (sym m.2);
      said = ap (λ (y : (Names × Output) × List PlacedToken). y.0.1) (sym m.2) ∙ ap (λ (y : Output × List PlacedToken). y.0) (sym n.2) ∙ sym k.said;
    }

stated_by : (names : Names) (o : Output) (t : PlacedToken) (ts : List PlacedToken) (x : (Names × Output) × List PlacedToken) (k : Option Keyword) → token_keyword t ≡ k → statement_by names o (t ∷ ts) ts (start_of k) ≡ Some x → Stated names o (t ∷ ts) x
stated_by names o t ts x (Some words.Prefix) e h = directive_sound names words.Prefix (prefix_part names ◃ kind kinds.Dot) (λ us. dotted (prefix_at names us)) (dotted_reads (prefix_part names) (prefix_at names) (prefix_reads names)) (λ front v d. inl d) o t ts x e h
stated_by names o t ts x (Some words.Base) e h = directive_sound names words.Base (base_part names ◃ kind kinds.Dot) (λ us. dotted (base_at names us)) (dotted_reads (base_part names) (base_at names) (base_reads names)) (λ front v d. inr (inl d)) o t ts x e h
stated_by names o t ts x (Some words.SparqlPrefix) e h = directive_sound names words.SparqlPrefix (prefix_part names) (prefix_at names) (prefix_reads names) (λ front v d. inr (inr (inl d))) o t ts x e h
stated_by names o t ts x (Some words.SparqlBase) e h = directive_sound names words.SparqlBase (base_part names) (base_at names) (base_reads names) (λ front v d. inr (inr (inr d))) o t ts x e h
stated_by names o t ts x (Some words.A) e h = stated_triples names o (t ∷ ts) x h
stated_by names o t ts x (Some words.True) e h = stated_triples names o (t ∷ ts) x h
stated_by names o t ts x (Some words.False) e h = stated_triples names o (t ∷ ts) x h
stated_by names o t ts x None e h = stated_triples names o (t ∷ ts) x h

pub statement-sound : (names : Names) (o : Output) (ts : List PlacedToken) (x : (Names × Output) × List PlacedToken) → statement_at names o ts ≡ Some x → Stated names o ts x
unfolding statement_at
statement-sound names o [] x e = absurd cc
statement-sound names o (t ∷ ts) x e = stated_by names o t ts x (token_keyword t) refl e

directive_full : (names : Names) (k : Keyword) (P : Form PlacedToken Names) (r : List PlacedToken → Option (Names × List PlacedToken)) → Reads P r → (o : Output) → ((all ts : List PlacedToken) → statement_by names o all ts (start_of (Some k)) ≡ directed o (r ts))
    → (front rest : List PlacedToken) (v : Names) → (keyword k ▹ P) front v → statement_at names o (front ++ rest) ≡ Some ((v, o), rest)
unfolding statement_at
directive_full names k P r p o same_at front rest v h =
    let s = h.spelled in
    let t = s.first.token in
    let same : front ++ rest ≡ t ∷ (s.back ++ rest) = ap (λ (u : List PlacedToken). u ++ rest) (s.parts ∙ ap (λ (u : List PlacedToken). u ++ s.back) s.first.alone) in
    let e = p.full s.back rest h.own.1 s.second in
    ap (statement_at names o) same ∙ ap (λ (j : Option Keyword). statement_by names o (t ∷ (s.back ++ rest)) (s.back ++ rest) (start_of j)) s.first.means ∙ same_at (t ∷ (s.back ++ rest)) (s.back ++ rest) ∙ ap (directed o) e ∙ ap (λ (w : Names). Some ((w, o), rest)) (sym h.means)

stated_full : (names : Names) (o : Output) (front rest : List PlacedToken) (v : Output → Output) → (triples names ◃ kind kinds.Dot) front v → statement_at names o (front ++ rest) ≡ Some ((names, v o), rest)
unfolding statement_at
stated_full names o front rest v h =
    let b = before_is kinds.Dot (triples names) front v h in
    let same : front ++ rest ≡ b.before ++ b.token ∷ rest = ap (λ (u : List PlacedToken). u ++ rest) b.parts ∙ append_assoc b.before (b.token ∷ []) rest in
    let g = begins-append starts_triples b.before (b.token ∷ rest) (triples_begin names b.before v b.has) in
    let parts : front ++ rest ≡ g.token ∷ g.behind = same ∙ g.parts in
    let none : token_keyword g.token ≡ None = triples-no_keyword g.token.kind (encode_utf8_all g.token.text) g.passes in
    let ends : Begins ends_properties (b.token ∷ rest) = record { token = b.token; behind = rest; parts = refl; passes = ap ends_properties b.is_kind } in
    let e : triples_run names o (g.token ∷ g.behind) ≡ Some (v o, b.token ∷ rest) = ap (triples_run names o) (sym g.parts) ∙ triples_full names o b.before (b.token ∷ rest) v b.has ends in
    let d = strip-full kinds.Dot b.token rest b.is_kind in
    let go : statement_by names o (g.token ∷ g.behind) g.behind (start_of None) ≡ Some ((names, v o), rest) = rw (e, d) refl in
    ap (statement_at names o) parts ∙ ap (λ (j : Option Keyword). statement_by names o (g.token ∷ g.behind) g.behind (start_of j)) none ∙ go

pub statement-full : (names : Names) (o : Output) (front rest : List PlacedToken) (v : Names × (Output → Output)) → statement names front v → statement_at names o (front ++ rest) ≡ Some ((v.0, v.1 o), rest)
statement-full names o front rest v h = elim h [
  | inl d ↦ (elim d.spelled [
    | inl a ↦ directive_full names words.Prefix (prefix_part names ◃ kind kinds.Dot) (λ us. dotted (prefix_at names us)) (dotted_reads (prefix_part names) (prefix_at names) (prefix_reads names)) o (λ all ts. refl) front rest d.own a
    | inr x ↦ elim x [
      | inl b ↦ directive_full names words.Base (base_part names ◃ kind kinds.Dot) (λ us. dotted (base_at names us)) (dotted_reads (base_part names) (base_at names) (base_reads names)) o (λ all ts. refl) front rest d.own b
      | inr y ↦ elim y [
        | inl c ↦ directive_full names words.SparqlPrefix (prefix_part names) (prefix_at names) (prefix_reads names) o (λ all ts. refl) front rest d.own c
        | inr e ↦ directive_full names words.SparqlBase (base_part names) (base_at names) (base_reads names) o (λ all ts. refl) front rest d.own e
      ]
    ]
  ]) ∙ ap (λ (w : Names × (Output → Output)). Some ((w.0, w.1 o), rest)) (sym d.means)
  | inr t ↦ stated_full names o front rest t.own t.spelled ∙ ap (λ (w : Names × (Output → Output)). Some ((w.0, w.1 o), rest)) (sym t.means)
]

-- ---- all tokens of a statement

all_is : {A : Type 0} (v w : A) (ts : List PlacedToken) → all_by v ts ≡ Some w → (ts ≡ []) × (v ≡ w)
all_is v w [] e = (refl, some_is v w e)
all_is v w (t ∷ ts) e = absurd cc

pub statement-read : (names : Names) (o : Output) (ts : List PlacedToken) (x : Names × Output) → statement_run names o ts ≡ Some x → IsStatement names o ts x.0 x.1
statement-read names o ts x e =
    let b = bind_some (statement_at names o ts) only_all x e in
    let k = statement-sound names o ts b.0 b.1 in
    let a = all_is b.0.0 x b.0.1 b.2 in
    let same : k.front ≡ ts = sym (k.parts ∙ ap (λ (u : List PlacedToken). k.front ++ u) a.0 ∙ append-nil k.front) in
    record {
      meaning = k.own;
      spelled = subst (λ (u : List PlacedToken). statement names u k.own) same k.has;
      names = ap (λ (y : Names × Output). y.0) (sym a.1) ∙ k.names_are;
      output = ap (λ (y : Names × Output). y.1) (sym a.1) ∙ k.said;
    }

statement_whole : (names : Names) (o : Output) (ts : List PlacedToken) (v : Names × (Output → Output)) → statement names ts v → statement_at names o ts ≡ Some ((v.0, v.1 o), [])
statement_whole names o ts v h = subst (λ (u : List PlacedToken). statement_at names o u ≡ Some ((v.0, v.1 o), [])) (append-nil ts) (statement-full names o ts [] v h)

none_some : {A : Type 0} (x : A) → None ≡ Some x → ⊥
none_some x e = absurd cc

pub statement-missed : (names : Names) (o : Output) (ts : List PlacedToken) → statement_run names o ts ≡ None → (v : Names × (Output → Output)) → statement names ts v → ⊥
statement-missed names o ts e v h =
    none_some (v.0, v.1 o) (sym e ∙ ap (option_and_then only_all) (statement_whole names o ts v h))

pub statement-nonempty : (names : Names) (v : Names × (Output → Output)) → statement names [] v → ⊥
unfolding statement_at
statement-nonempty names v h = none_some ((v.0, v.1 nothing_said), []) (statement_whole names nothing_said [] v h)

-- a statement leaves one thing
pub statement-unique : (names : Names) (o : Output) (ts : List PlacedToken) (a : Names) (p : Output) (b : Names) (q : Output) → IsStatement names o ts a p → IsStatement names o ts b q → (a ≡ b) × (p ≡ q)
statement-unique names o ts a p b q h k =
    let same = some_is ((h.meaning.0, h.meaning.1 o), []) ((k.meaning.0, k.meaning.1 o), []) (sym (statement_whole names o ts h.meaning h.spelled) ∙ statement_whole names o ts k.meaning k.spelled) in
    (h.names ∙ ap (λ (y : (Names × Output) × List PlacedToken). y.0.0) same ∙ sym k.names, h.output ∙ ap (λ (y : (Names × Output) × List PlacedToken). y.0.1) same ∙ sym k.output)
