-- A line is the text of a triple only: no literal stands as a subject, and no blank node or literal as a predicate.
use Rattle.std.proofs.Common.{◌≡◌, ℕ, Bool, true, false, List, ◌∷◌, ◌++◌, Option, Some, None, codes, refl, sym, ap, subst, ◌∙◌, inl, inr}
use Rattle.std.specs.Char.{encode_utf8}
use Rattle.std.specs.Prelude.{◌==◌, IsTrue}
use Rattle.std.specs.Str.{chars}
use Rattle.std.specs.List.{list_all}
use Rattle.std.proofs.lemmas.Str.{chars_from_encodes}
use Rattle.grammar_forms.specs.Forms.{Form, terminal, Then, ◌⨾◌, ◌▹◌, ◌◃◌}
use Rattle.grammar_forms.specs.Reading.{whole}
use Rattle.grammar_forms.specs.Exact.{Exact}
use Rattle.grammar_forms.proofs.Exactness.{Starts, made_exact}
use Rattle.grammar_forms.proofs.NameEnds.{no_name_before}
use Rattle.grammar_forms.specs.Names.{NoName}
use Rattle.rdf_terms.specs.declared.term.Scope.{Scope}
use Rattle.rdf_terms.specs.declared.term.Term.{Term}
use Rattle.rdf_terms.specs.declared.term.Term.TheVariants.{Iri, Blank, Literal}
use Rattle.rdf_terms.specs.Statement.{Statement, is_node, is_iri}
use Rattle.rdf_terms.specs.Graph.{Graph, has}
use Rattle.rdf_grammar.specs.declared.dialect.Dialect.TheVariants.{NTriples}
use Rattle.rdf_grammar.specs.Productions.{is_base, is_name_start, is_name_char}
use Rattle.rdf_grammar.specs.Reading.{iriref_at, absolute_iri_at, blank_node_label_at}
use Rattle.rdf_grammar.specs.Lawful.{IsLawfulTriple}
use Rattle.rdf_grammar.proofs.Productions.{blank_node_label_exact, blank_node_label_starts}
use Rattle.ntriples_io.specs.Cutting.{is_plain}
use Rattle.ntriples_io.specs.NTriples.{is_space, iri, blank, literal, object}
use Rattle.ntriples_io.specs.Reading.{ws_at, comment_at, iri_at, blank_at, subject_at, triple_at, line_at}
use Rattle.ntriples_io.specs.Lines.{IsLine}
use Rattle.ntriples_io.specs.CanonicalText.{term_text}
use Rattle.ntriples_io.specs.RoundTrip.{IsInScope, IsTripleInScope, IsTriple}
use Rattle.ntriples_io.proofs.LineForms.{iri_exact, is_line_full}
use Rattle.ntriples_io.proofs.Utf8Bytes.{plain_bytes}
use Rattle.ntriples_io.proofs.Spelled.{Spelled, spelled_terminal, spelled_then, spelled_over, spelled_left, same_bytes}
use Rattle.ntriples_io.proofs.TermSpelling.{object_spelled, body_text, regroup}

abbrev pub AreTriples : Graph → Type 0
AreTriples g = (t : Statement) → IsTrue (has g t) → IsTriple t

-- ---- how a term begins

iri_starts : (a i : List ℕ) → iri a (Iri i) → Starts 60 a
iri_starts a i h = (h.spelled.spelled.spelled.back, rw (h.spelled.spelled.spelled.parts, h.spelled.spelled.spelled.first) refl)

literal_starts : (a l d : List ℕ) (t : Option (List ℕ)) → literal a (Literal l d t) → Starts 34 a
literal_starts a l d t h =
    let string = h.spelled.first in
    (string.spelled.back ++ h.spelled.back, rw (h.spelled.parts, string.spelled.parts, string.spelled.first) refl)

iri_only : (scope : Scope) (a i : List ℕ) → object scope a (Iri i) → iri a (Iri i)
iri_only scope a i h = elim h [ inl k ↦ k | inr k ↦ elim k [ inl b ↦ let e = b.means in absurd cc | inr l ↦ let e = l.means in absurd cc ] ]

blank_only : (scope s : Scope) (a l : List ℕ) → object scope a (Blank s l) → blank scope a (Blank s l)
blank_only scope s a l h = elim h [ inl k ↦ let e = k.means in absurd cc | inr k ↦ elim k [ inl b ↦ b | inr t ↦ let e = t.means in absurd cc ] ]

literal_only : (scope : Scope) (a l d : List ℕ) (t : Option (List ℕ)) → object scope a (Literal l d t) → literal a (Literal l d t)
literal_only scope a l d t h = elim h [ inl k ↦ let e = k.means in absurd cc | inr k ↦ elim k [ inl b ↦ let e = b.means in absurd cc | inr x ↦ x ] ]

-- ---- what is read of a text that is none of a triple

-- nothing is read of a line that begins with no blank, no '#' and no triple
no_line : (scope : Scope) (c : ℕ) (rest : List ℕ) → is_space c ≡ false → (c == 35) ≡ false → triple_at scope (c ∷ rest) ≡ None → whole (line_at scope) (c ∷ rest) ≡ None
unfolding line_at ws_at comment_at
no_line scope c rest dark other h = rw (dark, h, other) refl

no_quote : (scope : Scope) (rest : List ℕ) → triple_at scope (34 ∷ rest) ≡ None
unfolding triple_at subject_at iri_at absolute_iri_at iriref_at blank_at blank_node_label_at
no_quote scope rest = refl

no_predicate : (scope : Scope) (s : Term) (text rest : List ℕ) (c : ℕ) → (c == 60) ≡ false → is_space c ≡ false → subject_at scope text ≡ Some (s, 32 ∷ c ∷ rest) → triple_at scope text ≡ None
unfolding triple_at ws_at iri_at absolute_iri_at iriref_at
no_predicate scope s text rest c other dark h = rw (h, dark, other) refl

iri_subject : (scope : Scope) (a i rest : List ℕ) → iri a (Iri i) → subject_at scope (a ++ rest) ≡ Some (Iri i, rest)
unfolding subject_at
iri_subject scope a i rest h = rw (iri_exact.full a rest (Iri i) h tt) refl

no_label_space : (rest : List ℕ) → NoName (is_name_char NTriples) (32 ∷ rest)
unfolding is_name_char is_name_start is_base
no_label_space rest = no_name_before (is_name_char NTriples) 32 rest refl refl

blank_exact : (scope : Scope) → Exact (blank scope) (NoName (is_name_char NTriples)) (blank_at scope)
unfolding blank_at
blank_exact scope = made_exact (Blank scope) (blank_node_label_exact NTriples)

no_iri_before : (rest : List ℕ) → iri_at (95 ∷ rest) ≡ None
unfolding iri_at absolute_iri_at iriref_at
no_iri_before rest = refl

blank_subject : (scope s : Scope) (a l rest : List ℕ) → blank scope a (Blank s l) → subject_at scope (a ++ 32 ∷ rest) ≡ Some (Blank s l, 32 ∷ rest)
unfolding subject_at
blank_subject scope s a l rest h =
    let k = blank_node_label_starts NTriples a h.own h.spelled in
    let none : iri_at (a ++ 32 ∷ rest) ≡ None = ap (λ (t : List ℕ). iri_at (t ++ 32 ∷ rest)) k.1 ∙ no_iri_before (k.0 ++ 32 ∷ rest) in
    rw (none, (blank_exact scope).full a (32 ∷ rest) (Blank s l) h (no_label_space rest)) refl

-- ---- a line with any terms

-- a node begins with no blank and no '#'
record BeginsNode (a : List ℕ) : Type 0 where
  first : ℕ
  rest : List ℕ
  is : a ≡ first ∷ rest
  dark : is_space first ≡ false
  no_comment : (first == 35) ≡ false

-- another term than an IRI begins with no blank and no '<'
record BeginsOther (a : List ℕ) : Type 0 where
  first : ℕ
  rest : List ℕ
  is : a ≡ first ∷ rest
  dark : is_space first ≡ false
  no_iri : (first == 60) ≡ false

node_begins : (scope : Scope) (s : Term) (a : List ℕ) → object scope a s → is_node s ≡ true → BeginsNode a
node_begins scope (Iri i) a h n = let k = iri_starts a i (iri_only scope a i h) in record { first = 60; rest = k.0; is = k.1; dark = refl; no_comment = refl }
node_begins scope (Blank r l) a h n =
    let b = blank_only scope r a l h in
    let k = blank_node_label_starts NTriples a b.own b.spelled in
    record { first = 95; rest = k.0; is = k.1; dark = refl; no_comment = refl }
node_begins scope (Literal l d t) a h n = absurd cc

other_begins : (scope : Scope) (s : Term) (a : List ℕ) → object scope a s → is_iri s ≡ false → BeginsOther a
other_begins scope (Iri i) a h n = absurd cc
other_begins scope (Blank r l) a h n =
    let b = blank_only scope r a l h in
    let k = blank_node_label_starts NTriples a b.own b.spelled in
    record { first = 95; rest = k.0; is = k.1; dark = refl; no_iri = refl }
other_begins scope (Literal l d t) a h n = let k = literal_starts a l d t (literal_only scope a l d t h) in record { first = 34; rest = k.0; is = k.1; dark = refl; no_iri = refl }

subject_read : (scope : Scope) (s : Term) (a rest : List ℕ) → object scope a s → is_node s ≡ true → subject_at scope (a ++ 32 ∷ rest) ≡ Some (s, 32 ∷ rest)
subject_read scope (Iri i) a rest h n = iri_subject scope a i (32 ∷ rest) (iri_only scope a i h)
subject_read scope (Blank r l) a rest h n = blank_subject scope r a l rest (blank_only scope r a l h)
subject_read scope (Literal l d t) a rest h n = absurd cc

never : {A : Type 0} (P : Type 0) (o : Option A) (v : A) → o ≡ None → o ≡ Some v → P
never P o v e f = let k : None ≡ Some v = sym e ∙ f in absurd cc

subject_must : {B : Type 0} (scope : Scope) (R : Form ℕ B) (cs : List ℕ) (s : Term) (w : B) (v : Option Statement) → Then (object scope) R cs (s, w) → whole (line_at scope) cs ≡ Some v → is_node s ≡ true
subject_must scope R cs (Iri i) w v h e = refl
subject_must scope R cs (Blank r l) w v h e = refl
subject_must scope R cs (Literal l d t) w v h e =
    let k = literal_starts h.front l d t (literal_only scope h.front l d t h.first) in
    let same : cs ≡ 34 ∷ (k.0 ++ h.back) = h.parts ∙ ap (λ (t : List ℕ). t ++ h.back) k.1 in
    never _ (whole (line_at scope) cs) v (ap (whole (line_at scope)) same ∙ no_line scope 34 (k.0 ++ h.back) refl refl (no_quote scope (k.0 ++ h.back))) e

predicate_must : {B : Type 0} (scope b : Scope) (R : Form ℕ B) (cs : List ℕ) (s p : Term) (w : B) (v : Option Statement)
    → (object scope ⨾ terminal (codes " ") ▹ object b ⨾ R) cs (s, (p, w)) → is_node s ≡ true → whole (line_at scope) cs ≡ Some v → (t : Bool) → is_iri p ≡ t → is_iri p ≡ true
predicate_must scope b R cs s p w v h node e true is = is
predicate_must scope b R cs s p w v h node e false is =
    let behind = h.second.spelled in
    let inner : Then (object b) R behind.back (p, w) = subst (Then (object b) R behind.back) (sym h.second.means) behind.second in
    let k = other_begins b p inner.front inner.first is in
    let after = k.rest ++ inner.back in
    let back : h.back ≡ 32 ∷ k.first ∷ after = behind.parts ∙ rw behind.first (ap (λ (t : List ℕ). 32 ∷ t) (inner.parts ∙ ap (λ (t : List ℕ). t ++ inner.back) k.is)) in
    let text : cs ≡ h.front ++ 32 ∷ k.first ∷ after = h.parts ∙ ap (λ (t : List ℕ). h.front ++ t) back in
    let read : subject_at scope cs ≡ Some (s, 32 ∷ k.first ∷ after) = ap (subject_at scope) text ∙ subject_read scope s h.front (k.first ∷ after) h.first node in
    let none : triple_at scope cs ≡ None = no_predicate scope s cs after k.first k.no_iri k.dark read in
    let n = node_begins scope s h.front h.first node in
    let begins : cs ≡ n.first ∷ (n.rest ++ h.back) = h.parts ∙ ap (λ (t : List ℕ). t ++ h.back) n.is in
    never _ (whole (line_at scope) cs) v
    (ap (whole (line_at scope)) begins ∙ no_line scope n.first (n.rest ++ h.back) n.dark n.no_comment (ap (triple_at scope) (sym begins) ∙ none)) e

-- the scope of a blank node, or another
abbrev own_scope : Scope → Term → Scope
own_scope scope (Iri i) = scope
own_scope scope (Blank s l) = s
own_scope scope (Literal l d t) = scope

in_own_scope : (scope : Scope) (t : Term) → IsInScope (own_scope scope t) t
in_own_scope scope (Iri i) = tt
in_own_scope scope (Blank s l) = refl
in_own_scope scope (Literal l d t) = tt

abbrev any_line : Scope → Scope → Form ℕ (Term × (Term × Term))
any_line a b = object a ⨾ terminal (codes " ") ▹ object b ⨾ terminal (codes " ") ▹ object a ◃ terminal (codes " .")

body_spelled : (scope : Scope) (t : Statement) → IsLawfulTriple t → IsTripleInScope scope t → Spelled (any_line scope (own_scope scope t.predicate)) (body_text t) (t.subject, (t.predicate, t.object))
unfolding encode_utf8
body_spelled scope t h k =
    let subject = object_spelled scope t.subject h.subject k.0 in
    let predicate = object_spelled (own_scope scope t.predicate) t.predicate h.predicate (in_own_scope scope t.predicate) in
    let object = object_spelled scope t.object h.object k.1 in
    let gap = spelled_terminal (codes " ") refl refl refl in
    same_bytes (regroup (term_text t.subject) (term_text t.predicate) (term_text t.object) (codes " ") (codes " ."))
    (spelled_then subject (spelled_over gap (spelled_then predicate (spelled_over gap (spelled_left object (spelled_terminal (codes " .") refl refl refl))))))

pub body_is_plain : (scope : Scope) (t : Statement) → IsLawfulTriple t → IsTripleInScope scope t → list_all is_plain (body_text t) ≡ true
body_is_plain scope t h k = let s = body_spelled scope t h k in subst (λ (bytes : List ℕ). list_all is_plain bytes ≡ true) s.spell (plain_bytes s.characters s.are_plain)

pub only_triples : (scope : Scope) (t : Statement) (v : Option Statement) → IsLawfulTriple t → IsTripleInScope scope t → IsLine scope (body_text t) v → IsTriple t
only_triples scope t v h k line =
    let s = body_spelled scope t h k in
    let same : s.characters ≡ chars (body_text t) = chars_from_encodes s.characters (body_text t) (s.characters, (s.are_scalars, s.spell)) s.spell in
    let read : whole (line_at scope) s.characters ≡ Some v = ap (whole (line_at scope)) same ∙ is_line_full scope (body_text t) v line in
    let b = own_scope scope t.predicate in
    let node = subject_must scope (terminal (codes " ") ▹ object b ⨾ terminal (codes " ") ▹ object scope ◃ terminal (codes " .")) s.characters t.subject (t.predicate, t.object) v s.spelled read in
    (node, predicate_must scope b (terminal (codes " ") ▹ object scope ◃ terminal (codes " .")) s.characters t.subject t.predicate t.object v s.spelled node read (is_iri t.predicate) refl)
