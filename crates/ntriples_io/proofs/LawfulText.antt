-- What a text of N-Triples means is lawful.
use Rattle.std.proofs.Common.{◌≡◌, ℕ, Bool, true, false, List, [], ◌∷◌, length, Option, Some, None, refl, sym, ap, subst, ◌∙◌, arith, inl, inr}
use Rattle.std.specs.Prelude.{Result, Ok, Err, IfOk, not, ◌↔◌, IsSome, IfSome}
use Rattle.std.specs.List.{All}
use Rattle.std.specs.Char.{encode_utf8}
use Rattle.std.specs.Str.{bytes_eq}
use Rattle.std.proofs.lemmas.Slice.Eq.{bytes_eq-Decides}
use Rattle.std.proofs.lemmas.List.Elements.{All-nil, All-cons, All-append, All-contains}
use Rattle.grammar_forms.specs.Forms.{optional, ◌▹◌}
use Rattle.rdf_terms.specs.declared.term.Scope.{Scope}
use Rattle.rdf_terms.specs.declared.term.Term.{Term}
use Rattle.rdf_terms.specs.Statement.{Statement}
use Rattle.rdf_terms.specs.Graph.{Graph, has}
use Rattle.rdf_terms.proofs.GraphLaws.{item_of_has_list}
use Rattle.rdf_grammar.specs.declared.dialect.Dialect.TheVariants.{NTriples}
use Rattle.rdf_grammar.specs.Productions.{is_iri_char}
use Rattle.rdf_terms.specs.Vocab.Rdf.{lang_string}
use Rattle.rdf_terms.specs.Vocab.Xsd.{string as xsd_string}
use Rattle.rdf_grammar.specs.Lawful.{IsIri, IsTag, IsLawful, IsLawfulTriple}
use Rattle.rdf_grammar.specs.Reading.{scheme_at}
use Rattle.rdf_grammar.proofs.Productions.{scheme_decides}
use Rattle.rdf_grammar.proofs.Lawful.{absolute_iri_lawful, string_lawful, blank_node_label_lawful, langtag_lawful}
use Rattle.ntriples_io.specs.NTriples.{iri, blank, subject, datatype, is_not_lang_string, kind, kind_of, ws, literal, object, triple}
use Rattle.ntriples_io.specs.declared.refusal.NtRefusal.{NtRefusal}
use Rattle.ntriples_io.specs.Cutting.{Line, lines_of}
use Rattle.ntriples_io.specs.Lines.{IsLine}
use Rattle.ntriples_io.specs.Text.{listed, AreLines, NtText, IsAnswer, AreLawful}

iri_lawful : (a : List ℕ) (v : Term) → iri a v → IsLawful v
iri_lawful a v h = subst IsLawful (sym h.means) (absolute_iri_lawful a h.own h.spelled)

blank_lawful : (scope : Scope) (a : List ℕ) (v : Term) → blank scope a v → IsLawful v
blank_lawful scope a v h = subst IsLawful (sym h.means) (blank_node_label_lawful NTriples a h.own h.spelled)

subject_lawful : (scope : Scope) (a : List ℕ) (v : Term) → subject scope a v → IsLawful v
subject_lawful scope a v h = elim h [ inl k ↦ iri_lawful a v k | inr k ↦ blank_lawful scope a v k ]

-- a datatype and a tag that a literal may have
record IsKind (k : List ℕ × Option (List ℕ)) : Type 0 where
  iri : IsIri k.0
  tagged : (k.0 ≡ lang_string) ↔ IsSome k.1
  lower : IfSome k.1 IsTag

lang_string_iri : IsIri lang_string
unfolding encode_utf8 is_iri_char scheme_at
lang_string_iri = record { characters = lang_string; spell = refl; each = refl; scheme = (scheme_decides lang_string).0 refl }

xsd_string_iri : IsIri xsd_string
unfolding encode_utf8 is_iri_char scheme_at
xsd_string_iri = record { characters = xsd_string; spell = refl; each = refl; scheme = (scheme_decides xsd_string).0 refl }

not_lang_string : (d : List ℕ) → is_not_lang_string d ≡ true → d ≡ lang_string → ⊥
not_lang_string d h e = let same : bytes_eq d lang_string ≡ true = (bytes_eq-Decides d lang_string).1 e in opposite (bytes_eq d lang_string) same h
  where
    opposite : (b : Bool) → b ≡ true → not b ≡ true → ⊥
    opposite true e h = cc
    opposite false e h = cc

xsd_is_not : xsd_string ≡ lang_string → ⊥
xsd_is_not e = let n = ap length e in absurd (omega arith)

datatype_kind : (a d : List ℕ) → datatype a d → IsKind (d, None)
datatype_kind a d h = record { iri = absolute_iri_lawful a d h.spelled; tagged = (λ e. absurd (not_lang_string d h.passes e), λ s. absurd cc); lower = tt }

kind_lawful : (a : List ℕ) (k : List ℕ × Option (List ℕ)) → kind a k → IsKind k
kind_lawful a k h =
    elim h [
      | inl t ↦ subst IsKind (sym t.means) (record { iri = lang_string_iri; tagged = (λ e. refl, λ s. refl); lower = langtag_lawful a t.own t.spelled })
      | inr t ↦
          let inner = t.spelled in
          let named = inner.spelled.second in
          let own : t.own ≡ named.own.1 = inner.means ∙ named.means in
          subst IsKind (sym (t.means ∙ ap (λ (d : List ℕ). (d, None)) own)) (datatype_kind named.spelled.back named.own.1 named.spelled.second)
    ]

no_kind : IsKind (xsd_string, None)
no_kind = record { iri = xsd_string_iri; tagged = (λ e. absurd (xsd_is_not e), λ s. absurd cc); lower = tt }

optional_kind : (a : List ℕ) (o : Option (List ℕ × Option (List ℕ))) → optional (ws ▹ kind) a o → IsKind (kind_of o)
optional_kind a None h = no_kind
optional_kind a (Some k) h = subst IsKind (sym h.means) (kind_lawful h.spelled.back h.own.1 h.spelled.second)

literal_lawful : (a : List ℕ) (v : Term) → literal a v → IsLawful v
literal_lawful a v h =
    let parts = h.spelled in
    let k : IsKind h.own.1 = subst IsKind (sym parts.second.means) (optional_kind parts.back parts.second.own parts.second.spelled) in
    subst IsLawful (sym h.means) (record { text = string_lawful parts.front h.own.0 parts.first; iri = k.iri; tagged = k.tagged; lower = k.lower })

object_lawful : (scope : Scope) (a : List ℕ) (v : Term) → object scope a v → IsLawful v
object_lawful scope a v h = elim h [ inl k ↦ iri_lawful a v k | inr k ↦ elim k [ inl b ↦ blank_lawful scope a v b | inr l ↦ literal_lawful a v l ] ]

pub triple_lawful : (scope : Scope) (a : List ℕ) (v : Statement) → triple scope a v → IsLawfulTriple v
triple_lawful scope a v h =
    let first = h.spelled in
    let second = first.second in
    let predicate = second.spelled.second in
    let third = predicate.second in
    let object = third.spelled.second in
    let s : IsLawful h.own.0 = subject_lawful scope first.front h.own.0 first.first in
    let p : IsLawful h.own.1.0 = subst (λ (x : Term × Term). IsLawful x.0) (sym second.means) (iri_lawful predicate.front second.own.1.0 predicate.first) in
    let o : IsLawful h.own.1.1 = subst (λ (x : Term × Term). IsLawful x.1) (sym second.means) (subst IsLawful (sym (third.means ∙ object.means)) (object_lawful scope object.spelled.front object.own.0 object.spelled.first)) in
    subst IsLawfulTriple (sym h.means) (record { subject = s; predicate = p; object = o })

found_lawful : (scope : Scope) (a : List ℕ) (o : Option Statement) → optional (triple scope) a o → All IsLawfulTriple (listed o)
found_lawful scope a None h = All-nil IsLawfulTriple
found_lawful scope a (Some t) h = All-cons IsLawfulTriple t [] (triple_lawful scope a t h) (All-nil IsLawfulTriple)

pub line_lawful : (scope : Scope) (bytes : List ℕ) (v : Option Statement) → IsLine scope bytes v → All IsLawfulTriple (listed v)
line_lawful scope bytes v h =
    let inner = h.spelled.spelled.second in
    subst (λ (o : Option Statement). All IsLawfulTriple (listed o)) (sym (h.spelled.means ∙ inner.means)) (found_lawful scope inner.spelled.front inner.own.0 inner.spelled.first)

lines_lawful : (scope : Scope) (ls : List Line) (ts : List Statement) → AreLines scope ls ts → All IsLawfulTriple ts
lines_lawful scope [] ts h = subst (All IsLawfulTriple) (sym h) (All-nil IsLawfulTriple)
lines_lawful scope (l ∷ ls) ts h = subst (All IsLawfulTriple) (sym h.parts) (All-append IsLawfulTriple (listed h.meaning) h.later (line_lawful scope l.piece h.meaning h.is_line) (lines_lawful scope ls h.later h.rest))

pub text_lawful : (bytes : List ℕ) (scope : Scope) (g : Graph) → NtText bytes scope g → AreLawful g
text_lawful bytes scope g h t has_t =
    All-contains IsLawfulTriple h.triples t (lines_lawful scope (lines_of bytes) h.triples h.lines) (item_of_has_list h.triples t (subst (λ (x : Graph). has x t ≡ true) h.is_set has_t))

pub answer_lawful : (bytes : List ℕ) (scope : Scope) (r : Result Graph NtRefusal) → IsAnswer bytes scope r → IfOk r AreLawful
answer_lawful bytes scope (Ok g) h = text_lawful bytes scope g h
answer_lawful bytes scope (Err f) h = tt
