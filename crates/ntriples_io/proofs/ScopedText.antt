-- What a text of N-Triples means are triples, and its blank nodes have the scope that it is read with.
use Rattle.std.proofs.Common.{◌≡◌, ℕ, true, List, [], ◌∷◌, Option, Some, None, refl, sym, subst, ◌∙◌, inl, inr}
use Rattle.std.specs.Prelude.{IsTrue}
use Rattle.std.specs.List.{All}
use Rattle.std.proofs.lemmas.List.Elements.{All-nil, All-cons, All-append, All-contains, All-head}
use Rattle.grammar_forms.specs.Forms.{optional}
use Rattle.rdf_terms.specs.declared.term.Scope.{Scope}
use Rattle.rdf_terms.specs.declared.term.Term.{Term}
use Rattle.rdf_terms.specs.Statement.{Statement, is_node, is_iri}
use Rattle.rdf_terms.specs.Graph.{Graph, has}
use Rattle.rdf_terms.proofs.GraphLaws.{item_of_has_list}
use Rattle.ntriples_io.specs.NTriples.{iri, blank, subject, literal, object, triple}
use Rattle.ntriples_io.specs.Cutting.{Line, lines_of}
use Rattle.ntriples_io.specs.Lines.{IsLine}
use Rattle.ntriples_io.specs.Text.{listed, AreLines, NtText}
use Rattle.ntriples_io.specs.RoundTrip.{IsInScope, IsTripleInScope, HasScope, IsTriple, IsLineOf}
use Rattle.rdf_grammar.specs.Lawful.{IsLawfulTriple}
use Rattle.ntriples_io.proofs.LawfulText.{line_lawful}
use Rattle.ntriples_io.proofs.OnlyTriples.{AreTriples}

record IsNode (scope : Scope) (t : Term) : Type 0 where
  node : is_node t ≡ true
  in_scope : IsInScope scope t

iri_is : (a : List ℕ) (v : Term) → iri a v → is_iri v ≡ true
iri_is a v h = subst (λ (t : Term). is_iri t ≡ true) (sym h.means) refl

iri_node : (scope : Scope) (a : List ℕ) (v : Term) → iri a v → IsNode scope v
iri_node scope a v h = subst (IsNode scope) (sym h.means) (record { node = refl; in_scope = tt })

blank_node : (scope : Scope) (a : List ℕ) (v : Term) → blank scope a v → IsNode scope v
blank_node scope a v h = subst (IsNode scope) (sym h.means) (record { node = refl; in_scope = refl })

subject_node : (scope : Scope) (a : List ℕ) (v : Term) → subject scope a v → IsNode scope v
subject_node scope a v h = elim h [ inl k ↦ iri_node scope a v k | inr k ↦ blank_node scope a v k ]

literal_scope : (scope : Scope) (a : List ℕ) (v : Term) → literal a v → IsInScope scope v
literal_scope scope a v h = subst (IsInScope scope) (sym h.means) tt

object_scope : (scope : Scope) (a : List ℕ) (v : Term) → object scope a v → IsInScope scope v
object_scope scope a v h =
    elim h [
      | inl k ↦ let n = iri_node scope a v k in n.in_scope
      | inr k ↦ elim k [ inl b ↦ let n = blank_node scope a v b in n.in_scope | inr l ↦ literal_scope scope a v l ]
    ]

pub record IsScoped (scope : Scope) (t : Statement) : Type 0 where
  pub is_triple : IsTriple t
  pub in_scope : IsTripleInScope scope t

triple_scoped : (scope : Scope) (a : List ℕ) (v : Statement) → triple scope a v → IsScoped scope v
triple_scoped scope a v h =
    let first = h.spelled in
    let second = first.second in
    let predicate = second.spelled.second in
    let third = predicate.second in
    let object = third.spelled.second in
    let s = subject_node scope first.front h.own.0 first.first in
    let p : is_iri h.own.1.0 ≡ true = subst (λ (x : Term × Term). is_iri x.0 ≡ true) (sym second.means) (iri_is predicate.front second.own.1.0 predicate.first) in
    let o : IsInScope scope h.own.1.1 =
    subst (λ (x : Term × Term). IsInScope scope x.1) (sym second.means) (subst (IsInScope scope) (sym (third.means ∙ object.means)) (object_scope scope object.spelled.front object.own.0 object.spelled.first)) in
    subst (IsScoped scope) (sym h.means) (record { is_triple = (s.node, p); in_scope = (s.in_scope, o) })

found_scoped : (scope : Scope) (a : List ℕ) (o : Option Statement) → optional (triple scope) a o → All (IsScoped scope) (listed o)
found_scoped scope a None h = All-nil (IsScoped scope)
found_scoped scope a (Some t) h = All-cons (IsScoped scope) t [] (triple_scoped scope a t h) (All-nil (IsScoped scope))

pub line_scoped : (scope : Scope) (bytes : List ℕ) (v : Option Statement) → IsLine scope bytes v → All (IsScoped scope) (listed v)
line_scoped scope bytes v h =
    let inner = h.spelled.spelled.second in
    subst (λ (o : Option Statement). All (IsScoped scope) (listed o)) (sym (h.spelled.means ∙ inner.means)) (found_scoped scope inner.spelled.front inner.own.0 inner.spelled.first)

lines_scoped : (scope : Scope) (ls : List Line) (ts : List Statement) → AreLines scope ls ts → All (IsScoped scope) ts
lines_scoped scope [] ts h = subst (All (IsScoped scope)) (sym h) (All-nil (IsScoped scope))
lines_scoped scope (l ∷ ls) ts h =
    subst (All (IsScoped scope)) (sym h.parts) (All-append (IsScoped scope) (listed h.meaning) h.later (line_scoped scope l.piece h.meaning h.is_line) (lines_scoped scope ls h.later h.rest))

text_scoped : (bytes : List ℕ) (scope : Scope) (g : Graph) → NtText bytes scope g → (t : Statement) → IsTrue (has g t) → IsScoped scope t
text_scoped bytes scope g h t has_t =
    All-contains (IsScoped scope) h.triples t (lines_scoped scope (lines_of bytes) h.triples h.lines) (item_of_has_list h.triples t (subst (λ (x : Graph). has x t ≡ true) h.is_set has_t))

pub text_has_scope : (bytes : List ℕ) (scope : Scope) (g : Graph) → NtText bytes scope g → HasScope scope g
text_has_scope bytes scope g h t has_t = let k = text_scoped bytes scope g h t has_t in k.in_scope

pub text_triples : (bytes : List ℕ) (scope : Scope) (g : Graph) → NtText bytes scope g → AreTriples g
text_triples bytes scope g h t has_t = let k = text_scoped bytes scope g h t has_t in k.is_triple

-- ---- one line

pub spelled_lawful : (scope : Scope) (text : List ℕ) (t : Statement) → IsLineOf scope text t → IsLawfulTriple t
spelled_lawful scope text t h = All-head IsLawfulTriple t [] (line_lawful scope h.line (Some t) h.is_line)

pub spelled_scoped : (scope : Scope) (text : List ℕ) (t : Statement) → IsLineOf scope text t → IsScoped scope t
spelled_scoped scope text t h = All-head (IsScoped scope) t [] (line_scoped scope h.line (Some t) h.is_line)
