-- The triples of a report can be spelled, where its rows have lawful terms.
use Rattle.std.proofs.Common.{ne_eqb, Result, Ok, Err, OnOk, ◌≡◌, ℕ, ◌+◌, ◌<◌, ◌≤◌, ◌^◌, Bool, true, false, ◌==◌, List, [], ◌∷◌, ◌++◌, codes, length, take, get_or, Option, Some, None, IfSome, zero, suc, option_map, refl, sym, ap, ◌∙◌, arith, IsTrue}
use Rattle.std.specs.Char.{encode_utf8}
use Rattle.std.specs.Str.{IsUtf8}
use Rattle.std.specs.Prelude.{encode_utf8_all}
use Rattle.std.specs.List.{All, flat_map, list_all}
use Rattle.std.proofs.lemmas.List.{append-nil, append_assoc, take_all}
use Rattle.std.proofs.lemmas.List.Concat.{flat_map-append, flat_map-cons}
use Rattle.std.proofs.lemmas.List.Elements.{All-nil, All-cons, All-append, All-head, All-tail}
use Rattle.rdf_terms.specs.declared.term.Scope.TheVariants.{Data, Shapes}
use Rattle.rdf_terms.specs.declared.term.Term.{Term}
use Rattle.rdf_terms.specs.declared.term.Term.TheVariants.{Iri, Blank, Literal}
use Rattle.rdf_terms.specs.Statement.{Statement, is_node}
use Rattle.rdf_terms.specs.Vocab.Rdf as rdf
use Rattle.rdf_terms.specs.Vocab.Sh as sh
use Rattle.rdf_terms.specs.Vocab.Xsd as xsd
use Rattle.rdf_terms.specs.Vocab.Rdf.{lang_string}
use Rattle.rdf_grammar.specs.Productions.{is_iri_char, BeginsWithScheme}
use Rattle.rdf_grammar.specs.Reading.{scheme_at}
use Rattle.rdf_grammar.specs.Lawful.{IsIri, IsLabel, IsLawful}
use Rattle.rdf_grammar.proofs.Productions.{scheme_decides}
use Rattle.ntriples_io.specs.CanonicalText.{line_text}
use Rattle.ntriples_io.specs.RoundTrip.{IsInScope}
use Rattle.ntriples_io.specs.Text.{NtText}
use Rattle.ntriples_io.proofs.RoundTrip.{IsSpellable, text_of_triples}
use Rattle.core_constraints.specs.declared.result_rows.ResultRow.{ResultRow}
use Rattle.report_writer.specs.Report.{in_report, report_node, result_node, string_literal, boolean_literal, triple_of, optional_triple, node_triples, shape_triples, result_triples, results_from, is_conforming, head_triples, report_triples, report_graph, report_text, IsLawfulRow, AreLawfulRows}
use Rattle.report_writer.proofs.Labels.{of_data, of_shapes, of_result, of_report}

-- one row more
pub results_more : (k : ℕ) (rows : List ResultRow) (i : ℕ) (r : ResultRow) → i < length rows → r ≡ get_or rows i r → results_from k (take i rows) ++ result_triples (k + i) r ≡ results_from k (take (i + 1) rows)
results_more k [] i r l e = absurd (omega arith)
results_more k (s ∷ rows) zero r l e =
    let z : k + 0 ≡ k = omega arith in
    ap (λ n. result_triples n r) z ∙ (ap (result_triples k) e ∙ sym (append-nil (result_triples k s)))
results_more k (s ∷ rows) (suc i) r l e =
    let z : k + suc i ≡ k + 1 + i = omega arith in
    let m : suc (i + 1) ≡ suc i + 1 = omega arith in
    append_assoc (result_triples k s) (results_from (k + 1) (take i rows)) (result_triples (k + suc i) r)
    ∙ (ap (λ ts. result_triples k s ++ ts) (ap (λ n. results_from (k + 1) (take i rows) ++ result_triples n r) z ∙ results_more (k + 1) rows i r (omega (arith, l)) e)
    ∙ ap (λ n. results_from k (take n (s ∷ rows))) m)

-- ---- what can be spelled

-- a term that a document of the data can have
record IsOurs (t : Term) : Type 0 where
  lawful : IsLawful t
  scope : IsInScope Data t

iri_of : (text : List ℕ) → encode_utf8_all text ≡ text → list_all is_iri_char text ≡ true → BeginsWithScheme text → IsIri text
iri_of text spell each scheme = record { characters = text; spell = spell; each = each; scheme = scheme }

our_iri : (text : List ℕ) → IsIri text → IsOurs (Iri text)
our_iri text h = record { lawful = h; scope = tt }

our_blank : (label : List ℕ) → IsLabel label → IsOurs (Blank Data label)
our_blank label h = record { lawful = h; scope = refl }

foreign : (t : Term) → IsLawful t → IsOurs (in_report t)
foreign (Iri text) h = our_iri text h
foreign (Blank Data label) h = our_blank _ (of_data label h)
foreign (Blank Shapes label) h = our_blank _ (of_shapes label h)
foreign (Literal lexical datatype tag) h = record { lawful = h; scope = tt }

report_iri : IsOurs report_node
report_iri = our_blank _ of_report

module _ (node : Term) (is : IsTrue (is_node node)) (ours : IsOurs node) where
  one : (p : List ℕ) (o : Term) → IsIri p → IsOurs o → IsSpellable Data (triple_of node (Iri p) o)
  one p o h k = record {
    is_triple = (is, refl);
    lawful = record { subject = ours.lawful; predicate = h; object = k.lawful };
    in_scope = (ours.scope, k.scope);
  }

  maybe : (p : List ℕ) (o : Option Term) → IsIri p → IfSome o IsOurs → All (IsSpellable Data) (optional_triple node (Iri p) o)
  maybe p None h k = All-nil (IsSpellable Data)
  maybe p (Some o) h k = All-cons (IsSpellable Data) _ [] (one p o h k) (All-nil (IsSpellable Data))

-- the properties and classes of a report, and the datatypes of its literals
record AreIris : Type 0 where
  type_ : IsLawful rdf.type_
  report : IsLawful sh.validation_report
  conforms : IsLawful sh.conforms
  result : IsLawful sh.result
  kind : IsLawful sh.validation_result
  focus : IsLawful sh.focus_node
  path : IsLawful sh.result_path
  value : IsLawful sh.value
  severity : IsLawful sh.result_severity
  component : IsLawful sh.source_constraint_component
  shape : IsLawful sh.source_shape
  message : IsLawful sh.result_message
  string : IsIri xsd.string
  boolean : IsIri xsd.boolean

iris : AreIris
unfolding encode_utf8 is_iri_char scheme_at
iris = record {
  type_ = iri_of _ refl refl ((scheme_decides _).0 refl);
  report = iri_of _ refl refl ((scheme_decides _).0 refl);
  conforms = iri_of _ refl refl ((scheme_decides _).0 refl);
  result = iri_of _ refl refl ((scheme_decides _).0 refl);
  kind = iri_of _ refl refl ((scheme_decides _).0 refl);
  focus = iri_of _ refl refl ((scheme_decides _).0 refl);
  path = iri_of _ refl refl ((scheme_decides _).0 refl);
  value = iri_of _ refl refl ((scheme_decides _).0 refl);
  severity = iri_of _ refl refl ((scheme_decides _).0 refl);
  component = iri_of _ refl refl ((scheme_decides _).0 refl);
  shape = iri_of _ refl refl ((scheme_decides _).0 refl);
  message = iri_of _ refl refl ((scheme_decides _).0 refl);
  string = iri_of _ refl refl ((scheme_decides _).0 refl);
  boolean = iri_of _ refl refl ((scheme_decides _).0 refl);
}

string_is_not : xsd.string ≡ lang_string → ⊥
string_is_not e = let n = ap length e in absurd (omega arith)

boolean_is_not : xsd.boolean ≡ lang_string → ⊥
boolean_is_not e = let n = ap length e in absurd (omega arith)

our_string : (text : List ℕ) → IsUtf8 text → IsOurs (string_literal text)
our_string text h = record { lawful = record { text = h; iri = iris.string; tagged = (λ e. absurd (string_is_not e), λ k. absurd cc); lower = tt }; scope = tt }

our_boolean : (b : Bool) → IsOurs (boolean_literal b)
unfolding encode_utf8
our_boolean true = record { lawful = record { text = (codes "true", (refl, refl)); iri = iris.boolean; tagged = (λ e. absurd (boolean_is_not e), λ k. absurd cc); lower = tt }; scope = tt }
our_boolean false = record { lawful = record { text = (codes "false", (refl, refl)); iri = iris.boolean; tagged = (λ e. absurd (boolean_is_not e), λ k. absurd cc); lower = tt }; scope = tt }

each_some : {A B : Type 0} (f : A → B) (P : A → Type 0) (Q : B → Type 0) → ((a : A) → P a → Q (f a)) → (o : Option A) → IfSome o P → IfSome (option_map f o) Q
each_some f P Q more None h = tt
each_some f P Q more (Some a) h = more a h

abbrev S : Statement → Type 0
S = IsSpellable Data

result_spelled : (k : ℕ) (r : ResultRow) → k < 2 ^ 64 → IsLawfulRow r → All S (result_triples k r)
result_spelled k r l h =
    let node = result_node k in
    let ours : IsOurs node = our_blank _ (of_result k l) in
    let path = optional_triple node sh.result_path (option_map in_report r.path) in
    let value = optional_triple node sh.value (option_map in_report r.value) in
    let message = optional_triple node sh.result_message (option_map string_literal r.message) in
    let focus = triple_of node sh.focus_node (in_report r.focus) in
    let component = triple_of node sh.source_constraint_component (Iri r.component) in
    let shape = triple_of node sh.source_shape (in_report r.shape) in
    All-cons S (triple_of report_node sh.result node) (node_triples node r ++ shape_triples node r) (one report_node refl report_iri _ node iris.result ours)
    (All-append S (node_triples node r) (shape_triples node r)
    (All-cons S (triple_of node rdf.type_ sh.validation_result) (focus ∷ path ++ value) (one node refl ours _ sh.validation_result iris.type_ (our_iri _ iris.kind))
    (All-cons S focus (path ++ value) (one node refl ours _ (in_report r.focus) iris.focus (foreign r.focus h.focus))
    (All-append S path value
    (maybe node refl ours _ (option_map in_report r.path) iris.path (each_some in_report IsLawful IsOurs foreign r.path h.path))
    (maybe node refl ours _ (option_map in_report r.value) iris.value (each_some in_report IsLawful IsOurs foreign r.value h.value)))))
    (All-cons S (triple_of node sh.result_severity (in_report r.severity)) (component ∷ shape ∷ message) (one node refl ours _ (in_report r.severity) iris.severity (foreign r.severity h.severity))
    (All-cons S component (shape ∷ message) (one node refl ours _ (Iri r.component) iris.component (our_iri _ h.component))
    (All-cons S shape message (one node refl ours _ (in_report r.shape) iris.shape (foreign r.shape h.shape))
    (maybe node refl ours _ (option_map string_literal r.message) iris.message (each_some string_literal IsUtf8 IsOurs our_string r.message h.message))))))

results_spelled : (k : ℕ) (rows : List ResultRow) → k + length rows ≤ 2 ^ 64 → AreLawfulRows rows → All S (results_from k rows)
results_spelled k [] l h = All-nil S
results_spelled k (r ∷ rows) l h =
    All-append S (result_triples k r) (results_from (k + 1) rows) (result_spelled k r (omega (arith, l)) (All-head IsLawfulRow r rows h))
    (results_spelled (k + 1) rows (omega (arith, l)) (All-tail IsLawfulRow r rows h))

pub report_read : (rows : List ResultRow) → length rows ≤ 2 ^ 64 → AreLawfulRows rows → NtText (report_text rows) Data (report_graph rows)
report_read rows l h =
    let conforms = triple_of report_node sh.conforms (boolean_literal (is_conforming rows)) in
    text_of_triples Data (report_triples rows)
    (All-append S (head_triples (is_conforming rows)) (results_from 0 rows)
    (All-cons S (triple_of report_node rdf.type_ sh.validation_report) (conforms ∷ []) (one report_node refl report_iri _ sh.validation_report iris.type_ (our_iri _ iris.report))
    (All-cons S conforms [] (one report_node refl report_iri _ (boolean_literal (is_conforming rows)) iris.conforms (our_boolean (is_conforming rows))) (All-nil S)))
    (results_spelled 0 rows (omega (arith, l)) h))

-- ---- the text so far

-- the text before the result with number i
abbrev pub report_before : List ResultRow → ℕ → List ℕ
report_before rows i = flat_map line_text (head_triples (is_conforming rows) ++ results_from 0 (take i rows))

pub text_more : (rows : List ResultRow) (i : ℕ) (r : ResultRow) → i < length rows → r ≡ get_or rows i r → report_before rows i ++ flat_map line_text (result_triples i r) ≡ report_before rows (i + 1)
text_more rows i r l e =
    let head = head_triples (is_conforming rows) in
    let old = results_from 0 (take i rows) in
    let z : i ≡ 0 + i = omega arith in
    sym (flat_map-append line_text (head ++ old) (result_triples i r))
    ∙ ap (flat_map line_text) (append_assoc head old (result_triples i r) ∙ ap (λ ts. head ++ ts) (ap (λ n. old ++ result_triples n r) z ∙ results_more 0 rows i r l e))

pub conforming_is : (rows : List ResultRow) → (length rows == 0) ≡ is_conforming rows
conforming_is [] = refl
conforming_is (r ∷ rows) = ne_eqb (length (r ∷ rows)) 0 (λ e. absurd (omega (arith, e)))

pub text_start : (rows : List ResultRow) (b : Bool) (start out : List ℕ) → b ≡ (length rows == 0) → start ≡ [] → out ≡ start ++ flat_map line_text (head_triples b) → out ≡ report_before rows 0
text_start rows b start out is none e = e ∙ (ap (λ bs. bs ++ flat_map line_text (head_triples b)) none ∙ ap (λ (b : Bool). flat_map line_text (head_triples b)) (is ∙ conforming_is rows))

pub text_end : (rows : List ResultRow) (i : ℕ) → length rows ≤ i → report_before rows i ≡ report_text rows
text_end rows i l = ap (λ rs. flat_map line_text (head_triples (is_conforming rows) ++ results_from 0 rs)) (take_all i rows l)

-- a line, and then more
pub cons_text : (t : Statement) (ts : List Statement) (old a new : List ℕ) → a ≡ old ++ line_text t → new ≡ a ++ flat_map line_text ts → new ≡ old ++ flat_map line_text (t ∷ ts)
cons_text t ts old a new first second =
    second ∙ (ap (λ bs. bs ++ flat_map line_text ts) first ∙ (append_assoc old (line_text t) (flat_map line_text ts) ∙ ap (λ bs. old ++ bs) (sym (flat_map-cons line_text t ts))))

-- a last line
pub one_text : (t : Statement) (old new : List ℕ) → new ≡ old ++ line_text t → new ≡ old ++ flat_map line_text (t ∷ [])
one_text t old new e = e ∙ ap (λ bs. old ++ bs) (sym (flat_map-cons line_text t [] ∙ append-nil (line_text t)))

-- lines, and then more
pub append_text : (xs ys : List Statement) (old a new : List ℕ) → a ≡ old ++ flat_map line_text xs → new ≡ a ++ flat_map line_text ys → new ≡ old ++ flat_map line_text (xs ++ ys)
append_text xs ys old a new first second =
    second ∙ (ap (λ bs. bs ++ flat_map line_text ys) first ∙ (append_assoc old (flat_map line_text xs) (flat_map line_text ys) ∙ ap (λ bs. old ++ bs) (sym (flat_map-append line_text xs ys))))

-- what follows from a result that went well
pub when_ok : {A E P Q : Type 0} (r : Result A E) → (P → Q) → OnOk r P → OnOk r Q
when_ok (Ok v) more h = more h
when_ok (Err e) more h = tt

-- the same line and the same text, of equal terms
pub line_is : (s t p o q : Term) (old new : List ℕ) → new ≡ old ++ line_text (triple_of s p o) → s ≡ t → o ≡ q → new ≡ old ++ line_text (triple_of t p q)
line_is s t p o q old new e a b = e ∙ (λ i. old ++ line_text (triple_of (a i) p (b i)))

pub text_is : (f : Term → List Statement) (s t : Term) (old new : List ℕ) → new ≡ old ++ flat_map line_text (f s) → s ≡ t → new ≡ old ++ flat_map line_text (f t)
text_is f s t old new e a = e ∙ ap (λ n. old ++ flat_map line_text (f n)) a
