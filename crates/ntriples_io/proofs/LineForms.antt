-- The productions of a line are read exactly.
use Rattle.std.proofs.Common.{◌≡◌, ℕ, Bool, true, false, List, [], ◌∷◌, ◌++◌, Option, Some, None, refl, sym, ap, subst, append_assoc, ◌∙◌, inl, inr}
use Rattle.std.specs.Prelude.{◌==◌, ◌||◌, ◌⊎◌, codes}
use Rattle.std.specs.Str.{IsUtf8, chars}
use Rattle.std.proofs.lemmas.Bool.{eqb-true}
use Rattle.std.proofs.lemmas.Str.{scalars-chars, encodes-chars, chars_from_encodes}
use Rattle.grammar_forms.specs.Forms.{Form, One, terminal, Then, many, either, optional, Made, ◌⨾◌, ◌▹◌, ◌◃◌}
use Rattle.grammar_forms.specs.Reading.{one_at, made_at, over, whole}
use Rattle.grammar_forms.specs.Names.{NoName}
use Rattle.grammar_forms.specs.Exact.{Exact, anything, IsNonempty}
use Rattle.grammar_forms.proofs.Exactness.{Starts, End, narrow, one_exact, one_nonempty, terminal_exact, then_exact, made_exact, such_exact, many_exact, either_exact, optional_exact, over_exact, left_exact, behind_exact, silent_exact, whole_sound, whole_full}
use Rattle.grammar_forms.proofs.NameEnds.{no_name_nil, no_name_before, no_name_dot}
use Rattle.rdf_terms.specs.declared.term.Scope.{Scope}
use Rattle.rdf_terms.specs.declared.term.Term.{Term}
use Rattle.rdf_terms.specs.declared.term.Term.TheVariants.{Iri, Blank}
use Rattle.rdf_terms.specs.Statement.{Statement}
use Rattle.rdf_grammar.specs.declared.dialect.Dialect.TheVariants.{NTriples}
use Rattle.rdf_grammar.specs.Productions.{is_base, is_name_start, is_name_char, string, langtag}
use Rattle.rdf_grammar.specs.Reading.{iriref_at, absolute_iri_at, blank_node_label_at, subtag_at, langtag_at, AfterTag}
use Rattle.rdf_grammar.proofs.Productions.{no_dot, absolute_iri_exact, string_exact, blank_node_label_exact, blank_node_label_starts, langtag_exact}
use Rattle.ntriples_io.specs.NTriples.{is_space, is_in_line, ws, comment, iri, blank, subject, of_tag, of_datatype, is_not_lang_string, datatype, kind, kind_of, literal_of, literal, object, statement_of, triple, line}
use Rattle.ntriples_io.specs.Reading.{ws_at, comment_at, iri_at, blank_at, subject_at, datatype_at, type_at, kind_at, kind_or_none_at, literal_at, object_at, end_at, triple_at, line_at}
use Rattle.ntriples_io.specs.Lines.{IsLine}

-- ---- spaces and comments

abbrev NoBlank : List ℕ → Type 0
NoBlank rest = one_at is_space rest ≡ None

pub ws_exact : Exact ws NoBlank ws_at
unfolding ws_at
ws_exact = silent_exact (many_exact (one_exact is_space) (one_nonempty is_space))

comment_exact : Exact comment (λ rest. one_at is_in_line rest ≡ None) comment_at
unfolding comment_at
comment_exact = behind_exact (codes "#") (silent_exact (many_exact (one_exact is_in_line) (one_nonempty is_in_line)))

-- what begins with a character that is no blank
abbrev Dark : List ℕ → Type 0
Dark a = (c : ℕ) × Starts c a × (is_space c ≡ false)

dark_no_blank : (a rest : List ℕ) → Dark a → NoBlank (a ++ rest)
dark_no_blank a rest d = rw (d.1.1, d.2) refl

dark_then : (a b : List ℕ) → Dark a → Dark (a ++ b)
dark_then a b d = (d.0, (d.1.0 ++ b, ap (λ (t : List ℕ). t ++ b) d.1.1), d.2)

dark_first : {A B : Type 0} (P : Form ℕ A) (Q : Form ℕ B) (a : List ℕ) (v : A × B) → ((b : List ℕ) (w : A) → P b w → Dark b) → Then P Q a v → Dark a
dark_first P Q a v f h = subst Dark (sym h.parts) (dark_then h.front h.back (f h.front v.0 h.first))

-- a text that may begin with blanks begins with a space, a tab, or as what is behind them
blank_is : (c : ℕ) → is_space c ≡ true → (c ≡ 32) ⊎ (c ≡ 9)
blank_is c h = blank_by c (c == 32) refl h
  where
    blank_by : (c : ℕ) (t : Bool) → (c == 32) ≡ t → (t || (c == 9)) ≡ true → (c ≡ 32) ⊎ (c ≡ 9)
    blank_by c true e h = inl (eqb-true c 32 e)
    blank_by c false e h = inr (eqb-true c 9 h)

ws_begins : (P : List ℕ → Type 0) → ((t : List ℕ) → P (32 ∷ t)) → ((t : List ℕ) → P (9 ∷ t)) → (vs a rest : List ℕ) → many (One is_space) a vs → P rest → P (a ++ rest)
ws_begins P space tab [] a rest h p = subst (λ (t : List ℕ). P (t ++ rest)) (sym h) p
ws_begins P space tab (v ∷ vs) a rest h p =
    let same : a ≡ v ∷ h.back = rw (h.parts, h.first.spelled) refl in
    elim (blank_is v h.first.passes) [
      | inl e ↦ subst (λ (t : List ℕ). P (t ++ rest)) (sym (same ∙ ap (λ (c : ℕ). c ∷ h.back) e)) (space (h.back ++ rest))
      | inr e ↦ subst (λ (t : List ℕ). P (t ++ rest)) (sym (same ∙ ap (λ (c : ℕ). c ∷ h.back) e)) (tab (h.back ++ rest))
    ]

-- ---- terms

pub iri_exact : Exact iri anything iri_at
unfolding iri_at
iri_exact = made_exact Iri absolute_iri_exact

iri_starts : (a : List ℕ) (v : Term) → iri a v → Starts 60 a
iri_starts a v h = (h.spelled.spelled.spelled.back, rw (h.spelled.spelled.spelled.parts, h.spelled.spelled.spelled.first) refl)

iri_dark : (a : List ℕ) (v : Term) → iri a v → Dark a
iri_dark a v h = (60, iri_starts a v h, refl)

abbrev NoLabel : List ℕ → Type 0
NoLabel rest = NoName (is_name_char NTriples) rest

blank_exact : (scope : Scope) → Exact (blank scope) NoLabel (blank_at scope)
unfolding blank_at
blank_exact scope = made_exact (Blank scope) (blank_node_label_exact NTriples)

blank_starts : (scope : Scope) (a : List ℕ) (v : Term) → blank scope a v → Starts 95 a
blank_starts scope a v h = blank_node_label_starts NTriples a h.own h.spelled

blank_dark : (scope : Scope) (a : List ℕ) (v : Term) → blank scope a v → Dark a
blank_dark scope a v h = (95, blank_starts scope a v h, refl)

no_iri_before : (c : ℕ) (rest : List ℕ) → (c == 60) ≡ false → iri_at (c ∷ rest) ≡ None
unfolding iri_at absolute_iri_at iriref_at
no_iri_before c rest h = rw h refl

subject_exact : (scope : Scope) → Exact (subject scope) NoLabel (subject_at scope)
unfolding subject_at
subject_exact scope = either_exact (narrow iri_exact (λ rest (f : NoLabel rest). tt)) (blank_exact scope) (λ a rest v h f. let k = blank_starts scope a v h in rw k.1 (no_iri_before 95 (k.0 ++ rest) refl))

subject_dark : (scope : Scope) (a : List ℕ) (v : Term) → subject scope a v → Dark a
subject_dark scope a v h = elim h [ inl k ↦ iri_dark a v k | inr k ↦ blank_dark scope a v k ]

-- ---- literals

datatype_exact : Exact datatype anything datatype_at
unfolding datatype_at
datatype_exact = such_exact is_not_lang_string absolute_iri_exact

datatype_dark : (a : List ℕ) (v : List ℕ) → datatype a v → Dark a
datatype_dark a v h = (60, (h.spelled.spelled.spelled.back, rw (h.spelled.spelled.spelled.parts, h.spelled.spelled.spelled.first) refl), refl)

typed_exact : Exact (Made of_datatype (terminal (codes "^^") ▹ ws ▹ datatype)) anything type_at
unfolding type_at
typed_exact = made_exact of_datatype (behind_exact (codes "^^") (over_exact ws_exact datatype_exact (λ b rest w h f. dark_no_blank b rest (datatype_dark b w h))))

typed_starts : (a : List ℕ) (v : List ℕ × Option (List ℕ)) → Made of_datatype (terminal (codes "^^") ▹ ws ▹ datatype) a v → Starts 94 a
typed_starts a v h = (94 ∷ h.spelled.spelled.back, rw (h.spelled.spelled.parts, h.spelled.spelled.first) refl)

tagged_starts : (a : List ℕ) (v : List ℕ × Option (List ℕ)) → Made of_tag langtag a v → Starts 64 a
tagged_starts a v h = (h.spelled.spelled.back, rw (h.spelled.spelled.parts, h.spelled.spelled.first) refl)

no_tag_before : (rest : List ℕ) → made_at of_tag langtag_at (94 ∷ rest) ≡ None
unfolding langtag_at
no_tag_before rest = refl

kind_exact : Exact kind AfterTag kind_at
unfolding kind_at
kind_exact = either_exact (made_exact of_tag langtag_exact) (narrow typed_exact (λ rest (f : AfterTag rest). tt)) (λ a rest v h f. let k = typed_starts a v h in rw k.1 (no_tag_before (k.0 ++ rest)))

kind_dark : (a : List ℕ) (v : List ℕ × Option (List ℕ)) → kind a v → Dark a
kind_dark a v h = elim h [ inl k ↦ (64, tagged_starts a v k, refl) | inr k ↦ (94, typed_starts a v k, refl) ]

-- what may follow an object
pub record AfterObject (rest : List ℕ) : Type 0 where
  pub label : NoLabel rest
  pub tag : AfterTag rest
  pub kind : over ws_at kind_at rest ≡ None

kind_or_none_exact : Exact (Made kind_of (optional (ws ▹ kind))) AfterObject kind_or_none_at
unfolding kind_or_none_at
kind_or_none_exact =
    made_exact kind_of (optional_exact (narrow (over_exact ws_exact kind_exact (λ b rest w h f. dark_no_blank b rest (kind_dark b w h))) (λ rest (f : AfterObject rest). f.tag)) (λ rest f. f.kind))

literal_exact : Exact literal AfterObject literal_at
unfolding literal_at
literal_exact = made_exact literal_of (then_exact string_exact kind_or_none_exact (λ b rest w h f. tt))

string_starts : (a v : List ℕ) → string a v → Starts 34 a
string_starts a v h = (h.spelled.back, rw (h.spelled.parts, h.spelled.first) refl)

literal_starts : (a : List ℕ) (v : Term) → literal a v → Starts 34 a
literal_starts a v h =
    let k = string_starts h.spelled.front h.own.0 h.spelled.first in
    (k.0 ++ h.spelled.back, h.spelled.parts ∙ ap (λ (t : List ℕ). t ++ h.spelled.back) k.1)

no_blank_node_before : (scope : Scope) (rest : List ℕ) → blank_at scope (34 ∷ rest) ≡ None
unfolding blank_at blank_node_label_at
no_blank_node_before scope rest = refl

label_or_literal_starts : (scope : Scope) (a rest : List ℕ) (v : Term) → either (blank scope) literal a v → iri_at (a ++ rest) ≡ None
label_or_literal_starts scope a rest v h =
    elim h [
      | inl k ↦ let s = blank_starts scope a v k in rw s.1 (no_iri_before 95 (s.0 ++ rest) refl)
      | inr k ↦ let s = literal_starts a v k in rw s.1 (no_iri_before 34 (s.0 ++ rest) refl)
    ]

object_exact : (scope : Scope) → Exact (object scope) AfterObject (object_at scope)
unfolding object_at
object_exact scope =
    either_exact (narrow iri_exact (λ rest (f : AfterObject rest). tt))
    (either_exact (narrow (blank_exact scope) (λ rest (f : AfterObject rest). f.label)) literal_exact (λ a rest v h f. let k = literal_starts a v h in rw k.1 (no_blank_node_before scope (k.0 ++ rest))))
    (λ a rest v h f. label_or_literal_starts scope a rest v h)

object_dark : (scope : Scope) (a : List ℕ) (v : Term) → object scope a v → Dark a
object_dark scope a v h = elim h [ inl k ↦ iri_dark a v k | inr k ↦ elim k [ inl b ↦ blank_dark scope a v b | inr l ↦ (34, literal_starts a v l, refl) ] ]

-- ---- a triple

abbrev dot : Form ℕ (Unit {0})
dot = terminal (codes ".") ◃ ws

end_exact : Exact dot NoBlank end_at
unfolding end_at
end_exact = left_exact (terminal_exact (codes ".")) ws_exact (λ b rest w h g. tt)

dot_starts : (a : List ℕ) (v : Unit {0}) → dot a v → Starts 46 a
dot_starts a v h = (h.spelled.back, rw (h.spelled.parts, h.spelled.first) refl)

dot_dark : (a : List ℕ) (v : Unit {0}) → dot a v → Dark a
dot_dark a v h = (46, dot_starts a v h, refl)

-- what may follow a triple
pub record AfterTriple (scope : Scope) (rest : List ℕ) : Type 0 where
  pub blank : NoBlank rest
  pub label : NoLabel rest
  pub triple : triple_at scope rest ≡ None

no_label_space : (rest : List ℕ) → NoLabel (32 ∷ rest)
unfolding is_name_char is_name_start is_base
no_label_space rest = no_name_before (is_name_char NTriples) 32 rest refl refl

no_label_tab : (rest : List ℕ) → NoLabel (9 ∷ rest)
unfolding is_name_char is_name_start is_base
no_label_tab rest = no_name_before (is_name_char NTriples) 9 rest refl refl

no_label_angle : (rest : List ℕ) → NoLabel (60 ∷ rest)
unfolding is_name_char is_name_start is_base
no_label_angle rest = no_name_before (is_name_char NTriples) 60 rest refl refl

no_label_hash : (rest : List ℕ) → NoLabel (35 ∷ rest)
unfolding is_name_char is_name_start is_base
no_label_hash rest = no_name_before (is_name_char NTriples) 35 rest refl refl

-- the dot that ends a triple is no part of a label
no_label_dot : (a rest : List ℕ) (v : Unit {0}) → dot a v → NoLabel rest → NoLabel (a ++ rest)
no_label_dot a rest v h f =
    let after : NoLabel (h.spelled.back ++ rest) = ws_begins NoLabel no_label_space no_label_tab h.spelled.second.own h.spelled.back rest h.spelled.second.spelled f in
    let same : a ≡ 46 ∷ h.spelled.back = rw (h.spelled.parts, h.spelled.first) refl in
    subst (λ (t : List ℕ). NoLabel (t ++ rest)) (sym same) (no_name_dot (is_name_char NTriples) (h.spelled.back ++ rest) (no_dot NTriples) after)

after_tag_space : (rest : List ℕ) → AfterTag (32 ∷ rest)
unfolding subtag_at
after_tag_space rest = record { no_letter = refl; no_alnum = refl; no_subtag = refl }

after_tag_tab : (rest : List ℕ) → AfterTag (9 ∷ rest)
unfolding subtag_at
after_tag_tab rest = record { no_letter = refl; no_alnum = refl; no_subtag = refl }

after_tag_dot : (rest : List ℕ) → AfterTag (46 ∷ rest)
unfolding subtag_at
after_tag_dot rest = record { no_letter = refl; no_alnum = refl; no_subtag = refl }

no_kind_dot : (rest : List ℕ) → kind_at (46 ∷ rest) ≡ None
unfolding kind_at type_at langtag_at
no_kind_dot rest = refl

no_blank_dot : (rest : List ℕ) → NoBlank (46 ∷ rest)
no_blank_dot rest = refl

-- what ends a triple may follow its object
after_object : (scope : Scope) (b rest : List ℕ) (w : Unit {0}) → (ws ▹ dot) b w → AfterTriple scope rest → AfterObject (b ++ rest)
after_object scope b rest w h f =
    let parts = h.spelled in
    let k = dot_starts parts.back h.own.1 parts.second in
    let at_dot : parts.back ++ rest ≡ 46 ∷ (k.0 ++ rest) = ap (λ (t : List ℕ). t ++ rest) k.1 in
    let read : ws_at (parts.front ++ (parts.back ++ rest)) ≡ Some (tt, parts.back ++ rest) = ws_exact.full parts.front (parts.back ++ rest) h.own.0 parts.first (subst NoBlank (sym at_dot) (no_blank_dot (k.0 ++ rest))) in
    let none : kind_at (parts.back ++ rest) ≡ None = subst (λ (t : List ℕ). kind_at t ≡ None) (sym at_dot) (no_kind_dot (k.0 ++ rest)) in
    subst AfterObject (sym (ap (λ (t : List ℕ). t ++ rest) parts.parts ∙ append_assoc parts.front parts.back rest)) (record {
      label = ws_begins NoLabel no_label_space no_label_tab parts.first.own parts.front (parts.back ++ rest) parts.first.spelled (no_label_dot parts.back rest h.own.1 parts.second f.label);
      tag = ws_begins AfterTag after_tag_space after_tag_tab parts.first.own parts.front (parts.back ++ rest) parts.first.spelled (subst AfterTag (sym at_dot) (after_tag_dot (k.0 ++ rest)));
      kind = rw (read, none) refl;
    })

-- a predicate may follow a subject
after_subject : {B : Type 0} (Q : Form ℕ B) (b rest : List ℕ) (w : Term × B) → (ws ▹ iri ⨾ Q) b w → NoLabel (b ++ rest)
after_subject Q b rest w h =
    let parts = h.spelled in
    let k = iri_starts parts.second.front h.own.1.0 parts.second.first in
    let same : parts.back ≡ 60 ∷ (k.0 ++ parts.second.back) = parts.second.parts ∙ ap (λ (t : List ℕ). t ++ parts.second.back) k.1 in
    let after : NoLabel (parts.back ++ rest) = subst (λ (t : List ℕ). NoLabel (t ++ rest)) (sym same) (no_label_angle ((k.0 ++ parts.second.back) ++ rest)) in
    subst NoLabel (sym (ap (λ (t : List ℕ). t ++ rest) parts.parts ∙ append_assoc parts.front parts.back rest)) (ws_begins NoLabel no_label_space no_label_tab parts.first.own parts.front (parts.back ++ rest) parts.first.spelled after)

triple_exact : (scope : Scope) → Exact (triple scope) (AfterTriple scope) (triple_at scope)
unfolding triple_at
triple_exact scope =
    made_exact statement_of (then_exact (subject_exact scope)
    (over_exact ws_exact (then_exact iri_exact
    (over_exact ws_exact (left_exact (object_exact scope)
    (narrow (over_exact ws_exact end_exact (λ b rest w h g. dark_no_blank b rest (dot_dark b w h))) (λ rest (f : AfterTriple scope rest). f.blank))
    (after_object scope)) (λ b rest w h g. dark_no_blank b rest (dark_first (object scope) (ws ▹ dot) b h.own (object_dark scope) h.spelled)))
    (λ b rest w h g. tt)) (λ b rest w h g. dark_no_blank b rest (dark_first iri (ws ▹ (object scope ◃ (ws ▹ dot))) b w iri_dark h)))
    (λ b rest w h g. after_subject (ws ▹ (object scope ◃ (ws ▹ dot))) b rest w h))

-- ---- a line

triple_dark : (scope : Scope) (a : List ℕ) (v : Statement) → triple scope a v → Dark a
triple_dark scope a v h = dark_first (subject scope) (ws ▹ iri ⨾ ws ▹ object scope ◃ ws ▹ dot) a h.own (subject_dark scope) h.spelled

after_nil : (scope : Scope) → AfterTriple scope []
unfolding triple_at subject_at iri_at absolute_iri_at iriref_at blank_at blank_node_label_at
after_nil scope = record { blank = refl; label = no_name_nil (is_name_char NTriples); triple = refl }

after_hash : (scope : Scope) (t : List ℕ) → AfterTriple scope (35 ∷ t)
unfolding triple_at subject_at iri_at absolute_iri_at iriref_at blank_at blank_node_label_at
after_hash scope t = record { blank = refl; label = no_label_hash t; triple = refl }

no_comment : (rest : List ℕ) → End rest → comment_at rest ≡ None
unfolding comment_at
no_comment rest e = rw e refl

no_comment_char : (rest : List ℕ) → End rest → one_at is_in_line rest ≡ None
no_comment_char rest e = rw e refl

comment_starts : (a : List ℕ) (v : Unit {0}) → comment a v → Starts 35 a
comment_starts a v h = (h.spelled.back, rw (h.spelled.parts, h.spelled.first) refl)

after_comment : (scope : Scope) (b rest : List ℕ) (w : Option (Unit {0})) → optional comment b w → End rest → AfterTriple scope (b ++ rest)
after_comment scope b rest None h e = rw (h, e) (after_nil scope)
after_comment scope b rest (Some w) h e = let k = comment_starts b w h in rw k.1 (after_hash scope (k.0 ++ rest))

triple_no_blank : (scope : Scope) (b rest : List ℕ) (v : Option Statement) (w : Option (Unit {0})) → Then (optional (triple scope)) (optional comment) b (v, w) → End rest → NoBlank (b ++ rest)
triple_no_blank scope b rest None w h e = let k = after_comment scope h.back rest w h.second e in rw (h.parts, h.first) k.blank
triple_no_blank scope b rest (Some v) w h e = subst (λ (t : List ℕ). NoBlank (t ++ rest)) (sym h.parts) (dark_no_blank (h.front ++ h.back) rest (dark_then h.front h.back (triple_dark scope h.front v h.first)))

line_exact : (scope : Scope) → Exact (line scope) End (line_at scope)
unfolding line_at
line_exact scope =
    over_exact ws_exact
    (left_exact (optional_exact (triple_exact scope) (λ rest f. f.triple)) (optional_exact (narrow comment_exact no_comment_char) no_comment) (after_comment scope))
    (λ b rest w h g. triple_no_blank scope b rest h.own.0 h.own.1 h.spelled g)

-- ---- bytes

pub is_line_sound : (scope : Scope) (bytes : List ℕ) (v : Option Statement) → IsUtf8 bytes → whole (line_at scope) (chars bytes) ≡ Some v → IsLine scope bytes v
is_line_sound scope bytes v u e =
    record { characters = chars bytes; are_scalars = scalars-chars bytes u; spell = encodes-chars bytes u; spelled = whole_sound (line scope) (line_at scope) (line_exact scope) (chars bytes) v e }

pub is_line_full : (scope : Scope) (bytes : List ℕ) (v : Option Statement) → IsLine scope bytes v → whole (line_at scope) (chars bytes) ≡ Some v
is_line_full scope bytes v h =
    let same : h.characters ≡ chars bytes = chars_from_encodes h.characters bytes (h.characters, (h.are_scalars, h.spell)) h.spell in
    subst (λ (cs : List ℕ). whole (line_at scope) cs ≡ Some v) same (whole_full (line scope) (line_at scope) (line_exact scope) h.characters v h.spelled)

pub one_meaning : (scope : Scope) (bytes : List ℕ) (v w : Option Statement) → IsLine scope bytes v → IsLine scope bytes w → v ≡ w
one_meaning scope bytes v w h k = let e = is_line_full scope bytes v h in let f = is_line_full scope bytes w k in cc

-- an empty piece is a line that means nothing
pub empty_line : (scope : Scope) → IsLine scope [] None
empty_line scope = record {
  characters = [];
  are_scalars = refl;
  spell = refl;
  spelled = record {
    own = (tt, None);
    spelled = record {
      front = [];
      back = [];
      parts = refl;
      first = record { own = []; spelled = refl; means = refl };
      second = record { own = (None, None); spelled = record { front = []; back = []; parts = refl; first = refl; second = refl }; means = refl };
    };
    means = refl;
  };
}
