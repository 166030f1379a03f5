-- The canonical text of a graph is N-Triples, and means this graph.
use Rattle.std.proofs.Common.{◌≡◌, ℕ, ◌+◌, ◌<◌, ◌≤◌, length, get_or, take, Bool, true, false, not, List, [], ◌∷◌, ◌++◌, codes, flat_map, Some, None, refl, sym, ap, subst, ◌∙◌, append_assoc}
use Rattle.std.specs.Prelude.{IsTrue, ◌↔◌}
use Rattle.std.specs.Char.{encode_utf8}
use Rattle.std.specs.List.{All, Contains, list_all}
use Rattle.std.proofs.lemmas.List.{append-nil, take_all, take_more}
use Rattle.std.proofs.lemmas.List.Concat.{flat_map-append, flat_map-cons}
use Rattle.std.proofs.lemmas.List.Elements.{All-nil, All-cons, All-head, All-tail, All-weaker, All-contains, All-contains_itself}
use Rattle.rdf_terms.specs.declared.term.Scope.{Scope}
use Rattle.rdf_terms.specs.Statement.{Statement}
use Rattle.rdf_terms.specs.Graph.{Graph, triples, has, of_list}
use Rattle.rdf_terms.specs.TermOrder.{statement_cmp_total, statement_cmp-IsAntisymmetric}
use Rattle.rdf_terms.proofs.Membership as sets
use Rattle.rdf_terms.proofs.GraphLaws.{has_listed, listed_of_has}
use Rattle.rdf_grammar.specs.Lawful.{IsLawfulTriple}
use Rattle.ntriples_io.specs.NTriples.{comment, triple, line, statement_of}
use Rattle.ntriples_io.specs.Cutting.{is_break, is_plain, Cut, ends_first, cut}
use Rattle.ntriples_io.specs.Lines.{IsLine}
use Rattle.ntriples_io.specs.Text.{AreLines, AreLawful, NtText}
use Rattle.ntriples_io.specs.CanonicalText.{term_text, line_text, graph_text, line_feed}
use Rattle.ntriples_io.specs.RoundTrip.{IsTripleInScope, HasScope, IsTriple, IsLineOf}
use Rattle.ntriples_io.proofs.CuttingLemmas.{and_both}
use Rattle.ntriples_io.proofs.LineForms.{empty_line}
use Rattle.ntriples_io.proofs.Once.{text_once}
use Rattle.ntriples_io.proofs.OnlyTriples.{AreTriples, body_is_plain, only_triples}
use Rattle.ntriples_io.proofs.Spelled.{Spelled, spelled_terminal, spelled_then, spelled_made, spelled_over, spelled_left, spelled_some, spelled_none, same_bytes}
use Rattle.ntriples_io.proofs.TermSpelling.{no_space, space, subject_spelled, predicate_spelled, object_spelled, body_text, regroup}

-- ---- a line

pub record IsSpellable (scope : Scope) (t : Statement) : Type 0 where
  pub is_triple : IsTriple t
  pub lawful : IsLawfulTriple t
  pub in_scope : IsTripleInScope scope t

triple_spelled : (scope : Scope) (t : Statement) → IsSpellable scope t → Spelled (triple scope) (body_text t) t
unfolding encode_utf8
triple_spelled scope t h =
    let subject = subject_spelled scope t.subject h.is_triple.0 h.lawful.subject h.in_scope.0 in
    let predicate = predicate_spelled t.predicate h.is_triple.1 h.lawful.predicate in
    let object = object_spelled scope t.object h.lawful.object h.in_scope.1 in
    let end = spelled_over space (spelled_left (spelled_terminal (codes ".") refl refl refl) no_space) in
    same_bytes (regroup (term_text t.subject) (term_text t.predicate) (term_text t.object) (codes " ") (codes " ."))
    (spelled_made statement_of (spelled_then subject (spelled_over space (spelled_then predicate (spelled_over space (spelled_left object end))))))

line_spelled : (scope : Scope) (t : Statement) → IsSpellable scope t → Spelled (line scope) (body_text t) (Some t)
line_spelled scope t h = same_bytes (append-nil (body_text t)) (spelled_over no_space (spelled_left (spelled_some (triple_spelled scope t h)) (spelled_none comment)))

body_is_line : (scope : Scope) (t : Statement) → IsSpellable scope t → IsLine scope (body_text t) (Some t)
body_is_line scope t h = let k = line_spelled scope t h in record { characters = k.characters; are_scalars = k.are_scalars; spell = k.spell; spelled = k.spelled }

pub line_of_triple : (scope : Scope) (t : Statement) → IsTriple t → IsLawfulTriple t → IsTripleInScope scope t → IsLineOf scope (line_text t) t
line_of_triple scope t k h s = record { line = body_text t; ended = refl; is_line = body_is_line scope t (record { is_triple = k; lawful = h; in_scope = s }) }

-- ---- a text

is_false : (b : Bool) → not b ≡ true → b ≡ false
is_false true h = absurd cc
is_false false h = refl

-- the first line of a text ends at its first LF
cut_line : (n : ℕ) (piece rest : List ℕ) → list_all is_plain piece ≡ true → cut n (piece ++ line_feed ∷ rest) ≡ ends_first (record { number = n; piece = piece }) (cut (n + 1) rest)
unfolding cut
cut_line n [] rest h = refl
cut_line n (b ∷ piece) rest h =
    let both = and_both (is_plain b) (list_all is_plain piece) h in
    rw (is_false (is_break b) both.0, cut_line n piece rest both.1) refl

-- the cut of the lines of some triples
cut_triple : (scope : Scope) (n : ℕ) (t : Statement) (ts : List Statement) → IsLawfulTriple t → IsTripleInScope scope t
    → cut n (flat_map line_text (t ∷ ts)) ≡ ends_first (record { number = n; piece = body_text t }) (cut (n + 1) (flat_map line_text ts))
cut_triple scope n t ts h s =
    let rest = flat_map line_text ts in
    let text : flat_map line_text (t ∷ ts) ≡ body_text t ++ line_feed ∷ rest = flat_map-cons line_text t ts ∙ append_assoc (body_text t) (line_feed ∷ []) rest in
    ap (cut n) text ∙ cut_line n (body_text t) rest (body_is_plain scope t h s)

abbrev AreLinesOf : Scope → Cut → List Statement → Type 0
AreLinesOf scope c ts = AreLines scope (c.ended ++ c.last ∷ []) ts

lines_of_triples : (scope : Scope) (n : ℕ) (ts : List Statement) → All (IsSpellable scope) ts → AreLinesOf scope (cut n (flat_map line_text ts)) ts
unfolding cut
lines_of_triples scope n [] h = record { meaning = None; later = []; is_line = empty_line scope; rest = refl; parts = refl }
lines_of_triples scope n (t ∷ ts) h =
    let one = All-head (IsSpellable scope) t ts h in
    subst (λ (c : Cut). AreLinesOf scope c (t ∷ ts)) (sym (cut_triple scope n t ts one.lawful one.in_scope))
    (record { meaning = Some t; later = ts; is_line = body_is_line scope t one; rest = lines_of_triples scope (n + 1) ts (All-tail (IsSpellable scope) t ts h); parts = refl })

record IsLawfulIn (scope : Scope) (t : Statement) : Type 0 where
  lawful : IsLawfulTriple t
  in_scope : IsTripleInScope scope t

-- where the lines of some statements are lines of N-Triples, they are triples
triples_of_lines : (scope : Scope) (n : ℕ) (ts us : List Statement) → All (IsLawfulIn scope) ts → AreLinesOf scope (cut n (flat_map line_text ts)) us → All IsTriple ts
triples_of_lines scope n [] us h k = All-nil IsTriple
triples_of_lines scope n (t ∷ ts) us h k =
    let one = All-head (IsLawfulIn scope) t ts h in
    let lines : AreLinesOf scope (ends_first (record { number = n; piece = body_text t }) (cut (n + 1) (flat_map line_text ts))) us =
    subst (λ (c : Cut). AreLinesOf scope c us) (cut_triple scope n t ts one.lawful one.in_scope) k in
    All-cons IsTriple t ts (only_triples scope t lines.meaning one.lawful one.in_scope lines.is_line) (triples_of_lines scope (n + 1) ts lines.later (All-tail (IsLawfulIn scope) t ts h) lines.rest)

-- what holds of each triple of a graph
all_in : (P : Statement → Type 0) (g : Graph) → ((t : Statement) → IsTrue (has g t) → P t) → All P (triples g)
all_in P g h = All-weaker (Contains (triples g)) P (λ t listed. h t (has_listed g t listed)) (triples g) (All-contains_itself (triples g))

each_in : (P : Statement → Type 0) (g : Graph) → All P (triples g) → (t : Statement) → IsTrue (has g t) → P t
each_in P g h t in_graph = All-contains P (triples g) t h (listed_of_has g t in_graph)

pub text_of_graph : (scope : Scope) (g : Graph) → AreTriples g → AreLawful g → HasScope scope g → NtText (graph_text g) scope g
text_of_graph scope g k h s =
    let each = all_in (IsSpellable scope) g (λ t in_graph. record { is_triple = k t in_graph; lawful = h t in_graph; in_scope = s t in_graph }) in
    record { triples = triples g; lines = lines_of_triples scope 1 (triples g) each; is_set = sym (sets.of_list-items statement_cmp_total statement_cmp-IsAntisymmetric g) }

-- lines of triples, in whatever order and however often, mean the graph of these triples
pub text_of_triples : (scope : Scope) (ts : List Statement) → All (IsSpellable scope) ts → NtText (flat_map line_text ts) scope (of_list ts)
text_of_triples scope ts each = record { triples = ts; lines = lines_of_triples scope 1 ts each; is_set = refl }

triples_of_text : (scope : Scope) (g other : Graph) → AreLawful g → HasScope scope g → NtText (graph_text g) scope other → AreTriples g
triples_of_text scope g other h s text =
    let each = all_in (IsLawfulIn scope) g (λ t in_graph. record { lawful = h t in_graph; in_scope = s t in_graph }) in
    each_in IsTriple g (triples_of_lines scope 1 (triples g) text.triples each text.lines)

pub one_graph : (scope : Scope) (g other : Graph) → AreTriples g → AreLawful g → HasScope scope g → AreLawful other → HasScope scope other → (graph_text g ≡ graph_text other) ↔ (g ≡ other)
one_graph scope g other k h s l r = (same, ap graph_text)
  where
    same : graph_text g ≡ graph_text other → g ≡ other
    same e =
        let text = text_of_graph scope g k h s in
        let there : NtText (graph_text other) scope g = subst (λ (bytes : List ℕ). NtText bytes scope g) e text in
        text_once (graph_text other) scope g other there (text_of_graph scope other (triples_of_text scope other g l r there) l r)

-- ---- what the writer's loop keeps

pub one_more_line : (ts : List Statement) (i : ℕ) (t : Statement) → i < length ts → t ≡ get_or ts i t → flat_map line_text (take i ts) ++ line_text t ≡ flat_map line_text (take (i + 1) ts)
one_more_line ts i t lt e =
    let more : take (i + 1) ts ≡ take i ts ++ t ∷ [] = take_more ts i t lt ∙ ap (λ (s : Statement). take i ts ++ s ∷ []) (sym e) in
    sym (ap (flat_map line_text) more ∙ flat_map-append line_text (take i ts) (t ∷ []) ∙ ap (λ (text : List ℕ). flat_map line_text (take i ts) ++ text) (append-nil (line_text t)))

pub record IsWritten (g : Graph) (text : List ℕ) : Type 0 where
  pub is_text : text ≡ graph_text g
  pub are_triples : AreTriples g

pub all_written : (g : Graph) (ts : List Statement) (i : ℕ) (text : List ℕ) → ts ≡ triples g → length ts ≤ i → text ≡ flat_map line_text (take i ts) → All IsTriple (take i ts) → IsWritten g text
all_written g ts i text same end e each =
    let all : take i ts ≡ triples g = take_all i ts end ∙ same in
    record {
      is_text = e ∙ ap (flat_map line_text) all;
      are_triples = each_in IsTriple g (subst (All IsTriple) all each);
    }
