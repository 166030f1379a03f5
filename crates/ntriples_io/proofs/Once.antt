-- A text has one meaning.
use Rattle.std.proofs.Common.{◌≡◌, ℕ, List, [], ◌∷◌, ◌++◌, Option, Result, Ok, Err, sym, ap, subst, ◌∙◌}
use Rattle.rdf_terms.specs.declared.term.Scope.{Scope}
use Rattle.rdf_terms.specs.Statement.{Statement}
use Rattle.rdf_terms.specs.Answers.{UnlessMemory}
use Rattle.rdf_terms.specs.Graph.{Graph, of_list}
use Rattle.ntriples_io.specs.declared.refusal.NtRefusal.{NtRefusal}
use Rattle.ntriples_io.specs.declared.refusal.NtRefusal.TheVariants.{Syntax, OutOfMemory}
use Rattle.ntriples_io.specs.Cutting.{Line, lines_of}
use Rattle.ntriples_io.specs.Lines.{IsLine}
use Rattle.ntriples_io.specs.Text.{listed, AreLines, IsFirstBad, NtText, BadLine, TextMeans, is_memory, IsAnswer}
use Rattle.ntriples_io.proofs.LineForms.{one_meaning}

lines_once : (scope : Scope) (ls : List Line) (ts us : List Statement) → AreLines scope ls ts → AreLines scope ls us → ts ≡ us
lines_once scope [] ts us h k = h ∙ sym k
lines_once scope (l ∷ ls) ts us h k =
    let same : h.meaning ≡ k.meaning = one_meaning scope l.piece h.meaning k.meaning h.is_line k.is_line in
    let rest : h.later ≡ k.later = lines_once scope ls h.later k.later h.rest k.rest in
    h.parts ∙ ap (λ (v : Option Statement). listed v ++ h.later) same ∙ ap (λ (t : List Statement). listed k.meaning ++ t) rest ∙ sym k.parts

pub text_once : (bytes : List ℕ) (scope : Scope) (g h : Graph) → NtText bytes scope g → NtText bytes scope h → g ≡ h
text_once bytes scope g h x y = x.is_set ∙ ap of_list (lines_once scope (lines_of bytes) x.triples y.triples x.lines y.lines) ∙ sym y.is_set

-- among lines there is none that is no line
bad_within : (scope : Scope) (before after : List Line) (l : Line) (ts : List Statement) → ((v : Option Statement) → ¬ (IsLine scope l.piece v)) → AreLines scope (before ++ l ∷ after) ts → ⊥
bad_within scope [] after l ts none h = none h.meaning h.is_line
bad_within scope (k ∷ before) after l ts none h = bad_within scope before after l h.later none h.rest

pub never_both : (bytes : List ℕ) (scope : Scope) (g : Graph) (n : ℕ) → NtText bytes scope g → BadLine bytes scope n → ⊥
never_both bytes scope g n x y = bad_within scope y.first.before y.first.after (record { number = n; piece = y.first.bad }) x.triples y.first.no_line (subst (λ (ls : List Line). AreLines scope ls x.triples) y.first.parts x.lines)

first_of_two : (scope : Scope) (before other after more : List Line) (l m : Line) (ts us : List Statement) → ((v : Option Statement) → ¬ (IsLine scope l.piece v)) → ((v : Option Statement) → ¬ (IsLine scope m.piece v))
    → AreLines scope before ts → AreLines scope other us → before ++ l ∷ after ≡ other ++ m ∷ more → l ≡ m
first_of_two scope [] [] after more l m ts us none never h k e = cc
first_of_two scope [] (p ∷ other) after more l m ts us none never h k e =
    let same : p ≡ l = cc in
    absurd (none k.meaning (subst (λ (x : Line). IsLine scope x.piece k.meaning) same k.is_line))
first_of_two scope (p ∷ before) [] after more l m ts us none never h k e =
    let same : p ≡ m = cc in
    absurd (never h.meaning (subst (λ (x : Line). IsLine scope x.piece h.meaning) same h.is_line))
first_of_two scope (p ∷ before) (q ∷ other) after more l m ts us none never h k e =
    let rest : before ++ l ∷ after ≡ other ++ m ∷ more = cc in
    first_of_two scope before other after more l m h.later k.later none never h.rest k.rest rest

pub bad_once : (scope : Scope) (ls : List Line) (n m : ℕ) → IsFirstBad scope ls n → IsFirstBad scope ls m → n ≡ m
bad_once scope ls n m x y =
    ap (λ (l : Line). l.number) (first_of_two scope x.before y.before x.after y.after (record { number = n; piece = x.bad }) (record { number = m; piece = y.bad }) x.triples y.triples x.no_line y.no_line x.lines y.lines (sym x.parts ∙ y.parts))

pub one_answer : (bytes : List ℕ) (scope : Scope) (result other : Result Graph NtRefusal) → IsAnswer bytes scope result → TextMeans bytes scope other → UnlessMemory is_memory result (result ≡ other)
one_answer bytes scope (Ok g) (Ok h) x y = ap Ok (text_once bytes scope g h x y)
one_answer bytes scope (Ok g) (Err (Syntax n)) x y = absurd (never_both bytes scope g n x y)
one_answer bytes scope (Ok g) (Err OutOfMemory) x y = absurd y
one_answer bytes scope (Err (Syntax n)) (Ok h) x y = absurd (never_both bytes scope h n y x)
one_answer bytes scope (Err (Syntax n)) (Err (Syntax m)) x y = ap (λ (k : ℕ). Err (Syntax k)) (bad_once scope (lines_of bytes) n m x.first y.first)
one_answer bytes scope (Err (Syntax n)) (Err OutOfMemory) x y = absurd y
one_answer bytes scope (Err OutOfMemory) other x y = tt
