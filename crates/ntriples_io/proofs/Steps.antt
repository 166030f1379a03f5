-- More bytes for a reader.
use Rattle.std.proofs.Common.{◌≡◌, ℕ, ◌+◌, ◌-◌, Bool, true, false, List, [], ◌∷◌, ◌++◌, length, Option, Some, None, Ok, Err, refl, sym, ap, subst, ◌∙◌, append_assoc, arith, length-append}
use Rattle.std.specs.Prelude.{◌&&◌, ◌==◌}
use Rattle.std.specs.List.{list_all}
use Rattle.std.proofs.lemmas.Bool.{eqb-true}
use Rattle.std.proofs.lemmas.List.{append-nil}
use Rattle.rdf_terms.specs.declared.term.Scope.{Scope}
use Rattle.rdf_terms.specs.Statement.{Statement}
use Rattle.rdf_terms.specs.Graph.{Graph, of_list}
use Rattle.ntriples_io.specs.declared.refusal.NtRefusal.{NtRefusal}
use Rattle.ntriples_io.specs.declared.refusal.NtRefusal.TheVariants.{Syntax, OutOfMemory}
use Rattle.ntriples_io.specs.Cutting.{is_break, is_plain, Line, Cut, cut, lines_of, ended_of}
use Rattle.ntriples_io.specs.Lines.{IsLine}
use Rattle.ntriples_io.specs.Text.{listed, AreLines, IsFirstBad, NtText, IsAnswer, ReadsLine}
use Rattle.ntriples_io.specs.Feeding.{Progress, IsReading, HasReadBy, HasRead}
use Rattle.ntriples_io.proofs.LineNumbers.{numbered_bad}
use Rattle.ntriples_io.proofs.CuttingLemmas.{and_both, push_run, push_break, push_lf, cut_run, cut_break, cut_lf, ends_push, run_ends, grows}

-- ---- lines

pub one_more_line : (scope : Scope) (ls : List Line) (ts : List Statement) (l : Line) (v : Option Statement) → AreLines scope ls ts → IsLine scope l.piece v → AreLines scope (ls ++ l ∷ []) (ts ++ listed v)
one_more_line scope [] ts l v h k = record { meaning = v; later = []; is_line = k; rest = refl; parts = rw h (sym (append-nil (listed v))) }
one_more_line scope (m ∷ ls) ts l v h k = record {
  meaning = h.meaning;
  later = h.later ++ listed v;
  is_line = h.is_line;
  rest = one_more_line scope ls h.later l v h.rest k;
  parts = ap (λ (t : List Statement). t ++ listed v) h.parts ∙ append_assoc (listed h.meaning) h.later (listed v);
}

bad_more : (scope : Scope) (ls more : List Line) (n : ℕ) → IsFirstBad scope ls n → IsFirstBad scope (ls ++ more) n
bad_more scope ls more n h = record {
  before = h.before;
  bad = h.bad;
  after = h.after ++ more;
  parts = ap (λ (t : List Line). t ++ more) h.parts ∙ append_assoc h.before (record { number = n; piece = h.bad } ∷ h.after) more;
  triples = h.triples;
  lines = h.lines;
  no_line = h.no_line;
}

pub bad_longer : (scope : Scope) (xs ys : List ℕ) (n : ℕ) → IsFirstBad scope (ended_of xs) n → IsFirstBad scope (ended_of (xs ++ ys)) n
bad_longer scope xs ys n h = let g = grows ys 1 xs in subst (λ (t : List Line). IsFirstBad scope t n) (sym g.1) (bad_more scope (ended_of xs) g.0 n h)

pub bad_text : (scope : Scope) (xs : List ℕ) (n : ℕ) → IsFirstBad scope (ended_of xs) n → IsFirstBad scope (lines_of xs) n
bad_text scope xs n h = bad_more scope (ended_of xs) ((cut 1 xs).last ∷ []) n h

-- ---- steps

pub read_none : (scope : Scope) (xs run rest : List ℕ) (line : ℕ) (cr : Bool) (taken : ℕ) (ts : List Statement) → IsReading scope xs rest line cr taken ts → run ≡ [] → IsReading scope (xs ++ run) rest line cr taken ts
read_none scope xs run rest line cr taken ts s e = rw (e, append-nil) s

pub read_run : (scope : Scope) (xs run rest : List ℕ) (line : ℕ) (cr : Bool) (taken : ℕ) (ts : List Statement) → IsReading scope xs rest line cr taken ts → list_all is_plain run ≡ true → (run ≡ [] → ⊥)
    → IsReading scope (xs ++ run) (rest ++ run) line false (taken + length run) ts
read_run scope xs [] rest line cr taken ts s h some = absurd (some refl)
read_run scope xs (b ∷ run) rest line cr taken ts s h some = record {
  ended = s.ended;
  cuts = cut_run 1 (b ∷ run) xs h ∙ ap (push_run (b ∷ run)) s.cuts;
  lines = s.lines;
  at_cr = sym (run_ends b run xs h);
  count = omega (arith, s.count, length-append xs (b ∷ run));
}

pub read_break : (scope : Scope) (xs rest : List ℕ) (line : ℕ) (cr : Bool) (taken : ℕ) (ts : List Statement) (b : ℕ) (v : Option Statement) → IsReading scope xs rest line cr taken ts → is_break b ≡ true → ((b == 10) && cr) ≡ false → IsLine scope rest v
    → IsReading scope (xs ++ b ∷ []) [] (line + 1) (b == 13) (taken + 1) (ts ++ listed v)
read_break scope xs rest line cr taken ts b v s h k means = record {
  ended = s.ended ++ record { number = line; piece = rest } ∷ [];
  cuts = cut_break 1 xs b h (ap (λ (t : Bool). (b == 10) && t) (sym s.at_cr) ∙ k) ∙ ap push_break s.cuts;
  lines = one_more_line scope s.ended ts (record { number = line; piece = rest }) v s.lines means;
  at_cr = sym (ends_push xs b);
  count = omega (arith, s.count, length-append xs (b ∷ []));
}

read_lf : (scope : Scope) (xs rest : List ℕ) (line taken : ℕ) (ts : List Statement) → IsReading scope xs rest line true taken ts → IsLine scope [] None → IsReading scope (xs ++ 10 ∷ []) [] line false (taken + 1) ts
read_lf scope xs rest line taken ts s means = record {
  ended = s.ended ++ record { number = line - 1; piece = [] } ∷ [];
  cuts = cut_lf 1 xs (sym s.at_cr) ∙ ap push_lf s.cuts;
  lines = subst (λ (t : List Statement). AreLines scope (s.ended ++ record { number = line - 1; piece = [] } ∷ []) t) (append-nil ts) (one_more_line scope s.ended ts (record { number = line - 1; piece = [] }) None s.lines means);
  at_cr = sym (ends_push xs 10);
  count = omega (arith, s.count, length-append xs (10 ∷ []));
}

pub read_pair : (scope : Scope) (xs rest : List ℕ) (line : ℕ) (cr : Bool) (taken : ℕ) (ts : List Statement) (b : ℕ) → IsReading scope xs rest line cr taken ts → ((b == 10) && cr) ≡ true → IsLine scope [] None → IsReading scope (xs ++ b ∷ []) [] line false (taken + 1) ts
read_pair scope xs rest line cr taken ts b s h means =
    let both = and_both (b == 10) cr h in
    let e : b ≡ 10 = eqb-true b 10 both.0 in
    let at_cr : IsReading scope xs rest line true taken ts = subst (λ (t : Bool). IsReading scope xs rest line t taken ts) both.1 s in
    rw e (read_lf scope xs rest line taken ts at_cr means)

pub bad_line : (scope : Scope) (xs rest : List ℕ) (line : ℕ) (cr : Bool) (taken : ℕ) (ts : List Statement) (b : ℕ) → IsReading scope xs rest line cr taken ts → is_break b ≡ true → ((b == 10) && cr) ≡ false → ((v : Option Statement) → ¬ (IsLine scope rest v))
    → IsFirstBad scope (ended_of (xs ++ b ∷ [])) line
bad_line scope xs rest line cr taken ts b s h k none = record {
  before = s.ended;
  bad = rest;
  after = [];
  parts = ap (λ (c : Cut). c.ended) (cut_break 1 xs b h (ap (λ (t : Bool). (b == 10) && t) (sym s.at_cr) ∙ k) ∙ ap push_break s.cuts);
  triples = ts;
  lines = s.lines;
  no_line = none;
}

abbrev all_lines : Cut → List Line
all_lines c = c.ended ++ c.last ∷ []

pub last_lines : (scope : Scope) (xs rest : List ℕ) (line : ℕ) (cr : Bool) (taken : ℕ) (ts : List Statement) (v : Option Statement) → IsReading scope xs rest line cr taken ts → IsLine scope rest v → AreLines scope (lines_of xs) (ts ++ listed v)
last_lines scope xs rest line cr taken ts v s means =
    subst (λ (c : Cut). AreLines scope (all_lines c) (ts ++ listed v)) (sym s.cuts) (one_more_line scope s.ended ts (record { number = line; piece = rest }) v s.lines means)

pub last_bad : (scope : Scope) (xs rest : List ℕ) (line : ℕ) (cr : Bool) (taken : ℕ) (ts : List Statement) → IsReading scope xs rest line cr taken ts → ((v : Option Statement) → ¬ (IsLine scope rest v)) → IsFirstBad scope (lines_of xs) line
last_bad scope xs rest line cr taken ts s none =
    subst (λ (c : Cut). IsFirstBad scope (all_lines c) line) (sym s.cuts) (record { before = s.ended; bad = rest; after = []; parts = refl; triples = ts; lines = s.lines; no_line = none })

-- ---- the state of a reader

pub opened_by : (o : Option NtRefusal) (r : Progress) (bytes : List ℕ) → o ≡ None → HasReadBy o r bytes → IsReading r.scope bytes r.rest r.line r.after_cr r.taken r.triples
opened_by None r bytes e h = h
opened_by (Some f) r bytes e h = absurd cc

pub opened : (r : Progress) (bytes : List ℕ) → r.refusal ≡ None → HasRead r bytes → IsReading r.scope bytes r.rest r.line r.after_cr r.taken r.triples
opened r bytes e h = opened_by r.refusal r bytes e h

closed_by : (o : Option NtRefusal) (r : Progress) (bytes : List ℕ) → o ≡ None → IsReading r.scope bytes r.rest r.line r.after_cr r.taken r.triples → HasReadBy o r bytes
closed_by None r bytes e h = h
closed_by (Some f) r bytes e h = absurd cc

pub closed : (r : Progress) (bytes : List ℕ) → r.refusal ≡ None → HasReadBy None r bytes → HasRead r bytes
closed r bytes e h = closed_by r.refusal r bytes e h

-- a refusal stays where more comes
pub refused_longer : (f : NtRefusal) (r : Progress) (bytes more : List ℕ) → HasReadBy (Some f) r bytes → HasReadBy (Some f) r (bytes ++ more)
refused_longer (Syntax n) r bytes more h = bad_longer r.scope bytes more n h
refused_longer OutOfMemory r bytes more h = tt

longer_by : (o : Option NtRefusal) (f : NtRefusal) (r : Progress) (bytes more : List ℕ) → o ≡ Some f → HasReadBy o r bytes → HasReadBy o r (bytes ++ more)
longer_by None f r bytes more e h = absurd cc
longer_by (Some g) f r bytes more e h = refused_longer g r bytes more h

pub longer : (r : Progress) (f : NtRefusal) (bytes more : List ℕ) → r.refusal ≡ Some f → HasRead r bytes → HasRead r (bytes ++ more)
longer r f bytes more e h = longer_by r.refusal f r bytes more e h

-- ---- the line that ends is none, or memory ran out

pub bad_step : (f : NtRefusal) (r : Progress) (xs rest piece : List ℕ) (line : ℕ) (cr : Bool) (taken : ℕ) (ts old new : List Statement) (b : ℕ) → IsReading r.scope xs rest line cr taken ts → is_break b ≡ true → ((b == 10) && cr) ≡ false
    → piece ≡ rest → ReadsLine r.scope line piece old new (Err f) → HasReadBy (Some f) r (xs ++ b ∷ [])
bad_step (Syntax n) r xs rest piece line cr taken ts old new b s h k e bad = rw bad.0 (bad_line r.scope xs rest line cr taken ts b s h k (subst (λ (t : List ℕ). (v : Option Statement) → ¬ (IsLine r.scope t v)) e bad.1))
bad_step OutOfMemory r xs rest piece line cr taken ts old new b s h k e bad = tt

-- the last line is none, or memory ran out
pub bad_end : (f : NtRefusal) (scope : Scope) (xs rest piece : List ℕ) (line : ℕ) (cr : Bool) (taken : ℕ) (ts old new : List Statement) → IsReading scope xs rest line cr taken ts → piece ≡ rest → ReadsLine scope line piece old new (Err f) → IsAnswer xs scope (Err f)
bad_end (Syntax n) scope xs rest piece line cr taken ts old new s e bad = rw bad.0 (numbered_bad xs scope line (last_bad scope xs rest line cr taken ts s (subst (λ (t : List ℕ). (v : Option Statement) → ¬ (IsLine scope t v)) e bad.1)))
bad_end OutOfMemory scope xs rest piece line cr taken ts old new s e bad = tt

refused_by : (o : Option NtRefusal) (f : NtRefusal) (r : Progress) (xs : List ℕ) → o ≡ Some f → HasReadBy o r xs → IsAnswer xs r.scope (Err f)
refused_by None f r xs e h = absurd cc
refused_by (Some (Syntax n)) f r xs e h = let k : Syntax n ≡ f = cc in subst (λ (x : NtRefusal). IsAnswer xs r.scope (Err x)) k (numbered_bad xs r.scope n (bad_text r.scope xs n h))
refused_by (Some OutOfMemory) f r xs e h = let k : OutOfMemory ≡ f = cc in subst (λ (x : NtRefusal). IsAnswer xs r.scope (Err x)) k tt

-- the refusal that is kept is what the whole text is answered
pub refused_answer : (r : Progress) (f : NtRefusal) (xs : List ℕ) → r.refusal ≡ Some f → HasRead r xs → IsAnswer xs r.scope (Err f)
refused_answer r f xs e h = refused_by r.refusal f r xs e h

-- ---- a run, a break and what is behind them, as bytes of a piece

pub step_parts : (piece front bytes run after : List ℕ) (b : ℕ) → piece ≡ front ++ bytes → bytes ≡ run ++ b ∷ after → piece ≡ ((front ++ run) ++ b ∷ []) ++ after
step_parts piece front bytes run after b p q = p ∙ ap (λ (t : List ℕ). front ++ t) q ∙ sym (append_assoc front run (b ∷ after)) ∙ sym (append_assoc (front ++ run) (b ∷ []) after)

step_so_far : (xs front run : List ℕ) (b : ℕ) → ((xs ++ front) ++ run) ++ b ∷ [] ≡ xs ++ ((front ++ run) ++ b ∷ [])
step_so_far xs front run b = ap (λ (t : List ℕ). t ++ b ∷ []) (append_assoc xs front run) ∙ append_assoc xs (front ++ run) (b ∷ [])

-- after the run and the break
pub step_read : (r : Progress) (xs front run : List ℕ) (b : ℕ) → r.refusal ≡ None → HasReadBy None r (((xs ++ front) ++ run) ++ b ∷ []) → HasRead r (xs ++ ((front ++ run) ++ b ∷ []))
step_read r xs front run b e h = subst (λ (t : List ℕ). HasRead r t) (step_so_far xs front run b) (closed r (((xs ++ front) ++ run) ++ b ∷ []) e h)

-- after the last run
pub last_read : (o : Option NtRefusal) (r : Progress) (xs piece front bytes : List ℕ) → piece ≡ front ++ bytes → HasReadBy o r ((xs ++ front) ++ bytes) → HasReadBy o r (xs ++ piece)
last_read o r xs piece front bytes e h = subst (λ (t : List ℕ). HasReadBy o r t) (append_assoc xs front bytes ∙ ap (λ (t : List ℕ). xs ++ t) (sym e)) h

-- refused at the run
pub run_refused : (f : NtRefusal) (r : Progress) (xs piece front bytes run after : List ℕ) (b : ℕ) → piece ≡ front ++ bytes → bytes ≡ run ++ b ∷ after → HasReadBy (Some f) r ((xs ++ front) ++ run) → HasReadBy (Some f) r (xs ++ piece)
run_refused f r xs piece front bytes run after b p q h =
    last_read (Some f) r xs piece front bytes p (subst (λ (t : List ℕ). HasReadBy (Some f) r t) (append_assoc (xs ++ front) run (b ∷ after) ∙ ap (λ (t : List ℕ). (xs ++ front) ++ t) (sym q)) (refused_longer f r ((xs ++ front) ++ run) (b ∷ after) h))

-- refused at the break
pub break_refused : (f : NtRefusal) (r : Progress) (xs piece front bytes run after : List ℕ) (b : ℕ) → piece ≡ front ++ bytes → bytes ≡ run ++ b ∷ after → HasReadBy (Some f) r (((xs ++ front) ++ run) ++ b ∷ []) → HasReadBy (Some f) r (xs ++ piece)
break_refused f r xs piece front bytes run after b p q h =
    let whole : (((xs ++ front) ++ run) ++ b ∷ []) ++ after ≡ xs ++ piece =
    ap (λ (t : List ℕ). t ++ after) (step_so_far xs front run b) ∙ append_assoc xs ((front ++ run) ++ b ∷ []) after ∙ ap (λ (t : List ℕ). xs ++ t) (sym (step_parts piece front bytes run after b p q)) in
    subst (λ (t : List ℕ). HasReadBy (Some f) r t) whole (refused_longer f r (((xs ++ front) ++ run) ++ b ∷ []) after h)

pub not_empty : (run : List ℕ) → (length run == 0) ≡ false → run ≡ [] → ⊥
not_empty [] h e = cc
not_empty (b ∷ run) h e = cc

-- the last line is one
pub read_text : (scope : Scope) (xs rest piece : List ℕ) (line : ℕ) (cr : Bool) (taken : ℕ) (ts new : List Statement) (g : Graph) → IsReading scope xs rest line cr taken ts → piece ≡ rest → ReadsLine scope line piece ts new (Ok tt) → g ≡ of_list new → NtText xs scope g
read_text scope xs rest piece line cr taken ts new g s e read is = record {
  triples = new;
  lines = subst (λ (t : List Statement). AreLines scope (lines_of xs) t) (sym read.2) (last_lines scope xs rest line cr taken ts read.0 s (subst (λ (t : List ℕ). IsLine scope t read.0) e read.1));
  is_set = is;
}
