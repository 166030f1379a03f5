-- A text between two marks is read in runs, with an escape behind each.
use Rattle.std.proofs.Common.{◌≡◌, ℕ, ◌<◌, Bool, List, [], ◌++◌, length, Some, None, refl, sym, subst}
use Rattle.std.specs.Prelude.{encode_utf8}
use Rattle.grammar_forms.specs.Reading.{Read, one_at, either_at}
use Rattle.grammar_forms.proofs.Loops.{Written, begins, written_more, written_run}
use Rattle.rdf_grammar.specs.Answers.{PushesRun}

pub nothing_read : (r : List ℕ → Read ℕ ℕ) (whole out : List ℕ) → out ≡ [] → Written r whole whole out
nothing_read r whole out e = ([], e, begins r whole)

-- a run at the front
pub run_read : (p : ℕ → Bool) (e : List ℕ → Read ℕ ℕ) (whole cs rest old new : List ℕ) → PushesRun p cs rest old new → Written (either_at (one_at p) e) whole cs old → Written (either_at (one_at p) e) whole rest new
run_read p e whole cs rest old new h w =
    subst (Written (either_at (one_at p) e) whole rest) (sym h.bytes)
    (written_run (either_at (one_at p) e) p (λ c ds t. rw t refl) h.skips.run whole cs old rest h.skips.each h.skips.parts w)

-- an escape
pub escape_read : (p : ℕ → Bool) (e : List ℕ → Read ℕ ℕ) (whole rest behind old new : List ℕ) (c : ℕ) → one_at p rest ≡ None → e rest ≡ Some (c, behind) → length behind < length rest → new ≡ old ++ encode_utf8 c
    → Written (either_at (one_at p) e) whole rest old → Written (either_at (one_at p) e) whole behind new
escape_read p e whole rest behind old new c stops given less bytes w =
    let reads : either_at (one_at p) e rest ≡ Some (c, behind) = rw (stops, given) refl in
    subst (Written (either_at (one_at p) e) whole behind) (sym bytes) (written_more (either_at (one_at p) e) whole rest old c behind less reads w)

pub nothing_more : (p : ℕ → Bool) (e : List ℕ → Read ℕ ℕ) (rest : List ℕ) → one_at p rest ≡ None → e rest ≡ None → either_at (one_at p) e rest ≡ None
nothing_more p e rest stops none = rw (stops, none) refl
