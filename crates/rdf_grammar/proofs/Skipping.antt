-- Characters of a class that are ASCII stand before the rest byte by byte.
use Rattle.std.proofs.Common.{◌≡◌, ℕ, ◌+◌, ◌<◌, ◌≤◌, Bool, true, List, [], ◌∷◌, ◌++◌, length, take, drop, get_or, refl, sym, ap, ◌∙◌, subst}
use Rattle.std.specs.List.{list_all}
use Rattle.std.specs.Str.{IsUtf8, IsAscii, IsCharBoundary, chars}
use Rattle.std.proofs.lemmas.List.{take_more, take-append-drop}
use Rattle.std.proofs.lemmas.List.Folds.{list_all-append}
use Rattle.std.proofs.lemmas.Str.{chars-append, chars-IsAscii, IsUtf8-from_ascii, IsCharBoundary-from_take}
use Rattle.grammar_forms.specs.Reading.{one_at}
use Rattle.grammar_forms.proofs.Exactness.{one_exact, one_nonempty}
use Rattle.grammar_forms.proofs.Loops.{Passed, consumes, passed_more}
use Rattle.rdf_terms.proofs.Bools.{both_left, both_right, both_true}
use Rattle.rdf_grammar.specs.Answers.{StandBefore}

pub run_more : (p : ℕ → Bool) (bs : List ℕ) (i : ℕ) → i < length bs → list_all p (take i bs) ≡ true → p (get_or bs i 0) ≡ true → list_all p (take (i + 1) bs) ≡ true
run_more p bs i lt h e = ap (list_all p) (take_more bs i 0 lt) ∙ list_all-append p (take i bs) (get_or bs i 0 ∷ []) ∙ both_true _ _ h (both_true _ _ e refl)

pub stand_before : (p : ℕ → Bool) (bs : List ℕ) (i : ℕ) → IsAscii (take i bs) → list_all p (take i bs) ≡ true → StandBefore p (chars bs) (chars (drop i bs))
stand_before p bs i ascii each = (
  take i bs,
  ap chars (sym (take-append-drop i bs)) ∙ chars-append (take i bs) (drop i bs) (IsUtf8-from_ascii (take i bs) ascii) ∙ ap (λ cs. cs ++ chars (drop i bs)) (chars-IsAscii (take i bs) ascii),
  each,
)

pub cut_here : (bs : List ℕ) (i : ℕ) → IsUtf8 bs → i ≤ length bs → IsAscii (take i bs) → IsCharBoundary bs i
cut_here bs i u le ascii = IsCharBoundary-from_take bs i u le (IsUtf8-from_ascii (take i bs) ascii)

-- what stands before the rest has been passed over
passed_run : (p : ℕ → Bool) (run whole before rest : List ℕ) → before ≡ run ++ rest → list_all p run ≡ true → Passed (one_at p) whole before → Passed (one_at p) whole rest
passed_run p [] whole before rest e each w = subst (Passed (one_at p) whole) e w
passed_run p (c ∷ run) whole before rest e each w =
    let reads : one_at p (c ∷ (run ++ rest)) ≡ one_at p before = ap (one_at p) (sym e) in
    passed_run p run whole (run ++ rest) rest refl (both_right _ _ each) (passed_more (one_at p) (consumes (one_exact p) (one_nonempty p)) whole before c (run ++ rest) (sym reads ∙ rw (both_left (p c) (list_all p run) each) refl) w)

pub passed_before : (p : ℕ → Bool) (whole before rest : List ℕ) → StandBefore p before rest → Passed (one_at p) whole before → Passed (one_at p) whole rest
passed_before p whole before rest h w = passed_run p h.0 whole before rest h.1 h.2 w
