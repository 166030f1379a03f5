-- Names in which dots may stand, but not at the end: [ { C | '.' } C ].
use Rattle.std.specs.Prelude.{◌≡◌, ℕ, ◌==◌, Bool, true, ◌||◌, cond, List, [], ◌∷◌, Some}
use Rattle.grammar_forms.specs.Forms.{Form}
use Rattle.grammar_forms.specs.Reading.{Read}

-- each is a C or a dot, and the last is a C
abbrev pub IsNameEnd : (ℕ → Bool) → List ℕ → Type 0
IsNameEnd p [] = Unit {0}
IsNameEnd p (c ∷ []) = p c ≡ true
IsNameEnd p (c ∷ d ∷ cs) = ((p c || (c == 46)) ≡ true) × IsNameEnd p (d ∷ cs)

-- [ { C | '.' } C ]
abbrev pub name_end : (ℕ → Bool) → Form ℕ (Unit {0})
name_end p text v = IsNameEnd p text

-- ---- reading

abbrev pub onto : ℕ → List ℕ × List ℕ → List ℕ × List ℕ
onto c x = (c ∷ x.0, x.1)

-- a dot belongs to the name where more of the name follows
abbrev pub after_dot : List ℕ → List ℕ → List ℕ → List ℕ × List ℕ
after_dot cs [] rest = ([], 46 ∷ cs)
after_dot cs (d ∷ ds) rest = (46 ∷ d ∷ ds, rest)

unfoldable pub end_of : (ℕ → Bool) → List ℕ → List ℕ × List ℕ
end_of p [] = ([], [])
end_of p (c ∷ cs) =
    cond (p c)
    (onto c (end_of p cs))
    (cond (c == 46) (after_dot cs (end_of p cs).0 (end_of p cs).1) ([], c ∷ cs))

abbrev pub name_end_at : (ℕ → Bool) → List ℕ → Read ℕ (Unit {0})
name_end_at p cs = Some (tt, (end_of p cs).1)

-- nothing of a name stands at the front
abbrev pub NoName : (ℕ → Bool) → List ℕ → Type 0
NoName p rest = (end_of p rest).0 ≡ []
