-- The lines of some bytes: the bytes are cut at each CR and each LF (N-Triples, section 7, EOL).
use Rattle.std.specs.Prelude.{◌≡◌, ℕ, ◌+◌, Bool, true, false, cond, not, ◌&&◌, ◌||◌, ◌==◌, List, [], ◌∷◌, ◌++◌}
use Rattle.std.specs.List.{list_all}

abbrev pub is_break : ℕ → Bool
is_break b = (b == 10) || (b == 13)

abbrev pub is_plain : ℕ → Bool
is_plain b = not (is_break b)

-- a piece of the bytes, and the number of its line
pub record Line : Type 0 where
  pub number : ℕ
  pub piece : List ℕ

-- the pieces that a break ended, and the piece that none ended
pub record Cut : Type 0 where
  pub ended : List Line
  pub last : Line

abbrev pub begins_with_lf : List ℕ → Bool
begins_with_lf [] = false
begins_with_lf (b ∷ bs) = b == 10

abbrev pub if_pair : Bool → ℕ → ℕ
if_pair true n = n
if_pair false n = n + 1

-- Line n + 1 begins behind a break. Behind a CR before an LF the empty piece between the two is line n still.
abbrev pub after_break : ℕ → ℕ → List ℕ → ℕ
after_break n b rest = if_pair ((b == 13) && begins_with_lf rest) n

abbrev pub ends_first : Line → Cut → Cut
ends_first l c = record { ended = l ∷ c.ended; last = c.last }

abbrev pub begins_first : ℕ → List Line → Line → Cut
begins_first b [] l = record { ended = []; last = record { number = l.number; piece = b ∷ l.piece } }
begins_first b (k ∷ ls) l = record { ended = record { number = k.number; piece = b ∷ k.piece } ∷ ls; last = l }

-- the cut of bytes whose first line has this number
unfoldable pub cut : ℕ → List ℕ → Cut
cut n [] = record { ended = []; last = record { number = n; piece = [] } }
cut n (b ∷ bs) =
    cond (is_break b)
    (ends_first (record { number = n; piece = [] }) (cut (after_break n b bs) bs))
    (begins_first b (cut n bs).ended (cut n bs).last)

-- the lines of a whole text, and those that ended within the bytes so far
abbrev pub lines_of : List ℕ → List Line
lines_of bytes = (cut 1 bytes).ended ++ (cut 1 bytes).last ∷ []

abbrev pub ended_of : List ℕ → List Line
ended_of bytes = (cut 1 bytes).ended

abbrev pub ends_in_cr : List ℕ → Bool
ends_in_cr [] = false
ends_in_cr (b ∷ []) = b == 13
ends_in_cr (b ∷ c ∷ bs) = ends_in_cr (c ∷ bs)

-- ---- the numbers of lines, in the words of docs/SPECIFICATION.md

abbrev pub lf_count : List ℕ → ℕ
lf_count [] = 0
lf_count (b ∷ bs) = cond (b == 10) 1 0 + lf_count bs

-- the CR bytes among the first of these that no LF follows
abbrev pub lone_cr_count : List ℕ → List ℕ → ℕ
lone_cr_count [] rest = 0
lone_cr_count (b ∷ bs) rest = cond ((b == 13) && not (begins_with_lf (bs ++ rest))) 1 0 + lone_cr_count bs rest

-- a line may begin behind these bytes: there are none, or the last is a break
abbrev pub is_before_line : List ℕ → Bool
is_before_line [] = true
is_before_line (b ∷ []) = is_break b
is_before_line (b ∷ c ∷ bs) = is_before_line (c ∷ bs)

-- a line may end before these bytes: there are none, or the first is a break
abbrev pub is_behind_line : List ℕ → Bool
is_behind_line [] = true
is_behind_line (b ∷ bs) = is_break b

-- The piece stands in the bytes between two breaks, or from their front or to their end, and this is 1, plus the
-- LF bytes before it, plus the CR bytes before it that no LF follows.
pub record IsNumbered (bytes piece : List ℕ) (number : ℕ) : Type 0 where
  pub front : List ℕ
  pub rest : List ℕ
  pub parts : bytes ≡ front ++ (piece ++ rest)
  pub begins : is_before_line front ≡ true
  pub ends : is_behind_line rest ≡ true
  pub plain : list_all is_plain piece ≡ true
  pub count : number ≡ 1 + lf_count front + lone_cr_count front (piece ++ rest)
