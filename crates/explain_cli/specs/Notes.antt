-- The lines that are written to the notes.
use Rattle.std.specs.Prelude.{ℕ, List, [], ◌∷◌, ◌++◌, codes, decimal}
use Rattle.document_input.specs.declared.role.Role.{Role}
use Rattle.document_input.specs.declared.refusal.InputRefusal.{InputRefusal}
use Rattle.document_input.specs.Notes.{role_text, refusal_text}
use Rattle.certificates.specs.declared.refusal.CheckRefusal.{CheckRefusal}
use Rattle.certificates.specs.Reasons.{reason_text}

-- a text as a line
abbrev pub line : List ℕ → List ℕ
line text = text ++ 10 ∷ []

abbrev pub usage_line : ℕ → List ℕ
usage_line position = line (codes "usage: word " ++ decimal position)

abbrev pub input_line : InputRefusal → List ℕ
input_line refusal = line (codes "input: " ++ refusal_text refusal)

abbrev pub read_line : Role → List ℕ
read_line role = line (codes "read: " ++ role_text role)

abbrev pub rejected_line : CheckRefusal → List ℕ
rejected_line reason = line (codes "rejected: " ++ reason_text reason)
