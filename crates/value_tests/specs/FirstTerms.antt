-- The first terms in the order of terms. Private functions cite it.
use Rattle.std.specs.Prelude.{◌≢◌, Option, Some, None, if◌then◌else◌}
use Rattle.std.specs.Ordering.{is_gt}
use Rattle.std.specs.declared.cmp.Ordering.TheVariants.{Greater}
use Rattle.rdf_terms.specs.Term.{term_cmp}
use Rattle.rdf_terms.specs.declared.term.Term.{Term}

-- the first term that has P; None where none has it
abbrev pub IsFirstWith : (Term → Type 0) → Option Term → Type 0
IsFirstWith P None = (y : Term) → ¬ (P y)
IsFirstWith P (Some y) = P y × ((z : Term) → P z → term_cmp y z ≢ Greater)

-- the first of two terms, where there are such
abbrev pub first_of_two : Option Term → Option Term → Option Term
first_of_two None b = b
first_of_two (Some x) None = Some x
first_of_two (Some x) (Some y) = if is_gt (term_cmp x y) then Some y else Some x
