-- The first rule of the table that a shape breaks. Private functions alone cite it.
use Rattle.std.specs.Prelude.{ℕ, List, [], ◌∷◌, Option, Some, None, if◌then◌else◌}
use Rattle.rdf_terms.specs.Graph.{Graph}
use Rattle.rdf_terms.specs.declared.term.Term.{Term}
use Rattle.shapes_profile.specs.IllFormed.{Rule, rules}

abbrev pub first_rule : List Rule → Graph → Term → Option ℕ
first_rule [] s x = None
first_rule (r ∷ rs) s x = if r.breaks s x then Some r.number else first_rule rs s x

unfoldable pub rule_of : Graph → Term → Option ℕ
rule_of s x = first_rule rules s x
