-- What triples lead to, by their places. Private functions cite it.
use Rattle.std.specs.Prelude.{◌≡◌, ℕ, List, Some, slice_get}
use Rattle.rdf_terms.specs.declared.term.Term.{Term}
use Rattle.rdf_terms.specs.Statement.{Statement}
use Rattle.path_eval.specs.declared.direction.Direction.{Direction}
use Rattle.path_eval.specs.declared.direction.Direction.TheVariants.{Forward, Backward}

-- the end of the triple to which it leads
abbrev pub far_end : Direction → Statement → Term
far_end Forward t = t.object
far_end Backward t = t.subject

-- a triple with the predicate leads to the term, at a place with P
abbrev pub IsLinked : List Statement → Term → Direction → (ℕ → Type 0) → Term → Type 0
IsLinked ts p d P y =
    (i : ℕ) × P i × ((t : Statement) × (slice_get ts i ≡ Some t) × (t.predicate ≡ p) × (far_end d t ≡ y))
