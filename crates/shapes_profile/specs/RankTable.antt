-- What the table of ranks holds. Private functions alone cite it.
use Rattle.std.specs.Prelude.{◌≡◌, ℕ, min, Bool, true, List, length, slice_get, Option, Some, None, option_map, nat_le}
use Rattle.rdf_terms.specs.Graph.{Graph}
use Rattle.rdf_terms.specs.declared.term.Term.{Term}
use Rattle.digraph.specs.Digraph.{look}
use Rattle.shapes_profile.specs.Shapes.{shape_terms}
use Rattle.shapes_profile.specs.References.{rank}

-- of each shape its rank, where 129 stands for 129 and more
pub record AreRanks (s : Graph) (ranks : List (Option ℕ)) : Type 0 where
  pub size : length ranks ≡ length (shape_terms s)
  pub listed : (i : ℕ) (x : Term) → slice_get (shape_terms s) i ≡ Some x
      → look ranks i ≡ option_map (min 129) (rank s x)

-- no depth or rank below the cap
abbrev pub is_too_deep : ℕ → Option ℕ → Bool
is_too_deep cap None = true
is_too_deep cap (Some depth) = nat_le cap depth
