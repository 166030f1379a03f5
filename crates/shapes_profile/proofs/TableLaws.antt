-- The table of properties.
use Rattle.std.proofs.Common.{◌≡◌, true, ◌⊎◌, inl, inr, List, [], ◌∷◌, length, Contains, Some, refl, subst, lit<}
use Rattle.rdf_terms.proofs.Members.{in_none, in_cases}
use Rattle.shapes_profile.specs.declared.properties.Row.{Row}
use Rattle.shapes_profile.specs.Logic.{EachOf}
use Rattle.shapes_profile.specs.declared.properties.Property.TheVariants.{QualifiedValueShape}
use Rattle.shapes_profile.specs.declared.properties.Expected.TheVariants.{Shape}
use Rattle.shapes_profile.specs.Properties.{row, table, iri_of, row_of}

pub table_size : length table ≡ 36
unfolding table
table_size = refl

-- what is true of each is true of one of them
pub each_in : {X : Type 0} (P : X → Type 0) (xs : List X) (x : X) → EachOf P xs → Contains xs x → P x
each_in P [] x all c = absurd (in_none x c)
each_in P (y ∷ ys) x all c = at (in_cases y ys x c) (λ d. each_in P ys x all.1 d)
  where
    at : (y ≡ x) ⊎ Contains ys x → (Contains ys x → P x) → P x
    at (inl e) later = subst P e all.0
    at (inr d) later = later d

-- each property has one row
rows_are : EachOf (λ (r : Row). row_of (iri_of r.property) ≡ Some r) table
unfolding table row_of
rows_are = (refl, (refl, (refl, (refl, (refl, (refl, (refl, (refl, (refl, (refl, (refl, (refl, (refl, (refl, (refl, (refl, (refl, (refl, (refl, (refl, (refl, (refl, (refl, (refl, (refl, (refl, (refl, (refl, (refl, (refl, (refl, (refl, (refl, (refl, (refl, (refl, tt))))))))))))))))))))))))))))))))))))

pub row_is : (r : Row) → Contains table r → row_of (iri_of r.property) ≡ Some r
row_is r c = each_in (λ (q : Row). row_of (iri_of q.property) ≡ Some q) table r rows_are c

-- the row of sh:qualifiedValueShape
abbrev pub qualified_shape_row : Row
qualified_shape_row = row QualifiedValueShape Shape true true

pub qualified_shape_there : Contains table qualified_shape_row
unfolding table
qualified_shape_there = (27, lit< tt, refl)
