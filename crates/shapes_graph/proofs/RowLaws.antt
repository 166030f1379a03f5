-- The row of a predicate is one of the table, and the predicate its property.
use Rattle.std.proofs.Common.{◌≡◌, Bool, true, false, cond, List, [], ◌∷◌, Contains, Option, Some, None, refl, sym, ap, ◌∙◌, subst}
use Rattle.std.specs.List.{find}
use Rattle.rdf_terms.specs.declared.term.Term.{Term}
use Rattle.rdf_terms.proofs.Members.{in_first, in_rest}
use Rattle.rdf_terms.proofs.Orders.{same_term as equal_terms}
use Rattle.rdf_navigation.specs.Values.{same_term}
use Rattle.rdf_navigation.proofs.PropertyLaws.{same_some, not_missing}
use Rattle.shapes_profile.specs.declared.properties.Row.{Row}
use Rattle.shapes_profile.specs.Properties.{table, iri_of, row_of}

-- what is found is in the list and passes the test
found_is : {X : Type 0} (p : X → Bool) (xs : List X) (x : X) → find p xs ≡ Some x → Contains xs x × (p x ≡ true)
found_is p [] x e = absurd (not_missing x e)
found_is {X} p (y ∷ ys) x e = at (p y) refl e (λ f. found_is p ys x f)
  where
    at : (b : Bool) → p y ≡ b → cond b (Some y) (find p ys) ≡ Some x → (find p ys ≡ Some x → Contains ys x × (p x ≡ true)) → Contains (y ∷ ys) x × (p x ≡ true)
    at true k f later = subst (λ (z : X). Contains (y ∷ ys) z × (p z ≡ true)) (same_some f) (in_first y ys, k)
    at false k f later = let r = later f in (in_rest y ys x r.0, r.1)

pub row_there : (p : Term) (r : Row) → row_of p ≡ Some r → Contains table r × (p ≡ iri_of r.property)
unfolding row_of
row_there p r e = let f = found_is (λ (q : Row). same_term p (iri_of q.property)) table r e in (f.0, equal_terms p (iri_of r.property) f.1)
