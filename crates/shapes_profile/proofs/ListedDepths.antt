-- The depths of values of a property are listed.
use Rattle.std.proofs.Common.{◌≡◌, Bool, List, [], ◌∷◌, Contains, refl, ap, ◌∙◌}
use Rattle.std.specs.Prelude.{is_none, ◌||◌}
use Rattle.std.specs.List.{list_any}
use Rattle.rdf_terms.specs.declared.term.Term.{Term}
use Rattle.rdf_terms.specs.Graph.{Graph}
use Rattle.rdf_terms.proofs.Members.{in_first, in_rest}
use Rattle.rdf_terms.proofs.Values.{IsListOf-objects}
use Rattle.rdf_navigation.specs.Values.{values}
use Rattle.property_paths.specs.Paths.{path_depth}
use Rattle.property_paths.specs.PathTable.{listed_depth}
use Rattle.property_paths.proofs.PartLaws.{object_node, listed_is}

-- tests that agree on the items of a list
any_agree : {X : Type 0} (p q : X → Bool) (xs : List X) → ((x : X) → Contains xs x → p x ≡ q x) → list_any p xs ≡ list_any q xs
any_agree p q [] h = refl
any_agree p q (x ∷ xs) h = ap (λ b. b || list_any p xs) (h x (in_first x xs)) ∙ ap (λ b. q x || b) (any_agree p q xs (λ y c. h y (in_rest x xs y c)))

-- a value is a node, so that its depth is listed
pub values_listed : (s : Graph) (x p : Term) → list_any (λ y. is_none (listed_depth s y)) (values s x p) ≡ list_any (λ y. is_none (path_depth s y)) (values s x p)
values_listed s x p =
    any_agree (λ (y : Term). is_none (listed_depth s y)) (λ (y : Term). is_none (path_depth s y)) (values s x p)
    (λ y c. ap is_none (listed_is s y (object_node s x p y ((IsListOf-objects s x p y).0 c))))
