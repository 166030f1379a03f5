-- The siblings of a shape, with and without the question for them.
use Rattle.std.proofs.Common.{◌≡◌, Bool, true, false, cond, not, List, [], Contains, ap, sym}
use Rattle.std.specs.Prelude.{filter, flat_map}
use Rattle.rdf_terms.specs.Graph.{Graph}
use Rattle.rdf_terms.specs.Nodes.{terms, nodes_of_list}
use Rattle.rdf_terms.specs.declared.term.Term.{Term}
use Rattle.rdf_terms.specs.Vocab.Sh as sh
use Rattle.rdf_terms.proofs.Members.{in_none}
use Rattle.rdf_navigation.specs.Values.{among, subjects}
use Rattle.shapes_profile.specs.References.{qualified_shapes, qualified_shapes_under, asks_for_siblings, siblings}

-- the qualified shapes under all parents, without its own
abbrev pub others : Graph → Term → List Term
others s x =
    filter (λ (u : Term). not (among (qualified_shapes s x) u))
    (terms (nodes_of_list (flat_map (qualified_shapes_under s) (subjects s sh.property x))))

pub siblings_some : (s : Graph) (x : Term) → asks_for_siblings s x ≡ true → others s x ≡ siblings s x
unfolding siblings
siblings_some s x h = sym (ap (λ (b : Bool). cond b (others s x) []) h)

pub siblings_none : (s : Graph) (x : Term) → asks_for_siblings s x ≡ false → [] ≡ siblings s x
unfolding siblings
siblings_none s x h = sym (ap (λ (b : Bool). cond b (others s x) []) h)

pub sibling_is : (s : Graph) (x t : Term) → Contains (siblings s x) t → Contains (others s x) t
unfolding siblings
sibling_is s x t c = at (asks_for_siblings s x) c
  where
    at : (b : Bool) → Contains (cond b (others s x) []) t → Contains (others s x) t
    at true c = c
    at false c = absurd (in_none t c)
