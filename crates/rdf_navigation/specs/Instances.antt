-- SHACL subclasses and instances (SHACL 2017, section 1.1).
use Rattle.std.specs.Prelude.{ℕ, zero, suc, ◌||◌, Bool, List, length}
use Rattle.std.specs.List.{list_any}
use Rattle.rdf_terms.specs.declared.term.Term.{Term}
use Rattle.rdf_terms.specs.Graph.{Graph, triples}
use Rattle.rdf_terms.specs.Members.{InGraph}
use Rattle.rdf_terms.specs.Vocab.Rdf as rdf
use Rattle.rdf_terms.specs.Vocab.Rdfs as rdfs
use Rattle.digraph.specs.Walk.{IsWalk}
use Rattle.rdf_navigation.specs.Values.{same_term, values}

-- the classes are the same, or a list of rdfs:subClassOf triples leads from the one to the other
abbrev pub IsSubclass : Graph → Term → Term → Type 0
IsSubclass g b c = (w : List Term) × IsWalk (λ x y. InGraph g x rdfs.sub_class_of y) w b c

-- x has a type that is the class or a subclass of it
abbrev pub IsInstance : Graph → Term → Term → Type 0
IsInstance g x c = (b : Term) × InGraph g x rdf.type_ b × IsSubclass g b c

-- the same as tests: in at most k steps, and no walk without repeats has more steps than the graph has triples
abbrev pub leads_to : ℕ → Graph → Term → Term → Bool
leads_to zero g b c = same_term b c
leads_to (suc k) g b c = same_term b c || list_any (λ d. leads_to k g d c) (values g b rdfs.sub_class_of)

unfoldable pub is_instance : Graph → Term → Term → Bool
is_instance g x c = list_any (λ b. leads_to (length (triples g)) g b c) (values g x rdf.type_)
