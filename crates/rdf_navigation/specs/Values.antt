-- Values of properties (SHACL 2017, section 1.1).
use Rattle.std.specs.Prelude.{Bool, true, false, ◌&&◌, List, [], ◌∷◌, map, filter, Option, None, Some, if◌then◌else◌}
use Rattle.std.specs.Ordering.{eq_by_cmp}
use Rattle.std.specs.List.{list_any}
use Rattle.rdf_terms.specs.declared.term.Term.{Term}
use Rattle.rdf_terms.specs.Term.{term_cmp}
use Rattle.rdf_terms.specs.Statement.{Statement}
use Rattle.rdf_terms.specs.Graph.{Graph, triples, triples_of}

-- whether the terms are equal
abbrev pub same_term : Term → Term → Bool
same_term x y = eq_by_cmp term_cmp x y

-- whether the term is in the list
abbrev pub among : List Term → Term → Bool
among xs y = list_any (same_term y) xs

-- the values of the property for the subject, in order, each once
abbrev pub values : Graph → Term → Term → List Term
values g x p = map (λ t. t.object) (triples_of g x p)

-- whether there is an item
abbrev pub is_any : List Term → Bool
is_any [] = false
is_any (y ∷ ys) = true

-- whether the property has a value for the subject
abbrev pub has_values : Graph → Term → Term → Bool
has_values g x p = is_any (values g x p)

abbrev pub first_of : List Term → Option Term
first_of [] = None
first_of (y ∷ ys) = Some y

-- the first value of the property, which is its value where it has at most one
abbrev pub value_of : Graph → Term → Term → Option Term
value_of g x p = first_of (values g x p)

abbrev pub only_of : List Term → Option Term
only_of [] = None
only_of (y ∷ []) = Some y
only_of (y ∷ z ∷ zs) = None

-- the value of the property where it has exactly one
abbrev pub only_value : Graph → Term → Term → Option Term
only_value g x p = only_of (values g x p)

-- the subject of the triple, if there is one and it has the predicate
abbrev pub subject_by : Term → Option Statement → Option Term
subject_by p None = None
subject_by p (Some t) = if same_term t.predicate p then Some t.subject else None

-- the subjects that have this value of the property, in order, each once
abbrev pub subjects : Graph → Term → Term → List Term
subjects g p y = map (λ t. t.subject) (filter (λ t. same_term t.predicate p && same_term t.object y) (triples g))

-- whether some subject has this value of the property
abbrev pub has_subjects : Graph → Term → Term → Bool
has_subjects g p y = is_any (subjects g p y)
