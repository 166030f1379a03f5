-- SHACL lists (SHACL 2017, section 1.1).
use Rattle.std.specs.Prelude.{◌≡◌, ℕ, zero, suc, ◌+◌, Bool, true, false, not, ◌&&◌, IsTrue, IsFalse}
use Rattle.std.specs.Prelude.{List, [], ◌∷◌, length, Option, Some, None, option_map, if◌then◌else◌}
use Rattle.rdf_terms.specs.declared.term.Term.{Term}
use Rattle.rdf_terms.specs.declared.term.Term.TheVariants.{Iri, Blank, Literal}
use Rattle.rdf_terms.specs.Statement.{is_node}
use Rattle.rdf_terms.specs.Graph.{Graph, triples}
use Rattle.rdf_terms.specs.Vocab.Rdf as rdf
use Rattle.rdf_navigation.specs.Values.{same_term, has_values, only_value}

abbrev pub is_blank : Term → Bool
is_blank (Iri i) = false
is_blank (Blank s l) = true
is_blank (Literal l d t) = false

-- rdf:nil, provided that it has no value for rdf:first or rdf:rest
abbrev pub is_nil : Graph → Term → Bool
is_nil s x = same_term x rdf.nil && not (has_values s x rdf.first) && not (has_values s x rdf.rest)

-- from the node on, a list has these cells, which all pass the test, and these members. Each cell has exactly one
-- first and exactly one rest, so a list that ends repeats no cell
abbrev pub IsListOf : (Term → Bool) → Graph → Term → List Term → List Term → Type 0
IsListOf test s x [] [] = IsTrue (is_nil s x)
IsListOf test s x [] (m ∷ ms) = ⊥
IsListOf test s x (c ∷ cs) [] = ⊥
IsListOf test s x (c ∷ cs) (m ∷ ms) =
    (x ≡ c) × IsFalse (is_nil s x) × IsTrue (test x) × (only_value s x rdf.first ≡ Some m)
    × ((r : Term) × (only_value s x rdf.rest ≡ Some r) × IsListOf test s r cs ms)

-- a SHACL list, whose cells are IRIs and blank nodes
abbrev pub IsList : Graph → Term → List Term → List Term → Type 0
IsList s x cs ms = IsListOf is_node s x cs ms

-- a SHACL list whose cells are all blank nodes
abbrev pub IsBlankList : Graph → Term → List Term → List Term → Type 0
IsBlankList s x cs ms = IsListOf is_blank s x cs ms

-- the first member, and then those of the rest, where a cell has one first and one rest
abbrev pub members_by : (Term → Option (List Term)) → Option Term → Option Term → Option (List Term)
members_by of_rest (Some m) (Some r) = option_map (λ ms. m ∷ ms) (of_rest r)
members_by of_rest (Some m) None = None
members_by of_rest None r = None

-- the members of a list of less than k cells, which all pass the test
abbrev pub members_in : (Term → Bool) → ℕ → Graph → Term → Option (List Term)
members_in test zero s x = None
members_in test (suc k) s x =
    if is_nil s x then Some []
    else if test x then members_by (λ r. members_in test k s r) (only_value s x rdf.first) (only_value s x rdf.rest)
    else None

-- the members of the list, where the node is one: no list has more cells than the graph has triples
unfoldable pub members_of : (Term → Bool) → Graph → Term → Option (List Term)
members_of test s x = members_in test (length (triples s) + 1) s x

-- the members of the SHACL list, where the node is one
abbrev pub members : Graph → Term → Option (List Term)
members s x = members_of is_node s x

-- the same for a list whose cells are all blank nodes
abbrev pub blank_members : Graph → Term → Option (List Term)
blank_members s x = members_of is_blank s x
