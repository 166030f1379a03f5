-- Candidates by their terms, and nodes by candidates, ascending. Those with a subject and a predicate are by is_of of
-- rdf_terms.
use Rattle.std.specs.Prelude.{ℕ, ◌+◌, ◌&&◌, Bool, false, not, List, filter, filter_map, Option, Some, None, is_some}
use Rattle.std.specs.Prelude.{slice_get, if◌then◌else◌}
use Rattle.std.specs.List.{enumerate_from, range_with_len}
use Rattle.rdf_terms.specs.declared.term.Term.{Term}
use Rattle.rdf_terms.specs.declared.term.Term.TheVariants.{Iri}
use Rattle.rdf_terms.specs.Statement.{Statement}
use Rattle.rdf_navigation.specs.Values.{same_term, among}
use Rattle.repair_problem.specs.Setting.{Setting, node}
use Rattle.repair_problem.specs.Candidates.{candidates, candidate_number}
use Rattle.path_levels.specs.PossibleNodes.{node_count}

-- the number of a triple, if it passes the test
abbrev pub number_if : (Statement → Bool) → ℕ × Statement → Option ℕ
number_if test (t, triple) = if test triple then Some t else None

-- whether there is a triple that passes the test
abbrev pub passes : (Statement → Bool) → Option Statement → Bool
passes test None = false
passes test (Some t) = test t

-- the number of the place, where the triple there passes
abbrev pub number_by : (Statement → Bool) → ℕ → Option Statement → Option ℕ
number_by more k o = if passes more o then Some k else None

abbrev pub number_there : List Statement → (Statement → Bool) → ℕ → ℕ → Option ℕ
number_there all more before i = number_by more (before + i) (slice_get all i)

-- the places of the triples that pass the test, where the first has the place n
abbrev pub places_from : ℕ → (Statement → Bool) → List Statement → List ℕ
places_from n test ts = filter_map (number_if test) (enumerate_from n ts)

-- the numbers of the candidates that pass the test
abbrev pub candidates_if : Setting → (Statement → Bool) → List ℕ
candidates_if s test = places_from 0 test (candidates s)

-- with this object and this predicate
abbrev pub is_to : Term → Term → Statement → Bool
is_to x q t = same_term t.object x && same_term t.predicate q

-- with this subject and a predicate that isn't allowed
abbrev pub is_open : List Term → Term → Statement → Bool
is_open allowed x t = same_term t.subject x && not (among allowed t.predicate)

-- whether the triple from node x to node y with this predicate is a candidate
abbrev pub is_linked : Setting → List ℕ → ℕ → ℕ → Bool
is_linked s q x y = is_some (candidate_number s (record { subject = node s x; predicate = Iri q; object = node s y }))

-- the nodes to which candidates with this predicate lead from node x
abbrev pub linked_nodes : Setting → List ℕ → ℕ → List ℕ
linked_nodes s q x = filter (is_linked s q x) (range_with_len 0 (node_count s))
