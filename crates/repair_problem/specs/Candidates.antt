-- Candidates: the triples that a repair may delete or add, and the graphs that are edited by them.
use Rattle.std.specs.Prelude.{ℕ, suc, ◌-◌, ◌++◌, Bool, List, [], ◌∷◌, filter_map, length}
use Rattle.std.specs.Prelude.{Option, Some, None, option_map, slice_get, nat_lt, if◌then◌else◌}
use Rattle.std.specs.Ordering.{eq_by_cmp}
use Rattle.rdf_terms.specs.Statement.{Statement, statement_cmp}
use Rattle.rdf_terms.specs.Graph.{Graph, triples, of_list, edited}
use Rattle.repair_problem.specs.Setting.{Setting}

-- the triples of the data in order, and then the offers in order; the number of a candidate is its place
abbrev pub candidates : Setting → List Statement
candidates s = triples s.present ++ triples s.offers

-- whether the candidate is a triple of the data, which may be deleted; any other is an offer, which may be added
abbrev pub in_data : Setting → ℕ → Bool
in_data s t = nat_lt t (length (triples s.present))

-- the first place of a triple in a list
abbrev pub place_among : List Statement → Statement → Option ℕ
place_among [] t = None
place_among (u ∷ us) t = if eq_by_cmp statement_cmp t u then Some 0 else option_map (λ i. suc i) (place_among us t)

-- the number of a triple as a candidate
abbrev pub candidate_number : Setting → Statement → Option ℕ
candidate_number s t = place_among (candidates s) t

-- the candidate of this number, if it is a triple of the data
abbrev pub deletion_at : Setting → ℕ → Option Statement
deletion_at s t = slice_get (triples s.present) t

-- the candidate of this number, if it is an offer
abbrev pub addition_at : Setting → ℕ → Option Statement
addition_at s t = if in_data s t then None else slice_get (triples s.offers) (t - length (triples s.present))

-- A list of candidates is a change: it stands for the pair of the offers and the triples of the data among them, since
-- a candidate is either added or deleted.
abbrev pub additions : Setting → List ℕ → Graph
additions s change = of_list (filter_map (addition_at s) change)

abbrev pub deletions : Setting → List ℕ → Graph
deletions s change = of_list (filter_map (deletion_at s) change)

-- the data without the deletions, and then with the additions
abbrev pub edited_by : Setting → List ℕ → Graph
edited_by s change = edited s.present (additions s change) (deletions s change)
