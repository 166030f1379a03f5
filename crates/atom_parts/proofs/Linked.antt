-- The nodes to which candidates lead, by the lists of the data and of the offers.
use Rattle.std.proofs.Common.{◌≡◌, ◌↔◌, ◌⊎◌, inl, inr, ℕ, ◌<◌, Bool, true, false, ◌||◌, IsTrue, List, [], ◌++◌, Contains, Option, Some, None, is_some, refl, sym, ap, ◌∙◌, subst, eqb}
use Rattle.std.specs.Prelude.{filter_map}
use Rattle.std.specs.Ordering.{nat_cmp}
use Rattle.std.specs.List.{range_with_len}
use Rattle.std.specs.List.Retain.{IsFiltered, DiffersFromLast}
use Rattle.std.specs.List.Sorted.{IsPermutation, IsSorted}
use Rattle.std.proofs.lemmas.Bool.{false≢true}
use Rattle.std.proofs.lemmas.List.Elements.{Contains-append_cases, Contains-append_left, Contains-append_right}
use Rattle.std.proofs.lemmas.List.Kept.{IsStrictlyIncreasing-filter}
use Rattle.rdf_terms.specs.declared.term.Term.{Term}
use Rattle.rdf_terms.specs.declared.term.Term.TheVariants.{Iri}
use Rattle.rdf_terms.specs.Statement.{Statement}
use Rattle.rdf_terms.specs.Graph.{Graph, triples, has}
use Rattle.rdf_terms.proofs.GraphLaws.{has_listed}
use Rattle.rdf_terms.proofs.Members.{in_filter, filter_in}
use Rattle.path_eval.proofs.FoundNodes.{sorted_rises, sorted_has}
use Rattle.core_constraints.proofs.Decided.{in_at}
use Rattle.repair_problem.specs.Setting.{Setting, node}
use Rattle.repair_problem.specs.Candidates.{candidates, candidate_number}
use Rattle.repair_problem.proofs.CandidateLaws.{place_found, place_none, full_listed}
use Rattle.repair_problem.proofs.ChangeLaws.{in_filter_map, filter_map_in}
use Rattle.repair_problem.proofs.Pairs.{has-whole}
use Rattle.path_levels.specs.PossibleNodes.{node_count}
use Rattle.path_levels.proofs.NodeLaws.{one_number}
use Rattle.path_levels.proofs.Possibility.{below_in, below_out, below_rises}
use Rattle.path_levels.proofs.SameNumbers.{same_numbers}
use Rattle.atom_parts.specs.CandidateLists.{is_linked, linked_nodes}
use Rattle.atom_parts.specs.ValueParts.{node_number}
use Rattle.atom_parts.proofs.Reached.{number_is, number_none}

-- the triples of the graph with this subject and this predicate
abbrev pub AreOf : Graph → Term → Term → List Statement → Type 0
AreOf g x q ts = (t : Statement) → Contains ts t ↔ (IsTrue (has g t) × (t.subject ≡ x) × (t.predicate ≡ q))

or_left : (a b : Bool) → a ≡ true → (a || b) ≡ true
or_left a b e = ap (λ c. c || b) e

or_right : (a b : Bool) → b ≡ true → (a || b) ≡ true
or_right true b e = refl
or_right false b e = e

or_cases : (a b : Bool) → (a || b) ≡ true → (a ≡ true) ⊎ (b ≡ true)
or_cases true b e = inl refl
or_cases false b e = inr e

module _ (s : Setting) (q : List ℕ) (x : ℕ) where
  abbrev triple_to : ℕ → Statement
  triple_to y = record { subject = node s x; predicate = Iri q; object = node s y }

  same_row : (t : Statement) (y : ℕ) → t.subject ≡ node s x → t.predicate ≡ Iri q → t.object ≡ node s y → t ≡ triple_to y
  same_row t y a p b = λ i. record { subject = a i; predicate = p i; object = b i }

  own_number : (y : ℕ) → y < node_count s → node_number s (node s y) ≡ Some y
  own_number y l = at (node_number s (node s y)) refl
    where
      at : (m : Option ℕ) → node_number s (node s y) ≡ m → m ≡ Some y
      at None e = absurd (number_none s (node s y) e (y, l, refl))
      at (Some j) e = let r = number_is s (node s y) j e in ap Some (one_number s j y r.0 l r.1)

  in_full : (t : Statement) → is_some (candidate_number s t) ≡ true → (has s.present t || has s.offers t) ≡ true
  in_full t e = at (candidate_number s t) refl e
    where
      listed : Contains (triples s.present) t ⊎ Contains (triples s.offers) t → (has s.present t || has s.offers t) ≡ true
      listed (inl c) = or_left (has s.present t) (has s.offers t) (has_listed s.present t c)
      listed (inr c) = or_right (has s.present t) (has s.offers t) (has_listed s.offers t c)

      at : (m : Option ℕ) → candidate_number s t ≡ m → is_some m ≡ true → (has s.present t || has s.offers t) ≡ true
      at None f g = absurd (false≢true g)
      at (Some i) f g = listed (Contains-append_cases (triples s.present) (triples s.offers) t (in_at (candidates s) i t (place_found (candidates s) t i f)))

  from_full : (t : Statement) → (has s.present t || has s.offers t) ≡ true → is_some (candidate_number s t) ≡ true
  from_full t e = at (candidate_number s t) refl
    where
      at : (m : Option ℕ) → candidate_number s t ≡ m → is_some m ≡ true
      at None f = absurd (false≢true (sym (place_none (candidates s) t f) ∙ full_listed s t (has-whole s.present s.offers t ∙ e)))
      at (Some i) f = refl

  abbrev number_of : Statement → Option ℕ
  number_of t = node_number s t.object

  list_to : (g : Graph) (ts : List Statement) → AreOf g (node s x) (Iri q) ts → (y : ℕ) → Contains (filter_map number_of ts) y → (y < node_count s) × (has g (triple_to y) ≡ true)
  list_to g ts are y c =
      let r = filter_map_in number_of ts y c in
      let n = number_is s r.0.object y r.2 in
      let a = (are r.0).0 r.1 in
      (n.0, subst (λ u. has g u ≡ true) (same_row r.0 y a.1 a.2 (sym n.1)) a.0)

  list_from : (g : Graph) (ts : List Statement) → AreOf g (node s x) (Iri q) ts → (y : ℕ) → y < node_count s → has g (triple_to y) ≡ true → Contains (filter_map number_of ts) y
  list_from g ts are y l h = in_filter_map number_of ts (triple_to y) y ((are (triple_to y)).1 (h, refl, refl)) (own_number y l)

  module _ (olds news : List Statement) (old : AreOf s.present (node s x) (Iri q) olds) (new : AreOf s.offers (node s x) (Iri q) news) where
    abbrev pub found : List ℕ
    found = filter_map (λ t. node_number s t.object) olds ++ filter_map (λ t. node_number s t.object) news

    found_to : (y : ℕ) → Contains found y → Contains (linked_nodes s q x) y
    found_to y c = at (Contains-append_cases (filter_map number_of olds) (filter_map number_of news) y c)
      where
        both : y < node_count s → (has s.present (triple_to y) || has s.offers (triple_to y)) ≡ true → Contains (linked_nodes s q x) y
        both l h = in_filter (is_linked s q x) (range_with_len 0 (node_count s)) y (below_in (node_count s) y l) (from_full (triple_to y) h)

        at : Contains (filter_map number_of olds) y ⊎ Contains (filter_map number_of news) y → Contains (linked_nodes s q x) y
        at (inl d) = let r = list_to s.present olds old y d in both r.0 (or_left (has s.present (triple_to y)) (has s.offers (triple_to y)) r.1)
        at (inr d) = let r = list_to s.offers news new y d in both r.0 (or_right (has s.present (triple_to y)) (has s.offers (triple_to y)) r.1)

    found_from : (y : ℕ) → Contains (linked_nodes s q x) y → Contains found y
    found_from y c = at (or_cases (has s.present (triple_to y)) (has s.offers (triple_to y)) (in_full (triple_to y) r.1))
      where
        r : Contains (range_with_len 0 (node_count s)) y × (is_linked s q x y ≡ true)
        r = filter_in (is_linked s q x) (range_with_len 0 (node_count s)) y c

        at : (has s.present (triple_to y) ≡ true) ⊎ (has s.offers (triple_to y) ≡ true) → Contains found y
        at (inl h) = Contains-append_left (filter_map number_of olds) (filter_map number_of news) y (list_from s.present olds old y (below_out (node_count s) y r.0) h)
        at (inr h) = Contains-append_right (filter_map number_of olds) (filter_map number_of news) y (list_from s.offers news new y (below_out (node_count s) y r.0) h)

    -- put in order, each once, they are the linked nodes
    pub linked_is : (ys zs : List ℕ) → IsPermutation found ys → IsSorted nat_cmp ys → IsFiltered (DiffersFromLast eqb) [] ys zs → zs ≡ linked_nodes s q x
    linked_is ys zs moved sorted once =
        same_numbers zs (linked_nodes s q x) (sorted_rises found ys zs sorted once) (IsStrictlyIncreasing-filter (is_linked s q x) (range_with_len 0 (node_count s)) (below_rises (node_count s)))
        (λ y. let h = sorted_has found ys zs moved once y in (λ c. found_to y (h.0 c), λ c. h.1 (found_from y c)))
