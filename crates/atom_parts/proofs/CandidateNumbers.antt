-- Candidates by a test, first those of the data and then the offers.
use Rattle.std.proofs.Common.{◌≡◌, ℕ, suc, ◌+◌, Bool, true, false, cond, List, [], ◌∷◌, ◌++◌, length, Option, Some, None, slice_get, refl, sym, ap, ◌∙◌, arith, append_assoc}
use Rattle.std.specs.Prelude.{filter_map}
use Rattle.std.specs.List.{filter, cons_option}
use Rattle.rdf_terms.specs.Statement.{Statement}
use Rattle.rdf_terms.specs.Graph.{triples}
use Rattle.rdf_terms.proofs.GraphLaws.{has_at}
use Rattle.repair_problem.specs.Repair.{Apart}
use Rattle.repair_problem.specs.Setting.{Setting}
use Rattle.repair_problem.specs.Candidates.{candidate_number}
use Rattle.repair_problem.specs.declared.atom.Part.{Part}
use Rattle.repair_problem.proofs.CandidateLaws.{place_is, found_first, found_second}
use Rattle.atom_parts.specs.CandidateLists.{places_from, candidates_if}
use Rattle.atom_parts.specs.PartsTable.{triple_parts}
use Rattle.atom_parts.proofs.PlaceRows.{parts_append}

places_split : (n : ℕ) (test : Statement → Bool) (xs ys : List Statement) → places_from n test (xs ++ ys) ≡ places_from n test xs ++ places_from (n + length xs) test ys
places_split n test [] ys = let z : n ≡ n + 0 = omega arith in ap (λ k. places_from k test ys) z
places_split n test (x ∷ xs) ys = at (cond (test x) (Some n) None) (places_split (n + 1) test xs ys ∙ ap (λ k. places_from (n + 1) test xs ++ places_from k test ys) shift)
  where
    shift : n + 1 + length xs ≡ n + suc (length xs)
    shift = omega arith

    at : (o : Option ℕ) → places_from (n + 1) test (xs ++ ys) ≡ places_from (n + 1) test xs ++ places_from (n + suc (length xs)) test ys → cons_option o (places_from (n + 1) test (xs ++ ys)) ≡ cons_option o (places_from (n + 1) test xs) ++ places_from (n + suc (length xs)) test ys
    at None e = e
    at (Some k) e = ap (λ us. k ∷ us) e

module _ (s : Setting) (test : Statement → Bool) where
  -- both lists, one behind the other
  pub candidates_split : (positive : Bool) (old middle new : List Part) → middle ≡ old ++ triple_parts (places_from 0 test (triples s.present)) positive
      → new ≡ middle ++ triple_parts (places_from (length (triples s.present)) test (triples s.offers)) positive
      → new ≡ old ++ triple_parts (candidates_if s test) positive
  candidates_split positive old middle new e f =
      f ∙ (ap (λ us. us ++ triple_parts (places_from (length (triples s.present)) test (triples s.offers)) positive) e
      ∙ (append_assoc old (triple_parts (places_from 0 test (triples s.present)) positive) (triple_parts (places_from (length (triples s.present)) test (triples s.offers)) positive)
      ∙ ap (λ us. old ++ us) (sym (ap (λ us. triple_parts us positive) all ∙ parts_append (places_from 0 test (triples s.present)) (places_from (length (triples s.present)) test (triples s.offers)) positive))))
    where
      all : candidates_if s test ≡ places_from 0 test (triples s.present) ++ places_from (length (triples s.present)) test (triples s.offers)
      all = let z : 0 + length (triples s.present) ≡ length (triples s.present) = omega arith in places_split 0 test (triples s.present) (triples s.offers) ∙ ap (λ k. places_from 0 test (triples s.present) ++ places_from k test (triples s.offers)) z

  -- the numbers of listed candidates are their places
  listed : (ts : List Statement) (n : ℕ) → ((j : ℕ) (t : Statement) → slice_get ts j ≡ Some t → candidate_number s t ≡ Some (n + j)) → filter_map (candidate_number s) (filter test ts) ≡ places_from n test ts
  listed [] n h = refl
  listed (t ∷ ts) n h = at (test t) (h 0 t refl ∙ ap (λ k. Some k) zero_more) (listed ts (n + 1) (λ j u e. h (suc j) u e ∙ ap (λ k. Some k) (shift j)))
    where
      zero_more : n + 0 ≡ n
      zero_more = omega arith

      shift : (j : ℕ) → n + suc j ≡ n + 1 + j
      shift j = omega arith

      at : (b : Bool) → candidate_number s t ≡ Some n → filter_map (candidate_number s) (filter test ts) ≡ places_from (n + 1) test ts → filter_map (candidate_number s) (cond b (t ∷ filter test ts) (filter test ts)) ≡ cons_option (cond b (Some n) None) (places_from (n + 1) test ts)
      at true e r = ap (λ o. cons_option o (filter_map (candidate_number s) (filter test ts))) e ∙ ap (λ us. n ∷ us) r
      at false e r = r

  pub present_numbers : filter_map (candidate_number s) (filter test (triples s.present)) ≡ places_from 0 test (triples s.present)
  present_numbers = listed (triples s.present) 0 (λ j t e. sym (found_first s t j (place_is s.present t (Some j) e tt)) ∙ ap (λ k. Some k) (zero_less j))
    where
      zero_less : (j : ℕ) → j ≡ 0 + j
      zero_less j = omega arith

  pub offer_numbers : Apart s.present s.offers → filter_map (candidate_number s) (filter test (triples s.offers)) ≡ places_from (length (triples s.present)) test (triples s.offers)
  offer_numbers apart =
      listed (triples s.offers) (length (triples s.present))
      (λ j t e. sym (found_second s t (Some j) (Some (length (triples s.present) + j)) (place_is s.present t None tt (apart t (has_at s.offers t j e))) (place_is s.offers t (Some j) e tt) refl))
