-- The triples with a subject that pass a test, by their places, which stand side by side. As PlaceLaws of shapes_graph, for
-- any test and any first number.
use Rattle.std.proofs.Common.{◌≡◌, ℕ, zero, suc, ◌+◌, ◌<◌, ◌≤◌, Bool, true, ◌&&◌, cond, List, [], ◌∷◌, ◌++◌, length, get_or, take, Option, Some, None, slice_get, refl, sym, ap, ◌∙◌, arith, append_assoc}
use Rattle.std.specs.Prelude.{option_map, filter_map}
use Rattle.std.specs.List.{enumerate_from, cons_option}
use Rattle.std.proofs.lemmas.Option.{slice_get-get_or}
use Rattle.std.proofs.lemmas.List.FromFn.{get_or-enumerate_from, length-enumerate_from}
use Rattle.rdf_terms.specs.declared.term.Term.{Term}
use Rattle.rdf_terms.specs.Statement.{Statement}
use Rattle.rdf_terms.specs.Graph.{ArePlacesOf}
use Rattle.rdf_terms.proofs.Orders.{term_tied, same_term as same_is}
use Rattle.rdf_navigation.specs.Values.{same_term}
use Rattle.rdf_navigation.proofs.PropertyLaws.{filter_map_next}
use Rattle.shapes_graph.proofs.KeptLaws.{fails, none_before, none_after}
use Rattle.repair_problem.specs.declared.atom.Part.{Part}
use Rattle.atom_parts.specs.CandidateLists.{number_by, number_there, number_if}
use Rattle.atom_parts.specs.PartsTable.{triple_parts}
use Rattle.atom_parts.proofs.PlaceRows.{parts_append}

enumerated : {X : Type 0} (n : ℕ) (xs : List X) (i : ℕ) → slice_get (enumerate_from n xs) i ≡ option_map (λ (x : X). (n + i, x)) (slice_get xs i)
enumerated n [] i = refl
enumerated {X} n (x ∷ xs) zero = let e : n ≡ n + 0 = omega arith in ap (λ (m : ℕ). Some (m, x)) e
enumerated {X} n (x ∷ xs) (suc i) =
    let e : (n + 1) + i ≡ n + suc i = omega arith in
    enumerated (n + 1) xs i ∙ ap (λ (m : ℕ). option_map (λ (y : X). (m, y)) (slice_get xs i)) e

paired : {X : Type 0} (n i : ℕ) (p : ℕ × X) (o : Option X) → option_map (λ (x : X). (n + i, x)) o ≡ Some p → o ≡ Some p.1
paired n i p None e = cc
paired {X} n i p (Some x) e =
    let f : ◌≡◌ {A = ℕ × X} (n + i, x) p = cc in ap (λ (q : ℕ × X). Some q.1) f

module _ (ts : List Statement) (x : Term) (first after : ℕ) (are : ArePlacesOf ts x first after) (before : ℕ) (more : Statement → Bool) where
  abbrev row : ℕ × Statement → Option ℕ
  row p = number_if (λ t. same_term t.subject x && more t) p

  abbrev numbered : List (ℕ × Statement)
  numbered = enumerate_from before ts

  outside : (i : ℕ) (p : ℕ × Statement) → slice_get numbered i ≡ Some p → ((first ≤ i) × (i < after) → ⊥) → row p ≡ None
  outside i p e out =
      let there = paired before i p (slice_get ts i) (sym (enumerated before ts i) ∙ e) in
      let other = fails (λ (t : Statement). same_term t.subject x) p.1 (λ f. out ((are.exact i p.1 there).0 (same_is p.1.subject x f))) in
      ap (λ (b : Bool). cond (b && more p.1) (Some p.0) None) other

  pub rows_start : [] ≡ filter_map row (take first numbered)
  rows_start = sym (none_before row numbered first (λ i p lt e. outside i p e (λ r. omega (arith, r.0, lt))))

  pub rows_end : (n : ℕ) → after ≤ n → filter_map row (take n numbered) ≡ filter_map row numbered
  rows_end n le = none_after row numbered n (λ i p ge e. outside i p e (λ r. omega (arith, r.1, ge, le)))

  any_triple : Statement
  any_triple = record { subject = x; predicate = x; object = x }

  pub rows_next : (i : ℕ) → first ≤ i → i < after → filter_map row (take (i + 1) numbered) ≡ filter_map row (take i numbered) ++ cons_option (number_there ts more before i) []
  rows_next i low high =
      let within : i < length ts = omega (arith, are.within, high) in
      let t = get_or ts i any_triple in
      let there = slice_get-get_or ts i any_triple within in
      let own = (are.exact i t there).1 (low, high) in
      let tied : same_term t.subject x ≡ true = ap (λ (y : Term). same_term y x) own ∙ term_tied x in
      let pair = get_or-enumerate_from before ts i (0, any_triple) within in
      filter_map_next row numbered i (0, any_triple) (omega (arith, within, length-enumerate_from before ts))
      ∙ ap (λ (p : ℕ × Statement). filter_map row (take i numbered) ++ cons_option (row p) []) pair
      ∙ ap (λ (b : Bool). filter_map row (take i numbered) ++ cons_option (cond (b && more t) (Some (before + i)) None) []) tied
      ∙ ap (λ (o : Option Statement). filter_map row (take i numbered) ++ cons_option (number_by more (before + i) o) []) (sym there)

  -- one place more
  pub open_next : (i : ℕ) (positive : Bool) (old list : List Part) → first ≤ i → i < after → list ≡ old ++ triple_parts (filter_map row (take i numbered)) positive
      → list ++ triple_parts (cons_option (number_there ts more before i) []) positive ≡ old ++ triple_parts (filter_map row (take (i + 1) numbered)) positive
  open_next i positive old list low high e =
      let added = cons_option (number_there ts more before i) [] in
      ap (λ us. us ++ triple_parts added positive) e
      ∙ (append_assoc old (triple_parts (filter_map row (take i numbered)) positive) (triple_parts added positive)
      ∙ ap (λ us. old ++ us) (sym (ap (λ us. triple_parts us positive) (rows_next i low high) ∙ parts_append (filter_map row (take i numbered)) added positive)))
