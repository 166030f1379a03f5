-- The places of the constraint triples of a shape, and what each number has of a table over the shapes.
use Rattle.std.proofs.Common.{◌≡◌, ℕ, zero, suc, ◌+◌, ◌<◌, ◌≤◌, Bool, true, false, ◌&&◌, cond, List, [], ◌∷◌, ◌++◌, map, length, get_or, take, Option, Some, None, slice_get, refl, sym, ap, ◌∙◌, arith}
use Rattle.std.specs.Prelude.{option_map, option_and_then, unwrap_or, is_some}
use Rattle.std.specs.List.{enumerate_from, filter_map, cons_option}
use Rattle.std.proofs.lemmas.Option.{slice_get-map, slice_get-get_or, get_or_from_slice_get}
use Rattle.std.proofs.lemmas.List.FromFn.{get_or-enumerate_from, length-enumerate_from}
use Rattle.rdf_terms.specs.declared.term.Term.{Term}
use Rattle.rdf_terms.specs.Statement.{Statement}
use Rattle.rdf_terms.specs.Graph.{Graph, triples, ArePlacesOf}
use Rattle.rdf_terms.specs.Vocab.Sh as sh
use Rattle.rdf_terms.proofs.Orders.{term_tied, same_term as same_is}
use Rattle.rdf_navigation.specs.Values.{same_term, value_of}
use Rattle.rdf_navigation.proofs.PropertyLaws.{filter_map_next}
use Rattle.shapes_graph.specs.declared.constraints.Constraint.{Constraint}
use Rattle.shapes_profile.specs.Shapes.{shape_terms, shape_at, has_true_value}
use Rattle.shapes_graph.specs.Constraints.{constraint_of, constraint_at, place_of, constraints_of, has_true_value_at, is_deactivated, severity_of}
use Rattle.shapes_graph.proofs.KeptLaws.{fails, none_before, none_after}

enumerated : {X : Type 0} (n : ℕ) (xs : List X) (i : ℕ) → slice_get (enumerate_from n xs) i ≡ option_map (λ (x : X). (n + i, x)) (slice_get xs i)
enumerated n [] i = refl
enumerated {X} n (x ∷ xs) zero = let e : n ≡ n + 0 = omega arith in ap (λ (m : ℕ). Some (m, x)) e
enumerated {X} n (x ∷ xs) (suc i) =
    let e : (n + 1) + i ≡ n + suc i = omega arith in
    enumerated (n + 1) xs i ∙ ap (λ (m : ℕ). option_map (λ (y : X). (m, y)) (slice_get xs i)) e

paired : {X : Type 0} (i : ℕ) (p : ℕ × X) (o : Option X) → option_map (λ (x : X). (0 + i, x)) o ≡ Some p → o ≡ Some p.1
paired i p None e = cc
paired {X} i p (Some x) e =
    let f : ◌≡◌ {A = ℕ × X} (0 + i, x) p = cc in ap (λ (q : ℕ × X). Some q.1) f

module _ (s : Graph) (x : Term) (first after : ℕ) (are : ArePlacesOf (triples s) x first after) where
  outside : (i : ℕ) (p : ℕ × Statement) → slice_get (enumerate_from 0 (triples s)) i ≡ Some p → ((first ≤ i) × (i < after) → ⊥) → place_of s x p ≡ None
  outside i p e out =
      let there = paired i p (slice_get (triples s) i) (sym (enumerated 0 (triples s) i) ∙ e) in
      let other = fails (λ (t : Statement). same_term t.subject x) p.1 (λ f. out ((are.exact i p.1 there).0 (same_is p.1.subject x f))) in
      ap (λ (b : Bool). cond (b && is_some (constraint_of s p.1)) (Some p.0) None) other

  pub places_start : [] ≡ filter_map (place_of s x) (take first (enumerate_from 0 (triples s)))
  places_start = sym (none_before (place_of s x) (enumerate_from 0 (triples s)) first (λ i p lt e. outside i p e (λ r. omega (arith, r.0, lt))))

  pub places_end : (n : ℕ) → after ≤ n → filter_map (place_of s x) (take n (enumerate_from 0 (triples s))) ≡ filter_map (place_of s x) (enumerate_from 0 (triples s))
  places_end n le = none_after (place_of s x) (enumerate_from 0 (triples s)) n (λ i p ge e. outside i p e (λ r. omega (arith, r.1, ge, le)))

  any_triple : Statement
  any_triple = record { subject = x; predicate = x; object = x }

  pub places_next : (cs : List (Option Constraint)) (i : ℕ) → cs ≡ map (constraint_of s) (triples s) → first ≤ i → i < after
      → filter_map (place_of s x) (take (i + 1) (enumerate_from 0 (triples s)))
      ≡ filter_map (place_of s x) (take i (enumerate_from 0 (triples s))) ++ cond (is_some (get_or cs i None)) (i ∷ []) []
  places_next cs i is low high =
      let within : i < length (triples s) = omega (arith, are.within, high) in
      let t = get_or (triples s) i any_triple in
      let there = slice_get-get_or (triples s) i any_triple within in
      let own = (are.exact i t there).1 (low, high) in
      let tied : same_term t.subject x ≡ true = ap (λ (y : Term). same_term y x) own ∙ term_tied x in
      let states = slice_get-map (constraint_of s) (triples s) i ∙ ap (option_map (constraint_of s)) there in
      let read : get_or cs i None ≡ constraint_of s t = ap (λ (ds : List (Option Constraint)). get_or ds i None) is ∙ get_or_from_slice_get (map (constraint_of s) (triples s)) i (constraint_of s t) None states in
      let pair = get_or-enumerate_from 0 (triples s) i (0, any_triple) within in
      let zero_more : 0 + i ≡ i = omega arith in
      filter_map_next (place_of s x) (enumerate_from 0 (triples s)) i (0, any_triple) (omega (arith, within, length-enumerate_from 0 (triples s)))
      ∙ ap (λ (p : ℕ × Statement). filter_map (place_of s x) (take i (enumerate_from 0 (triples s))) ++ cons_option (place_of s x p) []) pair
      ∙ ap (λ (m : ℕ). filter_map (place_of s x) (take i (enumerate_from 0 (triples s))) ++ cons_option (place_of s x (m, t)) []) zero_more
      ∙ ap (λ (b : Bool). filter_map (place_of s x) (take i (enumerate_from 0 (triples s))) ++ cons_option (cond (b && is_some (constraint_of s t)) (Some i) None) []) tied
      ∙ ap (λ (zs : List ℕ). filter_map (place_of s x) (take i (enumerate_from 0 (triples s))) ++ zs) (one (is_some (constraint_of s t)))
      ∙ ap (λ (o : Option Constraint). filter_map (place_of s x) (take i (enumerate_from 0 (triples s))) ++ cond (is_some o) (i ∷ []) []) (sym read)
    where
      one : (b : Bool) → cons_option (cond (true && b) (Some i) None) [] ≡ cond b (i ∷ []) []
      one true = refl
      one false = refl

abbrev pub places_in : Graph → Term → List ℕ
places_in s x = filter_map (place_of s x) (enumerate_from 0 (triples s))

pub places_at : (s : Graph) (ps : List (List ℕ)) → ps ≡ map (places_in s) (shape_terms s) → (n : ℕ) → constraints_of s n ≡ slice_get ps n
unfolding constraints_of
places_at s ps e n = sym (ap (λ (qs : List (List ℕ)). slice_get qs n) e ∙ slice_get-map (places_in s) (shape_terms s) n)

pub constraints_at : (s : Graph) (cs : List (Option Constraint)) → cs ≡ map (constraint_of s) (triples s) → (i : ℕ) → constraint_at s i ≡ option_and_then (λ (c : Option Constraint). c) (slice_get cs i)
unfolding constraint_at
constraints_at s cs e i =
    flat (slice_get (triples s) i)
    ∙ sym (ap (λ (ds : List (Option Constraint)). option_and_then (λ (c : Option Constraint). c) (slice_get ds i)) e ∙ ap (option_and_then (λ (c : Option Constraint). c)) (slice_get-map (constraint_of s) (triples s) i))
  where
    flat : (o : Option Statement) → option_and_then (constraint_of s) o ≡ option_and_then (λ (c : Option Constraint). c) (option_map (constraint_of s) o)
    flat None = refl
    flat (Some t) = refl

pub deactivated_at : (s : Graph) (bs : List Bool) → bs ≡ map (λ (x : Term). has_true_value s x sh.deactivated) (shape_terms s) → (n : ℕ) → is_deactivated s n ≡ unwrap_or (slice_get bs n) false
unfolding is_deactivated
deactivated_at s bs e n =
    at (shape_at s n)
    ∙ sym (ap (λ (cs : List Bool). unwrap_or (slice_get cs n) false) e ∙ ap (λ (o : Option Bool). unwrap_or o false) (slice_get-map (λ (x : Term). has_true_value s x sh.deactivated) (shape_terms s) n))
  where
    at : (o : Option Term) → has_true_value_at s sh.deactivated o ≡ unwrap_or (option_map (λ (x : Term). has_true_value s x sh.deactivated) o) false
    at None = refl
    at (Some x) = refl

abbrev pub severity_in : Graph → Term → Term
severity_in s x = unwrap_or (value_of s x sh.severity) sh.violation

pub severity_at : (s : Graph) (ts : List Term) → ts ≡ map (severity_in s) (shape_terms s) → (n : ℕ) → severity_of s n ≡ unwrap_or (slice_get ts n) sh.violation
unfolding severity_of
severity_at s ts e n =
    at (shape_at s n)
    ∙ sym (ap (λ (us : List Term). unwrap_or (slice_get us n) sh.violation) e ∙ ap (λ (o : Option Term). unwrap_or o sh.violation) (slice_get-map (severity_in s) (shape_terms s) n))
  where
    at : (o : Option Term) → unwrap_or (option_and_then (λ (x : Term). value_of s x sh.severity) o) sh.violation ≡ unwrap_or (option_map (severity_in s) o) sh.violation
    at None = refl
    at (Some x) = refl
