-- The places of the triples with one subject.
use Rattle.std.proofs.Common.{◌≡◌, ℕ, ◌<◌, ◌≤◌, true, false, List, length, slice_get, slice_index_or, Some, sym, ap, ◌∙◌, arith, ◌⊎◌, inl, inr}
use Rattle.std.specs.declared.cmp.Ordering.TheVariants.{Equal}
use Rattle.std.specs.Ordering.{is_lt, is_le, ordering_index}
use Rattle.std.specs.Cmp.{tied_itself}
use Rattle.std.specs.List.Sorted.{IsNonDecreasingBy}
use Rattle.std.proofs.lemmas.List.Sorted.{searchable_from_sorted}
use Rattle.std.proofs.lemmas.Option.{slice_get_within, get_or_from_slice_get}
use Rattle.rdf_terms.specs.Term.{term_cmp}
use Rattle.rdf_terms.specs.declared.term.Term.{Term}
use Rattle.rdf_terms.specs.Statement.{Statement}
use Rattle.rdf_terms.specs.Graph.{is_rising, ArePlacesOf}
use Rattle.rdf_terms.specs.TermOrder.{term_cmp_total, statement_cmp_total}
use Rattle.rdf_terms.proofs.Orders.{lt_or_le, first_not_below, equal_between, same_term}
use Rattle.rdf_terms.proofs.Parts.{AreBelow, AreUpTo, ends_ordered}
use Rattle.rdf_terms.proofs.Sets.{rising_sorted}

-- triples in order have their subjects in order
pub subjects_rise : (ts : List Statement) (q : Term) → is_rising ts ≡ true → IsNonDecreasingBy (λ t. ordering_index (term_cmp t.subject q)) ts
subjects_rise ts q h =
    searchable_from_sorted term_cmp_total (λ (t : Statement). t.subject) ts q (λ k d low high. first_not_below _ _ (rising_sorted statement_cmp_total ts h k d low high))

module _ (ts : List Statement) (q : Term) (first after : ℕ) (low : AreBelow (λ (t : Statement). term_cmp t.subject q) ts first) (high : AreUpTo (λ (t : Statement). term_cmp t.subject q) ts after)
    (first_within : first ≤ length ts) (after_within : after ≤ length ts) where
  pub places : ArePlacesOf ts q first after
  places = record {
    ordered = ends_ordered (λ (t : Statement). term_cmp t.subject q) ts first after first_within low high;
    within = after_within;
    exact = λ i t e. (λ s. there i t e s, λ r. back i t e r.0 r.1);
  }
    where
      subject_at : (i : ℕ) (t : Statement) → slice_get ts i ≡ Some t → slice_index_or ts i t ≡ t
      subject_at i t e = get_or_from_slice_get ts i t t e

      there : (i : ℕ) (t : Statement) → slice_get ts i ≡ Some t → t.subject ≡ q → (first ≤ i) × (i < after)
      there i t e s = (not_lower (lt_or_le i first), not_higher (lt_or_le i after))
        where
          ties : term_cmp (slice_index_or ts i t).subject q ≡ Equal
          ties = ap (λ u. term_cmp u.subject q) (subject_at i t e) ∙ ap (λ u. term_cmp u q) s ∙ tied_itself term_cmp_total q

          not_lower : (i < first) ⊎ (first ≤ i) → first ≤ i
          not_lower (inl h) = let f : is_lt Equal ≡ true = ap is_lt (sym ties) ∙ low.0 i t (omega arith) h in cc
          not_lower (inr h) = h

          not_higher : (i < after) ⊎ (after ≤ i) → i < after
          not_higher (inl h) = h
          not_higher (inr h) = let f : is_le Equal ≡ false = ap is_le (sym ties) ∙ high.1 i t h (slice_get_within ts i t e) in cc

      back : (i : ℕ) (t : Statement) → slice_get ts i ≡ Some t → first ≤ i → i < after → t.subject ≡ q
      back i t e l h = ap (λ u. u.subject) (sym (subject_at i t e)) ∙ same_term _ q (equal_between _ (low.1 i t l (slice_get_within ts i t e)) (high.0 i t (omega arith) h))
