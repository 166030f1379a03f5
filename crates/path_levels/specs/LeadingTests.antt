-- Where a path leads, as a test: over a list of terms that has all ends of the triples, since no walk without repeats
-- has more steps than the list has items.
use Rattle.std.specs.Prelude.{ℕ, zero, suc, ◌&&◌, ◌||◌, Bool, false, List, length, Option, Some, slice_get}
use Rattle.std.specs.List.{list_any}
use Rattle.rdf_terms.specs.declared.term.Term.{Term}
use Rattle.rdf_terms.specs.declared.term.Term.TheVariants.{Iri}
use Rattle.rdf_terms.specs.Graph.{Graph, has}
use Rattle.rdf_navigation.specs.Values.{same_term}
use Rattle.shapes_graph.specs.declared.paths.PathForm.{PathForm}
use Rattle.shapes_graph.specs.declared.paths.PathForm.TheVariants.{Predicate, Inverse, Sequence, Alternative}
use Rattle.shapes_graph.specs.declared.paths.PathForm.TheVariants.{ZeroOrMore, OneOrMore, ZeroOrOne}

module _ (us : List Term) where
  -- whether at most k steps lead from x to y
  abbrev pub walks : (Term → Term → Bool) → ℕ → Term → Term → Bool
  walks T zero x y = same_term x y
  walks T (suc k) x y = same_term x y || list_any (λ z. T x z && walks T k z y) us

  -- what a form makes of the tests of the paths that it names
  abbrev pub leads_by : (ℕ → Term → Term → Bool) → Option PathForm → Graph → Term → Term → Bool
  leads_by T (Some (Predicate i)) g x y = has g (record { subject = x; predicate = Iri i; object = y })
  leads_by T (Some (Inverse q)) g x y = T q y x
  leads_by T (Some (Sequence a b)) g x y = list_any (λ z. T a x z && T b z y) us
  leads_by T (Some (Alternative qs)) g x y = list_any (λ q. T q x y) qs
  leads_by T (Some (ZeroOrMore q)) g x y = walks (T q) (length us) x y
  leads_by T (Some (OneOrMore q)) g x y = list_any (λ z. T q x z && walks (T q) (length us) z y) us
  leads_by T (Some (ZeroOrOne q)) g x y = same_term x y || T q x y
  leads_by T _ g x y = false

  -- of a path that is nested less than d deep
  unfoldable pub leads_in : ℕ → List PathForm → Graph → ℕ → Term → Term → Bool
  leads_in zero ps g p x y = false
  leads_in (suc d) ps g p x y = leads_by (λ q a b. leads_in d ps g q a b) (slice_get ps p) g x y
