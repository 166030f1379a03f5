-- There are rows exactly where the data graph doesn't conform.
use Rattle.std.proofs.Common.{◌≡◌, ◌≢◌, ◌↔◌, ℕ, List, [], ◌∷◌, map, Contains, refl, subst}
use Rattle.rdf_terms.specs.declared.term.Term.{Term}
use Rattle.rdf_terms.specs.Graph.{Graph}
use Rattle.rdf_terms.proofs.Members.{in_none, in_first}
use Rattle.shapes_profile.specs.Profile.{IsInProfile}
use Rattle.shapes_graph.specs.Conformance.{Conforms}
use Rattle.shapes_graph.specs.Results.{IsResult, HasNoResult}
use Rattle.shapes_graph.specs.Targets.{IsFocus}
use Rattle.core_constraints.specs.declared.result_rows.ResultRow.{ResultRow}
use Rattle.core_constraints.specs.Rows.{result_of, AreRowsOf}
use Rattle.core_constraints.proofs.NoRows.{conforming_none, none_conforming}

module _ (s g : Graph) where
  empty : (rows : List ResultRow) → AreRowsOf (IsResult s g) rows → HasNoResult s g → rows ≡ []
  empty [] are none = refl
  empty (q ∷ qs) are none = absurd (none (result_of q, (are (result_of q)).0 (in_first (result_of q) (map result_of qs))))

  no_result : (rows : List ResultRow) → AreRowsOf (IsResult s g) rows → rows ≡ [] → HasNoResult s g
  no_result rows are e h = in_none h.0 (subst (λ rs. Contains (map result_of rs) h.0) e ((are h.0).1 h.1))

  pub some_rows : IsInProfile s → (nodes : List Term) → ((n : ℕ) (x : Term) → IsFocus s n g x → Contains nodes x) → (rows : List ResultRow) → AreRowsOf (IsResult s g) rows → (rows ≢ []) ↔ ¬ (Conforms s g)
  some_rows profile nodes all rows are = (λ some c. some (empty rows are (conforming_none s g profile c)), λ fails e. none_conforming s g profile nodes all (no_result rows are e) fails)
