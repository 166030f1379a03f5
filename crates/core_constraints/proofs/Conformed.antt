-- Whether a data graph conforms, by what is found of an input's shapes one after the other.
use Rattle.std.proofs.Common.{◌≡◌, ℕ, ◌+◌, ◌<◌, ◌≤◌, ◌↔◌, true, false, length, Contains, None, refl, sym, ◌∙◌, subst, ◌⊎◌, inl, inr, arith}
use Rattle.std.specs.Prelude.{IsTrue, nat_eq}
use Rattle.std.specs.HashMap.{get}
use Rattle.std.proofs.lemmas.Bool.{cases_lt}
use Rattle.rdf_terms.specs.Graph.{Graph}
use Rattle.rdf_terms.specs.Nodes.{terms, has_term}
use Rattle.rdf_terms.specs.declared.term.Term.{Term}
use Rattle.rdf_terms.proofs.NodesLaws.{place_of_term}
use Rattle.rdf_navigation.proofs.PropertyLaws.{not_missing}
use Rattle.shapes_profile.specs.Shapes.{shape_terms}
use Rattle.shapes_profile.specs.Profile.{IsInProfile}
use Rattle.shapes_graph.specs.Targets.{IsFocus}
use Rattle.shapes_graph.specs.Conformance.{Conforms}
use Rattle.shapes_graph.specs.Results.{HasNoResult}
use Rattle.core_constraints.specs.declared.input.Input.{Input}
use Rattle.core_constraints.specs.declared.memo.Memo.{Memo}
use Rattle.core_constraints.specs.declared.memo.Validation.{Validation}
use Rattle.core_constraints.specs.Findings.{shapes_of, data_of, same_validation, IsConforming, IsTruthful, HasFocusNodes}
use Rattle.core_constraints.proofs.Decided.{in_at, no_false}
use Rattle.core_constraints.proofs.NoRows.{conforms_is, conforms_of, conforming_none, none_conforming}

-- where nothing was found yet
pub fresh : (i : Input) (m : Memo) → ((v : Validation) → get same_validation m.verdicts v ≡ None) → ((c : ℕ) → get nat_eq m.classes c ≡ None) → IsTruthful i m
fresh i m vs cs = record { verdict = λ v b e. absurd (not_missing b (sym (vs v) ∙ e)); subclasses = λ c ns e. absurd (not_missing ns (sym (cs c) ∙ e)) }

-- all focus nodes of shape n conform
abbrev pub IsMet : Input → ℕ → Type 0
IsMet i n = (x : Term) → IsFocus (shapes_of i) n (data_of i) x → IsConforming i n x

-- of the first shapes, and of one more
pub met_next : (i : Input) (n : ℕ) → IsMet i n → ((m : ℕ) → m < n → IsMet i m) → (m : ℕ) → m < n + 1 → IsMet i m
met_next i n own before m l = at (cases_lt m n)
  where
    at : (m < n) ⊎ (n ≤ m) → IsMet i m
    at (inl lt) = before m lt
    at (inr le) = let e : n ≡ m = omega arith in subst (IsMet i) e own

module _ (i : Input) (s g : Graph) (same_shapes : i.shapes.now ≡ s) (same_data : i.graph.graph ≡ g) where
  pub input_focus : ((n : ℕ) (x : Term) → IsFocus s n g x → IsTrue (has_term i.graph.nodes x)) → HasFocusNodes i
  input_focus h n x f = h n x (subst (λ t. IsFocus t n g x) same_shapes (subst (λ e. IsFocus (shapes_of i) n e x) same_data f))

  input_conforms : Conforms (shapes_of i) (data_of i) ↔ Conforms s g
  input_conforms = (
    λ h. subst (λ t. Conforms t g) same_shapes (subst (λ e. Conforms (shapes_of i) e) same_data h),
    λ h. subst (λ e. Conforms (shapes_of i) e) (sym same_data) (subst (λ t. Conforms t g) (sym same_shapes) h),
  )

  all_met : (k : ℕ) → length (shape_terms s) ≤ k → ((n : ℕ) → n < k → IsMet i n) → Conforms s g
  all_met k le h = input_conforms.0 (conforms_of (shapes_of i) (data_of i) (λ n l. let q : n < k = within n l in h n q))
    where
      within : (n : ℕ) → n < length (shape_terms (shapes_of i)) → n < k
      within n l = let m : n < length (shape_terms s) = subst (λ t. n < length (shape_terms t)) same_shapes l in omega (arith, m, le)

  unmet : (n : ℕ) → ¬ (IsMet i n) → ¬ (Conforms s g)
  unmet n bad h = bad (λ x f. (conforms_is (shapes_of i) (data_of i)).0 (input_conforms.1 h) n x f)

  pub met_conforms : (k : ℕ) → length (shape_terms s) ≤ k → ((n : ℕ) → n < k → IsMet i n) → IsTrue true ↔ Conforms s g
  met_conforms k le h = (λ e. all_met k le h, λ c. refl)

  pub met_empty : IsInProfile s → (k : ℕ) → length (shape_terms s) ≤ k → ((n : ℕ) → n < k → IsMet i n) → IsTrue true ↔ HasNoResult s g
  met_empty profile k le h = (λ e. conforming_none s g profile (all_met k le h), λ c. refl)

  pub unmet_conforms : (n : ℕ) → ¬ (IsMet i n) → IsTrue false ↔ Conforms s g
  unmet_conforms n bad = (λ e. absurd (no_false false e refl), λ h. absurd (unmet n bad h))

  pub unmet_empty : IsInProfile s → ((n : ℕ) (x : Term) → IsFocus s n g x → IsTrue (has_term i.graph.nodes x)) → (n : ℕ) → ¬ (IsMet i n) → IsTrue false ↔ HasNoResult s g
  unmet_empty profile focus n bad = (λ e. absurd (no_false false e refl), λ none. absurd (none_conforming s g profile (terms i.graph.nodes) covers none (unmet n bad)))
    where
      covers : (m : ℕ) (x : Term) → IsFocus s m g x → Contains (terms i.graph.nodes) x
      covers m x f = let p = place_of_term i.graph.nodes x (focus m x f) in in_at (terms i.graph.nodes) p.0 x p.1
