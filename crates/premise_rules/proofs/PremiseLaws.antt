-- The clause of a rule is true of the edited graphs that the rule speaks of.
use Rattle.std.proofs.Common.{◌≡◌, ◌⊎◌, inl, inr, ℕ, ◌<◌, Bool, true, false, not, cond, ◌&&◌, ◌||◌, ◌-◌, List, [], ◌∷◌, map, length, Contains, Option, Some, None, nat_eq, nat_lt, slice_get, All, Result, Ok, Err, IfOk, refl, sym, ap, ◌∙◌, subst}
use Rattle.std.specs.Prelude.{option_and_then}
use Rattle.std.specs.List.{list_any}
use Rattle.std.proofs.lemmas.Bool.{false≢true, ltb-true}
use Rattle.std.proofs.lemmas.Option.{slice_get_within, get_or_from_slice_get}
use Rattle.rdf_terms.specs.Statement.{Statement}
use Rattle.rdf_terms.specs.Graph.{Graph, triples, has}
use Rattle.rdf_terms.proofs.GraphLaws.{has-edited, has_at}
use Rattle.rdf_terms.proofs.Members.{in_none, in_first, in_rest, in_cases}
use Rattle.shapes_profile.specs.Logic.{EachOf}
use Rattle.shapes_profile.specs.Profile.{IsInProfile}
use Rattle.shapes_graph.specs.Conformance.{Conforms, ConformsTo}
use Rattle.shapes_graph.specs.Targets.{IsFocus}
use Rattle.repair_problem.specs.declared.atom.Atom.{Atom}
use Rattle.repair_problem.specs.declared.atom.Atom.TheVariants as atom
use Rattle.repair_problem.specs.declared.atom.Literal.{Literal}
use Rattle.repair_problem.specs.declared.atom.Part.{Part}
use Rattle.repair_problem.specs.Repair.{Apart}
use Rattle.repair_problem.specs.Setting.{Setting, IsEdit}
use Rattle.repair_problem.specs.Candidates.{candidates, in_data, deletion_at, addition_at, additions, deletions, edited_by}
use Rattle.repair_problem.specs.Changes.{AreCandidates, ChangeBelow}
use Rattle.repair_problem.specs.Meaning.{Means}
use Rattle.repair_problem.specs.PartMeaning.{HoldsIf, PartMeans}
use Rattle.repair_problem.proofs.CandidateLaws.{low_place, high_place}
use Rattle.repair_problem.proofs.ChangeLaws.{added_is, deleted_is, kind_of, deleted_low, added_high, high, one_deletion, one_addition}
use Rattle.proof_lines.specs.declared.rule.RuleName.{RuleName}
use Rattle.proof_lines.specs.declared.rule.RuleName.TheVariants as rule
use Rattle.path_levels.specs.PathParts.{literal}
use Rattle.path_levels.specs.PossibleNodes.{node_count}
use Rattle.path_levels.proofs.Choices.{number_in, in_number}
use Rattle.path_levels.proofs.NodeLaws.{of_node}
use Rattle.core_constraints.proofs.Decided.{no_false, false_of, true_or_false}
use Rattle.atom_parts.specs.Fixing.{fixing}
use Rattle.atom_parts.specs.PartsTable.{is_node, is_shape}
use Rattle.atom_parts.proofs.Facts.{some_is, none_some, both_true}
use Rattle.atom_parts.proofs.CountLaw.{means_fixing}
use Rattle.atom_parts.proofs.Owned.{own_fixing}
use Rattle.premise_rules.specs.declared.clause.Clause.TheVariants.{Literals}
use Rattle.premise_rules.specs.declared.refusal.RuleRefusal.{RuleRefusal}
use Rattle.premise_rules.specs.Literals.{finished}
use Rattle.premise_rules.specs.PlaceClauses.{clause_at}
use Rattle.premise_rules.specs.RuleClauses.{atom_and_place, root_parts, unchanged, outside_parts, undo_parts, rule_clause, Answers}
use Rattle.premise_rules.specs.Premises.{IsTrueOf, IsWithin, IsPremise}
use Rattle.premise_rules.proofs.ClauseTruth.{NotAllFalse, fixing_true}
use Rattle.premise_rules.proofs.AnsweredLiterals.{finished_true}

-- what is left where a test is passed
guarded : {X : Type 0} (b : Bool) (o : Option X) (x : X) → cond b o None ≡ Some x → (b ≡ true) × (o ≡ Some x)
guarded true o x e = (refl, e)
guarded false o x e = absurd (none_some e)

module _ (s : Setting) (profile : IsInProfile s.shapes) where
  -- of an atom
  atom_true : (g : Graph) → IsEdit s g → (o : Option (Atom × ℕ)) (c : List Part) → option_and_then (λ r. clause_at r.0 (fixing s r.0) r.1) o ≡ Some c → NotAllFalse (Means s g) c
  atom_true g within None c e = absurd (none_some e)
  atom_true g within (Some r) c e = fixing_true (Means s g) r.0 (fixing s r.0) r.1 c (means_fixing s profile g within r.0) (own_fixing s r.0) e

  -- a focus node of a graph that conforms
  root_true : (g : Graph) → Conforms s.shapes g → (n x : ℕ) (c : List Part) → root_parts s n x ≡ Some c → NotAllFalse (Means s g) c
  unfolding Conforms
  root_true g all n x c e =
      let r = guarded (is_shape s n && is_node s x) (Some (literal (atom.Target n x) false ∷ literal (atom.Conforms n x) true ∷ [])) c e in
      let l = ltb-true x (node_count s) (both_true (is_shape s n) (is_node s x) r.0).1 in
      subst (NotAllFalse (Means s g)) (some_is r.1)
      (λ f. f.0 (λ t. f.1.0 ((of_node s x (λ a. ConformsTo s.shapes g n a) l).1 (all n _ ((of_node s x (λ a. IsFocus s.shapes n g a) l).0 t)))))

-- candidates that a change leaves as they are
module _ (s : Setting) (apart : Apart s.present s.offers) (less : List ℕ) where
  abbrev E : Graph
  E = edited_by s less

  -- what the edited graph has
  has_edited : (u : Statement) → has E u ≡ ((has s.present u && not (has (deletions s less) u)) || has (additions s less) u)
  has_edited u = has-edited s.present (additions s less) (deletions s less) u

  stays : (t : ℕ) → t < length (candidates s) → ¬ (Contains less t) → HoldsIf (in_data s t) (Means s E (atom.Triple t))
  stays t l out = at (kind_of s t l)
    where
      kept : (u : Statement) → deletion_at s t ≡ Some u → has E u ≡ true
      kept u d =
          let gone : has (deletions s less) u ≡ false = false_of (has (deletions s less) u) (λ h. let r = (deleted_is s less u).0 h in out (subst (Contains less) (sym (one_deletion s t r.0 u d r.2)) r.1)) in
          has_edited u ∙ (ap (λ b. (b && not (has (deletions s less) u)) || has (additions s less) u) (has_at s.present u t d) ∙ ap (λ b. not b || has (additions s less) u) gone)

      absent : (u : Statement) → addition_at s t ≡ Some u → has E u ≡ true → ⊥
      absent u d h = no_false (has E u) h (has_edited u ∙ (ap (λ b. (b && not (has (deletions s less) u)) || has (additions s less) u) (apart u offered) ∙ missing))
        where
          offered : has s.offers u ≡ true
          offered = has_at s.offers u (t - length (triples s.present)) (added_high s t u d).1

          missing : has (additions s less) u ≡ false
          missing = false_of (has (additions s less) u) (λ h. let r = (added_is s less u).0 h in out (subst (Contains less) (sym (one_addition s t r.0 u d r.2)) r.1))

      at : ((u : Statement) × (deletion_at s t ≡ Some u)) ⊎ ((u : Statement) × (addition_at s t ≡ Some u)) → HoldsIf (in_data s t) (Means s E (atom.Triple t))
      at (inl r) = subst (λ b. HoldsIf b (Means s E (atom.Triple t))) (sym (deleted_low s t r.0 r.1)) (r.0, low_place (triples s.present) (triples s.offers) t (slice_get_within (triples s.present) t r.0 r.1) ∙ r.1, kept r.0 r.1)
      at (inr r) =
          let a = added_high s t r.0 r.1 in
          let e : slice_get (candidates s) t ≡ Some r.0 = high_place (triples s.present) (triples s.offers) t (high s t a.0) ∙ a.1 in
          subst (λ b. HoldsIf b (Means s E (atom.Triple t))) (sym a.0) (λ m. absent r.0 r.1 (subst (λ u. has E u ≡ true) (some_is (sym m.1 ∙ e)) m.2))

  listed : (pair : List ℕ) (t : ℕ) → list_any (λ u. nat_eq t u) pair ≡ false → ¬ (Contains pair t)
  listed pair t e c = no_false (list_any (λ u. nat_eq t u) pair) (in_number pair t c) e

  -- a candidate that is not in the pair
  outside_true : (t : ℕ) (pair : List ℕ) (c : List Part) → IsWithin less pair → outside_parts s t pair ≡ Some c → NotAllFalse (Means s E) c
  outside_true t pair c inside e =
      let r = guarded (nat_lt t (length (candidates s)) && not (list_any (λ u. nat_eq t u) pair)) (Some (unchanged s t ∷ [])) c e in
      let b = both_true (nat_lt t (length (candidates s))) (not (list_any (λ u. nat_eq t u) pair)) r.0 in
      subst (NotAllFalse (Means s E)) (some_is r.1) (λ f. f.0 (stays t (ltb-true t (length (candidates s)) b.0) (λ h. listed pair t (not_true (list_any (λ u. nat_eq t u) pair) b.1) (inside t h))))
    where
      not_true : (b : Bool) → not b ≡ true → b ≡ false
      not_true true e = absurd (false≢true e)
      not_true false e = refl

  -- some candidate of the pair stays, where the change is below it
  undo_true : (pair : List ℕ) → AreCandidates s pair → ChangeBelow less pair → NotAllFalse (Means s E) (undo_parts s pair)
  undo_true pair within below f = all_in pair (λ t c. c) f (λ all. below.differs all)
    where
      in_range : (t : ℕ) → Contains pair t → t < length (candidates s)
      in_range t c = subst (λ u. u < length (candidates s)) c.2 (within c.0 t c.1)

      all_in : (ts : List ℕ) → ((t : ℕ) → Contains ts t → Contains pair t) → EachOf (λ p. ¬ (PartMeans (Means s E) p)) (map (unchanged s) ts) → ¬ (¬ ((t : ℕ) → Contains ts t → Contains less t))
      all_in [] of f none = none (λ t h. absurd (in_none t h))
      all_in (t ∷ ts) of f none = all_in ts (λ u c. of u (in_rest t ts u c)) f.1 (λ more. split (true_or_false (list_any (λ u. nat_eq t u) less)) more)
        where
          split : (list_any (λ u. nat_eq t u) less ≡ true) ⊎ (list_any (λ u. nat_eq t u) less ≡ false) → ((u : ℕ) → Contains ts u → Contains less u) → ⊥
          split (inl e) more = none (λ u h. pick u (in_cases t ts u h))
            where
              pick : (u : ℕ) → (t ≡ u) ⊎ Contains ts u → Contains less u
              pick u (inl g) = subst (Contains less) g (number_in less t e)
              pick u (inr h) = more u h
          split (inr e) more = f.0 (stays t (in_range t (of t (in_first t ts))) (listed less t e))

-- the literals of each rule
module _ (s : Setting) (profile : IsInProfile s.shapes) (apart : Apart s.present s.offers) (chain : List (List ℕ)) (pairs : (pair : List ℕ) (j : ℕ) → slice_get chain j ≡ Some pair → AreCandidates s pair) where
  made : (M : Atom → Type 0) (o : Option (List Part)) (ls : List Literal) → finished o ≡ Literals ls → ((c : List Part) → o ≡ Some c → NotAllFalse M c) → IsTrueOf M ls
  made M None ls e h = cc
  made M (Some c) ls e h = finished_true M c ls e (h c refl)

  of_atom : (g : Graph) → IsEdit s g → (o : Option (Atom × ℕ)) (ls : List Literal) → finished (option_and_then (λ r. clause_at r.0 (fixing s r.0) r.1) o) ≡ Literals ls → IsTrueOf (Means s g) ls
  of_atom g within o ls e = made (Means s g) (option_and_then (λ r. clause_at r.0 (fixing s r.0) r.1) o) ls e (λ c h. atom_true s profile g within o c h)

  pub premise : (name : RuleName) (numbers : List ℕ) (ls : List Literal) → rule_clause s chain name numbers ≡ Literals ls → IsPremise s chain name numbers ls
  premise rule.Root (n ∷ x ∷ []) ls e = λ g within all. made (Means s g) (root_parts s n x) ls e (λ c h. root_true s profile g all n x c h)
  premise rule.Root [] ls e = λ g within all. of_atom g within None ls e
  premise rule.Root (n ∷ []) ls e = λ g within all. of_atom g within None ls e
  premise rule.Root (n ∷ x ∷ y ∷ ns) ls e = λ g within all. of_atom g within None ls e
  premise rule.Outside (j ∷ t ∷ []) ls e = λ pair less here inside. made (Means s (edited_by s less)) (option_and_then (outside_parts s t) (slice_get chain j)) ls e (λ c h. outside_true s apart less t pair c inside (subst (λ o. option_and_then (outside_parts s t) o ≡ Some c) here h))
  premise rule.Outside [] ls e = λ g within. of_atom g within None ls e
  premise rule.Outside (j ∷ []) ls e = λ pair less here inside. cc
  premise rule.Outside (j ∷ t ∷ u ∷ ns) ls e = λ pair less here inside. cc
  premise rule.Undo (j ∷ []) ls e = λ pair less here below. made (Means s (edited_by s less)) (option_and_then (λ p. Some (undo_parts s p)) (slice_get chain j)) ls e (λ c h. subst (NotAllFalse (Means s (edited_by s less))) (some_is (subst (λ o. option_and_then (λ p. Some (undo_parts s p)) o ≡ Some c) here h)) (undo_true s apart less pair (pairs pair j here) below))
  premise rule.Undo [] ls e = λ g within. of_atom g within None ls e
  premise rule.Undo (j ∷ t ∷ ns) ls e = λ pair less here below. cc
  premise rule.Reach ns ls e = λ g within. of_atom g within (atom_and_place rule.Reach ns) ls e
  premise rule.Level ns ls e = λ g within. of_atom g within (atom_and_place rule.Level ns) ls e
  premise rule.Middle ns ls e = λ g within. of_atom g within (atom_and_place rule.Middle ns) ls e
  premise rule.Good ns ls e = λ g within. of_atom g within (atom_and_place rule.Good ns) ls e
  premise rule.Marked ns ls e = λ g within. of_atom g within (atom_and_place rule.Marked ns) ls e
  premise rule.Count ns ls e = λ g within. of_atom g within (atom_and_place rule.Count ns) ls e
  premise rule.Differ ns ls e = λ g within. of_atom g within (atom_and_place rule.Differ ns) ls e
  premise rule.Twin ns ls e = λ g within. of_atom g within (atom_and_place rule.Twin ns) ls e
  premise rule.Holds ns ls e = λ g within. of_atom g within (atom_and_place rule.Holds ns) ls e
  premise rule.Conforms ns ls e = λ g within. of_atom g within (atom_and_place rule.Conforms ns) ls e
  premise rule.Target ns ls e = λ g within. of_atom g within (atom_and_place rule.Target ns) ls e

-- what is answered of a rule
pub premises : (s : Setting) → IsInProfile s.shapes → Apart s.present s.offers → (chain : List (List ℕ)) → All (AreCandidates s) chain → (name : RuleName) (numbers : List ℕ) (r : Result (List Literal) RuleRefusal) → Answers (rule_clause s chain name numbers) r → IfOk r (λ ls. IsPremise s chain name numbers ls)
premises s profile apart chain pairs name numbers (Ok ls) e = premise s profile apart chain (λ pair j h. at pair j h) name numbers ls e
  where
    at : (pair : List ℕ) (j : ℕ) → slice_get chain j ≡ Some pair → AreCandidates s pair
    at pair j h = subst (AreCandidates s) (get_or_from_slice_get chain j pair [] h) (pairs j [] (slice_get_within chain j pair h))
premises s profile apart chain pairs name numbers (Err r) e = tt

-- the same answer where the problem and the chain are the same
pub answered_same : {s t : Setting} {chain pairs : List (List ℕ)} → t ≡ s → pairs ≡ chain → (name : RuleName) (numbers : List ℕ) (r : Result (List Literal) RuleRefusal) → Answers (rule_clause t pairs name numbers) r → Answers (rule_clause s chain name numbers) r
answered_same {s} {t} {chain} {pairs} e d name numbers r h = subst (λ cs. Answers (rule_clause s cs name numbers) r) d (subst (λ (u : Setting). Answers (rule_clause u pairs name numbers) r) e h)
