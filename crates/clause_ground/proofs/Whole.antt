-- A ground that has exactly what is needed is one of the changes that explain.
use Rattle.std.proofs.Common.{◌≡◌, ◌⊎◌, inl, inr, ℕ, zero, suc, ◌<◌, Bool, List, [], ◌∷◌, length, Some, None, slice_get, refl, sym, ap, ◌∙◌, subst}
use Rattle.rdf_terms.specs.Graph.{Graph}
use Rattle.shapes_profile.specs.Profile.{IsInProfile}
use Rattle.shapes_graph.specs.Conformance.{Conforms}
use Rattle.clause_store.specs.declared.lit.Lit.{Lit}
use Rattle.repair_problem.specs.declared.atom.Atom.{Atom}
use Rattle.repair_problem.specs.declared.atom.Atom.TheVariants as atom
use Rattle.repair_problem.specs.declared.atom.Literal.{Literal}
use Rattle.repair_problem.specs.Repair.{Apart}
use Rattle.repair_problem.specs.Setting.{Setting, IsEdit}
use Rattle.repair_problem.specs.Candidates.{candidates, edited_by}
use Rattle.repair_problem.specs.Meaning.{Means}
use Rattle.repair_problem.proofs.ChangeLaws.{edit_of}
use Rattle.proof_lines.specs.declared.rule.Rule.{Rule}
use Rattle.proof_lines.specs.declared.rule.RuleName.TheVariants as rule
use Rattle.atom_parts.specs.PartLiterals.{In}
use Rattle.atom_parts.specs.Fixing.{fixing, IsOrdered}
use Rattle.atom_parts.proofs.Facts.{some_is, none_some}
use Rattle.premise_rules.specs.declared.clause.Clause.TheVariants.{Literals}
use Rattle.premise_rules.specs.Premises.{IsTrueOf}
use Rattle.premise_rules.proofs.PremiseLaws.{premise}
use Rattle.clause_ground.specs.declared.premise.Premise.{Premise}
use Rattle.atom_numbers.specs.Numbers.{clause_of, AreApart}
use Rattle.clause_ground.specs.Premises.{rules_of, clauses_of}
use Rattle.clause_ground.specs.Needed.{root, rule_at, clause_in, NeededIn, IsNeeded, AreNeeded}
use Rattle.clause_ground.specs.Models.{AreTrue, changed, AreOfExplanations}
use Rattle.clause_ground.proofs.Changed.{triple_below, changed_agrees, changed_candidates}
use Rattle.clause_ground.proofs.Explained.{proper, meanings_hold, conforms_here}
use Rattle.clause_ground.proofs.Working.{get_in}

module _ (s : Setting) (profile : IsInProfile s.shapes) (disjoint : Apart s.present s.offers) where
  no_pairs : (pair : List ℕ) (j : ℕ) → slice_get [] j ≡ Some pair → Rattle.repair_problem.specs.Changes.AreCandidates s pair
  no_pairs pair j e = absurd (none_some e)

  -- the clause of a needed rule is true of each edited graph that conforms
  at_true : (g : Graph) → IsEdit s g → (a : Atom) (k : ℕ) (q : Rule) (ls : List Literal) → rule_at a k ≡ Some q → clause_in s q ≡ Literals ls → IsTrueOf (Means s g) ls
  at_true g within (atom.Triple t) k q ls e f = absurd (none_some e)
  at_true g within (atom.Reach p x y) k q ls e f = premise s profile disjoint [] no_pairs rule.Reach (p ∷ x ∷ y ∷ k ∷ []) ls (ap (clause_in s) (some_is e) ∙ f) g within
  at_true g within (atom.Level p l x y) k q ls e f = premise s profile disjoint [] no_pairs rule.Level (p ∷ l ∷ x ∷ y ∷ k ∷ []) ls (ap (clause_in s) (some_is e) ∙ f) g within
  at_true g within (atom.Middle p l x z y) k q ls e f = premise s profile disjoint [] no_pairs rule.Middle (p ∷ l ∷ x ∷ z ∷ y ∷ k ∷ []) ls (ap (clause_in s) (some_is e) ∙ f) g within
  at_true g within (atom.Good i y) k q ls e f = premise s profile disjoint [] no_pairs rule.Good (i ∷ y ∷ k ∷ []) ls (ap (clause_in s) (some_is e) ∙ f) g within
  at_true g within (atom.Marked i x y) k q ls e f = premise s profile disjoint [] no_pairs rule.Marked (i ∷ x ∷ y ∷ k ∷ []) ls (ap (clause_in s) (some_is e) ∙ f) g within
  at_true g within (atom.Count i x j m) k q ls e f = premise s profile disjoint [] no_pairs rule.Count (i ∷ x ∷ j ∷ m ∷ k ∷ []) ls (ap (clause_in s) (some_is e) ∙ f) g within
  at_true g within (atom.Differ i x y) k q ls e f = premise s profile disjoint [] no_pairs rule.Differ (i ∷ x ∷ y ∷ k ∷ []) ls (ap (clause_in s) (some_is e) ∙ f) g within
  at_true g within (atom.Twin i x y z) k q ls e f = premise s profile disjoint [] no_pairs rule.Twin (i ∷ x ∷ y ∷ z ∷ k ∷ []) ls (ap (clause_in s) (some_is e) ∙ f) g within
  at_true g within (atom.Holds i x) k q ls e f = premise s profile disjoint [] no_pairs rule.Holds (i ∷ x ∷ k ∷ []) ls (ap (clause_in s) (some_is e) ∙ f) g within
  at_true g within (atom.Conforms n x) k q ls e f = premise s profile disjoint [] no_pairs rule.Conforms (n ∷ x ∷ k ∷ []) ls (ap (clause_in s) (some_is e) ∙ f) g within
  at_true g within (atom.Target n x) k q ls e f = premise s profile disjoint [] no_pairs rule.Target (n ∷ x ∷ k ∷ []) ls (ap (clause_in s) (some_is e) ∙ f) g within

  needed_true : (g : Graph) → IsEdit s g → Conforms s.shapes g → (n : ℕ) (q : Rule) → NeededIn s n q → (ls : List Literal) → clause_in s q ≡ Literals ls → IsTrueOf (Means s g) ls
  needed_true g within conforms zero q h ls e = premise s profile disjoint [] no_pairs rule.Root (h.0 ∷ h.1 ∷ []) ls (ap (clause_in s) (sym h.3) ∙ e) g within conforms
  needed_true g within conforms (suc n) q (inl h) ls e = needed_true g within conforms n q h ls e
  needed_true g within conforms (suc n) q (inr h) ls e = at_true g within h.1 h.4.0 q ls h.4.2 e

  premise_of : (ps : List Premise) (c : List Lit) → In (clauses_of ps) c → (p : Premise) × In ps p × (p.lits ≡ c)
  premise_of [] c h = absurd h
  premise_of (p ∷ ps) c (inl e) = (p, inl refl, e)
  premise_of (p ∷ ps) c (inr h) = let r = premise_of ps c h in (r.0, inr r.1, r.2)

  rule_in : (ps : List Premise) (p : Premise) → In ps p → In (rules_of ps) p.rule
  rule_in [] p h = absurd h
  rule_in (q ∷ ps) p (inl e) = inl (ap (λ (x : Premise). x.rule) e)
  rule_in (q ∷ ps) p (inr h) = inr (rule_in ps p h)

  pub explained : (order : IsOrdered (fixing s)) (ps : List Premise) (ats : List Atom) → AreNeeded s ps ats → AreApart ats → AreOfExplanations s (clauses_of ps) ats
  explained order ps ats all apart =
      record {
        explains = λ v truth. record { within = changed_candidates s disjoint v ats apart below; conforms = conforms_here s profile order ps ats all apart v truth (edited_by s (changed s v ats)) (edit v) (changed_agrees s disjoint v ats apart below) };
        meanings = λ v truth. meanings_hold s profile order ps ats all apart v truth (edited_by s (changed s v ats)) (edit v) (changed_agrees s disjoint v ats apart below);
        all = λ g within conforms c h. clause_true g within conforms c h;
      }
    where
      below : (n t : ℕ) → slice_get ats n ≡ Some (atom.Triple t) → t < length (candidates s)
      below n t e = triple_below s t (proper s profile order ps ats all apart (atom.Triple t) ((all.occur (atom.Triple t)).0 (get_in ats n (atom.Triple t) e)))

      edit : (v : ℕ → Bool) → IsEdit s (edited_by s (changed s v ats))
      edit v = edit_of s (changed s v ats) (edited_by s (changed s v ats)) refl

      clause_true : (g : Graph) → IsEdit s g → Conforms s.shapes g → (c : List Lit) → In (clauses_of ps) c → IsTrueOf (Means s g) (clause_of ats c)
      clause_true g within conforms c h =
          let r = premise_of ps c h in
          let n = ((all.needed r.0.rule).0 (rule_in ps r.0 r.1)).0 in
          subst (λ x. IsTrueOf (Means s g) (clause_of ats x)) r.2 (needed_true g within conforms n.0 r.0.rule n.1 (clause_of ats r.0.lits) (all.numbered r.0 r.1).0)
