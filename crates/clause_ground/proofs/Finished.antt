-- A ground that has all roots and all rules of its atoms has exactly what is needed.
use Rattle.std.proofs.Common.{◌≡◌, ◌≢◌, ◌↔◌, ◌⊎◌, inl, inr, ℕ, zero, suc, ◌<◌, Bool, true, ◌&&◌, nat_lt, IsTrue, List, [], ◌∷◌, map, length, get_or, Some, slice_get, refl, sym, ap, ◌∙◌, subst}
use Rattle.std.proofs.lemmas.Bool.{ltb-true}
use Rattle.std.proofs.lemmas.Option.{slice_get-get_or}
use Rattle.shapes_profile.specs.Shapes.{shape_terms}
use Rattle.clause_store.specs.declared.lit.Lit.{Lit}
use Rattle.clause_store.specs.Clauses.{is_within}
use Rattle.clause_store.proofs.Sets.{and_left, and_right}
use Rattle.repair_problem.specs.declared.atom.Atom.{Atom}
use Rattle.repair_problem.specs.declared.atom.Atom.TheVariants.{Triple}
use Rattle.repair_problem.specs.declared.atom.Literal.{Literal}
use Rattle.repair_problem.specs.Setting.{Setting}
use Rattle.proof_lines.specs.declared.rule.Rule.{Rule}
use Rattle.atom_parts.specs.PartLiterals.{In}
use Rattle.premise_rules.specs.declared.clause.Clause.{Clause}
use Rattle.premise_rules.specs.declared.clause.Clause.TheVariants.{Literals, Tautology}
use Rattle.clause_ground.specs.declared.premise.Premise.{Premise}
use Rattle.atom_numbers.specs.Numbers.{clause_of, Stands}
use Rattle.clause_ground.specs.Premises.{rules_of}
use Rattle.clause_ground.specs.Needed.{clause_in, IsRuleOf, StandsIn, NeededIn, IsNeeded, Occurs, IsInNumbers, AreNeeded}
use Rattle.clause_ground.specs.Growth.{found, IsSound, IsKept, IsClosedTo}
use Rattle.clause_ground.specs.RootClauses.{RootsBelow}
use Rattle.clause_ground.proofs.RootLaws.{possible_shape}
use Rattle.clause_ground.proofs.Working.{get_in, in_place}

pub literals_are : {xs ys : List Literal} → Literals xs ≡ Literals ys → xs ≡ ys
literals_are e = cc

pub rule_premise : (ps : List Premise) (q : Rule) → In (rules_of ps) q → (p : Premise) × In ps p × (p.rule ≡ q)
rule_premise [] q h = absurd h
rule_premise (p ∷ ps) q (inl e) = (p, inl refl, e)
rule_premise (p ∷ ps) q (inr h) = let r = rule_premise ps q h in (r.0, inr r.1, r.2)

numbered_in : (ats : List Atom) (c : List Lit) (a : Atom) → is_within (length ats) c ≡ true → Stands (clause_of ats c) a → In ats a
numbered_in ats [] a h k = absurd k
numbered_in ats (l ∷ c) a h (inl e) = get_in ats l.var a (slice_get-get_or ats l.var (Triple 0) (ltb-true l.var (length ats) (and_left (nat_lt l.var (length ats)) (is_within (length ats) c) h)) ∙ ap Some e)
numbered_in ats (l ∷ c) a h (inr k) = numbered_in ats c a (and_right (nat_lt l.var (length ats)) (is_within (length ats) c) h) k

module _ (s : Setting) (ps : List Premise) (ats : List Atom) (numbered : (p : Premise) → In ps p → IsInNumbers s ats p) where
  -- each rule has a clause
  pub given : (q : Rule) → In (rules_of ps) q → (ls : List Literal) × (clause_in s q ≡ Literals ls)
  given q h = let r = rule_premise ps q h in (clause_of ats r.0.lits, subst (λ x. clause_in s x ≡ Literals (clause_of ats r.0.lits)) r.2 (numbered r.0 r.1).0)

  -- each atom that occurs has a number
  pub occurs_in : (a : Atom) → Occurs s (rules_of ps) a → In ats a
  occurs_in a o =
      let r = rule_premise ps o.0 o.1 in
      let n = numbered r.0 r.1 in
      let e : o.2.literals ≡ clause_of ats r.0.lits = literals_are (sym o.2.here ∙ (ap (clause_in s) (sym r.2) ∙ n.0)) in
      numbered_in ats r.0.lits a n.1 (subst (λ ls. Stands ls a) e o.2.stands)

  not_tautology : (q : Rule) → In (rules_of ps) q → clause_in s q ≢ Tautology
  not_tautology q h e = let g = given q h in let f : Tautology ≡ Literals g.0 = sym e ∙ g.1 in absurd (cc)

  module _ (roots : RootsBelow s (length (shape_terms s.shapes)) (rules_of ps)) (closed : IsClosedTo s (length ats) (found ps ats)) where
    all_needed : (n : ℕ) (q : Rule) → NeededIn s n q → IsKept s (rules_of ps) q
    all_needed zero q h = inr (subst (In (rules_of ps)) (sym h.3) (roots h.0 (possible_shape s h.0 h.1 h.2).0 h.1 h.2))
    all_needed (suc n) q (inl h) = all_needed n q h
    all_needed (suc n) q (inr h) = close (all_needed n h.0 h.2)
      where
        close : IsKept s (rules_of ps) h.0 → IsKept s (rules_of ps) q
        close (inl e) = let f : Tautology ≡ Literals h.3.literals = sym e ∙ h.3.here in absurd (cc)
        close (inr m) = let i = in_place ats h.1 (occurs_in h.1 (h.0, m, h.3)) in closed i.0 i.1 h.1 i.2 q h.4

    pub all_made : IsSound s (found ps ats) → AreNeeded s ps ats
    all_made sound =
        record {
          numbered = numbered;
          needed = λ q. (λ h. (sound.needed q h, not_tautology q h), λ h. there q h.1 (all_needed h.0.0 q h.0.1));
          occur = λ a. (sound.occur a, occurs_in a);
          order = sound.order;
        }
      where
        there : (q : Rule) → clause_in s q ≢ Tautology → IsKept s (rules_of ps) q → In (rules_of ps) q
        there q n (inl e) = absurd (n e)
        there q n (inr h) = h
