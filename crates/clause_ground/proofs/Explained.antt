-- The models of a ground that has exactly what is needed are the changes that explain.
use Rattle.std.proofs.Common.{◌≡◌, ◌≢◌, ◌↔◌, ◌⊎◌, inl, inr, ℕ, zero, suc, ◌<◌, Bool, true, false, not, ◌&&◌, ◌||◌, nat_lt, IsTrue, cond, List, [], ◌∷◌, map, length, get_or, Contains, Option, Some, None, slice_get, refl, sym, ap, ◌∙◌, subst}
use Rattle.std.specs.Prelude.{option_and_then, unwrap_or, if◌then◌else◌}
use Rattle.std.specs.List.{list_any, position_or_len}
use Rattle.std.proofs.lemmas.Bool.{lt-ltb, ltb-true}
use Rattle.std.proofs.lemmas.Option.{slice_get-get_or}
use Rattle.rdf_terms.specs.declared.term.Term.{Term}
use Rattle.rdf_terms.specs.Graph.{Graph}
use Rattle.shapes_profile.specs.Profile.{IsInProfile}
use Rattle.shapes_graph.specs.Conformance.{Conforms, ConformsTo}
use Rattle.shapes_graph.specs.Constraints.{constraint_at}
use Rattle.shapes_graph.specs.Targets.{IsFocus}
use Rattle.shapes_graph.specs.Forms.{Form, form_of}
use Rattle.shapes_graph.specs.declared.constraints.Constraint.{Constraint}
use Rattle.clause_store.specs.declared.lit.Lit.{Lit}
use Rattle.clause_store.specs.Clauses.{is_within}
use Rattle.clause_store.proofs.Sets.{and_left, and_right}
use Rattle.repair_problem.specs.declared.atom.Atom.{Atom}
use Rattle.repair_problem.specs.declared.atom.Atom.TheVariants as atom
use Rattle.repair_problem.specs.declared.atom.Literal.{Literal}
use Rattle.repair_problem.specs.declared.atom.Parts.{Parts}
use Rattle.repair_problem.specs.declared.atom.Part.{Part}
use Rattle.repair_problem.specs.contracts.atom.AtomPartialEq.TheImpl.{eq-value}
use Rattle.repair_problem.specs.Setting.{Setting, IsEdit, node}
use Rattle.repair_problem.specs.Meaning.{Means}
use Rattle.repair_problem.specs.PartMeaning.{HoldsIf}
use Rattle.proof_lines.specs.declared.rule.Rule.{Rule}
use Rattle.path_levels.specs.PossibleNodes.{node_count}
use Rattle.path_levels.proofs.NodeLaws.{of_node}
use Rattle.count_encode.specs.PartTruth.{signed, literal_value}
use Rattle.core_constraints.proofs.Decided.{no_false}
use Rattle.atom_parts.specs.PartLiterals.{In, literals}
use Rattle.atom_parts.specs.PartsTable.{is_node, is_shape, items, need, parts_of}
use Rattle.atom_parts.specs.Fixing.{Fixing, NoAtom, Free, ByParts, ByCount, by_parts, by_item, by_count, fixing, lower, IsOrdered}
use Rattle.atom_parts.proofs.CountLaw.{means_fixing}
use Rattle.atom_parts.proofs.Proper.{root_proper}
use Rattle.premise_rules.specs.declared.clause.Clause.{Clause}
use Rattle.premise_rules.specs.declared.clause.Clause.TheVariants.{Literals, Tautology, OutOfRange}
use Rattle.clause_ground.specs.declared.premise.Premise.{Premise}
use Rattle.atom_numbers.specs.Numbers.{literal_of, clause_of, AreApart, Stands}
use Rattle.clause_ground.specs.Premises.{rules_of, clauses_of}
use Rattle.clause_ground.specs.Needed.{root, rule_at, clause_in, CanBeFocus, IsRuleOf, StandsIn, NeededIn, IsNeeded, IsNeededAtom, Occurs, IsInNumbers, AreNeeded}
use Rattle.clause_ground.specs.Growth.{IsKept}
use Rattle.clause_ground.specs.RootClauses.{root_literals}
use Rattle.clause_ground.specs.Models.{lit_value, AreTrue, HasMeanings}
use Rattle.clause_ground.proofs.AtomRules.{rule_clause_at}
use Rattle.clause_ground.proofs.ClauseAtoms.{stands_among}
use Rattle.clause_ground.proofs.Finished.{literals_are, rule_premise, given}
use Rattle.clause_ground.proofs.FocusNodes.{focus_node}
use Rattle.atom_numbers.proofs.NumberLaws.{place_is}
use Rattle.clause_ground.proofs.Right.{right}
use Rattle.clause_ground.proofs.RootLaws.{root_clause, possible_shape, focus_possible}
use Rattle.clause_ground.proofs.Working.{get_in, in_place}

no_atom_free : NoAtom ≡ Free → ⊥
no_atom_free e = cc

parts_free : (ps : Parts) → ByParts ps ≡ Free → ⊥
parts_free ps e = cc

count_free : (i x j m : ℕ) (p : Part) → ByCount i x j m p ≡ Free → ⊥
count_free i x j m p e = cc

-- what nothing fixes is a candidate
module _ (s : Setting) where
  by_parts_free : (o : Option Parts) → by_parts o ≡ Free → ⊥
  by_parts_free None e = no_atom_free e
  by_parts_free (Some ps) e = parts_free ps e

  by_count_free : (i x j m : ℕ) (o : Option Constraint) → unwrap_or (option_and_then (λ (c : Constraint). Some (by_count s i c.shape x j m (form_of c.kind))) o) NoAtom ≡ Free → ⊥
  by_count_free i x j m None e = no_atom_free e
  by_count_free i x j m (Some c) e = go (is_node s x && (Rattle.std.specs.Prelude.nat_le 1 m && (Rattle.std.specs.Prelude.nat_le m j && Rattle.std.specs.Prelude.nat_le m (need (form_of c.kind))))) (slice_get (items s c.shape x (form_of c.kind)) (Rattle.std.specs.Prelude.◌-◌ j 1)) e
    where
      go : (b : Bool) (o : Option ℕ) → (if b then by_item s i c.shape x j m (form_of c.kind) o else NoAtom) ≡ Free → ⊥
      go true None e = no_atom_free e
      go true (Some y) e = count_free i x j m _ e
      go false o e = no_atom_free e

  candidate : (a : Atom) → fixing s a ≡ Free → (t : ℕ) × (a ≡ atom.Triple t)
  candidate (atom.Triple t) e = (t, refl)
  candidate (atom.Count i x j m) e = absurd (by_count_free i x j m (constraint_at s.shapes i) e)
  candidate (atom.Reach p x y) e = absurd (by_parts_free (parts_of s (atom.Reach p x y)) e)
  candidate (atom.Level p k x y) e = absurd (by_parts_free (parts_of s (atom.Level p k x y)) e)
  candidate (atom.Middle p k x z y) e = absurd (by_parts_free (parts_of s (atom.Middle p k x z y)) e)
  candidate (atom.Good i y) e = absurd (by_parts_free (parts_of s (atom.Good i y)) e)
  candidate (atom.Marked i x y) e = absurd (by_parts_free (parts_of s (atom.Marked i x y)) e)
  candidate (atom.Differ i x y) e = absurd (by_parts_free (parts_of s (atom.Differ i x y)) e)
  candidate (atom.Twin i x y z) e = absurd (by_parts_free (parts_of s (atom.Twin i x y z)) e)
  candidate (atom.Holds i x) e = absurd (by_parts_free (parts_of s (atom.Holds i x)) e)
  candidate (atom.Conforms n x) e = absurd (by_parts_free (parts_of s (atom.Conforms n x)) e)
  candidate (atom.Target n x) e = absurd (by_parts_free (parts_of s (atom.Target n x)) e)

module _ (s : Setting) (profile : IsInProfile s.shapes) (order : IsOrdered (fixing s)) (ps : List Premise) (ats : List Atom) (all : AreNeeded s ps ats) (apart : AreApart ats) where
  kept : (q : Rule) → IsNeeded s q → IsKept s (rules_of ps) q
  kept q n = go (clause_in s q) refl
    where
      go : (c : Clause) → clause_in s q ≡ c → IsKept s (rules_of ps) q
      go Tautology e = inl e
      go (Literals ls) e = inr ((all.needed q).1 (n, λ f. let g : Literals ls ≡ Tautology = sym e ∙ f in absurd (cc)))
      go OutOfRange e = inr ((all.needed q).1 (n, λ f. let g : OutOfRange ≡ Tautology = sym e ∙ f in absurd (cc)))

  made : (a : Atom) → Occurs s (rules_of ps) a → (q : Rule) → IsRuleOf s a q → IsKept s (rules_of ps) q
  made a o q r = let n = ((all.needed o.0).0 o.1).0 in kept q (suc n.0, inr (o.0, a, n.1, o.2, r))

  root_stands : (n x : ℕ) (a : Atom) → Stands (root_literals n x) a → (atom.Target n x ≡ a) ⊎ (atom.Conforms n x ≡ a)
  root_stands n x a (inl e) = inl e
  root_stands n x a (inr (inl e)) = inr e
  root_stands n x a (inr (inr h)) = absurd h

  -- what stands in needed rules are atoms
  needed_proper : (n : ℕ) (q : Rule) → NeededIn s n q → (a : Atom) → StandsIn s q a → fixing s a ≢ NoAtom
  needed_proper zero q r a t = pick (root_stands r.0 r.1 a (subst (λ ls. Stands ls a) same t.stands))
    where
      l : (r.0 < length (Rattle.shapes_profile.specs.Shapes.shape_terms s.shapes)) × (r.1 < node_count s)
      l = possible_shape s r.0 r.1 r.2

      shape : is_shape s r.0 ≡ true
      shape = lt-ltb r.0 (length (Rattle.shapes_profile.specs.Shapes.shape_terms s.shapes)) l.0

      there : is_node s r.1 ≡ true
      there = lt-ltb r.1 (node_count s) l.1

      same : t.literals ≡ root_literals r.0 r.1
      same = literals_are (sym t.here ∙ (ap (clause_in s) r.3 ∙ root_clause s r.0 r.1 shape there))

      pick : (atom.Target r.0 r.1 ≡ a) ⊎ (atom.Conforms r.0 r.1 ≡ a) → fixing s a ≢ NoAtom
      pick (inl e) = subst (λ b. fixing s b ≢ NoAtom) e (root_proper s r.0 r.1 shape there).0
      pick (inr e) = subst (λ b. fixing s b ≢ NoAtom) e (root_proper s r.0 r.1 shape there).1
  needed_proper (suc n) q (inl r) a t = needed_proper n q r a t
  needed_proper (suc n) q (inr r) a t = pick (needed_proper n r.0 r.2 r.1 r.3) (stands_among r.1 (fixing s r.1) (order.own r.1) r.4.0 t.literals a (sym (rule_clause_at s r.1 r.4.0 q r.4.2) ∙ t.here) t.stands)
    where
      pick : fixing s r.1 ≢ NoAtom → (a ≡ r.1) ⊎ ((m : Literal) × In (literals (lower (fixing s r.1))) m × (m.atom ≡ a)) → fixing s a ≢ NoAtom
      pick own (inl e) = subst (λ b. fixing s b ≢ NoAtom) (sym e) own
      pick own (inr m) = subst (λ b. fixing s b ≢ NoAtom) m.2 (order.proper r.1 m.0 m.1)

  pub proper : (a : Atom) → Occurs s (rules_of ps) a → fixing s a ≢ NoAtom
  proper a o = let n = ((all.needed o.0).0 o.1).0 in needed_proper n.0 o.0 n.1 a o.2

  -- and they are atoms of roots, or of parts that fix such
  needed_atom : (n : ℕ) (q : Rule) → NeededIn s n q → (a : Atom) → StandsIn s q a → IsNeededAtom s a
  needed_atom zero q r a t = pick (root_stands r.0 r.1 a (subst (λ ls. Stands ls a) same t.stands))
    where
      l : (r.0 < length (Rattle.shapes_profile.specs.Shapes.shape_terms s.shapes)) × (r.1 < node_count s)
      l = possible_shape s r.0 r.1 r.2

      same : t.literals ≡ root_literals r.0 r.1
      same = literals_are (sym t.here ∙ (ap (clause_in s) r.3 ∙ root_clause s r.0 r.1 (lt-ltb r.0 (length (Rattle.shapes_profile.specs.Shapes.shape_terms s.shapes)) l.0) (lt-ltb r.1 (node_count s) l.1)))

      pick : (atom.Target r.0 r.1 ≡ a) ⊎ (atom.Conforms r.0 r.1 ≡ a) → IsNeededAtom s a
      pick (inl e) = (0, (r.0, r.1, r.2, inl (sym e)))
      pick (inr e) = (0, (r.0, r.1, r.2, inr (sym e)))
  needed_atom (suc n) q (inl r) a t = needed_atom n q r a t
  needed_atom (suc n) q (inr r) a t = pick (needed_atom n r.0 r.2 r.1 r.3) (stands_among r.1 (fixing s r.1) (order.own r.1) r.4.0 t.literals a (sym (rule_clause_at s r.1 r.4.0 q r.4.2) ∙ t.here) t.stands)
    where
      pick : IsNeededAtom s r.1 → (a ≡ r.1) ⊎ ((m : Literal) × In (literals (lower (fixing s r.1))) m × (m.atom ≡ a)) → IsNeededAtom s a
      pick own (inl e) = subst (IsNeededAtom s) (sym e) own
      pick own (inr m) = (suc own.0, inr (r.1, m.0, own.1, m.1, m.2))

  pub atoms_needed : (a : Atom) → In ats a → IsNeededAtom s a
  atoms_needed a h = let o = (all.occur a).0 h in let n = ((all.needed o.0).0 o.1).0 in needed_atom n.0 o.0 n.1 a o.2

  module _ (v : ℕ → Bool) (truth : AreTrue v (clauses_of ps)) (g : Graph) (within : IsEdit s g) (agrees : (n t : ℕ) → slice_get ats n ≡ Some (atom.Triple t) → HoldsIf (v n) (Means s g (atom.Triple t))) where
    abbrev value : Atom → Bool
    value a = v (position_or_len (eq-value.it a) ats)

    value_is : (n : ℕ) (a : Atom) → slice_get ats n ≡ Some a → value a ≡ v n
    value_is n a e = ap v (place_is ats apart a n e)

    same_values : (c : List Lit) → is_within (length ats) c ≡ true → list_any (literal_value value) (clause_of ats c) ≡ list_any (lit_value v) c
    same_values [] h = refl
    same_values (l ∷ c) h =
        let lt = ltb-true l.var (length ats) (and_left (nat_lt l.var (length ats)) (is_within (length ats) c) h) in
        let e : value (get_or ats l.var (atom.Triple 0)) ≡ v l.var = value_is l.var (get_or ats l.var (atom.Triple 0)) (slice_get-get_or ats l.var (atom.Triple 0) lt) in
        let f = same_values c (and_right (nat_lt l.var (length ats)) (is_within (length ats) c) h) in
        λ i. signed l.positive (e i) || f i

    clause_there : (rs : List Premise) (p : Premise) → In rs p → In (clauses_of rs) p.lits
    clause_there [] p h = absurd h
    clause_there (r ∷ rs) p (inl e) = inl (ap (λ (x : Premise). x.lits) e)
    clause_there (r ∷ rs) p (inr h) = inr (clause_there rs p h)

    rule_true : (q : Rule) (ls : List Literal) → In (rules_of ps) q → clause_in s q ≡ Literals ls → list_any (literal_value value) ls ≡ true
    rule_true q ls h e =
        let r = rule_premise ps q h in
        let n = all.numbered r.0 r.1 in
        let f : ls ≡ clause_of ats r.0.lits = literals_are (sym e ∙ (ap (clause_in s) (sym r.2) ∙ n.0)) in
        ap (list_any (literal_value value)) f ∙ (same_values r.0.lits n.1 ∙ truth r.0.lits (clause_there ps r.0 r.1))

    free : (a : Atom) → Occurs s (rules_of ps) a → fixing s a ≡ Free → HoldsIf (value a) (Means s g a)
    free a o e =
        let c = candidate s a e in
        let i = in_place ats a ((all.occur a).1 o) in
        let here : slice_get ats i.0 ≡ Some (atom.Triple c.0) = i.2 ∙ ap Some c.1 in
        subst (λ b. HoldsIf b (Means s g a)) (sym (value_is i.0 a i.2)) (subst (λ b. HoldsIf (v i.0) (Means s g b)) (sym c.1) (agrees i.0 c.0 here))

    atom_right : (a : Atom) → Occurs s (rules_of ps) a → HoldsIf (value a) (Means s g a)
    atom_right a o = right s order (rules_of ps) (given s ps ats all.numbered) made (Means s g) (means_fixing s profile g within) value rule_true free proper a o

    pub meanings_hold : HasMeanings s ats v g
    meanings_hold n a e = subst (λ b. HoldsIf b (Means s g a)) (value_is n a e) (atom_right a ((all.occur a).0 (get_in ats n a e)))

    -- a root that is true
    root_holds : (n x : ℕ) → CanBeFocus s n x → Means s g (atom.Target n x) → Means s g (atom.Conforms n x)
    root_holds n x can target = from (kept (root n x) (0, (n, x, can, refl)))
      where
        l : (n < length (Rattle.shapes_profile.specs.Shapes.shape_terms s.shapes)) × (x < node_count s)
        l = possible_shape s n x can

        is : clause_in s (root n x) ≡ Literals (root_literals n x)
        is = root_clause s n x (lt-ltb n (length (Rattle.shapes_profile.specs.Shapes.shape_terms s.shapes)) l.0) (lt-ltb x (node_count s) l.1)

        so : (a b : Bool) → HoldsIf a (Means s g (atom.Target n x)) → HoldsIf b (Means s g (atom.Conforms n x)) → (not a || (b || false)) ≡ true → Means s g (atom.Conforms n x)
        so a true k m e = m
        so true false k m e = absurd (no_false false e refl)
        so false false k m e = absurd (k target)

        from : IsKept s (rules_of ps) (root n x) → Means s g (atom.Conforms n x)
        from (inl e) = let f : Literals (root_literals n x) ≡ Tautology = sym is ∙ e in absurd (cc)
        from (inr h) =
            so (value (atom.Target n x)) (value (atom.Conforms n x))
            (atom_right (atom.Target n x) (root n x, h, record { literals = root_literals n x; here = is; stands = inl refl }))
            (atom_right (atom.Conforms n x) (root n x, h, record { literals = root_literals n x; here = is; stands = inr (inl refl) }))
            (rule_true (root n x) (root_literals n x) h is)

    pub conforms_here : Conforms s.shapes g
    unfolding Conforms
    conforms_here n x focus =
        let r = focus_node s g within n x focus in
        let k = r.1.0 in
        let there : is_node s k ≡ true = lt-ltb k (node_count s) r.1.1 in
        let own : IsFocus s.shapes n g (node s k) = subst (IsFocus s.shapes n g) (sym r.1.2) focus in
        let can = focus_possible s profile n k g within r.0 there own in
        let target = (of_node s k (λ a. IsFocus s.shapes n g a) r.1.1).1 own in
        subst (ConformsTo s.shapes g n) r.1.2 ((of_node s k (λ a. ConformsTo s.shapes g n a) r.1.1).0 (root_holds n k can target))
