-- What stands in the clause of a rule is an atom of the shapes, the data and the offers.
use Rattle.std.proofs.Common.{◌≡◌, ◌≢◌, ◌⊎◌, inl, inr, ℕ, ◌<◌, Bool, true, false, not, ◌&&◌, nat_eq, nat_lt, cond, List, [], ◌∷◌, map, length, Option, None, Some, option_and_then, slice_get, refl, sym, ap, ◌∙◌, subst}
use Rattle.std.specs.List.{All, Contains, list_any}
use Rattle.std.proofs.lemmas.Bool.{lt-ltb}
use Rattle.std.proofs.lemmas.List.Elements.{All-contains}
use Rattle.std.proofs.lemmas.Option.{slice_get_within, get_or_from_slice_get}
use Rattle.shapes_profile.specs.Profile.{IsInProfile}
use Rattle.repair_problem.specs.declared.atom.Atom.{Atom}
use Rattle.repair_problem.specs.declared.atom.Atom.TheVariants as atom
use Rattle.repair_problem.specs.declared.atom.Literal.{Literal}
use Rattle.repair_problem.specs.declared.atom.Part.{Part}
use Rattle.repair_problem.specs.Setting.{Setting}
use Rattle.repair_problem.specs.Candidates.{candidates}
use Rattle.repair_problem.specs.Changes.{AreCandidates}
use Rattle.proof_lines.specs.declared.rule.RuleName.{RuleName}
use Rattle.proof_lines.specs.declared.rule.RuleName.TheVariants as rule
use Rattle.path_levels.specs.PathParts.{literal}
use Rattle.atom_parts.specs.PartLiterals.{In, literals}
use Rattle.atom_parts.specs.PartsTable.{is_node, is_shape}
use Rattle.atom_parts.specs.Fixing.{Fixing, NoAtom, Free, fixing, lower}
use Rattle.atom_parts.proofs.Facts.{in_contains, contains_in}
use Rattle.atom_parts.proofs.Owned.{own_fixing}
use Rattle.atom_parts.proofs.Proper.{all_proper, root_proper}
use Rattle.premise_rules.specs.declared.clause.Clause.TheVariants.{Literals}
use Rattle.premise_rules.specs.Literals.{finished}
use Rattle.premise_rules.specs.PlaceClauses.{clause_at}
use Rattle.premise_rules.specs.RuleClauses.{atom_and_place, unchanged, outside_parts, undo_parts, rule_clause}
use Rattle.premise_rules.proofs.AnsweredLiterals.{finished_as, literals_only}
use Rattle.atom_numbers.specs.Numbers.{Stands}
use Rattle.clause_ground.proofs.ClauseAtoms.{stands_among}
use Rattle.certificates.specs.Steps.{AreAtomsIn}
use Rattle.explain_cli.specs.Explanations.{IsAtom}

in_stands : (ls : List Literal) (l : Literal) → In ls l → Stands ls l.atom
in_stands [] l h = absurd h
in_stands (m ∷ ls) l (inl e) = inl (ap (λ (x : Literal). x.atom) e)
in_stands (m ∷ ls) l (inr h) = inr (in_stands ls l h)

module _ (s : Setting) (profile : IsInProfile s.shapes) where
  abbrev AreAtoms : List Literal → Type 0
  AreAtoms ls = (l : Literal) → In ls l → IsAtom s l.atom

  -- the atom of the literal is the one of another that is the same
  moved : (m l : Literal) → m ≡ l → IsAtom s m.atom → IsAtom s l.atom
  moved m l e is = subst (λ (x : Literal). IsAtom s x.atom) e is

  -- of a clause of these parts
  of_parts : (ps : List Part) (ls : List Literal) → AreAtoms (literals ps) → finished (Some ps) ≡ Literals ls → AreAtoms ls
  of_parts ps ls each e l h = let f = finished_as ps ls e in each l (literals_only (literals ps) l (subst (λ xs. In xs l) (sym f.same) h))

  -- of the clauses that fix an atom
  of_place : (a : Atom) (k : ℕ) (ls : List Literal) → finished (clause_at a (fixing s a) k) ≡ Literals ls → AreAtoms ls
  of_place a k ls e l h = pick (stands_among a (fixing s a) (own_fixing s a) k ls l.atom e (in_stands ls l h))
    where
      own : IsAtom s a
      own none = let out : finished (clause_at a NoAtom k) ≡ Literals ls = subst (λ (f : Fixing). finished (clause_at a f k) ≡ Literals ls) none e in cc

      pick : (l.atom ≡ a) ⊎ ((m : Literal) × In (literals (lower (fixing s a))) m × (m.atom ≡ l.atom)) → IsAtom s l.atom
      pick (inl same) = subst (IsAtom s) (sym same) own
      pick (inr m) = subst (IsAtom s) m.2 (all_proper s profile a m.0 m.1)

  of_atom : (o : Option (Atom × ℕ)) (ls : List Literal) → finished (option_and_then (λ r. clause_at r.0 (fixing s r.0) r.1) o) ≡ Literals ls → AreAtoms ls
  of_atom None ls e = absurd (cc)
  of_atom (Some r) ls e = of_place r.0 r.1 ls e

  -- of a root
  of_root : (n x : ℕ) (ls : List Literal) → rule_clause s [] rule.Root (n ∷ x ∷ []) ≡ Literals ls → AreAtoms ls
  of_root n x ls e = go (is_shape s n) (is_node s x) refl refl e
    where
      go : (a b : Bool) → is_shape s n ≡ a → is_node s x ≡ b → finished (cond (a && b) (Some (literal (atom.Target n x) false ∷ literal (atom.Conforms n x) true ∷ [])) None) ≡ Literals ls → AreAtoms ls
      go true true i j e = of_parts (literal (atom.Target n x) false ∷ literal (atom.Conforms n x) true ∷ []) ls each e
        where
          each : AreAtoms (literals (literal (atom.Target n x) false ∷ literal (atom.Conforms n x) true ∷ []))
          each l (inl g) = moved _ l g (root_proper s n x i j).0
          each l (inr (inl g)) = moved _ l g (root_proper s n x i j).1
          each l (inr (inr g)) = absurd g
      go true false i j e = absurd (cc)
      go false b i j e = absurd (cc)

  candidate_atom : (t : ℕ) → t < length (candidates s) → IsAtom s (atom.Triple t)
  candidate_atom t below none =
      let free : Free ≡ NoAtom = subst (λ b. cond b Free NoAtom ≡ NoAtom) (lt-ltb t (length (candidates s)) below) none in
      cc

  -- of candidates as they are in the data
  unchanged_atoms : (pair : List ℕ) → ((t : ℕ) → In pair t → t < length (candidates s)) → AreAtoms (literals (map (unchanged s) pair))
  unchanged_atoms [] each l h = absurd h
  unchanged_atoms (t ∷ pair) each l (inl g) = moved _ l g (candidate_atom t (each t (inl refl)))
  unchanged_atoms (t ∷ pair) each l (inr h) = unchanged_atoms pair (λ u k. each u (inr k)) l h

  of_outside : (t : ℕ) (o : Option (List ℕ)) (ls : List Literal) → finished (option_and_then (outside_parts s t) o) ≡ Literals ls → AreAtoms ls
  of_outside t None ls e = absurd (cc)
  of_outside t (Some pair) ls e = go (nat_lt t (length (candidates s))) (not (list_any (λ u. nat_eq t u) pair)) refl e
    where
      go : (a b : Bool) → nat_lt t (length (candidates s)) ≡ a → finished (cond (a && b) (Some (unchanged s t ∷ [])) None) ≡ Literals ls → AreAtoms ls
      go true true i e = of_parts (unchanged s t ∷ []) ls (unchanged_atoms (t ∷ []) (λ u k. one u k)) e
        where
          below : t < length (candidates s)
          below = Rattle.std.proofs.lemmas.Bool.ltb-true t (length (candidates s)) i

          one : (u : ℕ) → In (t ∷ []) u → u < length (candidates s)
          one u (inl g) = subst (λ v. v < length (candidates s)) g below
          one u (inr g) = absurd g
      go true false i e = absurd (cc)
      go false b i e = absurd (cc)

  of_undo : (chain : List (List ℕ)) (j : ℕ) (o : Option (List ℕ)) (ls : List Literal) → All (AreCandidates s) chain → slice_get chain j ≡ o → finished (option_and_then (λ pair. Some (undo_parts s pair)) o) ≡ Literals ls → AreAtoms ls
  of_undo chain j None ls are here e = absurd (cc)
  of_undo chain j (Some pair) ls are here e =
      let own : AreCandidates s pair = subst (AreCandidates s) (get_or_from_slice_get chain j pair pair here) (are j pair (slice_get_within chain j pair here)) in
      of_parts (undo_parts s pair) ls (unchanged_atoms pair (λ t k. All-contains (λ u. u < length (candidates s)) pair t own (in_contains pair t k))) e

  of_rule : (chain : List (List ℕ)) (name : RuleName) (numbers : List ℕ) (ls : List Literal) → All (AreCandidates s) chain → rule_clause s chain name numbers ≡ Literals ls → AreAtoms ls
  of_rule chain rule.Reach numbers ls are e = of_atom (atom_and_place rule.Reach numbers) ls e
  of_rule chain rule.Level numbers ls are e = of_atom (atom_and_place rule.Level numbers) ls e
  of_rule chain rule.Middle numbers ls are e = of_atom (atom_and_place rule.Middle numbers) ls e
  of_rule chain rule.Good numbers ls are e = of_atom (atom_and_place rule.Good numbers) ls e
  of_rule chain rule.Marked numbers ls are e = of_atom (atom_and_place rule.Marked numbers) ls e
  of_rule chain rule.Count numbers ls are e = of_atom (atom_and_place rule.Count numbers) ls e
  of_rule chain rule.Differ numbers ls are e = of_atom (atom_and_place rule.Differ numbers) ls e
  of_rule chain rule.Twin numbers ls are e = of_atom (atom_and_place rule.Twin numbers) ls e
  of_rule chain rule.Holds numbers ls are e = of_atom (atom_and_place rule.Holds numbers) ls e
  of_rule chain rule.Conforms numbers ls are e = of_atom (atom_and_place rule.Conforms numbers) ls e
  of_rule chain rule.Target numbers ls are e = of_atom (atom_and_place rule.Target numbers) ls e
  of_rule chain rule.Root [] ls are e = absurd (cc)
  of_rule chain rule.Root (n ∷ []) ls are e = absurd (cc)
  of_rule chain rule.Root (n ∷ x ∷ []) ls are e = of_root n x ls e
  of_rule chain rule.Root (n ∷ x ∷ y ∷ more) ls are e = absurd (cc)
  of_rule chain rule.Outside [] ls are e = absurd (cc)
  of_rule chain rule.Outside (j ∷ []) ls are e = absurd (cc)
  of_rule chain rule.Outside (j ∷ t ∷ []) ls are e = of_outside t (slice_get chain j) ls e
  of_rule chain rule.Outside (j ∷ t ∷ u ∷ more) ls are e = absurd (cc)
  of_rule chain rule.Undo [] ls are e = absurd (cc)
  of_rule chain rule.Undo (j ∷ []) ls are e = of_undo chain j (slice_get chain j) ls are refl e
  of_rule chain rule.Undo (j ∷ t ∷ more) ls are e = absurd (cc)

-- so a list with all atoms has those of every clause
pub rule_atoms_in : (s : Setting) (atoms : List Atom) → IsInProfile s.shapes → ((a : Atom) → IsAtom s a → Contains atoms a) → (chain : List (List ℕ)) (name : RuleName) (numbers : List ℕ) (c : List Literal) → All (AreCandidates s) chain → rule_clause s chain name numbers ≡ Literals c → AreAtomsIn atoms c
rule_atoms_in s atoms profile all chain name numbers c are e l h = all l.atom (of_rule s profile chain name numbers c are e l (contains_in c l h))
