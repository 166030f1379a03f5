-- The clause of each rule.
use Rattle.std.specs.Prelude.{◌≡◌, ℕ, ◌&&◌, true, false, not, List, [], ◌∷◌, map, length}
use Rattle.std.specs.Prelude.{Option, Some, None, option_and_then, slice_get, nat_eq, nat_lt, if◌then◌else◌}
use Rattle.std.specs.Prelude.{Result, Ok, Err}
use Rattle.std.specs.List.{list_any}
use Rattle.repair_problem.specs.declared.atom.Atom.{Atom}
use Rattle.repair_problem.specs.declared.atom.Atom.TheVariants as atom
use Rattle.repair_problem.specs.declared.atom.Literal.{Literal}
use Rattle.repair_problem.specs.declared.atom.Part.{Part}
use Rattle.repair_problem.specs.Setting.{Setting}
use Rattle.repair_problem.specs.Candidates.{candidates, in_data}
use Rattle.proof_lines.specs.declared.rule.RuleName.{RuleName}
use Rattle.proof_lines.specs.declared.rule.RuleName.TheVariants.{Reach, Level, Middle, Good, Marked, Count, Differ}
use Rattle.proof_lines.specs.declared.rule.RuleName.TheVariants.{Twin, Holds, Conforms, Target, Root, Outside, Undo}
use Rattle.path_levels.specs.PathParts.{literal}
use Rattle.premise_rules.specs.declared.clause.Clause.{Clause}
use Rattle.premise_rules.specs.declared.clause.Clause.TheVariants as clause
use Rattle.premise_rules.specs.declared.refusal.RuleRefusal.{RuleRefusal}
use Rattle.premise_rules.specs.declared.refusal.RuleRefusal.TheVariants as refusal
use Rattle.premise_rules.specs.Literals.{finished}
use Rattle.atom_parts.specs.PartsTable.{is_node, is_shape}
use Rattle.atom_parts.specs.Fixing.{fixing}
use Rattle.premise_rules.specs.PlaceClauses.{clause_at}

-- the atom that a rule names by its numbers, and the place of the clause
abbrev pub atom_and_place : RuleName → List ℕ → Option (Atom × ℕ)
atom_and_place Reach (p ∷ x ∷ y ∷ k ∷ []) = Some (atom.Reach p x y, k)
atom_and_place Level (p ∷ l ∷ x ∷ y ∷ k ∷ []) = Some (atom.Level p l x y, k)
atom_and_place Middle (p ∷ l ∷ x ∷ z ∷ y ∷ k ∷ []) = Some (atom.Middle p l x z y, k)
atom_and_place Good (i ∷ y ∷ k ∷ []) = Some (atom.Good i y, k)
atom_and_place Marked (i ∷ x ∷ y ∷ k ∷ []) = Some (atom.Marked i x y, k)
atom_and_place Count (i ∷ x ∷ j ∷ m ∷ k ∷ []) = Some (atom.Count i x j m, k)
atom_and_place Differ (i ∷ x ∷ y ∷ k ∷ []) = Some (atom.Differ i x y, k)
atom_and_place Twin (i ∷ x ∷ y ∷ z ∷ k ∷ []) = Some (atom.Twin i x y z, k)
atom_and_place Holds (i ∷ x ∷ k ∷ []) = Some (atom.Holds i x, k)
atom_and_place Conforms (n ∷ x ∷ k ∷ []) = Some (atom.Conforms n x, k)
atom_and_place Target (n ∷ x ∷ k ∷ []) = Some (atom.Target n x, k)
atom_and_place _ _ = None

module _ (s : Setting) where
  -- a focus node of a shape conforms to it
  abbrev pub root_parts : ℕ → ℕ → Option (List Part)
  root_parts n x =
      if is_shape s n && is_node s x then Some (literal (atom.Target n x) false ∷ literal (atom.Conforms n x) true ∷ [])
      else None

  -- the candidate is as in the data
  abbrev pub unchanged : ℕ → Part
  unchanged t = literal (atom.Triple t) (in_data s t)

  -- a candidate that isn't in the pair is as in the data
  abbrev pub outside_parts : ℕ → List ℕ → Option (List Part)
  outside_parts t pair =
      if nat_lt t (length (candidates s)) && not (list_any (λ u. nat_eq t u) pair) then Some (unchanged t ∷ [])
      else None

  -- some candidate of the pair is as in the data
  abbrev pub undo_parts : List ℕ → List Part
  undo_parts pair = map unchanged pair

  -- the parts of the clause of a rule, if its numbers are in range; chain: the pairs so far, by the numbers of the
  -- candidates that they change
  abbrev pub rule_parts : List (List ℕ) → RuleName → List ℕ → Option (List Part)
  rule_parts chain Root (n ∷ x ∷ []) = root_parts n x
  rule_parts chain Outside (j ∷ t ∷ []) = option_and_then (outside_parts t) (slice_get chain j)
  rule_parts chain Undo (j ∷ []) = option_and_then (λ pair. Some (undo_parts pair)) (slice_get chain j)
  rule_parts chain name numbers =
      option_and_then (λ r. clause_at r.0 (fixing s r.0) r.1) (atom_and_place name numbers)

  abbrev pub rule_clause : List (List ℕ) → RuleName → List ℕ → Clause
  rule_clause chain name numbers = finished (rule_parts chain name numbers)

-- each answer comes exactly where the clause is so; want of memory says nothing
abbrev pub Answers : Clause → Result (List Literal) RuleRefusal → Type 0
Answers c (Ok ls) = c ≡ clause.Literals ls
Answers c (Err refusal.Tautology) = c ≡ clause.Tautology
Answers c (Err refusal.OutOfRange) = c ≡ clause.OutOfRange
Answers c (Err refusal.OutOfMemory) = Unit {0}
