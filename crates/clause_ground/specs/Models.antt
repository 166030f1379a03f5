-- Assignments that make all clauses true, and the edited graphs that they stand for.
use Rattle.std.specs.Prelude.{◌≡◌, ℕ, suc, Bool, IsTrue, List, [], ◌∷◌, ◌++◌, Some, slice_get, if◌then◌else◌}
use Rattle.std.specs.List.{list_any}
use Rattle.rdf_terms.specs.Graph.{Graph}
use Rattle.shapes_graph.specs.Conformance.{Conforms}
use Rattle.clause_store.specs.declared.lit.Lit.{Lit}
use Rattle.repair_problem.specs.declared.atom.Atom.{Atom}
use Rattle.repair_problem.specs.declared.atom.Atom.TheVariants as atom
use Rattle.repair_problem.specs.Setting.{Setting, IsEdit}
use Rattle.repair_problem.specs.Candidates.{in_data, edited_by}
use Rattle.repair_problem.specs.Changes.{ChangeExplains}
use Rattle.repair_problem.specs.Meaning.{Means}
use Rattle.repair_problem.specs.PartMeaning.{HoldsIf}
use Rattle.count_encode.specs.PartTruth.{signed}
use Rattle.atom_parts.specs.PartLiterals.{In}
use Rattle.premise_rules.specs.Premises.{IsTrueOf}
use Rattle.atom_numbers.specs.Numbers.{clause_of}

-- the value of a literal, where variables have these values
abbrev pub lit_value : (ℕ → Bool) → Lit → Bool
lit_value v l = signed l.positive (v l.var)

-- each clause has a true literal
abbrev pub AreTrue : (ℕ → Bool) → List (List Lit) → Type 0
AreTrue v clauses = (c : List Lit) → In clauses c → IsTrue (list_any (lit_value v) c)

module _ (s : Setting) where
  -- the candidate of the atom, where its value isn't whether it is in the data
  abbrev pub changed_at : (ℕ → Bool) → ℕ → Atom → List ℕ
  changed_at v n (atom.Triple t) = if signed (in_data s t) (v n) then [] else t ∷ []
  changed_at v n a = []

  -- the candidates that are changed, of the atoms with numbers from n on
  abbrev pub changed_from : (ℕ → Bool) → ℕ → List Atom → List ℕ
  changed_from v n [] = []
  changed_from v n (a ∷ atoms) = changed_at v n a ++ changed_from v (suc n) atoms

  abbrev pub changed : (ℕ → Bool) → List Atom → List ℕ
  changed v atoms = changed_from v 0 atoms

  -- each atom has the value of what it means in the graph
  abbrev pub HasMeanings : List Atom → (ℕ → Bool) → Graph → Type 0
  HasMeanings atoms v g = (n : ℕ) (a : Atom) → slice_get atoms n ≡ Some a → HoldsIf (v n) (Means s g a)

  -- whatever makes all clauses true is a change that explains, and the atoms have their meanings in the edited graph;
  -- and the meanings in each edited graph that conforms make all clauses true
  pub record AreOfExplanations (clauses : List (List Lit)) (atoms : List Atom) : Type 0 where
    pub explains : (v : ℕ → Bool) → AreTrue v clauses → ChangeExplains (Conforms s.shapes) s (changed v atoms)
    pub meanings : (v : ℕ → Bool) → AreTrue v clauses → HasMeanings atoms v (edited_by s (changed v atoms))
    pub all : (g : Graph) → IsEdit s g → Conforms s.shapes g → (c : List Lit) → In clauses c
        → IsTrueOf (Means s g) (clause_of atoms c)
