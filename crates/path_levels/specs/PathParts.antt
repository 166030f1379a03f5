-- What the atoms of paths come down to.
use Rattle.std.specs.Prelude.{ℕ, zero, suc, ◌+◌, ◌-◌, ◌&&◌, Bool, true, false, List, [], ◌∷◌, map, length}
use Rattle.std.specs.Prelude.{Option, Some, None, slice_get, nat_eq, nat_lt, if◌then◌else◌}
use Rattle.std.specs.List.{list_any}
use Rattle.rdf_terms.specs.declared.term.Term.TheVariants.{Iri}
use Rattle.rdf_terms.specs.Statement.{Statement}
use Rattle.shapes_graph.specs.declared.paths.PathForm.{PathForm}
use Rattle.shapes_graph.specs.declared.paths.PathForm.TheVariants.{Predicate, Inverse, Sequence, Alternative}
use Rattle.shapes_graph.specs.declared.paths.PathForm.TheVariants.{ZeroOrMore, OneOrMore, ZeroOrOne}
use Rattle.shapes_graph.specs.PathForms.{paths}
use Rattle.repair_problem.specs.declared.atom.Atom.{Atom}
use Rattle.repair_problem.specs.declared.atom.Atom.TheVariants as atom
use Rattle.repair_problem.specs.declared.atom.Part.{Part}
use Rattle.repair_problem.specs.declared.atom.Part.TheVariants.{Fixed, Lit}
use Rattle.repair_problem.specs.declared.atom.Parts.{Parts}
use Rattle.repair_problem.specs.Setting.{Setting, node}
use Rattle.repair_problem.specs.Candidates.{candidate_number}
use Rattle.path_levels.specs.PossibleNodes.{possible}

-- the atom, or its denial
abbrev pub literal : Atom → Bool → Part
literal a positive = Lit (record { atom = a; positive = positive })

-- where the numbers name no atom, false stands; among parts such a fact is false in each edited graph
abbrev pub named : Bool → Atom → Part
named is_atom a = if is_atom then literal a true else Fixed false

-- Level 0 of zero or more steps is no atom: it says that the nodes are one.
abbrev pub is_start : Option PathForm → ℕ → Bool
is_start (Some (ZeroOrMore q)) zero = true
is_start _ k = false

-- whether there is an atom of level k, where the path can lead to n nodes
abbrev pub has_level : Option PathForm → ℕ → ℕ → Bool
has_level (Some (ZeroOrMore q)) k n = nat_lt 0 k && nat_lt k n
has_level (Some (OneOrMore q)) k n = nat_lt k n
has_level _ k n = false

module _ (s : Setting) where
  -- the form of a path
  abbrev pub form_at : ℕ → Option PathForm
  form_at p = slice_get (paths s.shapes) p

  -- whether path p can lead from node x to node y
  abbrev pub is_possible : ℕ → ℕ → ℕ → Bool
  is_possible p x y = list_any (λ z. nat_eq y z) (possible s p x)

  -- As many steps as there are possible nodes but one are enough: a walk without repeats has no more, in whatever
  -- edited graph.
  abbrev pub last_level : ℕ → ℕ → ℕ
  last_level p x = length (possible s p x) - 1

  -- whether the numbers name a middle of the path
  abbrev pub has_middle : Option PathForm → ℕ → ℕ → ℕ → ℕ → ℕ → Bool
  has_middle (Some (Sequence a b)) p k x z y = nat_eq k 0 && (is_possible a x z && is_possible b z y)
  has_middle (Some (ZeroOrMore q)) p k x z y =
      nat_lt (k + 1) (length (possible s p x)) && (is_possible p x z && is_possible q z y)
  has_middle (Some (OneOrMore q)) p k x z y =
      nat_lt (k + 1) (length (possible s p x)) && (is_possible p x z && is_possible q z y)
  has_middle _ p k x z y = false

  -- whether the numbers name an atom of a path
  abbrev pub is_path_atom : Atom → Bool
  is_path_atom (atom.Reach p x y) = is_possible p x y
  is_path_atom (atom.Level p k x y) = is_possible p x y && has_level (form_at p) k (length (possible s p x))
  is_path_atom (atom.Middle p k x z y) = has_middle (form_at p) p k x z y
  is_path_atom _ = false

  -- an atom of a path as a part
  abbrev pub path_part : Atom → Part
  path_part a = named (is_path_atom a) a

  -- the part of a triple: what is no candidate is in no edited graph
  abbrev pub triple_part_at : Option ℕ → Part
  triple_part_at None = Fixed false
  triple_part_at (Some t) = literal (atom.Triple t) true

  abbrev pub triple_part : Statement → Part
  triple_part t = triple_part_at (candidate_number s t)

  -- a level as a part
  abbrev pub level_part : Option PathForm → ℕ → ℕ → ℕ → ℕ → Part
  level_part f p k x y = if is_start f k then Fixed (nat_eq x y) else path_part (atom.Level p k x y)

  -- by way of each of these nodes
  abbrev pub middle_parts : ℕ → ℕ → ℕ → ℕ → List ℕ → List Part
  middle_parts p k x y zs = map (λ z. path_part (atom.Middle p k x z y)) zs

  -- any of these
  abbrev pub reach_list : Option PathForm → ℕ → ℕ → ℕ → List Part
  reach_list (Some (Predicate i)) p x y =
      triple_part (record { subject = node s x; predicate = Iri i; object = node s y }) ∷ []
  reach_list (Some (Inverse q)) p x y = path_part (atom.Reach q y x) ∷ []
  reach_list (Some (Sequence a b)) p x y = middle_parts p 0 x y (possible s a x)
  reach_list (Some (Alternative qs)) p x y = map (λ q. path_part (atom.Reach q x y)) qs
  reach_list (Some (ZeroOrMore q)) p x y = level_part (Some (ZeroOrMore q)) p (last_level p x) x y ∷ []
  reach_list (Some (OneOrMore q)) p x y = level_part (Some (OneOrMore q)) p (last_level p x) x y ∷ []
  reach_list (Some (ZeroOrOne q)) p x y = Fixed (nat_eq x y) ∷ path_part (atom.Reach q x y) ∷ []
  reach_list None p x y = []

  -- the level k, or so many steps and one more
  abbrev pub next_list : Option PathForm → ℕ → ℕ → ℕ → ℕ → List Part
  next_list f p k x y = level_part f p k x y ∷ middle_parts p k x y (possible s p x)

  -- any of these
  abbrev pub level_list : Option PathForm → ℕ → ℕ → ℕ → ℕ → List Part
  level_list (Some (ZeroOrMore q)) p (suc k) x y = next_list (Some (ZeroOrMore q)) p k x y
  level_list (Some (OneOrMore q)) p zero x y = path_part (atom.Reach q x y) ∷ []
  level_list (Some (OneOrMore q)) p (suc k) x y = next_list (Some (OneOrMore q)) p k x y
  level_list _ p k x y = []

  -- all of these
  abbrev pub middle_list : Option PathForm → ℕ → ℕ → ℕ → ℕ → ℕ → List Part
  middle_list (Some (Sequence a b)) p k x z y = path_part (atom.Reach a x z) ∷ path_part (atom.Reach b z y) ∷ []
  middle_list (Some (ZeroOrMore q)) p k x z y =
      level_part (Some (ZeroOrMore q)) p k x z ∷ path_part (atom.Reach q z y) ∷ []
  middle_list (Some (OneOrMore q)) p k x z y =
      level_part (Some (OneOrMore q)) p k x z ∷ path_part (atom.Reach q z y) ∷ []
  middle_list _ p k x z y = []

  -- the parts of an atom of a path
  abbrev pub parts_by : Atom → Parts
  parts_by (atom.Reach p x y) = record { every = false; list = reach_list (form_at p) p x y }
  parts_by (atom.Level p k x y) = record { every = false; list = level_list (form_at p) p k x y }
  parts_by (atom.Middle p k x z y) = record { every = true; list = middle_list (form_at p) p k x z y }
  parts_by _ = record { every = false; list = [] }

  -- the parts of an atom, if it is one of a path
  abbrev pub path_parts : Atom → Option Parts
  path_parts a = if is_path_atom a then Some (parts_by a) else None
