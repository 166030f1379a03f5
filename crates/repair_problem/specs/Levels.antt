-- Walks of so many steps along a repeated path, and ways over a node between (SHACL 2017, sections 2.3.1.2 and
-- 2.3.1.4 to 2.3.1.6).
use Rattle.std.specs.Prelude.{ℕ, ◌+◌, ◌<◌, ◌≤◌, List, length, Option, Some}
use Rattle.rdf_terms.specs.declared.term.Term.{Term}
use Rattle.digraph.specs.Walk.{IsWalk}
use Rattle.shapes_graph.specs.declared.paths.PathForm.{PathForm}
use Rattle.shapes_graph.specs.declared.paths.PathForm.TheVariants.{Sequence, ZeroOrMore, OneOrMore}

-- R: the relations of the paths that a form names
module _ (R : ℕ → Term → Term → Type 0) where
  -- of zero or more: at most k steps of the inner path; of one or more: at least one and at most k + 1
  abbrev pub LevelBy : Option PathForm → ℕ → Term → Term → Type 0
  LevelBy (Some (ZeroOrMore q)) k x y = (w : List Term) × (length w ≤ k) × IsWalk (R q) w x y
  LevelBy (Some (OneOrMore q)) k x y = (w : List Term) × (0 < length w) × (length w ≤ k + 1) × IsWalk (R q) w x y
  LevelBy _ k x y = ⊥

  -- by way of z: the two members of a sequence, or a level and one step more
  abbrev pub MiddleBy : Option PathForm → ℕ → Term → Term → Term → Type 0
  MiddleBy (Some (Sequence a b)) k x z y = R a x z × R b z y
  MiddleBy (Some (ZeroOrMore q)) k x z y = LevelBy (Some (ZeroOrMore q)) k x z × R q z y
  MiddleBy (Some (OneOrMore q)) k x z y = LevelBy (Some (OneOrMore q)) k x z × R q z y
  MiddleBy _ k x z y = ⊥
