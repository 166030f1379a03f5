-- The path to classes leads from a node to exactly those that it is an instance of.
use Rattle.std.proofs.Common.{◌↔◌, ℕ, suc, ◌++◌, List}
use Rattle.rdf_terms.specs.declared.term.Term.{Term}
use Rattle.rdf_terms.specs.Graph.{Graph}
use Rattle.rdf_navigation.specs.Instances.{IsInstance}
use Rattle.shapes_graph.specs.declared.paths.PathForm.{PathForm}
use Rattle.shapes_graph.specs.PathForms.{class_paths, paths, instance_path}
use Rattle.shapes_graph.specs.Reach.{ReachIn, path_levels}

above : (f : ℕ) (ps : List PathForm) (g : Graph) (x c : Term) → ReachIn (suc (suc (suc (suc f)))) (class_paths ++ ps) g instance_path x c ↔ IsInstance g x c
unfolding class_paths ReachIn
above f ps g x c = (λ h. h, λ h. h)

pub instance_is : (s g : Graph) (x c : Term) → ReachIn path_levels (paths s) g instance_path x c ↔ IsInstance g x c
unfolding paths
instance_is s g x c = above 29 _ g x c
