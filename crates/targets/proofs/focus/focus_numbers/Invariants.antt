use Rattle.std.proofs.Common.{take, IsTrue}
use Rattle.rdf_terms.specs.Members.{IsListOf}
use Rattle.rdf_terms.specs.Nodes.{has_term}
use Rattle.shapes_profile.specs.Logic.{SomeOf}
use Rattle.path_eval.specs.Numbered.{terms_at, AreNumbers}
use Rattle.targets.specs.Selection.{IsSelected}
use Rattle.targets.proofs.focus.focus_numbers.Given as goal

abbrev pub invariant-targets : goal.invariant-targets
invariant-targets l = record {
  within : AreNumbers l.graph.nodes l.found.items;
  exact : IsListOf (λ x. IsTrue (has_term l.graph.nodes x) × SomeOf (IsSelected l.graph.graph x) (take l.target-index l.target-items)) (terms_at l.graph.nodes l.found.items);
}
