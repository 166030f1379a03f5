use Rattle.rdf_terms.specs.Nodes.{terms}
use Rattle.shapes_profile.specs.PathNodes.{path_nodes}
use Rattle.shapes_profile.specs.Profile.{IsPathTooDeep}
use Rattle.shapes_profile.proofs.Firsts.{NoneBelow}
use Rattle.shapes_profile.proofs.deep_paths.first_deep_path.Given as goal

abbrev pub invariant-seeking : goal.invariant-seeking
invariant-seeking l = NoneBelow (IsPathTooDeep l.paths) (terms (path_nodes l.paths)) l.node-index
