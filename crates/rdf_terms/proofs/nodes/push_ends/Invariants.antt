use Rattle.std.proofs.Common.{◌≡◌, ◌++◌, take}
use Rattle.rdf_terms.specs.Nodes.{ends}
use Rattle.rdf_terms.proofs.nodes.push_ends.Given as goal

abbrev pub invariant-pushing : goal.invariant-pushing
invariant-pushing l = l.terms ≡ l.fn.terms ++ ends (take l.triple-index l.triple-items)
