use Rattle.std.proofs.Common.{◌≡◌, take}
use Rattle.path_eval.specs.Numbered.{terms_at}
use Rattle.path_eval.proofs.numbered.NumberedGraph.terms_at.Given as goal

abbrev pub invariant-numbers : goal.invariant-numbers
invariant-numbers l = l.terms ≡ terms_at l.self.nodes (take l.number-index l.numbers)
