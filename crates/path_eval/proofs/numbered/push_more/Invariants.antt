use Rattle.std.proofs.Common.{◌≡◌, ◌++◌, take}
use Rattle.path_eval.specs.TermNumbers.{terms_in}
use Rattle.path_eval.proofs.numbered.push_more.Given as goal

abbrev pub invariant-terms : goal.invariant-terms
invariant-terms l = terms_in l.terms.items ≡ terms_in l.fn.terms.items ++ take l.term-index l.more
