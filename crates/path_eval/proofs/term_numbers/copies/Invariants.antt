use Rattle.std.proofs.Common.{◌≡◌, take}
use Rattle.path_eval.specs.TermNumbers.{terms_in}
use Rattle.path_eval.proofs.term_numbers.copies.Given as goal

abbrev pub invariant-copying : goal.invariant-copying
invariant-copying l = l.copies.items ≡ terms_in (take l.term-index l.terms)
