use Rattle.std.proofs.Common.{◌≡◌, take}
use Rattle.path_eval.specs.Numbered.{terms_at, AreNumbers}
use Rattle.path_eval.specs.TermNumbers.{terms_in}
use Rattle.path_eval.proofs.term_numbers.numbers_of.Given as goal

abbrev pub invariant-terms : goal.invariant-terms
invariant-terms l = record {
  same : terms_at l.nodes l.numbers.items ≡ terms_in (take l.place l.list);
  within : AreNumbers l.nodes l.numbers.items;
}
