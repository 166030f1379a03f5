-- The test of two visits is that of equality.
use Rattle.std.proofs.Common.{◌≡◌, true, rules}
use Rattle.std.specs.Cmp.{IsEquivalence}
use Rattle.path_eval.specs.declared.visits.Visit.{Visit}
use Rattle.path_eval.specs.contracts.visits.VisitPartialEq.TheImpl.{eq-value}

pub same_visit : (x y : Visit) → eq-value.it x y ≡ true → x ≡ y
same_visit x y h = search rules

pub visit_laws : IsEquivalence eq-value.it
visit_laws = search rules
