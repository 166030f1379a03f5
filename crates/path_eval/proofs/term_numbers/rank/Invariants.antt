use Rattle.path_eval.specs.TermNumbers.{terms_in, places_in}
use Rattle.path_eval.proofs.RankLaws.{IsRanking}
use Rattle.path_eval.proofs.term_numbers.rank.Given as goal

abbrev pub invariant-places : goal.invariant-places
invariant-places l = IsRanking (terms_in l.list) (places_in l.at-items) l.at-index (terms_in l.distinct.items) l.ranks.items
