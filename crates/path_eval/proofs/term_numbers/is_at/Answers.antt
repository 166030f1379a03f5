use Rattle.std.proofs.Common.{Some, sym, ap, ◌∙◌}
use Rattle.rdf_terms.proofs.Orders.{same_term}
use Rattle.path_eval.proofs.term_numbers.is_at.Goals as goal

pub returns-then-number-len : goal.returns-then-number-len
returns-then-number-len c = λ h. c.nth_term.ensures ∙ ap Some (same_term c.nth_term.result.now c.args.term.now (sym c.eq.ensures ∙ h))
