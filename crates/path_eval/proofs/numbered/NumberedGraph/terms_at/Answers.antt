use Rattle.std.proofs.Common.{◌≡◌, ◌<◌, length, get_or, slice_get, Some, sym, ap, ◌∙◌, subst}
use Rattle.rdf_terms.specs.declared.term.Term.{Term}
use Rattle.rdf_terms.specs.Nodes.{terms}
use Rattle.path_eval.specs.Numbered.{Numbered}
use Rattle.path_eval.proofs.Found.{at_place, terms_more}
use Rattle.path_eval.proofs.numbered.NumberedGraph.terms_at.Goals as goal

pub nth_term-requires : goal.nth_term-requires
nth_term-requires c =
    let i = get_or c.args.numbers.now c.numbers.number-index 0 in
    subst (λ (u : Numbered). i < length (terms u.nodes)) (sym c.self.view_is) (c.requires i (at_place c.args.numbers.now c.numbers.number-index 0 c.numbers-test.true))

pub numbers-preserved : goal.numbers-preserved
numbers-preserved c =
    let is = c.args.numbers.now in
    let k = c.numbers.number-index in
    let x = c.nth_term.result.now in
    let place = subst (λ (u : Numbered). slice_get (terms u.nodes) (get_or is k 0) ≡ Some x) c.self.view_is c.nth_term.ensures in
    terms_more c.args.self.now.nodes is k c.numbers.terms c.push.new.self c.in_ok-copy.field-0 c.numbers-test.true c.numbers.invariant c.in_ok-push.ensures.ok (place ∙ ap (λ (y : Term). Some y) (sym c.in_ok-copy.ensures))
