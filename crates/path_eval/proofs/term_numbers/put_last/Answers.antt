use Rattle.std.proofs.Common.{◌<◌, ◌-◌, length, Some, slice_get, sym, ap, ◌∙◌, arith}
use denote.Ref.{Bor}
use Rattle.rdf_terms.specs.declared.term.Term.{Term}
use Rattle.rdf_terms.proofs.Orders.{same_term}
use Rattle.path_eval.specs.TermNumbers.{terms_in}
use Rattle.std.proofs.lemmas.List.{length-map}
use Rattle.path_eval.proofs.RankLaws.{term_stands, terms_push, last_stands}
use Rattle.path_eval.proofs.term_numbers.put_last.Goals as goal

pub returns-then-eq-clause-place : goal.returns-then-eq-clause-place
returns-then-eq-clause-place c =
    let list = c.args.terms.now.items in
    let i = c.len-len.result - 1 in
    let size = c.args.terms.now.ok.0 in
    let l : i < length list = omega (arith, c.if-len-gt0.true, c.len-len.ensures, size) in
    term_stands list i c.index.result.now l c.index.ensures ∙ ap Some (same_term c.index.result.now.now c.args.term.now (sym c.eq.ensures ∙ c.if-eq.true))

pub returns-clause-place : goal.returns-clause-place
returns-clause-place c =
    let list = c.args.terms.now.items in
    let size = c.args.terms.now.ok.0 in
    let m = length-map list (λ (t : Bor Term). t.now) in
    ap (λ us. slice_get (terms_in us) c.len-len.result) c.in_ok-push.ensures.items
    ∙ (ap (λ us. slice_get us c.len-len.result) (terms_push list c.args.term)
    ∙ last_stands (terms_in list) c.args.term.now c.len-len.result (omega (arith, c.len-len.ensures, size, m)))
