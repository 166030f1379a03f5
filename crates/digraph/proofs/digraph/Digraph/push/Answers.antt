use Rattle.std.proofs.Common.{◌++◌, ◌∷◌, [], Some, sym, ap, ◌∙◌}
use Rattle.std.specs.Option.{option_copied}
use Rattle.std.proofs.lemmas.Result.{err_from_is_err_and}
use Rattle.digraph.specs.Spans.{graph_of}
use Rattle.digraph.proofs.SpanLaws.{graph_of-more, graph_of-push}
use Rattle.digraph.proofs.digraph.Digraph.push.Goals as goal

pub returns-in_err-push-in-Some-clause-err : goal.returns-in_err-push-in-Some-clause-err
returns-in_err-push-in-Some-clause-err c =
    let p = err_from_is_err_and c.from_residual-in_err-push-in-Some.result c.from_residual-in_err-push-in-Some.ensures.1 in
    rw p.1 (
    ap (graph_of c.append.new.targets.items) c.in_err-push-in-Some.ensures.items
    ∙ ap (λ ts. graph_of ts c.self.inside.spans.items) c.in_ok-span-in-Some.ensures.ok
    ∙ graph_of-more c.self.inside.targets.items c.in-Some.successors.now c.self.inside.spans.items c.self.invariant
    ∙ c.self.view_is)

pub returns-in_ok-push-in-Some-clause-ok : goal.returns-in_ok-push-in-Some-clause-ok
returns-in_ok-push-in-Some-clause-ok c =
    let more = c.in-Some.successors.now in
    let span = c.in_ok-span-in-Some.span in
    let old = c.self.inside in
    let at = c.in_ok-span-in-Some.ensures in
    ap (graph_of c.append.new.targets.items) c.in_ok-push-in-Some.ensures.items
    ∙ ap (λ ts. graph_of ts (old.spans.items ++ Some span ∷ [])) c.in_ok-span-in-Some.ensures.ok
    ∙ graph_of-push old.targets.items more old.spans.items span c.self.invariant at.start at.«end»
    ∙ ap (λ g. g ++ Some more ∷ []) c.self.view_is
    ∙ ap (λ o. c.args.self.now ++ option_copied o ∷ []) (sym c.in-Some.is)
