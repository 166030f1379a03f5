use Rattle.std.proofs.Common.{◌∙◌, ap, subst, All}
use Rattle.rdf_terms.specs.Graph.{triples}
use Rattle.repair_problem.specs.Candidates.{additions, deletions}
use Rattle.certificates.specs.Writing.{IsSpelledIfLawful}
use Rattle.certificates.proofs.Written.{on_ok, on_ok_more}
use Rattle.certificates.proofs.writing.push_pair.Goals as goal

pub returns-clause-added : goal.returns-clause-added
returns-clause-added c =
    let ts = triples (additions c.args.problem.now c.args.pair.now) in
    on_ok c.push_triple_lines-2.result (All IsSpelledIfLawful ts)
    (subst (λ us. All IsSpelledIfLawful us) (c.as_slice.ensures ∙ ap triples c.in_ok-added.ensures) c.in_ok-push_triple_lines.ensures.spelled)

pub returns-clause-deleted : goal.returns-clause-deleted
returns-clause-deleted c =
    let ts = triples (deletions c.args.problem.now c.args.pair.now) in
    on_ok_more c.push_triple_lines-2.result (All IsSpelledIfLawful c.as_slice-2.result.now) (All IsSpelledIfLawful ts) c.push_triple_lines-2.ensures.spelled
    (subst (λ us. All IsSpelledIfLawful us) (c.as_slice-2.ensures ∙ ap triples c.in_ok-deleted.ensures))
