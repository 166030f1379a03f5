use Rattle.std.proofs.Common.{◌≡◌, ◌++◌, [], true, get_or, sym, ap, ◌∙◌, append-nil}
use Rattle.std.specs.List.{cons_option}
use Rattle.rdf_terms.specs.Statement.{Statement}
use Rattle.rdf_navigation.proofs.PropertyLaws.{none_of}
use Rattle.repair_problem.specs.Candidates.{candidate_number}
use Rattle.atom_parts.specs.PartsTable.{triple_parts}
use Rattle.atom_parts.proofs.PlaceRows.{parts_next}
use Rattle.atom_parts.proofs.candidate_lists.push_all.Goals as goal
use Rattle.atom_parts.proofs.candidate_lists.push_all.Goals.{in-Some+in_ok-push_triple, in_default}

pub triples-preserved : goal.triples-preserved
triples-preserved c =
    let f = candidate_number c.args.problem.now in
    let ts = c.args.triples.now in
    let k = c.triples.triple-index in
    let t = c.triple-item.result in
    let read = c.candidate_of.ensures.value ∙ ap (λ (u : Statement). candidate_number c.args.problem.now u) c.triple-item.is in
    let pushed : c.match-candidate_of.list ≡ c.triples.list ++ triple_parts (cons_option (candidate_number c.args.problem.now (get_or c.args.triples.now c.triples.triple-index c.triple-item.result)) []) true = elim c.match-candidate_of.branch [
      | in-Some+in_ok-push_triple w ↦
          w.list-is ∙ (w.in_ok-push_triple.ensures ∙ ap (λ o. c.triples.list ++ triple_parts (cons_option o []) true) (sym (sym read ∙ w.in-Some.is)))
      | in_default w ↦
          w.list-is ∙ (sym (append-nil c.triples.list) ∙ ap (λ o. c.triples.list ++ triple_parts (cons_option o []) true) (sym (sym read ∙ none_of c.candidate_of.result w.in_default.not-Some)))
    ] in
    pushed ∙ parts_next f ts k t true c.args.list.now c.triples.list c.triples-test.true c.triples.invariant
