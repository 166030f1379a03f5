use Rattle.std.proofs.Common.{◌≡◌, ◌++◌, List, [], false, length, not, sym, ap, ◌∙◌, append-nil}
use Rattle.std.specs.List.{cons_option}
use Rattle.rdf_terms.specs.Graph.{triples}
use Rattle.rdf_terms.specs.Statement.{Statement}
use Rattle.rdf_navigation.specs.Values.{among}
use Rattle.rdf_navigation.proofs.PropertyLaws.{none_of}
use Rattle.atom_parts.specs.CandidateLists.{number_there}
use Rattle.atom_parts.specs.PartsTable.{triple_parts}
use Rattle.atom_parts.proofs.SubjectRows.{rows_start, rows_end, open_next}
use Rattle.atom_parts.proofs.candidate_lists.push_open.Goals as goal
use Rattle.atom_parts.proofs.candidate_lists.push_open.Goals.{in-Some+in_ok-push_triple, in_default}

pub places-init : goal.places-init
places-init c =
    sym (append-nil c.args.list.now)
    ∙ ap (λ us. c.args.list.now ++ triple_parts us false) (rows_start (triples c.args.graph.now) c.args.subject.now c.places_of-first.result.0 c.places_of-first.result.1 c.places_of-first.ensures (length c.args.before.now) (λ t. not (among c.args.allowed.now t.predicate)))

pub places-preserved : goal.places-preserved
places-preserved c =
    let n = length c.args.before.now in
    let i = c.places.place in
    let more = λ (t : Statement). not (among c.args.allowed.now t.predicate) in
    let f = λ (us : List Statement). number_there us more n i in
    let read = c.open_number.ensures ∙ ap f c.as_slice-triples.ensures in
    let pushed : c.match-open_number.list ≡ c.places.list ++ triple_parts (cons_option (number_there (triples c.args.graph.now) (λ (t : Statement). not (among c.args.allowed.now t.predicate)) (length c.args.before.now) c.places.place) []) false = elim c.match-open_number.branch [
      | in-Some+in_ok-push_triple w ↦
          w.list-is ∙ (w.in_ok-push_triple.ensures ∙ ap (λ o. c.places.list ++ triple_parts (cons_option o []) false) (sym (sym read ∙ w.in-Some.is)))
      | in_default w ↦
          w.list-is ∙ (sym (append-nil c.places.list) ∙ ap (λ o. c.places.list ++ triple_parts (cons_option o []) false) (sym (sym read ∙ none_of c.open_number.result w.in_default.not-Some)))
    ] in
    pushed ∙ open_next (triples c.args.graph.now) c.args.subject.now c.places_of-first.result.0 c.places_of-first.result.1 c.places_of-first.ensures n more i false c.args.list.now c.places.list c.places.auto.place c.places-test.true c.places.invariant

pub returns : goal.returns
returns c =
    c.places.invariant
    ∙ ap (λ us. c.args.list.now ++ triple_parts us false) (rows_end (triples c.args.graph.now) c.args.subject.now c.places_of-first.result.0 c.places_of-first.result.1 c.places_of-first.ensures (length c.args.before.now) (λ t. not (among c.args.allowed.now t.predicate)) c.places.place c.places-test.false)
