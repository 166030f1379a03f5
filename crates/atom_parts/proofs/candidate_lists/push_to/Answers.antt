use Rattle.std.proofs.Common.{◌≡◌, ◌++◌, [], true, length, Some, None, get_or, sym, ap, ◌∙◌, append-nil, take_all}
use Rattle.std.specs.Prelude.{filter_map}
use Rattle.std.specs.List.{cons_option}
use Rattle.rdf_terms.specs.declared.term.Term.TheVariants.{Iri}
use Rattle.rdf_terms.specs.Graph.{triples}
use Rattle.rdf_navigation.specs.Values.{same_term}
use Rattle.rdf_navigation.proofs.PropertyLaws.{none_of}
use Rattle.atom_parts.specs.CandidateLists.{number_there}
use Rattle.atom_parts.specs.PartsTable.{triple_parts}
use Rattle.atom_parts.proofs.PlaceRows.{object_rows, parts_next}
use Rattle.atom_parts.proofs.candidate_lists.push_to.Goals as goal
use Rattle.atom_parts.proofs.candidate_lists.push_to.Goals.{in-Some+in_ok-push_triple, in_default}

pub places-preserved : goal.places-preserved
places-preserved c =
    let ts = c.as_slice-triples.result.now in
    let q = Iri c.args.predicate.now in
    let n = length c.args.before.now in
    let ps = c.places_of_object-place-items.result.now in
    let k = c.places.place-index in
    let x = get_or ps k 0 in
    let f = number_there ts (λ t. same_term t.predicate q) n in
    let pushed : c.match-number_with.list ≡ c.places.list ++ triple_parts (cons_option (f x) []) true = elim c.match-number_with.branch [
      | in-Some+in_ok-push_triple w ↦
          let found : f x ≡ Some w.in-Some.t = sym c.number_with.ensures ∙ w.in-Some.is in
          w.list-is ∙ (w.in_ok-push_triple.ensures ∙ ap (λ o. c.places.list ++ triple_parts (cons_option o []) true) (sym found))
      | in_default w ↦
          let missing : f x ≡ None = sym c.number_with.ensures ∙ none_of c.number_with.result w.in_default.not-Some in
          w.list-is ∙ (sym (append-nil c.places.list) ∙ ap (λ o. c.places.list ++ triple_parts (cons_option o []) true) (sym missing))
    ] in
    pushed ∙ parts_next f ps k 0 true c.args.list.now c.places.list c.places-test.true c.places.invariant

pub returns : goal.returns
returns c =
    let g = c.args.graph.now in
    let q = Iri c.args.predicate.now in
    let n = length c.args.before.now in
    let ps = c.places_of_object-place-items.result.now in
    c.places.invariant
    ∙ (ap (λ qs. c.args.list.now ++ triple_parts (filter_map (number_there c.as_slice-triples.result.now (λ t. same_term t.predicate q) n) qs) true) (take_all c.places.place-index ps c.places-test.false)
    ∙ (ap (λ us. c.args.list.now ++ triple_parts (filter_map (number_there us (λ t. same_term t.predicate q) n) ps) true) c.as_slice-triples.ensures
    ∙ ap (λ us. c.args.list.now ++ triple_parts us true) (object_rows (triples g) c.args.object.now q n ps c.places_of_object-place-items.ensures)))
