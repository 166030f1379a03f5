use Rattle.std.proofs.Common.{◌≡◌, ◌++◌, ◌+◌, take, get_or, Some, None, [], ◌∷◌, sym, ap, ◌∙◌, append_assoc, append-nil, take_all}
use Rattle.std.specs.List.{filter_map, cons_option}
use Rattle.rdf_terms.specs.declared.term.Term.TheVariants.{Iri}
use Rattle.std.specs.Option.{option_copied}
use Rattle.rdf_navigation.proofs.Places.{subject_there, subjects_at}
use Rattle.rdf_navigation.proofs.PropertyLaws.{filter_map_next, none_of}
use Rattle.rdf_navigation.proofs.property.push_subjects.Goals as goal
use Rattle.rdf_navigation.proofs.property.push_subjects.Goals.{in-Some+in_ok-copy+in_ok-push, in_default}

pub places-preserved : goal.places-preserved
places-preserved c =
    let ts = c.as_slice-triples.result.now in
    let p = Iri c.args.predicate.now in
    let ps = c.places_of_object-place-items.result.now in
    let k = c.places.place-index in
    let f = subject_there ts p in
    let x = get_or ps k 0 in
    let next : filter_map f (take (k + 1) ps) ≡ filter_map f (take k ps) ++ cons_option (f x) [] = filter_map_next f ps k 0 c.places-test.true in
    let pushed : c.match-subject_at.terms ≡ c.places.terms ++ cons_option (f x) [] = elim c.match-subject_at.branch [
      | in-Some+in_ok-copy+in_ok-push w ↦
          let found : f x ≡ Some w.in-Some.subject.now = sym c.subject_at.ensures ∙ ap option_copied w.in-Some.is in
          w.terms-is ∙ w.in_ok-push.ensures.ok ∙ ap (λ t. c.places.terms ++ t ∷ []) w.in_ok-copy.ensures ∙ ap (λ o. c.places.terms ++ cons_option o []) (sym found)
      | in_default w ↦
          let missing : f x ≡ None = sym c.subject_at.ensures ∙ ap option_copied (none_of c.subject_at.result w.in_default.not-Some) in
          w.terms-is ∙ sym (append-nil c.places.terms) ∙ ap (λ o. c.places.terms ++ cons_option o []) (sym missing)
    ] in
    pushed ∙ ap (λ us. us ++ cons_option (f x) []) c.places.invariant ∙ append_assoc c.args.terms.now (filter_map f (take k ps)) (cons_option (f x) []) ∙ ap (λ us. c.args.terms.now ++ us) (sym next)

pub returns : goal.returns
returns c =
    let g = c.args.graph.now in
    let p = Iri c.args.predicate.now in
    let ps = c.places_of_object-place-items.result.now in
    c.places.invariant
    ∙ ap (λ qs. c.args.terms.now ++ filter_map (subject_there c.as_slice-triples.result.now p) qs) (take_all c.places.place-index ps c.places-test.false)
    ∙ ap (λ us. c.args.terms.now ++ filter_map (subject_there us p) ps) c.as_slice-triples.ensures
    ∙ ap (λ us. c.args.terms.now ++ us) (subjects_at g p c.args.object.now ps c.places_of_object-place-items.ensures)
