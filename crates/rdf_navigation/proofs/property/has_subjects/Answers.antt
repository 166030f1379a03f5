use Rattle.std.proofs.Common.{◌≡◌, is_some, slice_get, ap, sym, ◌∙◌}
use Rattle.std.specs.List.{list_any, filter_map}
use Rattle.rdf_terms.specs.declared.term.Term.TheVariants.{Iri}
use Rattle.rdf_navigation.specs.Values.{subject_by, is_any}
use Rattle.rdf_navigation.proofs.Places.{subject_there, subjects_at, any_there}
use Rattle.rdf_navigation.proofs.property.has_subjects.Goals as goal

pub returns : goal.returns
returns c =
    let g = c.args.graph.now in
    let p = Iri c.args.predicate.now in
    let ts = c.as_slice.result.now in
    let ps = c.places_of_object.result.now in
    let found : c.any_has_predicate.result ≡ list_any (λ i. is_some (subject_by p (slice_get ts i))) ps = c.any_has_predicate.ensures in
    found ∙ sym (any_there (subject_there ts p) ps) ∙ ap (λ us. is_any (filter_map (subject_there us p) ps)) c.as_slice.ensures ∙ ap is_any (subjects_at g p c.args.object.now ps c.places_of_object.ensures)
