use Rattle.std.proofs.Common.{◌≡◌, ℕ, ◌+◌, ◌<◌, List, ◌++◌, [], Option, length, get_or, take, sym, ap, ◌∙◌, append_assoc, append-nil}
use Rattle.std.specs.Prelude.{filter_map}
use Rattle.std.specs.List.{cons_option}
use Rattle.rdf_terms.specs.Statement.{Statement}
use Rattle.rdf_terms.specs.Nodes.{Nodes, terms}
use Rattle.rdf_navigation.proofs.PropertyLaws.{none_of, filter_map_next}
use Rattle.atom_parts.specs.ValueParts.{place_among_terms, node_number}
use Rattle.atom_parts.proofs.Reached.{place_of_look_up}
use Rattle.atom_parts.proofs.candidate_lists.push_objects.Goals as goal
use Rattle.atom_parts.proofs.candidate_lists.push_objects.Goals.{in-Some+in_ok-push, in_default}

-- one item more
numbers_next : {X : Type 0} (f : X → Option ℕ) (xs : List X) (k : ℕ) (d : X) (old list : List ℕ) → k < length xs → list ≡ old ++ filter_map f (take k xs)
    → list ++ cons_option (f (get_or xs k d)) [] ≡ old ++ filter_map f (take (k + 1) xs)
numbers_next f xs k d old list l e =
    ap (λ us. us ++ cons_option (f (get_or xs k d)) []) e
    ∙ (append_assoc old (filter_map f (take k xs)) (cons_option (f (get_or xs k d)) [])
    ∙ ap (λ us. old ++ us) (sym (filter_map_next f xs k d l)))

pub triples-preserved : goal.triples-preserved
triples-preserved c =
    let ts = c.args.triples.now in
    let k = c.triples.triple-index in
    let t = c.triple-item.result in
    let looked = place_of_look_up c.nodes-nodes.result.now c.triple.inside.object c.index_of_term.result c.index_of_term.ensures.some c.index_of_term.ensures.none in
    let read =
    looked ∙ (ap (λ (n : Nodes). place_among_terms (terms n) c.triple.inside.object) c.nodes-nodes.ensures
    ∙ ap (λ (u : Statement). node_number c.args.problem.now u.object) (c.triple.view_is ∙ c.triple-item.is)) in
    let pushed : c.match-index_of_term.numbers.items ≡ c.triples.numbers.items ++ cons_option (node_number c.args.problem.now (get_or c.args.triples.now c.triples.triple-index c.triple-item.result).object) [] = elim c.match-index_of_term.branch [
      | in-Some+in_ok-push w ↦
          (λ j. (w.numbers-is j).items) ∙ (w.in_ok-push.ensures.items ∙ ap (λ o. c.triples.numbers.items ++ cons_option o []) (sym (sym read ∙ w.in-Some.is)))
      | in_default w ↦
          (λ j. (w.numbers-is j).items) ∙ (sym (append-nil c.triples.numbers.items) ∙ ap (λ o. c.triples.numbers.items ++ cons_option o []) (sym (sym read ∙ none_of c.index_of_term.result w.in_default.not-Some)))
    ] in
    pushed ∙ numbers_next (λ (u : Statement). node_number c.args.problem.now u.object) ts k t c.args.numbers.now.items c.triples.numbers.items c.triples-test.true c.triples.invariant
