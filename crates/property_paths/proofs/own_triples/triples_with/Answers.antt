use Rattle.std.proofs.Common.{List, ap, sym, ◌∙◌, ◌-◌, take, drop}
use Rattle.rdf_terms.specs.Statement.{Statement}
use Rattle.property_paths.proofs.PathLaws.{of_subject}
use Rattle.property_paths.proofs.own_triples.triples_with.Goals as goal

pub returns : goal.returns
returns c =
    let first = c.places_of-first.result.0 in
    let after = c.places_of-first.result.1 in
    let are = c.places_of-first.ensures in
    ap (λ (ts : List Statement). take (after - first) (drop first ts)) c.as_slice.ensures
    ∙ sym (of_subject c.args.graph.now c.args.subject.now first after are)
