use Rattle.std.proofs.Common.{ℕ, Option, Some, ap, sym, ◌∙◌}
use Rattle.std.specs.Prelude.{option_map, option_and_then}
use Rattle.rdf_terms.specs.Statement.{Statement}
use Rattle.rdf_terms.specs.Graph.{Graph}
use Rattle.shapes_profile.specs.declared.properties.Property.{Property}
use Rattle.shapes_graph.specs.declared.constraints.Kind.{Kind}
use Rattle.shapes_graph.specs.declared.constraints.Constraint.{Constraint}
use Rattle.shapes_profile.specs.Shapes.{shape_number}
use Rattle.shapes_graph.specs.Constraints.{kind_of, constraint_of}
use Rattle.shapes_graph.proofs.constraint_triples.constraint_of.Goals as goal

abbrev make : ℕ → Kind → Constraint
make n k = record { shape = n; kind = k }

abbrev by_kind : Graph → Statement → Option Kind → Option Constraint
by_kind s t o = option_map (make (shape_number s t.subject)) o

abbrev by_property : Graph → Statement → Option Property → Option Constraint
by_property s t o = by_kind s t (option_and_then (kind_of s t.subject t.object) o)

pub returns-in-None : goal.returns-in-None
unfolding constraint_of
returns-in-None c =
    let s = c.args.shapes.now in
    let t : Statement = record { subject = c.triple.inside.subject; predicate = c.triple.inside.predicate; object = c.triple.inside.object } in
    ap (by_property s t) c.in-None.ensures ∙ ap (constraint_of s) c.triple.view_is

pub returns-in-Some-2 : goal.returns-in-Some-2
unfolding constraint_of
returns-in-Some-2 c =
    let s = c.args.shapes.now in
    let t : Statement = record { subject = c.triple.inside.subject; predicate = c.triple.inside.predicate; object = c.triple.inside.object } in
    ap (λ (n : ℕ). Some (make n c.in-Some-2.kind)) c.number_of.ensures
    ∙ ap (by_kind s t) (sym c.in-Some-2.is ∙ c.in_ok-kind-in-Some.ensures)
    ∙ ap (by_property s t) c.in-Some.ensures ∙ ap (constraint_of s) c.triple.view_is

pub returns-in-None-2 : goal.returns-in-None-2
unfolding constraint_of
returns-in-None-2 c =
    let s = c.args.shapes.now in
    let t : Statement = record { subject = c.triple.inside.subject; predicate = c.triple.inside.predicate; object = c.triple.inside.object } in
    ap (by_kind s t) (sym c.in-None-2.is ∙ c.in_ok-kind-in-Some.ensures)
    ∙ ap (by_property s t) c.in-Some.ensures ∙ ap (constraint_of s) c.triple.view_is
