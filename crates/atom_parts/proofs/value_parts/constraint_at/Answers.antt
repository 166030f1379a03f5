use Rattle.std.proofs.Common.{ℕ, ◌<◌, ◌≤◌, length, ap, ◌∙◌, subst}
use Rattle.rdf_terms.specs.Graph.{Graph, triples}
use Rattle.rdf_terms.proofs.Members.{in_first}
use Rattle.shapes_profile.specs.Shapes.{shape_terms}
use Rattle.shapes_graph.specs.Constraints.{shapes_of_kind}
use Rattle.atom_parts.proofs.ConstraintKinds.{no_constraint}
use Rattle.atom_parts.proofs.Facts.{if_some_more}
use Rattle.atom_parts.proofs.value_parts.constraint_at.Goals as goal

pub returns-then-place-len-clause-shape : goal.returns-then-place-len-clause-shape
returns-then-place-len-clause-shape c =
    if_some_more _ _ c.constraint.result (λ k h. subst (λ (g : Graph). k.now.shape < length (shape_terms g)) c.shapes-shapes.ensures (h k.now.shape (in_first k.now.shape (shapes_of_kind k.now.kind)))) c.constraint.ensures.shapes

pub returns-else-place-len-clause-none : goal.returns-else-place-len-clause-none
returns-else-place-len-clause-none c =
    no_constraint c.args.problem.now.shapes c.args.i (subst (λ (n : ℕ). n ≤ c.args.i) (c.len.ensures ∙ ap (λ (g : Graph). length (triples g)) (c.triples.ensures.graph ∙ c.shapes-shapes.ensures)) c.if-place-len.false)
