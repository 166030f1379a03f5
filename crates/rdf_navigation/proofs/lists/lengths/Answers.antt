use Rattle.std.proofs.Common.{inl, inr}
use Rattle.rdf_navigation.specs.CellKind.{is_cell}
use Rattle.rdf_navigation.proofs.PropertyLaws.{from_three}
use Rattle.rdf_navigation.proofs.TableLaws.{lengths_right}
use Rattle.rdf_navigation.proofs.lists.lengths.Goals as goal

pub rest_digraph-requires : goal.rest_digraph-requires
rest_digraph-requires c = λ x r h. (c.requires r).1 (inl (x, inr h))

pub returns : goal.returns
returns c =
    from_three c.depths.result _ _ _ (λ v len value any. lengths_right (is_cell c.args.kind) c.args.graph.now c.args.nodes.now c.in_ok-digraph.digraph v.items c.in_ok-digraph.ensures.len c.in_ok-digraph.ensures.numbered value any c.requires) c.depths.ensures.length c.depths.ensures.value c.depths.ensures.any
