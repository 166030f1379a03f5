use Rattle.rdf_navigation.proofs.PropertyLaws.{from_three}
use Rattle.shapes_profile.proofs.RankLaws.{ranks_right}
use Rattle.shapes_profile.proofs.ranks.ranks.Goals as goal

pub returns : goal.returns
returns c =
    from_three c.depths.result _ _ _ (λ v size value any. ranks_right c.args.shapes.now c.args.references.now c.requires.len c.requires.numbered v.items size value) c.depths.ensures.length c.depths.ensures.value c.depths.ensures.any
