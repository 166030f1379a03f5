use Rattle.std.proofs.Common.{ℕ, ◌∙◌}
use Rattle.repair_problem.specs.declared.atom.Atom.TheVariants as atom
use Rattle.repair_problem.specs.declared.atom.Part.{Part}
use Rattle.repair_problem.specs.Setting.{Setting}
use Rattle.path_levels.specs.PathParts.{path_part}
use Rattle.path_levels.proofs.PushLaws.{pushed_more, pushed_all}
use Rattle.path_levels.proofs.parts.push_middles.Goals as goal

pub pushing-preserved : goal.pushing-preserved
pushing-preserved c =
    let F : Setting → ℕ → Part = λ s z. path_part s (atom.Middle c.args.p c.args.k c.args.x z c.args.y) in (
      c.middle_part.ensures.same ∙ c.pushing.invariant.0,
      pushed_more F c.args.nodes.now c.pushing.nodes c.args.list.now c.pushing.list c.args.between.now c.pushing.z-index c.push.new.self c.in_ok-part.part c.pushing.invariant.0 c.pushing.invariant.1 c.in_ok-part.ensures.value c.in_ok-push.ensures.ok c.pushing-test.true,
    )

pub returns-clause-value : goal.returns-clause-value
returns-clause-value c =
    let F : Setting → ℕ → Part = λ s z. path_part s (atom.Middle c.args.p c.args.k c.args.x z c.args.y) in
    pushed_all F c.args.nodes.now c.pushing.nodes c.args.list.now c.pushing.list c.args.between.now c.pushing.z-index c.pushing.invariant.1 c.pushing-test.false
