use Rattle.std.proofs.Common.{◌≡◌, ◌∙◌}
use Rattle.std.proofs.lemmas.Result.{IfOk-weaker}
use Rattle.rdf_terms.specs.Graph.{edited}
use Rattle.repair_problem.specs.Candidates.{edited_by}
use Rattle.repair_problem.proofs.ChangeLaws.{edit_of}
use Rattle.repair_problem.proofs.problem.Problem.edited_by.Goals as goal

pub returns-clause-value : goal.returns-clause-value
returns-clause-value c =
    let is : edited c.self.inside.present c.in_ok-added.added c.in_ok-deleted.deleted ≡ edited_by c.args.self.now c.args.changed.now =
    λ i. edited (c.self.view_is i).present (c.in_ok-added.ensures i) (c.in_ok-deleted.ensures i) in
    IfOk-weaker c.edited.result _ _ (λ g e. e ∙ is) c.edited.ensures.value

pub returns-clause-edit : goal.returns-clause-edit
returns-clause-edit c =
    let is : edited c.self.inside.present c.in_ok-added.added c.in_ok-deleted.deleted ≡ edited_by c.args.self.now c.args.changed.now =
    λ i. edited (c.self.view_is i).present (c.in_ok-added.ensures i) (c.in_ok-deleted.ensures i) in
    IfOk-weaker c.edited.result _ _ (λ g e. edit_of c.args.self.now c.args.changed.now g (e ∙ is)) c.edited.ensures.value
