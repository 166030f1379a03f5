use Rattle.proof_documents.specs.declared.draft.Stage.TheVariants.{Deletes}
use Rattle.proof_documents.specs.Stages.{TakesAdd, TakesAt}
use Rattle.proof_documents.proofs.Takings.{took_other}
use Rattle.proof_documents.proofs.draft.Draft.take_from_adds.Goals as goal

pub returns-in-Err-NoMatch : goal.returns-in-Err-NoMatch
returns-in-Err-NoMatch c =
    took_other c.take_from_deletes.result c.args.self.now c.take_add.new.self c.take_from_deletes.new.self (TakesAdd c.args.self.now c.args.text.now) (λ s. TakesAt Deletes s c.args.text.now) (rw c.in-Err-NoMatch.field-0-is at c.in-Err-NoMatch.ensures) c.take_from_deletes.ensures
