use Rattle.proof_documents.specs.declared.draft.Stage.TheVariants.{Proved}
use Rattle.proof_documents.specs.Stages.{TakesDelete, TakesAt}
use Rattle.proof_documents.proofs.Takings.{took_other}
use Rattle.proof_documents.proofs.draft.Draft.take_from_deletes.Goals as goal

pub returns-in-Err-NoMatch : goal.returns-in-Err-NoMatch
returns-in-Err-NoMatch c =
    took_other c.take_from_proof.result c.args.self.now c.take_delete.new.self c.take_from_proof.new.self (TakesDelete c.args.self.now c.args.text.now) (λ s. TakesAt Proved s c.args.text.now) (rw c.in-Err-NoMatch.field-0-is at c.in-Err-NoMatch.ensures) c.take_from_proof.ensures
