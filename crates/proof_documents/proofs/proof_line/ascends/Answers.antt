use Rattle.std.proofs.Common.{ltb, rules}
use Rattle.std.proofs.lemmas.List.Sorted.{answers_always}
use Rattle.proof_documents.proofs.Ascending.{ascends_by_pairs}
use Rattle.proof_documents.proofs.proof_line.ascends.Goals as goal

pub returns : goal.returns
returns c = ascends_by_pairs c.args.numbers.now c.is_sorted_by.result (c.is_sorted_by.ensures.cases ltb (answers_always _ _ _ (λ f a r g called. search rules)))
