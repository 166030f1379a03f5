use Rattle.std.proofs.Common.{append_assoc}
use Rattle.document_input.proofs.refusal.ShapesRefusal.text.Goals as goal

pub returns-in_ok-append-in-IllFormed : goal.returns-in_ok-append-in-IllFormed
returns-in_ok-append-in-IllFormed c =
    rw (c.in_ok-append-in-IllFormed.ensures.ok, c.as_bytes.ensures.value, c.in_ok-rule-in-IllFormed.ensures.ok, c.in_ok-text-in-IllFormed.ensures, c.in-IllFormed.is) (simp append_assoc)
