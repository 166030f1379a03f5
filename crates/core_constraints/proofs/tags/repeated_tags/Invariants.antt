use Rattle.std.proofs.Common.{map}
use Rattle.core_constraints.proofs.TagLaws.{AreRepeated}
use Rattle.core_constraints.proofs.tags.repeated_tags.Given as goal

abbrev pub invariant-places : goal.invariant-places
invariant-places l = AreRepeated (map (λ t. t.now) l.tags.items) l.place (map (λ t. t.now) l.repeated.items)
