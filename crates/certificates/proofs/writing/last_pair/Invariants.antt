use Rattle.std.proofs.Common.{◌≡◌, None, take}
use Rattle.std.specs.Option.{option_copied}
use Rattle.certificates.specs.Writing.{pair_behind}
use Rattle.certificates.proofs.writing.last_pair.Given as goal

abbrev pub invariant-lines : goal.invariant-lines
invariant-lines l = option_copied l.last ≡ pair_behind None (take l.line-index l.lines)
