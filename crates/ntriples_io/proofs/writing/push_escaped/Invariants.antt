use Rattle.std.proofs.Common.{◌≡◌, ◌++◌, take, flat_map}
use Rattle.ntriples_io.specs.CanonicalText.{escaped}
use Rattle.ntriples_io.proofs.writing.push_escaped.Given as goal

abbrev pub invariant-bytes : goal.invariant-bytes
invariant-bytes l = l.out ≡ l.fn.out ++ flat_map escaped (take l.byte-index l.text)
