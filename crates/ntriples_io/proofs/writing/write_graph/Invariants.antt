use Rattle.std.proofs.Common.{◌≡◌, take, flat_map}
use Rattle.std.specs.List.{All}
use Rattle.ntriples_io.specs.CanonicalText.{line_text}
use Rattle.ntriples_io.specs.RoundTrip.{IsTriple}
use Rattle.ntriples_io.proofs.writing.write_graph.Given as goal

abbrev pub invariant-lines : goal.invariant-lines
invariant-lines l = (l.out ≡ flat_map line_text (take l.triple-index l.triple-items)) × All IsTriple (take l.triple-index l.triple-items)
