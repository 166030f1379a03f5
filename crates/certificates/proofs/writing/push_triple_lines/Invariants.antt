use Rattle.std.proofs.Common.{◌≡◌, ◌++◌, take, flat_map}
use Rattle.std.specs.List.{All}
use Rattle.ntriples_io.specs.CanonicalText.{line_text}
use Rattle.certificates.specs.Writing.{IsSpelledIfLawful}
use Rattle.certificates.proofs.writing.push_triple_lines.Given as goal

abbrev pub invariant-triples : goal.invariant-triples
invariant-triples l = record {
  text : l.out ≡ l.fn.out ++ flat_map (λ t. l.prefix ++ line_text t) (take l.triple-index l.triples);
  spelled : All IsSpelledIfLawful (take l.triple-index l.triples);
}
