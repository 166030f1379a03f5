use Rattle.std.proofs.Common.{◌≡◌, ◌++◌, take, flat_map}
use Rattle.std.specs.List.{All}
use Rattle.proof_documents.specs.DocumentText.{line, proof_line_text}
use Rattle.certificates.specs.Writing.{IsLawfulIfWritable}
use Rattle.certificates.proofs.writing.push_proof_lines.Given as goal

abbrev pub invariant-lines : goal.invariant-lines
invariant-lines l = record {
  text : l.out ≡ l.fn.out ++ flat_map (λ x. line (proof_line_text x)) (take l.line-index l.lines);
  lawful : All IsLawfulIfWritable (take l.line-index l.lines);
}
