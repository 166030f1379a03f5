use Rattle.std.proofs.Common.{◌≡◌, length, take}
use Rattle.ntriples_io.specs.Text.{pieces_text}
use Rattle.ntriples_io.specs.Feeding.{HasRead}
use Rattle.ntriples_io.proofs.text.read_pieces.Given as goal

abbrev pub invariant-loop-piece : goal.invariant-loop-piece
invariant-loop-piece l = record {
  read : HasRead l.reader (pieces_text (take l.piece-index l.pieces));
  scope : l.reader.scope ≡ l.fn.scope;
  count : l.reader.taken ≡ length (pieces_text (take l.piece-index l.pieces));
}
