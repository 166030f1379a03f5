use Rattle.std.proofs.Common.{◌≡◌, ◌+◌, ℕ, List, ◌++◌, None, length}
use Rattle.ntriples_io.specs.Feeding.{progress_of, HasRead}
use Rattle.ntriples_io.proofs.so_far.LinesSoFar.take.Given as goal

abbrev pub invariant-lines : goal.invariant-lines
invariant-lines l = record {
  front : List ℕ;
  parts : l.piece ≡ front ++ l.bytes;
  read : (so_far : List ℕ) → HasRead (progress_of l.fn.self) so_far → HasRead (progress_of l.self) (so_far ++ front);
  open_yet : l.self.refusal ≡ None;
  scope : l.self.scope ≡ l.fn.self.scope;
  count : l.self.taken + length l.bytes ≡ l.fn.self.taken + length l.piece;
}

abbrev pub decreases-lines : goal.decreases-lines
decreases-lines l = length l.bytes
