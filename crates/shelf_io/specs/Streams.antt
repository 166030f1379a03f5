-- What a sink over a writer of std keeps.
use Rattle.std.specs.Prelude.{ℕ}

-- the writer, and how many writes have failed
pub record Stream (W : Type 0) : Type 0 where
  pub writer : W
  pub faults : ℕ

-- a writer to which nothing was written
abbrev pub unwritten : {W : Type 0} → W → Stream W
unwritten writer = record { writer = writer; faults = 0 }
