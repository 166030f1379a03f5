-- The truth of parts by that of atoms, and counters.
pub mod Counts
pub mod PartTruth
