-- What a repair problem is, which pairs of additions and deletions explain and which of them are minimal, and what
-- atoms mean in an edited graph.
pub mod Candidates
pub mod Changes
pub mod ConstraintFacts
pub mod Kept
pub mod Levels
pub mod Meaning
pub mod PartMeaning
pub mod Repair
pub mod Setting
