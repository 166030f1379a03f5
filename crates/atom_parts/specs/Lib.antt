-- What atoms come down to.
pub mod CandidateLists
pub mod Fixing
pub mod PartLiterals
pub mod PartsTable
pub mod Sources
pub mod TaggedNodes
pub mod ValueParts
