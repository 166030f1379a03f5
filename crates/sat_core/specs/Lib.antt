-- Solving sets of clauses: what contracts say of it.
pub mod Assignments
pub mod Kept
pub mod Passed
pub mod Scanned
pub mod Solving
pub mod Trail
pub mod Walked
