-- Paths, targets, constraints, conformance and results: what contracts say of them.
pub mod Conformance
pub mod Constraints
pub mod Forms
pub mod NodeTests
pub mod OrderLiterals
pub mod PathForms
pub mod Reach
pub mod Results
pub mod ShapeTables
pub mod Targets
