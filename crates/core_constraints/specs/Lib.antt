-- Conformance and validation results: what contracts say of them.
pub mod Decisions
pub mod Findings
pub mod FrameRows
pub mod Levels
pub mod NumberLists
pub mod RowLists
pub mod Rows
pub mod Tests
pub mod Validations
