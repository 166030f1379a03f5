-- The report of validation results: what contracts say of it.
pub mod Report
