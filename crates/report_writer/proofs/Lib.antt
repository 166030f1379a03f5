pub mod Labels
pub mod Reports
