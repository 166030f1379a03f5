pub mod Clauses
pub mod NumberLaws
