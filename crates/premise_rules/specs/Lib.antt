-- The clauses of rules, and which proofs are accepted.
pub mod Chains
pub mod Documents
pub mod LiteralSets
pub mod Literals
pub mod PlaceClauses
pub mod Premises
pub mod RuleClauses
