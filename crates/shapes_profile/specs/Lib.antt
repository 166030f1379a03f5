-- The profile of shapes graphs: shapes, paths, references, rules and causes. What contracts say of them.
pub mod Causes
pub mod DeclaredNodes
pub mod IllFormed
pub mod Logic
pub mod PathNodes
pub mod Profile
pub mod Properties
pub mod RankTable
pub mod References
pub mod RuleTable
pub mod Shapes
