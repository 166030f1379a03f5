-- The tokens of Turtle, what stands between them, and the tokens of a statement.
pub mod Cuts
pub mod Faults
pub mod Filling
pub mod Fronts
pub mod Groups
pub mod Places
pub mod Reading
pub mod States
pub mod Tokens
