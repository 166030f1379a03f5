-- Sets of literals, kept as a sign for each variable.
pub mod Marked
pub mod Moves
