pub mod Exactness
pub mod Loops
pub mod NameEnds
