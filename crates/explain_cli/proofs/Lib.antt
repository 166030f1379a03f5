pub mod Answers
pub mod Endings
pub mod Explained
pub mod NamedAtoms
pub mod Ready
pub mod StatusCauses
