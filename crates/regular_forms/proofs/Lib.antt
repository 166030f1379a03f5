pub mod Alphabets
pub mod Derivatives
pub mod Listed
pub mod Loops
pub mod Machines
